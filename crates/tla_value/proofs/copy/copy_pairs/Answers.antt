use Rattle.std.proofs.Common.{◌≡◌, ◌∙◌, map, subst, IfOk}
use Rattle.tla_value.specs.TreeOf.{pair_of}
use Rattle.tla_value.proofs.Pairs.{same-length, pairs-back}
use Rattle.tla_value.proofs.copy.copy_pairs.Goals as goal

pub copy_zipped-requires : goal.copy_zipped-requires
copy_zipped-requires c = same-length _ _ c.args.of.now (c.items.ensures.items ∙ c.in_ok-domain.ensures.ok) c.values-values.ensures.values

pub returns-clause-ok : goal.returns-clause-ok
returns-clause-ok c =
    subst (λ ps. IfOk c.copy_zipped.result (λ v. map pair_of v.items ≡ ps))
    (pairs-back c.items.result.now c.values-values.result.now c.args.of.now (c.items.ensures.items ∙ c.in_ok-domain.ensures.ok) c.values-values.ensures.values)
    c.copy_zipped.ensures.ok
