use Rattle.std.proofs.Common.{sym, subst, Option, Vec, Global, ℕ, IfSome}
use Rattle.tla_sharing.specs.Outside.{HasNames}
use Rattle.tla_quick.specs.Private.Kept.{scope_with}
use Rattle.tla_quick.proofs.KeptParts.{outside_found}
use Rattle.tla_quick.proofs.constants.outside_of.Goals as goal

pub returns : goal.returns
returns c =
    subst (λ (o : Option (Vec ℕ Global)). IfSome o (λ v. HasNames (scope_with c.args.constants.now) v.items)) (sym c.ok.ensures.value)
    (outside_found c.args.constants.now c.vec.result (λ y h. h) c.vec.ensures.items_if_clones_equal)
