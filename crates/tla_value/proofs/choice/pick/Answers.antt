use Rattle.std.proofs.Common.{◌<◌, subst, sym}
use Rattle.tla_value.specs.Tree.{depth}
use Rattle.tla_value.specs.TreeOf.{tree_of}
use Rattle.tla_value.specs.declared.value.Value.{Value}
use Rattle.tla_value.proofs.Ways.{member_shallow, both_shallow}
use Rattle.tla_value.proofs.choice.pick.Goals as goal

pub returns-clause-shallow : goal.returns-clause-shallow
returns-clause-shallow c =
    both_shallow _ _
    (subst (λ (v : Value). depth (tree_of v) < 64) (sym c.in_ok-copy.ensures.ok) c.requires.shallow)
    (subst (λ (v : Value). depth (tree_of v) < 64) (sym c.in_ok-copy-2.ensures.ok)
    (member_shallow c.args.set.now c.items.result.now c.args.at c.index-items-at.result c.items.ensures.items c.items.ensures.value c.requires.at c.index-items-at.is))
