use Rattle.std.proofs.Common.{◌≡◌, ◌∙◌, true, sym}
use Rattle.tla_value.specs.TreeOf.{tree_of}
use Rattle.tla_value.specs.ValueOrder.{value_eq, tree_of-injective}
use Rattle.tla_value.specs.declared.value.Value.{Value}
use Rattle.tla_value.proofs.TreeTests.{eq-true}
use Rattle.tla_value.proofs.pool.Pool.find.Goals as goal

equal : (v w : Value) → value_eq v w ≡ true → v ≡ w
equal v w e = tree_of-injective v w (eq-true (tree_of v) (tree_of w) e)

pub returns-clause-ok : goal.returns-clause-ok
returns-clause-ok c = c.in_ok-copy.ensures.ok ∙ equal _ _ (sym c.equal.ensures ∙ c.if-not-equal.false)
