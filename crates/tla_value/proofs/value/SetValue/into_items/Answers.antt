use Rattle.tla_value.specs.Tree.{members-trees}
use Rattle.tla_value.proofs.value.SetValue.into_items.Goals as goal

pub returns-in-Ok-clause-value : goal.returns-in-Ok-clause-value
returns-in-Ok-clause-value c = rw (members-trees, ← c.self.view_is) (c.self.invariant.shape.values, c.self.invariant.shape.list)

pub returns-in-Err-clause-value : goal.returns-in-Err-clause-value
returns-in-Err-clause-value c = rw (members-trees, ← c.self.view_is) (c.self.invariant.shape.values, c.self.invariant.shape.list)
