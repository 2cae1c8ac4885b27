-- A model in contracts.
use Rattle.tla_model.specs.ModelTree.{ModelTree}
use Rattle.tla_model.specs.ModelOf.{tree_of_parts}
use Rattle.tla_model.specs.IsSound.{IsSound}
use Rattle.tla_model.specs.declared.model.Model.{Model}

-- the mathematical value of a model
abbrev pub model_of : Model → ModelTree
model_of m = tree_of_parts m.variables.items m.assumptions.items m.init.value m.next.value m.invariants.items m.constraints.items m.check_deadlock

-- every value of the type Model is sound
pub model_is_sound : (m : Model) → IsSound (model_of m)
model_is_sound m = m.sound
