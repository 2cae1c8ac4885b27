use Rattle.std.proofs.Common.{◌≡◌, ◌++◌, length, map}
use Rattle.tla_config.specs.View.{statement_view}
use Rattle.tla_defs.specs.Private.Formulas.{mentions}
use Rattle.tla_defs.specs.Model as model
use Rattle.tla_defs.proofs.builder.invariants_named.Given as goal

abbrev pub invariant-loop-left : goal.invariant-loop-left
invariant-loop-left l = model.invariants_named (map statement_view l.statements) ≡ mentions l.names.items ++ model.invariants_named (map statement_view l.left)

abbrev pub decreases-loop-left : goal.decreases-loop-left
decreases-loop-left l = length l.left
