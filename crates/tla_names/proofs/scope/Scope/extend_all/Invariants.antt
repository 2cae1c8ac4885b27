use Rattle.std.proofs.Common.{◌≡◌, ◌++◌, length}
use Rattle.tla_config.specs.Names.{words}
use Rattle.tla_names.specs.Scope.{extended}
use Rattle.tla_names.proofs.scope.Scope.extend_all.Given as goal

abbrev pub invariant-loop-left : goal.invariant-loop-left
invariant-loop-left l = l.fn.self ++ extended (words l.modules) ≡ l.self ++ extended (words l.left)

abbrev pub decreases-loop-left : goal.decreases-loop-left
decreases-loop-left l = length l.left
