use Rattle.std.proofs.Common.{◌≡◌, ◌++◌, length}
use Rattle.tla_config.specs.Names.{words}
use Rattle.tla_names.specs.Scope.{plain}
use Rattle.tla_names.proofs.scope.Scope.push_all.Given as goal

abbrev pub invariant-loop-left : goal.invariant-loop-left
invariant-loop-left l = l.fn.self ++ plain (words l.names) ≡ l.self ++ plain (words l.left)

abbrev pub decreases-loop-left : goal.decreases-loop-left
decreases-loop-left l = length l.left
