use Rattle.std.proofs.Common.{◌+◌, ◌*◌}
use Rattle.tla_scopes.proofs.projections.+reach.Given as goal

abbrev pub decreases-reach_in_let : goal.decreases-reach_in_let
decreases-reach_in_let l = 3 * l.depth_left

abbrev pub decreases-reach_in_operator : goal.decreases-reach_in_operator
decreases-reach_in_operator l = 3 * l.depth_left + 1

abbrev pub decreases-definition_summary : goal.decreases-definition_summary
decreases-definition_summary l = 3 * l.depth_left + 2
