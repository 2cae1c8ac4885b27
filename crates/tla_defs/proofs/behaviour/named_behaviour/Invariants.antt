use Rattle.std.proofs.Common.{◌≡◌, length, map, None}
use Rattle.tla_config.specs.View.{statement_view}
use Rattle.tla_names.specs.Mentions.{found}
use Rattle.tla_defs.specs.Refused.{behaviour}
use Rattle.tla_defs.proofs.behaviour.named_behaviour.Given as goal

abbrev pub invariant-loop-left : goal.invariant-loop-left
invariant-loop-left l =
    behaviour l.config.statements l.config.end None None ≡ behaviour (map statement_view l.left) l.config.end (found l.init) (found l.step)

abbrev pub decreases-loop-left : goal.decreases-loop-left
decreases-loop-left l = length l.left
