use Rattle.std.proofs.Common.{◌≡◌, length, map}
use Rattle.tla_config.specs.Private.Keywords.{lookup}
use Rattle.tla_config.proofs.keyword.lookup.Given as goal

abbrev pub invariant-loop-left : goal.invariant-loop-left
invariant-loop-left l = lookup (map (λ e. (e.0.now, e.1)) l.left) l.word ≡ lookup (map (λ e. (e.0.now, e.1)) l.table) l.word

abbrev pub decreases-loop-left : goal.decreases-loop-left
decreases-loop-left l = length l.left
