use Rattle.std.proofs.Common.{◌≡◌, ◌++◌, length}
use Rattle.tla_config.specs.Names.{words}
use Rattle.tla_names.specs.Known.{brought}
use Rattle.tla_names.proofs.resolve.bring.Given as goal

abbrev pub invariant-loop-left : goal.invariant-loop-left
invariant-loop-left l = record {
  same : brought l.scope l.fn.new l.names ≡ brought l.scope l.new l.left;
  words_more : l.fn.new ++ words l.names ≡ l.new ++ words l.left;
}

abbrev pub decreases-loop-left : goal.decreases-loop-left
decreases-loop-left l = length l.left
