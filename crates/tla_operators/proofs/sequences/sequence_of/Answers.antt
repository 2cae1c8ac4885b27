use Rattle.std.proofs.Common.{map}
use Rattle.tla_value.specs.TreeOf.{tree_of}
use Rattle.tla_value.specs.Choices.{numbered}
use Rattle.tla_operators.proofs.sequences.sequence_of.Goals as goal

pub returns : goal.returns
returns c = c.made_fun.ensures (numbered 1 (map tree_of c.args.values.items)) c.sequence.ensures
