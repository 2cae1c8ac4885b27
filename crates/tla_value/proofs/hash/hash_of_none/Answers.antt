use Rattle.std.proofs.Common.{rules}
use Rattle.tla_value.specs.TreeHash.{word_of}
use Rattle.tla_value.proofs.hash.hash_of_none.Goals as goal

pub returns : goal.returns
unfolding word_of
returns c = search rules
