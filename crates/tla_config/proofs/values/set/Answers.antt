use Rattle.std.proofs.Common.{map}
use Rattle.tla_value.specs.Sets.{set_of}
use Rattle.tla_value.specs.TreeOf.{tree_of}
use Rattle.tla_config.proofs.Members.{set_too_many, set_too_deep}
use Rattle.tla_config.proofs.values.set.Goals as goal

pub returns-in-Err-TooMany-clause-gives : goal.returns-in-Err-TooMany-clause-gives
returns-in-Err-TooMany-clause-gives c = λ text ts x. set_too_many (set_of (map tree_of c.args.values.items)) (rw c.in-Err-TooMany.field-0-is at c.in-Err-TooMany.ensures) x

pub returns-in-Err-TooDeep-clause-gives : goal.returns-in-Err-TooDeep-clause-gives
returns-in-Err-TooDeep-clause-gives c = λ text ts x. set_too_deep (set_of (map tree_of c.args.values.items)) (rw c.in-Err-TooDeep.field-0-is at c.in-Err-TooDeep.ensures).1 x
