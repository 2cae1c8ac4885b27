use Rattle.std.proofs.Common.{ap}
use Rattle.tla_value.specs.TreeOf.{tree_of}
use Rattle.tla_quick.proofs.group.answer_of.Goals as goal

pub returns-in-Truth : goal.returns-in-Truth
returns-in-Truth c = (c.in-Truth.field-0, ap tree_of c.in-Truth.is)
