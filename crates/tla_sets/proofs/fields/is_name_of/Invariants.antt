use Rattle.std.proofs.Common.{◌≡◌, drop}
use Rattle.tla_value.specs.Tree.{text}
use Rattle.tla_value.specs.Sets.{is_member}
use Rattle.tla_value.specs.Choices.{keys_of}
use Rattle.tla_core.specs.ExprOf.{fields_of_cores}
use Rattle.tla_sets.proofs.fields.is_name_of.Given as goal

abbrev pub invariant-loop-field : goal.invariant-loop-field
invariant-loop-field l = is_member (text l.name) (keys_of (fields_of_cores l.fields)) ≡ is_member (text l.name) (keys_of (fields_of_cores (drop l.field-index l.fields)))
