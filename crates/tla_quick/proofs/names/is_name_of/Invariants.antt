use Rattle.std.proofs.Common.{◌≡◌, drop}
use Rattle.tla_value.specs.Tree.{text}
use Rattle.tla_value.specs.Sets.{is_member}
use Rattle.tla_quick.specs.Private.Names.{names_in}
use Rattle.tla_quick.proofs.names.is_name_of.Given as goal

abbrev pub invariant-loop-field : goal.invariant-loop-field
invariant-loop-field l = is_member (text l.name) (names_in l.fields) ≡ is_member (text l.name) (names_in (drop l.field-index l.fields))
