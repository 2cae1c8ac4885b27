use Rattle.std.proofs.Common.{◌≡◌, drop}
use Rattle.std.specs.List.{list_all}
use Rattle.tla_value.specs.Funs.{arguments}
use Rattle.tla_value.specs.Sets.{is_member}
use Rattle.tla_quick.specs.Private.Names.{names_in}
use Rattle.tla_quick.proofs.names.has_fields.Given as goal

abbrev pub invariant-loop-field : goal.invariant-loop-field
invariant-loop-field l =
    list_all (λ k. is_member k (arguments l.function)) (names_in l.fields)
    ≡ list_all (λ k. is_member k (arguments l.function)) (names_in (drop l.field-index l.fields))
