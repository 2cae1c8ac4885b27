use Rattle.std.proofs.Common.{◌≡◌, drop}
use Rattle.std.specs.List.{list_all}
use Rattle.tla_value.specs.Funs.{arguments}
use Rattle.tla_value.specs.Sets.{is_member}
use Rattle.tla_value.specs.Choices.{keys_of}
use Rattle.tla_core.specs.ExprOf.{fields_of_cores}
use Rattle.tla_sets.proofs.fields.has_fields.Given as goal

abbrev pub invariant-loop-field : goal.invariant-loop-field
invariant-loop-field l =
    list_all (λ k. is_member k (arguments l.function)) (keys_of (fields_of_cores l.fields))
    ≡ list_all (λ k. is_member k (arguments l.function)) (keys_of (fields_of_cores (drop l.field-index l.fields)))
