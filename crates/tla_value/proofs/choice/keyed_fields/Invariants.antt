use Rattle.std.proofs.Common.{◌≡◌, take, map}
use Rattle.tla_value.specs.Private.Inner.{keyed, field_of}
use Rattle.tla_value.proofs.choice.keyed_fields.Given as goal

abbrev pub invariant-loop-field : goal.invariant-loop-field
invariant-loop-field l = map (field_of (λ s. s.now)) l.pairs.items ≡ keyed (take l.field-index l.fields)
