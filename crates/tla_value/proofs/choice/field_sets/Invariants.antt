use Rattle.std.proofs.Common.{◌≡◌, take, map}
use Rattle.tla_value.proofs.choice.field_sets.Given as goal

abbrev pub invariant-loop-field : goal.invariant-loop-field
invariant-loop-field l = map (λ s. s.now) l.sets.items ≡ map (λ f. f.1.now) (take l.field-index l.fields)
