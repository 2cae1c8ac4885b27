use Rattle.std.proofs.Common.{◌≡◌, take, map}
use Rattle.tla_value.proofs.choice.each_of.Given as goal

abbrev pub invariant-loop-set : goal.invariant-loop-set
invariant-loop-set l = map (λ s. s.now) l.parts.items ≡ take l.set-index l.sets
