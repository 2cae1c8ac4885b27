-- Numbers within 64 bits.
use Rattle.std.proofs.Common.{◌≡◌, ℤ, Ok, FitsSigned}
use Rattle.std.specs.Int.{w64}
use Rattle.tla_value.specs.Tree.{int}
use Rattle.tla_core.specs.declared.fault.Place.{Place}
use Rattle.tla_core.specs.Kinds.{number}
use Rattle.tla_operators.proofs.Numbers.{number_in_range}

pub in_range : (p : Place) (z : ℤ) → FitsSigned w64 z → number p z ≡ Ok (int z)
in_range = number_in_range
