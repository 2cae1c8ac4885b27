-- The arguments of a function, borrowed: consecutive numbers, as many as there are values, or a rising list.
use Rattle.std.specs.Prelude.{◌≡◌, ℕ, zero, suc, ◌<◌, ℤ, pos, ◌+ℤ◌, List, [], ◌∷◌, length}
use Rattle.tla_value.specs.IsValue.{FitNumbers}
use Rattle.tla_value.specs.declared.value.Value.{Value}
use Rattle.tla_value.specs.declared.value.Value.TheVariants.{Int}
use Rattle.tla_value.specs.declared.value.Arguments.{Arguments}
use Rattle.tla_value.specs.declared.value.Arguments.TheVariants.{Numbers, Listed}

-- n consecutive numbers from z on
abbrev pub numbers_from : ℕ → ℤ → List Value
numbers_from zero z = []
numbers_from (suc n) z = Int z ∷ numbers_from n (z +ℤ pos 1)

-- the arguments, if there are n
abbrev pub argument_values : ℕ → Arguments → List Value
argument_values n (Numbers z) = numbers_from n z
argument_values n (Listed vs) = vs.now

-- numbers of 64 bits, at least one, or a list of n values
abbrev pub FitArguments : ℕ → Arguments → Type 0
FitArguments n (Numbers z) = (0 < n) × FitNumbers n z
FitArguments n (Listed vs) = length vs.now ≡ n
