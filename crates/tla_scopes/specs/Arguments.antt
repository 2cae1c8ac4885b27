-- Operators that give back one of their arguments.
use Rattle.std.specs.Prelude.{ℕ, zero, suc, Bool, true, false, List, [], ◌∷◌, None, if◌then◌else◌}
use Rattle.tla_scopes.specs.declared.arena.Projection.{Projection}
use Rattle.tla_scopes.specs.declared.primes.Primes.{Primes}
use Rattle.tla_scopes.specs.declared.primes.Primes.TheVariants.{Never, Once, Twice}
use Rattle.tla_scopes.specs.Primes.{one_more, with_primes}
use Rattle.tla_scopes.specs.Meanings.{Argument, Meaning}

-- primes, and more of them
abbrev pub with_more : Primes → Primes → Primes
with_more k Never = k
with_more k Once = one_more k
with_more k Twice = one_more (one_more k)

-- whether there are n arguments
abbrev pub has_count : ℕ → List Argument → Bool
has_count zero [] = true
has_count zero (a ∷ args) = false
has_count (suc n) [] = false
has_count (suc n) (a ∷ args) = has_count n args

abbrev pub argument_at : ℕ → List Argument → Argument
argument_at i [] = λ d. None
argument_at zero (a ∷ args) = a
argument_at (suc i) (a ∷ args) = argument_at i args

abbrev pub argument_of : Projection → List Argument → Argument
argument_of g args d = with_primes g.primes (argument_at g.index args d)

-- an operator of n parameters
abbrev pub given : ℕ → Projection → Meaning
given n g p args d = if has_count n args then argument_of g args d else None
