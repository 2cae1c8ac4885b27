-- What an expression in a scope is reduced to.
use Rattle.std.specs.Prelude.{◌≡◌, ◌≤◌, ℕ, List, length, None}
use Rattle.tla_tree.specs.View.{view}
use Rattle.tla_scopes.specs.declared.arena.Entry.{Entry}
use Rattle.tla_scopes.specs.declared.arena.What.{What}
use Rattle.tla_scopes.specs.declared.arena.What.TheVariants as what
use Rattle.tla_scopes.specs.declared.failure.Failure.{Failure}
use Rattle.tla_scopes.specs.declared.failure.Failure.TheVariants.{NoExpansion, TooLarge, Memory}
use Rattle.tla_scopes.specs.declared.uses.Head.{Head}
use Rattle.tla_scopes.specs.declared.uses.Reduction.{Reduction}
use Rattle.tla_scopes.specs.declared.uses.Reduction.TheVariants as reduction
use Rattle.tla_scopes.specs.Primes.{with_primes}
use Rattle.tla_scopes.specs.Meanings.{Argument}
use Rattle.tla_scopes.specs.Expand.{expand}
use Rattle.tla_scopes.specs.Forms.{form_in}
use Rattle.tla_scopes.specs.Scopes.{scope_at}

abbrev pub head_gives : List Entry → Head → Argument
head_gives es h d = with_primes h.primes (form_in h.form (scope_at es h.scope) d)

abbrev pub reduction_gives : List Entry → Reduction → Argument
reduction_gives es (reduction.Goes t s k) d = with_primes k (expand (view t.now) (scope_at es s) d)
reduction_gives es (reduction.Ends h) d = head_gives es h d

abbrev pub IsWithin : List Entry → Reduction → Type 0
IsWithin es (reduction.Goes t s k) = s ≤ length es
IsWithin es (reduction.Ends h) = h.scope ≤ length es

-- what a name means that takes no arguments
abbrev pub IsAlone : What → Type 0
IsAlone (what.Definition ws body home) = ⊥
IsAlone (what.Gives n g) = ⊥
IsAlone (what.Module b) = ⊥
IsAlone w = Unit {0}

-- A failure says that there is no expansion. Memory may be refused at any time.
abbrev pub Explains : Failure → Argument → Type 0
Explains (NoExpansion p) e = (d : ℕ) → e d ≡ None
Explains TooLarge e = ⊥
Explains Memory e = Unit {0}
