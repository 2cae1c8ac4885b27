-- What names mean (book, chapter 17): functions of their use, so that a parameter means its argument, and no name of an
-- argument is captured.
use Rattle.std.specs.Prelude.{ℕ, List, [], ◌∷◌, Option, Some, None, if◌then◌else◌}
use Rattle.std.specs.Str.{bytes_eq}
use Rattle.tla_value.specs.TreeOf.{tree_of}
use Rattle.tla_value.specs.declared.value.Value.{Value}
use Rattle.tla_core.specs.declared.fault.Place.{Place}
use Rattle.tla_core.specs.Expr.{Expr, constant, bound, now, unary, sequences, kind_set}
use Rattle.tla_core.specs.ExprOf.{unary_of, kind_of}
use Rattle.tla_tree.specs.declared.word.Written.{Written}
use Rattle.tla_scopes.specs.declared.nodes.Builtin.{Builtin}
use Rattle.tla_scopes.specs.declared.nodes.Builtin.TheVariants as builtin
use Rattle.tla_scopes.specs.Maybe.{◌>>=◌}
use Rattle.tla_scopes.specs.Places as names
use Rattle.tla_scopes.specs.Nodes.{two, three}
use Rattle.tla_scopes.specs.Library.{library}

-- An argument: its expression, given how many names are bound. The names that it uses keep their numbers, and those
-- that it binds come after.
abbrev pub Argument : Type 0
Argument = ℕ → Option Expr

-- What a name means: the expression of its use, at a place, with these arguments, given how many names are bound.
abbrev pub Meaning : Type 0
Meaning = Place → List Argument → ℕ → Option Expr

-- what the names mean
abbrev pub Scope : Type 0
Scope = names.Name → Meaning

abbrev pub with_name : names.Name → Meaning → Scope → Scope
with_name x m σ y = if bytes_eq x y then m else σ y

-- a name that has no expansion
abbrev pub unknown : Meaning
unknown p args d = None

-- names that take no argument, one, two and three
abbrev pub alone : (Place → ℕ → Option Expr) → Meaning
alone f p [] d = f p d
alone f p (a ∷ args) d = None

abbrev pub of_one : (Place → Expr → Expr) → Meaning
of_one f p [] d = None
of_one f p (a ∷ []) d = a d >>= λ x. Some (f p x)
of_one f p (a ∷ b ∷ args) d = None

abbrev pub of_two : (Place → Expr → Expr → Expr) → Meaning
of_two f p [] d = None
of_two f p (a ∷ []) d = None
of_two f p (a ∷ b ∷ []) d = a d >>= λ x. b d >>= λ y. Some (f p x y)
of_two f p (a ∷ b ∷ c ∷ args) d = None

abbrev pub of_three : (Place → Expr → Expr → Expr → Expr) → Meaning
of_three f p [] d = None
of_three f p (a ∷ []) d = None
of_three f p (a ∷ b ∷ []) d = None
of_three f p (a ∷ b ∷ c ∷ []) d = a d >>= λ x. b d >>= λ y. c d >>= λ z. Some (f p x y z)
of_three f p (a ∷ b ∷ c ∷ g ∷ args) d = None

abbrev pub bound_name : ℕ → Meaning
bound_name i = alone (λ p d. Some (bound p i))

abbrev pub variable : ℕ → Meaning
variable i = alone (λ p d. Some (now p i))

-- a constant with a value of the configuration, at the place of its use
abbrev pub value_name : Value → Meaning
value_name v = alone (λ p d. Some (constant p (tree_of v)))

abbrev pub parameter : Argument → Meaning
parameter a = alone (λ p d. a d)

-- the operators of the modules
abbrev pub builtin_meaning : Builtin → Meaning
builtin_meaning (builtin.Kinds k) = alone (λ p d. Some (kind_set p (kind_of k)))
builtin_meaning builtin.Sequences = of_one (λ p x. sequences p x)
builtin_meaning (builtin.One u) = of_one (λ p x. unary p (unary_of u) x)
builtin_meaning (builtin.Two f) = of_two (two f)
builtin_meaning (builtin.Three f) = of_three (three f)

abbrev pub meaning_or : Option Builtin → Meaning
meaning_or None = unknown
meaning_or (Some b) = builtin_meaning b

-- the scope around a module: the operators of the modules that it may extend
abbrev pub standard : Scope
standard x = meaning_or (library x)

-- the parameters mean the arguments
abbrev pub with_parameters : List Written → List Argument → Scope → Option Scope
with_parameters [] [] σ = Some σ
with_parameters [] (a ∷ args) σ = None
with_parameters (w ∷ ws) [] σ = None
with_parameters (w ∷ ws) (a ∷ args) σ = with_parameters ws args (with_name w.word (parameter a) σ)

-- a definition: the use of an operator is its body, in which the parameters mean the arguments
abbrev pub operator : List Written → (Scope → Argument) → Scope → Meaning
operator ws body σ p args d = with_parameters ws args σ >>= λ τ. body τ d
