-- The scopes that a list of entries makes: entry k makes the scope k + 1 from earlier ones. Scope 0 is that of the
-- modules.
use Rattle.std.specs.Prelude.{◌≡◌, ℕ, ◌+◌, ◌≤◌, List, [], ◌∷◌, ◌++◌, map, get_or}
use Rattle.tla_tree.specs.declared.tree.Expr as s
use Rattle.tla_tree.specs.Tree.{binders}
use Rattle.tla_tree.specs.View.{view, group_view}
use Rattle.tla_scopes.specs.declared.nodes.Gather.TheVariants as gathers
use Rattle.tla_scopes.specs.declared.arena.Entry.{Entry}
use Rattle.tla_scopes.specs.declared.arena.What.{What}
use Rattle.tla_scopes.specs.declared.arena.What.TheVariants.{Bound, Variable, Value, Argument, Definition, Function, Gives, Module, Unknown}
use Rattle.tla_scopes.specs.Meanings as x
use Rattle.tla_scopes.specs.Meanings.{Scope, Meaning, standard, with_name, unknown, bound_name, variable, value_name, parameter, operator, builtin_meaning}
use Rattle.tla_scopes.specs.Bound.{gathered}
use Rattle.tla_scopes.specs.Expand.{expand, binds_of}
use Rattle.tla_scopes.specs.Arguments.{given}

-- the arguments of a use
abbrev pub arguments_in : List s.Expr → Scope → List x.Argument
arguments_in es σ = map (λ (e : s.Expr). expand (view e) σ) es

-- what an entry's name means, where the scopes are these
abbrev pub meaning_of : (ℕ → Scope) → What → Meaning
meaning_of at (Bound i) = bound_name i
meaning_of at (Variable i) = variable i
meaning_of at (Value v) = value_name v.now
meaning_of at (Argument t s) = parameter (expand (view t.now) (at s))
meaning_of at (Definition ws body home) = operator ws.now (expand (view body.now)) (at home)
meaning_of at (Function p bs body home) = parameter (gathered gathers.Function p (binds_of (binders (map group_view bs.now.items)) (at home)) (expand (view body.now)) (at home))
meaning_of at (Gives n g) = given n g
meaning_of at (Module b) = builtin_meaning b
meaning_of at Unknown = unknown

abbrev pub at_of : List Scope → ℕ → Scope
at_of σs i = get_or σs i standard

abbrev pub entry_scope : (ℕ → Scope) → Entry → Scope
entry_scope at e = with_name e.name.now (meaning_of at e.what) (at e.rest)

abbrev pub grow : List Scope → List Entry → List Scope
grow σs [] = σs
grow σs (e ∷ es) = grow (σs ++ entry_scope (at_of σs) e ∷ []) es

unfoldable pub scope_at : List Entry → ℕ → Scope
scope_at es i = at_of (grow (standard ∷ []) es) i

-- an entry speaks of scopes that are there before it
abbrev pub IsBelow : ℕ → What → ℕ → Type 0
IsBelow k (Argument t s) rest = (s ≤ k) × (rest ≤ k)
IsBelow k (Definition ws body home) rest = (home ≤ k) × (rest ≤ k)
IsBelow k (Function p bs body home) rest = (home ≤ k) × (rest ≤ k)
IsBelow k w rest = rest ≤ k

abbrev pub LinkedFrom : ℕ → List Entry → Type 0
LinkedFrom n [] = Unit {0}
LinkedFrom n (e ∷ es) = IsBelow n e.what e.rest × LinkedFrom (n + 1) es

pub record AreLinked (es : List Entry) : Type 0 where
  pub linked : LinkedFrom 0 es

-- nothing but more entries
abbrev pub Extends : List Entry → List Entry → Type 0
Extends new old = (extra : List Entry) × (new ≡ old ++ extra)
