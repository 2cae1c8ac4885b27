-- Forms that bind names (book, chapter 16). The names are numbered from the outermost.
use Rattle.std.specs.Prelude.{ℕ, ◌+◌, List, [], ◌∷◌, length, Option, Some, None}
use Rattle.tla_core.specs.declared.fault.Place.{Place}
use Rattle.tla_core.specs.declared.expression.Opening.{Opening}
use Rattle.tla_core.specs.Expr.{Expr, opened, tried}
use Rattle.tla_core.specs.Patterns.{items_in}
use Rattle.tla_tree.specs.declared.word.Written.{Written}
use Rattle.tla_tree.specs.Tree.{Pattern, Each, Tuple}
use Rattle.tla_scopes.specs.declared.nodes.Binding.{Binding}
use Rattle.tla_scopes.specs.declared.nodes.Gather.{Gather}
use Rattle.tla_scopes.specs.Maybe.{◌>>=◌, each_of}
use Rattle.tla_scopes.specs.Lists.{exprs}
use Rattle.tla_scopes.specs.Places as names
use Rattle.tla_scopes.specs.Nodes.{binding, gather}
use Rattle.tla_scopes.specs.Meanings.{Argument, Scope, with_name, bound_name}

-- what an element is bound to: a name, or names for its items
pub data Names : Type 0 where
  named : names.Name → Names
  tupled : List Written → Names

-- an element that an expression binds, with its set
abbrev pub Bind : Type 0
Bind = Names × Argument

abbrev pub bind_each : List Written → Argument → List Bind → List Bind
bind_each [] s rest = rest
bind_each (w ∷ ws) s rest = (named w.word, s) ∷ bind_each ws s rest

-- the elements of an entry, and then others
abbrev pub bind_entry : Pattern → Argument → List Bind → List Bind
bind_entry (Each ws) s rest = bind_each ws s rest
bind_entry (Tuple ws) s rest = (tupled ws, s) ∷ rest

-- one value for the last one of a list, and another for the others: `bs` are those after one
abbrev pub last_or : {A B : Type 0} → List A → B → B → B
last_or [] x y = x
last_or (b ∷ bs) x y = y

-- names with numbers from this one on
abbrev pub with_each : List Written → ℕ → Scope → Scope
with_each [] d σ = σ
with_each (w ∷ ws) d σ = with_each ws (d + 1) (with_name w.word (bound_name d) σ)

-- an element that is opened: the bound name of this number, and the names for its items
abbrev pub opening : ℕ → List Written → Opening
opening d ws = record { name = d; items = length ws }

-- a body under these elements, if any
abbrev pub under_openings : Place → List Opening → Option Expr → Option Expr
under_openings p [] o = o
under_openings p (n ∷ os) o = o >>= λ y. Some (opened p (n ∷ os) y)

-- a body under an element, which is the next bound name
abbrev pub under : Place → Names → (Scope → Argument) → Scope → Argument
under p (named x) body σ d = body (with_name x (bound_name d) σ) (d + 1)
under p (tupled ws) body σ d = under_openings p (opening d ws ∷ []) (body (with_each ws (d + 1) σ) (d + 1 + length ws))

-- one node for each element, one in another. Its set sees none of the names.
abbrev pub nested : Binding → Place → List Bind → (Scope → Argument) → Scope → Argument
nested f p [] body σ d = None
nested f p (b ∷ bs) body σ d = b.1 d >>= λ x. under p b.0 (last_or bs body (nested f p bs body)) σ d >>= λ y. Some (binding f p x y)

-- ---- one node for all elements
-- elements that have names, one after the other
abbrev pub with_elements : List Bind → ℕ → Scope → Scope
with_elements [] d σ = σ
with_elements ((named x, s) ∷ bs) d σ = with_elements bs (d + 1) (with_name x (bound_name d) σ)
with_elements ((tupled ws, s) ∷ bs) d σ = with_elements bs (d + 1) σ

-- the names of items, one after the other
abbrev pub with_items : List Bind → ℕ → Scope → Scope
with_items [] d σ = σ
with_items ((named x, s) ∷ bs) d σ = with_items bs d σ
with_items ((tupled ws, s) ∷ bs) d σ = with_items bs (d + length ws) (with_each ws d σ)

-- the elements that are opened
abbrev pub openings : List Bind → ℕ → List Opening
openings [] d = []
openings ((named x, s) ∷ bs) d = openings bs (d + 1)
openings ((tupled ws, s) ∷ bs) d = opening d ws ∷ openings bs (d + 1)

-- the set of an element: one that is opened is tried
abbrev pub set_for : Place → Names → Option Expr → Option Expr
set_for p (named x) o = o
set_for p (tupled ws) o = o >>= λ x. Some (tried p (length ws) x)

-- One node for all elements. Their sets see none of the names.
abbrev pub gathered : Gather → Place → List Bind → (Scope → Argument) → Scope → Argument
gathered f p bs body σ d = each_of (λ (b : Bind). set_for p b.0 (b.1 d)) bs >>= λ xs.
    under_openings p (openings bs d) (body (with_items bs (d + length bs) (with_elements bs d σ)) (d + length bs + items_in (openings bs d))) >>= λ y. Some (gather f p (exprs xs) y)
