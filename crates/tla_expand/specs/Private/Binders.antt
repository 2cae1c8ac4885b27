-- The elements of binder lists in memory. Private contracts alone cite this.
use Rattle.std.specs.Prelude.{ℕ, List, [], ◌∷◌, map}
use Rattle.tla_core.specs.declared.expression.Opening.{Opening}
use Rattle.tla_tree.specs.declared.word.Written.{Written}
use Rattle.tla_tree.specs.View.{view}
use Rattle.tla_expand.specs.declared.binders.Bind.{Bind}
use Rattle.tla_expand.specs.declared.binders.Names.{Names}
use Rattle.tla_expand.specs.declared.binders.Names.TheVariants.{Name, Tuple}
use Rattle.tla_scopes.specs.Bound as x
use Rattle.tla_scopes.specs.Meanings.{Scope, with_name, bound_name}
use Rattle.tla_scopes.specs.Expand.{expand}

abbrev pub names_of : Names → x.Names
names_of (Name w) = x.named w.now.word
names_of (Tuple ws) = x.tupled ws.now

abbrev pub binds_in : List Bind → Scope → List x.Bind
binds_in bs σ = map (λ (b : Bind). (names_of b.names, expand (view b.set.now) σ)) bs

-- what one element adds to the elements that are opened
abbrev pub opened_at : x.Names → ℕ → List Opening
opened_at (x.named y) d = []
opened_at (x.tupled ws) d = x.opening d ws ∷ []

-- a scope with the name of an element, if it has one
abbrev pub with_element : x.Names → ℕ → Scope → Scope
with_element (x.named y) d σ = with_name y (bound_name d) σ
with_element (x.tupled ws) d σ = σ

-- the names for the items of an element
abbrev pub item_names : x.Names → List Written
item_names (x.named y) = []
item_names (x.tupled ws) = ws
