-- What the parts of the code answer. Private contracts alone cite this.
use Rattle.std.specs.Prelude.{◌≡◌, ◌≤◌, ℕ, ◌+◌, Bool, true, false, max, List, [], ◌∷◌, map, length, Option, Some, None, Result, Ok, Err}
use Rattle.std.specs.Borrow.{Bor}
use Rattle.tla_core.specs.declared.fault.Place.{Place}
use Rattle.tla_core.specs.declared.expression.Core.{Core}
use Rattle.tla_core.specs.declared.expression.Binary.TheVariants.{Unequal}
use Rattle.tla_core.specs.Expr.{Expr, tuple}
use Rattle.tla_core.specs.ExprOf.{expr_of, exprs_of_arm}
use Rattle.tla_model.specs.declared.limits.TheConstants.{MAX_NODES}
use Rattle.tla_model.specs.Size.{nodes, depth}
use Rattle.tla_tree.specs.declared.tree.Expr as s
use Rattle.tla_tree.specs.declared.tree.Arm.{Arm}
use Rattle.tla_tree.specs.declared.tree.Field.{Field}
use Rattle.tla_tree.specs.declared.tree.Key.{Key}
use Rattle.tla_tree.specs.declared.tree.Update.{Update}
use Rattle.tla_tree.specs.Tree.{trees}
use Rattle.tla_tree.specs.View.{view, key_view}
use Rattle.tla_scopes.specs.declared.arena.Entry.{Entry}
use Rattle.tla_scopes.specs.declared.failure.Failure.{Failure}
use Rattle.tla_scopes.specs.declared.failure.Failure.TheVariants.{NoExpansion, TooLarge, Memory}
use Rattle.tla_expand.specs.declared.expanded.Expanded.{Expanded}
use Rattle.tla_expand.specs.declared.expanded.Pair.{Pair}
use Rattle.tla_expand.specs.declared.expanded.Many.{Many}
use Rattle.tla_expand.specs.declared.expanded.Arms.{Arms}
use Rattle.tla_expand.specs.declared.expanded.Fields.{Fields}
use Rattle.tla_expand.specs.declared.expanded.Change.{Change}
use Rattle.tla_expand.specs.declared.expanded.Changes.{Changes}
use Rattle.tla_expand.specs.declared.binders.Bind.{Bind}
use Rattle.tla_scopes.specs.declared.nodes.BinaryNode.TheVariants as two_
use Rattle.tla_scopes.specs.declared.primes.Primes.{Primes}
use Rattle.tla_scopes.specs.Maybe.{◌>>=◌, each_of}
use Rattle.tla_scopes.specs.Primes.{one_more, with_primes}
use Rattle.tla_scopes.specs.Unchanged.{unchanged}
use Rattle.tla_scopes.specs.Meanings.{Scope, with_name, bound_name}
use Rattle.tla_scopes.specs.Expand.{expand, expand_key, expand_step}
use Rattle.tla_scopes.specs.Places.{at_name}
use Rattle.tla_scopes.specs.Lists.{named_part, changed_part}
use Rattle.tla_scopes.specs.Nodes.{two}
use Rattle.tla_scopes.specs.Bound.{set_for}
use Rattle.tla_expand.specs.Private.Binders.{names_of}

-- How many names may be bound around an expression and how many nodes may be left for it, both together: a bound name
-- has one of these entries, and an element without a name has a set, which takes a node.
abbrev pub most_named : List Entry → ℕ
most_named es = MAX_NODES + length es

-- There is no such expansion. Memory may be refused at any time.
abbrev pub SaysNone : Failure → Option Expr → Type 0
SaysNone (NoExpansion p) o = o ≡ None
SaysNone TooLarge o = ⊥
SaysNone Memory o = Unit {0}

-- a node without parts, if there is one
abbrev pub MakesLeaf : Result Core Failure → Option Expr → Type 0
MakesLeaf (Ok c) o = o ≡ Some (expr_of c)
MakesLeaf (Err TooLarge) o = o ≡ None
MakesLeaf (Err Memory) o = Unit {0}
MakesLeaf (Err (NoExpansion p)) o = ⊥

-- Why there is no expansion of at most this many nodes and this depth. Memory may run out at any time.
abbrev pub FailsBy : {A : Type 0} → (A → ℕ) → (A → ℕ) → ℕ → ℕ → Failure → Option A → Type 0
FailsBy size deep depth_left nodes_left (NoExpansion p) o = o ≡ None
FailsBy {A = A} size deep depth_left nodes_left TooLarge o = (x : A) → o ≡ Some x → size x ≤ nodes_left → deep x ≤ depth_left → ⊥
FailsBy size deep depth_left nodes_left Memory o = Unit {0}

abbrev pub Fails : ℕ → ℕ → Failure → Option Expr → Type 0
Fails depth_left nodes_left f o = FailsBy nodes depth depth_left nodes_left f o

-- What was made of parts, with this many nodes left.
abbrev pub Makes : {A : Type 0} → (A → ℕ) → (A → ℕ) → ℕ → ℕ → ℕ → A → Option A → Type 0
Makes size deep depth_left nodes_left rest x o = (o ≡ Some x) × (rest + size x ≡ nodes_left) × (deep x ≤ depth_left)

abbrev pub Gives : ℕ → ℕ → Result Expanded Failure → Option Expr → Type 0
Gives depth_left nodes_left (Ok x) o = Makes nodes depth depth_left nodes_left x.nodes_left (expr_of x.core) o
Gives depth_left nodes_left (Err f) o = Fails depth_left nodes_left f o

-- two parts
abbrev pub both : {A B : Type 0} → Option A → Option B → Option (A × B)
both a b = a >>= λ x. b >>= λ y. Some (x, y)

abbrev pub sum_of : {A B : Type 0} → (A → ℕ) → (B → ℕ) → A × B → ℕ
sum_of f g p = f p.0 + g p.1

abbrev pub larger_of : {A B : Type 0} → (A → ℕ) → (B → ℕ) → A × B → ℕ
larger_of f g p = max (f p.0) (g p.1)

abbrev pub parts_of : Pair → Expr × Expr
parts_of x = (expr_of x.first.value, expr_of x.second)

abbrev pub GivesTwo : ℕ → ℕ → Result Pair Failure → Option (Expr × Expr) → Type 0
GivesTwo depth_left nodes_left (Ok x) o = Makes (sum_of nodes nodes) (larger_of depth depth) depth_left nodes_left x.nodes_left (parts_of x) o
GivesTwo depth_left nodes_left (Err f) o = FailsBy (sum_of nodes nodes) (larger_of depth depth) depth_left nodes_left f o

-- a node of its parts
abbrev pub made : {A : Type 0} → (A → Expr) → Option A → Option Expr
made f o = o >>= λ x. Some (f x)

-- lists of parts
abbrev pub total : {A : Type 0} → (A → ℕ) → List A → ℕ
total size [] = 0
total size (x ∷ xs) = size x + total size xs

abbrev pub highest : {A : Type 0} → (A → ℕ) → List A → ℕ
highest deep [] = 0
highest deep (x ∷ xs) = max (deep x) (highest deep xs)

abbrev pub GivesMany : ℕ → ℕ → Result Many Failure → Option (List Expr) → Type 0
GivesMany depth_left nodes_left (Ok x) o = Makes (total nodes) (highest depth) depth_left nodes_left x.nodes_left (map expr_of x.parts.items) o
GivesMany depth_left nodes_left (Err f) o = FailsBy (total nodes) (highest depth) depth_left nodes_left f o

abbrev pub GivesArms : ℕ → ℕ → Result Arms Failure → Option (List (Expr × Expr)) → Type 0
GivesArms depth_left nodes_left (Ok x) o = Makes (total (sum_of nodes nodes)) (highest (larger_of depth depth)) depth_left nodes_left x.nodes_left (map exprs_of_arm x.arms.items) o
GivesArms depth_left nodes_left (Err f) o = FailsBy (total (sum_of nodes nodes)) (highest (larger_of depth depth)) depth_left nodes_left f o

abbrev pub field_nodes : List ℕ × Expr → ℕ
field_nodes f = nodes f.1

abbrev pub field_depth : List ℕ × Expr → ℕ
field_depth f = depth f.1

abbrev pub GivesFields : ℕ → ℕ → Result Fields Failure → Option (List (List ℕ × Expr)) → Type 0
GivesFields depth_left nodes_left (Ok x) o = Makes (total field_nodes) (highest field_depth) depth_left nodes_left x.nodes_left (map named_part x.fields.items) o
GivesFields depth_left nodes_left (Err f) o = FailsBy (total field_nodes) (highest field_depth) depth_left nodes_left f o

-- a path and a new value
abbrev pub update_nodes : List Expr × Expr → ℕ
update_nodes = sum_of (total nodes) nodes

abbrev pub update_depth : List Expr × Expr → ℕ
update_depth = larger_of (highest depth) depth

abbrev pub GivesChange : ℕ → ℕ → Result Change Failure → Option (List Expr × Expr) → Type 0
GivesChange depth_left nodes_left (Ok x) o = Makes update_nodes update_depth depth_left nodes_left x.nodes_left (map expr_of x.path.items, expr_of x.value) o
GivesChange depth_left nodes_left (Err f) o = FailsBy update_nodes update_depth depth_left nodes_left f o

abbrev pub GivesChanges : ℕ → ℕ → Result Changes Failure → Option (List (List Expr × Expr)) → Type 0
GivesChanges depth_left nodes_left (Ok x) o = Makes (total update_nodes) (highest update_depth) depth_left nodes_left x.nodes_left (map changed_part x.updates.items) o
GivesChanges depth_left nodes_left (Err f) o = FailsBy (total update_nodes) (highest update_depth) depth_left nodes_left f o

-- the parts of forms, under these primes, in a scope and given how many names are bound
abbrev pub part_in : Primes → Scope → ℕ → s.Expr → Option Expr
part_in k σ d t = with_primes k (expand (view t) σ d)

abbrev pub key_in : Primes → Scope → ℕ → List s.Expr → Option Expr
key_in k σ d ts = with_primes k (expand_key (trees (map view ts)) σ d)

abbrev pub arm_in : Primes → Scope → ℕ → Arm → Option (Expr × Expr)
arm_in k σ d a = both (part_in k σ d a.guard) (part_in k σ d a.value)

abbrev pub set_in : Place → Primes → Scope → ℕ → Bind → Option Expr
set_in p k σ d b = set_for p (names_of b.names) (part_in k σ d b.set.now)

abbrev pub field_in : Primes → Scope → ℕ → Field → Option (List ℕ × Expr)
field_in k σ d f = part_in k σ d f.value >>= λ x. Some (f.name.word, x)

abbrev pub step_in : Primes → Scope → ℕ → Key → Option Expr
step_in k σ d s = with_primes k (expand_step (key_view s) σ d)

abbrev pub value_in : Primes → Scope → ℕ → s.Expr → Option Expr
value_in k σ d t = with_primes k (expand (view t) (with_name at_name (bound_name d) σ) (d + 1))

abbrev pub update_in : Primes → Scope → ℕ → Update → Option (List Expr × Expr)
update_in k σ d u = both (each_of (step_in k σ d) u.path.items) (value_in k σ d u.value)

-- expressions behind references
abbrev pub pointed : List (Bor s.Expr) → List s.Expr
pointed ts = map (λ (t : Bor s.Expr). t.now) ts

-- v' # v with primes
abbrev pub changed_in : Primes → Place → Scope → ℕ → s.Expr → Option Expr
changed_in k p σ d t = both (part_in (one_more k) σ d t) (part_in k σ d t) >>= λ xy. Some (two (two_.Binary Unequal) p xy.0 xy.1)

-- UNCHANGED of an expression with primes
abbrev pub kept_part : Primes → Place → Scope → ℕ → s.Expr → Option Expr
kept_part k p σ d t = part_in k σ d t >>= unchanged p

-- no tuple, where it is there
abbrev pub is_tuple : Expr → Bool
is_tuple (tuple p es) = true
is_tuple _ = false

abbrev pub Plain : Option Expr → Type 0
Plain o = (e : Expr) → o ≡ Some e → is_tuple e ≡ false
