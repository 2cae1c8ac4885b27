-- The names in scope, each with its number of parameters, and those that the standard modules bring in (book, chapters
-- 17 and 18).
use Rattle.std.specs.Prelude.{ℕ, ◌+◌, List, [], ◌∷◌, ◌++◌, Option, Some, None, if◌then◌else◌, map, length, codes}
use Rattle.std.specs.List.{flat_map}
use Rattle.std.specs.Str.{bytes_eq}
use Rattle.tla_tree.specs.Tree.{Trees, none, more, Definition, Definitions, DefinesOperator, DefinesFunction, undefined, defined, Binders, unbound, bound, Fields, no_fields, field, names_of}
use Rattle.tla_config.specs.Names.{Name, words}
use Rattle.tla_names.specs.Maybe.{or_else}

-- a name and how many arguments it takes
abbrev pub Signature : Type 0
Signature = Name × ℕ

abbrev pub Scope : Type 0
Scope = List Signature

-- how many arguments a name takes, where it is in scope: the last one of the name counts
abbrev pub arity : Scope → Name → Option ℕ
arity [] x = None
arity (s ∷ σ) x = or_else (arity σ x) (if bytes_eq x s.0 then Some s.1 else None)

-- names without parameters
abbrev pub plain : List Name → Scope
plain xs = map (λ (x : Name). (x, 0)) xs

-- the names that a module brings in
abbrev pub module_names : Name → Scope
module_names m =
    if bytes_eq m (codes "Naturals") then (codes "Nat", 0) ∷ []
    else if bytes_eq m (codes "Integers") then (codes "Nat", 0) ∷ (codes "Int", 0) ∷ []
    else if bytes_eq m (codes "Sequences") then (codes "Seq", 1) ∷ (codes "Len", 1) ∷ (codes "Append", 2) ∷ (codes "Head", 1) ∷ (codes "Tail", 1) ∷ (codes "SubSeq", 3) ∷ []
    else if bytes_eq m (codes "FiniteSets") then (codes "IsFiniteSet", 1) ∷ (codes "Cardinality", 1) ∷ []
    else if bytes_eq m (codes "TLC") then (codes "Assert", 2) ∷ []
    else []

abbrev pub extended : List Name → Scope
extended ms = flat_map module_names ms

-- the name that a definition brings in
abbrev pub signature : Definition → Signature
signature (DefinesOperator w ps e) = (w.word, length ps)
signature (DefinesFunction w bs e) = (w.word, 0)

abbrev pub signatures : Definitions → Scope
signatures undefined = []
signatures (defined d ds) = signature d ∷ signatures ds

-- the names of a binder list
abbrev pub bound_names : Binders → List Name
bound_names unbound = []
bound_names (bound w s bs) = words (names_of w) ++ bound_names bs

-- the names of fields
abbrev pub field_names : Fields → List Name
field_names no_fields = []
field_names (field w e fs) = w.word ∷ field_names fs

-- how many arguments these are
abbrev pub count : Trees → ℕ
count none = 0
count (more e es) = count es + 1
