-- What the code finds of a specification. Private contracts alone cite this.
use Rattle.std.specs.Prelude.{◌≡◌, ◌⊎◌, ℕ, List, [], ◌∷◌, Option, Some, None}
use Rattle.tla_tree.specs.declared.word.Written.{Written}
use Rattle.tla_tree.specs.Tree.{Tree}
use Rattle.tla_tree.specs.Tree as t
use Rattle.tla_tree.specs.Units.{UnitTree}
use Rattle.tla_config.specs.declared.error.DefsCode.TheVariants as c
use Rattle.tla_config.specs.declared.error.DefsError.{DefsError}
use Rattle.tla_config.specs.declared.error.Source.TheVariants as source
use Rattle.tla_config.specs.Statements.{Statement, Item}
use Rattle.tla_scopes.specs.declared.primes.Primes.TheVariants.{Once}
use Rattle.tla_scopes.specs.Expand.{expand}
use Rattle.tla_scopes.specs.Meanings.{Scope}
use Rattle.tla_scopes.specs.Primes.{with_primes}
use Rattle.tla_names.specs.Refusal.{refusal_at}
use Rattle.tla_defs.specs.declared.init_and_next.InitAndNext.{InitAndNext}
use Rattle.tla_defs.specs.declared.init_and_next.InitAndNext.TheVariants as meant
use Rattle.tla_defs.specs.declared.specification.Specified as declared
use Rattle.tla_defs.specs.Private.Seen.{tree_at, seen}
use Rattle.tla_defs.specs.Model.{initials_named, nexts_named, specifications_named}
use Rattle.tla_defs.specs.Refused.{Behaviour, Named, Specified, NoForm, HasTooMany, IsTooLarge}
use Rattle.tla_defs.specs.Specification.{conjunction_of, IsSpecification}

-- one of these is not of state level
abbrev pub LacksState : Scope → List Tree → Type 0
LacksState σ [] = ⊥
LacksState σ (e ∷ es) = (with_primes Once (expand e σ 0) ≡ None) ⊎ LacksState σ es

abbrev pub initial_in : declared.Specified → Option Tree
initial_in s = conjunction_of (seen s.initial.items)

-- these are the initial predicate and the action of the formula
abbrev pub IsForm : List UnitTree → List Item → Scope → ℕ → Written → declared.Specified → Type 0
IsForm us is σ n w s = (i : Tree) × (initial_in s ≡ Some i) × IsSpecification us is σ n w i (tree_at s.action)

-- the initial predicate and the action
abbrev pub initial_tree : InitAndNext → Option Tree
initial_tree (meant.Named i a) = Some (t.Name i.now)
initial_tree (meant.Specified s) = initial_in s

abbrev pub action_tree : InitAndNext → Tree
action_tree (meant.Named i a) = t.Name a.now
action_tree (meant.Specified s) = tree_at s.action

abbrev pub IsMeant : List UnitTree → List Item → Scope → ℕ → Behaviour → InitAndNext → Type 0
IsMeant us is σ n (Named i a) (meant.Named j b) = (j.now ≡ i) × (b.now ≡ a)
IsMeant us is σ n (Specified p w) (meant.Specified s) = IsForm us is σ n w s
IsMeant us is σ n _ _ = ⊥

abbrev pub NoneMeant : List UnitTree → List Item → Scope → ℕ → Behaviour → Type 0
NoneMeant us is σ n (Named i a) = ⊥
NoneMeant us is σ n (Specified p w) = NoForm us is σ n w

-- a refusal at SPECIFICATION, if there is one
abbrev pub form_refused : Behaviour → Option DefsError
form_refused (Specified p w) = Some (refusal_at c.SpecificationForm source.Configuration p)
form_refused (Named i a) = None

-- that refusal, or, where this holds, one that the formula is too large
abbrev pub MayBeLast : Option DefsError → Type 0 → DefsError → Type 0
MayBeLast form many e = (form ≡ Some e) ⊎ (IsTooLarge e × many)

-- SPECIFICATION names a formula of too many conjuncts
abbrev pub HasMany : List UnitTree → List Item → Behaviour → Type 0
HasMany us is (Named i a) = ⊥
HasMany us is (Specified p w) = HasTooMany us is w

-- the names of INIT, of NEXT and of SPECIFICATION
abbrev pub init_names : Behaviour → List Written
init_names (Named i a) = i ∷ []
init_names (Specified p w) = []

abbrev pub next_names : Behaviour → List Written
next_names (Named i a) = a ∷ []
next_names (Specified p w) = []

abbrev pub specification_names : Behaviour → List Written
specification_names (Named i a) = []
specification_names (Specified p w) = w ∷ []

-- nothing else names a behaviour
pub record IsOnly (cs : List Statement) (b : Behaviour) : Type 0 where
  pub init : initials_named cs ≡ init_names b
  pub next : nexts_named cs ≡ next_names b
  pub specification : specifications_named cs ≡ specification_names b
