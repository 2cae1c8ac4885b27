-- Which expressions and definitions are well scoped (book, chapter 17).
use Rattle.std.specs.Prelude.{◌≡◌, ◌≢◌, ℕ, List, [], ◌∷◌, ◌++◌, Some, None, All, AllPairs, IsTrue}
use Rattle.tla_tree.specs.declared.word.Written.{Written}
use Rattle.tla_tree.specs.Tree.{Tree, Trees, none, more, Binders, unbound, bound, Arms, no_arms, arm, Other, no_other, other, Definition, DefinesOperator, DefinesFunction, Definitions, undefined, defined, Fields, no_fields, field, Key, AtIndex, AtField, Keys, no_keys, key, Updates, no_updates, update, names_of}
use Rattle.tla_tree.specs.Tree as t
use Rattle.tla_config.specs.Names.{Name, words}
use Rattle.tla_names.specs.Operators.{infix_known, prefix_known}
use Rattle.tla_names.specs.Scope.{Scope, arity, plain, signature, signatures, bound_names, field_names, count}

-- the name is in scope, and takes n arguments
abbrev pub Takes : Scope → Written → ℕ → Type 0
Takes σ w n = arity σ w.word ≡ Some n

-- the name isn't in scope
abbrev pub IsNew : Scope → Name → Type 0
IsNew σ x = arity σ x ≡ None

-- no two of these names are the same
abbrev pub AreDistinct : List Name → Type 0
AreDistinct xs = AllPairs (λ x y. x ≢ y) xs

-- none of these names is in scope, and no two are the same
abbrev pub AreNew : Scope → List Name → Type 0
AreNew σ xs = All (IsNew σ) xs × AreDistinct xs

-- An expression is well scoped, where these modules are extended and these names are in scope, if each name that it
-- uses is in scope and takes as many arguments as it is given, each name that it binds is new, each field of a record
-- occurs once, and each operator symbol is one of the language or of a module that is extended.
abbrev mutual
  pub IsWellScoped : List Name → Scope → Tree → Type 0
  IsWellScoped ms σ (t.Name w) = Takes σ w 0
  IsWellScoped ms σ (t.Number at n) = Unit {0}
  IsWellScoped ms σ (t.Text at s) = Unit {0}
  IsWellScoped ms σ (t.Word at c) = Unit {0}
  IsWellScoped ms σ (t.At at) = Unit {0}
  IsWellScoped ms σ (t.Paren at e) = IsWellScoped ms σ e
  IsWellScoped ms σ (t.Listing at b es) = AreWellScoped ms σ es
  IsWellScoped ms σ (t.Call w es) = Takes σ w (count es) × AreWellScoped ms σ es
  IsWellScoped ms σ (t.Prime at e) = IsWellScoped ms σ e
  IsWellScoped ms σ (t.Index at e es) = IsWellScoped ms σ e × AreWellScoped ms σ es
  IsWellScoped ms σ (t.Field at e w) = IsWellScoped ms σ e
  IsWellScoped ms σ (t.Unary at op e) = IsTrue (prefix_known ms op) × IsWellScoped ms σ e
  IsWellScoped ms σ (t.Binary at op w a b) = IsTrue (infix_known ms op) × IsWellScoped ms σ a × IsWellScoped ms σ b
  IsWellScoped ms σ (t.Quantified at q bs e) = AreNew σ (bound_names bs) × HaveWellScopedSets ms σ bs × IsWellScoped ms (σ ++ plain (bound_names bs)) e
  IsWellScoped ms σ (t.Choose at w s e) = AreNew σ (words (names_of w)) × IsWellScoped ms σ s × IsWellScoped ms (σ ++ plain (words (names_of w))) e
  IsWellScoped ms σ (t.If at a b c) = IsWellScoped ms σ a × IsWellScoped ms σ b × IsWellScoped ms σ c
  IsWellScoped ms σ (t.Case at cs o) = AreWellScopedArms ms σ cs × IsWellScopedOther ms σ o
  IsWellScoped ms σ (t.Let at ds e) = AreWellScopedDefinitions ms σ ds × IsWellScoped ms (σ ++ signatures ds) e
  IsWellScoped ms σ (t.Junction at b es) = AreWellScoped ms σ es
  IsWellScoped ms σ (t.Filter at w s e) = AreNew σ (words (names_of w)) × IsWellScoped ms σ s × IsWellScoped ms (σ ++ plain (words (names_of w))) e
  IsWellScoped ms σ (t.Image at e bs) = AreNew σ (bound_names bs) × HaveWellScopedSets ms σ bs × IsWellScoped ms (σ ++ plain (bound_names bs)) e
  IsWellScoped ms σ (t.Function at bs e) = AreNew σ (bound_names bs) × HaveWellScopedSets ms σ bs × IsWellScoped ms (σ ++ plain (bound_names bs)) e
  IsWellScoped ms σ (t.FunctionSet at s e) = IsWellScoped ms σ s × IsWellScoped ms σ e
  IsWellScoped ms σ (t.Record at fs) = AreDistinct (field_names fs) × AreWellScopedFields ms σ fs
  IsWellScoped ms σ (t.RecordSet at fs) = AreDistinct (field_names fs) × AreWellScopedFields ms σ fs
  IsWellScoped ms σ (t.Except at e us) = IsWellScoped ms σ e × AreWellScopedUpdates ms σ us
  IsWellScoped ms σ (t.Action at step a v) = IsWellScoped ms σ a × IsWellScoped ms σ v
  IsWellScoped ms σ (t.Fair at f v a) = IsWellScoped ms σ v × IsWellScoped ms σ a
  IsWellScoped ms σ (t.Product at e es) = IsWellScoped ms σ e × AreWellScoped ms σ es

  pub AreWellScoped : List Name → Scope → Trees → Type 0
  AreWellScoped ms σ none = Unit {0}
  AreWellScoped ms σ (more e es) = IsWellScoped ms σ e × AreWellScoped ms σ es

  -- the sets of a binder list see none of its names
  pub HaveWellScopedSets : List Name → Scope → Binders → Type 0
  HaveWellScopedSets ms σ unbound = Unit {0}
  HaveWellScopedSets ms σ (bound w s bs) = IsWellScoped ms σ s × HaveWellScopedSets ms σ bs

  pub AreWellScopedArms : List Name → Scope → Arms → Type 0
  AreWellScopedArms ms σ no_arms = Unit {0}
  AreWellScopedArms ms σ (arm g e cs) = IsWellScoped ms σ g × IsWellScoped ms σ e × AreWellScopedArms ms σ cs

  pub IsWellScopedOther : List Name → Scope → Other → Type 0
  IsWellScopedOther ms σ no_other = Unit {0}
  IsWellScopedOther ms σ (other e) = IsWellScoped ms σ e

  pub AreWellScopedFields : List Name → Scope → Fields → Type 0
  AreWellScopedFields ms σ no_fields = Unit {0}
  AreWellScopedFields ms σ (field w e fs) = IsWellScoped ms σ e × AreWellScopedFields ms σ fs

  pub IsWellScopedKey : List Name → Scope → Key → Type 0
  IsWellScopedKey ms σ (AtIndex es) = AreWellScoped ms σ es
  IsWellScopedKey ms σ (AtField w) = Unit {0}

  pub AreWellScopedKeys : List Name → Scope → Keys → Type 0
  AreWellScopedKeys ms σ no_keys = Unit {0}
  AreWellScopedKeys ms σ (key k ks) = IsWellScopedKey ms σ k × AreWellScopedKeys ms σ ks

  pub AreWellScopedUpdates : List Name → Scope → Updates → Type 0
  AreWellScopedUpdates ms σ no_updates = Unit {0}
  AreWellScopedUpdates ms σ (update ks e us) = AreWellScopedKeys ms σ ks × IsWellScoped ms σ e × AreWellScopedUpdates ms σ us

  -- a definition doesn't see its own name
  pub IsWellScopedDefinition : List Name → Scope → Definition → Type 0
  IsWellScopedDefinition ms σ (DefinesOperator w ps e) = IsNew σ w.word × AreNew σ (words ps) × IsWellScoped ms (σ ++ plain (words ps)) e
  IsWellScopedDefinition ms σ (DefinesFunction w bs e) = IsNew σ w.word × AreNew σ (bound_names bs) × HaveWellScopedSets ms σ bs × IsWellScoped ms (σ ++ plain (bound_names bs)) e

  -- each sees those before it
  pub AreWellScopedDefinitions : List Name → Scope → Definitions → Type 0
  AreWellScopedDefinitions ms σ undefined = Unit {0}
  AreWellScopedDefinitions ms σ (defined d ds) = IsWellScopedDefinition ms σ d × AreWellScopedDefinitions ms (σ ++ signature d ∷ []) ds
