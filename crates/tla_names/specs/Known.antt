-- The first misuse of a name in an expression or a definition (this project's own choice: the order).
use Rattle.std.specs.Prelude.{ℕ, nat_eq, Bool, true, false, ◌||◌, List, [], ◌∷◌, ◌++◌, Option, Some, None, is_some, if◌then◌else◌}
use Rattle.tla_lex.specs.declared.token.Place.{Place}
use Rattle.tla_tree.specs.declared.word.Written.{Written}
use Rattle.tla_tree.specs.Tree.{Tree, Trees, none, more, Binders, unbound, bound, Arms, no_arms, arm, Other, no_other, other, Definition, DefinesOperator, DefinesFunction, Definitions, undefined, defined, Fields, no_fields, field, Key, AtIndex, AtField, Keys, no_keys, key, Updates, no_updates, update, names_of}
use Rattle.tla_tree.specs.Tree as t
use Rattle.tla_config.specs.Names.{Name, words, is_among}
use Rattle.tla_names.specs.Maybe.{or_else}
use Rattle.tla_names.specs.Operators.{infix_known, prefix_known, prefix_word}
use Rattle.tla_names.specs.Scope.{Scope, arity, plain, signature, signatures, bound_names, count}

-- A name that is refused: brought in where it is in scope, not known, or used with another number of arguments than it
-- takes.
pub data Misuse : Type 0 where
  Twice : Written → Misuse
  Unknown : Written → Misuse
  Arguments : Written → Misuse

-- a name with n arguments, if it takes some number of them or is not known
abbrev pub applied : Written → ℕ → Option ℕ → Option Misuse
applied w n None = Some (Unknown w)
applied w n (Some m) = if nat_eq n m then None else Some (Arguments w)

abbrev pub used : Scope → Written → ℕ → Option Misuse
used σ w n = applied w n (arity σ w.word)

-- the first of these names that is in scope, or one of the new ones
abbrev pub brought : Scope → List Name → List Written → Option Misuse
brought σ new [] = None
brought σ new (w ∷ ws) = if is_some (arity σ w.word) || is_among w.word new then Some (Twice w) else brought σ (new ++ w.word ∷ []) ws

abbrev pub new_name : Scope → Written → Option Misuse
new_name σ w = if is_some (arity σ w.word) then Some (Twice w) else None

-- a name after these
abbrev pub again : List Name → Written → Option Misuse
again before w = if is_among w.word before then Some (Twice w) else None

abbrev pub if_not : Bool → Place → Name → Option Misuse
if_not true at x = None
if_not false at x = Some (Unknown (record { place = at; word = x }))

-- the first misuse in an expression, in the order of the text, where these modules are extended and these names are in
-- scope
abbrev mutual
  pub misused : List Name → Scope → Tree → Option Misuse
  misused ms σ (t.Name w) = used σ w 0
  misused ms σ (t.Number at n) = None
  misused ms σ (t.Text at s) = None
  misused ms σ (t.Word at c) = None
  misused ms σ (t.At at) = None
  misused ms σ (t.Paren at e) = misused ms σ e
  misused ms σ (t.Listing at b es) = misused_each ms σ es
  misused ms σ (t.Call w es) = or_else (used σ w (count es)) (misused_each ms σ es)
  misused ms σ (t.Prime at e) = misused ms σ e
  misused ms σ (t.Index at e es) = or_else (misused ms σ e) (misused_each ms σ es)
  misused ms σ (t.Field at e w) = misused ms σ e
  misused ms σ (t.Unary at op e) = or_else (if_not (prefix_known ms op) at (prefix_word op)) (misused ms σ e)
  misused ms σ (t.Binary at op w a b) = or_else (misused ms σ a) (or_else (if_not (infix_known ms op) w.place w.word) (misused ms σ b))
  misused ms σ (t.Quantified at q bs e) = or_else (misused_sets ms σ [] bs) (misused ms (σ ++ plain (bound_names bs)) e)
  misused ms σ (t.Choose at w s e) = or_else (brought σ [] (names_of w)) (or_else (misused ms σ s) (misused ms (σ ++ plain (words (names_of w))) e))
  misused ms σ (t.If at a b c) = or_else (misused ms σ a) (or_else (misused ms σ b) (misused ms σ c))
  misused ms σ (t.Case at cs o) = or_else (misused_arms ms σ cs) (misused_other ms σ o)
  misused ms σ (t.Let at ds e) = or_else (misused_definitions ms σ ds) (misused ms (σ ++ signatures ds) e)
  misused ms σ (t.Junction at b es) = misused_each ms σ es
  misused ms σ (t.Filter at w s e) = or_else (brought σ [] (names_of w)) (or_else (misused ms σ s) (misused ms (σ ++ plain (words (names_of w))) e))
  -- the element comes before the names that it uses
  misused ms σ (t.Image at e bs) = or_else (misused ms (σ ++ plain (bound_names bs)) e) (misused_sets ms σ [] bs)
  misused ms σ (t.Function at bs e) = or_else (misused_sets ms σ [] bs) (misused ms (σ ++ plain (bound_names bs)) e)
  misused ms σ (t.FunctionSet at s e) = or_else (misused ms σ s) (misused ms σ e)
  misused ms σ (t.Record at fs) = misused_fields ms σ [] fs
  misused ms σ (t.RecordSet at fs) = misused_fields ms σ [] fs
  misused ms σ (t.Except at e us) = or_else (misused ms σ e) (misused_updates ms σ us)
  misused ms σ (t.Action at step a v) = or_else (misused ms σ a) (misused ms σ v)
  misused ms σ (t.Fair at f v a) = or_else (misused ms σ v) (misused ms σ a)
  misused ms σ (t.Product at e es) = or_else (misused ms σ e) (misused_each ms σ es)

  pub misused_each : List Name → Scope → Trees → Option Misuse
  misused_each ms σ none = None
  misused_each ms σ (more e es) = or_else (misused ms σ e) (misused_each ms σ es)

  -- a binder list, after these names of it: its sets see none of its names
  pub misused_sets : List Name → Scope → List Name → Binders → Option Misuse
  misused_sets ms σ new unbound = None
  misused_sets ms σ new (bound w s bs) = or_else (brought σ new (names_of w)) (or_else (misused ms σ s) (misused_sets ms σ (new ++ words (names_of w)) bs))

  pub misused_arms : List Name → Scope → Arms → Option Misuse
  misused_arms ms σ no_arms = None
  misused_arms ms σ (arm g e cs) = or_else (misused ms σ g) (or_else (misused ms σ e) (misused_arms ms σ cs))

  pub misused_other : List Name → Scope → Other → Option Misuse
  misused_other ms σ no_other = None
  misused_other ms σ (other e) = misused ms σ e

  -- fields, after others with these names: each name once
  pub misused_fields : List Name → Scope → List Name → Fields → Option Misuse
  misused_fields ms σ before no_fields = None
  misused_fields ms σ before (field w e fs) = or_else (again before w) (or_else (misused ms σ e) (misused_fields ms σ (before ++ w.word ∷ []) fs))

  pub misused_key : List Name → Scope → Key → Option Misuse
  misused_key ms σ (AtIndex es) = misused_each ms σ es
  misused_key ms σ (AtField w) = None

  pub misused_keys : List Name → Scope → Keys → Option Misuse
  misused_keys ms σ no_keys = None
  misused_keys ms σ (key k ks) = or_else (misused_key ms σ k) (misused_keys ms σ ks)

  pub misused_updates : List Name → Scope → Updates → Option Misuse
  misused_updates ms σ no_updates = None
  misused_updates ms σ (update ks e us) = or_else (misused_keys ms σ ks) (or_else (misused ms σ e) (misused_updates ms σ us))

  -- a definition doesn't see its own name
  pub misused_definition : List Name → Scope → Definition → Option Misuse
  misused_definition ms σ (DefinesOperator w ps e) = or_else (new_name σ w) (or_else (brought σ [] ps) (misused ms (σ ++ plain (words ps)) e))
  misused_definition ms σ (DefinesFunction w bs e) = or_else (new_name σ w) (or_else (misused_sets ms σ [] bs) (misused ms (σ ++ plain (bound_names bs)) e))

  -- each sees those before it
  pub misused_definitions : List Name → Scope → Definitions → Option Misuse
  misused_definitions ms σ undefined = None
  misused_definitions ms σ (defined d ds) = or_else (misused_definition ms σ d) (misused_definitions ms (σ ++ signature d ∷ []) ds)
