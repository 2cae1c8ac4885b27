-- How the reading of an expression comes by its tree.
use Rattle.std.proofs.Common.{◌≡◌, ℕ, zero, suc, ◌+◌, ◌-◌, ◌<◌, ◌≤◌, Bool, true, false, List, Some, None, Ok, refl, ◌∙◌, arith}
use Rattle.tla_lex.specs.declared.token.Token.{Token}
use Rattle.tla_lex.specs.declared.token.Kind.{Kind}
use Rattle.tla_lex.specs.declared.token.Kind.TheVariants as k
use Rattle.tla_grammar.specs.declared.context.Context.{Context}
use Rattle.tla_grammar.specs.declared.tokens.Postfix.{Postfix}
use Rattle.tla_tree.specs.Tree.{Tree, Name, Trees, Binders, Arms, Other, Definition, Definitions, none, more, unbound, bound, no_arms, arm, no_other, other, DefinesOperator, DefinesFunction, undefined, defined, Fields, Key, Keys, Updates, no_fields, field, AtIndex, AtField, no_keys, key, no_updates, update}
use Rattle.tla_grammar.specs.Edges.{top_above, is_closed, depth}
use Rattle.tla_grammar.specs.Tokens.{seen, goes_on, Has}
use Rattle.tla_grammar.specs.Kinds.{kind_at}
use Rattle.tla_grammar.specs.Grammar.{Spells}
use Rattle.tla_grammar.specs.Ending.{above, infix_at, may_end}
use Rattle.tla_grammar.specs.Marks.{postfix_at}
use Rattle.tla_expressions.specs.Reading.{behind, postfix, climb, operand, level, expr}
use Rattle.tla_expressions.proofs.Steps.{postfix_more, postfix_done, climb_done}
use Rattle.tla_expressions.proofs.Follow.{end_postfix, end_call, end_plain, stops_plain}
use Rattle.tla_expressions.proofs.Shapes.{spine, spine_depth, tails, tails_depth, top_zero, advances}

abbrev pub is_name : Tree → Bool
is_name (Name _) = true
is_name _ = false

module _ (text : List ℕ) (ts : List Token) where
  -- The next token doesn't go on with the tree.
  abbrev pub Fits : Context → Tree → ℕ → Type 0
  Fits s t at = may_end t (seen ts s.column at) ≡ true

  -- No operator above the floor comes next.
  abbrev pub Stops : Context → ℕ → ℕ → Type 0
  Stops s floor at = above floor (infix_at (seen ts s.column at)) ≡ None

  -- No arguments come next.
  abbrev pub NoCall : Context → ℕ → Type 0
  NoCall s at = kind_at k.LeftParen (seen ts s.column at) ≡ false

  -- the reading comes by this tree
  abbrev pub Comes : Tree → Type 0
  Comes t = (n : ℕ) (s : Context) (floor from to : ℕ) → Spells text ts s t from to → Fits s t to → top_above floor t ≡ true → depth t ≤ suc n
      → expr text ts (suc n) s floor from ≡ climb text ts (expr text ts n) (n - spine t) (n + 1) s floor t to

  -- a closed form is read up to its postfix forms
  abbrev pub Stands : Tree → Type 0
  Stands t = (n : ℕ) (s : Context) (from to : ℕ) → Spells text ts s t from to → is_closed t ≡ true → depth t ≤ n + 1 → (is_name t ≡ true → NoCall s to)
      → operand text ts (expr text ts n) (n + 1) s from ≡ postfix text ts (expr text ts n) (n + 1 - tails t) (n + 1) s t to

  -- a closed form that is no postfix form
  abbrev pub Opens : Tree → Type 0
  Opens t = (n : ℕ) (s : Context) (from to : ℕ) → Spells text ts s t from to → depth t ≤ n + 1 → (is_name t ≡ true → NoCall s to)
      → operand text ts (expr text ts n) (n + 1) s from ≡ postfix text ts (expr text ts n) (n + 1) (n + 1) s t to

  pub record Both (t : Tree) : Type 0 where
    pub comes : Comes t
    pub stands : Stands t

  abbrev pub AllCome : Trees → Type 0
  AllCome none = Unit {0}
  AllCome (more e es) = Comes e × AllCome es

  abbrev pub AllBound : Binders → Type 0
  AllBound unbound = Unit {0}
  AllBound (bound ws e bs) = Comes e × AllBound bs

  abbrev pub AllArms : Arms → Type 0
  AllArms no_arms = Unit {0}
  AllArms (arm g e cs) = Comes g × Comes e × AllArms cs

  abbrev pub OtherComes : Other → Type 0
  OtherComes no_other = Unit {0}
  OtherComes (other e) = Comes e

  abbrev pub DefinitionComes : Definition → Type 0
  DefinitionComes (DefinesOperator w ws e) = Comes e
  DefinitionComes (DefinesFunction w bs e) = AllBound bs × Comes e

  abbrev pub AllDefined : Definitions → Type 0
  AllDefined undefined = Unit {0}
  AllDefined (defined d ds) = DefinitionComes d × AllDefined ds

  abbrev pub AllFields : Fields → Type 0
  AllFields no_fields = Unit {0}
  AllFields (field w e fs) = Comes e × AllFields fs

  abbrev pub KeyComes : Key → Type 0
  KeyComes (AtIndex es) = AllCome es
  KeyComes (AtField w) = Unit {0}

  abbrev pub AllKeys : Keys → Type 0
  AllKeys no_keys = Unit {0}
  AllKeys (key x ks) = KeyComes x × AllKeys ks

  abbrev pub AllUpdates : Updates → Type 0
  AllUpdates no_updates = Unit {0}
  AllUpdates (update ks e us) = AllKeys ks × Comes e × AllUpdates us

  pub finish : (t : Tree) → Comes t → (n : ℕ) (s : Context) (floor from to : ℕ) → Spells text ts s t from to → Fits s t to → top_above floor t ≡ true → depth t ≤ n → Stops s floor to
      → expr text ts n s floor from ≡ Ok (t, to)
  finish t h zero s floor from to x f a d z = absurd (let y = spine_depth t in omega (arith, y, d))
  finish t h (suc n) s floor from to x f a d z = h n s floor from to x f a d ∙ climb_done text ts (expr text ts n) (n - spine t) (n + 1) s floor t to z

  -- where the operand is whole, the reading comes by it
  pub by_operand : (t : Tree) (n : ℕ) (s : Context) (floor from to : ℕ) → spine t ≡ 0 → operand text ts (expr text ts n) (n + 1) s from ≡ Ok (t, to)
      → expr text ts (suc n) s floor from ≡ climb text ts (expr text ts n) (n - spine t) (n + 1) s floor t to
  unfolding expr level
  by_operand t n s floor from to x h = let z : n - spine t ≡ n = omega (arith, x) in rw (h, z) refl

  closed_comes : (t : Tree) → is_closed t ≡ true → spine t ≡ 0 → Stands t → Comes t
  closed_comes t c z h n s floor from to x f a d =
      by_operand t n s floor from to z
      (h n s from to x c (omega (arith, d)) (λ w. end_call t (seen ts s.column to) f) ∙ postfix_done text ts (expr text ts n) (n + 1 - tails t) (n + 1) s t to (end_postfix t (seen ts s.column to) f))

  pub closed_both : (t : Tree) → is_closed t ≡ true → spine t ≡ 0 → Stands t → Both t
  closed_both t c z h = record { comes = closed_comes t c z h; stands = h }

  pub opens_both : (t : Tree) → is_closed t ≡ true → spine t ≡ 0 → tails t ≡ 0 → Opens t → Both t
  opens_both t c z e h = closed_both t c z (λ n s from to x cl d nc. let m : n + 1 - tails t ≡ n + 1 = omega (arith, e) in rw m (h n s from to x d nc))

  -- one postfix form more
  pub behind_stands : (t u : Tree) → Stands t → tails u ≡ tails t + 1 → (n : ℕ) (s : Context) (from mid to : ℕ) (v : Postfix) → Spells text ts s t from mid → is_closed t ≡ true → depth t ≤ n → NoCall s mid
      → postfix_at (seen ts s.column mid) ≡ Some v → behind text ts (expr text ts n) (n + 1) s t v mid ≡ Ok (u, to)
      → operand text ts (expr text ts n) (n + 1) s from ≡ postfix text ts (expr text ts n) (n + 1 - tails u) (n + 1) s u to
  behind_stands t u h e n s from mid to v x c d nc p b =
      let l = tails_depth t in
      let m : n + 1 - tails t ≡ (n + 1 - tails u) + 1 = omega (arith, e, l, d) in
      h n s from mid x c (omega (arith, d)) (λ w. nc) ∙ postfix_more text ts (expr text ts n) (n + 1 - tails t) (n + 1 - tails u) (n + 1) s t mid v u to m p b

  -- an expression that is read whole
  abbrev pub ReadAt : ℕ → Context → Tree → ℕ → ℕ → Type 0
  ReadAt n s e from to = (expr text ts n s 0 from ≡ Ok (e, to)) × (from < to)

  -- before a token that goes on with nothing
  pub before_plain : (e : Tree) → Comes e → (n : ℕ) (s : Context) (from to : ℕ) (kind : Kind) → Spells text ts s e from to → Has ts s.column kind to → goes_on kind ≡ false → depth e ≤ n → ReadAt n s e from to
  before_plain e h n s from to kind x has plain d =
      (finish e h n s 0 from to x (end_plain e ts s.column to kind has plain) (top_zero e) d (stops_plain ts s.column 0 to kind has plain), advances text ts e s from to x)
