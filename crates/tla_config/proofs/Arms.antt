-- Statements by their words.
use Rattle.std.proofs.Common.{◌≡◌, ℕ, ◌+◌, List, Some, None, inl, inr, slice_get, codes, refl, sym, ap, ◌∙◌}
use Rattle.tla_lex.specs.declared.token.Kind.TheVariants as k
use Rattle.tla_lex.specs.declared.token.Place.{Place}
use Rattle.tla_lex.specs.declared.token.Token.{Token}
use Rattle.tla_tree.specs.Words.{word_of}
use Rattle.tla_config.specs.declared.keyword.Keyword.{Keyword}
use Rattle.tla_config.specs.declared.keyword.Keyword.TheVariants as word
use Rattle.tla_config.specs.declared.refusal.Refusal.{Refusal}
use Rattle.tla_config.specs.declared.refusal.Refusal.TheVariants as refusal
use Rattle.tla_config.specs.Configuration.{Has, SpellsStatement}
use Rattle.tla_config.specs.Private.Fronts.{keyword_of}
use Rattle.tla_config.specs.Private.Gives.{Because, Fails, NoStatement, LeftOutAfter, TooLargeAfter, ClearItems, LeftOutIn, TooLargeIn, ClearStatement}
use Rattle.tla_config.specs.Refusals.{IsLeftOutWord}
use Rattle.tla_config.specs.Statements.{Statement, Specification, Init, Next, Invariants, Constraints, Constants, CheckDeadlock}
use Rattle.tla_config.proofs.Fronts.{Opens, same_pair, keyword_found, begins_is, constants_is}
use Rattle.tla_config.proofs.Words.{left_out_word, constants_no_word, left_out_is}

-- the word and the place of a statement
abbrev pub word_for : Statement → Keyword
word_for (Specification p w) = word.Specification
word_for (Init p w) = word.Init
word_for (Next p w) = word.Next
word_for (Invariants p ws) = word.Invariants
word_for (Constraints p ws) = word.Constraints
word_for (Constants p is) = word.Constants
word_for (CheckDeadlock p check) = word.CheckDeadlock

abbrev pub place_for : Statement → Place
place_for (Specification p w) = p
place_for (Init p w) = p
place_for (Next p w) = p
place_for (Invariants p ws) = p
place_for (Constraints p ws) = p
place_for (Constants p is) = p
place_for (CheckDeadlock p check) = p

pub fails_map : (text : List ℕ) (ts : List Token) (r : Refusal) (P Q : Type 0) → (P → Q) → Fails text ts r P → Fails text ts r Q
fails_map text ts (refusal.Unexpected at) P Q f x = f x
fails_map text ts (refusal.LeftOut at) P Q f x = f x
fails_map text ts (refusal.TooLarge at) P Q f x = f x
fails_map text ts refusal.NoMemory P Q f x = tt

pub because_map : (r : Refusal) (L M N O : ℕ → Type 0) (P Q : Type 0) → ((at : ℕ) → L at → N at) → ((at : ℕ) → M at → O at) → (P → Q) → Because r L M P → Because r N O Q
because_map (refusal.Unexpected at) L M N O P Q l m p x = p x
because_map (refusal.LeftOut at) L M N O P Q l m p x = l at x
because_map (refusal.TooLarge at) L M N O P Q l m p x = m at x
because_map refusal.NoMemory L M N O P Q l m p x = tt

constants_not_left : word.Constants ≡ word.LeftOut → ⊥
constants_not_left h = (let z : ⊥ = cc in z)

module _ (text : List ℕ) (ts : List Token) (at : ℕ) where
  pub spelled_front : (c : Statement) (to : ℕ) → SpellsStatement text ts c at to → keyword_of text (slice_get ts at) ≡ Some (word_for c, place_for c)
  spelled_front (Specification p w) to x = begins_is text ts at p (codes "SPECIFICATION") word.Specification refl x.0
  spelled_front (Init p w) to x = begins_is text ts at p (codes "INIT") word.Init refl x.0
  spelled_front (Next p w) to x = begins_is text ts at p (codes "NEXT") word.Next refl x.0
  spelled_front (Invariants p ws) to x = elim x.0 [
    | inl b ↦ begins_is text ts at p (codes "INVARIANT") word.Invariants refl b
    | inr b ↦ begins_is text ts at p (codes "INVARIANTS") word.Invariants refl b
  ]
  spelled_front (Constraints p ws) to x = elim x.0 [
    | inl b ↦ begins_is text ts at p (codes "CONSTRAINT") word.Constraints refl b
    | inr b ↦ begins_is text ts at p (codes "CONSTRAINTS") word.Constraints refl b
  ]
  spelled_front (Constants p is) to x = constants_is text ts at p x.0
  spelled_front (CheckDeadlock p check) to x = begins_is text ts at p (codes "CHECK_DEADLOCK") word.CheckDeadlock refl x.0

  same : (j : Keyword) (p : Place) → keyword_of text (slice_get ts at) ≡ Some (j, p) → (c : Statement) (to : ℕ) → SpellsStatement text ts c at to → word_for c ≡ j
  same j p h c to x = ap (λ (z : Keyword × Place). z.0) (same_pair (word_for c, place_for c) (j, p) (sym (spelled_front c to x) ∙ h))

  other : (p : Place) → keyword_of text (slice_get ts at) ≡ Some (word.LeftOut, p) → (c : Statement) (to : ℕ) → SpellsStatement text ts c at to → (word_for c ≡ word.LeftOut → ⊥) → ⊥
  other p h c to x f = f (same word.LeftOut p h c to x)

  module _ (p : Place) where
    -- a statement that is left out
    pub left_out_none : keyword_of text (slice_get ts at) ≡ Some (word.LeftOut, p) → (c : Statement) (to : ℕ) → SpellsStatement text ts c at to → ⊥
    left_out_none h (Specification q v) to x = other p h (Specification q v) to x (λ g. let z : ⊥ = cc in z)
    left_out_none h (Init q v) to x = other p h (Init q v) to x (λ g. let z : ⊥ = cc in z)
    left_out_none h (Next q v) to x = other p h (Next q v) to x (λ g. let z : ⊥ = cc in z)
    left_out_none h (Invariants q vs) to x = other p h (Invariants q vs) to x (λ g. let z : ⊥ = cc in z)
    left_out_none h (Constraints q vs) to x = other p h (Constraints q vs) to x (λ g. let z : ⊥ = cc in z)
    left_out_none h (Constants q is) to x = other p h (Constants q is) to x (λ g. let z : ⊥ = cc in z)
    left_out_none h (CheckDeadlock q b) to x = other p h (CheckDeadlock q b) to x (λ g. let z : ⊥ = cc in z)

    pub left_out : keyword_of text (slice_get ts at) ≡ Some (word.LeftOut, p) → NoStatement text ts at
    left_out h c to x e = left_out_none h c to x

    opens_left_out : (t : Token) → slice_get ts at ≡ Some t → Opens text ts t word.LeftOut → IsLeftOutWord text ts at
    opens_left_out t e (inl n) = (t, e, n.0, left_out_word (word_of text t) n.1)
    opens_left_out t e (inr n) = (let q = n.1 in let z : ⊥ = cc in absurd z)

    -- its word
    pub left_out_here : keyword_of text (slice_get ts at) ≡ Some (word.LeftOut, p) → LeftOutIn text ts at at
    left_out_here h = let f = keyword_found text ts at word.LeftOut p h in inl (opens_left_out f.0 f.1 f.3, refl)

  pub left_out_front : (w : IsLeftOutWord text ts at) → keyword_of text (slice_get ts at) ≡ Some (word.LeftOut, w.0.place)
  left_out_front w = let n = left_out_is (word_of text w.0) w.3 in rw (w.1, w.2, n) refl

  constant_front : (x : Has text ts k.Constant at) → keyword_of text (slice_get ts at) ≡ Some (word.Constants, x.0.place)
  constant_front x = constants_is text ts at x.0.place (x.0, x.1, x.2, refl)

  opens_constant : (t : Token) → slice_get ts at ≡ Some t → Opens text ts t word.Constants → Has text ts k.Constant at
  opens_constant t e (inl n) = absurd (constants_no_word (word_of text t) n.1)
  opens_constant t e (inr n) = (t, e, n.0)

  constant_found : (p : Place) → keyword_of text (slice_get ts at) ≡ Some (word.Constants, p) → Has text ts k.Constant at
  constant_found p h = let f = keyword_found text ts at word.Constants p h in opens_constant f.0 f.1 f.3

  one_word : (i j : Keyword) (p q : Place) → keyword_of text (slice_get ts at) ≡ Some (i, p) → keyword_of text (slice_get ts at) ≡ Some (j, q) → i ≡ j
  one_word i j p q h e = ap (λ (z : Keyword × Place). z.0) (same_pair (i, p) (j, q) (sym h ∙ e))

  none_left : (IsLeftOutWord text ts at → ⊥) → (Has text ts k.Constant at → ClearItems text ts (at + 1)) → (n : ℕ) → LeftOutIn text ts at n → ⊥
  none_left f g n (inl x) = f x.0
  none_left f g n (inr x) = (g x.0).no_left n x.1

  -- nothing is left out in the statement, nor too large
  clear_statement : (IsLeftOutWord text ts at → ⊥) → (Has text ts k.Constant at → ClearItems text ts (at + 1)) → ClearStatement text ts at
  clear_statement f g = record { no_left = none_left f g; no_large = λ n x. (g x.0).no_large n x.1 }

  pub clear_none : keyword_of text (slice_get ts at) ≡ None → ClearStatement text ts at
  clear_none h = clear_statement (λ w. let f = left_out_front w in (let z : ⊥ = cc in z)) (λ x. let f = constant_front x in (let z : ⊥ = cc in absurd z))

  -- its items are so
  pub clear_constants : (p : Place) → keyword_of text (slice_get ts at) ≡ Some (word.Constants, p) → ClearItems text ts (at + 1) → ClearStatement text ts at
  clear_constants p h f = clear_statement (λ w. constants_not_left (one_word word.Constants word.LeftOut p w.0.place h (left_out_front w))) (λ x. f)

  pub constants_because : (r : Refusal) (p : Place) → keyword_of text (slice_get ts at) ≡ Some (word.Constants, p) → Because r (LeftOutAfter text ts (at + 1)) (TooLargeAfter text ts (at + 1)) (ClearItems text ts (at + 1))
      → Because r (LeftOutIn text ts at) (TooLargeIn text ts at) (ClearStatement text ts at)
  constants_because r p h x = let b = constant_found p h in because_map r (LeftOutAfter text ts (at + 1)) (TooLargeAfter text ts (at + 1)) (LeftOutIn text ts at) (TooLargeIn text ts at) (ClearItems text ts (at + 1)) (ClearStatement text ts at)
      (λ n y. inr (b, y)) (λ n y. (b, y)) (clear_constants p h) x
