-- A value is written in one way.
use Rattle.std.proofs.Common.{◌≡◌, ℕ, ◌+◌, true, List, Some, None, inl, inr, slice_get, refl, sym, ap, subst, ◌∙◌}
use Rattle.tla_lex.specs.declared.token.Kind.{Kind}
use Rattle.tla_lex.specs.declared.token.Kind.TheVariants as k
use Rattle.tla_lex.specs.declared.token.Token.{Token}
use Rattle.tla_tree.specs.Words.{word_of}
use Rattle.tla_value.specs.Tree.{Tree, int}
use Rattle.tla_config.specs.Configuration.{Has, IsAtom, SpellsLiteral, SpellsMembers}
use Rattle.tla_config.specs.Literals.{Literal, Literals, atom, braces, no_literals, more_literals, number, atom_by, atom_of}
use Rattle.tla_config.proofs.Fronts.{one_token}

-- a kind that no value begins with
abbrev pub BeginsNone : Kind → Type 0
BeginsNone kind = ((source : List ℕ) (t : Token) → atom_by source t kind ≡ None) × (kind ≡ k.Minus → ⊥) × (kind ≡ k.LeftBrace → ⊥)

pub right_brace_none : BeginsNone k.RightBrace
right_brace_none = (λ source t. refl, λ e. let z : ⊥ = cc in z, λ e. let z : ⊥ = cc in z)

module _ (text : List ℕ) (ts : List Token) where
  -- tokens of two kinds do not stand in one place
  pub two_kinds : (at : ℕ) (i j : Kind) → (i ≡ j → ⊥) → Has text ts i at → Has text ts j at → ⊥
  two_kinds at i j no_same x y =
      let e = one_token (slice_get ts at) x.0 y.0 x.1 y.1 in
      no_same (sym x.2 ∙ ap (λ (t : Token). t.kind) e ∙ y.2)

  comma_brace : (at : ℕ) → Has text ts k.Comma at → Has text ts k.RightBrace at → ⊥
  comma_brace at x y = two_kinds at k.Comma k.RightBrace (λ e. let z : ⊥ = cc in z) x y

  -- an atom of such a kind
  pub atom_kind : (at : ℕ) (kind : Kind) (t : Token) (v : Tree) → ((source : List ℕ) (u : Token) → atom_by source u kind ≡ None) → Has text ts kind at → slice_get ts at ≡ Some t → atom_of text t ≡ Some v → ⊥
  atom_kind at kind t v none x g a =
      let e = one_token (slice_get ts at) x.0 t x.1 g in
      let f : t.kind ≡ kind = ap (λ (u : Token). u.kind) (sym e) ∙ x.2 in
      let n : atom_of text t ≡ None = ap (λ c. atom_by text t c) f ∙ none text t in
      (let z : ⊥ = cc in z)

  none_begins : (at : ℕ) (kind : Kind) → BeginsNone kind → Has text ts kind at → (l : Literal) (to : ℕ) → SpellsLiteral text ts l at to → ⊥
  none_begins at kind n x (atom v) to (inl a) = atom_kind at kind a.0 v n.0 x a.1 a.2
  none_begins at kind n x (atom v) to (inr a) = two_kinds at kind k.Minus n.1 x a.0
  none_begins at kind n x (braces no_literals) to a = two_kinds at kind k.LeftBrace n.2 x a.0
  none_begins at kind n x (braces (more_literals l ls)) to a = two_kinds at kind k.LeftBrace n.2 x a.0

  pub brace_begins_none : (at : ℕ) (l : Literal) (to : ℕ) → Has text ts k.RightBrace at → SpellsLiteral text ts l at to → ⊥
  brace_begins_none at l to x a = none_begins at k.RightBrace right_brace_none x l to a

  minus_none : (source : List ℕ) (t : Token) → atom_by source t k.Minus ≡ None
  minus_none source t = refl

  left_brace_none : (source : List ℕ) (t : Token) → atom_by source t k.LeftBrace ≡ None
  left_brace_none source t = refl

  -- a brace opens a set
  pub atom_no_brace : (at to : ℕ) (v : Tree) → Has text ts k.LeftBrace at → IsAtom text ts v at to → ⊥
  atom_no_brace at to v x (inl a) = atom_kind at k.LeftBrace a.0 v left_brace_none x a.1 a.2
  atom_no_brace at to v x (inr a) = two_kinds at k.LeftBrace k.Minus (λ e. let z : ⊥ = cc in z) x a.0

  pub opens : (ls : Literals) (at to : ℕ) → SpellsLiteral text ts (braces ls) at to → Has text ts k.LeftBrace at
  opens no_literals at to a = a.0
  opens (more_literals l ls) at to a = a.0

  some_tree : (u v : Tree) → Some u ≡ Some v → u ≡ v
  some_tree u v h = cc

  one_atom : (at to end : ℕ) (u v : Tree) → IsAtom text ts u at to → IsAtom text ts v at end → (u ≡ v) × (to ≡ end)
  one_atom at to end u v (inl a) (inl b) =
      let e = one_token (slice_get ts at) a.0 b.0 a.1 b.1 in
      (some_tree u v (sym a.2 ∙ ap (λ t. atom_of text t) e ∙ b.2), a.3 ∙ sym b.3)
  one_atom at to end u v (inl a) (inr b) = absurd (atom_kind at k.Minus a.0 u minus_none b.0 a.1 a.2)
  one_atom at to end u v (inr a) (inl b) = absurd (atom_kind at k.Minus b.0 v minus_none a.0 b.1 b.2)
  one_atom at to end u v (inr a) (inr b) =
      let e = one_token (slice_get ts (at + 1)) a.1 b.1 a.2 b.2 in
      (a.4 ∙ ap (λ t. int (number true (word_of text t))) e ∙ sym b.4, a.5 ∙ sym b.5)

  mutual
    pub one_literal : (l m : Literal) (at to end : ℕ) → SpellsLiteral text ts l at to → SpellsLiteral text ts m at end → (l ≡ m) × (to ≡ end)
    one_literal (atom u) (atom v) at to end a b = let e = one_atom at to end u v a b in (ap (λ x. atom x) e.0, e.1)
    one_literal (atom u) (braces ms) at to end a b = absurd (atom_no_brace at to u (opens ms at end b) a)
    one_literal (braces ls) (atom v) at to end a b = absurd (atom_no_brace at end v (opens ls at to a) b)
    one_literal (braces no_literals) (braces no_literals) at to end a b = (refl, a.2 ∙ sym b.2)
    one_literal (braces no_literals) (braces (more_literals m ms)) at to end a b = absurd (brace_begins_none (at + 1) m b.1 a.1 b.2)
    one_literal (braces (more_literals l ls)) (braces no_literals) at to end a b = absurd (brace_begins_none (at + 1) l a.1 b.1 a.2)
    one_literal (braces (more_literals l ls)) (braces (more_literals m ms)) at to end a b =
        let e = one_literal l m (at + 1) a.1 b.1 a.2 b.2 in
        let f = one_members ls ms a.1 b.1 to end e.1 a.3 b.3 in
        let p = e.0 in
        let q = f.0 in
        (λ i. braces (more_literals (p i) (q i)), f.1)

    one_members : (ls ms : Literals) (at from to end : ℕ) → at ≡ from → SpellsMembers text ts ls at to → SpellsMembers text ts ms from end → (ls ≡ ms) × (to ≡ end)
    one_members no_literals no_literals at from to end h a b = (refl, a.1 ∙ ap (λ n. n + 1) h ∙ sym b.1)
    one_members no_literals (more_literals m ms) at from to end h a b = absurd (comma_brace from b.0 (subst (λ n. Has text ts k.RightBrace n) h a.0))
    one_members (more_literals l ls) no_literals at from to end h a b = absurd (comma_brace from (subst (λ n. Has text ts k.Comma n) h a.0) b.0)
    one_members (more_literals l ls) (more_literals m ms) at from to end h a b =
        let x = subst (λ n. SpellsLiteral text ts l n a.1) (ap (λ n. n + 1) h) a.2 in
        let e = one_literal l m (from + 1) a.1 b.1 x b.2 in
        let f = one_members ls ms a.1 b.1 to end e.1 a.3 b.3 in
        let p = e.0 in
        let q = f.0 in
        (λ i. more_literals (p i) (q i), f.1)
