-- Where a value that is written ends, found from the left.
use Rattle.std.proofs.Common.{◌≡◌, ◌<◌, ◌↔◌, ℕ, zero, suc, ◌+◌, Bool, true, false, true≢false, not, ◌&&◌, List, Option, Some, None, inl, inr, slice_get, refl, sym, ap, subst, ◌∙◌, arith}
use Rattle.tla_lex.specs.declared.token.Kind.{Kind}
use Rattle.tla_lex.specs.declared.token.Kind.TheVariants as k
use Rattle.tla_lex.specs.declared.token.Token.{Token}
use Rattle.tla_tree.specs.Words.{word_of}
use Rattle.tla_lex.specs.StringLoops.{string_text}
use Rattle.tla_value.specs.Tree.{Tree, truth, int, model}
use Rattle.tla_value.specs.Tree.{text as text_of}
use Rattle.tla_config.specs.declared.keyword.Keyword.{Keyword}
use Rattle.tla_config.specs.Names.{is_among, statement_words}
use Rattle.tla_config.specs.Configuration.{Has, SpellsLiteral, SpellsMembers}
use Rattle.tla_config.specs.Literals.{Literal, Literals, atom, braces, no_literals, more_literals, number, model_value, atom_by}
use Rattle.tla_config.specs.Private.Fronts.{kind_at, digits_of}
use Rattle.tla_config.specs.Private.Keywords.{keywords, lookup}
use Rattle.tla_config.specs.Private.LiteralEnds.{is_free, writes_by, writes_value, opens_members, EndsAt, NoneEnds, Completes, Begun}
use Rattle.tla_config.proofs.Atoms.{no_spelled, negated_unwritten}
use Rattle.tla_config.proofs.Fronts.{kind_found, kind_none, digits_found}
use Rattle.tla_config.proofs.Words.{name_word, name_is_none}
use Rattle.tla_config.proofs.Literals.{two_kinds, atom_no_brace, one_literal}

opened : (a b : Bool) → (a && not b) ≡ true → (a ≡ true) × (b ≡ false)
opened true true h = absurd (let z : ⊥ = cc in z)
opened true false h = (refl, refl)
opened false b h = absurd (let z : ⊥ = cc in z)

empty : (a b : Bool) → (a && not b) ≡ false → a ≡ true → b ≡ true
empty true true h e = refl
empty true false h e = absurd (let z : ⊥ = cc in z)
empty false b h e = absurd (let z : ⊥ = cc in z)

name_none : (w : List ℕ) (b : Bool) → is_among w statement_words ≡ b → is_free (lookup keywords w) ≡ false → model_value w ≡ None
name_none w true e h = rw e refl
name_none w false e h = absurd (true≢false (sym (ap is_free (name_is_none w e)) ∙ h))

free_none : (o : Option Keyword) → is_free o ≡ true → o ≡ None
free_none None h = refl
free_none (Some j) h = absurd (true≢false (sym h))

name_some : (w : List ℕ) → is_free (lookup keywords w) ≡ true → model_value w ≡ Some (model w)
name_some w h = rw (name_word w (free_none (lookup keywords w) h)) refl

written : (text : List ℕ) (t : Token) (kind : Kind) → writes_by text t kind ≡ true → (v : Tree) × (atom_by text t kind ≡ Some v)
written text t k.True h = (truth true, refl)
written text t k.False h = (truth false, refl)
written text t k.Digits h = (int (number false (word_of text t)), refl)
written text t k.Text h = (text_of (string_text (word_of text t)), refl)
written text t k.Name h = (model (word_of text t), name_some (word_of text t) h)
written text t _ h = absurd (true≢false (sym h))

unwritten : (text : List ℕ) (t : Token) (kind : Kind) → writes_by text t kind ≡ false → atom_by text t kind ≡ None
unwritten text t k.True h = absurd (true≢false h)
unwritten text t k.False h = absurd (true≢false h)
unwritten text t k.Digits h = absurd (true≢false h)
unwritten text t k.Text h = absurd (true≢false h)
unwritten text t k.Name h = name_none (word_of text t) (is_among (word_of text t) statement_words) refl h
unwritten text t _ h = refl

module _ (text : List ℕ) (ts : List Token) where
  comma_no_brace : (at : ℕ) → Has text ts k.Comma at → Has text ts k.RightBrace at → ⊥
  comma_no_brace at x y = two_kinds text ts at k.Comma k.RightBrace (λ e. let z : ⊥ = cc in z) x y

  -- where no set is open
  pub begun_whole : (from to : ℕ) → Begun text ts 0 from to ↔ EndsAt text ts from to
  begun_whole from to = (λ h. (h.0, subst (λ n. SpellsLiteral text ts h.0 from n) h.3 h.2), λ h. (h.0, to, h.1, refl))

  -- a set with a member opens
  inside : (n at to : ℕ) (l : Literal) (mid : ℕ) → (Has text ts k.RightBrace (at + 1) → ⊥) → Has text ts k.LeftBrace at → SpellsLiteral text ts l at mid → Completes text ts n mid to → Begun text ts (suc n) (at + 1) to
  inside n at to (atom v) mid none brace x c = absurd (atom_no_brace text ts at mid v brace x)
  inside n at to (braces no_literals) mid none brace x c = absurd (none x.1)
  inside n at to (braces (more_literals l ls)) mid none brace x c = (l, x.1, x.2, (ls, mid, x.3, c))

  pub begun_opens : (n at to : ℕ) → opens_members (slice_get ts at) (slice_get ts (at + 1)) ≡ true → Begun text ts (suc n) (at + 1) to ↔ Begun text ts n at to
  begun_opens n at to h =
      let two = opened (kind_at k.LeftBrace (slice_get ts at)) (kind_at k.RightBrace (slice_get ts (at + 1))) h in
      let brace = kind_found k.LeftBrace (slice_get ts at) two.0 in
      let none : Has text ts k.RightBrace (at + 1) → ⊥ = kind_none text ts k.RightBrace (at + 1) refl two.1 in (
        λ g. (braces (more_literals g.0 g.3.0), g.3.1, (brace, g.1, g.2, g.3.2), g.3.3),
        λ g. inside n at to g.0 g.1 none brace g.2 g.3,
      )

  -- a value that is written whole
  pub begun_part : (n at end to : ℕ) → EndsAt text ts at end → Completes text ts n end to ↔ Begun text ts n at to
  begun_part n at end to x = (
    λ c. (x.0, end, x.1, c),
    λ g. subst (λ m. Completes text ts n m to) (one_literal text ts g.0 x.0 at g.1 end g.2 x.1).1 g.3,
  )

  pub begun_none : (n at to : ℕ) → NoneEnds text ts at → Begun text ts n at to → ⊥
  begun_none n at to f g = f g.0 g.1 g.2

  -- the brace that closes a set
  past : (n at to : ℕ) (ls : Literals) (mid : ℕ) → Has text ts k.RightBrace at → SpellsMembers text ts ls at mid → Completes text ts n mid to → Completes text ts n (at + 1) to
  past n at to no_literals mid close x c = subst (λ m. Completes text ts n m to) x.1 c
  past n at to (more_literals l ls) mid close x c = absurd (comma_no_brace at x.0 close)

  pub completes_close : (n at to : ℕ) → Has text ts k.RightBrace at → Completes text ts n (at + 1) to ↔ Completes text ts (suc n) at to
  completes_close n at to close = (
    λ c. (no_literals, at + 1, (close, refl), c),
    λ c. past n at to c.0 c.1 close c.2 c.3,
  )

  -- a comma, after which a member begins
  after_comma : (n at to : ℕ) (ls : Literals) (mid : ℕ) → Has text ts k.Comma at → SpellsMembers text ts ls at mid → Completes text ts n mid to → Begun text ts (suc n) (at + 1) to
  after_comma n at to no_literals mid comma x c = absurd (comma_no_brace at comma x.0)
  after_comma n at to (more_literals l ls) mid comma x c = (l, x.1, x.2, (ls, mid, x.3, c))

  pub completes_comma : (n at to : ℕ) → 0 < n → Has text ts k.Comma at → Begun text ts n (at + 1) to ↔ Completes text ts n at to
  completes_comma zero at to l comma = absurd (omega arith)
  completes_comma (suc n) at to l comma = (
    λ g. (more_literals g.0 g.3.0, g.3.1, (comma, g.1, g.2, g.3.2), g.3.3),
    λ c. after_comma n at to c.0 c.1 comma c.2 c.3,
  )

  -- neither
  neither : (at mid : ℕ) (ls : Literals) → (Has text ts k.Comma at → ⊥) → (Has text ts k.RightBrace at → ⊥) → SpellsMembers text ts ls at mid → ⊥
  neither at mid no_literals f g x = g x.0
  neither at mid (more_literals l ls) f g x = f x.0

  pub completes_none : (n at to : ℕ) → 0 < n → (Has text ts k.Comma at → ⊥) → (Has text ts k.RightBrace at → ⊥) → Completes text ts n at to → ⊥
  completes_none zero at to l f g c = absurd (omega arith)
  completes_none (suc n) at to l f g c = neither at c.1 c.0 f g c.2

  -- no token is there
  pub past_none : (at : ℕ) → slice_get ts at ≡ None → NoneEnds text ts at
  past_none at h (atom v) to (inl a) = let e = a.1 in (let z : ⊥ = cc in z)
  past_none at h (atom v) to (inr a) = let e = a.0.1 in (let z : ⊥ = cc in z)
  past_none at h (braces no_literals) to a = let e = a.0.1 in (let z : ⊥ = cc in z)
  past_none at h (braces (more_literals l ls)) to a = let e = a.0.1 in (let z : ⊥ = cc in z)

  -- a value of one token, or after a minus sign
  pub minus_ends : (at : ℕ) (t : Token) → kind_at k.Minus (slice_get ts at) ≡ true → digits_of (slice_get ts (at + 1)) ≡ Some t → EndsAt text ts at (at + 2)
  minus_ends at t m h =
      let d = digits_found (slice_get ts (at + 1)) t h in
      (atom (int (number true (word_of text t))), inr (kind_found k.Minus (slice_get ts at) m, t, d.0, d.1, refl, refl))

  pub minus_none : (at : ℕ) → kind_at k.Minus (slice_get ts at) ≡ true → digits_of (slice_get ts (at + 1)) ≡ None → NoneEnds text ts at
  minus_none at m h = (negated_unwritten text ts at m h 0).no_literal

  pub token_ends : (at : ℕ) (t : Token) → slice_get ts at ≡ Some t → writes_value text t ≡ true → EndsAt text ts at (at + 1)
  token_ends at t h w = let v = written text t t.kind w in (atom v.0, inl (t, h, v.1, refl))

  pub token_none : (at : ℕ) (t : Token) → slice_get ts at ≡ Some t → kind_at k.LeftBrace (slice_get ts at) ≡ false → kind_at k.Minus (slice_get ts at) ≡ false → writes_value text t ≡ false → NoneEnds text ts at
  token_none at t h p q w = no_spelled text ts at t h p q (unwritten text t t.kind w)

  -- the empty set
  pub empty_closes : (at : ℕ) → opens_members (slice_get ts at) (slice_get ts (at + 1)) ≡ false → kind_at k.LeftBrace (slice_get ts at) ≡ true → Has text ts k.RightBrace (at + 1)
  empty_closes at h b = kind_found k.RightBrace (slice_get ts (at + 1)) (empty (kind_at k.LeftBrace (slice_get ts at)) (kind_at k.RightBrace (slice_get ts (at + 1))) h b)

  pub empty_ends : (at : ℕ) → opens_members (slice_get ts at) (slice_get ts (at + 1)) ≡ false → kind_at k.LeftBrace (slice_get ts at) ≡ true → EndsAt text ts at (at + 2)
  empty_ends at h b = (braces no_literals, (kind_found k.LeftBrace (slice_get ts at) b, empty_closes at h b, refl))
