-- What an `Ok` says of the steps that gave it, and what the tests on tokens say.
use Rattle.std.proofs.Common.{◌≡◌, ℕ, Bool, true, false, ◌&&◌, ◌⊎◌, inl, inr, IsTrue, nat_lt, if◌then◌else◌, slice_get, List, Option, Some, None, Ok, Err, refl, ap, ◌∙◌, subst, eq-eqb, add-one, ◌+◌}
use Rattle.tla_lex.proofs.SameKind.{no, same_is}
use Rattle.tla_lex.specs.SameKind.{same_kind}
use Rattle.tla_lex.specs.declared.token.Token.{Token}
use Rattle.tla_lex.specs.declared.token.Kind.{Kind}
use Rattle.tla_lex.specs.declared.token.Kind.TheVariants as k
use Rattle.tla_grammar.specs.declared.tokens.Postfix.{Postfix}
use Rattle.tla_grammar.specs.declared.tokens.Postfix.TheVariants as form
use Rattle.tla_tree.specs.declared.tree.Infix.{Infix}
use Rattle.tla_tree.specs.declared.tree.Bullet.{Bullet}
use Rattle.tla_tree.specs.declared.tree.Bullet.TheVariants as b
use Rattle.tla_grammar.specs.Operators.{low, infix_of, bullet_of, same_bullet}
use Rattle.tla_tree.specs.Words.{written}
use Rattle.tla_grammar.specs.Tokens.{right_of, seen, is_bullet_at, Has, Writes, KindAt, Commas}
use Rattle.tla_grammar.specs.OperatorParameters.{Underscores, IsParameter, Parameters}
use Rattle.tla_grammar.specs.Kinds.{kind_at}
use Rattle.tla_grammar.specs.Ending.{above, infix_at}
use Rattle.tla_grammar.specs.Outcome.{Outcome, ◌>>=◌, need, room, at_op}
use Rattle.tla_grammar.specs.Marks.{name_at, postfix_of, postfix_at}

un : {A : Type 0} → A × ℕ → Outcome A → A × ℕ
un d (Ok x) = x
un d (Err e) = d

pub ok_to : {A : Type 0} (x y : A × ℕ) → ◌≡◌ {A = Outcome A} (Ok x) (Ok y) → (P : A × ℕ → Type 0) → P x → P y
unfolding un
ok_to x y h P p = subst P (ap (un x) h) p

pub bind_ok : {A B : Type 0} (r : Outcome A) (f : A → ℕ → Outcome B) (y : B × ℕ) → (r >>= f) ≡ Ok y
    → (x : A) × (m : ℕ) × (r ≡ Ok (x, m)) × (f x m ≡ Ok y)
bind_ok (Ok p) f y h = (p.0, p.1, refl, h)
bind_ok (Err e) f y h = absurd (let z : ⊥ = cc in z)

pub need_ok : {A : Type 0} (t : Bool) (x : Outcome A) (y : A × ℕ) → need t x ≡ Ok y → (t ≡ true) × (x ≡ Ok y)
need_ok true x y h = (refl, h)
need_ok false x y h = absurd (let z : ⊥ = cc in z)

pub room_ok : {A : Type 0} (t : Bool) (x : Outcome A) (y : A × ℕ) → room t x ≡ Ok y → (t ≡ true) × (x ≡ Ok y)
room_ok true x y h = (refl, h)
room_ok false x y h = absurd (let z : ⊥ = cc in z)

pub at_op_ok : {A X : Type 0} (o : Option X) (x : Outcome A) (f : X → Outcome A) (y : A × ℕ) → at_op o x f ≡ Ok y
    → ((o ≡ None) × (x ≡ Ok y)) ⊎ ((op : X) × (o ≡ Some op) × (f op ≡ Ok y))
at_op_ok None x f y h = inl (refl, h)
at_op_ok (Some op) x f y h = inr (op, refl, h)

pub choice_ok : {A : Type 0} (t : Bool) (x y z : A) → (if t then x else y) ≡ z → ((t ≡ true) × (x ≡ z)) ⊎ ((t ≡ false) × (y ≡ z))
choice_ok true x y z h = inl (refl, h)
choice_ok false x y z h = inr (refl, h)

pub and_true : (s t : Bool) → (s && t) ≡ true → (s ≡ true) × (t ≡ true)
and_true true t h = (refl, h)
and_true false t h = absurd (let z : ⊥ = cc in z)

-- ---- tokens

-- the token that begins a postfix form
abbrev pub postfix_kind : Postfix → Kind
postfix_kind form.Prime = k.Prime
postfix_kind form.Index = k.LeftBracket
postfix_kind form.Field = k.Dot

none_is : (f : Postfix) → ◌≡◌ {A = Option Postfix} None (Some f) → ⊥
none_is f h = cc

postfix_is : (kind : Kind) (f : Postfix) → postfix_of kind ≡ Some f → kind ≡ postfix_kind f
postfix_is k.Prime f h = let e : form.Prime ≡ f = cc in ap postfix_kind e
postfix_is k.LeftBracket f h = let e : form.Index ≡ f = cc in ap postfix_kind e
postfix_is k.Dot f h = let e : form.Field ≡ f = cc in ap postfix_kind e
postfix_is _ f h = absurd (none_is f h)

module _ (ts : List Token) where
  kind_by : (column at : ℕ) (kind : Kind) (o : Option Token) → seen ts column at ≡ o → kind_at kind o ≡ true → Has ts column kind at
  kind_by column at kind None e h = absurd (no h)
  kind_by column at kind (Some t) e h = (t, e, same_is kind t.kind h)

  pub has_kind : (column at : ℕ) (kind : Kind) → kind_at kind (seen ts column at) ≡ true → Has ts column kind at
  has_kind column at kind h = kind_by column at kind (seen ts column at) refl h

  pub name_is : (o : Option Token) (t : Token) → name_at o ≡ Some t → (o ≡ Some t) × (t.kind ≡ k.Name)
  name_is None t h = absurd (let z : ⊥ = cc in z)
  name_is (Some u) t h = elim (choice_ok (same_kind k.Name u.kind) (Some u) None (Some t) h) [
    | inl w ↦ (let e : u ≡ t = cc in (w.1, subst (λ x. x.kind ≡ k.Name) e (same_is k.Name u.kind w.0)))
    | inr w ↦ absurd (let z : ⊥ = cc in z)
  ]

  pub has_name : (text : List ℕ) (column at : ℕ) (t : Token) → name_at (seen ts column at) ≡ Some t → Writes ts text column k.Name (written text t) at
  has_name text column at t h = let w = name_is (seen ts column at) t h in (t, w.0, w.1, refl)

  postfix_by : (column at : ℕ) (f : Postfix) (o : Option Token) → seen ts column at ≡ o → postfix_at o ≡ Some f → Has ts column (postfix_kind f) at
  postfix_by column at f None e h = absurd (let z : ⊥ = cc in z)
  postfix_by column at f (Some t) e h = (t, e, postfix_is t.kind f h)

  pub has_postfix : (column at : ℕ) (f : Postfix) → postfix_at (seen ts column at) ≡ Some f → Has ts column (postfix_kind f) at
  has_postfix column at f h = postfix_by column at f (seen ts column at) refl h

  -- the operator that a climb sees
  infix_by : (column floor at : ℕ) (op : Infix) (t : Token) (o : Option Infix) → seen ts column at ≡ Some t → infix_of t.kind ≡ o → above floor o ≡ Some op
      → (t : Token) × (seen ts column at ≡ Some t) × (infix_of t.kind ≡ Some op) × (nat_lt floor (low op) ≡ true)
  infix_by column floor at op t None e i h = absurd (let z : ⊥ = cc in z)
  infix_by column floor at op t (Some x) e i h = elim (choice_ok (nat_lt floor (low x)) (Some x) None (Some op) h) [
    | inl w ↦ (let same : x ≡ op = cc in (t, e, i ∙ ap (λ y. Some y) same, subst (λ y. nat_lt floor (low y) ≡ true) same w.0))
    | inr w ↦ absurd (let z : ⊥ = cc in z)
  ]

  infix_at_by : (column floor at : ℕ) (op : Infix) (o : Option Token) → seen ts column at ≡ o → above floor (infix_at o) ≡ Some op
      → (t : Token) × (seen ts column at ≡ Some t) × (infix_of t.kind ≡ Some op) × (nat_lt floor (low op) ≡ true)
  infix_at_by column floor at op None e h = absurd (let z : ⊥ = cc in z)
  infix_at_by column floor at op (Some t) e h = infix_by column floor at op t (infix_of t.kind) e refl h

  pub has_infix : (column floor at : ℕ) (op : Infix) → above floor (infix_at (seen ts column at)) ≡ Some op
      → (t : Token) × (seen ts column at ≡ Some t) × (infix_of t.kind ≡ Some op) × (nat_lt floor (low op) ≡ true)
  has_infix column floor at op h = infix_at_by column floor at op (seen ts column at) refl h

  right_is : (column : ℕ) (o : Option Token) (t : Token) → right_of column o ≡ Some t → o ≡ Some t
  right_is column None t h = h
  right_is column (Some u) t h = elim (choice_ok (nat_lt column u.place.column) (Some u) None (Some t) h) [ inl w ↦ w.1 | inr w ↦ absurd (let z : ⊥ = cc in z) ]

  -- what is seen stands there
  pub seen_is : (column at : ℕ) (t : Token) → seen ts column at ≡ Some t → slice_get ts at ≡ Some t
  seen_is column at t h = right_is column (slice_get ts at) t h

  same_refl : (b : Bullet) → same_bullet b b ≡ true
  same_refl b.And = refl
  same_refl b.Or = refl

  -- the first bullet of a list stands in its column
  pub first_bullet : (column at : ℕ) (t : Token) (b : Bullet) → seen ts column at ≡ Some t → bullet_of t.kind ≡ Some b → IsTrue (is_bullet_at t.place.column b (slice_get ts at))
  first_bullet column at t b e h =
      let s = right_is column (slice_get ts at) t e in
      rw (s, h, same_refl b, eq-eqb t.place.column t.place.column refl) refl

  -- a token of this kind stands here
  pub kind_stands : (column at : ℕ) (kind : Kind) → kind_at kind (seen ts column at) ≡ true → KindAt ts at kind
  kind_stands column at kind h = let w = has_kind column at kind h in (w.0, seen_is column at w.0 w.1, w.2)

  -- one name more
  pub commas_more : (n m from at : ℕ) → m ≡ n + 1 → Commas ts n from at → KindAt ts at k.Name → KindAt ts (at + 1) k.Comma → Commas ts m from (at + 2)
  commas_more n m from at h x y z = rw (h, add-one) (at, x, y, z, refl)

  -- one underscore more
  pub underscores_more : (n m from at : ℕ) → m ≡ n + 1 → Underscores ts n from at → KindAt ts at k.Underscore → KindAt ts (at + 1) k.Comma → Underscores ts m from (at + 2)
  underscores_more n m from at h x y z = rw (h, add-one) (at, x, y, z, refl)

  -- one parameter more
  pub parameters_more : (n m from at comma : ℕ) → m ≡ n + 1 → Parameters ts n from at → IsParameter ts at comma → KindAt ts comma k.Comma → Parameters ts m from (comma + 1)
  parameters_more n m from at comma h x y z = rw (h, add-one) (at, comma, x, y, z, refl)
