-- What stands at a token.
use Rattle.std.proofs.Common.{◌≡◌, ℕ, ◌<◌, true, false, List, Option, Some, None, ◌⊎◌, inl, inr, slice_get, refl, sym, ap, ◌∙◌, length}
use Rattle.std.proofs.lemmas.Option.{slice_get_within}
use Rattle.tla_lex.proofs.SameKind.{same_is}
use Rattle.tla_lex.specs.SameKind.{same_kind}
use Rattle.tla_lex.specs.declared.token.Kind.{Kind}
use Rattle.tla_lex.specs.declared.token.Kind.TheVariants as k
use Rattle.tla_lex.specs.declared.token.Place.{Place}
use Rattle.tla_lex.specs.declared.token.Token.{Token}
use Rattle.tla_tree.specs.Words.{word_of, written}
use Rattle.tla_tree.specs.declared.word.Written.{Written}
use Rattle.tla_config.specs.declared.keyword.Keyword.{Keyword}
use Rattle.tla_config.specs.declared.keyword.Keyword.TheVariants as word
use Rattle.tla_config.specs.Configuration.{Has, Is, Begins, IsName}
use Rattle.tla_config.specs.Private.Fronts.{unless_keyword, name_by, name_of, with_place, keyword_by, keyword_of, kind_at, digits_by, digits_of}
use Rattle.tla_config.specs.Private.Keywords.{keywords, lookup}
use Rattle.tla_config.specs.Names.{Name, is_among, statement_words}
use Rattle.tla_config.proofs.Words.{name_word, name_is_none}

pub same_pair : (x y : Keyword × Place) → Some x ≡ Some y → x ≡ y
same_pair x y h = cc

-- two tokens in one place are one
pub one_token : (o : Option Token) (t u : Token) → o ≡ Some t → o ≡ Some u → t ≡ u
one_token o t u a b = cc

-- a token of a kind that is asked for
pub kind_found : (kind : Kind) (o : Option Token) → kind_at kind o ≡ true → (t : Token) × (o ≡ Some t) × (t.kind ≡ kind)
kind_found kind None h = (let z : ⊥ = cc in absurd z)
kind_found kind (Some t) h = (t, refl, same_is kind t.kind h)

-- a number
digits_kind : (t u : Token) (kind : Kind) → digits_by t kind ≡ Some u → (t ≡ u) × (kind ≡ k.Digits)
digits_kind t u k.Digits h = (cc, refl)
digits_kind t u _ h = (let z : ⊥ = cc in absurd z)

digits_token : (o : Option Token) (u : Token) → digits_of o ≡ Some u → (o ≡ Some u) × (u.kind ≡ k.Digits)
digits_token None u h = (let z : ⊥ = cc in absurd z)
digits_token (Some t) u h = let x = digits_kind t u t.kind h in (ap (λ v. Some v) x.0, ap (λ (v : Token). v.kind) (sym x.0) ∙ x.1)

pub digits_found : (o : Option Token) (u : Token) → digits_of o ≡ Some u → (o ≡ Some u) × (u.kind ≡ k.Digits)
digits_found o u h = digits_token o u h

pub digits_is : (o : Option Token) (u : Token) → o ≡ Some u → u.kind ≡ k.Digits → digits_of o ≡ Some u
digits_is o u h e = rw (h, e) refl

module _ (text : List ℕ) (ts : List Token) where
  -- a name
  unless_some : (t u : Token) (o : Option Keyword) → unless_keyword o t ≡ Some u → (t ≡ u) × (o ≡ None)
  unless_some t u None h = (cc, refl)
  unless_some t u (Some j) h = (let z : ⊥ = cc in absurd z)

  name_by_some : (t u : Token) (kind : Kind) → name_by text t kind ≡ Some u → (kind ≡ k.Name) × (t ≡ u) × (lookup keywords (word_of text t) ≡ None)
  name_by_some t u k.Name h = let x = unless_some t u (lookup keywords (word_of text t)) h in (refl, x.0, x.1)
  name_by_some t u _ h = (let z : ⊥ = cc in absurd z)

  name_of_some : (o : Option Token) (t : Token) → name_of text o ≡ Some t → (o ≡ Some t) × (t.kind ≡ k.Name) × (lookup keywords (word_of text t) ≡ None)
  name_of_some None t h = (let z : ⊥ = cc in absurd z)
  name_of_some (Some u) t h = let x = name_by_some u t u.kind h in (ap (λ v. Some v) x.1, ap (λ (v : Token). v.kind) (sym x.1) ∙ x.0, rw x.1 at x.2)

  pub name_found : (at : ℕ) (t : Token) → name_of text (slice_get ts at) ≡ Some t → IsName text ts (written text t) at
  name_found at t h = let x = name_of_some (slice_get ts at) t h in ((t, x.0, x.1, refl), name_word (word_of text t) x.2)

  pub name_is : (at : ℕ) (w : Written) → IsName text ts w at → (t : Token) × (name_of text (slice_get ts at) ≡ Some t) × (written text t ≡ w)
  name_is at w x =
      let t = x.0.0 in
      let e : word_of text t ≡ w.word = ap (λ (v : Written). v.word) x.0.3 in
      let n : lookup keywords (word_of text t) ≡ None = name_is_none (word_of text t) (ap (λ v. is_among v statement_words) e ∙ x.1) in
      (t, rw (x.0.1, x.0.2, n) refl, x.0.3)

  pub one_name : (at : ℕ) (v w : Written) → IsName text ts v at → IsName text ts w at → v ≡ w
  one_name at v w x y =
      let a = name_is at v x in
      let b = name_is at w y in
      let p = a.1 in let q = b.1 in let r = a.2 in let s = b.2 in
      let e : a.0 ≡ b.0 = cc in
      sym r ∙ ap (λ t. written text t) e ∙ s

  -- a token of a kind
  pub kind_is : (kind : Kind) (at : ℕ) → same_kind kind kind ≡ true → Has text ts kind at → kind_at kind (slice_get ts at) ≡ true
  kind_is kind at e x = rw (x.1, x.2) e

  pub kind_none : (kind : Kind) (at : ℕ) → same_kind kind kind ≡ true → kind_at kind (slice_get ts at) ≡ false → Has text ts kind at → ⊥
  kind_none kind at e f x = let g = kind_is kind at e x in (let z : ⊥ = cc in z)

  -- the word of a statement
  with_some : (o : Option Keyword) (p q : Place) (j : Keyword) → with_place o p ≡ Some (j, q) → (o ≡ Some j) × (p ≡ q)
  with_some None p q j h = (let z : ⊥ = cc in absurd z)
  with_some (Some i) p q j h = let e : (i, p) ≡ (j, q) = same_pair (i, p) (j, q) h in (ap (λ (z : Keyword × Place). Some z.0) e, ap (λ (z : Keyword × Place). z.1) e)

  abbrev pub Opens : Token → Keyword → Type 0
  Opens t j = ((t.kind ≡ k.Name) × (lookup keywords (word_of text t) ≡ Some j)) ⊎ ((t.kind ≡ k.Constant) × (j ≡ word.Constants))

  keyword_kind : (t : Token) (kind : Kind) (j : Keyword) (p : Place) → keyword_by text t kind ≡ Some (j, p)
      → (t.place ≡ p) × (((kind ≡ k.Name) × (lookup keywords (word_of text t) ≡ Some j)) ⊎ ((kind ≡ k.Constant) × (j ≡ word.Constants)))
  keyword_kind t k.Name j p h = let x = with_some (lookup keywords (word_of text t)) t.place p j h in (x.1, inl (refl, x.0))
  keyword_kind t k.Constant j p h =
      let e : (word.Constants, t.place) ≡ (j, p) = same_pair (word.Constants, t.place) (j, p) h in
      (ap (λ (z : Keyword × Place). z.1) e, inr (refl, ap (λ (z : Keyword × Place). z.0) (sym e)))
  keyword_kind t _ j p h = (let z : ⊥ = cc in absurd z)

  keyword_token : (o : Option Token) (j : Keyword) (p : Place) → keyword_of text o ≡ Some (j, p) → (t : Token) × (o ≡ Some t) × (t.place ≡ p) × Opens t j
  keyword_token None j p h = (let z : ⊥ = cc in absurd z)
  keyword_token (Some t) j p h = let x = keyword_kind t t.kind j p h in (t, refl, x.0, x.1)

  pub keyword_found : (at : ℕ) (j : Keyword) (p : Place) → keyword_of text (slice_get ts at) ≡ Some (j, p) → (t : Token) × (slice_get ts at ≡ Some t) × (t.place ≡ p) × Opens t j
  keyword_found at j p h = keyword_token (slice_get ts at) j p h

  pub begins_is : (at : ℕ) (p : Place) (w : Name) (j : Keyword) → lookup keywords w ≡ Some j → Begins text ts w p at → keyword_of text (slice_get ts at) ≡ Some (j, p)
  begins_is at p w j l x =
      let t = x.0 in
      let e : word_of text t ≡ w = ap (λ (v : Written). v.word) x.3 in
      let q : t.place ≡ p = ap (λ (v : Written). v.place) x.3 in
      let n : lookup keywords (word_of text t) ≡ Some j = ap (λ v. lookup keywords v) e ∙ l in
      rw (x.1, x.2, n, q) refl

  -- where there is a token, the list has not ended
  pub has_within : (kind : Kind) (at : ℕ) → Has text ts kind at → at < length ts
  has_within kind at x = slice_get_within ts at x.0 x.1

  pub name_within : (w : Written) (at : ℕ) → IsName text ts w at → at < length ts
  name_within w at x = slice_get_within ts at x.0.0 x.0.1

  -- a comma is no name, nor does it begin a statement
  pub comma_no_name : (w : Written) (at : ℕ) → Has text ts k.Comma at → IsName text ts w at → ⊥
  comma_no_name w at x y = let a = x.1 in let b = y.0.1 in let c = x.2 in let d = y.0.2 in let e : x.0 ≡ y.0.0 = cc in (let z : ⊥ = cc in z)

  pub comma_begins_none : (at : ℕ) → Has text ts k.Comma at → keyword_of text (slice_get ts at) ≡ None
  comma_begins_none at x = rw (x.1, x.2) refl

  pub name_begins_none : (w : Written) (at : ℕ) → IsName text ts w at → keyword_of text (slice_get ts at) ≡ None
  name_begins_none w at x =
      let e : word_of text x.0.0 ≡ w.word = ap (λ (v : Written). v.word) x.0.3 in
      let n : lookup keywords (word_of text x.0.0) ≡ None = name_is_none (word_of text x.0.0) (ap (λ v. is_among v statement_words) e ∙ x.1) in
      rw (x.0.1, x.0.2, n) refl

  -- the word CONSTANT at the front
  pub constants_is : (at : ℕ) (p : Place) → Is text ts k.Constant p at → keyword_of text (slice_get ts at) ≡ Some (word.Constants, p)
  constants_is at p x = rw (x.1, x.2, x.3) refl
