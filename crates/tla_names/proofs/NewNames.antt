-- Names that are new: none is in scope, and no two are the same.
use Rattle.std.proofs.Common.{◌≡◌, ◌≢◌, ◌↔◌, refl, sym, ap, subst, ◌∙◌, ℕ, suc, Bool, true, false, List, [], ◌∷◌, ◌++◌, Option, Some, None, if◌then◌else◌, true≢false, arith, append-nil, All}
use Rattle.std.specs.Prelude.{◌||◌, is_some, IsTrue, nat_eq}
use Rattle.std.specs.Str.{bytes_eq}
use Rattle.std.proofs.lemmas.Slice.Eq.{bytes_eq-Decides}
use Rattle.std.proofs.lemmas.Bool.{eqb-true, eq-eqb}
use Rattle.std.proofs.lemmas.List.Elements.{All-nil, All-cons}
use Rattle.std.proofs.lemmas.List.Folds.{list_any-append}
use Rattle.std.proofs.lemmas.List.Kept.{AllPairs-cons}
use Rattle.std.proofs.lemmas.List.{append_assoc}
use Rattle.tla_lex.specs.declared.token.Place.{Place}
use Rattle.tla_tree.specs.declared.word.Written.{Written}
use Rattle.tla_config.specs.Names.{Name, words, is_among}
use Rattle.tla_names.specs.Maybe.{or_else}
use Rattle.tla_names.specs.Scope.{Scope, arity}
use Rattle.tla_names.specs.Known.{Misuse, Arguments, Twice, applied, used, brought, new_name, again, if_not}
use Rattle.tla_names.specs.WellScoped.{Takes, IsNew, AreDistinct, AreNew}
use Rattle.tla_names.proofs.Latest.{arity_last}

-- nothing is wrong with two or three exactly if nothing is wrong with each
pub both : {M A B : Type 0} (o p : Option M) → A ↔ (o ≡ None) → B ↔ (p ≡ None) → (A × B) ↔ (or_else o p ≡ None)
both None p f g = (λ h. g.0 h.1, λ h. (f.1 refl, g.1 h))
both (Some m) p f g = (λ h. let z : Some m ≡ None = f.0 h.0 in let y : ⊥ = cc in absurd y, λ h. let z : ⊥ = cc in absurd z)

pub three : {A B C : Type 0} (o p q : Option Misuse) → A ↔ (o ≡ None) → B ↔ (p ≡ None) → C ↔ (q ≡ None) → (A × B × C) ↔ (or_else o (or_else p q) ≡ None)
three o p q f g k =
    let all = both o (or_else p q) f (both p q g k) in
    (λ h. all.0 (h.0, (h.1, h.2)), λ e. let h = all.1 e in (h.0, h.1.0, h.1.1))

-- a name that is used
pub applied_none : (w : Written) (n : ℕ) (o : Option ℕ) → (o ≡ Some n) ↔ (applied w n o ≡ None)
applied_none w n None = (λ h. let z : ⊥ = cc in absurd z, λ h. let z : ⊥ = cc in absurd z)
applied_none w n (Some m) = at (nat_eq n m) refl
  where
    at : (b : Bool) → nat_eq n m ≡ b → (Some m ≡ Some n) ↔ ((if nat_eq n m then None else Some (Arguments w)) ≡ None)
    at true e = (λ h. rw e refl, λ h. ap Some (sym (eqb-true n m e)))
    at false e = (λ h. let z : true ≡ false = sym (eq-eqb n m (let s : n ≡ m = cc in s)) ∙ e in absurd (true≢false z), λ h. let z : Some (Arguments w) ≡ None = rw e at h in let y : ⊥ = cc in absurd y)

pub used_none : (σ : Scope) (w : Written) (n : ℕ) → Takes σ w n ↔ (used σ w n ≡ None)
used_none σ w n = applied_none w n (arity σ w.word)

-- a test that has to pass
pub known_none : (b : Bool) (at : Place) (x : Name) → IsTrue b ↔ (if_not b at x ≡ None)
known_none true at x = (λ h. refl, λ h. refl)
known_none false at x = (λ h. let z : ⊥ = cc in absurd z, λ h. let z : ⊥ = cc in absurd z)

-- a name that is brought in
pub new_none : (σ : Scope) (w : Written) → IsNew σ w.word ↔ (new_name σ w ≡ None)
new_none σ w = at (arity σ w.word)
  where
    at : (o : Option ℕ) → (o ≡ None) ↔ ((if is_some o then Some (Twice w) else None) ≡ None)
    at None = (λ h. refl, λ h. refl)
    at (Some n) = (λ h. let z : ⊥ = cc in absurd z, λ h. let z : ⊥ = cc in absurd z)

-- names that are new after others: none is in scope or among those
abbrev pub AreNewAfter : Scope → List Name → List Name → Type 0
AreNewAfter σ new xs = AreNew σ xs × All (λ x. is_among x new ≡ false) xs

pub none_new : (σ : Scope) (new : List Name) → AreNewAfter σ new []
none_new σ new = ((All-nil (IsNew σ), λ i j d l m. let z : ⊥ = omega (arith, l, m) in absurd z), All-nil (λ x. is_among x new ≡ false))

-- nothing is wrong with a name at the head
abbrev pub IsFirstNew : Scope → List Name → Name → Type 0
IsFirstNew σ new x = IsNew σ x × (is_among x new ≡ false)

or_false : (a b : Bool) → ((a || (b || false)) ≡ false) ↔ ((a ≡ false) × (b ≡ false))
or_false false false = (λ h. (refl, refl), λ h. refl)
or_false false true = (λ h. absurd (true≢false h), λ h. absurd (true≢false h.1))
or_false true b = (λ h. absurd (true≢false h), λ h. absurd (true≢false h.0))

different : (x y : Name) → (x ≢ y) ↔ (bytes_eq y x ≡ false)
different x y = (λ h. apart h (bytes_eq y x) refl, λ e h. absurd (true≢false (sym ((bytes_eq-Decides y x).1 (sym h)) ∙ e)))
  where
    apart : x ≢ y → (b : Bool) → bytes_eq y x ≡ b → bytes_eq y x ≡ false
    apart h true e = absurd (h (sym ((bytes_eq-Decides y x).0 e)))
    apart h false e = e

-- a name is among neither these nor one more
among_more : (new : List Name) (x y : Name) → ((is_among y new ≡ false) × (x ≢ y)) ↔ (is_among y (new ++ x ∷ []) ≡ false)
among_more new x y =
    let split = or_false (is_among y new) (bytes_eq y x) in
    let same = list_any-append (bytes_eq y) new (x ∷ []) in
    (λ h. same ∙ split.1 (h.0, (different x y).0 h.1), λ e. let h = split.0 (sym same ∙ e) in (h.0, (different x y).1 h.1))

pub new_cons : (σ : Scope) (new : List Name) (x : Name) (xs : List Name) → AreNewAfter σ new (x ∷ xs) ↔ (IsFirstNew σ new x × AreNewAfter σ (new ++ x ∷ []) xs)
new_cons σ new x xs = (there, back)
  where
    there : AreNewAfter σ new (x ∷ xs) → IsFirstNew σ new x × AreNewAfter σ (new ++ x ∷ []) xs
    there h = (
      (h.0.0 0 x (omega arith), h.1 0 x (omega arith)),
      (
        (λ k d l. h.0.0 (suc k) d (omega (arith, l)), λ i j d l m. h.0.1 (suc i) (suc j) d (omega (arith, l)) (omega (arith, m))),
        λ k d l. (among_more new x _).0 (h.1 (suc k) d (omega (arith, l)), h.0.1 0 (suc k) d (omega arith) (omega (arith, l))),
      ),
    )

    back : IsFirstNew σ new x × AreNewAfter σ (new ++ x ∷ []) xs → AreNewAfter σ new (x ∷ xs)
    back h = (
      (
        All-cons (IsNew σ) x xs h.0.0 h.1.0.0,
        AllPairs-cons (λ a b. a ≢ b) x xs (λ k d l. ((among_more new x _).1 (h.1.1 k d l)).1) h.1.0.1,
      ),
      All-cons (λ a. is_among a new ≡ false) x xs h.0.1 (λ k d l. ((among_more new x _).1 (h.1.1 k d l)).0),
    )

-- names after which others are new
pub new_append : (σ : Scope) (new xs ys : List Name) → AreNewAfter σ new (xs ++ ys) ↔ (AreNewAfter σ new xs × AreNewAfter σ (new ++ xs) ys)
new_append σ new [] ys = (
  λ h. (none_new σ new, subst (λ zs. AreNewAfter σ zs ys) (sym (append-nil new)) h),
  λ h. subst (λ zs. AreNewAfter σ zs ys) (append-nil new) h.1,
)
new_append σ new (x ∷ xs) ys =
    let head = new_cons σ new x xs in
    let whole = new_cons σ new x (xs ++ ys) in
    let rest = new_append σ (new ++ x ∷ []) xs ys in
    let same = append_assoc new (x ∷ []) xs in (
      λ h. let p = whole.0 h in let q = rest.0 p.1 in (head.1 (p.0, q.0), subst (λ zs. AreNewAfter σ zs ys) same q.1),
      λ h. let p = head.0 h.0 in whole.1 (p.0, rest.1 (p.1, subst (λ zs. AreNewAfter σ zs ys) (sym same) h.1)),
    )

-- nothing is wrong with names that are brought in
pub brought_none : (σ : Scope) (new : List Name) (ws : List Written) → AreNewAfter σ new (words ws) ↔ (brought σ new ws ≡ None)
brought_none σ new [] = (λ h. refl, λ h. none_new σ new)
brought_none σ new (w ∷ ws) =
    let head = new_cons σ new w.word (words ws) in
    let test = at (arity σ w.word) (is_among w.word new) (brought σ (new ++ w.word ∷ []) ws) (brought_none σ (new ++ w.word ∷ []) ws) in
    (λ h. test.0 (head.0 h), λ e. head.1 (test.1 e))
  where
    at : {R : Type 0} (o : Option ℕ) (b : Bool) (r : Option Misuse) → R ↔ (r ≡ None)
        → (((o ≡ None) × (b ≡ false)) × R) ↔ ((if is_some o || b then Some (Twice w) else r) ≡ None)
    at None false r f = (λ h. f.0 h.1, λ e. ((refl, refl), f.1 e))
    at None true r f = (λ h. absurd (true≢false h.0.1), λ h. let z : ⊥ = cc in absurd z)
    at (Some n) b r f = (λ h. let z = h.0.0 in let y : ⊥ = cc in absurd y, λ h. let z : ⊥ = cc in absurd z)

-- the same without names before, and without names in scope
pub after_none : (σ : Scope) (xs : List Name) → AreNew σ xs ↔ AreNewAfter σ [] xs
after_none σ xs = (λ h. (h, λ k d l. refl), λ h. h.0)

pub all_unknown : (xs : List Name) → AreDistinct xs ↔ AreNew [] xs
all_unknown xs = (λ h. (λ k d l. refl, h), λ h. h.1)

-- parameters
pub brought_first : (σ : Scope) (ws : List Written) → AreNew σ (words ws) ↔ (brought σ [] ws ≡ None)
brought_first σ ws =
    let first = after_none σ (words ws) in
    let each = brought_none σ [] ws in
    (λ h. each.0 (first.0 h), λ e. first.1 (each.1 e))

-- a field
pub again_none : (before : List Name) (w : Written) → IsFirstNew [] before w.word ↔ (again before w ≡ None)
again_none before w = at (is_among w.word before)
  where
    at : (b : Bool) → ((arity [] w.word ≡ None) × (b ≡ false)) ↔ ((if b then Some (Twice w) else None) ≡ None)
    at true = (λ h. absurd (true≢false h.1), λ h. let z : ⊥ = cc in absurd z)
    at false = (λ h. refl, λ h. (refl, refl))

-- names that a declaration brings in, each known to the next
known_after : (σ : Scope) (x y : Name) (n : ℕ) → (IsNew σ y × (x ≢ y)) ↔ IsNew (σ ++ (x, n) ∷ []) y
known_after σ x y n = (
  λ h. arity_last σ (x, n) y ∙ rw ((different x y).0 h.1) h.0,
  λ e. at (bytes_eq y x) refl e,
)
  where
    at : (b : Bool) → bytes_eq y x ≡ b → IsNew (σ ++ (x, n) ∷ []) y → IsNew σ y × (x ≢ y)
    at true same e = let z : Some n ≡ None = rw same at (sym (arity_last σ (x, n) y) ∙ e) in let c : ⊥ = cc in absurd c
    at false same e = (rw same at (sym (arity_last σ (x, n) y) ∙ e), (different x y).1 same)

pub known_cons : (σ : Scope) (x : Name) (n : ℕ) (xs : List Name) → AreNew σ (x ∷ xs) ↔ (IsNew σ x × AreNew (σ ++ (x, n) ∷ []) xs)
known_cons σ x n xs = (
  λ h. (
    h.0 0 x (omega arith),
    (
      λ k d l. (known_after σ x _ n).0 (h.0 (suc k) d (omega (arith, l)), h.1 0 (suc k) d (omega arith) (omega (arith, l))),
      λ i j d l m. h.1 (suc i) (suc j) d (omega (arith, l)) (omega (arith, m)),
    ),
  ),
  λ h. (
    All-cons (IsNew σ) x xs h.0 (λ k d l. ((known_after σ x _ n).1 (h.1.0 k d l)).0),
    AllPairs-cons (λ a b. a ≢ b) x xs (λ k d l. ((known_after σ x _ n).1 (h.1.0 k d l)).1) h.1.1,
  ),
)
