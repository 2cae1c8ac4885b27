-- Loops over lists.
use Rattle.std.proofs.Common.{◌≡◌, ℕ, zero, suc, ◌+◌, ◌<◌, ◌≤◌, List, [], ◌∷◌, ◌++◌, length, map, drop, get_or, Option, Some, None, Ok, Err, refl, sym, ap, ◌∙◌, add-one, append_assoc, arith}
use Rattle.std.specs.Prelude.{slice_get}
use Rattle.std.proofs.lemmas.List.{length-map}
use Rattle.tla_value.specs.Tree.{Tree}
use Rattle.tla_value.specs.TreeOf.{tree_of}
use Rattle.tla_value.specs.declared.value.Value.{Value}
use Rattle.tla_core.specs.Fault.{Outcome, ◌>>=◌}
use Rattle.tla_core.specs.Lists.{each}
use Rattle.tla_operators.proofs.Members.{bind-ok}

pub none_more : (b : List Tree) → b ++ [] ≡ b
none_more [] = refl
none_more (y ∷ b) = ap (λ k. y ∷ k) (none_more b)

pub drop_from : {A : Type 0} (xs : List A) (i : ℕ) (x : A) → slice_get xs i ≡ Some x → drop i xs ≡ x ∷ drop (suc i) xs
drop_from {A} [] i x h = absurd (some_none h)
  where
    some_none : (let o : Option A = None in o ≡ Some x) → ⊥
    some_none e = cc
drop_from {A} (y ∷ xs) zero x h = ap (λ z. z ∷ xs) (same_some h)
  where
    same_some : (let o : Option A = Some y in o ≡ Some x) → y ≡ x
    same_some e = cc
drop_from (y ∷ xs) (suc i) x h = drop_from xs i x h

pub drop_past : {A : Type 0} (xs : List A) (i : ℕ) → slice_get xs i ≡ None → drop i xs ≡ []
drop_past [] zero h = refl
drop_past [] (suc i) h = refl
drop_past {A} (y ∷ xs) zero h = absurd (none_some h)
  where
    none_some : (let o : Option A = Some y in o ≡ None) → ⊥
    none_some e = cc
drop_past (y ∷ xs) (suc i) h = drop_past xs i h

pub get_past : {A : Type 0} (xs : List A) (i : ℕ) → length xs ≤ i → slice_get xs i ≡ None
get_past [] i h = refl
get_past (y ∷ xs) zero h = absurd (omega arith)
get_past (y ∷ xs) (suc i) h = get_past xs i (omega arith)

-- ---- values, as trees
pub within_values : (vs : List Value) (i : ℕ) → i < length (map tree_of vs) → i < length vs
within_values vs i h = omega (arith, length-map vs tree_of)

pub value_there : (vs : List Value) (i : ℕ) (v : Value) → i < length vs → v ≡ get_or vs i v → Some (tree_of v) ≡ slice_get (map tree_of vs) i
value_there [] i v l e = absurd (omega arith)
value_there (w ∷ vs) zero v l e = ap (λ u. Some (tree_of u)) e
value_there (w ∷ vs) (suc i) v l e = value_there vs i v (omega arith) e

-- ---- listed numbers, one by one
behind : (old : List Tree) (x : Tree) (rest : List Tree) → old ++ x ∷ rest ≡ (old ++ x ∷ []) ++ rest
behind old x rest = simp append_assoc

pub listed_more : (xs : List Tree) (i : ℕ) (old new : List Tree) (x : Tree) → xs ≡ old ++ drop i xs → slice_get xs i ≡ Some x → new ≡ old ++ x ∷ [] → xs ≡ new ++ drop (i + 1) xs
listed_more xs i old new x e h k =
    rw add-one (e ∙ ap (λ us. old ++ us) (drop_from xs i x h) ∙ behind old x (drop (suc i) xs) ∙ ap (λ us. us ++ drop (suc i) xs) (sym k))

pub listed_end : (xs : List Tree) (i : ℕ) (old : List Tree) → xs ≡ old ++ drop i xs → slice_get xs i ≡ None → old ≡ xs
listed_end xs i old e h = sym (e ∙ ap (λ us. old ++ us) (drop_past xs i h) ∙ none_more old)

-- ---- outcomes
pub bind_assoc : {A B C : Type 0} (o : Outcome A) (k : A → Outcome B) (l : B → Outcome C) → ((o >>= k) >>= l) ≡ (o >>= λ x. k x >>= l)
bind_assoc (Ok x) k l = refl
bind_assoc (Err e) k l = refl

pub same_list : {A : Type 0} (xs ys : List A) → (let r : Outcome (List A) = Ok xs in r ≡ Ok ys) → xs ≡ ys
same_list xs ys h = cc

pub each_long : {A B : Type 0} (f : A → Outcome B) (xs : List A) (ys : List B) → each f xs ≡ Ok ys → length ys ≡ length xs
each_long f [] ys h = ap length (sym (same_list [] ys h))
each_long f (x ∷ xs) ys h =
    let y = bind-ok (f x) (λ y. each f xs >>= λ zs. Ok (y ∷ zs)) ys h in
    let zs = bind-ok (each f xs) (λ zs. Ok (y.0 ∷ zs)) ys y.2 in
    ap length (sym (same_list (y.0 ∷ zs.0) ys zs.2)) ∙ ap suc (each_long f xs zs.0 zs.1)
