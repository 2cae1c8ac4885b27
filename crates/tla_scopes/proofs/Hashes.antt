-- Hashes of names, and the first bits in which they differ.
use Rattle.std.proofs.Common.{◌≡◌, ℕ, zero, suc, ◌+◌, ◌<◌, ◌≤◌, ◌/◌, ◌%◌, Bool, true, false, cond, eqb, length, get_or, drop, drop-cons, add-one, refl, sym, ap, ◌∙◌, arith}
use Rattle.std.proofs.lemmas.Bool.{eqb-true, eqb-false, eq-eqb, ne_eqb}
use Rattle.std.proofs.lemmas.Slice.Eq.{bytes_eq-Decides}
use Rattle.std.specs.Str.{bytes_eq}
use Rattle.tla_scopes.specs.Places.{Name}
use Rattle.tla_scopes.specs.Private.Index.{mixed, hash_from, hash_of, apart, slot_of}

pub hash_start : (x : Name) → hash_from 0 x ≡ hash_of x
unfolding hash_of
hash_start x = refl

pub hash_more : (x : Name) (i h : ℕ) → i < length x → hash_from (mixed h (get_or x i 0)) (drop (i + 1) x) ≡ hash_from h (drop i x)
hash_more x i h b =
    let p : i + 1 ≡ suc i = add-one i in
    rw (p, drop-cons x i 0 b) refl

-- ---- bits
le_picked : (b : Bool) (m n : ℕ) → m ≤ n → cond b (m + 1) 0 ≤ suc n
le_picked true m n h = omega arith
le_picked false m n h = omega arith

apart_le : (n g h : ℕ) → apart n g h ≤ n
unfolding apart
apart_le zero g h = omega arith
apart_le (suc n) g h = le_picked (eqb (g % 2) (h % 2)) (apart n (g / 2) (h / 2)) n (apart_le n (g / 2) (h / 2))

pub slot_within : (g h : ℕ) → slot_of g h < 17
unfolding slot_of
slot_within g h = omega (arith, apart_le 16 g h)

pub slot_start : (n g h : ℕ) → n ≡ 16 → slot_of g h ≡ apart n g h
unfolding slot_of
slot_start n g h e = rw e refl

pub apart_none : (g h : ℕ) → apart 0 g h ≡ 0
unfolding apart
apart_none g h = refl

pub apart_here : (n g h : ℕ) → (g % 2 ≡ h % 2 → ⊥) → apart n g h ≡ 0
unfolding apart
apart_here zero g h f = refl
apart_here (suc n) g h f = rw (ne_eqb (g % 2) (h % 2) f) refl

pub apart_later : (n g h : ℕ) → g % 2 ≡ h % 2 → apart (suc n) g h ≡ apart n (g / 2) (h / 2) + 1
unfolding apart
apart_later n g h e = rw (eq-eqb (g % 2) (h % 2) e) refl

-- ---- three hashes
nearest : (a b c : Bool) (p q r : ℕ) → (a ≡ true → b ≡ true → c ≡ true) → (a ≡ false → b ≡ true → c ≡ false) → (p < q → r ≡ p) → cond a (p + 1) 0 < cond b (q + 1) 0 → cond c (r + 1) 0 ≡ cond a (p + 1) 0
nearest true true c p q r t f h l = rw (t refl refl) (ap (λ (k : ℕ). k + 1) (h (omega arith)))
nearest true false c p q r t f h l = absurd (omega arith)
nearest false true c p q r t f h l = rw (f refl refl) refl
nearest false false c p q r t f h l = absurd (omega arith)

both_same : (u v w : ℕ) → eqb u v ≡ true → eqb u w ≡ true → eqb v w ≡ true
both_same u v w p q = eq-eqb v w (sym (eqb-true u v p) ∙ eqb-true u w q)

one_differs : (u v w : ℕ) → eqb u v ≡ false → eqb u w ≡ true → eqb v w ≡ false
one_differs u v w p q = ne_eqb v w (λ e. eqb-false u v p (eqb-true u w q ∙ sym e))

other_differs : (u v w : ℕ) → eqb u w ≡ false → eqb u v ≡ true → eqb v w ≡ false
other_differs u v w p q = ne_eqb v w (λ e. eqb-false u w p (eqb-true u v q ∙ e))

apart_nearer : (n h g x : ℕ) → apart n h g < apart n h x → apart n g x ≡ apart n h g
unfolding apart
apart_nearer zero h g x l = absurd (omega arith)
apart_nearer (suc n) h g x l =
    nearest (eqb (h % 2) (g % 2)) (eqb (h % 2) (x % 2)) (eqb (g % 2) (x % 2)) (apart n (h / 2) (g / 2)) (apart n (h / 2) (x / 2)) (apart n (g / 2) (x / 2))
    (both_same (h % 2) (g % 2) (x % 2)) (one_differs (h % 2) (g % 2) (x % 2)) (apart_nearer n (h / 2) (g / 2) (x / 2)) l

apart_farther : (n h g x : ℕ) → apart n h x < apart n h g → apart n g x ≡ apart n h x
unfolding apart
apart_farther zero h g x l = absurd (omega arith)
apart_farther (suc n) h g x l =
    nearest (eqb (h % 2) (x % 2)) (eqb (h % 2) (g % 2)) (eqb (g % 2) (x % 2)) (apart n (h / 2) (x / 2)) (apart n (h / 2) (g / 2)) (apart n (g / 2) (x / 2))
    (λ p q. both_same (h % 2) (g % 2) (x % 2) q p) (other_differs (h % 2) (g % 2) (x % 2)) (apart_farther n (h / 2) (g / 2) (x / 2)) l

-- of three hashes, two differ as early from the third where they differ later from one another
pub slot_nearer : (h g x : ℕ) → slot_of h g < slot_of h x → slot_of g x ≡ slot_of h g
unfolding slot_of
slot_nearer h g x l = apart_nearer 16 h g x l

pub slot_farther : (h g x : ℕ) → slot_of h x < slot_of h g → slot_of g x ≡ slot_of h x
unfolding slot_of
slot_farther h g x l = apart_farther 16 h g x l

not_true : (b : Bool) → (b ≡ true → ⊥) → b ≡ false
not_true true f = absurd (f refl)
not_true false f = refl

-- names whose hashes differ elsewhere are two
pub other_name : (h g : ℕ) (y x : Name) → g ≡ hash_of y → (slot_of h g ≡ slot_of h (hash_of x) → ⊥) → bytes_eq y x ≡ false
other_name h g y x e n =
    not_true (bytes_eq y x) (λ q. n (ap (λ (k : ℕ). slot_of h k) e ∙ ap (λ (z : Name). slot_of h (hash_of z)) ((bytes_eq-Decides y x).0 q)))
