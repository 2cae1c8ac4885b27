-- Consecutive numbers: one more, their count, and that they rise.
use Rattle.std.proofs.Common.{◌≡◌, ℕ, zero, suc, ℤ, pos, ◌+ℤ◌, ◌-ℤ◌, ◌<ℤ◌, ◌≤ℤ◌, cond, int_le, unsigned_abs, true, false, List, [], ◌∷◌, ◌++◌, length, map, take, get_or, refl, sym, ap, ◌∙◌, arith, Less, Greater, Some, ◌<◌, ◌≤◌, to_z, of_z, w64, FitsSigned}
use Rattle.std.specs.Prelude.{slice_get}
use Rattle.std.specs.List.{AllByRecursion}
use Rattle.std.specs.List.Sorted.{IsStrictlySortedBy}
use Rattle.std.specs.Ordering.{int_cmp}
use Rattle.std.proofs.lemmas.Int.{ints}
use Rattle.std.proofs.Math.Seq.{take-suc}
use Rattle.tla_value.specs.Tree.{int}
use Rattle.tla_value.specs.Order.{tree_cmp}
use Rattle.std.proofs.lemmas.List.{map-append}
use Rattle.tla_value.specs.TreeOf.{tree_of}
use Rattle.tla_value.specs.declared.value.Value.{Value}
use Rattle.tla_value.specs.Sets.{is_member}
use Rattle.tla_value.specs.declared.value.Value.TheVariants.{Truth, Int, Text, Model, Set, Fun}
use Rattle.tla_value.specs.Choices.{counted_up, range_of}

pub next_sum : (z : ℤ) (n : ℕ) → (z +ℤ pos 1) +ℤ pos n ≡ z +ℤ pos (suc n)
next_sum z n = omega (arith, ints)

pub no_step : (z : ℤ) → z +ℤ pos 0 ≡ z
no_step z = omega (arith, ints)

pub counted_up-push : (n : ℕ) (z : ℤ) → counted_up (suc n) z ≡ counted_up n z ++ int (z +ℤ pos n) ∷ []
counted_up-push zero z = ap (λ y. int y ∷ []) (sym (no_step z))
counted_up-push (suc n) z = ap (λ ts. int z ∷ ts) (counted_up-push n (z +ℤ pos 1) ∙ ap (λ y. counted_up n (z +ℤ pos 1) ++ int y ∷ []) (next_sum z n))

pub length-counted_up : (n : ℕ) (z : ℤ) → length (counted_up n z) ≡ n
length-counted_up zero z = refl
length-counted_up (suc n) z = ap suc (length-counted_up n (z +ℤ pos 1))

int_less : (x z : ℤ) → x <ℤ z → int_cmp x z ≡ Less
int_less x z h = grind (arith, ints)

above_all : (x : ℤ) (n : ℕ) (z : ℤ) → x <ℤ z → AllByRecursion (λ t. tree_cmp (int x) t ≡ Less) (counted_up n z)
above_all x zero z h = tt
above_all x (suc n) z h = (int_less x z h, above_all x n (z +ℤ pos 1) (omega (arith, ints)))

pub rising-counted_up : (n : ℕ) (z : ℤ) → IsStrictlySortedBy tree_cmp (counted_up n z)
unfolding IsStrictlySortedBy
rising-counted_up zero z = tt
rising-counted_up (suc n) z = (above_all z n (z +ℤ pos 1) (omega (arith, ints)), rising-counted_up n (z +ℤ pos 1))

below_true : (a b : ℤ) → a ≤ℤ b → int_le a b ≡ true
below_true a b h = grind (arith, ints)

pub range_is : (a b : ℤ) → a ≤ℤ b → range_of a b ≡ counted_up (suc (unsigned_abs (b -ℤ a))) a
range_is a b h = ap (λ t. cond t (counted_up (suc (unsigned_abs (b -ℤ a))) a) []) (below_true a b h)

not_below : (a b : ℤ) → b <ℤ a → int_le a b ≡ false
not_below a b h = grind (arith, ints)

pub range_none : (a b : ℤ) → b <ℤ a → range_of a b ≡ []
range_none a b h = ap (λ t. cond t (counted_up (suc (unsigned_abs (b -ℤ a))) a) []) (not_below a b h)

pub pushed : (old new : List Value) (n : ℕ) (z x : ℤ) → new ≡ old ++ Int x ∷ [] → x ≡ z +ℤ pos n → map tree_of old ≡ counted_up n z → map tree_of new ≡ counted_up (suc n) z
pushed old new n z x e f h = ap (map tree_of) e ∙ map-append tree_of old (Int x ∷ []) ∙ ap (λ y. map tree_of old ++ int y ∷ []) f ∙ ap (λ ts. ts ++ int (z +ℤ pos n) ∷ []) h ∙ sym (counted_up-push n z)

-- ---- which numbers are among them, and their indices
int_more : (x z : ℤ) → z <ℤ x → int_cmp x z ≡ Greater
int_more x z h = grind (arith, ints)

pub get-counted_up : (n : ℕ) (z : ℤ) (i : ℕ) (k : ℤ) → i < n → k ≡ z +ℤ pos i → slice_get (counted_up n z) i ≡ Some (int k)
get-counted_up zero z i k l e = absurd (omega arith)
get-counted_up (suc n) z zero k l e = ap (λ y. Some (int y)) (sym (e ∙ no_step z))
get-counted_up (suc n) z (suc i) k l e = get-counted_up n (z +ℤ pos 1) i k (omega arith) (e ∙ sym (next_sum z i))

pub member-below : (n : ℕ) (z k : ℤ) → k <ℤ z → is_member (int k) (counted_up n z) ≡ false
member-below zero z k h = refl
member-below (suc n) z k h = rw (int_less k z h) (member-below n (z +ℤ pos 1) k (omega (arith, ints)))

pub member-above : (n : ℕ) (z k : ℤ) → (z +ℤ pos n) ≤ℤ k → is_member (int k) (counted_up n z) ≡ false
member-above zero z k h = refl
member-above (suc n) z k h =
    let past : z <ℤ k = omega (arith, ints) in
    rw (int_more k z past) (member-above n (z +ℤ pos 1) k (omega (arith, ints)))

pub member-other : (n : ℕ) (z : ℤ) (v : Value) → ((k : ℤ) → v ≡ Int k → ⊥) → is_member (tree_of v) (counted_up n z) ≡ false
member-other zero z v h = refl
member-other (suc n) z (Truth b) h = member-other n (z +ℤ pos 1) (Truth b) h
member-other (suc n) z (Int k) h = absurd (h k refl)
member-other (suc n) z (Text s) h = member-other n (z +ℤ pos 1) (Text s) h
member-other (suc n) z (Model s) h = member-other n (z +ℤ pos 1) (Model s) h
member-other (suc n) z (Set s) h = member-other n (z +ℤ pos 1) (Set s) h
member-other (suc n) z (Fun s) h = member-other n (z +ℤ pos 1) (Fun s) h

-- one more of some consecutive values
pub counted_more : (vs : List Value) (i : ℕ) (z : ℤ) (v : Value) → i < length vs → v ≡ get_or vs i v → tree_of v ≡ int (z +ℤ pos i) → map tree_of (take i vs) ≡ counted_up i z → map tree_of (take (suc i) vs) ≡ counted_up (suc i) z
counted_more vs i z v l is e h =
    ap (map tree_of) (take-suc vs i v l ∙ ap (λ x. take i vs ++ x ∷ []) (sym is))
    ∙ map-append tree_of (take i vs) (v ∷ [])
    ∙ ap (λ t. map tree_of (take i vs) ++ t ∷ []) e
    ∙ ap (λ ts. ts ++ int (z +ℤ pos i) ∷ []) h
    ∙ sym (counted_up-push i z)

-- a number plus a distance, as the code computes it
pub counted_sum : (x : ℤ) (i n : ℕ) → FitsSigned w64 x → i < n → n ≤ 1000000 → (x +ℤ pos n) ≤ℤ pos 9223372036854775808 → to_z w64 (of_z w64 (to_z w64 (of_z w64 x) +ℤ to_z w64 i)) ≡ x +ℤ pos i
counted_sum x i n fits at few within = omega (arith, ints)
