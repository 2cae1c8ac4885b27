-- Ranges: their items, their members, and when their set is within the limits.
use Rattle.std.proofs.Common.{◌≡◌, ℕ, zero, suc, ◌<◌, ◌≤◌, ℤ, pos, ◌+ℤ◌, ◌-ℤ◌, ◌<ℤ◌, ◌≤ℤ◌, unsigned_abs, Bool, true, false, ◌||◌, List, length, Some, Ok, ◌⊎◌, ⊎_elim, refl, sym, ap, ◌∙◌, arith, Ordering, Equal, Greater}
use Rattle.std.specs.Prelude.{slice_get}
use Rattle.std.specs.Ordering.{int_cmp, is_eq}
use Rattle.std.proofs.lemmas.Int.{ints}
use Rattle.tla_value.specs.Tree.{Tree, truth, int, text, model, set, fun, trees, pairs, deepest}
use Rattle.tla_value.specs.TreeOf.{tree_of}
use Rattle.tla_value.specs.Order.{tree_eq}
use Rattle.tla_value.specs.Sets.{is_member}
use Rattle.tla_value.specs.Choices.{counted_up, range_of}
use Rattle.tla_value.specs.declared.value.Value.{Value}
use Rattle.tla_value.proofs.Ranges.{length-counted_up, range_is, range_none, get-counted_up, member-below, member-above}
use Rattle.tla_value.proofs.Tuples.{deepest-counted_up}
use Rattle.tla_core.specs.declared.fault.Place.{Place}
use Rattle.tla_core.specs.declared.fault.FaultCode.TheVariants.{TooMany}
use Rattle.tla_core.specs.Fault.{fault}
use Rattle.tla_core.specs.Kinds.{rising_set}
use Rattle.tla_operators.proofs.Made.{within_ok, within_many}

up_or_down : (a b : ℤ) → (a ≤ℤ b) ⊎ (b <ℤ a)
up_or_down a b = grind (arith, ints)

-- ---- their number, and the item at an index
pub range_empty : (a b : ℤ) → b <ℤ a → length (range_of a b) ≡ 0
range_empty a b h = ap length (range_none a b h)

pub range_length : (a b : ℤ) → a ≤ℤ b → length (range_of a b) ≡ suc (unsigned_abs (b -ℤ a))
range_length a b h = ap length (range_is a b h) ∙ length-counted_up (suc (unsigned_abs (b -ℤ a))) a

pub below_last : (a b : ℤ) (n : ℕ) → n < length (range_of a b) → (a +ℤ pos n) ≤ℤ b
below_last a b n h =
    ⊎_elim
    (λ (k : a ≤ℤ b). let count = range_length a b k in omega (arith, ints))
    (λ (k : b <ℤ a). let none = range_empty a b k in absurd (omega arith))
    (up_or_down a b)

pub range_at : (a b : ℤ) (n : ℕ) → (a +ℤ pos n) ≤ℤ b → slice_get (range_of a b) n ≡ Some (int (a +ℤ pos n))
range_at a b n h = ap (λ ts. slice_get ts n) (range_is a b (omega (arith, ints))) ∙ get-counted_up (suc (unsigned_abs (b -ℤ a))) a n (a +ℤ pos n) (omega (arith, ints)) refl

-- ---- members
int_same : (x : ℤ) → int_cmp x x ≡ Equal
int_same x = grind (arith, ints)

int_more : (x z : ℤ) → z <ℤ x → int_cmp x z ≡ Greater
int_more x z h = grind (arith, ints)

step : (x z : ℤ) (n : ℕ) (o : Ordering) → int_cmp x z ≡ o → is_member (int x) (counted_up (suc n) z) ≡ (is_eq o || is_member (int x) (counted_up n (z +ℤ pos 1)))
step x z n o e = ap (λ p. is_eq p || is_member (int x) (counted_up n (z +ℤ pos 1))) e

same_or_more : (z x : ℤ) → z ≤ℤ x → (x ≡ z) ⊎ (z <ℤ x)
same_or_more z x h = grind (arith, ints)

counted_in : (x z : ℤ) (n : ℕ) → z ≤ℤ x → x <ℤ (z +ℤ pos n) → is_member (int x) (counted_up n z) ≡ true
counted_in x z zero h k = absurd (omega (arith, ints))
counted_in x z (suc n) h k =
    ⊎_elim
    (λ (e : x ≡ z). step x z n Equal (ap (int_cmp x) (sym e) ∙ int_same x))
    (λ (l : z <ℤ x). step x z n Greater (int_more x z l) ∙ counted_in x (z +ℤ pos 1) n (omega (arith, ints)) (omega (arith, ints)))
    (same_or_more z x h)

range_out : (x a b : ℤ) → a ≤ℤ b → b <ℤ x → is_member (int x) (range_of a b) ≡ false
range_out x a b h l = ap (is_member (int x)) (range_is a b h) ∙ member-above (suc (unsigned_abs (b -ℤ a))) a x (omega (arith, ints))

pub number_high : (v : Value) (x a b : ℤ) → v ≡ Value.Int x → b <ℤ x → is_member (tree_of v) (range_of a b) ≡ false
number_high v x a b e l = ap (λ u. is_member (tree_of u) (range_of a b)) e ∙ ⊎_elim (λ h. range_out x a b h l) (λ h. ap (is_member (int x)) (range_none a b h)) (up_or_down a b)

pub number_low : (v : Value) (x a b : ℤ) → v ≡ Value.Int x → x <ℤ a → is_member (tree_of v) (range_of a b) ≡ false
number_low v x a b e l = ap (λ u. is_member (tree_of u) (range_of a b)) e ∙ ⊎_elim (λ h. ap (is_member (int x)) (range_is a b h) ∙ member-below (suc (unsigned_abs (b -ℤ a))) a x l) (λ h. ap (is_member (int x)) (range_none a b h)) (up_or_down a b)

pub number_in : (v : Value) (x a b : ℤ) → v ≡ Value.Int x → a ≤ℤ x → x ≤ℤ b → is_member (tree_of v) (range_of a b) ≡ true
number_in v x a b e h k = ap (λ u. is_member (tree_of u) (range_of a b)) e ∙ ap (is_member (int x)) (range_is a b (omega (arith, ints))) ∙ counted_in x a (suc (unsigned_abs (b -ℤ a))) h (omega (arith, ints))

-- values of other kinds aren't members
counted_other : (t : Tree) → ((z : ℤ) → tree_eq t (int z) ≡ false) → (n : ℕ) (z : ℤ) → is_member t (counted_up n z) ≡ false
counted_other t h zero z = refl
counted_other t h (suc n) z = ap (λ b. b || is_member t (counted_up n (z +ℤ pos 1))) (h z) ∙ counted_other t h n (z +ℤ pos 1)

range_other : (t : Tree) → ((z : ℤ) → tree_eq t (int z) ≡ false) → (a b : ℤ) → is_member t (range_of a b) ≡ false
range_other t h a b = ⊎_elim (λ k. ap (is_member t) (range_is a b k) ∙ counted_other t h (suc (unsigned_abs (b -ℤ a))) a) (λ k. ap (is_member t) (range_none a b k)) (up_or_down a b)

pub no_truth : (v : Value) (x : Bool) (a b : ℤ) → v ≡ Value.Truth x → is_member (tree_of v) (range_of a b) ≡ false
no_truth v x a b e = ap (λ u. is_member (tree_of u) (range_of a b)) e ∙ range_other (truth x) (λ z. refl) a b

pub no_text : (v : Value) (x : List ℕ) (a b : ℤ) → v ≡ Value.Text x → is_member (tree_of v) (range_of a b) ≡ false
no_text v x a b e = ap (λ u. is_member (tree_of u) (range_of a b)) e ∙ range_other (text x) (λ z. refl) a b

pub no_model : (v : Value) (x : List ℕ) (a b : ℤ) → v ≡ Value.Model x → is_member (tree_of v) (range_of a b) ≡ false
no_model v x a b e = ap (λ u. is_member (tree_of u) (range_of a b)) e ∙ range_other (model x) (λ z. refl) a b

pub no_set : (v : Value) (ts : List Tree) (a b : ℤ) → v ≡ Value.Set ts → is_member (tree_of v) (range_of a b) ≡ false
no_set v ts a b e = ap (λ u. is_member (tree_of u) (range_of a b)) e ∙ range_other (set (trees ts)) (λ z. refl) a b

pub no_fun : (v : Value) (ps : List (Tree × Tree)) (a b : ℤ) → v ≡ Value.Fun ps → is_member (tree_of v) (range_of a b) ≡ false
no_fun v ps a b e = ap (λ u. is_member (tree_of u) (range_of a b)) e ∙ range_other (fun (pairs ps)) (λ z. refl) a b

-- ---- the set of a range
pub set_none : (p : Place) (a b : ℤ) → b <ℤ a → rising_set p (range_of a b) ≡ Ok (set (trees (range_of a b)))
set_none p a b h = ap (rising_set p) (range_none a b h) ∙ ap (λ ts. Ok (set (trees ts))) (sym (range_none a b h))

pub set_many : (p : Place) (a b : ℤ) → a ≤ℤ b → 1000000 ≤ unsigned_abs (b -ℤ a) → rising_set p (range_of a b) ≡ fault TooMany p
set_many p a b h many =
    ap (rising_set p) (range_is a b h)
    ∙ (let n = suc (unsigned_abs (b -ℤ a)) in within_many p (length (counted_up n a)) (deepest (trees (counted_up n a))) (set (trees (counted_up n a))) (omega (arith, length-counted_up n a)))

set_counted : (p : Place) (n : ℕ) (z : ℤ) → n ≤ 1000000 → rising_set p (counted_up n z) ≡ Ok (set (trees (counted_up n z)))
set_counted p n z few = within_ok p (length (counted_up n z)) (deepest (trees (counted_up n z))) (set (trees (counted_up n z))) (omega (arith, length-counted_up n z)) (omega (arith, deepest-counted_up n z))

pub set_fits : (p : Place) (a b : ℤ) → a ≤ℤ b → unsigned_abs (b -ℤ a) < 1000000 → rising_set p (range_of a b) ≡ Ok (set (trees (range_of a b)))
set_fits p a b h few = ap (rising_set p) (range_is a b h) ∙ set_counted p (suc (unsigned_abs (b -ℤ a))) a (omega arith) ∙ ap (λ ts. Ok (set (trees ts))) (sym (range_is a b h))
