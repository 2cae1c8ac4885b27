-- The length of a sequence, and when a function is one.
use Rattle.std.proofs.Common.{◌≡◌, ◌∙◌, ℕ, zero, suc, ap, sym, subst, ◌+◌, ◌<◌, ℤ, pos, ◌&&◌, arith, Bool, true, false, Option, Some, None, is_some, option_map, List, [], ◌∷◌, length, refl}
use Rattle.tla_value.specs.Tree.{Tree, int}
use Rattle.tla_value.specs.Order.{tree_eq}
use Rattle.tla_value.specs.Funs.{arguments, items_from, with_item}
use Rattle.tla_value.specs.Choices.{counted_up}
use Rattle.tla_value.specs.Private.Inner.{counts_from}
use Rattle.tla_value.proofs.TreeTests.{both-and, eq-refl, differ}

length-with_item : (b : Bool) (t : Tree) (r : Option (List Tree)) (n : ℕ) → (is_some r ≡ true → option_map length r ≡ Some n) → is_some (with_item b t r) ≡ true → option_map length (with_item b t r) ≡ Some (suc n)
length-with_item true t (Some ts) n h e = let k : length ts ≡ n = inside (length ts) n (h refl) in ap (λ m. Some (suc m)) k
  where
    inside : (a b : ℕ) → Some a ≡ Some b → a ≡ b
    inside a b f = cc
length-with_item true t None n h e = cc
length-with_item false t r n h e = cc

pub length-items_from : (k : ℕ) (ps : List (Tree × Tree)) → is_some (items_from k ps) ≡ true → option_map length (items_from k ps) ≡ Some (length ps)
length-items_from k [] e = refl
length-items_from k (p ∷ ps) e = length-with_item _ p.1 (items_from (k + 1) ps) (length ps) (length-items_from (k + 1) ps) e

-- ---- a function is a sequence exactly if its arguments are consecutive from 1
some-item : (b : Bool) (t : Tree) (r : Option (List Tree)) → is_some (with_item b t r) ≡ (b && is_some r)
some-item true t (Some ts) = refl
some-item true t None = refl
some-item false t r = refl

pub counts-items : (k : ℕ) (ps : List (Tree × Tree)) → is_some (items_from k ps) ≡ counts_from k (arguments ps)
counts-items k [] = refl
counts-items k (p ∷ ps) = some-item _ p.1 (items_from (k + 1) ps) ∙ ap (λ b. tree_eq p.0 (int (pos k)) && b) (counts-items (k + 1) ps)

pub counts-up : (n k : ℕ) → counts_from k (counted_up n (pos k)) ≡ true
counts-up zero k = refl
counts-up (suc n) k = both-and (tree_eq (int (pos k)) (int (pos k))) _ (eq-refl (int (pos k))) (counts-up n (k + 1))

pub int-same : (a b : ℤ) → int a ≡ int b → a ≡ b
int-same a b e = cc

pub counts-not : (n : ℕ) (z : ℤ) → 0 < n → (z ≡ pos 1 → ⊥) → counts_from 1 (counted_up n z) ≡ false
counts-not zero z l h = absurd (omega arith)
counts-not (suc n) z l h = rw (differ (int z) (int (pos 1)) (λ e. h (int-same z (pos 1) e))) refl

pub none-mapped : (r : Option (List Tree)) → is_some r ≡ false → option_map length r ≡ None
none-mapped (Some ts) e = cc
none-mapped None e = refl

pub sequence-numbers : (n : ℕ) (z : ℤ) (b : Bool) → 0 < n → (b ≡ true → z ≡ pos 1) → (b ≡ false → z ≡ pos 1 → ⊥) → b ≡ counts_from 1 (counted_up n z)
sequence-numbers n z true l same other = subst (λ (y : ℤ). true ≡ counts_from 1 (counted_up n y)) (sym (same refl)) (sym (counts-up n 1))
sequence-numbers n z false l same other = sym (counts-not n z l (other refl))
