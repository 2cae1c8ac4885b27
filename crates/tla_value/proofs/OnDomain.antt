-- Functions on given arguments.
use Rattle.std.proofs.Common.{◌≡◌, ◌∙◌, ℕ, zero, suc, ◌+◌, ◌<◌, ◌≤◌, max, ℤ, pos, List, [], ◌∷◌, length, map, zip, refl, sym, ap, subst, arith, FitsSigned, w64, rules}
use Rattle.std.specs.List.Sorted.{IsStrictlySortedBy}
use Rattle.tla_value.specs.Tree.{Tree, trees, pairs, deepest, deepest_pair}
use Rattle.tla_value.specs.TreeOf.{tree_of}
use Rattle.tla_value.specs.Order.{tree_cmp}
use Rattle.tla_value.specs.IsValue.{AreValues, ArePairs, IsSetList, IsFunValue}
use Rattle.tla_value.specs.Choices.{counted_up, numbered}
use Rattle.tla_value.specs.Private.Held.{domain_trees, entry_pairs}
use Rattle.tla_value.specs.Private.Falls.{deepest-both}
use Rattle.tla_value.proofs.Pairs.{arguments-zip, length-zip}
use Rattle.tla_value.proofs.Ranges.{length-counted_up, rising-counted_up}
use Rattle.tla_value.proofs.Tuples.{numbered_is, deepest-counted_up}
use Rattle.tla_value.specs.declared.value.Value.{Value}
use Rattle.tla_value.specs.declared.value.Domain.{Domain}

-- the contents for arguments in another representation
pub on_entry : (d : Domain) (vs : List Value) (ts : List Tree) → length ts ≡ length vs → domain_trees (length ts) d ≡ ts → entry_pairs d vs ≡ zip ts (map tree_of vs)
on_entry d vs ts e h = ap (λ n. zip (domain_trees n d) (map tree_of vs)) (sym e) ∙ ap (λ ks. zip ks (map tree_of vs)) h

values-on : (ks ts : List Tree) → AreValues (trees ks) → AreValues (trees ts) → ArePairs (pairs (zip ks ts))
values-on [] ts h j = tt
values-on (k ∷ ks) [] h j = tt
values-on (k ∷ ks) (t ∷ ts) h j = (h.0, j.0, values-on ks ts h.1 j.1)

pub is-on : (ks ts : List Tree) (n : ℕ) → IsSetList ks → AreValues (trees ks) → AreValues (trees ts) → length ks ≡ length ts → deepest (trees ts) < 64 → n ≡ suc (max (deepest (trees ks)) (deepest (trees ts))) → IsFunValue (zip ks ts) n
is-on ks ts n list keys values e shallow nested = record {
  values = values-on ks ts keys values;
  list = record {
    rising = subst (λ us. IsStrictlySortedBy tree_cmp us) (sym (arguments-zip ks ts e)) list.rising;
    few = let few = list.few in omega (arith, e, length-zip ks ts e);
    shallow = let low = list.shallow in omega (arith, deepest-both ks ts e, shallow);
  };
  nested = omega (arith, nested, deepest-both ks ts e);
}

-- ---- numbers from 1 on
pub length-numbered : (k : ℕ) (ts : List Tree) → length (numbered k ts) ≡ length ts
length-numbered k [] = refl
length-numbered k (t ∷ ts) = ap suc (length-numbered (k + 1) ts)

fits-number : (k : ℕ) → k < 9223372036854775808 → FitsSigned w64 (pos k)
fits-number k l = search rules

numbers-are : (n k : ℕ) → k + n < 9223372036854775808 → AreValues (trees (counted_up n (pos k)))
numbers-are zero k l = tt
numbers-are (suc n) k l = (fits-number k (omega arith), numbers-are n (k + 1) (omega arith))

numbers-list : (n : ℕ) (z : ℤ) → n ≤ 1000000 → IsSetList (counted_up n z)
numbers-list n z few = record { rising = rising-counted_up n z; few = omega (arith, length-counted_up n z); shallow = omega (arith, deepest-counted_up n z) }

pub is-sequence : (ts : List Tree) (n : ℕ) → length ts ≤ 1000000 → AreValues (trees ts) → deepest (trees ts) < 64 → n ≡ suc (deepest (trees ts)) → IsFunValue (numbered 1 ts) n
is-sequence ts n few values shallow nested =
    subst (λ ps. IsFunValue ps n) (numbered_is 1 ts)
    (is-on (counted_up (length ts) (pos 1)) ts n (numbers-list (length ts) (pos 1) few) (numbers-are (length ts) 1 (omega arith)) values (length-counted_up (length ts) (pos 1)) shallow (omega (arith, nested, deepest-counted_up (length ts) (pos 1))))

pub deepest-numbered : (k : ℕ) (ts : List Tree) → deepest_pair (pairs (numbered k ts)) ≡ deepest (trees ts)
deepest-numbered k [] = refl
deepest-numbered k (t ∷ ts) = omega (arith, deepest-numbered (k + 1) ts)
