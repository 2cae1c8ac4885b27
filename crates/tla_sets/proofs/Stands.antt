-- Membership in the set of some values, if that is within the limits.
use Rattle.std.proofs.Common.{◌≡◌, ℕ, suc, ◌+◌, ◌<◌, ◌≤◌, List, [], ◌∷◌, map, length, drop, get_or, Ok, sym, ap, subst, ◌∙◌, arith, add-one, drop-cons, Less, Equal, Greater}
use Rattle.std.specs.BTreeSet.{insert_key}
use Rattle.std.specs.Ordering.{match_ordering}
use Rattle.tla_value.specs.Tree.{Tree, set, trees, depth, deepest}
use Rattle.tla_value.specs.Order.{tree_cmp}
use Rattle.tla_value.specs.Sets.{is_member, set_of}
use Rattle.tla_value.specs.SetLaws.{is_member-set_of}
use Rattle.tla_core.specs.declared.fault.Place.{Place}
use Rattle.tla_core.specs.Kinds.{make_set}
use Rattle.tla_sets.specs.Elements.{stands_rule}
use Rattle.tla_operators.specs.Evaluated.{tree_of_evaluated}
use Rattle.tla_operators.specs.declared.evaluated.Evaluated.{Evaluated}
use Rattle.tla_operators.proofs.Made.{within_ok}
use Rattle.tla_operators.proofs.Different.{different_few}
use Rattle.tla_sets.proofs.Known.{has_known}

insert_shallow : (xs : List Tree) (t : Tree) → depth t < 64 → deepest (trees xs) < 64 → deepest (trees (insert_key tree_cmp xs t)) < 64
insert_shallow [] t h j = omega arith
insert_shallow (x ∷ xs) t h j =
    elim (tree_cmp t x) as (λ r. deepest (trees (match_ordering r (t ∷ x ∷ xs) (x ∷ xs) (x ∷ insert_key tree_cmp xs t))) < 64) [
      | Less ↦ omega arith
      | Equal ↦ j
      | Greater ↦ omega (arith, insert_shallow xs t h (omega arith))
    ]

set_shallow : (ts : List Tree) → deepest (trees ts) < 64 → deepest (trees (set_of ts)) < 64
set_shallow [] h = h
set_shallow (t ∷ ts) h = insert_shallow (set_of ts) t (omega arith) (set_shallow ts (omega arith))

pub stands_known : (p : Place) (vs : List Tree) (v : Tree) → length vs ≤ 1000000 → deepest (trees vs) < 64 → stands_rule p vs v ≡ Ok (is_member v vs)
stands_known p vs v few shallow =
    has_known p v (make_set p vs) (set_of vs) (within_ok p (length (set_of vs)) (deepest (trees (set_of vs))) (set (trees (set_of vs))) (omega (arith, different_few vs)) (set_shallow vs shallow))
    ∙ ap (λ b. Ok b) (is_member-set_of vs v)

-- one more value that isn't nested too deep
pub shallow_more : (values : List Evaluated) (i : ℕ) (x : Evaluated) → x ≡ get_or values i x → i < length values → depth (tree_of_evaluated x) < 64
    → deepest (trees (map tree_of_evaluated (drop (i + 1) values))) < 64 → deepest (trees (map tree_of_evaluated (drop i values))) < 64
shallow_more values i x is h few rest =
    let e : drop i values ≡ x ∷ drop (i + 1) values = rw add-one (drop-cons values i x h ∙ ap (λ y. y ∷ drop (suc i) values) (sym is)) in
    subst (λ us. deepest (trees (map tree_of_evaluated us)) < 64) (sym e) (omega arith)
