-- Sequences: the pairs of a value that is one, and the sequence of some values.
use Rattle.std.proofs.Common.{◌≡◌, ℕ, zero, suc, ◌+◌, ◌≤◌, ◌<◌, Bool, true, false, List, [], ◌∷◌, length, take, drop, Option, Some, None, option_map, is_some, Ok, ap, refl, ◌∙◌, arith, pos}
use Rattle.std.proofs.lemmas.List.{length-map}
use Rattle.tla_value.specs.Tree.{Tree, int, fun, trees, pairs, entries-pairs, deepest, deepest_pair}
use Rattle.tla_value.specs.TreeOf.{tree_of}
use Rattle.tla_value.specs.IsValue.{IsValue, IsFunList}
use Rattle.tla_value.specs.Order.{tree_eq}
use Rattle.tla_value.specs.Funs.{values_of, with_item, items_from, items_of}
use Rattle.tla_value.specs.Choices.{numbered, sequence}
use Rattle.tla_value.specs.declared.value.Value.{Value}
use Rattle.tla_value.specs.declared.value.Value.TheVariants.{Fun}
use Rattle.tla_value.proofs.Pairs.{deepest-values}
use Rattle.tla_value.proofs.OnDomain.{length-numbered, deepest-numbered}
use Rattle.tla_core.specs.declared.fault.Place.{Place}
use Rattle.tla_core.specs.declared.fault.FaultCode.TheVariants.{WrongKind}
use Rattle.tla_core.specs.Fault.{fault}
use Rattle.tla_core.specs.Kinds.{or_fault, items, as_sequence, make_sequence}
use Rattle.tla_operators.proofs.Made.{within_ok}

-- ---- reading
item_known : (b : Bool) (t : Tree) (o : Option (List Tree)) (us : List Tree) → (is_some o ≡ true → o ≡ Some us) → is_some (with_item b t o) ≡ true → with_item b t o ≡ Some (t ∷ us)
item_known true t (Some ts) us h j = ap (λ o. with_item true t o) (h refl)
item_known true t None us h j = cc
item_known false t (Some ts) us h j = cc
item_known false t None us h j = cc

items_from_known : (k : ℕ) (ps : List (Tree × Tree)) → is_some (items_from k ps) ≡ true → items_from k ps ≡ Some (values_of ps)
items_from_known k [] h = refl
items_from_known k (p ∷ ps) h = item_known (tree_eq p.0 (int (pos k))) p.1 (items_from (k + 1) ps) (values_of ps) (items_from_known (k + 1) ps) h

some_length : (o : Option (List Tree)) (n : ℕ) → option_map length o ≡ Some n → is_some o ≡ true
some_length (Some ts) n h = refl
some_length None n h = cc

no_length : (o : Option (List Tree)) → option_map length o ≡ None → o ≡ None
no_length (Some ts) h = cc
no_length None h = refl

pub as_sequence_known : (p : Place) (v : Value) (ps : List (Tree × Tree)) (n : ℕ) → v ≡ Fun ps → option_map length (items_of ps) ≡ Some n → as_sequence p (tree_of v) ≡ Ok (values_of ps)
as_sequence_known p v ps n e h =
    ap (λ u. as_sequence p (tree_of u)) e
    ∙ ap (λ qs. or_fault WrongKind p (items_of qs)) (entries-pairs ps)
    ∙ ap (or_fault WrongKind p) (items_from_known 1 ps (some_length (items_of ps) n h))

pub as_sequence_none : (p : Place) (v : Value) (ps : List (Tree × Tree)) → v ≡ Fun ps → option_map length (items_of ps) ≡ None → as_sequence p (tree_of v) ≡ fault WrongKind p
as_sequence_none p v ps e h =
    ap (λ u. as_sequence p (tree_of u)) e
    ∙ ap (λ qs. or_fault WrongKind p (items_of qs)) (entries-pairs ps)
    ∙ ap (or_fault WrongKind p) (no_length (items_of ps) h)

pub items_known : (v : Value) (ps : List (Tree × Tree)) (n : ℕ) → v ≡ Fun ps → option_map length (items_of ps) ≡ Some n → items (tree_of v) ≡ Some (values_of ps)
items_known v ps n e h = ap (λ u. items (tree_of u)) e ∙ ap items_of (entries-pairs ps) ∙ items_from_known 1 ps (some_length (items_of ps) n h)

pub items_none : (v : Value) (ps : List (Tree × Tree)) → v ≡ Fun ps → option_map length (items_of ps) ≡ None → items (tree_of v) ≡ None
items_none v ps e h = ap (λ u. items (tree_of u)) e ∙ ap items_of (entries-pairs ps) ∙ no_length (items_of ps) h

-- ---- limits
pub few_values : (ps : List (Tree × Tree)) → IsValue (fun (pairs ps)) → length (values_of ps) ≤ 1000000
few_values ps h = let list : IsFunList ps = rw entries-pairs at h.1 in omega (arith, list.few, length-map ps (λ (p : Tree × Tree). p.1))

pub shallow_values : (ps : List (Tree × Tree)) → IsValue (fun (pairs ps)) → deepest (trees (values_of ps)) < 64
shallow_values ps h = let list : IsFunList ps = rw entries-pairs at h.1 in omega (arith, list.shallow, deepest-values ps)

pub make_sequence_ok : (p : Place) (ts : List Tree) → length ts ≤ 1000000 → deepest (trees ts) < 64 → make_sequence p ts ≡ Ok (sequence ts)
make_sequence_ok p ts few shallow =
    within_ok p (length (numbered 1 ts)) (deepest_pair (pairs (numbered 1 ts))) (sequence ts) (rw (length-numbered 1 ts) few) (rw (deepest-numbered 1 ts) shallow)

-- ---- parts
few-take : (n : ℕ) (ts : List Tree) → length (take n ts) ≤ length ts
few-take zero ts = omega arith
few-take (suc n) [] = omega arith
few-take (suc n) (t ∷ ts) = let h = few-take n ts in omega arith

few-drop : (n : ℕ) (ts : List Tree) → length (drop n ts) ≤ length ts
few-drop zero ts = omega arith
few-drop (suc n) [] = omega arith
few-drop (suc n) (t ∷ ts) = let h = few-drop n ts in omega arith

deepest-drop : (n : ℕ) (ts : List Tree) → deepest (trees (drop n ts)) ≤ deepest (trees ts)
deepest-drop zero ts = omega arith
deepest-drop (suc n) [] = omega arith
deepest-drop (suc n) (t ∷ ts) = let h = deepest-drop n ts in omega arith

deepest-take : (n : ℕ) (ts : List Tree) → deepest (trees (take n ts)) ≤ deepest (trees ts)
deepest-take zero ts = omega arith
deepest-take (suc n) [] = omega arith
deepest-take (suc n) (t ∷ ts) = let h = deepest-take n ts in omega arith

pub part_ok : (p : Place) (ts : List Tree) (m n : ℕ) → length ts ≤ 1000000 → deepest (trees ts) < 64 → make_sequence p (take m (drop n ts)) ≡ Ok (sequence (take m (drop n ts)))
part_ok p ts m n few shallow =
    make_sequence_ok p (take m (drop n ts)) (omega (arith, few, few-take m (drop n ts), few-drop n ts)) (omega (arith, shallow, deepest-take m (drop n ts), deepest-drop n ts))
