-- Two lists of pairs, compared pair by pair.
use Rattle.std.proofs.Common.{◌≡◌, ◌∙◌, ℕ, suc, ℤ, pos, ◌+ℤ◌, ◌<◌, ◌≤◌, List, [], ◌∷◌, length, map, zip, get_or, drop, ap, refl, arith, Ordering, Less, Equal, Greater}
use Rattle.std.proofs.Math.Seq.{drop-cons}
use Rattle.std.proofs.lemmas.Int.{ints}
use Rattle.std.proofs.lemmas.List.{drop_all}
use Rattle.std.proofs.lemmas.Slice.Zip.{get_or-zip}
use Rattle.std.specs.Ordering.{int_cmp, ordering_then}
use Rattle.std.specs.Cmp.{tied_itself}
use Rattle.tla_value.specs.Tree.{Tree, trees, pairs}
use Rattle.tla_value.specs.TreeOf.{tree_of, pair_of}
use Rattle.tla_value.specs.Order.{tree_cmp, trees_cmp, pairs_cmp}
use Rattle.tla_value.specs.OrderLaws.{tree_cmp-total}
use Rattle.tla_value.specs.Arguments.{argument_values, FitArguments}
use Rattle.tla_value.proofs.Pairs.{length-zip, length-numbers}
use Rattle.tla_value.specs.declared.value.Value.{Value}
use Rattle.tla_value.specs.declared.value.Arguments.{Arguments}
use Rattle.tla_value.specs.declared.value.Arguments.TheVariants.{Numbers, Listed}

-- the number of borrowed arguments
pub length-argument_values : (n : ℕ) (a : Arguments) → FitArguments n a → length (argument_values n a) ≡ n
length-argument_values n (Numbers z) h = length-numbers n z
length-argument_values n (Listed vs) h = h

next_pair : (ks vs : List Value) (i : ℕ) (d : Value) → length ks ≡ length vs → i < length vs → drop i (zip ks vs) ≡ (get_or ks i d, get_or vs i d) ∷ drop (suc i) (zip ks vs)
next_pair ks vs i d long l =
    drop-cons (zip ks vs) i (d, d) (omega (arith, length-zip ks vs long, l))
    ∙ ap (λ p. p ∷ drop (suc i) (zip ks vs)) (get_or-zip ks vs i (d, d) (omega (arith, long, l)) l)

-- the pairs at an index, and then the rest
pub compared_step : (ks vs ls ws : List Value) (i : ℕ) (d : Value) → length ks ≡ length vs → length ls ≡ length ws → i < length vs → i < length ws
    → pairs_cmp (pairs (map pair_of (drop i (zip ks vs)))) (pairs (map pair_of (drop i (zip ls ws))))
    ≡ ordering_then (ordering_then (tree_cmp (tree_of (get_or ks i d)) (tree_of (get_or ls i d))) (tree_cmp (tree_of (get_or vs i d)) (tree_of (get_or ws i d)))) (pairs_cmp (pairs (map pair_of (drop (suc i) (zip ks vs)))) (pairs (map pair_of (drop (suc i) (zip ls ws)))))
compared_step ks vs ls ws i d a b l m =
    let p = next_pair ks vs i d a l in
    let q = next_pair ls ws i d b m in
    λ j. pairs_cmp (pairs (map pair_of (p j))) (pairs (map pair_of (q j)))

-- the rest is empty
pub compared_end : (ks vs ls ws : List Value) (i : ℕ) → length ks ≡ length vs → length ls ≡ length ws → length vs ≤ i → length ws ≤ i
    → pairs_cmp (pairs (map pair_of (drop i (zip ks vs)))) (pairs (map pair_of (drop i (zip ls ws)))) ≡ Equal
compared_end ks vs ls ws i a b l m =
    let p = drop_all i (zip ks vs) (omega (arith, length-zip ks vs a, l)) in
    let q = drop_all i (zip ls ws) (omega (arith, length-zip ls ws b, m)) in
    λ j. pairs_cmp (pairs (map pair_of (p j))) (pairs (map pair_of (q j)))

pub decided : (o p q : Ordering) → (o ≡ Equal → ⊥) → ordering_then (ordering_then o p) q ≡ o
decided Less p q h = refl
decided Equal p q h = absurd (h refl)
decided Greater p q h = refl

pub decided_next : (o p q : Ordering) → o ≡ Equal → (p ≡ Equal → ⊥) → ordering_then (ordering_then o p) q ≡ p
decided_next Equal Less q e h = refl
decided_next Equal Equal q e h = absurd (h refl)
decided_next Equal Greater q e h = refl
decided_next Less p q e h = cc
decided_next Greater p q e h = cc

pub both_equal : (o p q : Ordering) → o ≡ Equal → p ≡ Equal → ordering_then (ordering_then o p) q ≡ q
both_equal Equal Equal q e f = refl
both_equal Equal Less q e f = cc
both_equal Equal Greater q e f = cc
both_equal Less p q e f = cc
both_equal Greater p q e f = cc

-- equal distances from two numbers
pub shifted_cmp : (x y : ℤ) (i : ℕ) → int_cmp x y ≡ int_cmp (x +ℤ pos i) (y +ℤ pos i)
shifted_cmp x y i = grind (arith, ints)

-- functions on the same arguments are compared by their values
then_first : (o p : Ordering) → ordering_then (ordering_then Equal o) p ≡ ordering_then o p
then_first Less p = refl
then_first Equal p = refl
then_first Greater p = refl

pub same_arguments : (ks vs ws : List Tree) → length ks ≡ length vs → length vs ≡ length ws → pairs_cmp (pairs (zip ks vs)) (pairs (zip ks ws)) ≡ trees_cmp (trees vs) (trees ws)
same_arguments [] [] [] e f = refl
same_arguments [] [] (w ∷ ws) e f = absurd (omega arith)
same_arguments [] (v ∷ vs) ws e f = absurd (omega arith)
same_arguments (k ∷ ks) [] ws e f = absurd (omega arith)
same_arguments (k ∷ ks) (v ∷ vs) [] e f = absurd (omega arith)
same_arguments (k ∷ ks) (v ∷ vs) (w ∷ ws) e f =
    ap (λ o. ordering_then (ordering_then o (tree_cmp v w)) (pairs_cmp (pairs (zip ks vs)) (pairs (zip ks ws)))) (tied_itself tree_cmp-total k)
    ∙ then_first (tree_cmp v w) (pairs_cmp (pairs (zip ks vs)) (pairs (zip ks ws)))
    ∙ ap (λ o. ordering_then (tree_cmp v w) o) (same_arguments ks vs ws (omega arith) (omega arith))
