-- All choices from rising lists rise, and so do the functions of these choices.
use Rattle.std.proofs.Common.{◌≡◌, ℕ, suc, List, [], ◌∷◌, length, map, zip, refl, sym, ap, ◌∙◌, arith, Ordering, Less}
use Rattle.std.specs.List.{AllByRecursion, flat_map}
use Rattle.std.specs.List.Sorted.{IsStrictlySortedBy}
use Rattle.std.specs.Ordering.{nat_cmp, ordering_then}
use Rattle.std.specs.Cmp.{nat_cmp_total, tied_itself}
use Rattle.std.specs.Cmp.Lexicographic.{slice_cmp}
use Rattle.tla_value.specs.Tree.{Tree, fun, pairs, pair_count}
use Rattle.tla_value.specs.Order.{tree_cmp, pairs_cmp}
use Rattle.tla_value.specs.OrderLaws.{tree_cmp-total}
use Rattle.tla_value.specs.Choices.{choices, functions_by}
use Rattle.tla_value.proofs.Lists.{all-append, all-of, each, rising-append}
use Rattle.tla_value.specs.Rising.{all-map}

abbrev pub list_cmp : List Tree → List Tree → Ordering
list_cmp = slice_cmp tree_cmp

same_head : (x : Tree) (c d : List Tree) → list_cmp c d ≡ Less → list_cmp (x ∷ c) (x ∷ d) ≡ Less
same_head x c d e = ap (λ o. ordering_then o (list_cmp c d)) (tied_itself tree_cmp-total x) ∙ e

lower_head : (x y : Tree) (c d : List Tree) → tree_cmp x y ≡ Less → list_cmp (x ∷ c) (y ∷ d) ≡ Less
lower_head x y c d e = ap (λ o. ordering_then o (list_cmp c d)) e

rising-block : (x : Tree) (cs : List (List Tree)) → IsStrictlySortedBy list_cmp cs → IsStrictlySortedBy list_cmp (map (λ c. x ∷ c) cs)
unfolding IsStrictlySortedBy
rising-block x [] h = tt
rising-block x (c ∷ cs) h = (all-map (λ d. x ∷ d) (λ d. list_cmp (x ∷ c) d ≡ Less) cs (all-of cs (λ d e. same_head x c d e) h.0), rising-block x cs h.1)

below-blocks : (x : Tree) (c : List Tree) (cs : List (List Tree)) (xs : List Tree) → AllByRecursion (λ y. tree_cmp x y ≡ Less) xs → AllByRecursion (λ d. list_cmp (x ∷ c) d ≡ Less) (flat_map (λ y. map (λ d. y ∷ d) cs) xs)
below-blocks x c cs [] h = tt
below-blocks x c cs (y ∷ ys) h =
    all-append (λ d. list_cmp (x ∷ c) d ≡ Less) (map (λ d. y ∷ d) cs) (flat_map (λ z. map (λ d. z ∷ d) cs) ys)
    (all-map (λ d. y ∷ d) (λ d. list_cmp (x ∷ c) d ≡ Less) cs (each cs (λ d. lower_head x y c d h.0)))
    (below-blocks x c cs ys h.1)

rising-blocks : (cs : List (List Tree)) (xs : List Tree) → IsStrictlySortedBy list_cmp cs → IsStrictlySortedBy tree_cmp xs → IsStrictlySortedBy list_cmp (flat_map (λ x. map (λ c. x ∷ c) cs) xs)
unfolding IsStrictlySortedBy
rising-blocks cs [] h j = tt
rising-blocks cs (x ∷ xs) h j =
    rising-append list_cmp (map (λ c. x ∷ c) cs) (flat_map (λ y. map (λ c. y ∷ c) cs) xs) (rising-block x cs h) (rising-blocks cs xs h j.1)
    (all-map (λ c. x ∷ c) (λ c. AllByRecursion (λ d. list_cmp c d ≡ Less) (flat_map (λ y. map (λ d. y ∷ d) cs) xs)) cs (each cs (λ c. below-blocks x c cs xs j.0)))

pub rising-choices : (lists : List (List Tree)) → AllByRecursion (IsStrictlySortedBy tree_cmp) lists → IsStrictlySortedBy list_cmp (choices lists)
unfolding IsStrictlySortedBy
rising-choices [] h = (tt, tt)
rising-choices (xs ∷ rest) h = rising-blocks (choices rest) xs (rising-choices rest h.1) h.0

-- each choice is as long as there are lists
long-blocks : (n : ℕ) (cs : List (List Tree)) → AllByRecursion (λ c. length c ≡ n) cs → (ys : List Tree) → AllByRecursion (λ c. length c ≡ suc n) (flat_map (λ x. map (λ c. x ∷ c) cs) ys)
long-blocks n cs h [] = tt
long-blocks n cs h (y ∷ ys) =
    all-append (λ c. length c ≡ suc n) (map (λ c. y ∷ c) cs) (flat_map (λ x. map (λ c. x ∷ c) cs) ys)
    (all-map (λ c. y ∷ c) (λ c. length c ≡ suc n) cs (all-of cs (λ c e. ap suc e) h))
    (long-blocks n cs h ys)

pub long-choices : (lists : List (List Tree)) → AllByRecursion (λ c. length c ≡ length lists) (choices lists)
long-choices [] = (refl, tt)
long-choices (xs ∷ rest) = long-blocks (length rest) (choices rest) (long-choices rest) xs

same_arguments : (ks c d : List Tree) → length c ≡ length ks → length d ≡ length ks → pairs_cmp (pairs (zip ks c)) (pairs (zip ks d)) ≡ list_cmp c d
same_arguments [] [] [] e f = refl
same_arguments [] (x ∷ c) d e f = absurd (omega arith)
same_arguments [] [] (y ∷ d) e f = absurd (omega arith)
same_arguments (k ∷ ks) [] d e f = absurd (omega arith)
same_arguments (k ∷ ks) (x ∷ c) [] e f = absurd (omega arith)
same_arguments (k ∷ ks) (x ∷ c) (y ∷ d) e f =
    ap (λ o. ordering_then (ordering_then o (tree_cmp x y)) (pairs_cmp (pairs (zip ks c)) (pairs (zip ks d)))) (tied_itself tree_cmp-total k)
    ∙ ap (ordering_then (tree_cmp x y)) (same_arguments ks c d (omega arith) (omega arith))

pub as_many : (ks c : List Tree) → length c ≡ length ks → pair_count (pairs (zip ks c)) ≡ length ks
as_many [] c e = refl
as_many (k ∷ ks) [] e = absurd (omega arith)
as_many (k ∷ ks) (x ∷ c) e = ap suc (as_many ks c (omega arith))

function_cmp : (ks c d : List Tree) → length c ≡ length ks → length d ≡ length ks → list_cmp c d ≡ Less → tree_cmp (fun (pairs (zip ks c))) (fun (pairs (zip ks d))) ≡ Less
function_cmp ks c d e f h =
    ap (λ n. ordering_then (nat_cmp n (pair_count (pairs (zip ks d)))) (pairs_cmp (pairs (zip ks c)) (pairs (zip ks d)))) (as_many ks c e ∙ sym (as_many ks d f))
    ∙ ap (λ o. ordering_then o (pairs_cmp (pairs (zip ks c)) (pairs (zip ks d)))) (tied_itself nat_cmp_total (pair_count (pairs (zip ks d))))
    ∙ same_arguments ks c d e f ∙ h

rising-functions : (ks : List Tree) (cs : List (List Tree)) → AllByRecursion (λ c. length c ≡ length ks) cs → IsStrictlySortedBy list_cmp cs → IsStrictlySortedBy tree_cmp (map (λ c. fun (pairs (zip ks c))) cs)
unfolding IsStrictlySortedBy
rising-functions ks [] h j = tt
rising-functions ks (c ∷ cs) h j = (above_first cs h.1 j.0, rising-functions ks cs h.1 j.1)
  where
    above_first : (ds : List (List Tree)) → AllByRecursion (λ d. length d ≡ length ks) ds → AllByRecursion (λ d. list_cmp c d ≡ Less) ds → AllByRecursion (λ t. tree_cmp (fun (pairs (zip ks c))) t ≡ Less) (map (λ d. fun (pairs (zip ks d))) ds)
    above_first [] l e = tt
    above_first (d ∷ ds) l e = (function_cmp ks c d h.0 l.0 e.0, above_first ds l.1 e.1)

pub rising-functions_by : (ks : List Tree) (lists : List (List Tree)) → length ks ≡ length lists → AllByRecursion (IsStrictlySortedBy tree_cmp) lists → IsStrictlySortedBy tree_cmp (functions_by ks lists)
rising-functions_by ks lists e h = rising-functions ks (choices lists) (all-of (choices lists) (λ c f. f ∙ sym e) (long-choices lists)) (rising-choices lists h)
