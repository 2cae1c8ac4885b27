-- All choices: their number, and the one with a number.
use Rattle.std.proofs.Common.{◌≡◌, ℕ, zero, suc, ◌+◌, ◌*◌, ◌/◌, ◌%◌, ◌<◌, ◌≤◌, false, List, [], ◌∷◌, ◌++◌, append_assoc, max, length, map, zip, get_or, drop, refl, sym, ap, subst, ◌∙◌, arith}
use Rattle.std.specs.List.{flat_map}
use Rattle.std.proofs.Math.Nat.{mul-div_cancel_left, mod-lt, zero-mul, mul-zero, div-lt_iff_lt-mul, suc-mul}
use Rattle.std.proofs.lemmas.Nat.{div-add-mod'}
use Rattle.std.proofs.lemmas.List.{length-map, map-append, length-append, get_or-map, get_or_append_left, get_or-append-add}
use Rattle.tla_value.specs.Tree.{Tree, truth, set, trees, pairs, members, members-trees, depth, deepest, deepest_pair}
use Rattle.tla_value.specs.TreeOf.{tree_of, pair_of}
use Rattle.tla_value.specs.IsValue.{IsValue}
use Rattle.tla_value.proofs.Parts.{depth-member-is}
use Rattle.tla_value.specs.declared.value.Value.{Value}
use Rattle.tla_value.specs.Choices.{choices}
use Rattle.tla_value.specs.Private.Inner.{ways, choice_of}

-- the rest from an index on
pub from_place : {A B : Type 0} (f : A → B) (xs : List A) (i : ℕ) (x : A) → i < length xs → x ≡ get_or xs i x → drop i (map f xs) ≡ f x ∷ drop (suc i) (map f xs)
from_place f [] i x l e = absurd (omega arith)
from_place f (y ∷ xs) zero x l e = ap (λ z. f z ∷ map f xs) (sym e)
from_place f (y ∷ xs) (suc i) x l e = from_place f xs i x (omega arith) e

-- ---- the number of choices
length-blocks : (cs : List (List Tree)) (xs : List Tree) → length (flat_map (λ x. map (λ c. x ∷ c) cs) xs) ≡ length xs * length cs
length-blocks cs [] = sym (zero-mul (length cs))
length-blocks cs (x ∷ xs) =
    length-append (map (λ c. x ∷ c) cs) (flat_map (λ y. map (λ c. y ∷ c) cs) xs)
    ∙ ap (λ n. n + length (flat_map (λ y. map (λ c. y ∷ c) cs) xs)) (length-map cs (λ c. x ∷ c))
    ∙ ap (λ n. length cs + n) (length-blocks cs xs)
    ∙ sym (suc_times (length xs) (length cs))
  where
    suc_times : (n m : ℕ) → suc n * m ≡ m + n * m
    suc_times n m = omega (arith, suc-mul n m)

pub length-choices : (lists : List (List Tree)) → length (choices lists) ≡ ways lists
length-choices [] = refl
length-choices (xs ∷ rest) = length-blocks (choices rest) xs ∙ ap (λ n. length xs * n) (length-choices rest)

-- ---- the one with a number
block-at : (cs : List (List Tree)) (xs : List Tree) (q r : ℕ) → q < length xs → r < length cs
    → get_or (flat_map (λ x. map (λ c. x ∷ c) cs) xs) (q * length cs + r) [] ≡ get_or xs q (truth false) ∷ get_or cs r []
block-at cs [] q r l m = absurd (omega arith)
block-at cs (x ∷ xs) zero r l m =
    ap (λ n. get_or (map (λ c. x ∷ c) cs ++ flat_map (λ y. map (λ c. y ∷ c) cs) xs) n []) (ap (λ n. n + r) (zero-mul (length cs)) ∙ zero_and r)
    ∙ get_or_append_left (map (λ c. x ∷ c) cs) (flat_map (λ y. map (λ c. y ∷ c) cs) xs) [] r (omega (arith, length-map cs (λ (c : List Tree). x ∷ c)))
    ∙ get_or-map (λ c. x ∷ c) cs r [] [] m
  where
    zero_and : (n : ℕ) → 0 + n ≡ n
    zero_and n = omega arith
block-at cs (x ∷ xs) (suc q) r l m =
    ap (λ n. get_or (map (λ c. x ∷ c) cs ++ flat_map (λ y. map (λ c. y ∷ c) cs) xs) n []) (after (length cs) q r ∙ ap (λ n. n + (q * length cs + r)) (sym (length-map cs (λ (c : List Tree). x ∷ c))))
    ∙ get_or-append-add (map (λ c. x ∷ c) cs) (flat_map (λ y. map (λ c. y ∷ c) cs) xs) (q * length cs + r) []
    ∙ block-at cs xs q r (omega arith) m
  where
    after : (n p s : ℕ) → suc p * n + s ≡ n + (p * n + s)
    after n p s = omega (arith, suc-mul p n)

-- the number of a choice determines its first part and the number of the rest
pub record IsStep (xs : List Tree) (rest : List (List Tree)) (w k : ℕ) : Type 0 where
  pub some : 0 < length xs
  pub next : w / length xs ≡ ways rest
  pub positive : 0 < ways rest
  pub below : k / ways rest < length xs
  pub left : k % ways rest < ways rest

pub step : (xs : List Tree) (rest : List (List Tree)) (w k : ℕ) → w ≡ length xs * ways rest → k < w → IsStep xs rest w k
step [] rest w k e l = absurd (none_in w k (ways rest) e l)
  where
    none_in : (n j m : ℕ) → n ≡ 0 * m → j < n → ⊥
    none_in n j m p q = let z : n ≡ 0 = p ∙ zero-mul m in omega arith
step (x ∷ xs) rest w k e l = record {
  some = omega arith;
  next = ap (λ n. n / length (x ∷ xs)) e ∙ mul-div_cancel_left (ways rest) (omega arith);
  positive = positive;
  below = (div-lt_iff_lt-mul positive).1 (subst (λ (n : ℕ). k < n) e l);
  left = mod-lt k positive;
}
  where
    some_way : (n m : ℕ) → k < n * m → 0 < m
    some_way n zero h = absurd (let z : n * 0 ≡ 0 = mul-zero n in omega arith)
    some_way n (suc m) h = omega arith

    positive : 0 < ways rest
    positive = some_way (length (x ∷ xs)) (ways rest) (subst (λ (n : ℕ). k < n) e l)

pub choices-at : (lists : List (List Tree)) (k : ℕ) → k < ways lists → get_or (choices lists) k [] ≡ choice_of lists k
choices-at [] zero l = refl
choices-at [] (suc k) l = absurd (omega arith)
choices-at (xs ∷ rest) k l =
    let s = step xs rest (ways (xs ∷ rest)) k refl l in
    let m = ways rest in
    ap (λ n. get_or (choices (xs ∷ rest)) n []) (sym (div-add-mod' k m) ∙ ap (λ n. (k / m) * n + k % m) (sym (length-choices rest)))
    ∙ block-at (choices rest) xs (k / m) (k % m) s.below (subst (λ (n : ℕ). k % m < n) (sym (length-choices rest)) s.left)
    ∙ ap (λ c. get_or xs (k / m) (truth false) ∷ c) (choices-at rest (k % m) s.left)

-- the same for the set at an index, with its length and the quotient as the code computes them
pub record IsStepAt (xs : List Tree) (rest : List (List Tree)) (n w k : ℕ) : Type 0 where
  pub some : 0 < n
  pub next : w / n ≡ ways rest
  pub positive : 0 < w / n
  pub below : k / (w / n) < length xs
  pub left : k % (w / n) < w / n

pub step_at : {S : Type 0} (now : S → List Tree) (sets : List S) (i : ℕ) (s : S) (n w k : ℕ) → i < length sets → s ≡ get_or sets i s → n ≡ length (now s) → w ≡ ways (drop i (map now sets)) → k < w
    → IsStepAt (now s) (drop (suc i) (map now sets)) n w k
step_at now sets i s n w k l is e f h =
    let one = step (now s) (drop (suc i) (map now sets)) w k (f ∙ ap ways (from_place now sets i s l is)) h in
    let next : w / n ≡ ways (drop (suc i) (map now sets)) = ap (λ m. w / m) e ∙ one.next in
    record {
      some = subst (λ (m : ℕ). 0 < m) (sym e) one.some;
      next = next;
      positive = subst (λ (m : ℕ). 0 < m) (sym next) one.positive;
      below = subst (λ (m : ℕ). k / m < length (now s)) (sym next) one.below;
      left = subst (λ (m : ℕ). k % m < m) (sym next) one.left;
    }

-- ---- the pairs picked so far
pub deepest-push : (ps : List (Tree × Tree)) (p : Tree × Tree) → deepest_pair (pairs (ps ++ p ∷ [])) ≡ max (deepest_pair (pairs ps)) (max (depth p.0) (depth p.1))
deepest-push [] p = omega arith
deepest-push (q ∷ ps) p = omega (arith, deepest-push ps p)

-- one more pair
pub picked_more : (old new : List (Tree × Tree)) (a v : Tree) (arguments xs : List Tree) (rest : List (List Tree)) (args : List Tree) (lists : List (List Tree)) (k w : ℕ) (whole : List (Tree × Tree))
    → args ≡ a ∷ arguments → lists ≡ xs ∷ rest → w ≡ ways rest → v ≡ get_or xs (k / w) (truth false) → new ≡ old ++ (a, v) ∷ []
    → old ++ zip args (choice_of lists k) ≡ whole → new ++ zip arguments (choice_of rest (k % w)) ≡ whole
picked_more old new a v arguments xs rest args lists k w whole e f m g n h =
    ap (λ j. new ++ zip arguments (choice_of rest (k % j))) m
    ∙ ap (λ us. us ++ zip arguments (choice_of rest (k % ways rest))) n
    ∙ append_assoc old ((a, v) ∷ []) (zip arguments (choice_of rest (k % ways rest)))
    ∙ ap (λ x. old ++ (a, x) ∷ zip arguments (choice_of rest (k % ways rest))) (g ∙ ap (λ j. get_or xs (k / j) (truth false)) m)
    ∙ ap (λ us. old ++ zip us (choice_of (xs ∷ rest) k)) (sym e)
    ∙ ap (λ us. old ++ zip args (choice_of us k)) (sym f) ∙ h

-- a member of a set that is a value
pub member_shallow : (ts : List Tree) (vs : List Value) (i : ℕ) (x : Value) → map tree_of vs ≡ ts → IsValue (set (trees ts)) → i < length ts → x ≡ get_or vs i x → depth (tree_of x) < 64
member_shallow ts vs i x e h l is =
    let few : i < length vs = omega (arith, length-map vs tree_of, ap length e) in
    let below : depth (tree_of x) ≤ deepest (trees (map tree_of vs)) = depth-member-is vs i x is few in
    let whole : deepest (trees (map tree_of vs)) ≡ deepest (trees ts) = ap (λ us. deepest (trees us)) e in
    let shallow : deepest (trees (members (trees ts))) < 64 = h.1.shallow in
    let same : deepest (trees (members (trees ts))) ≡ deepest (trees ts) = ap (λ us. deepest (trees us)) (members-trees ts) in
    omega arith

pub both_shallow : (a b : ℕ) → a < 64 → b < 64 → max a b < 64
both_shallow a b h j = omega arith

pub pushed_pair : (old new : List (Value × Value)) (p : Value × Value) (a v : Tree) → new ≡ old ++ p ∷ [] → pair_of p ≡ (a, v) → map pair_of new ≡ map pair_of old ++ (a, v) ∷ []
pushed_pair old new p a v e f = ap (map pair_of) e ∙ map-append pair_of old (p ∷ []) ∙ ap (λ q. map pair_of old ++ q ∷ []) f

pub pushed_shallow : (old new : List (Value × Value)) (p : Value × Value) → new ≡ old ++ p ∷ [] → deepest_pair (pairs (map pair_of old)) < 64 → max (depth (tree_of p.0)) (depth (tree_of p.1)) < 64
    → deepest_pair (pairs (map pair_of new)) < 64
pushed_shallow old new p e h j =
    subst (λ (ps : List (Tree × Tree)). deepest_pair (pairs ps) < 64) (sym (pushed_pair old new p (tree_of p.0) (tree_of p.1) e refl))
    (subst (λ (n : ℕ). n < 64) (sym (deepest-push (map pair_of old) (pair_of p))) (both_shallow _ _ h j))
