-- What pairs write to a hasher.
use Rattle.std.proofs.Common.{◌≡◌, ℕ, zero, suc, ◌<◌, ◌++◌, ℤ, pos, ◌+ℤ◌, List, [], ◌∷◌, false, cond, length, map, zip, get_or, drop, fold, refl, sym, ap, ◌∙◌, arith}
use Rattle.std.proofs.Math.Seq.{drop-cons}
use Rattle.std.proofs.lemmas.Cmp.{int_eq_equiv}
use Rattle.std.proofs.lemmas.List.Sums.{fold-append}
use Rattle.std.specs.Hash.FoldHasher as folding
use Rattle.tla_value.specs.Tree.{Tree, int, trees, pairs}
use Rattle.tla_value.specs.TreeOf.{tree_of, pair_of}
use Rattle.tla_value.specs.TreeHash.{is_next, unless_next, tree_writes, trees_writes, pairs_writes, writes_behind}
use Rattle.tla_value.specs.Choices.{counted_up}
use Rattle.tla_value.specs.declared.value.Value.{Value}
use Rattle.tla_value.specs.declared.value.Value.TheVariants.{Truth, Int, Text, Model, Set, Fun}

-- the first pair, and then the rest
pub fed_first : (ks vs : List Value) (d k v : Value) → length ks ≡ length vs → 0 < length vs → k ≡ get_or ks 0 k → v ≡ get_or vs 0 v
    → (h : _) → fold folding.write (fold folding.write (fold folding.write h (tree_writes (tree_of k))) (tree_writes (tree_of v))) (writes_behind (tree_of (get_or ks 0 d)) (pairs (map pair_of (drop 1 (zip ks vs))))) ≡ fold folding.write h (pairs_writes (pairs (map pair_of (zip ks vs))))
fed_first ks [] d k v e l f g h = absurd (omega arith)
fed_first [] (y ∷ ys) d k v e l f g h = absurd (omega arith)
fed_first (x ∷ xs) (y ∷ ys) d k v e l f g h =
    (λ j. fold folding.write (fold folding.write (fold folding.write h (tree_writes (tree_of (f j)))) (tree_writes (tree_of (g j)))) (writes_behind (tree_of x) (pairs (map pair_of (zip xs ys)))))
    ∙ sym (fold-append folding.write h (tree_writes (tree_of x)) _ ∙ fold-append folding.write _ (tree_writes (tree_of y)) _)

-- the next pair, and then the rest
pub fed_more : (a : Tree) (ps : List (Value × Value)) (i : ℕ) (k v : Value) → i < length ps → (k, v) ≡ get_or ps i (k, v)
    → (h : _) → fold folding.write h (writes_behind a (pairs (map pair_of (drop i ps)))) ≡ fold folding.write (fold folding.write (fold folding.write h (unless_next a (tree_of k) (tree_writes (tree_of k)))) (tree_writes (tree_of v))) (writes_behind (tree_of k) (pairs (map pair_of (drop (suc i) ps))))
fed_more a ps i k v l is h =
    ap (λ qs. fold folding.write h (writes_behind a (pairs (map pair_of qs)))) (drop-cons ps i (k, v) l ∙ ap (λ p. p ∷ drop (suc i) ps) (sym is))
    ∙ fold-append folding.write h (unless_next a (tree_of k) (tree_writes (tree_of k))) _
    ∙ fold-append folding.write _ (tree_writes (tree_of v)) _

-- ---- of consecutive numbers only the first is written
fed_behind : (n : ℕ) (z : ℤ) (ts : List Tree) → length ts ≡ n → writes_behind (int z) (pairs (zip (counted_up n (z +ℤ pos 1)) ts)) ≡ trees_writes (trees ts)
fed_behind zero z [] e = refl
fed_behind zero z (t ∷ ts) e = absurd (omega arith)
fed_behind (suc n) z [] e = absurd (omega arith)
fed_behind (suc n) z (t ∷ ts) e =
    let y = z +ℤ pos 1 in
    ap (λ b. cond b [] (tree_writes (int y)) ++ (tree_writes t ++ writes_behind (int y) (pairs (zip (counted_up n (y +ℤ pos 1)) ts)))) (int_eq_equiv.refl y)
    ∙ ap (λ ws. tree_writes t ++ ws) (fed_behind n y ts (omega arith))

pub fed_numbers : (n : ℕ) (z : ℤ) (ts : List Tree) → length ts ≡ n → 0 < n → pairs_writes (pairs (zip (counted_up n z) ts)) ≡ tree_writes (int z) ++ trees_writes (trees ts)
fed_numbers zero z ts e l = absurd (omega arith)
fed_numbers (suc n) z [] e l = absurd (omega arith)
fed_numbers (suc n) z (t ∷ ts) e l = ap (λ ws. tree_writes (int z) ++ (tree_writes t ++ ws)) (fed_behind n z ts (omega arith))

-- ---- a value that is no number has no successor and no predecessor
pub next_no_number : (v w : Value) → ((z : ℤ) → v ≡ Int z → ⊥) → false ≡ is_next (tree_of v) (tree_of w)
next_no_number (Int z) w h = absurd (h z refl)
next_no_number (Truth b) w h = refl
next_no_number (Text s) w h = refl
next_no_number (Model s) w h = refl
next_no_number (Set ts) w h = refl
next_no_number (Fun ps) w h = refl

pub next_other : (v w : Value) → ((z : ℤ) → w ≡ Int z → ⊥) → false ≡ is_next (tree_of v) (tree_of w)
next_other (Int y) (Int z) h = absurd (h z refl)
next_other (Int y) (Truth b) h = refl
next_other (Int y) (Text s) h = refl
next_other (Int y) (Model s) h = refl
next_other (Int y) (Set ts) h = refl
next_other (Int y) (Fun ps) h = refl
next_other (Truth b) w h = refl
next_other (Text s) w h = refl
next_other (Model s) w h = refl
next_other (Set ts) w h = refl
next_other (Fun ps) w h = refl
