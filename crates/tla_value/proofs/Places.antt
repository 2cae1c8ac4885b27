-- The index of an argument, and its value.
use Rattle.std.proofs.Common.{◌≡◌, ℕ, zero, suc, ◌<◌, false, cond, List, [], ◌∷◌, Some, None, length, map, get_or, refl, sym, ap, subst, ◌∙◌, arith, Less}
use Rattle.std.specs.Prelude.{slice_get}
use Rattle.std.specs.List.{AllByRecursion}
use Rattle.std.specs.List.Sorted.{IsStrictlySortedBy}
use Rattle.std.specs.Ordering.{is_eq}
use Rattle.std.proofs.lemmas.Cmp.{eq_by_cmp_equiv}
use Rattle.std.proofs.lemmas.List.{length-map}
use Rattle.tla_value.specs.Tree.{Tree}
use Rattle.tla_value.specs.TreeOf.{tree_of}
use Rattle.tla_value.specs.Order.{tree_cmp, tree_eq}
use Rattle.tla_value.specs.OrderLaws.{tree_cmp-total}
use Rattle.tla_value.specs.Sets.{is_member}
use Rattle.tla_value.specs.Funs.{arguments, values_of, value_at, except_of}
use Rattle.tla_value.specs.Private.Inner.{with_value_at}
use Rattle.tla_value.specs.declared.value.Value.{Value}
use Rattle.tla_value.proofs.TreeTests.{eq-refl, or-none}
use Rattle.tla_value.proofs.Sorts.{slice-trees}

inside : (a b : Tree) → Some a ≡ Some b → a ≡ b
inside a b e = cc

-- what is greater is another tree
differs : (x a : Tree) → tree_cmp x a ≡ Less → tree_eq a x ≡ false
differs x a h = (eq_by_cmp_equiv tree_cmp-total).symm a x ∙ ap is_eq h

all-at : (P : Tree → Type 0) (ts : List Tree) (i : ℕ) (t : Tree) → AllByRecursion P ts → slice_get ts i ≡ Some t → P t
all-at P [] i t h e = cc
all-at P (u ∷ ts) zero t h e = rw (inside u t e) at h.0
all-at P (u ∷ ts) (suc i) t h e = all-at P ts i t h.1 e

pub value_there : (ps : List (Tree × Tree)) (a : Tree) (i : ℕ) → IsStrictlySortedBy tree_cmp (arguments ps) → slice_get (arguments ps) i ≡ Some a → value_at a ps ≡ slice_get (values_of ps) i
unfolding IsStrictlySortedBy
value_there [] a i h e = cc
value_there (p ∷ ps) a zero h e = rw (← inside p.0 a e, eq-refl p.0) refl
value_there (p ∷ ps) a (suc i) h e = rw (differs p.0 a (all-at (λ t. tree_cmp p.0 t ≡ Less) (arguments ps) i a h.0 e)) (value_there ps a i h.1 e)

pub value_absent : (ps : List (Tree × Tree)) (a : Tree) → is_member a (arguments ps) ≡ false → value_at a ps ≡ None
value_absent [] a h = refl
value_absent (p ∷ ps) a h =
    let no = or-none (tree_eq a p.0) (is_member a (arguments ps)) h in
    rw no.0 (value_absent ps a no.1)

pub except_absent : (ps : List (Tree × Tree)) (a v : Tree) → is_member a (arguments ps) ≡ false → ps ≡ except_of a v ps
except_absent [] a v h = refl
except_absent (p ∷ ps) a v h =
    let no = or-none (tree_eq a p.0) (is_member a (arguments ps)) h in
    λ j. (p.0, cond (sym no.0 j) v p.1) ∷ except_absent ps a v no.1 j

-- no later argument is the same
above : (ps : List (Tree × Tree)) (a : Tree) → AllByRecursion (λ t. tree_cmp a t ≡ Less) (arguments ps) → is_member a (arguments ps) ≡ false
above [] a h = refl
above (p ∷ ps) a h = rw (ap is_eq h.0) (above ps a h.1)

pub except_there : (ps : List (Tree × Tree)) (a v : Tree) (i : ℕ) → IsStrictlySortedBy tree_cmp (arguments ps) → slice_get (arguments ps) i ≡ Some a → with_value_at ps i v ≡ except_of a v ps
unfolding IsStrictlySortedBy
except_there [] a v i h e = cc
except_there (p ∷ ps) a v zero h e =
    subst (λ (b : Tree). (p.0, v) ∷ ps ≡ except_of b v (p ∷ ps)) (inside p.0 a e) (λ j. (p.0, cond (sym (eq-refl p.0) j) v p.1) ∷ except_absent ps p.0 v (above ps p.0 h.0) j)
except_there (p ∷ ps) a v (suc i) h e =
    let no = differs p.0 a (all-at (λ t. tree_cmp p.0 t ≡ Less) (arguments ps) i a h.0 e) in
    λ j. (p.0, cond (sym no j) v p.1) ∷ except_there ps a v i h.1 e j

pub slice-within : (ts : List Tree) (i : ℕ) (t : Tree) → slice_get ts i ≡ Some t → i < length ts
slice-within [] i t e = cc
slice-within (u ∷ ts) zero t e = omega arith
slice-within (u ∷ ts) (suc i) t e = omega (arith, slice-within ts i t e)

-- ---- the value that was read at an argument's index
pub value_within : (ps : List (Tree × Tree)) (a : Tree) (i : ℕ) (vs : List Value) → map tree_of vs ≡ values_of ps → slice_get (arguments ps) i ≡ Some a → i < length vs
value_within ps a i vs e there =
    omega (arith, slice-within (arguments ps) i a there, length-map ps (λ (p : Tree × Tree). p.0), length-map ps (λ (p : Tree × Tree). p.1), ap length e, length-map vs tree_of)

pub value_read : (ps : List (Tree × Tree)) (a : Tree) (i : ℕ) (vs : List Value) (v : Value) → IsStrictlySortedBy tree_cmp (arguments ps) → map tree_of vs ≡ values_of ps → slice_get (arguments ps) i ≡ Some a → v ≡ get_or vs i v → Some (tree_of v) ≡ value_at a ps
value_read ps a i vs v rising e there is =
    ap (λ w. Some (tree_of w)) is
    ∙ sym (slice-trees vs i v (value_within ps a i vs e there))
    ∙ ap (λ ts. slice_get ts i) e
    ∙ sym (value_there ps a i rising there)
