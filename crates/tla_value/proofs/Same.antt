-- When values, lists of them and functions are equal, and when they are not.
use Rattle.std.proofs.Common.{◌≡◌, ◌↔◌, ℕ, suc, ◌<◌, ◌++◌, Bool, true, false, nat_eq, List, [], ◌∷◌, length, map, take, get_or, sym, ap, subst, ◌∙◌}
use Rattle.std.proofs.Math.Seq.{take-suc}
use Rattle.std.specs.Ordering.{eq_by_cmp}
use Rattle.std.specs.Cmp.{Equal-is}
use Rattle.std.proofs.lemmas.Cmp.{eq_by_cmp_equiv}
use Rattle.std.proofs.lemmas.Bool.{false≢true, eqb-true}
use Rattle.std.proofs.lemmas.List.{map-append, get_or-map}
use Rattle.tla_value.specs.Tree.{Tree, Trees, Pairs, set, fun, trees, pairs, members, entries, members-trees, entries-pairs}
use Rattle.tla_value.specs.Order.{tree_eq}
use Rattle.tla_value.specs.TreeOf.{tree_of}
use Rattle.tla_value.specs.ValueOrder.{value_eq}
use Rattle.tla_value.specs.StateOrder.{state_cmp, state_cmp-total, exact-state}
use Rattle.tla_value.specs.declared.value.Value.{Value}
use Rattle.tla_value.proofs.TreeTests.{bool-iff, eq-true, eq-same}

-- a test of two values, by their contents
pub told_sets : (r : Bool) (ss ts : List Tree) → ((r ≡ true) ↔ (ss ≡ ts)) → r ≡ tree_eq (set (trees ss)) (set (trees ts))
told_sets r ss ts h =
    bool-iff r (tree_eq (set (trees ss)) (set (trees ts)))
    (λ e. eq-same _ _ (ap (λ us. set (trees us)) (h.0 e)))
    (λ e. h.1 (set-inside ss ts (eq-true _ _ e)))
  where
    inside : (us vs : Trees) → set us ≡ set vs → us ≡ vs
    inside us vs q = cc

    set-inside : (us vs : List Tree) → set (trees us) ≡ set (trees vs) → us ≡ vs
    set-inside us vs q = sym (members-trees us) ∙ ap members (inside (trees us) (trees vs) q) ∙ members-trees vs

pub told_funs : (r : Bool) (ps qs : List (Tree × Tree)) → ((r ≡ true) ↔ (ps ≡ qs)) → r ≡ tree_eq (fun (pairs ps)) (fun (pairs qs))
told_funs r ps qs h =
    bool-iff r (tree_eq (fun (pairs ps)) (fun (pairs qs)))
    (λ e. eq-same _ _ (ap (λ us. fun (pairs us)) (h.0 e)))
    (λ e. h.1 (fun-inside ps qs (eq-true _ _ e)))
  where
    inside : (us vs : Pairs) → fun us ≡ fun vs → us ≡ vs
    inside us vs q = cc

    fun-inside : (us vs : List (Tree × Tree)) → fun (pairs us) ≡ fun (pairs vs) → us ≡ vs
    fun-inside us vs q = sym (entries-pairs us) ∙ ap entries (inside (pairs us) (pairs vs) q) ∙ entries-pairs vs

-- values with different numbers differ
pub apart : {A : Type 0} (f : A → ℕ) (x y : A) (m n : ℕ) → m ≡ f x → n ≡ f y → (m ≡ n → ⊥) → (nat_eq m n ≡ true) ↔ (x ≡ y)
apart f x y m n p q e = (λ t. absurd (e (eqb-true m n t)), λ same. absurd (e (p ∙ ap f same ∙ sym q)))

-- a test of two values, by equal ones
pub told_of : {A : Type 0} (r : Bool) (x y u v : A) → u ≡ x → v ≡ y → ((r ≡ true) ↔ (u ≡ v)) → (r ≡ true) ↔ (x ≡ y)
told_of r x y u v p q h = (λ e. sym p ∙ h.0 e ∙ q, λ same. h.1 (p ∙ same ∙ sym q))

-- ---- item by item
taken : (vs : List Value) (i : ℕ) (v : Value) → i < length vs → v ≡ get_or vs i v → map tree_of (take (suc i) vs) ≡ map tree_of (take i vs) ++ tree_of v ∷ []
taken vs i v l is =
    ap (map tree_of) (take-suc vs i v l ∙ ap (λ x. take i vs ++ x ∷ []) (sym is))
    ∙ map-append tree_of (take i vs) (v ∷ [])

pub same_more : (vs ws : List Value) (i : ℕ) (v w : Value) → i < length vs → i < length ws → v ≡ get_or vs i v → w ≡ get_or ws i w → value_eq v w ≡ true → map tree_of (take i vs) ≡ map tree_of (take i ws) → map tree_of (take (suc i) vs) ≡ map tree_of (take (suc i) ws)
same_more vs ws i v w l m p q e h =
    taken vs i v l p ∙ (λ j. h j ++ eq-true (tree_of v) (tree_of w) e j ∷ []) ∙ sym (taken ws i w m q)

-- the tree at an index
tree_at : (vs : List Value) (i : ℕ) (v : Value) (d : Tree) → i < length vs → v ≡ get_or vs i v → get_or (map tree_of vs) i d ≡ tree_of v
tree_at vs i v d l is = get_or-map tree_of vs i v d l ∙ ap tree_of (sym is)

pub other_at : (vs ws : List Value) (i : ℕ) (v w : Value) → i < length vs → i < length ws → v ≡ get_or vs i v → w ≡ get_or ws i w → value_eq v w ≡ false → map tree_of vs ≡ map tree_of ws → ⊥
other_at vs ws i v w l m p q e same =
    let d = tree_of v in
    false≢true (sym e ∙ eq-same (tree_of v) (tree_of w) (sym (tree_at vs i v d l p) ∙ ap (λ ts. get_or ts i d) same ∙ tree_at ws i w d m q))

-- ---- a test of two states
pub told_states : (r : Bool) (ss ts : List Tree) → ((r ≡ true) ↔ (ss ≡ ts)) → r ≡ eq_by_cmp state_cmp ss ts
told_states r ss ts h =
    bool-iff r (eq_by_cmp state_cmp ss ts)
    (λ e. subst (λ (us : List Tree). eq_by_cmp state_cmp ss us ≡ true) (h.0 e) ((eq_by_cmp_equiv state_cmp-total).refl ss))
    (λ e. h.1 (exact-state ss ts ((Equal-is _).0 e)))
