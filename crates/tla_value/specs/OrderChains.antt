-- Transitivity: what two comparisons imply for a third. Only the laws of the order cite this file.
use Rattle.std.specs.Prelude.{◌≡◌, refl}
use Rattle.std.proofs.Common.{ap, sym, ◌∙◌}
use Rattle.std.specs.declared.cmp.Ordering.{Ordering}
use Rattle.std.specs.declared.cmp.Ordering.TheVariants.{Less, Equal, Greater}
use Rattle.std.specs.Ordering.{nat_cmp, ordering_then, ordering_reverse}
use Rattle.std.specs.Cmp.{IsTotalOrder, nat_cmp_total, int_cmp_total, bool_cmp_total, alike_right}
use Rattle.std.proofs.lemmas.Cmp.{nat_list_cmp_total}
use Rattle.tla_value.specs.Tree.{Tree, Trees, Pairs, truth, int, text, model, set, fun, no_trees, more_trees, no_pairs, more_pairs, tree_count, pair_count}
use Rattle.tla_value.specs.Order.{kind, same_kind_cmp, trees_cmp, pairs_cmp}

-- what the comparisons a of x and y, and b of y and z, imply for c of x and z
abbrev pub Chains : Ordering → Ordering → Ordering → Type 0
Chains Equal b c = c ≡ b
Chains Less Less c = c ≡ Less
Chains Less Equal c = c ≡ Less
Chains Less Greater c = Unit {0}
Chains Greater Greater c = c ≡ Greater
Chains Greater Equal c = c ≡ Greater
Chains Greater Less c = Unit {0}

-- lexicographic order: the second comparison counts only if the first is Equal
pub chains-then : (a b c a' b' c' : Ordering) → Chains a b c → (a ≡ Equal → b ≡ Equal → Chains a' b' c') → Chains (ordering_then a a') (ordering_then b b') (ordering_then c c')
chains-then Less Less c a' b' c' p q = rw p
chains-then Less Equal c a' Less c' p q = rw p
chains-then Less Equal c a' Equal c' p q = rw p
chains-then Less Equal c a' Greater c' p q = tt
chains-then Less Greater c a' b' c' p q = tt
chains-then Greater Greater c a' b' c' p q = rw p
chains-then Greater Equal c a' Greater c' p q = rw p
chains-then Greater Equal c a' Equal c' p q = rw p
chains-then Greater Equal c a' Less c' p q = tt
chains-then Greater Less c a' b' c' p q = tt
chains-then Equal Equal c a' b' c' p q = rw p (q refl refl)
chains-then Equal Less c Less b' c' p q = rw p
chains-then Equal Less c Equal b' c' p q = rw p
chains-then Equal Less c Greater b' c' p q = tt
chains-then Equal Greater c Greater b' c' p q = rw p
chains-then Equal Greater c Equal b' c' p q = rw p
chains-then Equal Greater c Less b' c' p q = tt

module _ {K : Type 0} {R : K → K → Ordering} (o : IsTotalOrder R) where
  greater : (x y : K) → R x y ≡ Greater → R y x ≡ Less
  greater x y e = o.antisymm y x ∙ ap ordering_reverse e

  chains-at : (x y z : K) (a b : Ordering) → R x y ≡ a → R y z ≡ b → Chains a b (R x z)
  chains-at x y z Equal b p q = o.congr x y z p ∙ q
  chains-at x y z Less Less p q = o.trans x y z p q
  chains-at x y z Less Equal p q = sym (alike_right o y z x q) ∙ p
  chains-at x y z Less Greater p q = tt
  chains-at x y z Greater Greater p q = o.antisymm x z ∙ ap ordering_reverse (o.trans z y x (greater y z q) (greater x y p))
  chains-at x y z Greater Equal p q = sym (alike_right o y z x q) ∙ p
  chains-at x y z Greater Less p q = tt

  pub chains-total : (x y z : K) → Chains (R x y) (R y z) (R x z)
  chains-total x y z = chains-at x y z (R x y) (R y z) refl refl

first-is-less : (b : Ordering) → Chains Less b Less
first-is-less Less = refl
first-is-less Equal = refl
first-is-less Greater = tt

last-is-greater : (a : Ordering) → Chains a Greater Greater
last-is-greater Less = tt
last-is-greater Equal = refl
last-is-greater Greater = refl

mutual
  pub chains-same : (r s t : Tree) → nat_cmp (kind r) (kind s) ≡ Equal → nat_cmp (kind s) (kind t) ≡ Equal → Chains (same_kind_cmp r s) (same_kind_cmp s t) (same_kind_cmp r t)
  chains-same (truth a) (truth b) (truth c) h j = chains-total bool_cmp_total a b c
  chains-same (truth a) (truth b) t h j = cc
  chains-same (truth a) s t h j = cc
  chains-same (int a) (int b) (int c) h j = chains-total int_cmp_total a b c
  chains-same (int a) (int b) t h j = cc
  chains-same (int a) s t h j = cc
  chains-same (text a) (text b) (text c) h j = chains-total nat_list_cmp_total a b c
  chains-same (text a) (text b) t h j = cc
  chains-same (text a) s t h j = cc
  chains-same (model a) (model b) (model c) h j = chains-total nat_list_cmp_total a b c
  chains-same (model a) (model b) t h j = cc
  chains-same (model a) s t h j = cc
  chains-same (set a) (set b) (set c) h j = chains-then _ _ _ _ _ _ (chains-total nat_cmp_total (tree_count a) (tree_count b) (tree_count c)) (λ _ _. chains-trees a b c)
  chains-same (set a) (set b) t h j = cc
  chains-same (set a) s t h j = cc
  chains-same (fun a) (fun b) (fun c) h j = chains-then _ _ _ _ _ _ (chains-total nat_cmp_total (pair_count a) (pair_count b) (pair_count c)) (λ _ _. chains-pairs a b c)
  chains-same (fun a) (fun b) t h j = cc
  chains-same (fun a) s t h j = cc

  pub chains-trees : (rs ss ts : Trees) → Chains (trees_cmp rs ss) (trees_cmp ss ts) (trees_cmp rs ts)
  chains-trees no_trees no_trees ts = refl
  chains-trees no_trees (more_trees s ss) no_trees = tt
  chains-trees no_trees (more_trees s ss) (more_trees t ts) = first-is-less _
  chains-trees (more_trees r rs) no_trees no_trees = refl
  chains-trees (more_trees r rs) no_trees (more_trees t ts) = tt
  chains-trees (more_trees r rs) (more_trees s ss) no_trees = last-is-greater _
  chains-trees (more_trees r rs) (more_trees s ss) (more_trees t ts) = chains-then _ _ _ _ _ _ (chains-then _ _ _ _ _ _ (chains-total nat_cmp_total (kind r) (kind s) (kind t)) (chains-same r s t)) (λ _ _. chains-trees rs ss ts)

  pub chains-pairs : (os ps qs : Pairs) → Chains (pairs_cmp os ps) (pairs_cmp ps qs) (pairs_cmp os qs)
  chains-pairs no_pairs no_pairs qs = refl
  chains-pairs no_pairs (more_pairs b w ps) no_pairs = tt
  chains-pairs no_pairs (more_pairs b w ps) (more_pairs c x qs) = first-is-less _
  chains-pairs (more_pairs a v os) no_pairs no_pairs = refl
  chains-pairs (more_pairs a v os) no_pairs (more_pairs c x qs) = tt
  chains-pairs (more_pairs a v os) (more_pairs b w ps) no_pairs = last-is-greater _
  chains-pairs (more_pairs a v os) (more_pairs b w ps) (more_pairs c x qs) = chains-then _ _ _ _ _ _ (chains-then _ _ _ _ _ _ (chains-then _ _ _ _ _ _ (chains-total nat_cmp_total (kind a) (kind b) (kind c)) (chains-same a b c)) (λ _ _. chains-then _ _ _ _ _ _ (chains-total nat_cmp_total (kind v) (kind w) (kind x)) (chains-same v w x))) (λ _ _. chains-pairs os ps qs)
