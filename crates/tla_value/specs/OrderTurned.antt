-- The order of values, reversed. Only the laws of the order cite this file.
use Rattle.std.specs.Prelude.{◌≡◌, refl}
use Rattle.std.specs.declared.cmp.Ordering.{Ordering}
use Rattle.std.specs.declared.cmp.Ordering.TheVariants.{Less, Equal, Greater}
use Rattle.std.specs.Ordering.{nat_cmp, ordering_then, ordering_reverse}
use Rattle.std.specs.Cmp.{nat_cmp_total, int_cmp_total, bool_cmp_total}
use Rattle.std.proofs.lemmas.Cmp.{nat_list_cmp_total}
use Rattle.tla_value.specs.Tree.{Tree, Trees, Pairs, truth, int, text, model, set, fun, no_trees, more_trees, no_pairs, more_pairs, tree_count, pair_count}
use Rattle.tla_value.specs.Order.{kind, same_kind_cmp, trees_cmp, pairs_cmp}

pub turn-then : (a b c d : Ordering) → a ≡ ordering_reverse c → b ≡ ordering_reverse d → ordering_then a b ≡ ordering_reverse (ordering_then c d)
turn-then a b Less d p q = rw p
turn-then a b Equal d p q = rw (p, q)
turn-then a b Greater d p q = rw p

pub turn-kind : (s t : Tree) → nat_cmp (kind s) (kind t) ≡ ordering_reverse (nat_cmp (kind t) (kind s))
turn-kind s t = nat_cmp_total.antisymm (kind s) (kind t)

mutual
  pub turn-same : (s t : Tree) → same_kind_cmp s t ≡ ordering_reverse (same_kind_cmp t s)
  turn-same (truth a) (truth b) = bool_cmp_total.antisymm a b
  turn-same (truth a) t = refl
  turn-same (int a) (int b) = int_cmp_total.antisymm a b
  turn-same (int a) t = refl
  turn-same (text a) (text b) = nat_list_cmp_total.antisymm a b
  turn-same (text a) t = refl
  turn-same (model a) (model b) = nat_list_cmp_total.antisymm a b
  turn-same (model a) t = refl
  turn-same (set a) (set b) = turn-then _ _ _ _ (nat_cmp_total.antisymm (tree_count a) (tree_count b)) (turn-trees a b)
  turn-same (set a) t = refl
  turn-same (fun a) (fun b) = turn-then _ _ _ _ (nat_cmp_total.antisymm (pair_count a) (pair_count b)) (turn-pairs a b)
  turn-same (fun a) t = refl

  pub turn-trees : (ss ts : Trees) → trees_cmp ss ts ≡ ordering_reverse (trees_cmp ts ss)
  turn-trees no_trees no_trees = refl
  turn-trees no_trees (more_trees t ts) = refl
  turn-trees (more_trees s ss) no_trees = refl
  turn-trees (more_trees s ss) (more_trees t ts) = turn-then _ _ _ _ (turn-then _ _ _ _ (turn-kind s t) (turn-same s t)) (turn-trees ss ts)

  pub turn-pairs : (ps qs : Pairs) → pairs_cmp ps qs ≡ ordering_reverse (pairs_cmp qs ps)
  turn-pairs no_pairs no_pairs = refl
  turn-pairs no_pairs (more_pairs b w qs) = refl
  turn-pairs (more_pairs a v ps) no_pairs = refl
  turn-pairs (more_pairs a v ps) (more_pairs b w qs) =
      turn-then _ _ _ _ (turn-then _ _ _ _ (turn-then _ _ _ _ (turn-kind a b) (turn-same a b)) (turn-then _ _ _ _ (turn-kind v w) (turn-same v w))) (turn-pairs ps qs)
