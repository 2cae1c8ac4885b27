-- The order of values: the kinds rise, then the values of one kind.
use Rattle.std.specs.Prelude.{ℕ, Bool}
use Rattle.std.specs.declared.cmp.Ordering.{Ordering}
use Rattle.std.specs.declared.cmp.Ordering.TheVariants.{Less, Equal, Greater}
use Rattle.std.specs.Ordering.{nat_cmp, int_cmp, bool_cmp, ordering_then, eq_by_cmp}
use Rattle.std.specs.Cmp.Lexicographic.{slice_cmp}
use Rattle.tla_value.specs.Tree.{Tree, Trees, Pairs, truth, int, text, model, set, fun, no_trees, more_trees, no_pairs, more_pairs, tree_count, pair_count}

-- the rank of a tree's kind: truth value, number, string, model value, set, function
abbrev pub kind : Tree → ℕ
kind (truth b) = 0
kind (int z) = 1
kind (text s) = 2
kind (model s) = 3
kind (set ts) = 4
kind (fun ps) = 5

abbrev mutual
  -- two trees of one kind
  pub same_kind_cmp : Tree → Tree → Ordering
  same_kind_cmp (truth a) (truth b) = bool_cmp a b
  same_kind_cmp (int a) (int b) = int_cmp a b
  same_kind_cmp (text a) (text b) = slice_cmp nat_cmp a b
  same_kind_cmp (model a) (model b) = slice_cmp nat_cmp a b
  same_kind_cmp (set a) (set b) = ordering_then (nat_cmp (tree_count a) (tree_count b)) (trees_cmp a b)
  same_kind_cmp (fun a) (fun b) = ordering_then (nat_cmp (pair_count a) (pair_count b)) (pairs_cmp a b)
  same_kind_cmp _ _ = Equal

  -- member by member
  pub trees_cmp : Trees → Trees → Ordering
  trees_cmp no_trees no_trees = Equal
  trees_cmp no_trees (more_trees t ts) = Less
  trees_cmp (more_trees s ss) no_trees = Greater
  trees_cmp (more_trees s ss) (more_trees t ts) = ordering_then (ordering_then (nat_cmp (kind s) (kind t)) (same_kind_cmp s t)) (trees_cmp ss ts)

  -- pair by pair, each by argument and then by value
  pub pairs_cmp : Pairs → Pairs → Ordering
  pairs_cmp no_pairs no_pairs = Equal
  pairs_cmp no_pairs (more_pairs b w qs) = Less
  pairs_cmp (more_pairs a v ps) no_pairs = Greater
  pairs_cmp (more_pairs a v ps) (more_pairs b w qs) =
      ordering_then (ordering_then (ordering_then (nat_cmp (kind a) (kind b)) (same_kind_cmp a b)) (ordering_then (nat_cmp (kind v) (kind w)) (same_kind_cmp v w))) (pairs_cmp ps qs)

abbrev pub tree_cmp : Tree → Tree → Ordering
tree_cmp s t = ordering_then (nat_cmp (kind s) (kind t)) (same_kind_cmp s t)

-- whether two trees are the same value
abbrev pub tree_eq : Tree → Tree → Bool
tree_eq = eq_by_cmp tree_cmp
