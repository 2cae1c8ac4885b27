-- Values that compare Equal have equal parts. Only the laws of the order and of states cite this file.
use Rattle.std.specs.Prelude.{◌≡◌, Bool, refl, true, false}
use Rattle.std.proofs.Common.{ap}
use Rattle.std.specs.declared.cmp.Ordering.{Ordering}
use Rattle.std.specs.declared.cmp.Ordering.TheVariants.{Less, Equal, Greater}
use Rattle.std.specs.Ordering.{nat_cmp, bool_cmp, ordering_then}
use Rattle.std.proofs.lemmas.Map.Lookups.{exact_signed, exact_bytes}
use Rattle.tla_value.specs.Tree.{Tree, Trees, Pairs, truth, int, text, model, set, fun, no_trees, more_trees, no_pairs, more_pairs}
use Rattle.tla_value.specs.Order.{kind, same_kind_cmp, trees_cmp, pairs_cmp}

pub both-equal : (a b : Ordering) → ordering_then a b ≡ Equal → (a ≡ Equal) × (b ≡ Equal)
both-equal Less b e = cc
both-equal Equal b e = (refl, e)
both-equal Greater b e = cc

exact-bool : (a b : Bool) → bool_cmp a b ≡ Equal → a ≡ b
exact-bool false false e = refl
exact-bool true true e = refl
exact-bool false true e = cc
exact-bool true false e = cc

mutual
  pub exact-same : (s t : Tree) → nat_cmp (kind s) (kind t) ≡ Equal → same_kind_cmp s t ≡ Equal → s ≡ t
  exact-same (truth a) (truth b) h e = ap truth (exact-bool a b e)
  exact-same (truth a) t h e = cc
  exact-same (int a) (int b) h e = ap int (exact_signed a b e)
  exact-same (int a) t h e = cc
  exact-same (text a) (text b) h e = ap text (exact_bytes a b e)
  exact-same (text a) t h e = cc
  exact-same (model a) (model b) h e = ap model (exact_bytes a b e)
  exact-same (model a) t h e = cc
  exact-same (set a) (set b) h e = ap set (exact-trees a b (both-equal _ _ e).1)
  exact-same (set a) t h e = cc
  exact-same (fun a) (fun b) h e = ap fun (exact-pairs a b (both-equal _ _ e).1)
  exact-same (fun a) t h e = cc

  pub exact-trees : (ss ts : Trees) → trees_cmp ss ts ≡ Equal → ss ≡ ts
  exact-trees no_trees no_trees e = refl
  exact-trees no_trees (more_trees t ts) e = cc
  exact-trees (more_trees s ss) no_trees e = cc
  exact-trees (more_trees s ss) (more_trees t ts) e =
      let parts = both-equal _ _ e in
      let first = both-equal _ _ parts.0 in
      λ i. more_trees (exact-same s t first.0 first.1 i) (exact-trees ss ts parts.1 i)

  pub exact-pairs : (ps qs : Pairs) → pairs_cmp ps qs ≡ Equal → ps ≡ qs
  exact-pairs no_pairs no_pairs e = refl
  exact-pairs no_pairs (more_pairs b w qs) e = cc
  exact-pairs (more_pairs a v ps) no_pairs e = cc
  exact-pairs (more_pairs a v ps) (more_pairs b w qs) e =
      let parts = both-equal _ _ e in
      let one = both-equal _ _ parts.0 in
      let argument = both-equal _ _ one.0 in
      let value = both-equal _ _ one.1 in
      λ i. more_pairs (exact-same a b argument.0 argument.1 i) (exact-same v w value.0 value.1 i) (exact-pairs ps qs parts.1 i)
