use Rattle.std.proofs.Common.{◌∙◌, ◌++◌, map, ap, sym, subst}
use Rattle.std.specs.List.Sorted.{IsStrictlySortedBy}
use Rattle.tla_value.specs.TreeOf.{pair_of}
use Rattle.tla_value.specs.Order.{tree_cmp}
use Rattle.tla_value.specs.Funs.{arguments}
use Rattle.tla_value.specs.FunLaws.{rising-fun_of}
use Rattle.tla_value.proofs.value.FunValue.override_with.Goals as goal

pub merged_pairs-requires-clause-left : goal.merged_pairs-requires-clause-left
merged_pairs-requires-clause-left c = subst (λ ps. IsStrictlySortedBy tree_cmp (arguments ps)) (sym (ap (map pair_of) c.as_slice.ensures.value ∙ c.in_ok-left.ensures.ok)) c.in_ok-left.ensures.rising

pub merged_pairs-requires-clause-right : goal.merged_pairs-requires-clause-right
merged_pairs-requires-clause-right c = subst (λ ps. IsStrictlySortedBy tree_cmp (arguments ps)) (sym (ap (map pair_of) c.as_slice-2.ensures.value ∙ c.in_ok-right.ensures.ok)) c.in_ok-right.ensures.rising

pub fun_from_rising-requires : goal.fun_from_rising-requires
fun_from_rising-requires c = rw c.in_ok-pairs.ensures.ok (rising-fun_of (map pair_of c.as_slice.result.now ++ map pair_of c.as_slice-2.result.now))
