use Rattle.std.proofs.lemmas.List.Filters.{dedup_is}
use Rattle.tla_value.specs.ValueOrder.{value_eq}
use Rattle.tla_value.proofs.Sorts.{sorted_is}
use Rattle.tla_operators.proofs.gathered.sort_once.Goals as goal

pub returns : goal.returns
returns c =
    sorted_is _ _ _ c.sort_unstable.ensures.permutation c.sort_unstable.ensures.sorted
    (dedup_is value_eq _ _ c.dedup.ensures.filtered)
