use Rattle.std.proofs.Common.{length, ap, arith}
use Rattle.std.proofs.lemmas.List.{length-map}
use Rattle.tla_value.specs.TreeOf.{tree_of}
use Rattle.tla_value.proofs.Subsets.{count-subsets, many_subsets}
use Rattle.tla_value.proofs.value.SetValue.power.Goals as goal

pub returns-then-items-gt-MAX_POWER : goal.returns-then-items-gt-MAX_POWER
returns-then-items-gt-MAX_POWER c =
    rw (count-subsets c.args.self.now c.items-items.ensures.rising)
    (many_subsets _ (omega (arith, length-map c.items-items.result.now tree_of, ap length c.items-items.ensures.items)))
