use Rattle.std.proofs.Common.{ap, length, arith}
use Rattle.std.proofs.lemmas.List.{length-map}
use Rattle.tla_value.specs.TreeOf.{tree_of}
use Rattle.tla_operators.proofs.Numbered.{few_values}
use Rattle.tla_operators.proofs.sequences.items_of.Goals as goal

pub returns-in-Some-clause-few : goal.returns-in-Some-clause-few
returns-in-Some-clause-few c = omega (arith, few_values c.in-Fun.fun c.values.ensures.value, ap length c.values.ensures.values, length-map c.values.result.now tree_of)
