use Rattle.std.proofs.Common.{ap, length, ◌∙◌, arith}
use Rattle.tla_value.specs.Private.Held.{domain_trees}
use Rattle.tla_value.proofs.Ranges.{length-counted_up}
use Rattle.tla_value.proofs.value.Domain.to_set.Goals as goal

pub count_up-requires-clause-few : goal.count_up-requires-clause-few
count_up-requires-clause-few c = omega (arith, c.requires.list.few, ap (λ d. length (domain_trees c.args.count d)) c.in-Numbers.is ∙ length-counted_up c.args.count c.in-Numbers.first)
