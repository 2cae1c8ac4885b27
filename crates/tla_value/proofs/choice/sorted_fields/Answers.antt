use Rattle.std.proofs.Common.{ap, ◌∙◌}
use Rattle.tla_value.specs.Tree.{set, trees}
use Rattle.tla_value.specs.Funs.{fun_of}
use Rattle.tla_value.proofs.FunSorts.{sorted_fun}
use Rattle.tla_value.proofs.choice.sorted_fields.Goals as goal

pub returns-clause-ok : goal.returns-clause-ok
returns-clause-ok c = sorted_fun (λ s. set (trees s.now)) _ _ _ c.sort_pairs.ensures.stable c.in_ok-sort_pairs.ensures.sorted c.drop_repeats.ensures ∙ ap fun_of c.in_ok-pairs.ensures.ok
