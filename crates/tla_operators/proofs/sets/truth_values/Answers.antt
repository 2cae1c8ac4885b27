use Rattle.std.proofs.Common.{false, true, [], ◌∷◌, map, ap, subst, ◌∙◌}
use Rattle.tla_value.specs.Tree.{Tree, truth, set, trees}
use Rattle.tla_value.specs.TreeOf.{tree_of}
use Rattle.tla_value.specs.Sets.{set_of}
use Rattle.tla_core.specs.Fault.{Outcome}
use Rattle.tla_core.specs.Kinds.{rising_set}
use Rattle.tla_operators.specs.Gives.{Gives}
use Rattle.tla_operators.proofs.sets.truth_values.Goals as goal

pub returns : goal.returns
returns c =
    let both = c.in_ok-values.values.items in
    subst (λ (o : Outcome Tree). Gives c.made_set.result o) (ap (λ vs. rising_set c.args.place.now (set_of (map tree_of vs))) c.in_ok-values.ensures.items)
    (c.made_set.ensures (set_of (map tree_of both)) c.from_values.ensures)
