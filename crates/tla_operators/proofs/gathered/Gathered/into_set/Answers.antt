use Rattle.std.proofs.Common.{List, map, sym, subst}
use Rattle.tla_value.specs.Tree.{Tree}
use Rattle.tla_value.specs.TreeOf.{tree_of}
use Rattle.tla_value.specs.Sets.{set_of}
use Rattle.tla_core.specs.Fault.{Outcome}
use Rattle.tla_operators.specs.Gives.{Gives}
use Rattle.tla_operators.specs.Gathered.{set_rule}
use Rattle.tla_operators.proofs.Different.{gathered_set}
use Rattle.tla_operators.proofs.gathered.Gathered.into_set.Goals as goal

pub returns : goal.returns
returns c = λ o g.
    let us = map tree_of c.args.self.values.items in
    subst (λ (q : Outcome (List Tree)). Gives c.made_set.result (set_rule c.args.place.now q)) (sym g.1)
    (subst (λ (r : Outcome Tree). Gives c.made_set.result r) (gathered_set c.args.place.now us g.0 g.2.held.same) (c.made_set.ensures (set_of us) c.from_values.ensures))
