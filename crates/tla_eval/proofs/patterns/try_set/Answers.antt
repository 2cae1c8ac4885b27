use Rattle.std.proofs.Common.{subst}
use Rattle.tla_core.specs.Lists.{each}
use Rattle.tla_core.specs.Patterns.{fitting}
use Rattle.tla_operators.specs.Gives.{GivesBy}
use Rattle.tla_eval.specs.Private.Parts.{nothing_of}
use Rattle.tla_eval.proofs.Fitting.{set_tried}
use Rattle.tla_eval.proofs.patterns.try_set.Goals as goal

pub returns-in-Set : goal.returns-in-Set
returns-in-Set c =
    set_tried c.args.place.now c.args.count c.args.value.now c.in-Set.set c.try_all.result c.in-Set.is
    (subst (λ us. GivesBy (λ (u : Unit {0}). u) c.try_all.result (nothing_of (each (fitting c.args.place.now c.args.count) us))) c.items.ensures.items c.try_all.ensures)
