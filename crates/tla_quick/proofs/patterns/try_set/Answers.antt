use Rattle.std.proofs.Common.{subst}
use Rattle.tla_core.specs.Lists.{each}
use Rattle.tla_core.specs.Patterns.{fitting}
use Rattle.tla_quick.specs.Private.Answers.{Answers, nothing_of}
use Rattle.tla_quick.proofs.Tried.{set_tried}
use Rattle.tla_quick.proofs.patterns.try_set.Goals as goal

pub returns-in-Set : goal.returns-in-Set
returns-in-Set c p =
    set_tried p c.args.count c.args.value.now c.in-Set.set c.try_all.result c.in-Set.is
    (subst (λ us. Answers (λ (u : Unit {0}). u) c.try_all.result (nothing_of (each (fitting p c.args.count) us))) c.items.ensures.items (c.try_all.ensures p))
