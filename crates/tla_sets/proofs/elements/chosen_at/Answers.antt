use Rattle.std.proofs.Common.{◌≡◌, Some, ap, sym, subst, ◌∙◌}
use Rattle.tla_value.specs.Tree.{Tree}
use Rattle.tla_core.specs.declared.fault.FaultCode.TheVariants.{NoChoice}
use Rattle.tla_core.specs.Fault.{Outcome}
use Rattle.tla_core.specs.Kinds.{or_fault}
use Rattle.tla_operators.specs.Gives.{Gives}
use Rattle.tla_sets.proofs.elements.chosen_at.Goals as goal

pub returns : goal.returns
returns c = λ p. subst (λ (o : Outcome Tree). Gives c.into_value.result o) (ap (or_fault NoChoice p) c.element_at.ensures) c.into_value.ensures
