use Rattle.std.proofs.Common.{inr, refl, sym, ◌∙◌}
use Rattle.tla_tree.specs.Words.{written}
use Rattle.tla_config.proofs.Fronts.{name_found}
use Rattle.tla_config.proofs.names.next_name.Goals as goal

pub returns-in-Some-clause-goes_on : goal.returns-in-Some-clause-goes_on
returns-in-Some-clause-goes_on c =
    let t = c.in-Some.field-0 in
    inr ((written c.args.text.now t, name_found c.args.text.now c.args.tokens.now c.args.at t (sym c.name_at.ensures.value ∙ c.in-Some.is)), refl)
