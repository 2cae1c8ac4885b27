use Rattle.std.proofs.Common.{◌∙◌, sym, subst}
use Rattle.tla_config.specs.Configuration.{IsName}
use Rattle.tla_config.proofs.Fronts.{name_found}
use Rattle.tla_config.proofs.names.name.Goals as goal

pub returns-in_ok-of_token-in-Some-clause-gives : goal.returns-in_ok-of_token-in-Some-clause-gives
returns-in_ok-of_token-in-Some-clause-gives c =
    let found = name_found c.args.text.now c.args.tokens.now c.args.at c.in-Some.t (sym c.name_at.ensures.value ∙ c.in-Some.is) in
    subst (λ w. IsName c.args.text.now c.args.tokens.now w c.args.at) (sym c.in_ok-of_token-in-Some.ensures.ok) found
