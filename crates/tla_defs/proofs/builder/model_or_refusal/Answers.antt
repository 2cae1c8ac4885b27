use Rattle.std.proofs.Common.{map, ap, ◌∙◌, Ok}
use Rattle.std.proofs.lemmas.Result.{err_from_is_err_and}
use Rattle.tla_tree.specs.UnitsView.{unit_view}
use Rattle.tla_config.specs.Statements.{items_of}
use Rattle.tla_defs.specs.Private.Mentions.{behaviour_of}
use Rattle.tla_defs.proofs.Behaviours.{behaviour_only}
use Rattle.tla_formulas.proofs.Found.{if_err}
use Rattle.tla_defs.proofs.Nones.{no_behaviour, no_module, no_items, no_names, no_cycle, name_refusal, cycle_refusal, last_refusal, last_same}
use Rattle.tla_defs.proofs.builder.model_or_refusal.Goals as goal

pub model-requires-clause-only : goal.model-requires-clause-only
model-requires-clause-only c =
    rw c.statements-statements.ensures (behaviour_only c.args.config.now.statements c.args.config.now.end (behaviour_of c.in-Ok.found) c.in-Ok.ensures)

pub returns-in-Err-clause-none : goal.returns-in-Err-clause-none
returns-in-Err-clause-none c = λ h. no_behaviour (map unit_view c.args.units.now) c.args.config.now c.in-Err.place c.in-Err.ensures

pub returns-in_err-variables-clause-none : goal.returns-in_err-variables-clause-none
returns-in_err-variables-clause-none c =
    let e = err_from_is_err_and c.from_residual.result c.from_residual.ensures.1 in
    rw (e.1, e.2) (λ h. no_module (map unit_view c.args.units.now) c.args.config.now.statements _ (c.in_err-variables.ensures.err h))

pub returns-in_err-valued-clause-none : goal.returns-in_err-valued-clause-none
returns-in_err-valued-clause-none c =
    let e = err_from_is_err_and c.from_residual-in_err-valued.result c.from_residual-in_err-valued.ensures.1 in
    rw (e.1, e.2) (λ h. no_items (map unit_view c.args.units.now) c.args.config.now.statements _ (rw (c.in_ok-items.ensures.ok, c.statements-statements.ensures) at (c.in_err-valued.ensures.err h)))

pub returns-in_err-statements_named-clause-none : goal.returns-in_err-statements_named-clause-none
returns-in_err-statements_named-clause-none c =
    let e = err_from_is_err_and c.from_residual-in_err-statements_named.result c.from_residual-in_err-statements_named.ensures.1 in
    rw (e.1, e.2) (λ h. no_names (map unit_view c.args.units.now) c.args.config.now.statements _ (rw (c.in_ok-definitions.ensures.ok, c.statements-statements.ensures) at (c.in_err-statements_named.ensures h)))

pub returns-in_err-straight-clause-none : goal.returns-in_err-straight-clause-none
returns-in_err-straight-clause-none c =
    let e = err_from_is_err_and c.from_residual-in_err-straight.result c.from_residual-in_err-straight.ensures.1 in
    rw (e.1, e.2) (λ h. no_cycle (map unit_view c.args.units.now) c.args.config.now.statements _ (rw (c.in_ok-items.ensures.ok, c.statements-statements.ensures) at (c.in_err-straight.ensures.err h)))

pub returns-clause-none : goal.returns-clause-none
returns-clause-none c = rw c.statements-statements.ensures at c.model.ensures.none

pub returns-clause-refused : goal.returns-clause-refused
returns-clause-refused c =
    if_err c.model.result
    (λ e h m.
    last_refusal (map unit_view c.args.units.now) c.args.config.now c.in_ok-items.items (behaviour_of c.in-Ok.found) e c.in_ok-variables.ensures.known
    (c.in_ok-items.ensures.ok ∙ ap (λ cs. items_of cs) c.statements-statements.ensures) c.in_ok-valued.ensures.given c.in_ok-valued.ensures.valued c.in-Ok.ensures
    (rw (c.in_ok-definitions.ensures.ok, c.statements-statements.ensures) at c.in_ok-statements_named.ensures) c.in_ok-straight.ensures.ok
    (last_same (map unit_view c.args.units.now) _ c.args.config.now.statements (Ok (behaviour_of c.in-Ok.found)) e c.statements-statements.ensures (h m)))
    c.model.ensures.refused

pub returns-in_err-statements_named-clause-refused : goal.returns-in_err-statements_named-clause-refused
returns-in_err-statements_named-clause-refused c =
    let e = err_from_is_err_and c.from_residual-in_err-statements_named.result c.from_residual-in_err-statements_named.ensures.1 in
    rw (e.1, e.2) (λ h. name_refusal (map unit_view c.args.units.now) c.args.config.now c.in_ok-items.items (behaviour_of c.in-Ok.found) _ c.in_ok-variables.ensures.known
    (c.in_ok-items.ensures.ok ∙ ap (λ cs. items_of cs) c.statements-statements.ensures) c.in_ok-valued.ensures.given c.in_ok-valued.ensures.valued c.in-Ok.ensures
    (rw (c.in_ok-definitions.ensures.ok, c.statements-statements.ensures) at (c.in_err-statements_named.ensures h)))

pub returns-in_err-straight-clause-refused : goal.returns-in_err-straight-clause-refused
returns-in_err-straight-clause-refused c =
    let e = err_from_is_err_and c.from_residual-in_err-straight.result c.from_residual-in_err-straight.ensures.1 in
    rw (e.1, e.2) (λ h. cycle_refusal (map unit_view c.args.units.now) c.args.config.now c.in_ok-items.items (behaviour_of c.in-Ok.found) _ c.in_ok-variables.ensures.known
    (c.in_ok-items.ensures.ok ∙ ap (λ cs. items_of cs) c.statements-statements.ensures) c.in_ok-valued.ensures.given c.in_ok-valued.ensures.valued c.in-Ok.ensures
    (rw (c.in_ok-definitions.ensures.ok, c.statements-statements.ensures) at c.in_ok-statements_named.ensures) (c.in_err-straight.ensures.err h))

pub returns-clause-found : goal.returns-clause-found
returns-clause-found c = rw c.statements-statements.ensures at c.model.ensures.found
