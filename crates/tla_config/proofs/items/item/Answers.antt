use Rattle.std.proofs.Common.{◌≡◌, ◌+◌, true, refl, sym, ◌∙◌, slice_get}
use Rattle.std.proofs.lemmas.Result.{err_from_is_err_and}
use Rattle.tla_lex.specs.declared.token.Kind.TheVariants as k
use Rattle.tla_config.specs.Private.Fronts.{kind_at}
use Rattle.tla_config.specs.Private.GivesValues.{NoValue, NoItem}
use Rattle.tla_config.proofs.Arms.{fails_map}
use Rattle.tla_config.proofs.ItemLists.{no_value_item, bracket_item, bracket_left_out, name_because, value_clear, value_because, neither_clear, operator_clear, operator_because}
use Rattle.tla_config.proofs.items.item.Goals as goal

pub returns-in_err-found-clause-gives : goal.returns-in_err-found-clause-gives
returns-in_err-found-clause-gives c =
    let text = c.args.text.now in
    let ts = c.args.tokens.now in
    let e = err_from_is_err_and c.from_residual-in_err-found.result c.from_residual-in_err-found.ensures.1 in
    rw (e.1, e.2) (fails_map text ts c.in_err-found.field-0.0 (NoValue text ts 64 (c.args.at + 2)) (NoItem text ts c.args.at)
    (no_value_item text ts c.args.at (sym c.is_kind.ensures.value ∙ c.if-is_kind.true)) c.in_err-found.ensures.gives)

pub returns-then-is_kind-2-clause-gives : goal.returns-then-is_kind-2-clause-gives
returns-then-is_kind-2-clause-gives c =
    let text = c.args.text.now in
    let ts = c.args.tokens.now in
    let arrow : kind_at k.Substitute (slice_get ts (c.args.at + 1)) ≡ true = let f = c.is_kind-2.ensures.value in cc in
    bracket_item text ts c.args.at arrow (sym c.is_kind-3.ensures.value ∙ c.if-is_kind-2.true)

pub returns-in_err-found-clause-because : goal.returns-in_err-found-clause-because
returns-in_err-found-clause-because c =
    let text = c.args.text.now in
    let ts = c.args.tokens.now in
    let e = err_from_is_err_and c.from_residual-in_err-found.result c.from_residual-in_err-found.ensures.1 in
    rw (e.1, e.2) (value_because text ts c.in_err-found.field-0.0 c.args.at c.in_ok-constant.constant c.in_ok-constant.ensures.gives
    (sym c.is_kind.ensures.value ∙ c.if-is_kind.true) c.in_err-found.ensures.because)

pub returns-then-is_kind-2-clause-because : goal.returns-then-is_kind-2-clause-because
returns-then-is_kind-2-clause-because c =
    let text = c.args.text.now in
    let ts = c.args.tokens.now in
    let arrow : kind_at k.Substitute (slice_get ts (c.args.at + 1)) ≡ true = let f = c.is_kind-2.ensures.value in cc in
    (bracket_left_out text ts c.args.at c.in_ok-constant.constant c.in_ok-constant.ensures.gives arrow (sym c.is_kind-3.ensures.value ∙ c.if-is_kind-2.true), refl)

pub returns-in_err-constant-clause-because : goal.returns-in_err-constant-clause-because
returns-in_err-constant-clause-because c =
    let e = err_from_is_err_and c.from_residual.result c.from_residual.ensures.1 in
    rw (e.1, e.2) (name_because c.args.text.now c.args.tokens.now c.in_err-constant.field-0.0 c.args.at c.in_err-constant.ensures.gives c.in_err-constant.ensures.because)

pub returns-then-is_kind-clause-clear : goal.returns-then-is_kind-clause-clear
returns-then-is_kind-clause-clear c = value_clear c.args.text.now c.args.tokens.now c.args.at (sym c.is_kind.ensures.value ∙ c.if-is_kind.true) c.in_ok-found.ensures.limits

pub returns-then-not-is_kind-clause-because : goal.returns-then-not-is_kind-clause-because
returns-then-not-is_kind-clause-because c = neither_clear c.args.text.now c.args.tokens.now c.args.at (sym c.is_kind.ensures.value ∙ c.if-is_kind.false) (sym c.is_kind-2.ensures.value ∙ c.if-not-is_kind.true)

pub returns-in_err-operator-clause-because : goal.returns-in_err-operator-clause-because
returns-in_err-operator-clause-because c =
    let text = c.args.text.now in
    let ts = c.args.tokens.now in
    let e = err_from_is_err_and c.from_residual-in_err-operator.result c.from_residual-in_err-operator.ensures.1 in
    rw (e.1, e.2) (operator_because text ts c.in_err-operator.field-0.0 c.args.at
    (operator_clear text ts c.args.at (sym c.is_kind.ensures.value ∙ c.if-is_kind.false) (sym c.is_kind-3.ensures.value ∙ c.if-is_kind-2.false)) c.in_err-operator.ensures.because)

pub returns-clause-clear : goal.returns-clause-clear
returns-clause-clear c = operator_clear c.args.text.now c.args.tokens.now c.args.at (sym c.is_kind.ensures.value ∙ c.if-is_kind.false) (sym c.is_kind-3.ensures.value ∙ c.if-is_kind-2.false)
