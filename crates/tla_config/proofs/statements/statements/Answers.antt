use Rattle.std.proofs.Common.{◌≡◌, ◌++◌, ◌∷◌, [], map, ap, sym, ◌∙◌}
use Rattle.std.proofs.lemmas.List.{map-append}
use Rattle.std.proofs.lemmas.Result.{err_from_is_err_and}
use Rattle.tla_config.specs.Private.Gives.{NoStatement, NoStatements}
use Rattle.tla_config.specs.View.{statement_view}
use Rattle.tla_config.proofs.Arms.{fails_map}
use Rattle.tla_config.proofs.StatementLists.{so_far_more, so_far_all, so_far_fails, so_far_twice, so_far_twice_clear, so_far_because, so_far_all_clear, checks_next, few_checks, not_twice}
use Rattle.tla_config.proofs.statements.statements.Goals as goal

pub returns-in_err-found-clause-none : goal.returns-in_err-found-clause-none
returns-in_err-found-clause-none c =
    let text = c.args.text.now in
    let ts = c.args.tokens.now in
    let e = err_from_is_err_and c.from_residual.result c.from_residual.ensures.1 in
    rw (e.1, e.2) (fails_map text ts c.in_err-found.field-0.0 (NoStatement text ts c.loop-at.at) (NoStatements text ts)
    (so_far_fails text ts (map statement_view c.loop-at.statements.items) c.loop-at.at c.loop-at-test.true c.loop-at.invariant.so_far) c.in_err-found.ensures.gives)

pub returns-then-begins_second_check-clause-none : goal.returns-then-begins_second_check-clause-none
returns-then-begins_second_check-clause-none c =
    so_far_twice c.args.text.now c.args.tokens.now (map statement_view c.loop-at.statements.items) c.loop-at.at c.loop-at.checks c.loop-at-test.true
    c.loop-at.invariant.so_far c.loop-at.invariant.checks (sym c.begins_second_check.ensures ∙ c.if-begins_second_check.true)

pub returns-then-begins_second_check-clause-because : goal.returns-then-begins_second_check-clause-because
returns-then-begins_second_check-clause-because c =
    so_far_twice_clear c.args.text.now c.args.tokens.now (map statement_view c.loop-at.statements.items) c.loop-at.at c.loop-at.checks
    c.loop-at.invariant.so_far c.loop-at.invariant.checks (sym c.begins_second_check.ensures ∙ c.if-begins_second_check.true)

pub returns-in_err-found-clause-because : goal.returns-in_err-found-clause-because
returns-in_err-found-clause-because c =
    let text = c.args.text.now in
    let ts = c.args.tokens.now in
    let front = map statement_view c.loop-at.statements.items in
    let e = err_from_is_err_and c.from_residual.result c.from_residual.ensures.1 in
    rw (e.1, e.2) (so_far_because text ts c.in_err-found.field-0.0 front c.loop-at.at (few_checks front c.loop-at.checks c.loop-at.invariant.checks)
    c.loop-at.invariant.so_far c.in_err-found.ensures.gives c.in_err-found.ensures.because)

pub returns-clause-clear : goal.returns-clause-clear
returns-clause-clear c = so_far_all_clear c.args.text.now c.args.tokens.now (map statement_view c.loop-at.statements.items) c.loop-at.at c.loop-at-test.false c.loop-at.invariant.so_far

pub loop-at-preserved : goal.loop-at-preserved
loop-at-preserved c =
    let front = map statement_view c.loop-at.statements.items in
    let s = statement_view c.in_ok-found.found.statement in
    let e : map statement_view c.push.new.items.items ≡ front ++ s ∷ [] =
    ap (λ x. map statement_view x) c.in_ok-push.ensures.ok ∙ map-append statement_view c.loop-at.statements.items (c.in_ok-found.found.statement ∷ []) in
    rw (e, c.checks_too-checks.ensures) (record {
      so_far = so_far_more c.args.text.now c.args.tokens.now front c.loop-at.at c.in_ok-found.found.end s c.loop-at.invariant.so_far c.in_ok-found.ensures.gives c.in_ok-found.ensures.clear;
      checks = checks_next front s c.loop-at.checks c.loop-at.invariant.checks
          (not_twice c.args.text.now c.args.tokens.now c.loop-at.checks c.loop-at.at c.in_ok-found.found.end s c.in_ok-found.ensures.gives.spelled (sym c.begins_second_check.ensures ∙ c.if-begins_second_check.false));
      within = c.in_ok-found.ensures.within.1;
    })

pub returns-clause-found : goal.returns-clause-found
returns-clause-found c =
    let front = map statement_view c.loop-at.statements.items in
    so_far_all c.args.text.now c.args.tokens.now front c.loop-at.at c.loop-at.invariant.within c.loop-at-test.false
    (few_checks front c.loop-at.checks c.loop-at.invariant.checks) c.loop-at.invariant.so_far
