use Rattle.clap.specs.Walk.{texts}
use Rattle.tla_line.specs.LineFault.{IsFaultOf, fault_from}
use Rattle.tla_line.specs.Private.Parsing.{IsOfClap}
use Rattle.tla_line.proofs.LineLemmas.{err_is, fault_fits, kind_fits, none_faulted, of_clap, rows_known}
use Rattle.tla_line.proofs.line.parse.Goals as goal

pub returns-in_err-try_get_matches_from-clause-fault :
    goal.returns-in_err-try_get_matches_from-clause-fault
returns-in_err-try_get_matches_from-clause-fault c =
    let words = texts c.args.words.now in
    let error = c.in_err-try_get_matches_from.field-0.0 in
    err_is (IsFaultOf words) _ (fault_from error) c.from_residual-in_err-try_get_matches_from.ensures.1
    (fault_fits words error
    (kind_fits words c.in_ok-command.command error c.in_ok-command.ensures.app c.in_err-try_get_matches_from.ensures.kinds))

pub returns-in_err-try_get_matches_from-clause-clap :
    goal.returns-in_err-try_get_matches_from-clause-clap
returns-in_err-try_get_matches_from-clause-clap c =
    let error = c.in_err-try_get_matches_from.field-0.0 in
    err_is IsOfClap _ (fault_from error) c.from_residual-in_err-try_get_matches_from.ensures.1 (of_clap error)

pub returns-clause-taken : goal.returns-clause-taken
returns-clause-taken c =
    none_faulted (texts c.args.words.now) c.in_ok-command.command c.in_ok-command.ensures.app c.in_ok-try_get_matches_from.ensures.kinds

pub returns-clause-matches : goal.returns-clause-matches
returns-clause-matches c =
    rows_known (texts c.args.words.now) c.in_ok-command.command c.in_ok-try_get_matches_from.field-0 c.in_ok-command.ensures.app
    c.in_ok-try_get_matches_from.ensures.matches
