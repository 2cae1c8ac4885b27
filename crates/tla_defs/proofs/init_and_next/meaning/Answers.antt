use Rattle.std.proofs.lemmas.Result.{err_from_is_err_and}
use Rattle.tla_defs.proofs.init_and_next.meaning.Goals as goal

pub returns-in_err-specified-in-Specified-clause-none : goal.returns-in_err-specified-in-Specified-clause-none
returns-in_err-specified-in-Specified-clause-none c =
    let e = err_from_is_err_and c.from_residual.result c.from_residual.ensures.1 in
    rw (e.1, e.2, c.in-Specified.is) (λ h. c.in_err-specified-in-Specified.ensures.none h)
