use Rattle.std.proofs.Common.{◌≡◌, Some, slice_get}
use Rattle.std.proofs.lemmas.Result.{err_from_is_err_and}
use Rattle.tla_config.specs.declared.keyword.Keyword.TheVariants as word
use Rattle.tla_config.specs.Private.Fronts.{keyword_of}
use Rattle.tla_config.proofs.Arms.{left_out, left_out_here, clear_constants, constants_because}
use Rattle.tla_config.proofs.statements.statement.Goals as goal

pub returns-in-LeftOut-clause-gives : goal.returns-in-LeftOut-clause-gives
returns-in-LeftOut-clause-gives c =
    let h : keyword_of c.args.text.now (slice_get c.args.tokens.now c.args.at) ≡ Some (word.LeftOut, c.in-Some.place) = cc in
    left_out c.args.text.now c.args.tokens.now c.args.at c.in-Some.place h

pub returns-in-LeftOut-clause-because : goal.returns-in-LeftOut-clause-because
returns-in-LeftOut-clause-because c =
    let h : keyword_of c.args.text.now (slice_get c.args.tokens.now c.args.at) ≡ Some (word.LeftOut, c.in-Some.place) = cc in
    left_out_here c.args.text.now c.args.tokens.now c.args.at c.in-Some.place h

pub returns-in_err-found-in-Constants-clause-because : goal.returns-in_err-found-in-Constants-clause-because
returns-in_err-found-in-Constants-clause-because c =
    let h : keyword_of c.args.text.now (slice_get c.args.tokens.now c.args.at) ≡ Some (word.Constants, c.in-Some.place) = cc in
    let e = err_from_is_err_and c.from_residual-in_err-found-in-Constants.result c.from_residual-in_err-found-in-Constants.ensures.1 in
    rw (e.1, e.2) (constants_because c.args.text.now c.args.tokens.now c.args.at c.in_err-found-in-Constants.field-0.0 c.in-Some.place h c.in_err-found-in-Constants.ensures.because)

pub returns-in_ok-found-in-Constants-clause-clear : goal.returns-in_ok-found-in-Constants-clause-clear
returns-in_ok-found-in-Constants-clause-clear c =
    let h : keyword_of c.args.text.now (slice_get c.args.tokens.now c.args.at) ≡ Some (word.Constants, c.in-Some.place) = cc in
    clear_constants c.args.text.now c.args.tokens.now c.args.at c.in-Some.place h c.in_ok-found-in-Constants.ensures.clear
