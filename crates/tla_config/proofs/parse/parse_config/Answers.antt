use Rattle.std.proofs.Common.{◌∙◌, sym, subst}
use Rattle.tla_lex.specs.Reads.{Reads}
use Rattle.tla_lex.specs.declared.lexeme.Source.TheVariants.{Configuration}
use Rattle.tla_config.specs.Private.Gives.{Because, LeftOutAt, TooLargeAt, Clear}
use Rattle.tla_config.proofs.TextEnd.{reads_end}
use Rattle.tla_config.proofs.Told.{neither_told}
use Rattle.tla_config.proofs.parse.parse_config.Goals as goal

pub returns-in-End-clause-end : goal.returns-in-End-clause-end
returns-in-End-clause-end c =
    let text = c.args.text.now in
    let ts = c.in-Ok.scan.tokens.items in
    c.new.ensures.end ∙ reads_end Configuration text 0 ts c.in-End.place (subst (λ s. Reads Configuration text 0 ts s) c.in-End.is c.in-Ok.ensures.found)

pub error_of-requires-clause-because : goal.error_of-requires-clause-because
error_of-requires-clause-because c =
    let text = c.args.text.now in
    let same = c.deref.ensures.value ∙ sym c.deref-in-Err-statements.ensures.value in
    subst (λ ts. Because c.in-Err-statements.refusal (LeftOutAt text ts) (TooLargeAt text ts) (Clear text ts)) same c.in-Err-statements.ensures.because

pub returns-clause-explains : goal.returns-clause-explains
returns-clause-explains c =
    let text = c.args.text.now in
    let ts = c.deref.result.now in
    rw c.refused.ensures (neither_told text ts (λ us b. (c.in-Ok.ensures.only us b.stop b.reads).0 ∙ sym c.deref.ensures.value) c.in-Ok-statements.ensures.clear)
