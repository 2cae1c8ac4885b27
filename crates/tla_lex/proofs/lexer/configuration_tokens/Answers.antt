use Rattle.std.proofs.Common.{IfOk, Ok, Err, Result, List, ◌≡◌, ℕ}
use Rattle.tla_lex.specs.Reads.{Reads}
use Rattle.tla_lex.specs.declared.error.LexError.{LexError}
use Rattle.tla_lex.specs.declared.lexeme.Source.TheVariants.{Configuration}
use Rattle.tla_lex.specs.declared.scan.Scan.{Scan}
use Rattle.tla_lex.specs.declared.scan.Stop.{Stop}
use Rattle.tla_lex.specs.declared.token.Token.{Token}
use Rattle.tla_lex.proofs.SoFar.{reads_once}
use Rattle.tla_lex.proofs.lexer.configuration_tokens.Goals as goal

only : (text : List ℕ) (r : Result Scan LexError) → IfOk r (λ s. Reads Configuration text 0 s.tokens.items s.stop)
    → IfOk r (λ s. (ts : List Token) (stop : Stop) → Reads Configuration text 0 ts stop → (ts ≡ s.tokens.items) × (stop ≡ s.stop))
only text (Ok s) h = λ ts stop r. reads_once Configuration text 0 ts s.tokens.items stop s.stop r h
only text (Err e) h = h

pub returns-clause-only : goal.returns-clause-only
returns-clause-only c = only c.args.text.now c.scan_from.result c.scan_from.ensures.reads
