use Rattle.std.proofs.Common.{◌≡◌, length, map}
use Rattle.tla_lex.specs.Symbols.{longest}
use Rattle.tla_lex.specs.Private.LexemeSize.{Fits}
use Rattle.tla_lex.specs.declared.lexeme.Lexeme.TheVariants.{Fault}
use Rattle.tla_lex.specs.declared.error.LexCode.TheVariants.{Unknown}
use Rattle.tla_lex.proofs.symbol.longest.Given as goal

abbrev pub invariant-loop-left : goal.invariant-loop-left
invariant-loop-left l = record {
  same : longest l.text l.best (map (λ e. (e.0.now, e.1)) l.left) ≡ longest l.text (Fault Unknown 0) (map (λ e. (e.0.now, e.1)) l.table);
  within : Fits (length l.text) l.best;
}

abbrev pub decreases-loop-left : goal.decreases-loop-left
decreases-loop-left l = length l.left
