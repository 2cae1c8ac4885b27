-- Tokens that stop at the end stop at the text's end.
use Rattle.std.proofs.Common.{◌≡◌, ℕ, ◌+◌, ◌==◌, Bool, true, false, if◌then◌else◌, List, [], ◌∷◌, drop, length, refl, sym, ap, ◌∙◌}
use Rattle.std.proofs.lemmas.Bool.{eqb-true}
use Rattle.tla_lex.specs.Bytes.{Bytes}
use Rattle.tla_lex.specs.Gap.{gap}
use Rattle.tla_lex.specs.Lexeme.{lexeme}
use Rattle.tla_lex.specs.Places.{place_at}
use Rattle.tla_lex.specs.Reads.{Reads, front, behind, begun, begun_at}
use Rattle.tla_lex.specs.declared.gap.Gap.{Gap}
use Rattle.tla_lex.specs.declared.gap.Gap.TheVariants as gaps
use Rattle.tla_lex.specs.declared.lexeme.Lexeme.{Lexeme}
use Rattle.tla_lex.specs.declared.lexeme.Lexeme.TheVariants as lexemes
use Rattle.tla_lex.specs.declared.lexeme.Source.{Source}
use Rattle.tla_lex.specs.declared.scan.Front.TheVariants.{Stops}
use Rattle.tla_lex.specs.declared.scan.Stop.TheVariants.{End}
use Rattle.tla_lex.specs.declared.token.Place.{Place}
use Rattle.tla_lex.specs.declared.token.Token.{Token}

module _ (source : Source) (text : Bytes) where
  no_end : (at : ℕ) (x : Lexeme) (p : Place) → begun text at x ≡ Stops (End p) → ⊥
  no_end at (lexemes.Found k n) p h = cc
  no_end at (lexemes.Fault c n) p h = cc

  end_place : (at : ℕ) (b : Bool) (p : Place) → (at == length text) ≡ b → (if b then Stops (End (place_at text at)) else begun_at source text at) ≡ Stops (End p)
      → p ≡ place_at text (length text)
  end_place at true p e h = let q : place_at text at ≡ p = cc in sym q ∙ ap (λ n. place_at text n) (eqb-true at (length text) e)
  end_place at false p e h = absurd (no_end at (lexeme source (drop at text)) p h)

  behind_end : (at : ℕ) (g : Gap) (p : Place) → behind source text at g ≡ Stops (End p) → p ≡ place_at text (length text)
  behind_end at (gaps.Open n) p h = (let z : ⊥ = cc in absurd z)
  behind_end at (gaps.End n) p h = end_place (at + n) (at + n == length text) p refl h

  front_end : (at : ℕ) (p : Place) → front source text at ≡ Stops (End p) → p ≡ place_at text (length text)
  unfolding front
  front_end at p h = behind_end at (gap (drop at text)) p h

  pub reads_end : (at : ℕ) (ts : List Token) (p : Place) → Reads source text at ts (End p) → p ≡ place_at text (length text)
  reads_end at [] p r = front_end at p r
  reads_end at (t ∷ ts) p r = reads_end t.end ts p r.1
