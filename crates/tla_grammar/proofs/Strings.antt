-- The text of a string.
use Rattle.std.proofs.Common.{◌≡◌, ℕ, List, [], sym, subst}
use Rattle.tla_lex.specs.Strings.{IsTextOf, no_quote}

-- a string of no bytes has no text
pub no_text : (xs : List ℕ) → xs ≡ [] → IsTextOf xs []
no_text xs e = subst (λ x. IsTextOf x []) (sym e) no_quote
