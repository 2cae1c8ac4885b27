-- Bounds on lexemes, for contracts inside this crate alone.
use Rattle.std.specs.Prelude.{ℕ, ◌≤◌, ◌<◌}
use Rattle.tla_lex.specs.declared.lexeme.Lexeme.{Lexeme}
use Rattle.tla_lex.specs.declared.lexeme.Lexeme.TheVariants.{Found, Fault}

-- a token is not empty and ends within n bytes; a fault is within them, too
abbrev pub Fits : ℕ → Lexeme → Type 0
Fits n (Found kind len) = (0 < len) × (len ≤ n)
Fits n (Fault code at) = at < n
