-- A function value that reads expressions to a depth.
use Rattle.std.specs.Prelude.{ℕ, List, Result}
use Rattle.std.specs.declared.alloc.Global.{Global}
use Rattle.std.specs.Borrow.{Bor}
use Rattle.tla_lex.specs.declared.token.Token.{Token}
use Rattle.tla_grammar.specs.declared.context.Context.{Context}
use Rattle.tla_expressions.specs.declared.parts.Parsed.{Parsed}
use Rattle.tla_grammar.specs.declared.refusal.Refusal.{Refusal}
use Rattle.tla_expressions.specs.Reading.{expr}
use Rattle.tla_expressions.specs.Gives.{Gives}

pub record Nests (depth : ℕ) (pre : Global → Bor (List ℕ) → Bor (List Token) → ℕ → Context → ℕ → ℕ → Type 0)
    (post : Global → Bor (List ℕ) → Bor (List Token) → ℕ → Context → ℕ → ℕ → Result Parsed Refusal → Type 0) : Type 0 where
  pub callable : (alloc : Global) (text : Bor (List ℕ)) (tokens : Bor (List Token)) (s : Context) (floor at : ℕ) → pre alloc text tokens depth s floor at
  pub reads : (alloc : Global) (text : Bor (List ℕ)) (tokens : Bor (List Token)) (s : Context) (floor at : ℕ) (r : Result Parsed Refusal)
      → post alloc text tokens depth s floor at r → Gives text.now tokens.now depth r (expr text.now tokens.now depth s floor at)
