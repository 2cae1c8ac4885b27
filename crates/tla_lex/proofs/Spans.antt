-- Spans in order.
use Rattle.std.proofs.Common.{ℕ, ◌≤◌, ◌<◌, List, [], ◌∷◌, ◌++◌, arith}
use Rattle.tla_lex.specs.Reads.{InOrder}
use Rattle.tla_lex.specs.declared.token.Token.{Token}

-- one token more
pub in_order_more : (from at to : ℕ) (ts : List Token) (t : Token) → InOrder from at ts → at ≤ t.start → t.start < t.end → t.end ≤ to
    → InOrder from to (ts ++ t ∷ [])
in_order_more from at to [] t h a b c = (omega (arith, h, a), b, c)
in_order_more from at to (x ∷ xs) t h a b c = (h.0, h.1, in_order_more x.end at to xs t h.2 a b c)

-- up to a later byte
pub in_order_wider : (from at to : ℕ) (ts : List Token) → InOrder from at ts → at ≤ to → InOrder from to ts
in_order_wider from at to [] h a = omega (arith, h, a)
in_order_wider from at to (x ∷ xs) h a = (h.0, h.1, in_order_wider x.end at to xs h.2 a)
