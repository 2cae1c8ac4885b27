-- What a refusal says of a reading, carried on.
use Rattle.std.proofs.Common.{◌≡◌, ℕ, List, Err, ap}
use Rattle.tla_lex.specs.declared.token.Token.{Token}
use Rattle.tla_grammar.specs.declared.refusal.Refusal.{Refusal}
use Rattle.tla_grammar.specs.declared.refusal.Refusal.TheVariants as refusal
use Rattle.tla_grammar.specs.Outcome.{Outcome, Refused, ◌>>=◌}
use Rattle.tla_grammar.specs.Refusals.{Refuses, RefusesUnit, Fails}

pub fails_bind : {A B : Type 0} (text : List ℕ) (ts : List Token) (e : Refusal) (r : Outcome A) (f : A → ℕ → Outcome B) → Fails text ts e r → Fails text ts e (r >>= f)
fails_bind text ts refusal.NoMemory r f h = tt
fails_bind text ts (refusal.Nesting at) r f h = ap (λ x. x >>= f) h
fails_bind text ts (refusal.Unexpected at) r f h = (ap (λ x. x >>= f) h.0, h.1)
fails_bind text ts (refusal.Precedence at) r f h = ap (λ x. x >>= f) h
fails_bind text ts (refusal.Column at) r f h = (ap (λ x. x >>= f) h.0, h.1)
fails_bind text ts (refusal.LeftOut at) r f h = (ap (λ x. x >>= f) h.0, h.1)
fails_bind text ts (refusal.UnknownModule at) r f h = (ap (λ x. x >>= f) h.0, h.1)
fails_bind text ts (refusal.SecondHeader at) r f h = (ap (λ x. x >>= f) h.0, h.1)

-- a refusal of a token is one of the reading
pub refuses_fails : {A : Type 0} (text : List ℕ) (ts : List Token) (e : Refusal) → Refuses ts e → (read : Outcome A) → read ≡ Err Refused → Fails text ts e read
refuses_fails text ts refusal.NoMemory x read h = tt
refuses_fails text ts (refusal.Nesting at) x read h = absurd x
refuses_fails text ts (refusal.Unexpected at) x read h = (h, x)
refuses_fails text ts (refusal.Precedence at) x read h = h
refuses_fails text ts (refusal.Column at) x read h = (h, x)
refuses_fails text ts (refusal.LeftOut at) x read h = (h, x)
refuses_fails text ts (refusal.UnknownModule at) x read h = absurd x
refuses_fails text ts (refusal.SecondHeader at) x read h = absurd x

pub unit_fails : {A : Type 0} (text : List ℕ) (ts : List Token) (e : Refusal) → RefusesUnit text ts e → (read : Outcome A) → read ≡ Err Refused → Fails text ts e read
unit_fails text ts refusal.NoMemory x read h = tt
unit_fails text ts (refusal.Nesting at) x read h = absurd x
unit_fails text ts (refusal.Unexpected at) x read h = (h, x)
unit_fails text ts (refusal.Precedence at) x read h = h
unit_fails text ts (refusal.Column at) x read h = (h, x)
unit_fails text ts (refusal.LeftOut at) x read h = (h, x)
unit_fails text ts (refusal.UnknownModule at) x read h = absurd x
unit_fails text ts (refusal.SecondHeader at) x read h = (h, x)
