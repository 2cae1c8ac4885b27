-- What was read of a text, and what comes next.
use Rattle.std.proofs.Common.{◌≡◌, ℕ, List, [], ◌∷◌, ◌++◌, refl, ap, ◌∙◌, append_assoc, append-nil}
use Rattle.tla_lex.specs.Bytes.{Bytes}
use Rattle.tla_lex.specs.Reads.{Reads, front}
use Rattle.tla_lex.specs.declared.lexeme.Source.{Source}
use Rattle.tla_lex.specs.declared.scan.Front.TheVariants.{Begins, Stops}
use Rattle.tla_lex.specs.declared.scan.Stop.{Stop}
use Rattle.tla_lex.specs.declared.token.Token.{Token}

-- these tokens stand between two bytes: whatever is read from the second, they and it are read from the first
pub record SoFar (source : Source) (text : Bytes) (from : ℕ) (ts : List Token) (at : ℕ) : Type 0 where
  pub whole : (us : List Token) (stop : Stop) → Reads source text at us stop → Reads source text from (ts ++ us) stop

pub so_far_none : (source : Source) (text : Bytes) (from : ℕ) → SoFar source text from [] from
so_far_none source text from = record { whole = λ us stop r. r }

pub so_far_more : (source : Source) (text : Bytes) (from : ℕ) (ts : List Token) (at : ℕ) (t : Token) → SoFar source text from ts at
    → front source text at ≡ Begins t → SoFar source text from (ts ++ t ∷ []) t.end
so_far_more source text from ts at t so f = record { whole = λ us stop r. rw append_assoc (so.whole (t ∷ us) stop (f, r)) }

pub so_far_stop : (source : Source) (text : Bytes) (from : ℕ) (ts : List Token) (at : ℕ) (stop : Stop) → SoFar source text from ts at
    → front source text at ≡ Stops stop → Reads source text from ts stop
so_far_stop source text from ts at stop so f = let r : Reads source text from (ts ++ []) stop = so.whole [] stop f in rw append-nil at r

-- the tokens and the stop are the only ones
pub reads_once : (source : Source) (text : Bytes) (at : ℕ) (ts us : List Token) (s r : Stop) → Reads source text at ts s → Reads source text at us r → (ts ≡ us) × (s ≡ r)
reads_once source text at [] [] s r p q = (refl, cc)
reads_once source text at [] (u ∷ us) s r p q = let e = q.0 in absurd (let z : ⊥ = cc in z)
reads_once source text at (t ∷ ts) [] s r p q = let e = p.0 in absurd (let z : ⊥ = cc in z)
reads_once source text at (t ∷ ts) (u ∷ us) s r p q =
    let a = p.0 in let b = q.0 in
    let e : t ≡ u = cc in
    let w = reads_once source text u.end ts us s r (rw e at p.1) q.1 in
    (ap (λ x. x ∷ ts) e ∙ ap (λ xs. u ∷ xs) w.0, w.1)
