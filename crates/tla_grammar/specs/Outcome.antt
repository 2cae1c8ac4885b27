-- How a reading ends: with what was read and the number of the token after it, or with a fault. It has the shape of the
-- code.
use Rattle.std.specs.Prelude.{ℕ, zero, suc, Bool, if◌then◌else◌, List, [], ◌∷◌, ◌++◌, Option, Some, None, Result, Ok, Err}

pub data Fault : Type 0 where
  Refused : Fault
  Nested : Fault

abbrev pub Outcome : Type 0 → Type 0
Outcome A = Result (A × ℕ) Fault

infixl 10 ◌>>=◌
abbrev pub ◌>>=◌ : {A B : Type 0} → Outcome A → (A → ℕ → Outcome B) → Outcome B
(Ok x) >>= f = f x.0 x.1
(Err e) >>= f = Err e

abbrev pub need : {A : Type 0} → Bool → Outcome A → Outcome A
need test x = if test then x else Err Refused

abbrev pub room : {A : Type 0} → Bool → Outcome A → Outcome A
room test x = if test then x else Err Nested

abbrev pub at_op : {A X : Type 0} → Option X → Outcome A → (X → Outcome A) → Outcome A
at_op None x f = x
at_op (Some op) x f = f op

-- the items of a list, at most this many, after those read so far: `item` reads one, and `next` says where the
-- following one begins, if there is one
unfoldable pub sequence : {A : Type 0} → (ℕ → Outcome A) → (ℕ → Option ℕ) → ℕ → List A → ℕ → Outcome (List A)
sequence item next zero front at = Err Refused
sequence item next (suc n) front at = item at >>= λ x after. at_op (next after) (Ok (front ++ x ∷ [], after)) (sequence item next n (front ++ x ∷ []))
