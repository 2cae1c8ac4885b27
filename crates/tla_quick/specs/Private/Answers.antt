-- The result of a call that may give up: if it has one, it is that of the definition. (This project's own choice.)
use Rattle.std.specs.Prelude.{◌≡◌, Result, Ok, Err}
use Rattle.tla_core.specs.Fault.{Outcome, ◌>>=◌}

abbrev pub Answers : {X A E : Type 0} → (X → A) → Result X E → Outcome A → Type 0
Answers view (Ok x) o = o ≡ Ok (view x)
Answers view (Err stop) o = Unit {0}

-- an outcome without its value
abbrev pub nothing_of : {A : Type 0} → Outcome A → Outcome (Unit {0})
nothing_of o = do
  x ← o
  Ok tt
