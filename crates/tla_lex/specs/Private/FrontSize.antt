-- Bounds on what comes next, for contracts inside this crate alone.
use Rattle.std.specs.Prelude.{◌≡◌, ℕ, ◌≤◌, ◌<◌, length}
use Rattle.tla_lex.specs.Bytes.{Bytes}
use Rattle.tla_lex.specs.Places.{place_at}
use Rattle.tla_lex.specs.declared.scan.Front.{Front}
use Rattle.tla_lex.specs.declared.scan.Front.TheVariants.{Begins, Stops}
use Rattle.tla_lex.specs.declared.scan.Stop.{Stop}
use Rattle.tla_lex.specs.declared.scan.Stop.TheVariants.{End, Fault}

-- the end has the place after the last byte
abbrev pub IsEndPlace : Bytes → Stop → Type 0
IsEndPlace text (End place) = place ≡ place_at text (length text)
IsEndPlace text (Fault e) = Unit {0}

-- a token is not empty, is in the text after this byte, and has its own place
abbrev pub IsWithin : Bytes → ℕ → Front → Type 0
IsWithin text from (Begins t) = (from ≤ t.start) × (t.start < t.end) × (t.end ≤ length text) × (t.place ≡ place_at text t.start)
IsWithin text from (Stops stop) = (from ≤ length text) × IsEndPlace text stop
