-- The first of two that is there.
use Rattle.std.specs.Prelude.{Option, Some, None}

abbrev pub or_else : {A : Type 0} → Option A → Option A → Option A
or_else (Some x) o = Some x
or_else None o = o
