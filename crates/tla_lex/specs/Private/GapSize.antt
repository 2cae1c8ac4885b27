-- Bounds on gaps, for contracts inside this crate alone.
use Rattle.std.specs.Prelude.{ℕ}
use Rattle.tla_lex.specs.declared.gap.Gap.{Gap}
use Rattle.tla_lex.specs.declared.gap.Gap.TheVariants.{End, Open}
use Rattle.tla_lex.specs.declared.gap.Mode.{Mode}
use Rattle.tla_lex.specs.declared.gap.Mode.TheVariants.{Line, Depth, Second}

-- how many comments deep a mode is or will be
abbrev pub depth : Mode → ℕ
depth Line = 0
depth (Depth n) = n
depth (Second n) = n

abbrev pub gap_len : Gap → ℕ
gap_len (End n) = n
gap_len (Open n) = n
