-- Bounds on regions, for contracts inside this crate alone.
use Rattle.std.specs.Prelude.{ℕ}
use Rattle.tla_lex.specs.Private.GapSize.{depth}
use Rattle.tla_lex.specs.declared.closing.Region.{Region}
use Rattle.tla_lex.specs.declared.closing.Region.TheVariants.{Code, Text, Escape}

-- how many comments deep a region is or will be
abbrev pub region_depth : Region → ℕ
region_depth (Code mode) = depth mode
region_depth Text = 0
region_depth Escape = 0
