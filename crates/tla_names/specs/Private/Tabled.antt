-- A table of names beside their list. Private contracts alone cite this.
use Rattle.std.specs.Prelude.{◌≡◌, List, map}
use Rattle.std.specs.Borrow.{Bor}
use Rattle.std.proofs.Props.{props}
use Rattle.tla_config.specs.Names.{Name, is_among}

-- each name that is in one is in the other
pub record IsTabled (table names : List (Bor Name)) : Type 0 where
  pub each : (x : Name) → is_among x (map (λ (k : Bor Name). k.now) table) ≡ is_among x (map (λ (w : Bor Name). w.now) names)

pub IsTabled-prop : (table names : List (Bor Name)) → IsProp (IsTabled table names)
IsTabled-prop table names = hlevel props
