-- The first item of each name, as a table keeps it. Private contracts alone cite this.
use Rattle.std.specs.Prelude.{◌≡◌, List, map, option_map}
use Rattle.std.specs.Borrow.{Bor}
use Rattle.std.specs.Coded.{Coded-set}
use Rattle.std.specs.Map.{lookup}
use Rattle.std.specs.Str.{bytes_eq}
use Rattle.std.proofs.Props.{props}
use Rattle.tla_value.specs.Stored.{coded_tree}
use Rattle.tla_value.specs.Tree.{Tree}
use Rattle.tla_config.specs.Names.{Name}
use Rattle.tla_config.specs.declared.statement.Item.{Item}
use Rattle.tla_items.specs.Items.{item_for}
use Rattle.tla_names.specs.Mentions.{item_of}

-- the table has the first item of each name
pub record AreFirst (firsts : List (Bor Name × Bor Item)) (items : List (Bor Item)) : Type 0 where
  pub each : (x : Name) → option_map item_of (lookup (λ (k : Bor Name). bytes_eq x k.now) firsts) ≡ item_for (map item_of items) x

Tree-set : IsSet Tree
Tree-set = Coded-set coded_tree

pub AreFirst-prop : (firsts : List (Bor Name × Bor Item)) (items : List (Bor Item)) → IsProp (AreFirst firsts items)
AreFirst-prop firsts items = hlevel (props, Tree-set)
