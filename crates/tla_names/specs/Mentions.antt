-- What the code answers of names.
use Rattle.std.specs.Prelude.{Option, option_map}
use Rattle.std.specs.Borrow.{Bor}
use Rattle.tla_tree.specs.declared.word.Written.{Written}
use Rattle.tla_config.specs.declared.statement.Item as c
use Rattle.tla_config.specs.Statements as s
use Rattle.tla_config.specs.View.{item_view}
use Rattle.tla_names.specs.declared.mention.Mention.{Mention}

-- a name, an operator or the first word of a form, as it is written
abbrev pub written_of : Mention → Written
written_of m = record { place = m.place; word = m.word.now }

-- an item in memory
abbrev pub item_of : Bor c.Item → s.Item
item_of i = item_view i.now

-- a name that was found, if any
abbrev pub found : Option (Bor Written) → Option Written
found o = option_map (λ (w : Bor Written). w.now) o
