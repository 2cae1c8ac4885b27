-- The entries of a list in memory.
use Rattle.std.specs.Prelude.{ℕ, List, ◌++◌, map, length}
use Rattle.tla_scopes.specs.declared.arena.Entry.{Entry}
use Rattle.tla_scopes.specs.declared.entries.Entries.{Entries}
use Rattle.tla_scopes.specs.declared.entries.Node.{Node}

abbrev pub entries_of : List Node → List Entry
entries_of ns = map (λ (n : Node). n.entry) ns

unfoldable pub listed : Entries → List Entry
listed es = entries_of (es.known.now ++ es.made.items)

-- how many of them are lent
abbrev pub lent_count : Entries → ℕ
lent_count es = length es.known.now
