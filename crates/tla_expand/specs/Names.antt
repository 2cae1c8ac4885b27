-- The scope that the names known so far make, and the one that was made before it.
use Rattle.std.specs.Prelude.{ℕ, length}
use Rattle.tla_expand.specs.declared.scopes.Scopes.{Scopes}
use Rattle.tla_scopes.specs.Meanings.{Scope}
use Rattle.tla_scopes.specs.Listed.{listed}
use Rattle.tla_scopes.specs.Scopes.{scope_at}

abbrev pub scope_of : Scopes → Scope
scope_of s = scope_at (listed s.entries) s.current

abbrev pub outer_of : Scopes → Scope
outer_of s = scope_at (listed s.entries) s.outer

-- how many names were added, to this scope and to those before it
abbrev pub size_of : Scopes → ℕ
size_of s = length (listed s.entries)
