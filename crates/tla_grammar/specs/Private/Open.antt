-- How many brackets are open before a token. Private contracts alone cite this.
use Rattle.std.specs.Prelude.{ℕ, ◌+◌, ◌-◌}
use Rattle.tla_grammar.specs.declared.ahead.Role.{Role}
use Rattle.tla_grammar.specs.declared.ahead.Role.TheVariants as role

-- the least number that are open before a token in this role, if at least this many are open after it
abbrev pub least_before : Role → ℕ → ℕ
least_before role.Opens n = n - 1
least_before role.Closes n = n + 1
least_before _ n = n
