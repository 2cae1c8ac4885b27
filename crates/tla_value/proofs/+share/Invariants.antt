use Rattle.std.proofs.Common.{◌≡◌, ◌+◌, ◌*◌}
use Rattle.tla_value.proofs.+share.Given as goal

-- from a value to its parts, one level less
abbrev pub decreases-pool::Pool::share : goal.decreases-pool::Pool::share
decreases-pool::Pool::share l = 8 * l.levels

abbrev pub decreases-pool::share_parts : goal.decreases-pool::share_parts
decreases-pool::share_parts l = 8 * l.levels + 7

abbrev pub decreases-value::SetValue::share_members : goal.decreases-value::SetValue::share_members
decreases-value::SetValue::share_members l = 8 * l.levels + 6

abbrev pub decreases-value::FunValue::share_values : goal.decreases-value::FunValue::share_values
decreases-value::FunValue::share_values l = 8 * l.levels + 6

abbrev pub decreases-value::share_in_members : goal.decreases-value::share_in_members
decreases-value::share_in_members l = 8 * l.levels + 5

abbrev pub decreases-value::share_in_entries : goal.decreases-value::share_in_entries
decreases-value::share_in_entries l = 8 * l.levels + 5

abbrev pub decreases-pool::Pool::share_all : goal.decreases-pool::Pool::share_all
decreases-pool::Pool::share_all l = 8 * l.levels + 4

abbrev pub invariant-pool::Pool::share_all-loop-i : goal.invariant-pool::Pool::share_all-loop-i
invariant-pool::Pool::share_all-loop-i l = l.values.items ≡ l.initial.values.items
