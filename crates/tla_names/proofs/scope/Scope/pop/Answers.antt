use Rattle.std.proofs.Common.{◌++◌, ◌∷◌, [], sym}
use Rattle.tla_names.specs.Private.Latest.{IsTable, KeepBefore}
use Rattle.tla_names.proofs.Latest.{table_less, before_less, before_is, is_in_table, present}
use Rattle.tla_names.proofs.scope.Scope.pop.Goals as goal

pub invariant_of-self-inside : goal.invariant_of-self-inside
invariant_of-self-inside c =
    let es = c.self.inside.latest.entries in
    let ks = c.pop.new.self.items in
    let last = c.in-Some.last in
    let all = c.in-Some.ensures.items in
    let tells : IsTable es (ks ++ last ∷ []) = rw (sym all) c.self.inside.indexed in
    let remember : KeepBefore (ks ++ last ∷ []) = rw (sym all) c.self.inside.kept_before in
    let entries = present c.insert.result c.insert.ensures.entries c.insert.ensures.absent (is_in_table es ks last tells) in
    (rw entries (table_less es ks last (before_is ks last remember) tells), (before_less ks last remember, tt))
