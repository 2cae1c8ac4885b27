use Rattle.std.proofs.Common.{refl, sym, ◌∙◌}
use Rattle.tla_items.proofs.Tables.{absent}
use Rattle.tla_defs.proofs.Tabled.{added_bodies, added_found}
use Rattle.indexmap.proofs.CallerLemmas.{insert_entry-new}
use Rattle.tla_defs.proofs.table.Table.add.Goals as goal

pub returns-clause-bodies : goal.returns-clause-bodies
returns-clause-bodies c = λ x o.
    let new = absent _ (sym c.contains_key.ensures ∙ c.if-contains_key.false) in
    let all = c.in_ok-insert.ensures.entries ∙ insert_entry-new _ c.args.self.now.definitions c.args.name _ new in
    rw all (added_bodies c.args.self.now.definitions.entries c.args.name _ refl new x o)

pub returns-clause-found : goal.returns-clause-found
returns-clause-found c = λ x.
    let new = absent _ (sym c.contains_key.ensures ∙ c.if-contains_key.false) in
    let all = c.in_ok-insert.ensures.entries ∙ insert_entry-new _ c.args.self.now.definitions c.args.name _ new in
    rw all (added_found c.args.self.now.definitions.entries c.args.name _ refl new x)
