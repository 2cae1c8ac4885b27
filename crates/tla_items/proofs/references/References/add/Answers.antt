use Rattle.std.proofs.Common.{◌∙◌, sym, ap, ◌∷◌, ◌++◌, map}
use Rattle.tla_items.specs.References.{next_names}
use Rattle.tla_items.proofs.Tables.{row, known_before, absent_lookup, added}
use Rattle.indexmap.proofs.CallerLemmas.{insert_entry-new}
use Rattle.tla_items.proofs.references.References.add.Goals as goal

pub returns-then-contains_key-clause-ok : goal.returns-then-contains_key-clause-ok
returns-then-contains_key-clause-ok c = λ rest x. rw (sym c.self.view_is) (known_before x (c.args.name.now, c.args.next) rest c.self.inside.next.entries (sym c.contains_key.ensures ∙ c.if-contains_key.true))

pub returns-clause-ok : goal.returns-clause-ok
returns-clause-ok c =
    let es = c.self.inside.next.entries in
    let new = c.in_ok-insert.ensures.entries ∙ insert_entry-new _ c.self.inside.next c.args.name c.args.next (absent_lookup c.args.name.now es (sym c.contains_key.ensures ∙ c.if-contains_key.false)) in
    λ rest x. ap (λ ls. next_names ls x) (ap (λ fs. map row fs ++ rest) new ∙ added es (c.args.name, c.args.next) rest ∙ ap (λ ls. ls ++ (c.args.name.now, c.args.next) ∷ rest) c.self.view_is)
