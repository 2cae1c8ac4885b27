use Rattle.std.proofs.Common.{◌∙◌, ap, sym}
use Rattle.tla_tree.specs.declared.word.Written.{Written}
use Rattle.tla_items.proofs.Firsts.{first_known, first_new}
use Rattle.tla_items.proofs.Tables.{absent}
use Rattle.tla_items.proofs.items.Items.push.Goals as goal

pub invariant_of-self-inside-then-contains_key : goal.invariant_of-self-inside-then-contains_key
invariant_of-self-inside-then-contains_key c =
    let es = c.self.inside.firsts.entries in
    let is = c.self.inside.list.items in
    let says = c.as_bytes-name.ensures ∙ ap (λ (w : Written). w.word) c.replaced_name.ensures in
    let has = sym c.contains_key.ensures ∙ c.if-contains_key.true in
    (rw c.in_ok-push.ensures.items (first_known es is c.as_bytes-name.result c.args.item says c.self.inside.first_ones has), tt)

pub invariant_of-self-inside-in-Ok : goal.invariant_of-self-inside-in-Ok
invariant_of-self-inside-in-Ok c =
    let es = c.self.inside.firsts.entries in
    let is = c.self.inside.list.items in
    let says = c.as_bytes-name.ensures ∙ ap (λ (w : Written). w.word) c.replaced_name.ensures in
    let lacks = absent _ (sym c.contains_key.ensures ∙ c.if-contains_key.false) in
    (rw (c.in-Ok.ensures.entries, c.in_ok-push.ensures.items) (first_new es is c.as_bytes-name.result c.args.item says c.self.inside.first_ones lacks), tt)
