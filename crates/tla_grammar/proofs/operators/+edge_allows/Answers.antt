use Rattle.std.proofs.Common.{◌≡◌, ◌-◌, true, length, slice_get, Some, None, refl, sym}
use Rattle.tla_tree.specs.declared.tree.Infix.TheVariants as i
use Rattle.tla_tree.specs.View.{views_items}
use Rattle.tla_grammar.specs.Edges.{yields}
use Rattle.tla_grammar.proofs.Factors.{last_some, last_none}
use Rattle.tla_grammar.proofs.operators.+edge_allows.Goals as goal

pub returns-in-Some : goal.returns-in-Some
returns-in-Some t c =
    let v = views_items c.in-Product.others in
    let y : yields i.Product c.args.op ≡ true = cc in
    let s : slice_get c.in-Product.others.items (length c.in-Product.others.items - 1) ≡ Some c.in-Some.last.now = rw (← c.deref-then-yields-2.ensures.value) (sym c.in-Some.ensures.value) in
    let l = last_some c.in-Product.others.items c.args.op c.in-Some.last.now s in
    rw (c.in-Product.is, v, y, l) c.edge_allows-in-Some.ensures

pub returns-in-None : goal.returns-in-None
returns-in-None t c =
    let v = views_items c.in-Product.others in
    let y : yields i.Product c.args.op ≡ true = cc in
    let s : slice_get c.in-Product.others.items (length c.in-Product.others.items - 1) ≡ None = rw (← c.deref-then-yields-2.ensures.value) (sym c.in-None.ensures.value) in
    let l = last_none c.in-Product.others.items c.args.op s in
    rw (c.in-Product.is, v, y, l) refl
