use Rattle.std.proofs.Common.{◌∙◌, sym}
use Rattle.tla_items.proofs.Settling.{settled_with}
use Rattle.tla_items.proofs.cycle.settle_next.Goals as goal

pub returns-then-leads_among-clause-ok : goal.returns-then-leads_among-clause-ok
returns-then-leads_among-clause-ok c =
    let new = rw c.as_bytes-then-leads_among.ensures at c.in_ok-insert.ensures.new in
    let among = sym c.leads_among.ensures ∙ c.if-leads_among.true in
    settled_with c.args.references.now c.in_ok-insert.field-0 c.args.settled.now c.insert.new.self c.args.name.now new c.in_ok-insert.ensures.same among c.requires
