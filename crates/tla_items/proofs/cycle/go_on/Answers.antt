use Rattle.std.proofs.Common.{Result, Ok, Err}
use Rattle.std.specs.Prelude.{OnOk}
use Rattle.tla_items.proofs.Dues.{less_to}
use Rattle.tla_items.proofs.Walks.{goes_seen, goes_to}
use Rattle.tla_items.proofs.cycle.go_on.Goals as goal

pub returns-then-not-branch-clause-ok : goal.returns-then-not-branch-clause-ok
returns-then-not-branch-clause-ok c =
    let same = c.in_ok-insert.ensures.same c.if-not-branch.true in
    let seen = rw c.as_bytes.ensures at (c.in_ok-insert.ensures.seen c.if-not-branch.true) in
    rw same (goes_seen c.args.references.now c.args.name.now c.args.walk.now.passed c.args.walk.now.waiting seen)

on_ok : {E P Q : Type 0} (r : Result (Unit {0}) E) → (P → Q) → OnOk r P → OnOk r Q
on_ok (Ok u) f h = f h
on_ok (Err e) f h = tt

pub returns-clause-ok : goal.returns-clause-ok
returns-clause-ok c =
    let new = rw c.as_bytes.ensures at (c.in_ok-insert.ensures.new c.if-not-branch.false) in
    on_ok c.push_next.result (λ pushed. goes_to c.args.references.now c.args.name.now c.args.walk.now.passed c.args.walk.now.waiting _ _ new pushed) c.push_next.ensures.ok

pub returns-clause-less : goal.returns-clause-less
returns-clause-less c =
    let new = rw c.as_bytes.ensures at (c.in_ok-insert.ensures.new c.if-not-branch.false) in
    let fresh = rw c.as_bytes.ensures at (c.in_ok-insert.ensures.fresh c.if-not-branch.false) in
    on_ok c.push_next.result (λ pushed. less_to c.args.references.now c.args.name.now c.args.walk.now.passed c.args.walk.now.waiting _ _ fresh new pushed) c.push_next.ensures.ok
