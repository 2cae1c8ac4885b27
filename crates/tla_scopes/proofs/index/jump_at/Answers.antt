use Rattle.std.proofs.Common.{◌≡◌, ◌+◌, ◌-◌, ℕ, ap, arith}
use Rattle.tla_scopes.specs.Private.Index.{found_at}
use Rattle.tla_scopes.specs.Listed.{listed}
use Rattle.tla_scopes.proofs.Indexed.{jump_farther, jump_nearer}
use Rattle.tla_scopes.proofs.index.jump_at.Goals as goal

pub returns-then-at-eq0-clause-to : goal.returns-then-at-eq0-clause-to
returns-then-at-eq0-clause-to c = λ x e. ap (λ (k : ℕ). found_at (listed c.args.entries.now) k x) c.if-at-eq0.true

pub returns-then-at-eq0-clause-next : goal.returns-then-at-eq0-clause-next
returns-then-at-eq0-clause-next c = λ x e. ap (λ (k : ℕ). found_at (listed c.args.entries.now) k x) c.if-at-eq0.true

pub returns-then-bit-differs-clause-to_within : goal.returns-then-bit-differs-clause-to_within
returns-then-bit-differs-clause-to_within c = omega (arith, c.node-node.ensures.node.below c.args.bit)

pub returns-then-bit-differs-clause-to : goal.returns-then-bit-differs-clause-to
returns-then-bit-differs-clause-to c = λ x e.
    let es = listed c.args.entries.now in
    let n = c.node-node.result.now in
    let at = c.args.at in
    let p : (at - 1) + 1 ≡ at = omega arith in
    rw p at (jump_farther es (at - 1) c.args.hash c.args.bit n x (omega arith) c.node-node.ensures.entry c.node-node.ensures.node (omega arith) e)

pub returns-else-bit-differs-clause-next_within : goal.returns-else-bit-differs-clause-next_within
returns-else-bit-differs-clause-next_within c = omega (arith, c.node-node.ensures.node.below c.slot-differs.result)

pub returns-else-bit-differs-clause-next : goal.returns-else-bit-differs-clause-next
returns-else-bit-differs-clause-next c = λ x e.
    let es = listed c.args.entries.now in
    let n = c.node-node.result.now in
    let at = c.args.at in
    let p : (at - 1) + 1 ≡ at = omega arith in
    rw (c.slot-differs.ensures.same) (rw p at (jump_nearer es (at - 1) c.args.hash c.args.bit n x (omega arith) c.node-node.ensures.entry c.node-node.ensures.node (omega arith) e))
