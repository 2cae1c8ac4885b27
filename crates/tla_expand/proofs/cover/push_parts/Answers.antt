use Rattle.std.proofs.Common.{◌≡◌, take, [], refl, sym, append-nil, arith}
use Rattle.std.proofs.lemmas.List.{take_all}
use Rattle.tla_expand.proofs.Walking.{parts_more}
use Rattle.tla_expand.proofs.cover.push_parts.Goals as goal

pub loop-i-init : goal.loop-i-init
loop-i-init c = record { pushed = ([], refl, sym (append-nil c.args.remaining.now.items)) }

pub loop-i-preserved : goal.loop-i-preserved
loop-i-preserved c = record {
  pushed = parts_more c.args.remaining.now.items c.loop-i.remaining.items c.push.new.items.items c.args.items.now c.loop-i.i c.args.scope c.args.primes _ (omega arith) c.index-items-i.is c.loop-i.invariant.pushed c.in_ok-push.ensures.ok;
}

pub returns-clause-ok : goal.returns-clause-ok
returns-clause-ok c =
    let z : take c.loop-i.i c.args.items.now ≡ c.args.items.now = take_all c.loop-i.i c.args.items.now (omega arith) in
    rw z at c.loop-i.invariant.pushed
