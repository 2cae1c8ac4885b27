use Rattle.std.proofs.Common.{◌≡◌, ◌-◌, true, false, sym, ◌∙◌, arith}
use Rattle.tla_expand.proofs.Walking.{found_more}
use Rattle.tla_expand.proofs.cover.has_each.Goals as goal

pub returns-then-not-contains-clause-no : goal.returns-then-not-contains-clause-no
returns-then-not-contains-clause-no c = λ q h.
    let a = h (c.loop-remaining.remaining - 1) (omega arith) in
    let z : false ≡ true = sym c.if-not-contains.true ∙ c.contains.ensures ∙ a in
    cc

pub loop-remaining-preserved : goal.loop-remaining-preserved
loop-remaining-preserved c = record {
  within = omega arith;
  found = found_more c.args.found.now.keys c.args.variables c.loop-remaining.remaining (c.loop-remaining.remaining - 1) (omega arith) (sym c.contains.ensures ∙ c.if-not-contains.false) c.loop-remaining.invariant.found;
}
