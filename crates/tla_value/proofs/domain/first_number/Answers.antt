use Rattle.std.proofs.Common.{◌≡◌, map, length, arith, add-one, ap, sym, ◌∙◌}
use Rattle.std.proofs.lemmas.List.{take_all}
use Rattle.tla_value.specs.TreeOf.{tree_of}
use Rattle.tla_value.proofs.Ranges.{counted_more}
use Rattle.tla_value.proofs.domain.first_number.Goals as goal

pub loop-i-preserved : goal.loop-i-preserved
loop-i-preserved c = record {
  numbers = rw add-one (counted_more c.args.arguments.now c.loop-i.i _ c.index-arguments-i.result c.loop-i-test.true c.index-arguments-i.is (c.is_number.ensures.number c.if-not-is_number.false) c.loop-i.invariant.numbers);
  fit = c.is_number.ensures.fits c.if-not-is_number.false;
}

pub returns-clause-numbers : goal.returns-clause-numbers
returns-clause-numbers c =
    let all : c.loop-i.i ≡ length c.args.arguments.now = omega (arith, c.loop-i.auto.i-end, c.loop-i-test.false) in
    rw all at (sym (ap (map tree_of) (take_all c.loop-i.i c.args.arguments.now c.loop-i-test.false)) ∙ c.loop-i.invariant.numbers)

pub returns-clause-fit : goal.returns-clause-fit
returns-clause-fit c =
    let all : c.loop-i.i ≡ length c.args.arguments.now = omega (arith, c.loop-i.auto.i-end, c.loop-i-test.false) in
    (omega (arith, c.in-Int.len_at_least), rw all at c.loop-i.invariant.fit)
