use Rattle.std.proofs.Common.{w64, arith, rules, FitsSigned}
use Rattle.std.proofs.lemmas.Int.{ints}
use Rattle.tla_value.proofs.Ranges.{get-counted_up, member-below, member-above, member-other}
use Rattle.tla_value.proofs.domain.number_place.Goals as goal

pub returns-in_default : goal.returns-in_default
returns-in_default c = record { some = tt; none = member-other c.args.count c.args.first c.args.value.now c.in_default.not-Int }

pub returns-then-number-first-clause-none : goal.returns-then-number-first-clause-none
returns-then-number-first-clause-none c =
    let fits : FitsSigned w64 c.in-Int.number = search rules in
    rw c.in-Int.is (member-below c.args.count c.args.first c.in-Int.number (omega (arith, ints)))

pub returns-then-steps-count-clause-some : goal.returns-then-steps-count-clause-some
returns-then-steps-count-clause-some c =
    let fits : FitsSigned w64 c.in-Int.number = search rules in
    rw c.in-Int.is (get-counted_up c.args.count c.args.first c.abs_diff-steps.result c.in-Int.number c.if-steps-count.true (omega (arith, ints)))

pub returns-else-steps-count-clause-none : goal.returns-else-steps-count-clause-none
returns-else-steps-count-clause-none c =
    let fits : FitsSigned w64 c.in-Int.number = search rules in
    rw c.in-Int.is (member-above c.args.count c.args.first c.in-Int.number (omega (arith, ints)))
