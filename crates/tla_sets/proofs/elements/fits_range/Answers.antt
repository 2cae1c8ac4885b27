use Rattle.std.proofs.Common.{Err, inr, sym, ap, ◌∙◌, arith}
use Rattle.std.proofs.lemmas.Int.{ints}
use Rattle.tla_core.specs.declared.fault.Fault.{Fault}
use Rattle.tla_sets.proofs.Ranges.{range_empty, range_length, set_none, set_many, set_fits}
use Rattle.tla_sets.proofs.elements.fits_range.Goals as goal

pub returns-then-high-low-clause-gives : goal.returns-then-high-low-clause-gives
returns-then-high-low-clause-gives c = set_none c.args.place.now c.args.low c.args.high (omega (arith, ints))

pub returns-then-high-low-clause-few : goal.returns-then-high-low-clause-few
returns-then-high-low-clause-few c = omega (arith, range_empty c.args.low c.args.high (omega (arith, ints)))

pub returns-then-steps-clause-gives : goal.returns-then-steps-clause-gives
returns-then-steps-clause-gives c = inr (set_many c.args.place.now c.args.low c.args.high (omega (arith, ints)) (omega (arith, ints)) ∙ ap (λ (f : Fault). Err f) (sym c.fault_at.ensures))

pub returns-clause-gives : goal.returns-clause-gives
returns-clause-gives c = set_fits c.args.place.now c.args.low c.args.high (omega (arith, ints)) (omega (arith, ints))

pub returns-clause-few : goal.returns-clause-few
returns-clause-few c = omega (arith, ints, range_length c.args.low c.args.high (omega (arith, ints)))
