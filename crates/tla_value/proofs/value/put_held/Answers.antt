use Rattle.std.proofs.Common.{arith}
use Rattle.std.specs.Arc.{arc_value}
use Rattle.tla_value.specs.Private.Held.{entry_pairs}
use Rattle.tla_value.proofs.Pairs.{entry_length, put_both, put_fits, put_same}
use Rattle.tla_value.proofs.value.put_held.Goals as goal

pub put_shared-requires-clause-at : goal.put_shared-requires-clause-at
put_shared-requires-clause-at c =
    let held = arc_value c.in-Some.shared in
    let fits = rw c.in-Some.is at c.requires.fits in
    let at = rw c.in-Some.is at c.requires.at in
    omega (arith, entry_length held.domain held.values.items fits, at)

pub returns-in-Some-clause-pairs : goal.returns-in-Some-clause-pairs
returns-in-Some-clause-pairs c = rw c.in-Some.is (put_both c.put_shared.result (arc_value c.in-Some.shared) (arc_value c.put_shared.new.held) c.args.index c.args.value c.put_shared.ensures.domain c.put_shared.ensures.values)

pub returns-in-Some-clause-fits : goal.returns-in-Some-clause-fits
returns-in-Some-clause-fits c = put_fits c.put_shared.result (arc_value c.in-Some.shared) (arc_value c.put_shared.new.held) c.args.index c.args.value c.put_shared.ensures.domain c.put_shared.ensures.values c.put_shared.ensures.err (rw c.in-Some.is at c.requires.fits)

pub returns-in-Some-clause-err_pairs : goal.returns-in-Some-clause-err_pairs
returns-in-Some-clause-err_pairs c = rw c.in-Some.is (put_same c.put_shared.result (arc_value c.in-Some.shared) (arc_value c.put_shared.new.held) (λ e. entry_pairs e.domain e.values.items) c.put_shared.ensures.err)

pub returns-in-Some-clause-err_nesting : goal.returns-in-Some-clause-err_nesting
returns-in-Some-clause-err_nesting c = rw c.in-Some.is (put_same c.put_shared.result (arc_value c.in-Some.shared) (arc_value c.put_shared.new.held) (λ e. e.nesting) c.put_shared.ensures.err)

pub returns-in-Some-clause-err_hash : goal.returns-in-Some-clause-err_hash
returns-in-Some-clause-err_hash c = rw c.in-Some.is (put_same c.put_shared.result (arc_value c.in-Some.shared) (arc_value c.put_shared.new.held) (λ e. e.hash) c.put_shared.ensures.err)
