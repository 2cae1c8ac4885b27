use Rattle.std.proofs.Common.{arith, sym, take, below_more, refl}
use Rattle.std.proofs.lemmas.List.{take_all}
use Rattle.tla_hints.proofs.Behind.{behind_some, behind_bound, column_behind_more}
use Rattle.tla_hints.proofs.columns.front.Goals as goal

pub column_after-at-requires-clause-some : goal.column_after-at-requires-clause-some
column_after-at-requires-clause-some c =
    rw c.loop-index.invariant.here (behind_some (take c.loop-index.index c.args.line.now))

pub column_after-at-requires-clause-room : goal.column_after-at-requires-clause-room
column_after-at-requires-clause-room c =
    let bound = behind_bound c.args.line.now c.loop-index.index in
    let here = c.loop-index.invariant.here in
    omega (arith, bound, here)

pub loop-index-preserved : goal.loop-index-preserved
loop-index-preserved c =
    let here = c.loop-index.invariant.here in
    record {
      here = rw (c.column_after-at.ensures, column_behind_more c.args.line.now c.loop-index.index c.loop-index-test.true, here) refl;
      before = below_more _ _ c.loop-index.invariant.before (rw here at c.if-at-column.false);
    }

pub returns-clause-beginning : goal.returns-clause-beginning
returns-clause-beginning c = sym (take_all _ _ (omega arith))
