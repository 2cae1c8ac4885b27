use Rattle.std.proofs.Common.{codes, ◌++◌, arith}
use Rattle.std.specs.List.{flat_map}
use Rattle.counted_writer.specs.PutsLaws.{puts_exit, puts_short}
use Rattle.tla_value.specs.Text.{escaped}
use Rattle.tla_value.proofs.Shown.{quoted_stopped, quoted_all}
use Rattle.tla_value.proofs.show.put_quoted.Goals as goal

pub returns-in_err-written : goal.returns-in_err-written
returns-in_err-written g c = puts_exit _ _ c.from_residual.ensures.1 (puts_short (flat_map escaped c.args.bytes.now ++ codes "\"") c.in_err-written.ensures)

pub returns-in_err-written-2 : goal.returns-in_err-written-2
returns-in_err-written-2 g c =
    puts_exit _ _ c.from_residual-in_err-written-2.ensures.1 (quoted_stopped c.args.bytes.now c.loop-byte.byte-index _ c.loop-byte-test.true
    c.in_ok-written.ensures c.loop-byte.invariant c.in_err-written-2.ensures)

pub returns : goal.returns
returns g c = quoted_all c.args.bytes.now c.loop-byte.byte-index (omega arith) c.in_ok-written.ensures c.loop-byte.invariant c.put-2.ensures
