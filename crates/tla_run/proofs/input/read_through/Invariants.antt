use Rattle.tla_run.proofs.InputLemmas.{HasRead}
use Rattle.tla_run.proofs.input.read_through.Given as goal

abbrev pub invariant-loop : goal.invariant-loop
invariant-loop g l = HasRead 65536 (g.R.Read.remaining l.fn.reader) (g.R.Read.remaining l.reader) l.bytes.items l.counter
