use Rattle.std.proofs.Common.{◌≡◌, ◌∙◌, ◌≤◌, [], arith, length, subst, take}
use Rattle.std.specs.Io.KnownBytes.{Consumes}
use Rattle.tla_run.proofs.InputLemmas.{all_given, had_as_many, no_reads, one_more}
use Rattle.tla_run.proofs.input.read_through.Goals as goal

pub loop-init : goal.loop-init
loop-init g c = rw c.new-bytes.ensures.items (no_reads 65536 (g.R.Read.remaining c.args.reader.now))

pub returns-then-count-eq0-clause-bytes : goal.returns-then-count-eq0-clause-bytes
returns-then-count-eq0-clause-bytes g c =
    let known = g.R.Read.remaining in
    let read = c.in-Ok.ensures.bytes in
    let room : length c.read.new.buf ≡ 65536 = c.read.auto.buf ∙ c.loop.auto.buffer ∙ c.requires in
    let none : Consumes (known c.loop.reader) (known c.read.new.self) [] =
    subst (λ n. Consumes (known c.loop.reader) (known c.read.new.self) (take n c.read.new.buf)) c.if-count-eq0.true read.0 in
    all_given 65536 (known c.args.reader.now) (known c.loop.reader) (known c.read.new.self) c.loop.bytes.items c.loop.counter
    c.loop.invariant none (read.1 c.if-count-eq0.true (omega (arith, room)))

pub returns-then-count-eq0-clause-end : goal.returns-then-count-eq0-clause-end
returns-then-count-eq0-clause-end g c =
    let room : length c.read.new.buf ≡ 65536 = c.read.auto.buf ∙ c.loop.auto.buffer ∙ c.requires in
    c.in-Ok.ensures.bytes.1 c.if-count-eq0.true (omega (arith, room))

pub returns-then-count-eq0-clause-size : goal.returns-then-count-eq0-clause-size
returns-then-count-eq0-clause-size g c =
    let size = c.loop.invariant.size in
    let below = c.loop-test.true in
    let len = c.loop.bytes.ok.0 in
    omega (arith, size, below, len)

pub loop-preserved : goal.loop-preserved
loop-preserved g c =
    let known = g.R.Read.remaining in
    let room : length c.read.new.buf ≡ 65536 = c.read.auto.buf ∙ c.loop.auto.buffer ∙ c.requires in
    let bound = c.in-Ok.ensures.bound in
    let some = c.if-count-eq0.false in
    let fits : c.in-Ok.count ≤ 65536 = omega (arith, bound.0, room) in
    rw c.in_ok-extend_from_slice.ensures.items
    (one_more 65536 (known c.args.reader.now) (known c.loop.reader) (known c.read.new.self) c.loop.bytes.items c.read.new.buf
    c.loop.counter c.in-Ok.count c.loop.invariant c.in-Ok.ensures.bytes.0 bound.1 (grind (arith, some)) fits)

pub returns-clause-endless : goal.returns-clause-endless
returns-clause-endless g c = λ _.
    had_as_many 65536 (g.R.Read.remaining c.args.reader.now) (g.R.Read.remaining c.loop.reader) c.loop.bytes.items c.loop.counter 1000000
    c.loop.invariant c.loop-test.false
