use Rattle.std.proofs.Common.{◌≡◌, ◌∷◌, get_or, refl, sym}
use Rattle.tla_core.specs.declared.expression.Opening.{Opening}
use Rattle.tla_code.specs.Raise.{raised_openings}
use Rattle.tla_sharing.proofs.Loops.{same_item, one_more, at_end}
use Rattle.tla_sharing.proofs.shift.are_openings.Goals as goal

pub loop-i-preserved : goal.loop-i-preserved
loop-i-preserved c =
    let xs = c.args.originals.now in
    let ys = c.args.copies.now in
    let none : Opening = record { name = 0; items = 0 } in
    let x : Opening = get_or xs c.loop-i.i none in
    let y : Opening = get_or ys c.loop-i.i none in
    let more = rw c.if-originals-copies.false at c.loop-i-test.true in
    let name = c.is_name.ensures c.if-not-is_name.false in
    one_more (λ os us. us ≡ raised_openings c.args.from c.args.by os) xs ys c.loop-i.i c.loop-i.invariant x y (same_item xs c.loop-i.i none x c.loop-i-test.true) (same_item ys c.loop-i.i none y more) c.loop-i-test.true more (λ rest i. record { name = name i; items = sym c.if-originals-i.false i } ∷ rest i)

pub returns : goal.returns
returns c = λ h. at_end (λ os us. us ≡ raised_openings c.args.from c.args.by os) c.args.originals.now c.args.copies.now c.loop-i.i c.loop-i.invariant c.loop-i-test.false (rw c.if-originals-copies.false at c.loop-i-test.false) refl
