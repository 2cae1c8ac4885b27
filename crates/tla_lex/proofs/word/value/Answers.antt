use Rattle.std.proofs.Common.{◌+◌, ◌-◌, ◌*◌, ◌^◌, ◌<◌, ◌≤◌, drop, suc, length, get_or, ap, sym, ◌∙◌, arith, drop-cons}
use Rattle.tla_lex.specs.Words.{value, small}
use Rattle.tla_lex.proofs.Words.{too_large}
use Rattle.tla_lex.proofs.word.value.Goals as goal

pub returns-then-longer-ge-LIMIT : goal.returns-then-longer-ge-LIMIT
returns-then-longer-ge-LIMIT c =
    let lt : c.loop-b.b-index < length c.args.digits.now = omega arith in
    let next = c.loop-b.n * 10 + (get_or c.args.digits.now c.loop-b.b-index 0 - 48) in
    let e = ap (λ xs. value c.loop-b.n xs) (drop-cons c.args.digits.now c.loop-b.b-index 0 lt) in
    let big : 2 ^ 63 ≤ next = omega arith in
    sym (ap (λ n. small n) (sym c.loop-b.invariant.same ∙ e) ∙ too_large next (drop (suc c.loop-b.b-index) c.args.digits.now) big)
