use Rattle.std.proofs.Common.{◌≡◌, ◌+ℤ◌, ◌≤ℤ◌, pos, to_z, of_z, w64, Some, FitsSigned, ap, sym, subst, ◌∙◌, arith}
use Rattle.std.proofs.lemmas.Int.{ints}
use Rattle.tla_value.specs.Tree.{int}
use Rattle.tla_sets.proofs.Ranges.{range_at, below_last}
use Rattle.tla_sets.proofs.span.number_above.Goals as goal

pub unreachable-requires : goal.unreachable-requires
unreachable-requires c =
    let same : c.args.low ≡ to_z w64 (of_z w64 c.args.low) = omega (arith, ints) in
    let last : (c.args.low +ℤ pos c.args.place) ≤ℤ c.args.high = below_last c.args.low c.args.high c.args.place c.requires in
    let fits : FitsSigned w64 (c.args.low +ℤ pos c.args.place) = omega (arith, ints) in
    c.in-None.ensures (subst (λ z. FitsSigned w64 (z +ℤ pos c.args.place)) same fits)

pub returns : goal.returns
returns c =
    let at = range_at c.args.low c.args.high c.args.place (below_last c.args.low c.args.high c.args.place c.requires) in
    sym (at ∙ ap (λ z. Some (int z)) (omega (arith, ints, c.in-Some.ensures.1)))
