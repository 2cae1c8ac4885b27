use Rattle.std.proofs.Common.{◌≡◌, Ok, to_z, of_z, w64, ap, ◌∙◌, arith}
use Rattle.std.proofs.lemmas.Int.{ints}
use Rattle.tla_value.specs.Choices.{range_of}
use Rattle.tla_core.specs.Kinds.{rising_set}
use Rattle.tla_sets.specs.Elements.{elements_rule}
use Rattle.tla_sets.proofs.Known.{elements_known}
use Rattle.tla_sets.proofs.elements.numbers_between.Goals as goal

pub returns : goal.returns
returns c =
    let low = to_z w64 (of_z w64 c.args.low) in
    let high = to_z w64 (of_z w64 c.args.high) in
    let from : c.args.low ≡ low = omega (arith, ints) in
    let to : c.args.high ≡ high = omega (arith, ints) in
    let first : low ≡ c.new.result.low = omega (arith, ints, c.new.ensures.low) in
    let last : high ≡ c.new.result.high = omega (arith, ints, c.new.ensures.high) in
    ap (λ z. elements_rule c.args.place.now (rising_set c.args.at.now (range_of z c.args.high))) from
    ∙ ap (λ z. elements_rule c.args.place.now (rising_set c.args.at.now (range_of low z))) to
    ∙ elements_known c.args.place.now (rising_set c.args.at.now (range_of low high)) (range_of low high) c.in_ok-fits_range.ensures.gives
    ∙ ap (λ z. Ok (range_of z high)) first
    ∙ ap (λ z. Ok (range_of c.new.result.low z)) last
