use Rattle.std.proofs.Common.{map, Bool, Ok, ap, sym, ◌∙◌, arith}
use Rattle.std.proofs.lemmas.List.{length-map}
use Rattle.tla_value.specs.TreeOf.{tree_of}
use Rattle.tla_operators.specs.Evaluated.{tree_of_evaluated}
use Rattle.tla_sets.proofs.Stands.{stands_known}
use Rattle.tla_sets.proofs.asked.set_has.Goals as goal

pub returns-then-are_within : goal.returns-then-are_within
returns-then-are_within c =
    let few = c.are_within.ensures.few c.if-are_within.true in
    stands_known c.args.place.now (map tree_of_evaluated c.args.values.now) (tree_of c.args.value.now) (omega (arith, few, length-map c.args.values.now tree_of_evaluated)) (c.are_within.ensures.shallow c.if-are_within.true)
    ∙ ap (λ (b : Bool). Ok b) (sym c.stands_in.ensures)
