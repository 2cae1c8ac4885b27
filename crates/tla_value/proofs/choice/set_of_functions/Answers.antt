use Rattle.std.proofs.Common.{map, sym, ◌∙◌, subst, arith}
use Rattle.std.proofs.lemmas.List.{length-map}
use Rattle.tla_value.specs.TreeOf.{tree_of}
use Rattle.tla_value.specs.Sets.{MakesSet}
use Rattle.tla_value.proofs.Choosing.{rising-functions_by}
use Rattle.tla_value.proofs.FunctionSets.{set_of-functions_by}
use Rattle.tla_value.proofs.choice.set_of_functions.Goals as goal

pub set_from_rising-requires : goal.set_from_rising-requires
set_from_rising-requires c =
    rw c.in_ok-functions.ensures.ok
    (rising-functions_by (map tree_of c.args.arguments.now) (map (λ s. s.now) c.args.sets.now) (omega (arith, length-map c.args.arguments.now tree_of, length-map c.args.sets.now (λ s. s.now))) c.requires.lists)

pub returns : goal.returns
returns c =
    let ks = map tree_of c.args.arguments.now in
    let lists = map (λ s. s.now) c.args.sets.now in
    subst (λ ts. MakesSet ts c.set_from_rising.result)
    (c.in_ok-functions.ensures.ok ∙ sym (set_of-functions_by ks lists (omega (arith, length-map c.args.arguments.now tree_of, length-map c.args.sets.now (λ s. s.now))) c.requires.lists))
    c.set_from_rising.ensures
