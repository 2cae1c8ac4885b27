use Rattle.std.proofs.Common.{map, ap, sym, ◌∙◌, arith, length}
use Rattle.std.proofs.lemmas.List.{length-map}
use Rattle.tla_value.specs.Tree.{Tree}
use Rattle.tla_value.specs.TreeOf.{tree_of}
use Rattle.tla_value.proofs.FunctionSets.{few_members, shallow_members, too_many_functions, many_functions}
use Rattle.tla_value.proofs.value.SetValue.function_set.Goals as goal

pub returns-then-items-gt1 : goal.returns-then-items-gt1
returns-then-items-gt1 c =
    many_functions c.args.domain.now c.args.range.now
    (omega (arith, length-map c.items-arguments.result.now tree_of, ap length c.items-arguments.ensures.items))
    (omega (arith, length-map c.items.result.now tree_of, ap length c.items.ensures.items))
    c.items.ensures.rising

pub returns-in-None : goal.returns-in-None
returns-in-None c =
    let xs = c.args.domain.now in
    let ys = c.args.range.now in
    let lists_are = ap (map (λ s. s.now)) c.as_slice.ensures.value ∙ c.in_ok-ranges.ensures.ok ∙ ap (map (λ (t : Tree). ys)) c.items-arguments.ensures.items in
    too_many_functions xs (map (λ (t : Tree). ys) xs) (sym (length-map xs (λ (t : Tree). ys)))
    (rw lists_are at c.in-None.ensures.rising) (rw lists_are at c.in-None.ensures.count)

pub set_of_functions-requires-clause-few : goal.set_of_functions-requires-clause-few
set_of_functions-requires-clause-few c = few_members _ _ c.items-arguments.ensures.items c.items-arguments.ensures.value

pub set_of_functions-requires-clause-shallow : goal.set_of_functions-requires-clause-shallow
set_of_functions-requires-clause-shallow c = shallow_members _ _ c.items-arguments.ensures.items c.items-arguments.ensures.value
