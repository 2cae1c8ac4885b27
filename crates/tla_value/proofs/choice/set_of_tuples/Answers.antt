use Rattle.std.proofs.Common.{pos, length, map, ap, sym, ◌∙◌, arith}
use Rattle.std.proofs.lemmas.List.{length-map}
use Rattle.tla_value.specs.TreeOf.{tree_of}
use Rattle.tla_value.specs.Choices.{counted_up}
use Rattle.tla_value.proofs.Ranges.{rising-counted_up, length-counted_up}
use Rattle.tla_value.proofs.Tuples.{makes_no_tuples, too_long_tuples, too_many_tuples, makes_tuples, deepest-counted_up}
use Rattle.tla_value.proofs.choice.set_of_tuples.Goals as goal

pub returns-then-has_empty : goal.returns-then-has_empty
returns-then-has_empty c = makes_no_tuples (map (λ s. s.now) c.args.sets.now) _ (sym c.if-has_empty.ensures.empty) c.empty.ensures

pub returns-then-sets-gt-MAX_ELEMENTS : goal.returns-then-sets-gt-MAX_ELEMENTS
returns-then-sets-gt-MAX_ELEMENTS c =
    too_long_tuples (map (λ s. s.now) c.args.sets.now) c.has_empty.ensures.rising (sym c.if-has_empty.ensures.empty) (omega (arith, length-map c.args.sets.now (λ s. s.now)))

pub returns-in-None : goal.returns-in-None
returns-in-None c = too_many_tuples (map (λ s. s.now) c.args.sets.now) c.has_empty.ensures.rising c.in-None.ensures.count

pub set_of_functions-requires-clause-sets : goal.set_of_functions-requires-clause-sets
set_of_functions-requires-clause-sets c =
    let n = length c.args.sets.now in
    rw c.as_slice.ensures.value (omega (arith, length-map c.in_ok-numbers-in-Some.numbers.items tree_of, ap length c.in_ok-numbers-in-Some.ensures.ok, length-counted_up n (pos 1)))

pub set_of_functions-requires-clause-few : goal.set_of_functions-requires-clause-few
set_of_functions-requires-clause-few c =
    let n = length c.args.sets.now in
    rw c.as_slice.ensures.value (omega (arith, length-map c.in_ok-numbers-in-Some.numbers.items tree_of, ap length c.in_ok-numbers-in-Some.ensures.ok, length-counted_up n (pos 1)))

pub set_of_functions-requires-clause-rising : goal.set_of_functions-requires-clause-rising
set_of_functions-requires-clause-rising c = rw (c.as_slice.ensures.value, c.in_ok-numbers-in-Some.ensures.ok) (rising-counted_up _ _)

pub set_of_functions-requires-clause-shallow : goal.set_of_functions-requires-clause-shallow
set_of_functions-requires-clause-shallow c = rw (c.as_slice.ensures.value, c.in_ok-numbers-in-Some.ensures.ok) (omega (arith, deepest-counted_up (length c.args.sets.now) (pos 1)))

pub returns-in_ok-numbers-in-Some : goal.returns-in_ok-numbers-in-Some
returns-in_ok-numbers-in-Some c =
    makes_tuples (map tree_of c.as_slice.result.now) (map (λ s. s.now) c.args.sets.now) _ c.has_empty.ensures.rising (omega (arith, length-map c.args.sets.now (λ s. s.now)))
    (ap (map tree_of) c.as_slice.ensures.value ∙ c.in_ok-numbers-in-Some.ensures.ok ∙ ap (λ n. counted_up n (pos 1)) (sym (length-map c.args.sets.now (λ s. s.now)))) c.set_of_functions.ensures
