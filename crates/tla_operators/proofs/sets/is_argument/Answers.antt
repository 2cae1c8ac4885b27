use Rattle.std.proofs.Common.{◌≡◌, ◌<◌, refl, ap, length, map, option_map, pos, ◌+ℤ◌, ◌∙◌, sym, arith, rules, to_z, of_z, w64, FitsSigned, Some}
use Rattle.std.proofs.lemmas.Int.{ints}
use Rattle.std.proofs.lemmas.List.{length-map}
use Rattle.std.specs.Prelude.{slice_get}
use Rattle.tla_value.specs.Tree.{Tree, int}
use Rattle.tla_value.specs.TreeOf.{tree_of}
use Rattle.tla_value.specs.Order.{tree_eq}
use Rattle.tla_value.specs.Funs.{arguments}
use Rattle.tla_value.specs.Choices.{counted_up}
use Rattle.tla_value.specs.Arguments.{argument_values, FitArguments}
use Rattle.tla_value.specs.declared.value.Arguments.TheVariants.{Numbers}
use Rattle.tla_value.proofs.Pairs.{trees_numbers}
use Rattle.tla_value.proofs.Ranges.{get-counted_up}
use Rattle.tla_operators.proofs.Arguments.{found_here}
use Rattle.tla_operators.proofs.sets.is_argument.Goals as goal

pub returns-in-Numbers : goal.returns-in-Numbers
returns-in-Numbers c =
    let n = length c.args.function.now in
    let z = c.in-Numbers.first in
    let fits : FitsSigned w64 z = search rules in
    let fit : FitArguments n (Numbers z) = rw c.in-Numbers.is at c.arguments.ensures.fit in
    let are : counted_up n z ≡ arguments c.args.function.now = sym (trees_numbers n z) ∙ ap (λ a. map tree_of (argument_values n a)) (sym c.in-Numbers.is) ∙ c.arguments.ensures.arguments in
    let at : slice_get (arguments c.args.function.now) c.args.place ≡ Some (int (z +ℤ pos c.args.place)) = rw (← are) (get-counted_up n z c.args.place (z +ℤ pos c.args.place) c.requires.within refl) in
    let sum : to_z w64 (of_z w64 (to_z w64 (of_z w64 z) +ℤ to_z w64 c.args.place)) ≡ z +ℤ pos c.args.place = omega (arith, ints, fit.1, c.requires.few, c.requires.within) in
    ap (option_map (λ a. tree_eq a (tree_of c.args.value.now))) at
    ∙ ap (λ b. Some b) (ap (λ k. tree_eq (int k) (tree_of c.args.value.now)) (sym sum) ∙ sym c.is_number.ensures)

pub overflow_add-first : goal.overflow_add-first
overflow_add-first c =
    let n = length c.args.function.now in
    let z = c.in-Numbers.first in
    let fits : FitsSigned w64 z = search rules in
    let fit : FitArguments n (Numbers z) = rw c.in-Numbers.is at c.arguments.ensures.fit in
    omega (arith, ints, fit.1, c.requires.few, c.requires.within)

pub overflow_cast-place : goal.overflow_cast-place
overflow_cast-place c = omega (arith, ints, c.requires.few, c.requires.within)

pub returns-in-Listed : goal.returns-in-Listed
returns-in-Listed c =
    let vs = c.in-Listed.listed.now in
    let are : map tree_of vs ≡ arguments c.args.function.now = c.in-Listed.ensures.arguments in
    let long : c.args.place < length vs = omega (arith, c.requires.within, ap length are, length-map vs tree_of, length-map c.args.function.now (λ (p : Tree × Tree). p.0)) in
    let at : slice_get (arguments c.args.function.now) c.args.place ≡ Some (tree_of c.index-listed-place.result) = rw (← are) (found_here vs c.args.place c.index-listed-place.result long c.index-listed-place.is) in
    ap (option_map (λ a. tree_eq a (tree_of c.args.value.now))) at ∙ ap (λ b. Some b) (sym c.is_same.ensures)
