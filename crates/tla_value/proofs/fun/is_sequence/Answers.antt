use Rattle.std.proofs.Common.{◌≡◌, ◌∙◌, ap, sym, pos, map, true, false, nat_eq, of_z, w64, FitsSigned, rules, arith}
use Rattle.std.proofs.lemmas.Int.{ints}
use Rattle.tla_value.specs.TreeOf.{tree_of}
use Rattle.tla_value.specs.Arguments.{argument_values}
use Rattle.tla_value.specs.Private.Inner.{counts_from}
use Rattle.tla_value.proofs.Pairs.{trees_numbers}
use Rattle.tla_value.proofs.Sequences.{sequence-numbers}
use Rattle.tla_value.proofs.fun.is_sequence.Goals as goal

pub returns-in-Numbers : goal.returns-in-Numbers
returns-in-Numbers c =
    let n = c.args.count in
    let z = c.in-Numbers.first in
    let fits : FitsSigned w64 z = search rules in
    let fit = rw c.in-Numbers.is at c.requires in
    let yes : nat_eq (of_z w64 z) 1 ≡ true → z ≡ pos 1 = λ e. grind (arith, ints) in
    let no : nat_eq (of_z w64 z) 1 ≡ false → z ≡ pos 1 → ⊥ = λ e f. grind (arith, ints) in
    sequence-numbers n z _ fit.0 yes no
    ∙ ap (counts_from 1) (sym (trees_numbers n z) ∙ ap (λ a. map tree_of (argument_values n a)) (sym c.in-Numbers.is))
