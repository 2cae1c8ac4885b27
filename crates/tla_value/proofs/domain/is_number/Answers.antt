use Rattle.std.proofs.Common.{◌≡◌, ◌+◌, pos, ◌+ℤ◌, ◌≤ℤ◌, true, nat_eq, w64, arith, ap, ◌∙◌, rules, FitsSigned}
use Rattle.std.proofs.lemmas.Int.{ints}
use Rattle.tla_value.specs.Tree.{int}
use Rattle.tla_value.specs.TreeOf.{tree_of}
use Rattle.tla_value.proofs.domain.is_number.Goals as goal

pub returns-then-number-first-clause-number : goal.returns-then-number-first-clause-number
returns-then-number-first-clause-number c =
    let fits : FitsSigned w64 c.in-Int.number = search rules in
    let steps : nat_eq c.abs_diff.result c.args.steps ≡ true → c.in-Int.number ≡ c.args.first +ℤ pos c.args.steps = λ same. grind (arith, ints) in
    λ same. ap tree_of c.in-Int.is ∙ ap int (steps same)

pub returns-then-number-first-clause-fits : goal.returns-then-number-first-clause-fits
returns-then-number-first-clause-fits c =
    let fits : FitsSigned w64 c.in-Int.number = search rules in
    let steps : nat_eq c.abs_diff.result c.args.steps ≡ true → (c.args.first +ℤ pos (c.args.steps + 1)) ≤ℤ pos 9223372036854775808 = λ same. grind (arith, ints) in
    steps
