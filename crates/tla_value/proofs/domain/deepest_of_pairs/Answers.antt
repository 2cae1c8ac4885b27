use Rattle.std.proofs.Common.{◌≡◌, ◌∙◌, ap, length, arith}
use Rattle.tla_value.specs.Tree.{trees, deepest}
use Rattle.tla_value.specs.Private.Held.{domain_trees}
use Rattle.tla_value.specs.Private.Falls.{deepest-entry}
use Rattle.tla_value.proofs.Tuples.{deepest-counted_up}
use Rattle.tla_value.proofs.domain.deepest_of_pairs.Goals as goal

pub returns-in-Numbers : goal.returns-in-Numbers
returns-in-Numbers c =
    let vs = c.args.values.now in
    let whole = deepest-entry c.args.domain.now vs c.requires in
    let none : deepest (trees (domain_trees (length vs) c.args.domain.now)) ≡ 0 = ap (λ d. deepest (trees (domain_trees (length vs) d))) c.in-Numbers.is ∙ deepest-counted_up (length vs) c.in-Numbers.field-0 in
    omega (arith, whole, none, c.deepest_of-deepest.ensures.nesting)

pub returns-in-Listed : goal.returns-in-Listed
returns-in-Listed c =
    let vs = c.args.values.now in
    let whole = deepest-entry c.args.domain.now vs c.requires in
    let listed : deepest (trees (domain_trees (length vs) c.args.domain.now)) ≡ deepest (trees c.in-Listed.set) = ap (λ d. deepest (trees (domain_trees (length vs) d))) c.in-Listed.is in
    omega (arith, whole, listed, c.deepest_of-deepest.ensures.nesting, c.nesting.ensures.nesting, c.max.ensures)
