use Rattle.std.proofs.Common.{◌≡◌, length, ap, sym, ◌∙◌, to_z, of_z, w64, FitsSigned, arith, rules}
use Rattle.std.proofs.lemmas.Int.{ints}
use Rattle.std.specs.Arc.{arc_value}
use Rattle.tla_value.specs.Private.Held.{FitsDomain, entry_pairs}
use Rattle.tla_value.proofs.Pairs.{seen_numbers, seen_fit, seen_listed, argument-count}
use Rattle.tla_value.proofs.value.FunValue.arguments.Goals as goal

pub returns-in-Numbers-clause-arguments : goal.returns-in-Numbers-clause-arguments
returns-in-Numbers-clause-arguments c =
    let fits : FitsSigned w64 c.in-Numbers.first = search rules in
    let same : to_z w64 (of_z w64 c.in-Numbers.first) ≡ c.in-Numbers.first = omega (arith, ints) in
    let held = arc_value c.in-Some.held in
    let held_fits : FitsDomain (length held.values.items) held.domain = rw c.in-Some.is at c.self.invariant.fits in
    rw (← c.self.view_is, c.in-Some.is, same) (seen_numbers held.domain held.values.items c.in-Numbers.first (ap (λ e. e.domain) (sym c.deref.ensures) ∙ c.in-Numbers.is) held_fits)

pub returns-in-Numbers-clause-fit : goal.returns-in-Numbers-clause-fit
returns-in-Numbers-clause-fit c =
    let fits : FitsSigned w64 c.in-Numbers.first = search rules in
    let same : to_z w64 (of_z w64 c.in-Numbers.first) ≡ c.in-Numbers.first = omega (arith, ints) in
    let held = arc_value c.in-Some.held in
    let held_fits : FitsDomain (length held.values.items) held.domain = rw c.in-Some.is at c.self.invariant.fits in
    rw (← c.self.view_is, c.in-Some.is, same) (seen_fit held.domain held.values.items c.in-Numbers.first (ap (λ e. e.domain) (sym c.deref.ensures) ∙ c.in-Numbers.is) held_fits)

pub returns-in-Listed-clause-arguments : goal.returns-in-Listed-clause-arguments
returns-in-Listed-clause-arguments c =
    let held = arc_value c.in-Some.held in
    let held_fits : FitsDomain (length held.values.items) held.domain = rw c.in-Some.is at c.self.invariant.fits in
    rw (← c.self.view_is, c.in-Some.is) (c.items.ensures.items ∙ seen_listed held.domain held.values.items c.in-Listed.set (ap (λ e. e.domain) (sym c.deref.ensures) ∙ c.in-Listed.is) held_fits)

pub returns-in-Listed-clause-fit : goal.returns-in-Listed-clause-fit
returns-in-Listed-clause-fit c =
    let held = arc_value c.in-Some.held in
    let held_fits : FitsDomain (length held.values.items) held.domain = rw c.in-Some.is at c.self.invariant.fits in
    rw (← c.self.view_is, c.in-Some.is)
    (argument-count c.items.result.now (entry_pairs held.domain held.values.items) (c.items.ensures.items ∙ seen_listed held.domain held.values.items c.in-Listed.set (ap (λ e. e.domain) (sym c.deref.ensures) ∙ c.in-Listed.is) held_fits))
