use Rattle.std.proofs.Common.{◌≡◌, length, map, sym, subst, ◌∙◌, refl, Err, Ok}
use Rattle.std.proofs.lemmas.List.{length-map}
use Rattle.tla_value.specs.Sets.{set_of, MakesSetOfFunctions}
use Rattle.tla_value.specs.Choices.{tuples_of}
use Rattle.tla_operators.specs.Evaluated.{tree_of_evaluated}
use Rattle.tla_sets.proofs.Domains.{AllRise, tuples_long, tuples_made, tuples_refused}
use Rattle.tla_sets.proofs.domain.domain_of.Goals as goal

pub returns-in-Ok : goal.returns-in-Ok
returns-in-Ok c = λ ys long.
    let lists = c.in_ok-sets.sets.items in
    let ts = map tree_of_evaluated c.args.sets.now in
    let rise = subst AllRise c.as_slice.ensures.value c.each_rises.ensures in
    let made = subst (λ ls. MakesSetOfFunctions (set_of (tuples_of ls)) (Ok c.in-Ok.tuples)) c.as_slice-2.ensures.value c.in-Ok.ensures in
    let several : length ts ≡ 1 → ⊥ = λ e. c.requires (sym (length-map c.args.sets.now tree_of_evaluated) ∙ e) in (
      tuples_long c.args.place.now ts ys lists c.in_ok-sets.ensures several rise (long lists c.in_ok-sets.ensures) c.in-Ok.tuples made.0,
      tuples_made c.args.place.now ts ys lists c.in_ok-sets.ensures several rise (long lists c.in_ok-sets.ensures) c.in-Ok.tuples _ made.0 made.1 refl,
    )

pub returns : goal.returns
returns c = λ ys long.
    let lists = c.in_ok-sets.sets.items in
    let ts = map tree_of_evaluated c.args.sets.now in
    let rise = subst AllRise c.as_slice.ensures.value c.each_rises.ensures in
    let made = subst (λ ls. MakesSetOfFunctions (set_of (tuples_of ls)) (Err c.in-Err.error)) c.as_slice-2.ensures.value c.in-Err.ensures in
    let several : length ts ≡ 1 → ⊥ = λ e. c.requires (sym (length-map c.args.sets.now tree_of_evaluated) ∙ e) in
    tuples_refused c.args.place.now ts ys lists c.in_ok-sets.ensures several rise (long lists c.in_ok-sets.ensures) c.in-Err.error c.refused.result c.refused.ensures made
