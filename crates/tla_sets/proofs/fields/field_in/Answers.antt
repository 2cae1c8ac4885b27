use Rattle.std.proofs.Common.{◌≡◌, ◌<◌, ap, sym, ◌∙◌, length, arith, Some}
use Rattle.std.proofs.lemmas.List.{length-map}
use Rattle.std.specs.Prelude.{slice_get}
use Rattle.tla_value.specs.Tree.{Tree, text}
use Rattle.tla_value.specs.TreeOf.{tree_of}
use Rattle.tla_value.specs.Sets.{is_member}
use Rattle.tla_value.specs.Funs.{arguments}
use Rattle.tla_value.proofs.Pairs.{trees_numbers}
use Rattle.tla_value.proofs.Ranges.{member-other}
use Rattle.tla_value.specs.declared.value.Value.TheVariants.{Text}
use Rattle.tla_value.proofs.Places.{value_there, value_absent, slice-within}
use Rattle.tla_operators.proofs.Arguments.{found_here}
use Rattle.tla_sets.proofs.fields.field_in.Goals as goal

pub returns-in-Numbers : goal.returns-in-Numbers
returns-in-Numbers c =
    let ps = c.args.function.now in
    let are = sym (trees_numbers (length ps) c.in-Numbers.field-0) ∙ c.in-Numbers.ensures.arguments in
    sym (value_absent ps (text c.args.name.now) (ap (is_member (text c.args.name.now)) (sym are) ∙ member-other (length ps) c.in-Numbers.field-0 (Text c.args.name.now) (λ z e. cc)))

pub returns-in-None : goal.returns-in-None
returns-in-None c = sym (value_absent c.args.function.now (text c.args.name.now) (ap (is_member (text c.args.name.now)) (sym c.in-Listed.ensures.arguments) ∙ c.in-None.ensures.none))

pub returns-in-Some : goal.returns-in-Some
returns-in-Some c =
    let ps = c.args.function.now in
    let vs = c.values-values.result.now in
    let i = c.in-Some.place in
    let at : slice_get (arguments ps) i ≡ Some (text c.args.name.now) = rw (← c.in-Listed.ensures.arguments) c.in-Some.ensures.some in
    let within = slice-within (arguments ps) i (text c.args.name.now) at in
    let long : i < length vs = omega (arith, within, length-map ps (λ (p : Tree × Tree). p.0), length-map ps (λ (p : Tree × Tree). p.1), ap length c.values-values.ensures.values, length-map vs tree_of) in
    sym (value_there ps (text c.args.name.now) i c.values-values.ensures.rising at ∙ ap (λ us. slice_get us i) (sym c.values-values.ensures.values) ∙ found_here vs i c.index-values-place.result long c.index-values-place.is)
