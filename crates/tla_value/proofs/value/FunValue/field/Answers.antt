use Rattle.std.proofs.Common.{length, map, ap, sym, ◌∙◌}
use Rattle.std.specs.Prelude.{slice_get}
use Rattle.tla_value.specs.Tree.{text}
use Rattle.tla_value.specs.TreeOf.{tree_of}
use Rattle.tla_value.specs.Sets.{is_member}
use Rattle.tla_value.specs.Arguments.{argument_values}
use Rattle.tla_value.specs.declared.value.Value.TheVariants.{Text}
use Rattle.tla_value.proofs.Pairs.{trees_numbers}
use Rattle.tla_value.proofs.Ranges.{member-other}
use Rattle.tla_value.proofs.Places.{value_absent, value_within, value_read}
use Rattle.tla_value.proofs.value.FunValue.field.Goals as goal

-- numbers are no strings
pub returns-in_default : goal.returns-in_default
returns-in_default c =
    let ps = c.args.self.now in
    let name = c.args.name.now in
    let n = length ps in
    let z = c.in_default.field-0 in
    let numbers = sym c.arguments.ensures.arguments ∙ ap (λ a. map tree_of (argument_values n a)) c.in_default.is ∙ trees_numbers n z in
    sym (value_absent ps (text name) (ap (is_member (text name)) numbers ∙ member-other n z (Text name) (λ k e. cc)))

pub returns-in_default-text_place : goal.returns-in_default-text_place
returns-in_default-text_place c =
    let ps = c.args.self.now in
    let name = c.args.name.now in
    sym (value_absent ps (text name) (ap (is_member (text name)) (sym c.in-Listed.ensures.arguments) ∙ c.in_default-text_place.ensures.none))

pub bounds-values-index : goal.bounds-values-index
bounds-values-index c =
    let there = ap (λ ts. slice_get ts c.in-Some.index) (sym c.in-Listed.ensures.arguments) ∙ c.in-Some.ensures.some in
    value_within c.args.self.now (text c.args.name.now) c.in-Some.index c.values.result.now c.values.ensures.values there

pub returns : goal.returns
returns c =
    let there = ap (λ ts. slice_get ts c.in-Some.index) (sym c.in-Listed.ensures.arguments) ∙ c.in-Some.ensures.some in
    value_read c.args.self.now (text c.args.name.now) c.in-Some.index c.values.result.now _ c.values.ensures.rising c.values.ensures.values there c.index-values-index.is
