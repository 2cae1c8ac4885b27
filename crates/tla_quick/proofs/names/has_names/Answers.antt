use Rattle.std.proofs.Common.{◌&&◌, length, ap, sym, ◌∙◌}
use Rattle.std.specs.List.{list_all}
use Rattle.tla_value.specs.Funs.{arguments}
use Rattle.tla_value.specs.Sets.{is_member}
use Rattle.tla_quick.specs.Private.Names.{names_in}
use Rattle.tla_value.specs.Arguments.{FitArguments}
use Rattle.tla_value.specs.declared.value.Arguments.TheVariants.{Numbers}
use Rattle.tla_value.proofs.Pairs.{trees_numbers}
use Rattle.tla_sets.proofs.Names.{same_domain}
use Rattle.tla_quick.proofs.FieldNames.{no_numbers}
use Rattle.tla_quick.proofs.names.has_names.Goals as goal

pub returns-in-Numbers : goal.returns-in-Numbers
returns-in-Numbers c =
    let ks = names_in c.args.fields.now in
    let us = arguments c.args.function.now in
    let n = length c.args.function.now in
    let z = c.in-Numbers.field-0 in
    let fit : FitArguments n (Numbers z) = rw c.in-Numbers.is at c.arguments.ensures.fit in
    let are = sym (trees_numbers n z) ∙ c.in-Numbers.ensures.arguments in
    sym (ap (λ b. b && list_all (λ k. is_member k us) ks) (ap (list_all (λ a. is_member a ks)) (sym are) ∙ no_numbers n z c.args.fields.now fit.0))
    ∙ same_domain us ks c.arguments.ensures.rising

pub returns-then-are_fields : goal.returns-then-are_fields
returns-then-are_fields c =
    let ks = names_in c.args.fields.now in
    let us = arguments c.args.function.now in
    let among = ap (list_all (λ a. is_member a ks)) (sym c.in-Listed.ensures.arguments) ∙ sym c.are_fields.ensures ∙ c.if-are_fields.true in
    c.has_fields.ensures ∙ sym (ap (λ b. b && list_all (λ k. is_member k us) ks) among) ∙ same_domain us ks c.arguments.ensures.rising

pub returns-else-are_fields : goal.returns-else-are_fields
returns-else-are_fields c =
    let ks = names_in c.args.fields.now in
    let us = arguments c.args.function.now in
    let among = ap (list_all (λ a. is_member a ks)) (sym c.in-Listed.ensures.arguments) ∙ sym c.are_fields.ensures ∙ c.if-are_fields.false in
    c.if-are_fields.false ∙ sym (ap (λ b. b && list_all (λ k. is_member k us) ks) among) ∙ same_domain us ks c.arguments.ensures.rising
