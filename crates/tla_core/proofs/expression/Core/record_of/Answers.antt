use Rattle.std.proofs.Common.{◌∙◌, subst}
use Rattle.std.specs.List.{AllByRecursion}
use Rattle.tla_value.specs.TreeOf.{tree_of}
use Rattle.tla_core.specs.Always.{IsAlways}
use Rattle.tla_core.specs.ExprOf.{fields_of_cores}
use Rattle.tla_core.specs.Meaning.{means-record_of}
use Rattle.tla_core.specs.Private.Known.{IsKnownField}
use Rattle.tla_core.proofs.FixedTrees.{same_record}
use Rattle.tla_core.proofs.KnownParts.{record_kept}
use Rattle.tla_core.proofs.expression.Core.record_of.Goals as goal

pub fixed_fields-requires : goal.fixed_fields-requires
fixed_fields-requires c = subst (λ us. AllByRecursion IsKnownField us) c.as_slice.ensures.value (rw c.in-Some.is at c.in_ok-value.ensures.known)

pub new-requires : goal.new-requires
new-requires c =
    let trees = c.in_ok-fixed_fields-in-Some in
    let known = rw c.in-Some.is at c.in_ok-value.ensures.value in
    record_kept c.args.place c.args.fields trees.field-0 (tree_of c.in-Some.value) trees.ensures
    (subst (λ us. IsAlways (means-record_of c.args.place (fields_of_cores us)) (tree_of c.in-Some.value)) c.as_slice.ensures.value (known c.args.place))

pub returns-in_ok-new-in-Some : goal.returns-in_ok-new-in-Some
returns-in_ok-new-in-Some c =
    let trees = c.in_ok-fixed_fields-in-Some in
    c.in_ok-new-in-Some.ensures ∙ same_record c.args.place c.args.fields trees.field-0 trees.ensures
