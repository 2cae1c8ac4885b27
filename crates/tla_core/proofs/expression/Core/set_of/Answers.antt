use Rattle.std.proofs.Common.{◌∙◌, subst}
use Rattle.std.specs.List.{AllByRecursion}
use Rattle.tla_value.specs.TreeOf.{tree_of}
use Rattle.tla_core.specs.Always.{IsAlways}
use Rattle.tla_core.specs.ExprOf.{parts_of_cores}
use Rattle.tla_core.specs.Meaning.{means-enumerated}
use Rattle.tla_core.specs.Private.Known.{IsKnown}
use Rattle.tla_core.proofs.FixedTrees.{same_enumerated}
use Rattle.tla_core.proofs.KnownParts.{enumerated_kept}
use Rattle.tla_core.proofs.expression.Core.set_of.Goals as goal

pub fixed_parts-requires : goal.fixed_parts-requires
fixed_parts-requires c = subst (λ us. AllByRecursion IsKnown us) c.as_slice.ensures.value (rw c.in-Some.is at c.in_ok-value.ensures.known)

pub new-requires : goal.new-requires
new-requires c =
    let trees = c.in_ok-fixed_parts-in-Some in
    let known = rw c.in-Some.is at c.in_ok-value.ensures.value in
    enumerated_kept c.args.place c.args.parts trees.field-0 (tree_of c.in-Some.value) trees.ensures
    (subst (λ us. IsAlways (means-enumerated c.args.place (parts_of_cores us)) (tree_of c.in-Some.value)) c.as_slice.ensures.value (known c.args.place))

pub returns-in_ok-new-in-Some : goal.returns-in_ok-new-in-Some
returns-in_ok-new-in-Some c =
    let trees = c.in_ok-fixed_parts-in-Some in
    c.in_ok-new-in-Some.ensures ∙ same_enumerated c.args.place c.args.parts trees.field-0 trees.ensures
