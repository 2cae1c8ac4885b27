use Rattle.std.proofs.Common.{not, ap, sym, ◌∙◌}
use Rattle.tla_value.specs.Tree.{text}
use Rattle.tla_value.specs.TreeOf.{tree_of}
use Rattle.tla_value.specs.Funs.{arguments}
use Rattle.tla_value.specs.Sets.{is_member}
use Rattle.tla_sets.proofs.Names.{argument_there, argument_missing}
use Rattle.tla_quick.proofs.FieldNames.{names_step, names_stop}
use Rattle.tla_quick.proofs.names.has_fields.Goals as goal

pub returns-then-is_none : goal.returns-then-is_none
returns-then-is_none c =
    let ps = c.args.function.now in
    sym (c.loop-field.invariant
    ∙ names_stop (λ k. is_member k (arguments ps)) c.args.fields.now c.loop-field.field-index c.field-item.result c.field-item.is c.loop-field-test.true
    (argument_missing (λ v. tree_of v.now) c.field_in.result (text c.field-item.result.0.now) ps c.field_in.ensures (c.is_none.ensures ∙ ap not c.if-is_none.true)))

pub loop-field-preserved : goal.loop-field-preserved
loop-field-preserved c =
    let ps = c.args.function.now in
    c.loop-field.invariant
    ∙ names_step (λ k. is_member k (arguments ps)) c.args.fields.now c.loop-field.field-index c.field-item.result c.field-item.is c.loop-field-test.true
    (argument_there (λ v. tree_of v.now) c.field_in.result (text c.field-item.result.0.now) ps c.field_in.ensures (c.is_none.ensures ∙ ap not c.if-is_none.false))
