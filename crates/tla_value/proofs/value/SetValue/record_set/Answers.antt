use Rattle.std.proofs.Common.{map, sym, ap, ◌∙◌, arith}
use Rattle.std.proofs.lemmas.List.{length-map}
use Rattle.tla_value.specs.TreeOf.{tree_of}
use Rattle.tla_value.specs.Private.Inner.{field_of}
use Rattle.tla_value.proofs.Fields.{as_sets}
use Rattle.tla_value.proofs.Records.{as-many-names, rising-names, makes_records}
use Rattle.tla_value.proofs.FieldLists.{shallow-names, names-fields, sets-fields}
use Rattle.tla_value.proofs.value.SetValue.record_set.Goals as goal

pub set_of_records-requires-clause-sets : goal.set_of_records-requires-clause-sets
set_of_records-requires-clause-sets c =
    let names = ap (map tree_of) c.as_slice-2.ensures.value ∙ c.in_ok-names.ensures.ok ∙ sym (names-fields (λ s. s.now) c.in_ok-fields.fields.items) in
    let sets = sets-fields (λ s. s.now) c.in_ok-fields.fields.items ∙ ap as_sets (sym (ap (map (λ s. s.now)) c.as_slice-3.ensures.value ∙ c.in_ok-sets.ensures.ok ∙ ap (map (λ f. f.1.now)) c.as_slice.ensures.value)) in
    omega (arith, as-many-names (map (field_of (λ s. s.now)) c.in_ok-fields.fields.items) _ _ names sets, length-map c.as_slice-2.result.now tree_of, length-map c.as_slice-3.result.now (λ s. s.now))

pub set_of_records-requires-clause-rising : goal.set_of_records-requires-clause-rising
set_of_records-requires-clause-rising c =
    let names = ap (map tree_of) c.as_slice-2.ensures.value ∙ c.in_ok-names.ensures.ok ∙ sym (names-fields (λ s. s.now) c.in_ok-fields.fields.items) in
    rising-names c.args.fields.now (map (field_of (λ s. s.now)) c.in_ok-fields.fields.items) _ c.in_ok-fields.ensures.ok names

pub set_of_records-requires-clause-shallow : goal.set_of_records-requires-clause-shallow
set_of_records-requires-clause-shallow c =
    let names = ap (map tree_of) c.as_slice-2.ensures.value ∙ c.in_ok-names.ensures.ok ∙ sym (names-fields (λ s. s.now) c.in_ok-fields.fields.items) in
    shallow-names c.args.fields.now (map (field_of (λ s. s.now)) c.in_ok-fields.fields.items) _ c.in_ok-fields.ensures.ok names

pub returns : goal.returns
returns c =
    let names = ap (map tree_of) c.as_slice-2.ensures.value ∙ c.in_ok-names.ensures.ok ∙ sym (names-fields (λ s. s.now) c.in_ok-fields.fields.items) in
    let sets = sets-fields (λ s. s.now) c.in_ok-fields.fields.items ∙ ap as_sets (sym (ap (map (λ s. s.now)) c.as_slice-3.ensures.value ∙ c.in_ok-sets.ensures.ok ∙ ap (map (λ f. f.1.now)) c.as_slice.ensures.value)) in
    makes_records c.args.fields.now (map (field_of (λ s. s.now)) c.in_ok-fields.fields.items) _ _ _ c.requires c.in_ok-fields.ensures.ok names sets c.set_of_records.ensures.rising c.set_of_records.ensures.made
