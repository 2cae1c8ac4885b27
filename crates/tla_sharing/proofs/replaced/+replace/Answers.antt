use Rattle.std.proofs.Common.{◌+◌, ℕ, List, refl, sym, subst, take, Vec, Bor, Global}
use Rattle.std.specs.List.{AllZip}
use Rattle.tla_code.specs.declared.code.Code.{Code}
use Rattle.tla_code.proofs.Listed.{zip_more}
use Rattle.tla_sharing.specs.Private.Copies.{Longer, Replaces, FieldReplaces, UpdateReplaces}
use Rattle.tla_sharing.proofs.Lengthened.{Stays, FieldStays, UpdateStays, weaker, list_stays, fields_node_stays, map_stays, except_stays}
use Rattle.tla_sharing.proofs.replaced.+replace.Goals as goal

-- ---- lists, part by part
pub each_replaced-loop-code-preserved : goal.each_replaced-loop-code-preserved
each_replaced-loop-code-preserved t c =
    subst (λ (us : List Code). AllZip (Replaces c.args.target) (take (c.loop-code.code-index + 1) c.args.codes.now) us) (sym {A = List Code} c.in_ok-push.ensures.items)
    (zip_more (Replaces c.args.target) c.args.codes.now c.loop-code.made.items c.loop-code.code-index c.code-item.result c.in_ok-replaced.field-0 c.loop-code-test.true c.code-item.is c.loop-code.invariant c.in_ok-replaced.ensures)

pub fields_replaced-loop-field-preserved : goal.fields_replaced-loop-field-preserved
fields_replaced-loop-field-preserved t c =
    subst (λ (us : List (Bor (List ℕ) × Code)). AllZip (FieldReplaces c.args.target) (take (c.loop-field.field-index + 1) c.args.fields.now) us) (sym {A = List (Bor (List ℕ) × Code)} c.in_ok-push.ensures.items)
    (zip_more (FieldReplaces c.args.target) c.args.fields.now c.loop-field.made.items c.loop-field.field-index c.field-item.result (c.field-item.result.0, c.in_ok-code.code) c.loop-field-test.true c.field-item.is c.loop-field.invariant (refl, c.in_ok-code.ensures))

pub updates_replaced-loop-update-preserved : goal.updates_replaced-loop-update-preserved
updates_replaced-loop-update-preserved t c =
    subst (λ (us : List (Vec Code Global × Code)). AllZip (UpdateReplaces c.args.target) (take (c.loop-update.update-index + 1) c.args.updates.now) us) (sym {A = List (Vec Code Global × Code)} c.in_ok-push.ensures.items)
    (zip_more (UpdateReplaces c.args.target) c.args.updates.now c.loop-update.made.items c.loop-update.update-index c.update-item.result (c.in_ok-keys.keys, c.in_ok-value.value) c.loop-update-test.true c.update-item.is c.loop-update.invariant (subst (λ (cs : List Code). AllZip (Replaces c.args.target) cs c.in_ok-keys.keys.items) c.as_slice.ensures.value c.in_ok-keys.ensures, c.in_ok-value.ensures))

-- ---- nodes with lists
pub replaced_in_lists-returns-in_ok-parts-in-List : goal.replaced_in_lists-returns-in_ok-parts-in-List
replaced_in_lists-returns-in_ok-parts-in-List t c = λ scope names.
    let m = c.in-List in
    let k = c.args.target in
    let after = Longer scope k.names k.definition.now in
    list_stays scope after m.place m.form m.parts c.in_ok-parts-in-List.parts m.is (weaker (Replaces k) (Stays scope after) (λ x y r. r scope names) m.parts.items c.in_ok-parts-in-List.parts.items (rw c.deref.ensures.value at c.in_ok-parts-in-List.ensures))

pub replaced_in_lists-returns-in_ok-fields-in-Fields : goal.replaced_in_lists-returns-in_ok-fields-in-Fields
replaced_in_lists-returns-in_ok-fields-in-Fields t c = λ scope names.
    let m = c.in-Fields in
    let k = c.args.target in
    let after = Longer scope k.names k.definition.now in
    fields_node_stays scope after m.place m.form m.fields c.in_ok-fields-in-Fields.fields m.is (weaker (FieldReplaces k) (FieldStays scope after) (λ x y r. (r.0, r.1 scope names)) m.fields.items c.in_ok-fields-in-Fields.fields.items (rw c.deref-in-Fields.ensures.value at c.in_ok-fields-in-Fields.ensures))

pub replaced_in_lists-returns-in_ok-body-in-Map : goal.replaced_in_lists-returns-in_ok-body-in-Map
replaced_in_lists-returns-in_ok-body-in-Map t c = λ scope names.
    let m = c.in-Map in
    let k = c.args.target in
    let after = Longer scope k.names k.definition.now in
    map_stays scope after m.place m.form m.sets c.in_ok-parts-in-Map.parts m.body c.in_ok-body-in-Map.body m.is (weaker (Replaces k) (Stays scope after) (λ x y r. r scope names) m.sets.items c.in_ok-parts-in-Map.parts.items (rw c.deref-in-Map.ensures.value at c.in_ok-parts-in-Map.ensures)) (rw c.deref-in-Map-2.ensures at (c.in_ok-body-in-Map.ensures scope names))

pub replaced_in_lists-returns-in_ok-updates-in-Except : goal.replaced_in_lists-returns-in_ok-updates-in-Except
replaced_in_lists-returns-in_ok-updates-in-Except t c = λ scope names.
    let m = c.in-Except in
    let k = c.args.target in
    let after = Longer scope k.names k.definition.now in
    except_stays scope after m.place m.base c.in_ok-base-in-Except.base m.updates c.in_ok-updates-in-Except.updates m.is (rw c.deref-in-Except.ensures at (c.in_ok-base-in-Except.ensures scope names)) (weaker (UpdateReplaces k) (UpdateStays scope after) (λ x y r. (weaker (Replaces k) (Stays scope after) (λ a b h. h scope names) x.0.items y.0.items r.0, r.1 scope names)) m.updates.items c.in_ok-updates-in-Except.updates.items (rw c.deref-in-Except-2.ensures.value at c.in_ok-updates-in-Except.ensures))
