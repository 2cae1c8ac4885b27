use Rattle.std.proofs.Common.{◌+◌, ℕ, List, [], ◌∷◌, ◌++◌, refl, ap, sym, ◌∙◌, subst, take, Vec, Bor, Global}
use Rattle.std.specs.List.{AllZip}
use Rattle.tla_core.specs.Expr.{Expr}
use Rattle.tla_code.specs.CodeExpr.{expr_in}
use Rattle.tla_code.specs.declared.code.Code.{Code}
use Rattle.tla_code.proofs.Listed.{zip_more}
use Rattle.tla_sharing.specs.Private.Copies.{Agrees, FieldAgrees, UpdateAgrees}
use Rattle.tla_sharing.proofs.Lengthened.{Stays, FieldStays, UpdateStays, weaker, list_stays, fields_node_stays, map_stays, except_stays, names_longer}
use Rattle.tla_sharing.proofs.definitions.+share.Goals as goal

-- one more definition: the body denotes inside it what it denoted outside
pub defined-returns : goal.defined-returns
defined-returns t c = λ scope names.
    let next = c.in_ok-next.next in
    let known = names ∙ sym c.in_ok-next.ensures.0 in
    c.in_ok-inner.ensures (scope ++ (next.names, expr_in scope c.in_ok-definition.definition.value) ∷ []) (names_longer scope next.outside.now next.names (expr_in scope c.in_ok-definition.definition.value) known)
    ∙ ap (λ (e : Expr). expr_in (scope ++ (next.names, e) ∷ []) c.in_ok-body.body) (c.in_ok-definition.ensures scope known)
    ∙ c.in_ok-body.ensures scope known

-- ---- lists, part by part
pub each_shared-loop-code-preserved : goal.each_shared-loop-code-preserved
each_shared-loop-code-preserved t c =
    let R = Agrees c.args.spot.outside.now in
    subst (λ (us : List Code). AllZip R (take (c.loop-code.code-index + 1) c.args.codes.now) us) (sym {A = List Code} c.in_ok-push.ensures.items)
    (zip_more R c.args.codes.now c.loop-code.made.items c.loop-code.code-index c.code-item.result c.in_ok-shared_parts.field-0 c.loop-code-test.true c.code-item.is c.loop-code.invariant (subst (λ (o : List ℕ). Agrees o c.code-item.result c.in_ok-shared_parts.field-0) c.in_ok-next.ensures.0 c.in_ok-shared_parts.ensures))

pub fields_shared-loop-field-preserved : goal.fields_shared-loop-field-preserved
fields_shared-loop-field-preserved t c =
    let R = FieldAgrees c.args.spot.outside.now in
    subst (λ (us : List (Bor (List ℕ) × Code)). AllZip R (take (c.loop-field.field-index + 1) c.args.fields.now) us) (sym {A = List (Bor (List ℕ) × Code)} c.in_ok-push.ensures.items)
    (zip_more R c.args.fields.now c.loop-field.made.items c.loop-field.field-index c.field-item.result (c.field-item.result.0, c.in_ok-code.code) c.loop-field-test.true c.field-item.is c.loop-field.invariant (refl, subst (λ (o : List ℕ). Agrees o c.field-item.result.1 c.in_ok-code.code) c.in_ok-next.ensures.0 c.in_ok-code.ensures))

pub updates_shared-loop-update-preserved : goal.updates_shared-loop-update-preserved
updates_shared-loop-update-preserved t c =
    let R = UpdateAgrees c.args.spot.outside.now in
    let keys : AllZip (Agrees c.args.spot.outside.now) c.update-item.result.0.items c.in_ok-keys.keys.items = subst (λ (o : List ℕ). AllZip (Agrees o) c.update-item.result.0.items c.in_ok-keys.keys.items) c.in_ok-next.ensures.0 (subst (λ (cs : List Code). AllZip (Agrees c.in_ok-next.next.outside.now) cs c.in_ok-keys.keys.items) c.as_slice.ensures.value c.in_ok-keys.ensures) in
    let value : Agrees c.args.spot.outside.now c.update-item.result.1 c.in_ok-value.value = subst (λ (o : List ℕ). Agrees o c.update-item.result.1 c.in_ok-value.value) c.in_ok-inner.ensures.0 c.in_ok-value.ensures in
    subst (λ (us : List (Vec Code Global × Code)). AllZip R (take (c.loop-update.update-index + 1) c.args.updates.now) us) (sym {A = List (Vec Code Global × Code)} c.in_ok-push.ensures.items)
    (zip_more R c.args.updates.now c.loop-update.made.items c.loop-update.update-index c.update-item.result (c.in_ok-keys.keys, c.in_ok-value.value) c.loop-update-test.true c.update-item.is c.loop-update.invariant (keys, value))

-- ---- nodes with lists
pub shared_lists-returns-in_ok-parts-in-List : goal.shared_lists-returns-in_ok-parts-in-List
shared_lists-returns-in_ok-parts-in-List t c = λ scope names.
    let m = c.in-List in
    let o = c.in_ok-next.next.outside.now in
    let known = names ∙ sym c.in_ok-next.ensures.0 in
    list_stays scope scope m.place m.form m.parts c.in_ok-parts-in-List.parts m.is (weaker (Agrees o) (Stays scope scope) (λ x y r. r scope known) m.parts.items c.in_ok-parts-in-List.parts.items (rw c.deref.ensures.value at c.in_ok-parts-in-List.ensures))

pub shared_lists-returns-in_ok-fields-in-Fields : goal.shared_lists-returns-in_ok-fields-in-Fields
shared_lists-returns-in_ok-fields-in-Fields t c = λ scope names.
    let m = c.in-Fields in
    let o = c.in_ok-next.next.outside.now in
    let known = names ∙ sym c.in_ok-next.ensures.0 in
    fields_node_stays scope scope m.place m.form m.fields c.in_ok-fields-in-Fields.fields m.is (weaker (FieldAgrees o) (FieldStays scope scope) (λ x y r. (r.0, r.1 scope known)) m.fields.items c.in_ok-fields-in-Fields.fields.items (rw c.deref-in-Fields.ensures.value at c.in_ok-fields-in-Fields.ensures))

pub shared_lists-returns-in_ok-sets-in-Map : goal.shared_lists-returns-in_ok-sets-in-Map
shared_lists-returns-in_ok-sets-in-Map t c = λ scope names.
    let m = c.in-Map in
    let o = c.in_ok-next.next.outside.now in
    let known = names ∙ sym c.in_ok-next.ensures.0 in
    map_stays scope scope m.place m.form m.sets c.in_ok-sets-in-Map.sets m.body c.in_ok-body-in-Map.body m.is (weaker (Agrees o) (Stays scope scope) (λ x y r. r scope known) m.sets.items c.in_ok-sets-in-Map.sets.items (rw c.deref-in-Map-2.ensures.value at c.in_ok-sets-in-Map.ensures)) (rw c.deref-in-Map.ensures at (c.in_ok-body-in-Map.ensures scope known))

pub shared_lists-returns-in_ok-updates-in-Except : goal.shared_lists-returns-in_ok-updates-in-Except
shared_lists-returns-in_ok-updates-in-Except t c = λ scope names.
    let m = c.in-Except in
    let o = c.in_ok-next.next.outside.now in
    let known = names ∙ sym c.in_ok-next.ensures.0 in
    except_stays scope scope m.place m.base c.in_ok-base-in-Except.base m.updates c.in_ok-updates-in-Except.updates m.is (rw c.deref-in-Except.ensures at (c.in_ok-base-in-Except.ensures scope known)) (weaker (UpdateAgrees o) (UpdateStays scope scope) (λ x y r. (weaker (Agrees o) (Stays scope scope) (λ a b h. h scope known) x.0.items y.0.items r.0, r.1 scope known)) m.updates.items c.in_ok-updates-in-Except.updates.items (rw c.deref-in-Except-2.ensures.value at c.in_ok-updates-in-Except.ensures))
