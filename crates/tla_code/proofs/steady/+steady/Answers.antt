use Rattle.std.proofs.Common.{List, subst}
use Rattle.std.specs.List.{All}
use Rattle.tla_code.specs.declared.code.Code.{Code}
use Rattle.tla_code.specs.NoVariables.{IsClosed, FieldIsClosed, UpdateIsClosed}
use Rattle.tla_code.proofs.Closed.{one_more_holds, each_holds, list_closed, fields_closed, map_closed, except_closed}
use Rattle.tla_code.proofs.steady.+steady.Goals as goal

-- ---- lists, part by part
pub are_steady-loop-code-preserved : goal.are_steady-loop-code-preserved
are_steady-loop-code-preserved t c = one_more_holds IsClosed c.args.codes.now c.loop-code.code-index c.code-item.result c.loop-code-test.true c.code-item.is c.loop-code.invariant (c.is_steady.ensures c.if-not-is_steady.false)

pub are_steady-returns : goal.are_steady-returns
are_steady-returns t c = λ h. each_holds IsClosed c.args.codes.now c.loop-code.code-index c.loop-code-test.false c.loop-code.invariant

pub are_steady_updates-loop-update-preserved : goal.are_steady_updates-loop-update-preserved
are_steady_updates-loop-update-preserved t c =
    let keys = subst (λ (cs : List Code). All IsClosed cs) c.as_slice.ensures.value (c.are_steady.ensures c.if-not-are_steady.false) in
    one_more_holds UpdateIsClosed c.args.updates.now c.loop-update.update-index c.update-item.result c.loop-update-test.true c.update-item.is c.loop-update.invariant (keys, c.is_steady.ensures c.if-not-is_steady.false)

pub are_steady_updates-returns : goal.are_steady_updates-returns
are_steady_updates-returns t c = λ h. each_holds UpdateIsClosed c.args.updates.now c.loop-update.update-index c.loop-update-test.false c.loop-update.invariant

-- ---- nodes with lists
pub has_steady_parts-returns-in-List : goal.has_steady_parts-returns-in-List
has_steady_parts-returns-in-List t c = λ h.
    let m = c.in-List in
    list_closed c.args.code.now m.field-0 m.field-1 m.parts m.is (subst (λ (cs : List Code). All IsClosed cs) c.deref.ensures.value (c.are_steady.ensures h))

pub has_steady_parts-returns-in-Fields : goal.has_steady_parts-returns-in-Fields
has_steady_parts-returns-in-Fields t c = λ h.
    let m = c.in-Fields in
    fields_closed c.args.code.now m.field-0 m.field-1 m.fields m.is (rw c.deref-in-Fields.ensures.value at (c.are_steady_fields.ensures h))

pub has_steady_parts-returns-then-are_steady : goal.has_steady_parts-returns-then-are_steady
has_steady_parts-returns-then-are_steady t c = λ h.
    let m = c.in-Map in
    map_closed c.args.code.now m.field-0 m.field-1 m.sets m.body m.is (subst (λ (cs : List Code). All IsClosed cs) c.deref-in-Map.ensures.value (c.are_steady-in-Map.ensures c.if-are_steady.true)) (subst IsClosed c.deref-then-are_steady.ensures (c.is_steady.ensures h))

pub has_steady_parts-returns-then-is_steady : goal.has_steady_parts-returns-then-is_steady
has_steady_parts-returns-then-is_steady t c = λ h.
    let m = c.in-Except in
    except_closed c.args.code.now m.field-0 m.base m.updates m.is (subst IsClosed c.deref-in-Except.ensures (c.is_steady-in-Except.ensures c.if-is_steady.true)) (rw c.deref-then-is_steady.ensures.value at (c.are_steady_updates.ensures h))
