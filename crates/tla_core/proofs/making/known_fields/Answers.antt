use Rattle.std.proofs.Common.{◌+◌, List, sym, subst, take}
use Rattle.std.specs.List.{AllZip}
use Rattle.tla_value.specs.declared.value.Value.{Value}
use Rattle.tla_core.specs.Private.Known.{HasValue, HasField}
use Rattle.tla_core.proofs.KnownParts.{zip_more}
use Rattle.tla_core.proofs.making.known_fields.Goals as goal

pub loop-field-preserved : goal.loop-field-preserved
loop-field-preserved c =
    let f = c.field-item.result in
    let has : HasValue f.1 c.in_ok-copied.field-0 = subst (λ (v : Value). HasValue f.1 v) (sym {A = Value} c.in_ok-copied.ensures) c.in-Some.ensures in
    subst (λ (ps : List (Value × Value)). AllZip HasField (take (c.loop-field.field-index + 1) c.args.fields.now) ps) (sym {A = List (Value × Value)} c.in_ok-push.ensures.items)
    (zip_more HasField c.args.fields.now c.loop-field.pairs.items c.loop-field.field-index f (c.in_ok-name.name, c.in_ok-copied.field-0) c.loop-field-test.true c.field-item.is c.loop-field.invariant (c.in_ok-name.ensures, has))
