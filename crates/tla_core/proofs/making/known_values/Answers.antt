use Rattle.std.proofs.Common.{◌+◌, List, sym, subst, take}
use Rattle.std.specs.List.{AllZip}
use Rattle.tla_value.specs.declared.value.Value.{Value}
use Rattle.tla_core.specs.Private.Known.{HasValue}
use Rattle.tla_core.proofs.KnownParts.{zip_more}
use Rattle.tla_core.proofs.making.known_values.Goals as goal

pub loop-part-preserved : goal.loop-part-preserved
loop-part-preserved c =
    let has : HasValue c.part-item.result c.in_ok-copied.field-0 = subst (λ (v : Value). HasValue c.part-item.result v) (sym {A = Value} c.in_ok-copied.ensures) c.in-Some.ensures in
    subst (λ (us : List Value). AllZip HasValue (take (c.loop-part.part-index + 1) c.args.parts.now) us) (sym {A = List Value} c.in_ok-push.ensures.items)
    (zip_more HasValue c.args.parts.now c.loop-part.values.items c.loop-part.part-index c.part-item.result c.in_ok-copied.field-0 c.loop-part-test.true c.part-item.is c.loop-part.invariant has)
