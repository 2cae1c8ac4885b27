use Rattle.std.proofs.Common.{◌≡◌, Ok, map}
use Rattle.std.specs.List.{AllByRecursion}
use Rattle.tla_value.specs.TreeOf.{tree_of}
use Rattle.tla_value.specs.declared.value.Value.{Value}
use Rattle.tla_value.specs.Choices.{numbered}
use Rattle.tla_core.specs.declared.fault.Place.{Place}
use Rattle.tla_core.specs.Always.{IsAlways}
use Rattle.tla_core.specs.ExprOf.{parts_of_cores}
use Rattle.tla_core.specs.Kinds.{rising_fun}
use Rattle.tla_core.specs.Meaning.{means-tuple}
use Rattle.tla_core.specs.Private.Known.{IsKnown}
use Rattle.tla_core.proofs.KnownParts.{parts_known, tuple_known, in_any, if_kept}
use Rattle.tla_core.proofs.making.known_tuple.Goals as goal

pub returns-in-Some-clause-known : goal.returns-in-Some-clause-known
returns-in-Some-clause-known c =
    let each = rw c.in-Some.is at c.in_ok-values.ensures in
    in_any (AllByRecursion IsKnown c.args.parts.now) c.fun_within.result (parts_known c.args.parts.now c.in-Some.values.items each)

pub returns-in-Some-clause-value : goal.returns-in-Some-clause-value
returns-in-Some-clause-value c =
    let values = c.in-Some.values.items in
    let made = numbered 1 (map tree_of values) in
    let each = rw c.in-Some.is at c.in_ok-values.ensures in
    if_kept (λ (v : Value). (p : Place) → rising_fun p made ≡ Ok (tree_of v)) (λ (v : Value). (p : Place) → IsAlways (means-tuple p (parts_of_cores c.args.parts.now)) (tree_of v)) c.fun_within.result
    (λ v k p. tuple_known p c.args.parts.now values (tree_of v) each (k p)) (c.fun_within.ensures made c.sequence.ensures)
