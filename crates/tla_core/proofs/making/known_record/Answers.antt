use Rattle.std.proofs.Common.{◌≡◌, Ok, map}
use Rattle.std.specs.List.{AllByRecursion}
use Rattle.tla_value.specs.TreeOf.{tree_of, pair_of}
use Rattle.tla_value.specs.declared.value.Value.{Value}
use Rattle.tla_value.specs.Funs.{fun_of}
use Rattle.tla_core.specs.declared.fault.Place.{Place}
use Rattle.tla_core.specs.Always.{IsAlways}
use Rattle.tla_core.specs.ExprOf.{fields_of_cores}
use Rattle.tla_core.specs.Kinds.{rising_fun}
use Rattle.tla_core.specs.Meaning.{means-record_of}
use Rattle.tla_core.specs.Private.Known.{IsKnownField}
use Rattle.tla_core.proofs.KnownParts.{fields_known, record_known, in_any, if_kept}
use Rattle.tla_core.proofs.making.known_record.Goals as goal

pub returns-in-Some-clause-known : goal.returns-in-Some-clause-known
returns-in-Some-clause-known c =
    let each = rw c.in-Some.is at c.in_ok-pairs.ensures in
    in_any (AllByRecursion IsKnownField c.args.fields.now) c.fun_within.result (fields_known c.args.fields.now c.in-Some.pairs.items each)

pub returns-in-Some-clause-value : goal.returns-in-Some-clause-value
returns-in-Some-clause-value c =
    let values = c.in-Some.pairs.items in
    let made = fun_of (map pair_of values) in
    let each = rw c.in-Some.is at c.in_ok-pairs.ensures in
    if_kept (λ (v : Value). (p : Place) → rising_fun p made ≡ Ok (tree_of v)) (λ (v : Value). (p : Place) → IsAlways (means-record_of p (fields_of_cores c.args.fields.now)) (tree_of v)) c.fun_within.result
    (λ v k p. record_known p c.args.fields.now values (tree_of v) each (k p)) (c.fun_within.ensures made c.from_pairs.ensures)
