use Rattle.std.proofs.Common.{map, ap, sym, subst, ◌∙◌}
use Rattle.tla_value.specs.Tree.{Tree}
use Rattle.tla_value.specs.Sets.{set_of, MakesSetOfFunctions}
use Rattle.tla_value.specs.Choices.{keys_of, is_each_once, records_of}
use Rattle.tla_operators.specs.Evaluated.{tree_of_evaluated}
use Rattle.tla_core.specs.ExprOf.{fields_of_cores}
use Rattle.tla_core.specs.Fault.{Outcome}
use Rattle.tla_operators.specs.Gives.{Gives}
use Rattle.tla_sets.proofs.Names.{named_long, records_made}
use Rattle.tla_sets.proofs.fields.records_with.Goals as goal

pub record_set-requires : goal.record_set-requires
record_set-requires c =
    let once = sym c.are_different.ensures ∙ c.if-are_different.true in
    let same = named_long c.args.place.now c.args.fields.now c.args.values.now c.in_ok-sets.sets.items c.requires c.in_ok-sets.ensures in
    ap (λ sets. is_each_once (keys_of sets)) c.as_slice.ensures.value ∙ ap is_each_once same ∙ once

pub returns-then-are_different : goal.returns-then-are_different
returns-then-are_different c =
    let once = sym c.are_different.ensures ∙ c.if-are_different.true in
    let made = subst (λ sets. MakesSetOfFunctions (set_of (records_of sets)) c.record_set.result) c.as_slice.ensures.value c.record_set.ensures in
    let e = records_made c.args.place.now (fields_of_cores c.args.fields.now) (map tree_of_evaluated c.args.values.now) c.in_ok-sets.sets.items c.in_ok-sets.ensures once in
    subst (λ (o : Outcome Tree). Gives c.made_functions.result o) (sym e) (c.made_functions.ensures (set_of (records_of c.in_ok-sets.sets.items)) made)
