use Rattle.std.proofs.Common.{length, map, ap, sym, subst, ◌∙◌}
use Rattle.std.proofs.lemmas.List.{map-id}
use Rattle.std.proofs.lemmas.Iterator.Adapters.{YieldsList-from_vec}
use Rattle.std.proofs.lemmas.Iterator.Consumers.{YieldsList-turn, YieldsList-end}
use Rattle.std.proofs.lemmas.List.Elements.{All-from_recursion, All-get_or}
use Rattle.tla_core.specs.Private.Known.{IsKnownField, named_core}
use Rattle.tla_core.proofs.making.fixed_fields.Goals as goal

pub fixed_part-requires : goal.fixed_part-requires
fixed_part-requires c =
    let fields = c.args.fields in
    let begun = c.into_iter-field-iterator.ensures.into_iter_gives in
    let x = c.in-Some.field in
    let at = YieldsList-turn (YieldsList-from_vec fields.items begun.0 (begun.1 ∙ fields.ok.0)) c.loop-field.yielded c.loop-field.field-iterator c.loop-field.yielded_by c.next.result c.next.new.self x c.in-Some.is c.next.ensures.steps in
    subst IsKnownField (sym at.1) (All-get_or IsKnownField fields.items (length c.loop-field.yielded) x at.0 (All-from_recursion IsKnownField fields.items c.requires))

pub returns : goal.returns
returns c =
    let fields = c.args.fields in
    let begun = c.into_iter-field-iterator.ensures.into_iter_gives in
    let all = YieldsList-end (YieldsList-from_vec fields.items begun.0 (begun.1 ∙ fields.ok.0)) c.loop-field.yielded c.loop-field.field-iterator c.loop-field.yielded_by c.next.result c.next.new.self c.in-None.is c.next.ensures.steps in
    c.loop-field.invariant ∙ ap (map named_core) (sym (map-id c.loop-field.yielded) ∙ all.0)
