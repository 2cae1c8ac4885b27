use Rattle.std.proofs.Common.{length, map, ap, sym, subst, ◌∙◌}
use Rattle.std.proofs.lemmas.List.{map-id}
use Rattle.std.proofs.lemmas.Iterator.Adapters.{YieldsList-from_vec}
use Rattle.std.proofs.lemmas.Iterator.Consumers.{YieldsList-turn, YieldsList-end}
use Rattle.std.proofs.lemmas.List.Elements.{All-from_recursion, All-get_or}
use Rattle.tla_core.specs.ExprOf.{expr_of}
use Rattle.tla_core.specs.Private.Known.{IsKnown}
use Rattle.tla_core.proofs.making.fixed_parts.Goals as goal

pub fixed_part-requires : goal.fixed_part-requires
fixed_part-requires c =
    let parts = c.args.parts in
    let begun = c.into_iter-part-iterator.ensures.into_iter_gives in
    let x = c.in-Some.part in
    let at = YieldsList-turn (YieldsList-from_vec parts.items begun.0 (begun.1 ∙ parts.ok.0)) c.loop-part.yielded c.loop-part.part-iterator c.loop-part.yielded_by c.next.result c.next.new.self x c.in-Some.is c.next.ensures.steps in
    subst IsKnown (sym at.1) (All-get_or IsKnown parts.items (length c.loop-part.yielded) x at.0 (All-from_recursion IsKnown parts.items c.requires))

pub returns : goal.returns
returns c =
    let parts = c.args.parts in
    let begun = c.into_iter-part-iterator.ensures.into_iter_gives in
    let all = YieldsList-end (YieldsList-from_vec parts.items begun.0 (begun.1 ∙ parts.ok.0)) c.loop-part.yielded c.loop-part.part-iterator c.loop-part.yielded_by c.next.result c.next.new.self c.in-None.is c.next.ensures.steps in
    c.loop-part.invariant ∙ ap (map expr_of) (sym (map-id c.loop-part.yielded) ∙ all.0)
