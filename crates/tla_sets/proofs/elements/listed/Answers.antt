use Rattle.std.proofs.Common.{◌≤◌, [], ◌∷◌, map, ap, sym, subst, ◌∙◌}
use Rattle.std.proofs.lemmas.List.{map-append}
use Rattle.tla_value.specs.TreeOf.{tree_of}
use Rattle.tla_value.specs.Choices.{range_of}
use Rattle.tla_sets.proofs.Listed.{listed_more, listed_end, get_past}
use Rattle.tla_sets.proofs.elements.listed.Goals as goal

pub loop-place-preserved : goal.loop-place-preserved
loop-place-preserved c =
    let all = range_of c.args.span.low c.args.span.high in
    let kept = c.loop-place.numbers.items in
    listed_more all c.loop-place.place (map tree_of kept) (map tree_of c.push.new.self.items) (tree_of c.value_at.result) c.loop-place.invariant
    (sym c.value_at.ensures)
    (ap (map tree_of) c.in_ok-push.ensures.items ∙ map-append tree_of kept (c.value_at.result ∷ []))

pub returns-clause-ok : goal.returns-clause-ok
returns-clause-ok c =
    let all = range_of c.args.span.low c.args.span.high in
    listed_end all c.loop-place.place (map tree_of c.loop-place.numbers.items) c.loop-place.invariant (get_past all c.loop-place.place (subst (λ n. n ≤ c.loop-place.place) c.count-count.ensures c.loop-place-test.false))
