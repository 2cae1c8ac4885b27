use Rattle.std.proofs.Common.{◌≡◌, ◌++◌, ◌∷◌, [], map, arith, ap, ◌∙◌}
use Rattle.std.proofs.lemmas.List.{map-append}
use Rattle.std.proofs.lemmas.Result.{err_from_is_err_and}
use Rattle.tla_config.specs.Private.GivesValues.{NoItem, NoItems}
use Rattle.tla_config.specs.View.{item_view}
use Rattle.tla_config.proofs.Arms.{fails_map}
use Rattle.tla_config.proofs.ItemLists.{items_none, items_more, items_last, items_fail, items_because, onward_more, onward_last}
use Rattle.tla_config.proofs.items.items.Goals as goal

pub loop-items-init : goal.loop-items-init
loop-items-init c = record { so_far = rw c.new-items.ensures.items (items_none c.args.text.now c.args.tokens.now c.args.from); onward = λ r. r; order = omega arith }

pub returns-in_err-found-clause-gives : goal.returns-in_err-found-clause-gives
returns-in_err-found-clause-gives c =
    let text = c.args.text.now in
    let ts = c.args.tokens.now in
    let e = err_from_is_err_and c.from_residual.result c.from_residual.ensures.1 in
    rw (e.1, e.2) (fails_map text ts c.in_err-found.field-0.0 (NoItem text ts c.loop-items.at) (NoItems text ts c.args.from)
    (items_fail text ts (map item_view c.loop-items.items.items) c.args.from c.loop-items.at c.loop-items.invariant.so_far) c.in_err-found.ensures.gives)

pub loop-items-preserved : goal.loop-items-preserved
loop-items-preserved c =
    let front = map item_view c.loop-items.items.items in
    let i = item_view c.in_ok-found.found.item in
    let more : map item_view c.push.new.items.items ≡ front ++ i ∷ [] =
    ap (λ x. map item_view x) c.in_ok-push.ensures.ok ∙ map-append item_view c.loop-items.items.items (c.in_ok-found.found.item ∷ []) in
    record {
      so_far = rw more (items_more c.args.text.now c.args.tokens.now front c.args.from c.loop-items.at c.in_ok-found.found.end c.in-Some.next i
          c.loop-items.invariant.so_far c.in_ok-found.ensures.gives c.in-Some.ensures.goes_on);
      onward = onward_more c.args.text.now c.args.tokens.now i c.args.from c.loop-items.at c.in_ok-found.found.end c.in-Some.next
          c.loop-items.invariant.onward c.in_ok-found.ensures.gives c.in_ok-found.ensures.clear c.in-Some.ensures.goes_on;
      order = let a = c.in-Some.ensures.order in let b = c.loop-items.invariant.order in let d = c.in_ok-found.ensures.within in omega arith;
    }

pub returns-in-None-clause-gives : goal.returns-in-None-clause-gives
returns-in-None-clause-gives c =
    let front = map item_view c.loop-items.items.items in
    let i = item_view c.in_ok-found.found.item in
    let more : map item_view c.push.new.items.items ≡ front ++ i ∷ [] =
    ap (λ x. map item_view x) c.in_ok-push.ensures.ok ∙ map-append item_view c.loop-items.items.items (c.in_ok-found.found.item ∷ []) in
    rw more (items_last c.args.text.now c.args.tokens.now front c.args.from c.loop-items.at c.in_ok-found.found.end i
    c.loop-items.invariant.so_far c.in_ok-found.ensures.gives c.in-None.ensures.goes_on)

pub returns-in_err-found-clause-because : goal.returns-in_err-found-clause-because
returns-in_err-found-clause-because c =
    let text = c.args.text.now in
    let ts = c.args.tokens.now in
    let e = err_from_is_err_and c.from_residual.result c.from_residual.ensures.1 in
    rw (e.1, e.2) (items_because text ts c.in_err-found.field-0.0 (map item_view c.loop-items.items.items) c.args.from c.loop-items.at c.loop-items.invariant.so_far c.loop-items.invariant.onward c.in_err-found.ensures.gives c.in_err-found.ensures.because)

pub returns-in-None-clause-clear : goal.returns-in-None-clause-clear
returns-in-None-clause-clear c =
    onward_last c.args.text.now c.args.tokens.now (item_view c.in_ok-found.found.item) c.args.from c.loop-items.at c.in_ok-found.found.end
    c.loop-items.invariant.onward c.in_ok-found.ensures.gives c.in_ok-found.ensures.clear c.in-None.ensures.goes_on
