use Rattle.std.proofs.Common.{◌≡◌, ◌<◌, ℕ, ◌+◌, List, [], ◌∷◌, ◌++◌, length, take, get_or, Option, ap, subst, arith}
use Rattle.std.proofs.lemmas.List.{take_all, take_more}
use Rattle.tla_core.specs.declared.expression.Opening.{Opening}
use Rattle.tla_core.specs.Fits.{Counts}
use Rattle.tla_core.specs.Patterns.{items_in}
use Rattle.tla_core.proofs.names.with_items.Goals as goal

items-append : (os us : List Opening) → items_in (os ++ us) ≡ items_in os + items_in us
items-append [] us = omega arith
items-append (o ∷ os) us = let rest = items-append os us in omega arith

items_more : (os : List Opening) (i : ℕ) (o : Opening) → i < length os → items_in (take (i + 1) os) ≡ items_in (take i os) + (get_or os i o).items
items_more os i o h =
    let more = ap items_in (take_more os i o h) in let both = items-append (take i os) (get_or os i o ∷ []) in omega arith

counted_more : (count : Option ℕ) (os : List Opening) (i n : ℕ) (o : Opening) → i < length os → Counts count ((n + items_in (take i os)) + (get_or os i o).items) → Counts count (n + items_in (take (i + 1) os))
counted_more count os i n o h e = let more = items_more os i o h in subst (λ k. Counts count k) (omega arith) e

pub loop-opening-preserved : goal.loop-opening-preserved
loop-opening-preserved c = λ n h.
    counted_more c.with_more-count.result c.args.openings.now c.loop-opening.opening-index n _ c.loop-opening-test.true (c.with_more-count.ensures _ (c.loop-opening.invariant n h))

pub returns : goal.returns
returns c = λ n h. rw (take_all c.loop-opening.opening-index c.args.openings.now c.loop-opening-test.false) at (c.loop-opening.invariant n h)
