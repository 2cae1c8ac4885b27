use Rattle.std.proofs.Common.{filter, not}
use Rattle.tla_value.specs.Sets.{is_member}
use Rattle.tla_operators.proofs.Known.{on_sets_known, set_of_kept}
use Rattle.tla_operators.proofs.sets.difference_of.Goals as goal

pub returns-in-Set-Set : goal.returns-in-Set-Set
returns-in-Set-Set c =
    let s = c.in-Set-Set in
    rw (on_sets_known c.args.place.now (λ xs ys. filter (λ v. not (is_member v ys)) xs) c.args.left.now c.args.right.now s.left s.right s.is-0 s.is-1, set_of_kept c.args.place.now (λ v. not (is_member v s.right)) s.left c.items-rising.ensures.rising)
    (c.made_set.ensures (filter (λ v. not (is_member v s.right)) s.left) c.minus.ensures)
