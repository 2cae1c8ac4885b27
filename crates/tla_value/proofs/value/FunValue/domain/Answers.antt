use Rattle.std.proofs.Common.{◌≡◌, ◌∙◌, ap, sym, subst, length}
use Rattle.std.specs.Arc.{arc_value}
use Rattle.tla_value.specs.IsValue.{IsSetList}
use Rattle.tla_value.specs.Private.Held.{domain_trees, FitsDomain}
use Rattle.tla_value.proofs.Pairs.{entry_arguments}
use Rattle.tla_value.proofs.Parts.{is-domain}
use Rattle.tla_value.proofs.value.FunValue.domain.Goals as goal

pub to_set-requires-clause-list : goal.to_set-requires-clause-list
to_set-requires-clause-list c =
    let held = arc_value c.in-Some.held in
    let held_fits : FitsDomain (length held.values.items) held.domain = rw c.in-Some.is at c.self.invariant.fits in
    let list = rw c.in-Some.is at c.self.invariant.shape.list in
    let same : domain_trees (length c.as_slice.result.now) c.deref.result.now.domain ≡ domain_trees (length held.values.items) held.domain = λ j. domain_trees (length ((c.as_slice.ensures.value ∙ ap (λ e. e.values.items) c.deref-in-Some.ensures) j)) (c.deref.ensures j).domain in
    subst IsSetList (entry_arguments held.domain held.values.items held_fits ∙ sym same) (is-domain _ list)
