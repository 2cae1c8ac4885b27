use Rattle.std.proofs.Common.{◌≡◌, ◌∙◌, sym, Bool, true, false}
use Rattle.tla_items.proofs.Walks.{stays}
use Rattle.tla_items.proofs.cycle.is_circular.Goals as goal

apart : (b : Bool) → b ≡ true → b ≡ false → ⊥
apart b p q = let z : ⊥ = cc in z

pub returns-clause-no : goal.returns-clause-no
returns-clause-no c = λ h w.
    let found = c.in_ok-found.ensures in
    apart _ (stays c.args.references.now c.in_ok-found.found found.covers c.args.name.now c.args.name.now w.0 found.start w.1) (rw c.as_bytes.ensures at (sym c.contains.ensures ∙ h))
