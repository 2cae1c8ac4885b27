use Rattle.std.proofs.Common.{◌≡◌, ◌&&◌, ◌+◌, ◌*◌, ℕ, List, map, drop}
use Rattle.std.specs.List.{list_all}
use Rattle.tla_core.specs.Expr.{Expr}
use Rattle.tla_core.specs.ExprOf.{expr_of, exprs_of_arm, update_fits}
use Rattle.tla_core.specs.declared.expression.Core.{Core, size-Core}
use Rattle.tla_core.specs.Fits.{fits, Counts}
use Rattle.tla_core.proofs.names.+fits.Given as goal

-- the rest of the parts decides
abbrev pub invariant-all_fit-loop-part : goal.invariant-all_fit-loop-part
invariant-all_fit-loop-part l =
    (n : ℕ) → Counts l.names n
    → list_all (λ (e : Expr). fits e n l.variables l.now) (map expr_of l.parts)
    ≡ list_all (λ (e : Expr). fits e n l.variables l.now) (map expr_of (drop l.part-index l.parts))

abbrev pub invariant-fields_fit-loop-field : goal.invariant-fields_fit-loop-field
invariant-fields_fit-loop-field l =
    (n : ℕ) → Counts l.names n
    → list_all (λ (e : Expr). fits e n l.variables l.now) (map (λ (f : List ℕ × Core). expr_of f.1) l.fields)
    ≡ list_all (λ (e : Expr). fits e n l.variables l.now) (map (λ (f : List ℕ × Core). expr_of f.1) (drop l.field-index l.fields))

abbrev pub invariant-arms_fit-loop-arm : goal.invariant-arms_fit-loop-arm
invariant-arms_fit-loop-arm l =
    (n : ℕ) → Counts l.names n
    → list_all (λ (a : Expr × Expr). fits a.0 n l.variables l.now && fits a.1 n l.variables l.now) (map exprs_of_arm l.arms)
    ≡ list_all (λ (a : Expr × Expr). fits a.0 n l.variables l.now && fits a.1 n l.variables l.now) (map exprs_of_arm (drop l.arm-index l.arms))

abbrev pub invariant-updates_fit-loop-update : goal.invariant-updates_fit-loop-update
invariant-updates_fit-loop-update l =
    (n : ℕ) → Counts l.names n
    → list_all (update_fits n l.variables l.now) l.updates
    ≡ list_all (update_fits n l.variables l.now) (drop l.update-index l.updates)

-- ---- the measure: the depth of the rest, then an order of the functions
abbrev pub decreases-fits_within : goal.decreases-fits_within
decreases-fits_within l = 4 * size-Core l.core.now

abbrev pub decreases-all_fit : goal.decreases-all_fit
decreases-all_fit l = 4 * goal.size-all_fit l + 1

abbrev pub decreases-fields_fit : goal.decreases-fields_fit
decreases-fields_fit l = 4 * goal.size-fields_fit l + 1

abbrev pub decreases-arms_fit : goal.decreases-arms_fit
decreases-arms_fit l = 4 * goal.size-arms_fit l + 1

abbrev pub decreases-updates_fit : goal.decreases-updates_fit
decreases-updates_fit l = 4 * goal.size-updates_fit l + 2
