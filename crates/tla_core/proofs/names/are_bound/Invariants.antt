use Rattle.std.proofs.Common.{◌≡◌, ℕ, nat_lt, drop}
use Rattle.std.specs.List.{list_all}
use Rattle.tla_core.specs.declared.expression.Opening.{Opening}
use Rattle.tla_core.specs.Fits.{Counts}
use Rattle.tla_core.proofs.names.are_bound.Given as goal

-- the rest of the openings decides
abbrev pub invariant-loop-opening : goal.invariant-loop-opening
invariant-loop-opening l =
    (n : ℕ) → Counts l.names n
    → list_all (λ (o : Opening). nat_lt o.name n) l.openings
    ≡ list_all (λ (o : Opening). nat_lt o.name n) (drop l.opening-index l.openings)
