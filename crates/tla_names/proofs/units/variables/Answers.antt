use Rattle.std.proofs.Common.{◌≡◌, ◌≢◌, ◌<◌, ap, sym, ◌∙◌, arith, List, [], ◌∷◌, Option, Some, length, map, get_or}
use Rattle.std.proofs.lemmas.Result.{err_from_is_err_and}
use Rattle.tla_tree.specs.Units.{UnitTree}
use Rattle.tla_tree.specs.UnitsView.{unit_view}
use Rattle.tla_tree.specs.declared.unit.Unit.{Unit}
use Rattle.tla_config.specs.declared.error.DefsCode.TheVariants.{Memory}
use Rattle.tla_config.specs.declared.error.DefsError.{DefsError}
use Rattle.tla_config.specs.declared.error.Source.TheVariants as source
use Rattle.tla_names.specs.Misuses.{misuse_from}
use Rattle.tla_names.specs.Refusal.{refusal_for}
use Rattle.tla_names.proofs.units.variables.Goals as goal

-- what holds of the first unit, whatever follows it
at_first : (f : List UnitTree → Option DefsError) (left : List Unit) (u : Unit) (o : Option DefsError) → 0 < length left → u ≡ get_or left 0 u → ((us : List UnitTree) → f (unit_view u ∷ us) ≡ o) → f (map unit_view left) ≡ o
at_first f [] u o h g k = absurd (omega arith)
at_first f (v ∷ left) u o h g k = ap (λ w. f (unit_view w ∷ map unit_view left)) (sym g) ∙ k (map unit_view left)

pub returns-in_err-bring_unit-clause-err : goal.returns-in_err-bring_unit-clause-err
returns-in_err-bring_unit-clause-err c =
    let e = err_from_is_err_and c.from_residual.result c.from_residual.ensures.1 in
    let so_far = c.loop-left.brought in
    let some : 0 < length c.loop-left.left.now = omega (arith, c.in-len1-up.len_at_least) in
    let first = λ (n : c.in_err-bring_unit.field-0.0.code ≢ Memory). at_first (λ us. refusal_for source.Module (misuse_from so_far.modules so_far.scope us)) c.loop-left.left.now c.first-item.result (Some c.in_err-bring_unit.field-0.0) some c.first-item.is (c.in_err-bring_unit.ensures.err n) in
    rw (e.1, e.2) (λ n. ap (λ m. refusal_for source.Module m) c.loop-left.invariant.same ∙ first n)
