use Rattle.std.proofs.Common.{◌≢◌, refl, subst, IfErr}
use Rattle.tla_config.specs.declared.error.DefsCode.TheVariants.{Memory}
use Rattle.tla_core.specs.Expr as expr
use Rattle.tla_scopes.specs.declared.primes.Primes.TheVariants as read
use Rattle.tla_scopes.specs.Expand.{expand}
use Rattle.tla_expand.specs.Names.{scope_of}
use Rattle.tla_tree.specs.Tree.{Tree}
use Rattle.tla_formulas.specs.Formulas.{IsInitial}
use Rattle.tla_formulas.specs.Refused.{IsOfFormula}
use Rattle.tla_defs.proofs.Unique.{same_some}
use Rattle.tla_defs.proofs.init_and_next.initial_predicate.Goals as goal

pub returns-in-Named-clause-none : goal.returns-in-Named-clause-none
returns-in-Named-clause-none c = λ i p.
    let same = same_some _ _ i refl (rw c.in-Named.is at p) in
    subst (λ (t : Tree). IfErr c.initial.result (λ e. e.code ≢ Memory → (x : expr.Expr) → IsInitial (scope_of c.args.scopes.now) t x → ⊥)) same c.initial.ensures.none

pub returns-in-Named-clause-formula : goal.returns-in-Named-clause-formula
returns-in-Named-clause-formula c = λ i p.
    let same = same_some _ _ i refl (rw c.in-Named.is at p) in
    subst (λ (t : Tree). IfErr c.initial.result (λ e. e.code ≢ Memory → IsOfFormula (expand t (scope_of c.args.scopes.now) 0) read.Once e)) same c.initial.ensures.formula
