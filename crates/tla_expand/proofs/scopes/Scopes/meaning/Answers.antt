use Rattle.tla_core.specs.ExprOf.{expr_of}
use Rattle.tla_tree.specs.Tree.{Name}
use Rattle.tla_scopes.specs.Expand.{expand}
use Rattle.tla_expand.specs.Names.{scope_of}
use Rattle.tla_expand.proofs.Levels.{too_high, large_bare}
use Rattle.tla_expand.proofs.scopes.Scopes.meaning.Goals as goal

pub returns-in-Err-TooLarge-clause-gone : goal.returns-in-Err-TooLarge-clause-gone
returns-in-Err-TooLarge-clause-gone c = λ p h.
    let m = c.in-Err-TooLarge in
    let o = c.still_refused.ensures.level p h in
    too_high c.args.primes (expand (Name c.args.name.now) (scope_of c.args.self.now) 0) (expr_of o.0) (rw o.1 at c.find_meaning-found.ensures.found) (rw o.1 at c.find_meaning-found.ensures.limits)
    (m.ensures.none (λ q. let is = m.field-0-is in let z : ⊥ = cc in z))

pub returns-in-Err-TooLarge-clause-none : goal.returns-in-Err-TooLarge-clause-none
returns-in-Err-TooLarge-clause-none c = λ h.
    let m = c.in-Err-TooLarge in
    m.ensures.none (λ q. let is = m.field-0-is in let z : ⊥ = cc in z)

pub returns-in-Err-TooLarge-clause-large : goal.returns-in-Err-TooLarge-clause-large
returns-in-Err-TooLarge-clause-large c = λ h.
    let o = c.still_refused.ensures.large h in
    let none = rw o.1 at c.find_meaning-found.ensures.none in
    large_bare (expand (Name c.args.name.now) (scope_of c.args.self.now) 0) (none o.2)
