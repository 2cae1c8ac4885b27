use Rattle.std.proofs.Common.{◌≢◌, subst, arith, IfOk, IfErr}
use Rattle.tla_config.specs.declared.error.DefsCode.TheVariants.{Memory}
use Rattle.tla_core.specs.Expr as expr
use Rattle.tla_core.specs.ExprOf.{expr_of}
use Rattle.tla_scopes.specs.declared.primes.Primes.TheVariants as read
use Rattle.tla_scopes.specs.Expand.{expand}
use Rattle.tla_expand.specs.Names.{scope_of}
use Rattle.tla_tree.specs.Tree.{Tree}
use Rattle.tla_formulas.specs.Formulas.{IsInitial}
use Rattle.tla_formulas.specs.Refused.{IsOfFormula}
use Rattle.tla_defs.proofs.Forms.{has_items, of_one_item, of_items}
use Rattle.tla_defs.proofs.init_and_next.specified_initial.Goals as goal

pub returns-then-len-eq1-clause-found : goal.returns-then-len-eq1-clause-found
returns-then-len-eq1-clause-found c = λ i p.
    let same = of_one_item c.args.specified.now.initial.items c.index-first.result.now i (omega (arith, c.len.ensures, c.if-len-eq1.true)) c.index-first.ensures p in
    subst (λ (t : Tree). IfOk c.one_conjunct.result (λ x. IsInitial (scope_of c.args.scopes.now) t (expr_of x))) same c.one_conjunct.ensures.found

pub returns-then-len-eq1-clause-none : goal.returns-then-len-eq1-clause-none
returns-then-len-eq1-clause-none c = λ i p.
    let same = of_one_item c.args.specified.now.initial.items c.index-first.result.now i (omega (arith, c.len.ensures, c.if-len-eq1.true)) c.index-first.ensures p in
    subst (λ (t : Tree). IfErr c.one_conjunct.result (λ e. e.code ≢ Memory → (x : expr.Expr) → IsInitial (scope_of c.args.scopes.now) t x → ⊥)) same c.one_conjunct.ensures.none

pub returns-clause-found : goal.returns-clause-found
returns-clause-found c = λ i p.
    let ts = c.args.specified.now.initial.items in
    let same = of_items ts c.index-first.result.now i (λ q. c.if-len-eq1.false (omega (arith, c.len.ensures, q))) c.index-first.ensures p in
    let shown = rw (c.place.ensures, c.as_slice.ensures.value) at c.several_conjuncts.ensures.found in
    subst (λ (t : Tree). IfOk c.several_conjuncts.result (λ x. IsInitial (scope_of c.args.scopes.now) t (expr_of x))) same shown

pub returns-clause-none : goal.returns-clause-none
returns-clause-none c = λ i p.
    let ts = c.args.specified.now.initial.items in
    let same = of_items ts c.index-first.result.now i (λ q. c.if-len-eq1.false (omega (arith, c.len.ensures, q))) c.index-first.ensures p in
    let shown = rw (c.place.ensures, c.as_slice.ensures.value) at c.several_conjuncts.ensures.none in
    subst (λ (t : Tree). IfErr c.several_conjuncts.result (λ e. e.code ≢ Memory → (x : expr.Expr) → IsInitial (scope_of c.args.scopes.now) t x → ⊥)) same shown

pub returns-then-len-eq1-clause-formula : goal.returns-then-len-eq1-clause-formula
returns-then-len-eq1-clause-formula c = λ i p.
    let same = of_one_item c.args.specified.now.initial.items c.index-first.result.now i (omega (arith, c.len.ensures, c.if-len-eq1.true)) c.index-first.ensures p in
    subst (λ (t : Tree). IfErr c.one_conjunct.result (λ e. e.code ≢ Memory → IsOfFormula (expand t (scope_of c.args.scopes.now) 0) read.Once e)) same c.one_conjunct.ensures.formula

pub returns-clause-formula : goal.returns-clause-formula
returns-clause-formula c = λ i p.
    let ts = c.args.specified.now.initial.items in
    let same = of_items ts c.index-first.result.now i (λ q. c.if-len-eq1.false (omega (arith, c.len.ensures, q))) c.index-first.ensures p in
    let shown = rw (c.place.ensures, c.as_slice.ensures.value) at c.several_conjuncts.ensures.formula in
    subst (λ (t : Tree). IfErr c.several_conjuncts.result (λ e. e.code ≢ Memory → IsOfFormula (expand t (scope_of c.args.scopes.now) 0) read.Once e)) same shown

pub index-first-requires : goal.index-first-requires
index-first-requires c =
    let some = has_items c.args.specified.now.initial.items c.requires.0 c.requires.1 in
    omega (arith, some, c.args.specified.now.initial.ok.0)
