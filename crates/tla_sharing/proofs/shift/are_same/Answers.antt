use Rattle.std.proofs.Common.{◌≡◌, rules, ap, sym, ◌∙◌}
use Rattle.std.specs.Cmp.{Equal-is}
use Rattle.tla_value.specs.TreeOf.{tree_of}
use Rattle.tla_value.specs.ValueOrder.{exact-value}
use Rattle.tla_core.specs.Expr.{constant}
use Rattle.tla_core.specs.ExprOf.{expr_of}
use Rattle.tla_code.specs.Raise.{raise}
use Rattle.tla_sharing.proofs.Literals.{literal_copies}
use Rattle.tla_sharing.proofs.shift.are_same.Goals as goal

pub returns-then-eq : goal.returns-then-eq
returns-then-eq c = λ h from by.
    let m = c.in-Constant-Constant in
    let same : m.p ≡ m.q = search rules in
    let value : m.v ≡ m.w = exact-value m.v m.w ((Equal-is _).0 (sym c.eq-then-eq.ensures ∙ h)) in
    ap expr_of m.is-1 ∙ (λ i. constant (sym same i) (tree_of (sym value i))) ∙ sym (ap (λ k. raise from by (expr_of k)) m.is-0)

pub returns-in-Literal-Literal : goal.returns-in-Literal-Literal
returns-in-Literal-Literal c = λ h from by.
    let n = c.in-Literal-Literal in
    literal_copies c.args.original.now c.args.copy.now n.l n.m n.is-0 n.is-1 (c.is_same.ensures h) from by
