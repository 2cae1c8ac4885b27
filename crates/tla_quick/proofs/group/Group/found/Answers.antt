use Rattle.std.proofs.Common.{◌∙◌, List, Ok, IfSome, ap, sym, subst, map, option_map}
use Rattle.tla_value.specs.Tree.{Tree}
use Rattle.tla_value.specs.TreeOf.{tree_of}
use Rattle.tla_core.specs.Fault.{Outcome}
use Rattle.tla_core.specs.Value.{val}
use Rattle.tla_core.specs.declared.expression.Core.{Core}
use Rattle.tla_code.specs.CodeExpr.{expr_in}
use Rattle.tla_quick.specs.Groups.{referred, AreFound}
use Rattle.tla_quick.specs.Private.Kept.{scope_with}
use Rattle.tla_quick.proofs.Grouped.{answered}
use Rattle.tla_quick.proofs.group.Group.found.Goals as goal

pub returns-in-Ok : goal.returns-in-Ok
returns-in-Ok c =
    let i = c.self.inside in
    let b = map tree_of c.args.bound.now in
    let s = option_map (λ st. st.now) c.args.now in
    let t = c.args.partial.now in
    subst (λ (g : List Core × List Core). IfSome c.answer_of.result (λ r. AreFound g.0 g.1 b s t (option_map (λ v. map tree_of v.items) r))) c.self.view_is
    (answered i.place (referred i.conditions.items) (referred i.values.items) b s t (tree_of c.value-in-Ok.result.now) c.answer_of.result
    (sym (i.same b s t)
    ∙ (λ j. val (expr_in (scope_with (sym c.deref.ensures j).constants.items) (sym c.deref-3.ensures j).code) b s t)
    ∙ c.in-Ok.ensures
    ∙ ap (λ (v : Tree). let o : Outcome Tree = Ok v in o) (sym c.value-in-Ok.ensures))
    c.answer_of.ensures)
