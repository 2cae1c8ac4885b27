use Rattle.std.proofs.Common.{rules, ◌+◌, ap, sym, subst, ◌∙◌, List, map, drop}
use Rattle.tla_value.specs.TreeOf.{tree_of}
use Rattle.tla_value.specs.Tree.{Tree}
use Rattle.tla_core.specs.Fault.{Outcome, ◌>>=◌}
use Rattle.tla_core.specs.Lists.{each}
use Rattle.tla_core.specs.Patterns.{fitting}
use Rattle.tla_operators.specs.Gives.{GivesBy}
use Rattle.tla_eval.specs.Private.Parts.{nothing_of}
use Rattle.tla_eval.proofs.Fitting.{each_first}
use Rattle.tla_eval.proofs.patterns.try_all.Goals as goal

pub loop-element-preserved : goal.loop-element-preserved
loop-element-preserved c =
    c.loop-element.invariant
    ∙ each_first c.args.place.now c.args.count c.args.elements.now c.loop-element.element-index c.element-item.result c.element-item.is c.loop-element-test.true
    ∙ ap (λ (f : Outcome (List Tree)). f >>= λ xs. nothing_of (each (fitting c.args.place.now c.args.count) (map tree_of (drop (c.loop-element.element-index + 1) c.args.elements.now)))) c.in_ok-fitting.ensures

pub returns-in_err-fitting : goal.returns-in_err-fitting
returns-in_err-fitting c =
    let e = c.loop-element.invariant
    ∙ each_first c.args.place.now c.args.count c.args.elements.now c.loop-element.element-index c.element-item.result c.element-item.is c.loop-element-test.true in
    subst (λ o. GivesBy (λ (u : Unit {0}). u) c.from_residual.result o) (sym e) (search rules)
