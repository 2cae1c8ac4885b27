use Rattle.std.proofs.Common.{◌<◌, map, sym, subst, arith}
use Rattle.std.proofs.lemmas.List.{drop_all}
use Rattle.tla_value.specs.Tree.{trees, deepest}
use Rattle.tla_operators.specs.Evaluated.{tree_of_evaluated}
use Rattle.tla_sets.proofs.Stands.{shallow_more}
use Rattle.tla_sets.proofs.asked.are_shallow.Goals as goal

pub loop-value-preserved : goal.loop-value-preserved
loop-value-preserved c = λ rest.
    c.loop-value.invariant (shallow_more c.args.values.now c.loop-value.value-index c.value-item.result c.value-item.is c.loop-value-test.true (omega (arith, c.nesting_of.ensures)) rest)

pub returns : goal.returns
returns c = λ e.
    c.loop-value.invariant (subst (λ us. deepest (trees (map tree_of_evaluated us)) < 64) (sym (drop_all c.loop-value.value-index c.args.values.now (omega (arith, c.loop-value-test.false)))) (omega arith))
