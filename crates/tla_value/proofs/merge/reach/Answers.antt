use Rattle.std.proofs.Common.{sym, ◌∙◌, add-one, arith}
use Rattle.tla_value.specs.OrderLaws.{tree_cmp-total}
use Rattle.tla_value.specs.TreeOf.{tree_of}
use Rattle.tla_value.proofs.Passes.{passed, stands_here, stands_below}
use Rattle.tla_value.proofs.merge.reach.Goals as goal

pub loop-at-preserved : goal.loop-at-preserved
loop-at-preserved c =
    let x = c.index-items-at.result in
    let here = c.loop-at-test.true in
    record {
      within = omega arith;
      found = rw add-one (passed c.args.items.now c.loop-at.at x (tree_of c.args.value.now) here c.index-items-at.is (sym c.in-Less.ensures) ∙ c.loop-at.invariant.found);
      kept = λ q h. rw add-one (passed c.args.items.now c.loop-at.at x q here c.index-items-at.is (tree_cmp-total.trans (tree_of x) (tree_of c.args.value.now) q (sym c.in-Less.ensures) h) ∙ c.loop-at.invariant.kept q h);
    }

pub returns-in-Equal-clause-found : goal.returns-in-Equal-clause-found
returns-in-Equal-clause-found c =
    sym (stands_here c.args.items.now c.loop-at.at c.index-items-at.result (tree_of c.args.value.now) c.loop-at-test.true c.index-items-at.is (sym c.in-Equal.ensures)) ∙ c.loop-at.invariant.found

pub returns-in-Greater-clause-found : goal.returns-in-Greater-clause-found
returns-in-Greater-clause-found c =
    sym (stands_below c.args.items.now c.loop-at.at c.index-items-at.result (tree_of c.args.value.now) c.requires.rising c.loop-at-test.true c.index-items-at.is (sym c.in-Greater.ensures)) ∙ c.loop-at.invariant.found
