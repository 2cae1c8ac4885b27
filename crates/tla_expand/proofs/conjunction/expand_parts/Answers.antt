use Rattle.std.proofs.Common.{◌≡◌, ◌∙◌, ap, map, drop, [], ◌∷◌, ◌++◌, arith}
use Rattle.std.proofs.lemmas.Result.{err_from_is_err_and}
use Rattle.std.proofs.lemmas.List.{map-append, drop_all, length-map}
use Rattle.std.specs.Borrow.{Bor}
use Rattle.tla_model.specs.Size.{nodes, depth}
use Rattle.tla_core.specs.ExprOf.{expr_of}
use Rattle.tla_tree.specs.declared.tree.Expr as syntax
use Rattle.tla_scopes.specs.Scopes.{scope_at}
use Rattle.tla_expand.specs.Private.Gives.{part_in, pointed}
use Rattle.tla_expand.proofs.Lists.{part_done, part_fails, all_done, total_more, highest_more}
use Rattle.tla_expand.proofs.Apart.{pointed_at}
use Rattle.tla_scopes.specs.Listed.{listed}
use Rattle.tla_expand.proofs.conjunction.expand_parts.Goals as goal

pub returns-in_err-part : goal.returns-in_err-part
returns-in_err-part c =
    let e = err_from_is_err_and c.from_residual.result c.from_residual.ensures.1 in
    let f = rw c.loop-i.invariant.kept at c.in_err-part.ensures.same in
    let n = length-map c.args.trees.now (λ (t : Bor syntax.Expr). t.now) in
    record {
      same = rw (e.1, e.2) (part_fails (part_in c.args.primes (scope_at (listed c.args.entries.now) c.args.scope) 0) (pointed c.args.trees.now) nodes depth c.in_err-part.field-0.0
          (map expr_of c.loop-i.parts.items) c.loop-i.i c.index-trees-i.result.now 299 199999 c.loop-i.nodes_left
          c.loop-i.invariant.so_far (omega (arith, n)) (pointed_at c.args.trees.now c.loop-i.i c.index-trees-i.result (omega arith) c.index-trees-i.is) c.loop-i.invariant.nodes_left f);
    }

pub loop-i-preserved : goal.loop-i-preserved
loop-i-preserved c =
    let f = rw c.loop-i.invariant.kept at c.in_ok-part.ensures.same in
    let k = length-map c.args.trees.now (λ (t : Bor syntax.Expr). t.now) in
    let old = map expr_of c.loop-i.parts.items in
    let x = expr_of c.in_ok-part.part.core in
    let p : map expr_of c.push.new.items.items ≡ old ++ x ∷ [] = ap (λ ps. map expr_of ps) c.in_ok-push.ensures.ok ∙ map-append expr_of c.loop-i.parts.items (c.in_ok-part.part.core ∷ []) in
    let n = total_more nodes old (map expr_of c.push.new.items.items) x p in
    record {
      kept = c.in_ok-part.ensures.kept ∙ c.loop-i.invariant.kept;
      so_far = part_done (part_in c.args.primes (scope_at (listed c.args.entries.now) c.args.scope) 0) (pointed c.args.trees.now)
          old (map expr_of c.push.new.items.items) c.loop-i.i c.index-trees-i.result.now x
          c.loop-i.invariant.so_far (omega (arith, k)) (pointed_at c.args.trees.now c.loop-i.i c.index-trees-i.result (omega arith) c.index-trees-i.is) f.0 p;
      nodes_left = omega (arith, f.1, c.loop-i.invariant.nodes_left, n);
      depth = highest_more depth old (map expr_of c.push.new.items.items) x 299 p c.loop-i.invariant.depth f.2;
    }

pub returns : goal.returns
returns c =
    let k = length-map c.args.trees.now (λ (t : Bor syntax.Expr). t.now) in
    let z : drop c.loop-i.i (pointed c.args.trees.now) ≡ [] = drop_all c.loop-i.i (pointed c.args.trees.now) (omega (arith, k)) in
    record {
      same = (
        all_done (part_in c.args.primes (scope_at (listed c.args.entries.now) c.args.scope) 0) (pointed c.args.trees.now) (map expr_of c.loop-i.parts.items) c.loop-i.i z c.loop-i.invariant.so_far,
        c.loop-i.invariant.nodes_left,
        c.loop-i.invariant.depth,
      );
    }
