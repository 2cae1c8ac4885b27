use Rattle.std.proofs.Common.{◌≡◌, ◌+◌, ◌-◌, ◌≤◌}
use Rattle.tla_tree.specs.View.{view}
use Rattle.tla_grammar.specs.Edges.{depth}
use Rattle.tla_expressions.specs.Reading.{postfix, expr}
use Rattle.tla_expressions.proofs.grammar.Grammar.postfixes.Given as goal

abbrev pub invariant-loop-turn : goal.invariant-loop-turn
invariant-loop-turn g l = record {
  same : postfix l.text l.tokens (expr l.text l.tokens l.self.depth) (l.self.depth + 1 - l._turn) (l.self.depth + 1) l.context (view l.left.tree.value) l.left.end
      ≡ postfix l.text l.tokens (expr l.text l.tokens l.self.depth) (l.self.depth + 1) (l.self.depth + 1) l.context (view l.fn.first.tree.value) l.fn.first.end;
  depth : l.left.depth ≡ depth (view l.left.tree.value);
  shallow : l.left.depth ≤ l.self.depth + 1;
}
