use Rattle.std.proofs.Common.{◌≡◌, ◌-◌, ◌≤◌, length, map, []}
use Rattle.tla_tree.specs.View.{choice_view}
use Rattle.tla_tree.specs.Tree.{arms}
use Rattle.tla_grammar.specs.Edges.{arms_depth}
use Rattle.tla_expressions.specs.Reading.{arms_at, expr}
use Rattle.tla_expressions.proofs.grammar.Grammar.arms_at.Given as goal

abbrev pub invariant-loop-turn : goal.invariant-loop-turn
invariant-loop-turn g l = record {
  same : arms_at l.text l.tokens (expr l.text l.tokens l.self.depth) (length l.tokens - l._turn) (map choice_view l.arms.items) l.context l.at
      ≡ arms_at l.text l.tokens (expr l.text l.tokens l.self.depth) (length l.tokens) [] l.context l.fn.from;
  depth : l.depth ≡ arms_depth (arms (map choice_view l.arms.items));
  shallow : l.depth ≤ l.self.depth;
}
