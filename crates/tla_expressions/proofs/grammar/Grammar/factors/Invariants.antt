use Rattle.std.proofs.Common.{◌≡◌, ◌-◌, ◌≤◌, length, map, []}
use Rattle.tla_tree.specs.View.{view}
use Rattle.tla_tree.specs.Tree.{trees}
use Rattle.tla_grammar.specs.Edges.{depths}
use Rattle.tla_expressions.specs.Reading.{factors, expr}
use Rattle.tla_expressions.proofs.grammar.Grammar.factors.Given as goal

abbrev pub invariant-loop-turn : goal.invariant-loop-turn
invariant-loop-turn g l = record {
  same : factors l.text l.tokens (expr l.text l.tokens l.self.depth) (length l.tokens - l._turn) (map view l.items.items) l.context l.at
      ≡ factors l.text l.tokens (expr l.text l.tokens l.self.depth) (length l.tokens) [] l.context l.fn.from;
  depth : l.depth ≡ depths (trees (map view l.items.items));
  shallow : l.depth ≤ l.self.depth;
}
