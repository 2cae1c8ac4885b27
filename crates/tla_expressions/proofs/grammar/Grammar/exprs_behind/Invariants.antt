use Rattle.std.proofs.Common.{◌≡◌, ◌-◌, ◌≤◌, length, map}
use Rattle.tla_tree.specs.View.{view}
use Rattle.tla_tree.specs.Tree.{trees}
use Rattle.tla_grammar.specs.Edges.{depths}
use Rattle.tla_expressions.specs.ReadingLists.{exprs}
use Rattle.tla_expressions.specs.Reading.{expr}
use Rattle.tla_expressions.proofs.grammar.Grammar.exprs_behind.Given as goal

abbrev pub invariant-loop-turn : goal.invariant-loop-turn
invariant-loop-turn g l = record {
  same : exprs l.text l.tokens (expr l.text l.tokens l.self.depth) (length l.tokens - l._turn) (map view l.items.items) l.context l.between l.at
      ≡ exprs l.text l.tokens (expr l.text l.tokens l.self.depth) (length l.tokens) (map view l.fn.front.items.items) l.context l.between l.fn.front.end;
  depth : l.depth ≡ depths (trees (map view l.items.items));
  shallow : l.depth ≤ l.self.depth;
}
