use Rattle.std.proofs.Common.{◌≡◌, ◌-◌, ◌≤◌, length, map, []}
use Rattle.tla_tree.specs.View.{update_view}
use Rattle.tla_tree.specs.Tree.{updates}
use Rattle.tla_grammar.specs.Edges.{updates_depth}
use Rattle.tla_expressions.specs.Reading.{expr}
use Rattle.tla_expressions.specs.ReadingBrackets.{changes}
use Rattle.tla_expressions.proofs.grammar.Grammar.changes.Given as goal

abbrev pub invariant-loop-turn : goal.invariant-loop-turn
invariant-loop-turn g l = record {
  same : changes l.text l.tokens (expr l.text l.tokens l.self.depth) (length l.tokens - l._turn) (map update_view l.updates.items) l.context l.at
      ≡ changes l.text l.tokens (expr l.text l.tokens l.self.depth) (length l.tokens) [] l.context l.fn.from;
  depth : l.depth ≡ updates_depth (updates (map update_view l.updates.items));
  shallow : l.depth ≤ l.self.depth;
}
