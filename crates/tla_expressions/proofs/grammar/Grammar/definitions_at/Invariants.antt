use Rattle.std.proofs.Common.{◌≡◌, ◌-◌, ◌≤◌, length, map, []}
use Rattle.tla_tree.specs.View.{definition_view}
use Rattle.tla_tree.specs.Tree.{definitions}
use Rattle.tla_grammar.specs.Edges.{definitions_depth}
use Rattle.tla_expressions.specs.Reading.{definitions_at, expr}
use Rattle.tla_expressions.proofs.grammar.Grammar.definitions_at.Given as goal

abbrev pub invariant-loop-turn : goal.invariant-loop-turn
invariant-loop-turn g l = record {
  same : definitions_at l.text l.tokens (expr l.text l.tokens l.self.depth) (length l.tokens - l._turn) (map definition_view l.definitions.items) l.context l.at
      ≡ definitions_at l.text l.tokens (expr l.text l.tokens l.self.depth) (length l.tokens) [] l.context l.fn.from;
  depth : l.depth ≡ definitions_depth (definitions (map definition_view l.definitions.items));
  shallow : l.depth ≤ l.self.depth;
}
