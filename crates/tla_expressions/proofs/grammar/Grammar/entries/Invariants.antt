use Rattle.std.proofs.Common.{◌≡◌, ◌-◌, ◌≤◌, length, map, []}
use Rattle.tla_tree.specs.View.{field_view}
use Rattle.tla_tree.specs.Tree.{fields}
use Rattle.tla_grammar.specs.Edges.{fields_depth}
use Rattle.tla_expressions.specs.Reading.{expr}
use Rattle.tla_expressions.specs.ReadingBrackets.{entries}
use Rattle.tla_expressions.proofs.grammar.Grammar.entries.Given as goal

abbrev pub invariant-loop-turn : goal.invariant-loop-turn
invariant-loop-turn g l = record {
  same : entries l.text l.tokens (expr l.text l.tokens l.self.depth) (length l.tokens - l._turn) (map field_view l.fields.items) l.context l.mark l.at
      ≡ entries l.text l.tokens (expr l.text l.tokens l.self.depth) (length l.tokens) [] l.context l.mark l.fn.from;
  depth : l.depth ≡ fields_depth (fields (map field_view l.fields.items));
  shallow : l.depth ≤ l.self.depth;
}
