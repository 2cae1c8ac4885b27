use Rattle.std.proofs.Common.{◌≡◌, ◌-◌, ◌≤◌, length, map, []}
use Rattle.tla_tree.specs.View.{key_view}
use Rattle.tla_tree.specs.Tree.{keys}
use Rattle.tla_grammar.specs.Edges.{keys_depth}
use Rattle.tla_expressions.specs.Reading.{expr}
use Rattle.tla_expressions.specs.ReadingBrackets.{path}
use Rattle.tla_expressions.proofs.grammar.Grammar.path.Given as goal

abbrev pub invariant-loop-turn : goal.invariant-loop-turn
invariant-loop-turn g l = record {
  same : path l.text l.tokens (expr l.text l.tokens l.self.depth) (length l.tokens - l._turn) (map key_view l.keys.items) l.context l.at
      ≡ path l.text l.tokens (expr l.text l.tokens l.self.depth) (length l.tokens) [] l.context l.fn.from;
  depth : l.depth ≡ keys_depth (keys (map key_view l.keys.items));
  shallow : l.depth ≤ l.self.depth;
}
