use Rattle.std.proofs.Common.{◌≡◌, ◌-◌, ◌≤◌, length, map, []}
use Rattle.tla_tree.specs.View.{group_view}
use Rattle.tla_tree.specs.Tree.{binders}
use Rattle.tla_grammar.specs.Edges.{bound_depth}
use Rattle.tla_expressions.specs.ReadingLists.{groups}
use Rattle.tla_expressions.specs.Reading.{expr}
use Rattle.tla_expressions.proofs.grammar.Grammar.groups.Given as goal

abbrev pub invariant-loop-turn : goal.invariant-loop-turn
invariant-loop-turn g l = record {
  same : groups l.text l.tokens (expr l.text l.tokens l.self.depth) (length l.tokens - l._turn) (map group_view l.binders.items) l.context l.at
      ≡ groups l.text l.tokens (expr l.text l.tokens l.self.depth) (length l.tokens) [] l.context l.fn.from;
  depth : l.depth ≡ bound_depth (binders (map group_view l.binders.items));
  shallow : l.depth ≤ l.self.depth;
  within : l.at ≤ length l.tokens;
}
