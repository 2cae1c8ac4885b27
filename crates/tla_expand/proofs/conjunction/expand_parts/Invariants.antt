use Rattle.std.proofs.Common.{◌≡◌, ◌≤◌, ◌+◌, map}
use Rattle.tla_model.specs.Size.{nodes, depth}
use Rattle.tla_core.specs.ExprOf.{expr_of}
use Rattle.tla_scopes.specs.Scopes.{scope_at}
use Rattle.tla_expand.specs.Private.Gives.{part_in, pointed, total, highest}
use Rattle.tla_expand.proofs.Lists.{so_far}
use Rattle.tla_scopes.specs.Listed.{listed}
use Rattle.tla_expand.proofs.conjunction.expand_parts.Given as goal

abbrev pub invariant-loop-i : goal.invariant-loop-i
invariant-loop-i l = record {
  kept : listed l.entries ≡ listed l.fn.entries;
  so_far : so_far (part_in l.primes (scope_at (listed l.fn.entries) l.scope) 0) (pointed l.trees) (map expr_of l.parts.items) l.i;
  nodes_left : l.nodes_left + total nodes (map expr_of l.parts.items) ≡ 199999;
  depth : highest depth (map expr_of l.parts.items) ≤ 299;
}
