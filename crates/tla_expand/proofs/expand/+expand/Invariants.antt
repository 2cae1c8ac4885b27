use Rattle.std.proofs.Common.{◌≡◌, ◌≤◌, ◌+◌, ◌*◌, map}
use Rattle.tla_model.specs.Size.{nodes, depth}
use Rattle.tla_core.specs.ExprOf.{expr_of, exprs_of_arm}
use Rattle.tla_scopes.specs.Scopes.{scope_at}
use Rattle.tla_expand.specs.Private.Gives.{part_in, arm_in, field_in, set_in, step_in, update_in, kept_part, total, highest, sum_of, larger_of, field_nodes, field_depth, update_nodes, update_depth}
use Rattle.tla_scopes.specs.Lists.{named_part, changed_part}
use Rattle.tla_expand.proofs.Lists.{so_far}
use Rattle.tla_scopes.specs.Listed.{listed}
use Rattle.tla_expand.proofs.expand.+expand.Given as goal

abbrev pub decreases-expand : goal.decreases-expand
decreases-expand l = 12 * l.at.depth_left

abbrev pub decreases-node_of : goal.decreases-node_of
decreases-node_of l = 12 * l.at.depth_left + 9

abbrev pub decreases-levels::check_form : goal.decreases-levels::check_form
decreases-levels::check_form l = 12 * l.at.depth_left + 10

abbrev pub decreases-levels::check_each : goal.decreases-levels::check_each
decreases-levels::check_each l = 12 * l.at.depth_left + 2

abbrev pub decreases-levels::check_tuple : goal.decreases-levels::check_tuple
decreases-levels::check_tuple l = 12 * l.at.depth_left + 3

abbrev pub decreases-levels::check_operand : goal.decreases-levels::check_operand
decreases-levels::check_operand l = 12 * l.at.depth_left + 4

abbrev pub decreases-levels::node_of_head : goal.decreases-levels::node_of_head
decreases-levels::node_of_head l = 12 * l.at.depth_left + 11

abbrev pub decreases-levels::check_part : goal.decreases-levels::check_part
decreases-levels::check_part l = 12 * l.at.depth_left + 1

abbrev pub decreases-levels::unchanged_node : goal.decreases-levels::unchanged_node
decreases-levels::unchanged_node l = 12 * l.at.depth_left + 5

abbrev pub decreases-levels::unchanged_parts : goal.decreases-levels::unchanged_parts
decreases-levels::unchanged_parts l = 12 * l.at.depth_left + 2

abbrev pub decreases-levels::unchanged_subscript : goal.decreases-levels::unchanged_subscript
decreases-levels::unchanged_subscript l = 12 * l.at.depth_left

abbrev pub decreases-levels::changed_subscript : goal.decreases-levels::changed_subscript
decreases-levels::changed_subscript l = 12 * l.at.depth_left + 2

abbrev pub decreases-use_node : goal.decreases-use_node
decreases-use_node l = 12 * l.at.depth_left + 5

abbrev pub decreases-one_node : goal.decreases-one_node
decreases-one_node l = 12 * l.at.depth_left + 4

abbrev pub decreases-two_node : goal.decreases-two_node
decreases-two_node l = 12 * l.at.depth_left + 4

abbrev pub decreases-three_node : goal.decreases-three_node
decreases-three_node l = 12 * l.at.depth_left + 4

abbrev pub decreases-many_node : goal.decreases-many_node
decreases-many_node l = 12 * l.at.depth_left + 4

abbrev pub decreases-index_node : goal.decreases-index_node
decreases-index_node l = 12 * l.at.depth_left + 4

abbrev pub decreases-cases_node : goal.decreases-cases_node
decreases-cases_node l = 12 * l.at.depth_left + 4

abbrev pub decreases-cases_or_node : goal.decreases-cases_or_node
decreases-cases_or_node l = 12 * l.at.depth_left + 4

abbrev pub decreases-two_parts : goal.decreases-two_parts
decreases-two_parts l = 12 * l.at.depth_left + 1

abbrev pub decreases-lists::expand_all : goal.decreases-lists::expand_all
decreases-lists::expand_all l = 12 * l.at.depth_left + 1

abbrev pub decreases-lists::expand_argument : goal.decreases-lists::expand_argument
decreases-lists::expand_argument l = 12 * l.at.depth_left + 2

abbrev pub decreases-lists::tuple_of : goal.decreases-lists::tuple_of
decreases-lists::tuple_of l = 12 * l.at.depth_left + 1

abbrev pub decreases-lists::arms_of : goal.decreases-lists::arms_of
decreases-lists::arms_of l = 12 * l.at.depth_left + 2

abbrev pub decreases-unchanged::expand_unchanged : goal.decreases-unchanged::expand_unchanged
decreases-unchanged::expand_unchanged l = 12 * l.at.depth_left + 3

abbrev pub decreases-unchanged::expand_each_unchanged : goal.decreases-unchanged::expand_each_unchanged
decreases-unchanged::expand_each_unchanged l = 12 * l.at.depth_left + 1

abbrev pub decreases-unchanged::expand_one_unchanged : goal.decreases-unchanged::expand_one_unchanged
decreases-unchanged::expand_one_unchanged l = 12 * l.at.depth_left

abbrev pub decreases-binding::bound_several : goal.decreases-binding::bound_several
decreases-binding::bound_several l = 12 * l.at.depth_left + 5

abbrev pub decreases-binding::bound_one : goal.decreases-binding::bound_one
decreases-binding::bound_one l = 12 * l.at.depth_left + 5

abbrev pub decreases-binding::expand_nested : goal.decreases-binding::expand_nested
decreases-binding::expand_nested l = 12 * l.at.depth_left + 4

abbrev pub decreases-binding::under_element : goal.decreases-binding::under_element
decreases-binding::under_element l = 12 * l.at.depth_left + 3

abbrev pub decreases-binding::under_name : goal.decreases-binding::under_name
decreases-binding::under_name l = 12 * l.at.depth_left + 2

abbrev pub decreases-binding::under_tuple : goal.decreases-binding::under_tuple
decreases-binding::under_tuple l = 12 * l.at.depth_left + 2

abbrev pub decreases-binding::expand_within : goal.decreases-binding::expand_within
decreases-binding::expand_within l = 12 * l.at.depth_left + 1

abbrev pub decreases-fields_node : goal.decreases-fields_node
decreases-fields_node l = 12 * l.at.depth_left + 4

abbrev pub decreases-product_node : goal.decreases-product_node
decreases-product_node l = 12 * l.at.depth_left + 4

abbrev pub decreases-lists::named_parts : goal.decreases-lists::named_parts
decreases-lists::named_parts l = 12 * l.at.depth_left + 1

abbrev pub decreases-binding::gather_node : goal.decreases-binding::gather_node
decreases-binding::gather_node l = 12 * l.at.depth_left + 4

abbrev pub decreases-binding::sets_of : goal.decreases-binding::sets_of
decreases-binding::sets_of l = 12 * l.at.depth_left + 2

abbrev pub decreases-binding::set_for : goal.decreases-binding::set_for
decreases-binding::set_for l = 12 * l.at.depth_left + 1

abbrev pub decreases-unchanged::expand_changed : goal.decreases-unchanged::expand_changed
decreases-unchanged::expand_changed l = 12 * l.at.depth_left

abbrev pub decreases-unchanged::square_node : goal.decreases-unchanged::square_node
decreases-unchanged::square_node l = 12 * l.at.depth_left + 4

abbrev pub decreases-unchanged::angle_node : goal.decreases-unchanged::angle_node
decreases-unchanged::angle_node l = 12 * l.at.depth_left + 4

abbrev pub decreases-updates::except_node : goal.decreases-updates::except_node
decreases-updates::except_node l = 12 * l.at.depth_left + 7

abbrev pub decreases-updates::changes : goal.decreases-updates::changes
decreases-updates::changes l = 12 * l.at.depth_left + 6

abbrev pub decreases-updates::change : goal.decreases-updates::change
decreases-updates::change l = 12 * l.at.depth_left + 5

abbrev pub decreases-updates::new_value : goal.decreases-updates::new_value
decreases-updates::new_value l = 12 * l.at.depth_left + 1

abbrev pub decreases-updates::path_of : goal.decreases-updates::path_of
decreases-updates::path_of l = 12 * l.at.depth_left + 4

abbrev pub decreases-updates::step_of : goal.decreases-updates::step_of
decreases-updates::step_of l = 12 * l.at.depth_left + 3

abbrev pub invariant-lists::expand_all-loop-i : goal.invariant-lists::expand_all-loop-i
invariant-lists::expand_all-loop-i l = record {
  kept : listed l.entries ≡ listed l.fn.entries;
  so_far : so_far (part_in l.at.primes (scope_at (listed l.fn.entries) l.at.scope) l.at.bound) l.trees (map expr_of l.parts.items) l.i;
  nodes_left : l.nodes_left + total nodes (map expr_of l.parts.items) ≡ l.at.nodes_left;
  depth : highest depth (map expr_of l.parts.items) ≤ l.at.depth_left;
}

abbrev pub invariant-lists::arms_of-loop-i : goal.invariant-lists::arms_of-loop-i
invariant-lists::arms_of-loop-i l = record {
  kept : listed l.entries ≡ listed l.fn.entries;
  so_far : so_far (arm_in l.at.primes (scope_at (listed l.fn.entries) l.at.scope) l.at.bound) l.arms (map exprs_of_arm l.made.items) l.i;
  nodes_left : l.nodes_left + total (sum_of nodes nodes) (map exprs_of_arm l.made.items) ≡ l.at.nodes_left;
  depth : highest (larger_of depth depth) (map exprs_of_arm l.made.items) ≤ l.at.depth_left;
}

abbrev pub invariant-unchanged::expand_each_unchanged-loop-i : goal.invariant-unchanged::expand_each_unchanged-loop-i
invariant-unchanged::expand_each_unchanged-loop-i l = record {
  kept : listed l.entries ≡ listed l.fn.entries;
  so_far : so_far (kept_part l.at.primes l.place (scope_at (listed l.fn.entries) l.at.scope) l.at.bound) l.trees (map expr_of l.parts.items) l.i;
  nodes_left : l.nodes_left + total nodes (map expr_of l.parts.items) ≡ l.at.nodes_left;
  depth : highest depth (map expr_of l.parts.items) ≤ l.at.depth_left;
}

abbrev pub invariant-lists::named_parts-loop-i : goal.invariant-lists::named_parts-loop-i
invariant-lists::named_parts-loop-i l = record {
  kept : listed l.entries ≡ listed l.fn.entries;
  so_far : so_far (field_in l.at.primes (scope_at (listed l.fn.entries) l.at.scope) l.at.bound) l.fields (map named_part l.made.items) l.i;
  nodes_left : l.nodes_left + total field_nodes (map named_part l.made.items) ≡ l.at.nodes_left;
  depth : highest field_depth (map named_part l.made.items) ≤ l.at.depth_left;
}

abbrev pub invariant-binding::sets_of-loop-i : goal.invariant-binding::sets_of-loop-i
invariant-binding::sets_of-loop-i l = record {
  kept : listed l.entries ≡ listed l.fn.entries;
  so_far : so_far (set_in l.place l.at.primes (scope_at (listed l.fn.entries) l.at.scope) l.at.bound) l.binds (map expr_of l.parts.items) l.i;
  nodes_left : l.nodes_left + total nodes (map expr_of l.parts.items) ≡ l.at.nodes_left;
  depth : highest depth (map expr_of l.parts.items) ≤ l.at.depth_left;
}

abbrev pub invariant-updates::path_of-loop-i : goal.invariant-updates::path_of-loop-i
invariant-updates::path_of-loop-i l = record {
  kept : listed l.entries ≡ listed l.fn.entries;
  so_far : so_far (step_in l.at.primes (scope_at (listed l.fn.entries) l.at.scope) l.at.bound) l.keys (map expr_of l.parts.items) l.i;
  nodes_left : l.nodes_left + total nodes (map expr_of l.parts.items) ≡ l.at.nodes_left;
  depth : highest depth (map expr_of l.parts.items) ≤ l.at.depth_left;
}

abbrev pub invariant-updates::changes-loop-i : goal.invariant-updates::changes-loop-i
invariant-updates::changes-loop-i l = record {
  kept : listed l.entries ≡ listed l.fn.entries;
  so_far : so_far (update_in l.at.primes (scope_at (listed l.fn.entries) l.at.scope) l.at.bound) l.updates (map changed_part l.made.items) l.i;
  nodes_left : l.nodes_left + total update_nodes (map changed_part l.made.items) ≡ l.at.nodes_left;
  depth : highest update_depth (map changed_part l.made.items) ≤ l.at.depth_left;
}
