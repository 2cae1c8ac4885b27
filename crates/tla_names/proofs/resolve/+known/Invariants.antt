use Rattle.std.proofs.Common.{◌≡◌, ◌≤◌, ◌+◌, ◌*◌, max, ◌++◌, [], length, map}
use Rattle.tla_tree.specs.Tree.{trees, binders, arms, definitions, fields, keys, updates}
use Rattle.tla_tree.specs.View.{view, group_view, choice_view, definition_view, field_view, key_view, update_view}
use Rattle.tla_names.specs.Scope.{bound_names, signatures}
use Rattle.tla_names.specs.Known.{misused_each, misused_arms, misused_sets, misused_definitions, misused_fields, misused_keys, misused_updates}
use denote.Param.Weighed.{most}
use Rattle.tla_tree.specs.declared.tree.Expr.{size-Expr}
use Rattle.tla_tree.specs.declared.tree.Definition.{size-Definition}
use Rattle.tla_tree.specs.declared.tree.Arm.{size-Arm}
use Rattle.tla_tree.specs.declared.tree.Binder.{size-Binder}
use Rattle.tla_tree.specs.declared.tree.Field.{size-Field}
use Rattle.tla_tree.specs.declared.tree.Update.{size-Update}
use Rattle.tla_tree.specs.declared.tree.Key.{size-Key}
use Rattle.tla_names.proofs.resolve.+known.Given as goal

abbrev pub invariant-each-loop-left : goal.invariant-each-loop-left
invariant-each-loop-left l = record {
  shallow : most size-Expr l.left ≤ most size-Expr l.items;
  kept : l.scope ≡ l.fn.scope;
  same : misused_each l.modules l.fn.scope (trees (map view l.items)) ≡ misused_each l.modules l.fn.scope (trees (map view l.left));
}

abbrev pub decreases-each-loop-left : goal.decreases-each-loop-left
decreases-each-loop-left l = length l.left

abbrev pub invariant-each_arm-loop-left : goal.invariant-each_arm-loop-left
invariant-each_arm-loop-left l = record {
  shallow : most size-Arm l.left ≤ most size-Arm l.items;
  kept : l.scope ≡ l.fn.scope;
  same : misused_arms l.modules l.fn.scope (arms (map choice_view l.items)) ≡ misused_arms l.modules l.fn.scope (arms (map choice_view l.left));
}

abbrev pub decreases-each_arm-loop-left : goal.decreases-each_arm-loop-left
decreases-each_arm-loop-left l = length l.left

abbrev pub invariant-bind-loop-left : goal.invariant-bind-loop-left
invariant-bind-loop-left l = record {
  shallow : most size-Binder l.left ≤ most size-Binder l.groups;
  kept : l.scope ≡ l.fn.scope;
  names : bound_names (binders (map group_view l.groups)) ≡ l.new ++ bound_names (binders (map group_view l.left));
  same : misused_sets l.modules l.fn.scope [] (binders (map group_view l.groups)) ≡ misused_sets l.modules l.fn.scope l.new (binders (map group_view l.left));
}

abbrev pub decreases-bind-loop-left : goal.decreases-bind-loop-left
decreases-bind-loop-left l = length l.left

abbrev pub invariant-define-loop-left : goal.invariant-define-loop-left
invariant-define-loop-left l = record {
  shallow : most size-Definition l.left ≤ most size-Definition l.items;
  more : l.fn.scope ++ signatures (definitions (map definition_view l.items)) ≡ l.scope ++ signatures (definitions (map definition_view l.left));
  same : misused_definitions l.modules l.fn.scope (definitions (map definition_view l.items)) ≡ misused_definitions l.modules l.scope (definitions (map definition_view l.left));
}

abbrev pub decreases-define-loop-left : goal.decreases-define-loop-left
decreases-define-loop-left l = length l.left

abbrev pub invariant-each_field-loop-left : goal.invariant-each_field-loop-left
invariant-each_field-loop-left l = record {
  shallow : most size-Field l.left ≤ most size-Field l.items;
  kept : l.scope ≡ l.fn.scope;
  same : misused_fields l.modules l.fn.scope [] (fields (map field_view l.items)) ≡ misused_fields l.modules l.fn.scope l.before (fields (map field_view l.left));
}

abbrev pub decreases-each_field-loop-left : goal.decreases-each_field-loop-left
decreases-each_field-loop-left l = length l.left

abbrev pub invariant-each_update-loop-left : goal.invariant-each_update-loop-left
invariant-each_update-loop-left l = record {
  shallow : most size-Update l.left ≤ most size-Update l.items;
  kept : l.scope ≡ l.fn.scope;
  same : misused_updates l.modules l.fn.scope (updates (map update_view l.items)) ≡ misused_updates l.modules l.fn.scope (updates (map update_view l.left));
}

abbrev pub decreases-each_update-loop-left : goal.decreases-each_update-loop-left
decreases-each_update-loop-left l = length l.left

abbrev pub invariant-path-loop-left : goal.invariant-path-loop-left
invariant-path-loop-left l = record {
  shallow : most size-Key l.left ≤ most size-Key l.items;
  kept : l.scope ≡ l.fn.scope;
  same : misused_keys l.modules l.fn.scope (keys (map key_view l.items)) ≡ misused_keys l.modules l.fn.scope (keys (map key_view l.left));
}

abbrev pub decreases-path-loop-left : goal.decreases-path-loop-left
decreases-path-loop-left l = length l.left

-- ---- how deep what is left is, and then which function comes before which
abbrev pub decreases-expression : goal.decreases-expression
decreases-expression l = 4 * size-Expr l.tree.now

abbrev pub decreases-call : goal.decreases-call
decreases-call l = 4 * most size-Expr l.arguments.now + 2

abbrev pub decreases-index : goal.decreases-index
decreases-index l = 4 * max (size-Expr l.function.now) (most size-Expr l.arguments.now) + 2

abbrev pub decreases-bound : goal.decreases-bound
decreases-bound l = 4 * max (most size-Binder l.groups.now) (size-Expr l.body.now) + 2

abbrev pub decreases-within : goal.decreases-within
decreases-within l = 4 * max (most size-Definition l.items.now) (size-Expr l.body.now) + 2

abbrev pub decreases-case : goal.decreases-case
decreases-case l = 4 * max (most size-Arm l.items.now) (size-Expr l.other.now) + 2

abbrev pub decreases-each : goal.decreases-each
decreases-each l = 4 * most size-Expr l.items.now + 1

abbrev pub decreases-each_arm : goal.decreases-each_arm
decreases-each_arm l = 4 * most size-Arm l.items.now + 1

abbrev pub decreases-bind : goal.decreases-bind
decreases-bind l = 4 * most size-Binder l.groups.now + 1

abbrev pub decreases-function : goal.decreases-function
decreases-function l = 4 * max (most size-Binder l.groups.now) (size-Expr l.body.now) + 3

abbrev pub decreases-definition : goal.decreases-definition
decreases-definition l = 4 * size-Definition l.definition.now

abbrev pub decreases-define : goal.decreases-define
decreases-define l = 4 * most size-Definition l.items.now + 1

abbrev pub decreases-chosen : goal.decreases-chosen
decreases-chosen l = 4 * max (size-Expr l.set.now) (size-Expr l.body.now) + 2

abbrev pub decreases-element : goal.decreases-element
decreases-element l = 4 * size-Expr l.value.now + 1

abbrev pub decreases-bound_before : goal.decreases-bound_before
decreases-bound_before l = 4 * most size-Binder l.groups.now + 2

abbrev pub decreases-image : goal.decreases-image
decreases-image l = 4 * max (size-Expr l.value.now) (most size-Binder l.groups.now) + 3

abbrev pub decreases-each_field : goal.decreases-each_field
decreases-each_field l = 4 * most size-Field l.items.now + 1

abbrev pub decreases-except : goal.decreases-except
decreases-except l = 4 * max (size-Expr l.function.now) (most size-Update l.items.now) + 2

abbrev pub decreases-each_update : goal.decreases-each_update
decreases-each_update l = 4 * most size-Update l.items.now + 1

abbrev pub decreases-one_update : goal.decreases-one_update
decreases-one_update l = 4 * size-Update l.update.now

abbrev pub decreases-one_key : goal.decreases-one_key
decreases-one_key l = 4 * size-Key l.key.now

abbrev pub decreases-path : goal.decreases-path
decreases-path l = 4 * most size-Key l.items.now + 1
