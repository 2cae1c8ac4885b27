use Rattle.std.proofs.Common.{◌≡◌, ◌≤◌, ◌+◌, ◌*◌, max, ◌++◌, length, map}
use Rattle.tla_tree.specs.Tree.{trees, binders, arms, definitions, fields, keys, updates}
use Rattle.tla_tree.specs.View.{view, group_view, choice_view, definition_view, field_view, key_view, update_view}
use Rattle.tla_items.specs.References.{names_each, names_sets, names_arms, names_fields, names_updates, names_keys, names_definitions}
use denote.Param.Weighed.{most}
use Rattle.tla_tree.specs.declared.tree.Expr.{size-Expr}
use Rattle.tla_tree.specs.declared.tree.Binder.{size-Binder}
use Rattle.tla_tree.specs.declared.tree.Arm.{size-Arm}
use Rattle.tla_tree.specs.declared.tree.Field.{size-Field}
use Rattle.tla_tree.specs.declared.tree.Update.{size-Update}
use Rattle.tla_tree.specs.declared.tree.Key.{size-Key}
use Rattle.tla_tree.specs.declared.tree.Definition.{size-Definition}
use Rattle.tla_items.proofs.names_in.+names_in.Given as goal

abbrev pub invariant-each-loop-left : goal.invariant-each-loop-left
invariant-each-loop-left l = record {
  shallow : most size-Expr l.left ≤ most size-Expr l.items;
  same : l.fn.names ++ names_each (trees (map view l.items)) ≡ l.names ++ names_each (trees (map view l.left));
}

abbrev pub decreases-each-loop-left : goal.decreases-each-loop-left
decreases-each-loop-left l = length l.left

abbrev pub invariant-each_set-loop-left : goal.invariant-each_set-loop-left
invariant-each_set-loop-left l = record {
  shallow : most size-Binder l.left ≤ most size-Binder l.items;
  same : l.fn.names ++ names_sets (binders (map group_view l.items)) ≡ l.names ++ names_sets (binders (map group_view l.left));
}

abbrev pub decreases-each_set-loop-left : goal.decreases-each_set-loop-left
decreases-each_set-loop-left l = length l.left

abbrev pub invariant-each_arm-loop-left : goal.invariant-each_arm-loop-left
invariant-each_arm-loop-left l = record {
  shallow : most size-Arm l.left ≤ most size-Arm l.items;
  same : l.fn.names ++ names_arms (arms (map choice_view l.items)) ≡ l.names ++ names_arms (arms (map choice_view l.left));
}

abbrev pub decreases-each_arm-loop-left : goal.decreases-each_arm-loop-left
decreases-each_arm-loop-left l = length l.left

abbrev pub invariant-each_field-loop-left : goal.invariant-each_field-loop-left
invariant-each_field-loop-left l = record {
  shallow : most size-Field l.left ≤ most size-Field l.items;
  same : l.fn.names ++ names_fields (fields (map field_view l.items)) ≡ l.names ++ names_fields (fields (map field_view l.left));
}

abbrev pub decreases-each_field-loop-left : goal.decreases-each_field-loop-left
decreases-each_field-loop-left l = length l.left

abbrev pub invariant-each_update-loop-left : goal.invariant-each_update-loop-left
invariant-each_update-loop-left l = record {
  shallow : most size-Update l.left ≤ most size-Update l.items;
  same : l.fn.names ++ names_updates (updates (map update_view l.items)) ≡ l.names ++ names_updates (updates (map update_view l.left));
}

abbrev pub decreases-each_update-loop-left : goal.decreases-each_update-loop-left
decreases-each_update-loop-left l = length l.left

abbrev pub invariant-path-loop-left : goal.invariant-path-loop-left
invariant-path-loop-left l = record {
  shallow : most size-Key l.left ≤ most size-Key l.items;
  same : l.fn.names ++ names_keys (keys (map key_view l.items)) ≡ l.names ++ names_keys (keys (map key_view l.left));
}

abbrev pub decreases-path-loop-left : goal.decreases-path-loop-left
decreases-path-loop-left l = length l.left

abbrev pub invariant-each_definition-loop-left : goal.invariant-each_definition-loop-left
invariant-each_definition-loop-left l = record {
  shallow : most size-Definition l.left ≤ most size-Definition l.items;
  same : l.fn.names ++ names_definitions (definitions (map definition_view l.items)) ≡ l.names ++ names_definitions (definitions (map definition_view l.left));
}

abbrev pub decreases-each_definition-loop-left : goal.decreases-each_definition-loop-left
decreases-each_definition-loop-left l = length l.left

-- ---- how deep what is left is, and then which function comes before which
abbrev pub decreases-expression : goal.decreases-expression
decreases-expression l = 4 * size-Expr l.tree.now

abbrev pub decreases-first_and : goal.decreases-first_and
decreases-first_and l = 4 * max (size-Expr l.first.now) (most size-Expr l.others.now) + 2

abbrev pub decreases-bound : goal.decreases-bound
decreases-bound l = 4 * max (most size-Binder l.groups.now) (size-Expr l.body.now) + 2

abbrev pub decreases-within : goal.decreases-within
decreases-within l = 4 * max (most size-Definition l.items.now) (size-Expr l.body.now) + 2

abbrev pub decreases-except : goal.decreases-except
decreases-except l = 4 * max (size-Expr l.function.now) (most size-Update l.items.now) + 2

abbrev pub decreases-each : goal.decreases-each
decreases-each l = 4 * most size-Expr l.items.now + 1

abbrev pub decreases-each_set : goal.decreases-each_set
decreases-each_set l = 4 * most size-Binder l.items.now + 1

abbrev pub decreases-each_arm : goal.decreases-each_arm
decreases-each_arm l = 4 * most size-Arm l.items.now + 1

abbrev pub decreases-each_field : goal.decreases-each_field
decreases-each_field l = 4 * most size-Field l.items.now + 1

abbrev pub decreases-each_update : goal.decreases-each_update
decreases-each_update l = 4 * most size-Update l.items.now + 1

abbrev pub decreases-one_key : goal.decreases-one_key
decreases-one_key l = 4 * size-Key l.key.now

abbrev pub decreases-path : goal.decreases-path
decreases-path l = 4 * most size-Key l.items.now + 1

abbrev pub decreases-each_definition : goal.decreases-each_definition
decreases-each_definition l = 4 * most size-Definition l.items.now + 1

abbrev pub decreases-definition : goal.decreases-definition
decreases-definition l = 4 * size-Definition l.definition.now
