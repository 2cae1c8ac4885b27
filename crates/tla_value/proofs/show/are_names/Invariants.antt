use Rattle.std.proofs.Common.{◌≡◌, drop, map}
use Rattle.std.specs.List.{list_all}
use Rattle.tla_value.specs.TreeOf.{tree_of}
use Rattle.tla_value.specs.Text.{is_field}
use Rattle.tla_value.proofs.show.are_names.Given as goal

abbrev pub invariant-loop-argument : goal.invariant-loop-argument
invariant-loop-argument l = list_all is_field (map tree_of (drop l.argument-index l.arguments)) ≡ list_all is_field (map tree_of l.arguments)
