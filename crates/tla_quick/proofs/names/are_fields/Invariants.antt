use Rattle.std.proofs.Common.{◌≡◌, map, drop}
use Rattle.std.specs.List.{list_all}
use Rattle.tla_value.specs.TreeOf.{tree_of}
use Rattle.tla_value.specs.Sets.{is_member}
use Rattle.tla_quick.specs.Private.Names.{names_in}
use Rattle.tla_quick.proofs.names.are_fields.Given as goal

abbrev pub invariant-loop-value : goal.invariant-loop-value
invariant-loop-value l =
    list_all (λ a. is_member a (names_in l.fields)) (map tree_of l.values)
    ≡ list_all (λ a. is_member a (names_in l.fields)) (map tree_of (drop l.value-index l.values))
