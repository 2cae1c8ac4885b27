use Rattle.std.proofs.Common.{Ok, codes, take, map, zip, length, max, ◌+◌, ◌*◌}
use Rattle.counted_writer.specs.Puts.{Puts}
use Rattle.tla_value.specs.Tree.{trees, pairs, depth, deepest, deepest_pair}
use Rattle.tla_value.specs.TreeOf.{tree_of, pair_of}
use Rattle.tla_value.specs.Arguments.{numbers_from}
use Rattle.tla_value.specs.Text.{joined, member_texts, field_texts, pair_texts}
use Rattle.tla_value.proofs.show.+show.Given as goal

-- from a value to its list of parts, and from there to a part, in steps of one
abbrev pub decreases-put_value : goal.decreases-put_value
decreases-put_value g l = 6 * depth (tree_of l.value.now)

abbrev pub decreases-put_set : goal.decreases-put_set
decreases-put_set g l = 6 * deepest (trees l.of.now) + 4

abbrev pub decreases-put_item : goal.decreases-put_item
decreases-put_item g l = 6 * depth (tree_of l.item.now) + 1

abbrev pub decreases-put_items : goal.decreases-put_items
decreases-put_items g l = 6 * deepest (trees (map tree_of l.items.now)) + 2

abbrev pub decreases-put_function : goal.decreases-put_function
decreases-put_function g l = 6 * deepest_pair (pairs l.of.now) + 5

abbrev pub decreases-put_numbers : goal.decreases-put_numbers
decreases-put_numbers g l = 6 * deepest (trees (map tree_of l.values.now)) + 4

abbrev pub decreases-put_listed : goal.decreases-put_listed
decreases-put_listed g l = 6 * deepest_pair (pairs (map pair_of (zip l.arguments.now l.values.now))) + 4

abbrev pub decreases-put_sequence : goal.decreases-put_sequence
decreases-put_sequence g l = 6 * deepest (trees (map tree_of l.values.now)) + 3

abbrev pub decreases-put_numbered : goal.decreases-put_numbered
decreases-put_numbered g l = 6 * deepest (trees (map tree_of l.values.now)) + 3

abbrev pub decreases-put_record : goal.decreases-put_record
decreases-put_record g l = 6 * deepest_pair (pairs (map pair_of (zip l.names.now l.values.now))) + 3

abbrev pub decreases-put_pairs : goal.decreases-put_pairs
decreases-put_pairs g l = 6 * deepest_pair (pairs (map pair_of (zip l.arguments.now l.values.now))) + 3

abbrev pub decreases-put_field : goal.decreases-put_field
decreases-put_field g l = 6 * depth (tree_of l.value.now) + 1

abbrev pub decreases-put_numbered_pair : goal.decreases-put_numbered_pair
decreases-put_numbered_pair g l = 6 * depth (tree_of l.value.now) + 2

abbrev pub decreases-put_pair : goal.decreases-put_pair
decreases-put_pair g l = 6 * max (depth (tree_of l.argument.now)) (depth (tree_of l.value.now)) + 1

-- the first texts were written
abbrev pub invariant-put_items-loop-i : goal.invariant-put_items-loop-i
invariant-put_items-loop-i g l =
    Puts (g.W.Write.contents l.initial.out) (g.W.Write.contents l.out) l.initial.written (joined (codes ", ") (take l.i (member_texts (trees (map tree_of l.items))))) (Ok l.written)

abbrev pub invariant-put_record-loop-i : goal.invariant-put_record-loop-i
invariant-put_record-loop-i g l =
    Puts (g.W.Write.contents l.initial.out) (g.W.Write.contents l.out) l.initial.written (joined (codes ", ") (take l.i (field_texts (pairs (map pair_of (zip l.names l.values)))))) (Ok l.written)

abbrev pub invariant-put_pairs-loop-i : goal.invariant-put_pairs-loop-i
invariant-put_pairs-loop-i g l =
    Puts (g.W.Write.contents l.initial.out) (g.W.Write.contents l.out) l.initial.written (joined (codes " @@ ") (take l.i (pair_texts (pairs (map pair_of (zip l.arguments l.values)))))) (Ok l.written)

abbrev pub invariant-put_numbered-loop-i : goal.invariant-put_numbered-loop-i
invariant-put_numbered-loop-i g l =
    Puts (g.W.Write.contents l.initial.out) (g.W.Write.contents l.out) l.initial.written (joined (codes " @@ ") (take l.i (pair_texts (pairs (map pair_of (zip (numbers_from (length l.values) l.first) l.values)))))) (Ok l.written)
