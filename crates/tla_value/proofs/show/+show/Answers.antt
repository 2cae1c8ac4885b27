use Rattle.std.proofs.Common.{◌≡◌, ◌<◌, pos, ◌+ℤ◌, to_z, of_z, w64, codes, ◌++◌, map, zip, length, ap, sym, ◌∙◌, arith, add-one}
use Rattle.std.proofs.lemmas.Int.{ints}
use Rattle.counted_writer.specs.PutsLaws.{puts_exit, puts_then, puts_short}
use Rattle.tla_value.specs.Tree.{trees, pairs, deepest, deepest_pair}
use Rattle.tla_value.specs.TreeOf.{tree_of, pair_of}
use Rattle.tla_value.specs.Arguments.{numbers_from}
use Rattle.tla_value.specs.declared.value.Value.{Value}
use Rattle.tla_value.specs.declared.value.Value.TheVariants.{Int}
use Rattle.tla_value.specs.Text.{text_of, field_name, joined, member_texts, field_texts, pair_texts}
use Rattle.tla_value.proofs.Parts.{depth-member-is}
use Rattle.tla_value.proofs.Pairs.{at-zip, length-zip, deepest-zip, length-numbers, get_or-numbers, value-count, pairs-back, deepest-values, same-length}
use Rattle.tla_value.proofs.Shown.{next_member, next_field, next_pair, length-member_texts, length-field_texts, length-pair_texts, puts_more, puts_cut, puts_joined, puts_stopped, puts_listed, text-of-sequence, text-of-record, text-of-pairs, text-of-numbers, text-of-counted}
use Rattle.tla_value.proofs.show.+show.Goals as goal

-- ---- sets and sequences
pub put_item-returns-in_err-written : goal.put_item-returns-in_err-written
put_item-returns-in_err-written g t c = puts_exit _ _ c.from_residual.ensures.1 (puts_short (text_of (tree_of c.args.item.now)) c.in_err-written.ensures)

pub put_item-returns : goal.put_item-returns
put_item-returns g t c = puts_then c.in_ok-written.ensures c.put_value.ensures

pub put_items-put_item-requires : goal.put_items-put_item-requires
put_items-put_item-requires g t c κs within = (omega (arith, depth-member-is c.args.items.now c.loop-i.i c.index-items-i.result c.index-items-i.is), within)

pub put_items-loop-i-preserved : goal.put_items-loop-i-preserved
put_items-loop-i-preserved g t c =
    rw add-one (puts_more (next_member (codes ", ") c.args.items.now c.loop-i.i c.index-items-i.result c.loop-i-test.true c.index-items-i.is) c.loop-i.invariant c.in_ok-written.ensures)

pub put_items-returns-in_err-written : goal.put_items-returns-in_err-written
put_items-returns-in_err-written g t c =
    puts_exit _ _ c.from_residual.ensures.1 (puts_cut (next_member (codes ", ") c.args.items.now c.loop-i.i c.index-items-i.result c.loop-i-test.true c.index-items-i.is) c.loop-i.invariant c.in_err-written.ensures)

pub put_items-returns : goal.put_items-returns
put_items-returns g t c = puts_joined (codes ", ") (member_texts (trees (map tree_of c.args.items.now))) c.loop-i.i (omega (arith, length-member_texts c.args.items.now)) c.loop-i.invariant

pub put_set-put_items-requires : goal.put_set-put_items-requires
put_set-put_items-requires g t c κs within = (omega (arith, ap (λ ts. deepest (trees ts)) c.items-items.ensures.items), within)

pub put_set-returns-in_err-written : goal.put_set-returns-in_err-written
put_set-returns-in_err-written g t c =
    puts_exit _ _ c.from_residual.ensures.1 (puts_short (joined (codes ", ") (member_texts (trees c.args.of.now)) ++ codes "}") c.in_err-written.ensures)

pub put_set-returns-in_err-written-2 : goal.put_set-returns-in_err-written-2
put_set-returns-in_err-written-2 g t c =
    rw (← c.items-items.ensures.items)
    (puts_exit _ _ c.from_residual-in_err-written-2.ensures.1 (puts_then c.in_ok-written.ensures (puts_short (codes "}") c.in_err-written-2.ensures)))

pub put_set-returns : goal.put_set-returns
put_set-returns g t c = rw (← c.items-items.ensures.items) (puts_then c.in_ok-written.ensures (puts_then c.in_ok-written-2.ensures c.put-2.ensures))

pub put_sequence-returns-in_err-written : goal.put_sequence-returns-in_err-written
put_sequence-returns-in_err-written g t c =
    puts_exit _ _ c.from_residual.ensures.1 (puts_short (joined (codes ", ") (member_texts (trees (map tree_of c.args.values.now))) ++ codes ">>") c.in_err-written.ensures)

pub put_sequence-returns-in_err-written-2 : goal.put_sequence-returns-in_err-written-2
put_sequence-returns-in_err-written-2 g t c =
    puts_exit _ _ c.from_residual-in_err-written-2.ensures.1 (puts_then c.in_ok-written.ensures (puts_short (codes ">>") c.in_err-written-2.ensures))

pub put_sequence-returns : goal.put_sequence-returns
put_sequence-returns g t c = puts_then c.in_ok-written.ensures (puts_then c.in_ok-written-2.ensures c.put-2.ensures)

-- ---- records
pub put_field-returns-in_err-written : goal.put_field-returns-in_err-written
put_field-returns-in_err-written g t c =
    puts_exit _ _ c.from_residual.ensures.1 (puts_short (field_name (tree_of c.args.name.now) ++ (codes " |-> " ++ text_of (tree_of c.args.value.now))) c.in_err-written.ensures)

pub put_field-returns-in_err-written-2 : goal.put_field-returns-in_err-written-2
put_field-returns-in_err-written-2 g t c =
    puts_exit _ _ c.from_residual-in_err-written-2.ensures.1
    (puts_then c.in_ok-written.ensures (puts_short (codes " |-> " ++ text_of (tree_of c.args.value.now)) c.in_err-written-2.ensures))

pub put_field-returns-in_err-written-3 : goal.put_field-returns-in_err-written-3
put_field-returns-in_err-written-3 g t c =
    puts_exit _ _ c.from_residual-in_err-written-3.ensures.1
    (puts_then c.in_ok-written.ensures (puts_then c.in_ok-written-2.ensures (puts_short (text_of (tree_of c.args.value.now)) c.in_err-written-3.ensures)))

pub put_field-returns : goal.put_field-returns
put_field-returns g t c = puts_then c.in_ok-written.ensures (puts_then c.in_ok-written-2.ensures (puts_then c.in_ok-written-3.ensures c.put_value.ensures))

pub put_record-put_field-requires : goal.put_record-put_field-requires
put_record-put_field-requires g t c κs within =
    (omega (arith, c.requires, deepest-zip c.args.names.now c.args.values.now c.requires, depth-member-is c.args.names.now c.loop-i.i c.index-names-i.result c.index-names-i.is, depth-member-is c.args.values.now c.loop-i.i c.index-values-i.result c.index-values-i.is), within)

pub put_record-loop-i-preserved : goal.put_record-loop-i-preserved
put_record-loop-i-preserved g t c =
    let ks = c.args.names.now in
    let vs = c.args.values.now in
    let is = at-zip ks vs c.loop-i.i c.index-names-i.result c.index-values-i.result c.loop-i-test.true (omega (arith, c.requires, c.loop-i-test.true)) c.index-names-i.is c.index-values-i.is in
    rw add-one (puts_more (next_field (codes ", ") (zip ks vs) c.loop-i.i (c.index-names-i.result, c.index-values-i.result) (omega (arith, c.requires, length-zip ks vs c.requires, c.loop-i-test.true)) is) c.loop-i.invariant c.in_ok-written-2.ensures)

pub put_record-returns-in_err-written : goal.put_record-returns-in_err-written
put_record-returns-in_err-written g t c =
    puts_exit _ _ c.from_residual.ensures.1 (puts_short (joined (codes ", ") (field_texts (pairs (map pair_of (zip c.args.names.now c.args.values.now)))) ++ codes "]") c.in_err-written.ensures)

pub put_record-returns-in_err-written-2 : goal.put_record-returns-in_err-written-2
put_record-returns-in_err-written-2 g t c =
    let ks = c.args.names.now in
    let vs = c.args.values.now in
    let is = at-zip ks vs c.loop-i.i c.index-names-i.result c.index-values-i.result c.loop-i-test.true (omega (arith, c.requires, c.loop-i-test.true)) c.index-names-i.is c.index-values-i.is in
    puts_exit _ _ c.from_residual-in_err-written-2.ensures.1 (puts_stopped (codes "]") (next_field (codes ", ") (zip ks vs) c.loop-i.i (c.index-names-i.result, c.index-values-i.result) (omega (arith, c.requires, length-zip ks vs c.requires, c.loop-i-test.true)) is)
    c.in_ok-written.ensures c.loop-i.invariant c.in_err-written-2.ensures)

pub put_record-returns : goal.put_record-returns
put_record-returns g t c =
    let ps = zip c.args.names.now c.args.values.now in
    puts_listed (codes ", ") (field_texts (pairs (map pair_of ps))) c.loop-i.i (omega (arith, length-field_texts ps, length-zip c.args.names.now c.args.values.now c.requires, c.requires, c.loop-i-test.false)) c.in_ok-written.ensures c.loop-i.invariant c.put-2.ensures

-- ---- other functions
pub put_pair-returns-in_err-written : goal.put_pair-returns-in_err-written
put_pair-returns-in_err-written g t c =
    puts_exit _ _ c.from_residual.ensures.1 (puts_short (text_of (tree_of c.args.argument.now) ++ (codes " :> " ++ text_of (tree_of c.args.value.now))) c.in_err-written.ensures)

pub put_pair-returns-in_err-written-2 : goal.put_pair-returns-in_err-written-2
put_pair-returns-in_err-written-2 g t c =
    puts_exit _ _ c.from_residual-in_err-written-2.ensures.1
    (puts_then c.in_ok-written.ensures (puts_short (codes " :> " ++ text_of (tree_of c.args.value.now)) c.in_err-written-2.ensures))

pub put_pair-returns-in_err-written-3 : goal.put_pair-returns-in_err-written-3
put_pair-returns-in_err-written-3 g t c =
    puts_exit _ _ c.from_residual-in_err-written-3.ensures.1
    (puts_then c.in_ok-written.ensures (puts_then c.in_ok-written-2.ensures (puts_short (text_of (tree_of c.args.value.now)) c.in_err-written-3.ensures)))

pub put_pair-returns : goal.put_pair-returns
put_pair-returns g t c = puts_then c.in_ok-written.ensures (puts_then c.in_ok-written-2.ensures (puts_then c.in_ok-written-3.ensures c.put_value-2.ensures))

pub put_pairs-put_pair-requires : goal.put_pairs-put_pair-requires
put_pairs-put_pair-requires g t c κs within =
    (omega (arith, c.requires, deepest-zip c.args.arguments.now c.args.values.now c.requires, depth-member-is c.args.arguments.now c.loop-i.i c.index-arguments-i.result c.index-arguments-i.is, depth-member-is c.args.values.now c.loop-i.i c.index-values-i.result c.index-values-i.is), within)

pub put_pairs-loop-i-preserved : goal.put_pairs-loop-i-preserved
put_pairs-loop-i-preserved g t c =
    let ks = c.args.arguments.now in
    let vs = c.args.values.now in
    let is = at-zip ks vs c.loop-i.i c.index-arguments-i.result c.index-values-i.result c.loop-i-test.true (omega (arith, c.requires, c.loop-i-test.true)) c.index-arguments-i.is c.index-values-i.is in
    rw add-one (puts_more (next_pair (codes " @@ ") (zip ks vs) c.loop-i.i (c.index-arguments-i.result, c.index-values-i.result) (omega (arith, c.requires, length-zip ks vs c.requires, c.loop-i-test.true)) is) c.loop-i.invariant c.in_ok-written-2.ensures)

pub put_pairs-returns-in_err-written : goal.put_pairs-returns-in_err-written
put_pairs-returns-in_err-written g t c =
    puts_exit _ _ c.from_residual.ensures.1 (puts_short (joined (codes " @@ ") (pair_texts (pairs (map pair_of (zip c.args.arguments.now c.args.values.now)))) ++ codes ")") c.in_err-written.ensures)

pub put_pairs-returns-in_err-written-2 : goal.put_pairs-returns-in_err-written-2
put_pairs-returns-in_err-written-2 g t c =
    let ks = c.args.arguments.now in
    let vs = c.args.values.now in
    let is = at-zip ks vs c.loop-i.i c.index-arguments-i.result c.index-values-i.result c.loop-i-test.true (omega (arith, c.requires, c.loop-i-test.true)) c.index-arguments-i.is c.index-values-i.is in
    puts_exit _ _ c.from_residual-in_err-written-2.ensures.1 (puts_stopped (codes ")") (next_pair (codes " @@ ") (zip ks vs) c.loop-i.i (c.index-arguments-i.result, c.index-values-i.result) (omega (arith, c.requires, length-zip ks vs c.requires, c.loop-i-test.true)) is)
    c.in_ok-written.ensures c.loop-i.invariant c.in_err-written-2.ensures)

pub put_pairs-returns : goal.put_pairs-returns
put_pairs-returns g t c =
    let ps = zip c.args.arguments.now c.args.values.now in
    puts_listed (codes " @@ ") (pair_texts (pairs (map pair_of ps))) c.loop-i.i (omega (arith, length-pair_texts ps, length-zip c.args.arguments.now c.args.values.now c.requires, c.requires, c.loop-i-test.false)) c.in_ok-written.ensures c.loop-i.invariant c.put-2.ensures

-- ---- functions on numbers
pub put_numbered-put_numbered_pair-requires : goal.put_numbered-put_numbered_pair-requires
put_numbered-put_numbered_pair-requires g t c κs within = (omega (arith, depth-member-is c.args.values.now c.loop-i.i c.index-values-i.result c.index-values-i.is), within)

pub put_numbered-loop-i-preserved : goal.put_numbered-loop-i-preserved
put_numbered-loop-i-preserved g t c =
    let z = to_z w64 (of_z w64 c.args.first) in
    let vs = c.args.values.now in
    let n = length vs in
    let i = c.loop-i.i in
    let k : Value = Int (z +ℤ pos i) in
    let v = c.index-values-i.result in
    let next : to_z w64 (of_z w64 (z +ℤ to_z w64 i)) ≡ z +ℤ pos i = omega (arith, ints) in
    let is = at-zip (numbers_from n z) vs i k v (omega (arith, length-numbers n z, c.loop-i-test.true)) c.loop-i-test.true (sym (get_or-numbers n z i k c.loop-i-test.true)) c.index-values-i.is in
    rw add-one (puts_more (next_pair (codes " @@ ") (zip (numbers_from n z) vs) i (k, v) (omega (arith, length-zip (numbers_from n z) vs (length-numbers n z), c.loop-i-test.true)) is) c.loop-i.invariant (rw next at c.in_ok-written-2.ensures))

pub put_numbered-returns-in_err-written : goal.put_numbered-returns-in_err-written
put_numbered-returns-in_err-written g t c =
    puts_exit _ _ c.from_residual.ensures.1 (puts_short (joined (codes " @@ ") (pair_texts (pairs (map pair_of (zip (numbers_from (length c.args.values.now) c.args.first) c.args.values.now)))) ++ codes ")") c.in_err-written.ensures)

pub put_numbered-returns-in_err-written-2 : goal.put_numbered-returns-in_err-written-2
put_numbered-returns-in_err-written-2 g t c =
    let z = to_z w64 (of_z w64 c.args.first) in
    let vs = c.args.values.now in
    let n = length vs in
    let i = c.loop-i.i in
    let k : Value = Int (z +ℤ pos i) in
    let v = c.index-values-i.result in
    let same : z ≡ c.args.first = omega (arith, ints) in
    let next : to_z w64 (of_z w64 (z +ℤ to_z w64 i)) ≡ z +ℤ pos i = omega (arith, ints) in
    let is = at-zip (numbers_from n z) vs i k v (omega (arith, length-numbers n z, c.loop-i-test.true)) c.loop-i-test.true (sym (get_or-numbers n z i k c.loop-i-test.true)) c.index-values-i.is in
    rw same at
    (puts_exit _ _ c.from_residual-in_err-written-2.ensures.1 (puts_stopped (codes ")") (next_pair (codes " @@ ") (zip (numbers_from n z) vs) i (k, v) (omega (arith, length-zip (numbers_from n z) vs (length-numbers n z), c.loop-i-test.true)) is)
    c.in_ok-written.ensures c.loop-i.invariant (rw next at c.in_err-written-2.ensures)))

pub put_numbered-returns : goal.put_numbered-returns
put_numbered-returns g t c =
    let z = to_z w64 (of_z w64 c.args.first) in
    let vs = c.args.values.now in
    let ps = zip (numbers_from (length vs) z) vs in
    let same : z ≡ c.args.first = omega (arith, ints) in
    rw same at (puts_listed (codes " @@ ") (pair_texts (pairs (map pair_of ps))) c.loop-i.i (omega (arith, length-pair_texts ps, length-zip (numbers_from (length vs) z) vs (length-numbers (length vs) z), c.loop-i-test.false)) c.in_ok-written.ensures c.loop-i.invariant c.put-2.ensures)

pub put_numbers-returns-then-first-eq1 : goal.put_numbers-returns-then-first-eq1
put_numbers-returns-then-first-eq1 g t c =
    let one : c.args.first ≡ pos 1 = grind (arith, ints, c.if-first-eq1.true) in
    rw (text-of-counted c.args.values.now c.args.first c.requires.some one) c.put_sequence.ensures

pub put_numbers-returns-else-first-eq1 : goal.put_numbers-returns-else-first-eq1
put_numbers-returns-else-first-eq1 g t c =
    let same : to_z w64 (of_z w64 c.args.first) ≡ c.args.first = omega (arith, ints) in
    let other : c.args.first ≡ pos 1 → ⊥ = λ e. grind (arith, ints, c.if-first-eq1.false, e) in
    rw (text-of-numbers c.args.values.now c.args.first c.requires.some other) (rw same at c.put_numbered.ensures)

-- ---- the notation of a function
pub put_listed-returns-then-are_from_one : goal.put_listed-returns-then-are_from_one
put_listed-returns-then-are_from_one g t c = rw (text-of-sequence c.args.arguments.now c.args.values.now c.requires.long c.requires.some (sym c.are_from_one.ensures ∙ c.if-are_from_one.true)) c.put_sequence.ensures

pub put_listed-returns-then-are_names : goal.put_listed-returns-then-are_names
put_listed-returns-then-are_names g t c = rw (text-of-record c.args.arguments.now c.args.values.now c.requires.long c.requires.some (sym c.are_from_one.ensures ∙ c.if-are_from_one.false) (sym c.are_names.ensures ∙ c.if-are_names.true)) c.put_record.ensures

pub put_listed-returns-else-are_names : goal.put_listed-returns-else-are_names
put_listed-returns-else-are_names g t c = rw (text-of-pairs c.args.arguments.now c.args.values.now c.requires.long c.requires.some (sym c.are_from_one.ensures ∙ c.if-are_from_one.false) (sym c.are_names.ensures ∙ c.if-are_names.false)) c.put_pairs.ensures

pub put_listed-put_sequence-requires : goal.put_listed-put_sequence-requires
put_listed-put_sequence-requires g t c κs within = (omega (arith, deepest-zip c.args.arguments.now c.args.values.now c.requires.long), within)

pub put_function-put_numbers-requires : goal.put_function-put_numbers-requires
put_function-put_numbers-requires g t c κs within =
    let of = c.args.of.now in
    let n = value-count c.values-values.result.now of c.values-values.ensures.values in
    let same : to_z w64 (of_z w64 c.in-Numbers.first) ≡ c.in-Numbers.first = omega (arith, ints) in
    let fit = c.in-Numbers.ensures.fit in
    (omega (arith, deepest-values of, ap (λ ts. deepest (trees ts)) c.values-values.ensures.values), (within, (omega (arith, n, fit.0), rw (same, n) fit.1)))

pub put_function-put_listed-requires : goal.put_function-put_listed-requires
put_function-put_listed-requires g t c κs within =
    let vs = c.values-values.result.now in
    let ks = c.in-Listed.arguments.now in
    let back = pairs-back ks vs c.args.of.now c.in-Listed.ensures.arguments c.values-values.ensures.values in
    let some : 0 < length vs = grind (arith, sym c.is_empty.ensures ∙ c.if-is_empty.false) in
    (omega (arith, ap (λ ps. deepest_pair (pairs ps)) back), (within, (same-length ks vs c.args.of.now c.in-Listed.ensures.arguments c.values-values.ensures.values, some)))

pub put_function-returns-in-Numbers : goal.put_function-returns-in-Numbers
put_function-returns-in-Numbers g t c =
    let of = c.args.of.now in
    let vs = c.values-values.result.now in
    let n = value-count vs of c.values-values.ensures.values in
    let same : to_z w64 (of_z w64 c.in-Numbers.first) ≡ c.in-Numbers.first = omega (arith, ints) in
    let back : map pair_of (zip (numbers_from (length vs) c.in-Numbers.first) vs) ≡ of = pairs-back _ vs of (rw (← n) at c.in-Numbers.ensures.arguments) c.values-values.ensures.values in
    rw back at (rw same at c.put_numbers.ensures)

pub put_function-returns-in-Listed : goal.put_function-returns-in-Listed
put_function-returns-in-Listed g t c =
    let back = pairs-back c.in-Listed.arguments.now c.values-values.result.now c.args.of.now c.in-Listed.ensures.arguments c.values-values.ensures.values in
    rw back at c.put_listed.ensures
