use Rattle.std.proofs.Common.{◌≡◌, ℕ, ◌≤◌, ◌-◌, ◌∙◌, max, suc, List, ap, refl, sym, subst, arith, add-one, set as list_set}
use Rattle.tla_value.specs.Tree.{pairs, deepest_pair}
use Rattle.tla_value.specs.TreeOf.{tree_of}
use Rattle.tla_value.specs.TreeHash.{word_of, pairs_writes}
use Rattle.tla_value.specs.Private.Held.{entry_pairs, changed_pairs}
use Rattle.tla_value.specs.declared.value.Entries.{Entries}
use Rattle.tla_value.specs.declared.value.Value.{Value}
use Rattle.tla_value.proofs.Made.{deepest-there, deepest-with_value_at}
use Rattle.tla_value.proofs.Pairs.{entry_length, entry_same, deepest-replaced}
use Rattle.tla_value.proofs.value.put_entry.Goals as goal

-- the pairs after the value was replaced
changed : (e : Entries) (i : ℕ) (v : Value) (ws : List Value) → ws ≡ list_set e.values.items i v → entry_pairs e.domain ws ≡ changed_pairs e i v
changed e i v ws h = entry_same e.domain e.domain e.values.items ws i v refl h

pub deepest_after-requires-clause-there : goal.deepest_after-requires-clause-there
deepest_after-requires-clause-there c =
    let e = c.args.entries.now in
    subst (λ ps. c.nesting-added.result ≤ deepest_pair (pairs ps)) (sym (changed e c.args.index c.args.value _ (c.as_slice-values.ensures.value ∙ c.put_value.ensures)))
    (omega (arith, c.nesting-added.ensures.nesting, deepest-there (entry_pairs e.domain e.values.items) c.args.index (tree_of c.args.value) (omega (arith, entry_length e.domain e.values.items c.requires.fits, c.requires.at))))

pub deepest_after-requires-clause-within : goal.deepest_after-requires-clause-within
deepest_after-requires-clause-within c =
    let e = c.args.entries.now in
    subst (λ ps. deepest_pair (pairs ps) ≤ max (e.nesting - 1) c.nesting-added.result) (sym (changed e c.args.index c.args.value _ (c.as_slice-values.ensures.value ∙ c.put_value.ensures)))
    (omega (arith, c.nesting-added.ensures.nesting, c.requires.nested, deepest-with_value_at (entry_pairs e.domain e.values.items) c.args.index (tree_of c.args.value)))

pub deepest_after-requires-clause-kept : goal.deepest_after-requires-clause-kept
deepest_after-requires-clause-kept c =
    let e = c.args.entries.now in
    subst (λ ps. e.nesting - 1 ≤ max (deepest_pair (pairs ps)) c.nesting-replaced.result) (sym (changed e c.args.index c.args.value _ (c.as_slice-values.ensures.value ∙ c.put_value.ensures)))
    (omega (arith, c.nesting-replaced.ensures.nesting, c.requires.nested, deepest-replaced e.domain e.values.items c.args.index c.index.result.now c.args.value c.requires.at c.index.ensures))

deepest : (c : goal.After-deepest_after) → c.deepest_after.result ≡ deepest_pair (pairs (changed_pairs c.args.entries.now c.args.index c.args.value))
deepest c =
    c.deepest_after.ensures
    ∙ ap (λ ps. deepest_pair (pairs ps)) (changed c.args.entries.now c.args.index c.args.value _ (c.as_slice-values.ensures.value ∙ c.put_value.ensures))

pub overflow_add-entries : goal.overflow_add-entries
overflow_add-entries c = omega (arith, deepest c, c.requires.shallow)

pub returns-clause-nesting : goal.returns-clause-nesting
returns-clause-nesting c =
    rw add-one (ap suc (c.deepest_after.ensures
    ∙ ap (λ ps. deepest_pair (pairs ps)) (changed c.args.entries.now c.args.index c.args.value _ (c.as_slice-values.ensures.value ∙ c.put_value.ensures))))

pub returns-clause-hash : goal.returns-clause-hash
returns-clause-hash c =
    c.hash_pairs-entries.ensures
    ∙ ap (λ ps. word_of (pairs_writes (pairs ps))) (changed c.args.entries.now c.args.index c.args.value _ (c.as_slice.ensures.value ∙ c.put_value.ensures))
