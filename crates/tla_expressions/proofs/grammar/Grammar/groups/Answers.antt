use Rattle.std.proofs.Common.{◌≡◌, ◌+◌, ◌-◌, ◌++◌, ◌∷◌, [], Some, None, Ok, arith, sym, ◌∙◌, length, map, ap}
use Rattle.std.proofs.lemmas.Grind.{common_steps}
use Rattle.std.proofs.lemmas.Result.{err_from_is_err_and}
use Rattle.tla_grammar.specs.declared.tokens.Between.TheVariants as between
use Rattle.tla_tree.specs.View.{group_view}
use Rattle.tla_grammar.specs.Marks.{following}
use Rattle.tla_expressions.specs.ReadingLists.{group}
use Rattle.tla_expressions.specs.Reading.{expr}
use Rattle.tla_grammar.proofs.Fails.{refuses_fails}
use Rattle.tla_expressions.proofs.Lists.{comma_within}
use Rattle.tla_expressions.proofs.Sequence.{sequence_more, sequence_last, sequence_full, sequence_fails}
use Rattle.tla_expressions.proofs.Steps.{bound_depth_snoc, map_append}
use Rattle.tla_expressions.proofs.grammar.Grammar.groups.Goals as goal

pub returns-in_err-group : goal.returns-in_err-group
returns-in_err-group g c =
    let h : length c.args.tokens.now - c.loop-turn._turn ≡ (length c.args.tokens.now - (c.loop-turn._turn + 1)) + 1 = omega arith in
    let p = err_from_is_err_and c.from_residual.result c.from_residual.ensures.1 in
    rw (p.1, p.2, ← c.loop-turn.invariant.same)
    (sequence_fails (group c.args.text.now c.args.tokens.now (expr c.args.text.now c.args.tokens.now c.args.self.now.depth) c.args.context) (following c.args.tokens.now c.args.context.column between.Comma) c.args.text.now c.args.tokens.now c.in_err-group.field-0.0 (length c.args.tokens.now - c.loop-turn._turn) (length c.args.tokens.now - (c.loop-turn._turn + 1)) (map group_view c.loop-turn.binders.items) c.loop-turn.at h c.in_err-group.ensures)

pub returns-in_default : goal.returns-in_default
returns-in_default g c =
    let h : length c.args.tokens.now - c.loop-turn._turn ≡ (length c.args.tokens.now - (c.loop-turn._turn + 1)) + 1 = omega arith in
    let q : following c.args.tokens.now c.args.context.column between.Comma c.in_ok-group.group.end ≡ None = cc in
    let p : group c.args.text.now c.args.tokens.now (expr c.args.text.now c.args.tokens.now c.args.self.now.depth) c.args.context c.loop-turn.at ≡ Ok (group_view c.binder_of.result, c.in_ok-group.group.end) = rw (c.binder_of.ensures.pattern, c.binder_of.ensures.set) c.in_ok-group.ensures.0 in
    let s = sequence_last (group c.args.text.now c.args.tokens.now (expr c.args.text.now c.args.tokens.now c.args.self.now.depth) c.args.context) (following c.args.tokens.now c.args.context.column between.Comma) (length c.args.tokens.now - c.loop-turn._turn) (length c.args.tokens.now - (c.loop-turn._turn + 1)) (map group_view c.loop-turn.binders.items) c.loop-turn.at (group_view c.binder_of.result) c.in_ok-group.group.end h p q in
    let w : map group_view c.push.new.items.items ≡ map group_view c.loop-turn.binders.items ++ group_view c.binder_of.result ∷ [] = ap (λ x. map group_view x) c.in_ok-push.ensures.ok ∙ map_append group_view c.loop-turn.binders.items c.binder_of.result in
    let d = bound_depth_snoc (map group_view c.loop-turn.binders.items) (group_view c.binder_of.result) in
    rw w (sym c.loop-turn.invariant.same ∙ s, grind (arith, common_steps, d), grind (arith, common_steps))

pub loop-turn-preserved : goal.loop-turn-preserved
loop-turn-preserved g c =
    let h : length c.args.tokens.now - c.loop-turn._turn ≡ (length c.args.tokens.now - (c.loop-turn._turn + 1)) + 1 = omega arith in
    let q : following c.args.tokens.now c.args.context.column between.Comma c.in_ok-group.group.end ≡ Some c.in-Some.next = cc in
    let p : group c.args.text.now c.args.tokens.now (expr c.args.text.now c.args.tokens.now c.args.self.now.depth) c.args.context c.loop-turn.at ≡ Ok (group_view c.binder_of.result, c.in_ok-group.group.end) = rw (c.binder_of.ensures.pattern, c.binder_of.ensures.set) c.in_ok-group.ensures.0 in
    let s = sequence_more (group c.args.text.now c.args.tokens.now (expr c.args.text.now c.args.tokens.now c.args.self.now.depth) c.args.context) (following c.args.tokens.now c.args.context.column between.Comma) (length c.args.tokens.now - c.loop-turn._turn) (length c.args.tokens.now - (c.loop-turn._turn + 1)) (map group_view c.loop-turn.binders.items) c.loop-turn.at (group_view c.binder_of.result) c.in_ok-group.group.end c.in-Some.next h p q in
    let w : map group_view c.push.new.items.items ≡ map group_view c.loop-turn.binders.items ++ group_view c.binder_of.result ∷ [] = ap (λ x. map group_view x) c.in_ok-push.ensures.ok ∙ map_append group_view c.loop-turn.binders.items c.binder_of.result in
    let d = bound_depth_snoc (map group_view c.loop-turn.binders.items) (group_view c.binder_of.result) in
    rw w (record { same = sym s ∙ c.loop-turn.invariant.same; depth = grind (arith, common_steps, d); shallow = grind (arith, common_steps); within = comma_within c.args.text.now c.args.tokens.now c.args.context.column c.in_ok-group.group.end c.in-Some.next q })

pub returns : goal.returns
returns g c =
    let z : length c.args.tokens.now - c.loop-turn._turn ≡ 0 = omega arith in
    let n = sequence_full (group c.args.text.now c.args.tokens.now (expr c.args.text.now c.args.tokens.now c.args.self.now.depth) c.args.context) (following c.args.tokens.now c.args.context.column between.Comma) (length c.args.tokens.now - c.loop-turn._turn) (map group_view c.loop-turn.binders.items) c.loop-turn.at z in
    refuses_fails c.args.text.now c.args.tokens.now c.refused.result c.refused.ensures _ (sym c.loop-turn.invariant.same ∙ n)
