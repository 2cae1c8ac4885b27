use Rattle.std.proofs.Common.{◌≡◌, ◌+◌, ◌-◌, ◌++◌, ◌∷◌, [], Some, None, arith, sym, ◌∙◌, length, map, ap}
use Rattle.std.proofs.lemmas.Grind.{common_steps}
use Rattle.std.proofs.lemmas.Result.{err_from_is_err_and}
use Rattle.tla_grammar.specs.declared.tokens.Between.TheVariants as between
use Rattle.tla_tree.specs.View.{choice_view}
use Rattle.tla_grammar.specs.Marks.{following}
use Rattle.tla_expressions.specs.Reading.{arm_at, expr}
use Rattle.tla_grammar.proofs.Fails.{refuses_fails}
use Rattle.tla_expressions.proofs.Sequence.{sequence_more, sequence_last, sequence_full, sequence_fails}
use Rattle.tla_expressions.proofs.Steps.{arms_depth_snoc, map_append}
use Rattle.tla_expressions.proofs.grammar.Grammar.arms_at.Goals as goal

pub returns-in_err-found : goal.returns-in_err-found
returns-in_err-found g c =
    let h : length c.args.tokens.now - c.loop-turn._turn ≡ (length c.args.tokens.now - (c.loop-turn._turn + 1)) + 1 = omega arith in
    let p = err_from_is_err_and c.from_residual.result c.from_residual.ensures.1 in
    rw (p.1, p.2, ← c.loop-turn.invariant.same)
    (sequence_fails (arm_at c.args.text.now c.args.tokens.now (expr c.args.text.now c.args.tokens.now c.args.self.now.depth) c.args.context) (following c.args.tokens.now c.args.context.column between.Arm) c.args.text.now c.args.tokens.now c.in_err-found.field-0.0 (length c.args.tokens.now - c.loop-turn._turn) (length c.args.tokens.now - (c.loop-turn._turn + 1)) (map choice_view c.loop-turn.arms.items) c.loop-turn.at h c.in_err-found.ensures)

pub returns-in_default : goal.returns-in_default
returns-in_default g c =
    let h : length c.args.tokens.now - c.loop-turn._turn ≡ (length c.args.tokens.now - (c.loop-turn._turn + 1)) + 1 = omega arith in
    let q : following c.args.tokens.now c.args.context.column between.Arm c.in_ok-found.found.end ≡ None = cc in
    let s = sequence_last (arm_at c.args.text.now c.args.tokens.now (expr c.args.text.now c.args.tokens.now c.args.self.now.depth) c.args.context) (following c.args.tokens.now c.args.context.column between.Arm) (length c.args.tokens.now - c.loop-turn._turn) (length c.args.tokens.now - (c.loop-turn._turn + 1)) (map choice_view c.loop-turn.arms.items) c.loop-turn.at (choice_view c.in_ok-found.found.arm) c.in_ok-found.found.end h c.in_ok-found.ensures.0 q in
    let w : map choice_view c.push.new.items.items ≡ map choice_view c.loop-turn.arms.items ++ choice_view c.in_ok-found.found.arm ∷ [] = ap (λ x. map choice_view x) c.in_ok-push.ensures.ok ∙ map_append choice_view c.loop-turn.arms.items c.in_ok-found.found.arm in
    let d = arms_depth_snoc (map choice_view c.loop-turn.arms.items) (choice_view c.in_ok-found.found.arm) in
    rw w (sym c.loop-turn.invariant.same ∙ s, grind (arith, common_steps, d), grind (arith, common_steps))

pub loop-turn-preserved : goal.loop-turn-preserved
loop-turn-preserved g c =
    let h : length c.args.tokens.now - c.loop-turn._turn ≡ (length c.args.tokens.now - (c.loop-turn._turn + 1)) + 1 = omega arith in
    let q : following c.args.tokens.now c.args.context.column between.Arm c.in_ok-found.found.end ≡ Some c.in-Some.next = cc in
    let s = sequence_more (arm_at c.args.text.now c.args.tokens.now (expr c.args.text.now c.args.tokens.now c.args.self.now.depth) c.args.context) (following c.args.tokens.now c.args.context.column between.Arm) (length c.args.tokens.now - c.loop-turn._turn) (length c.args.tokens.now - (c.loop-turn._turn + 1)) (map choice_view c.loop-turn.arms.items) c.loop-turn.at (choice_view c.in_ok-found.found.arm) c.in_ok-found.found.end c.in-Some.next h c.in_ok-found.ensures.0 q in
    let w : map choice_view c.push.new.items.items ≡ map choice_view c.loop-turn.arms.items ++ choice_view c.in_ok-found.found.arm ∷ [] = ap (λ x. map choice_view x) c.in_ok-push.ensures.ok ∙ map_append choice_view c.loop-turn.arms.items c.in_ok-found.found.arm in
    let d = arms_depth_snoc (map choice_view c.loop-turn.arms.items) (choice_view c.in_ok-found.found.arm) in
    rw w (record { same = sym s ∙ c.loop-turn.invariant.same; depth = grind (arith, common_steps, d); shallow = grind (arith, common_steps) })

pub returns : goal.returns
returns g c =
    let z : length c.args.tokens.now - c.loop-turn._turn ≡ 0 = omega arith in
    let n = sequence_full (arm_at c.args.text.now c.args.tokens.now (expr c.args.text.now c.args.tokens.now c.args.self.now.depth) c.args.context) (following c.args.tokens.now c.args.context.column between.Arm) (length c.args.tokens.now - c.loop-turn._turn) (map choice_view c.loop-turn.arms.items) c.loop-turn.at z in
    refuses_fails c.args.text.now c.args.tokens.now c.refused.result c.refused.ensures _ (sym c.loop-turn.invariant.same ∙ n)
