use Rattle.std.proofs.Common.{◌≡◌, ◌+◌, ◌-◌, ◌++◌, ◌∷◌, [], Some, None, arith, sym, ◌∙◌, length, map, ap}
use Rattle.std.proofs.lemmas.Result.{err_from_is_err_and}
use Rattle.tla_grammar.specs.declared.tokens.Between.TheVariants as between
use Rattle.tla_tree.specs.UnitsView.{declared as shown}
use Rattle.tla_grammar.specs.Marks.{following}
use Rattle.tla_parse.specs.Private.UnitsReading.{declared}
use Rattle.tla_grammar.proofs.Fails.{refuses_fails}
use Rattle.tla_expressions.proofs.Sequence.{sequence_more, sequence_last, sequence_full, sequence_fails}
use Rattle.tla_expressions.proofs.Steps.{map_append}
use Rattle.tla_parse.proofs.units.constants.Goals as goal

pub returns-in_err-found : goal.returns-in_err-found
returns-in_err-found c =
    let h : length c.args.tokens.now - c.loop-turn._turn ≡ (length c.args.tokens.now - (c.loop-turn._turn + 1)) + 1 = omega arith in
    let p = err_from_is_err_and c.from_residual.result c.from_residual.ensures.1 in
    rw (p.1, p.2, ← c.loop-turn.invariant)
    (sequence_fails (declared c.args.text.now c.args.tokens.now) (following c.args.tokens.now 0 between.Comma) c.args.text.now c.args.tokens.now c.in_err-found.field-0.0 (length c.args.tokens.now - c.loop-turn._turn) (length c.args.tokens.now - (c.loop-turn._turn + 1)) (map shown c.loop-turn.declarations.items) c.loop-turn.at h c.in_err-found.ensures)

pub returns-in_default : goal.returns-in_default
returns-in_default c =
    let h : length c.args.tokens.now - c.loop-turn._turn ≡ (length c.args.tokens.now - (c.loop-turn._turn + 1)) + 1 = omega arith in
    let q : following c.args.tokens.now 0 between.Comma c.in_ok-found.found.end ≡ None = cc in
    let s = sequence_last (declared c.args.text.now c.args.tokens.now) (following c.args.tokens.now 0 between.Comma) (length c.args.tokens.now - c.loop-turn._turn) (length c.args.tokens.now - (c.loop-turn._turn + 1)) (map shown c.loop-turn.declarations.items) c.loop-turn.at (shown c.in_ok-found.found.declaration) c.in_ok-found.found.end h c.in_ok-found.ensures q in
    let w : map shown c.push.new.items.items ≡ map shown c.loop-turn.declarations.items ++ shown c.in_ok-found.found.declaration ∷ [] = ap (λ x. map shown x) c.in_ok-push.ensures.ok ∙ map_append shown c.loop-turn.declarations.items c.in_ok-found.found.declaration in
    rw w (sym c.loop-turn.invariant ∙ s)

pub loop-turn-preserved : goal.loop-turn-preserved
loop-turn-preserved c =
    let h : length c.args.tokens.now - c.loop-turn._turn ≡ (length c.args.tokens.now - (c.loop-turn._turn + 1)) + 1 = omega arith in
    let q : following c.args.tokens.now 0 between.Comma c.in_ok-found.found.end ≡ Some c.in-Some.next = cc in
    let s = sequence_more (declared c.args.text.now c.args.tokens.now) (following c.args.tokens.now 0 between.Comma) (length c.args.tokens.now - c.loop-turn._turn) (length c.args.tokens.now - (c.loop-turn._turn + 1)) (map shown c.loop-turn.declarations.items) c.loop-turn.at (shown c.in_ok-found.found.declaration) c.in_ok-found.found.end c.in-Some.next h c.in_ok-found.ensures q in
    let w : map shown c.push.new.items.items ≡ map shown c.loop-turn.declarations.items ++ shown c.in_ok-found.found.declaration ∷ [] = ap (λ x. map shown x) c.in_ok-push.ensures.ok ∙ map_append shown c.loop-turn.declarations.items c.in_ok-found.found.declaration in
    rw w (sym s ∙ c.loop-turn.invariant)

pub returns : goal.returns
returns c =
    let z : length c.args.tokens.now - c.loop-turn._turn ≡ 0 = omega arith in
    let n = sequence_full (declared c.args.text.now c.args.tokens.now) (following c.args.tokens.now 0 between.Comma) (length c.args.tokens.now - c.loop-turn._turn) (map shown c.loop-turn.declarations.items) c.loop-turn.at z in
    refuses_fails c.args.text.now c.args.tokens.now c.refused.result c.refused.ensures _ (sym c.loop-turn.invariant ∙ n)
