use Rattle.std.proofs.Common.{◌≡◌, ◌+◌, ◌-◌, Some, None, arith, sym, ◌∙◌}
use Rattle.std.proofs.lemmas.Result.{err_from_is_err_and}
use Rattle.tla_tree.specs.View.{view}
use Rattle.tla_grammar.specs.Tokens.{seen}
use Rattle.tla_grammar.specs.Marks.{postfix_at}
use Rattle.tla_expressions.specs.Reading.{expr}
use Rattle.tla_expressions.proofs.Steps.{postfix_done, postfix_more, postfix_fails, postfix_full}
use Rattle.tla_expressions.proofs.grammar.Grammar.postfixes.Goals as goal

pub returns-in_err-left : goal.returns-in_err-left
returns-in_err-left g c =
    let p : postfix_at (seen c.args.tokens.now c.args.context.column c.loop-turn.left.end) ≡ Some c.in-Some.form = cc in
    let h : c.args.self.now.depth + 1 - c.loop-turn._turn ≡ (c.args.self.now.depth + 1 - (c.loop-turn._turn + 1)) + 1 = omega arith in
    let e = err_from_is_err_and c.from_residual.result c.from_residual.ensures.1 in
    rw (e.1, e.2, ← c.loop-turn.invariant.same)
    (postfix_fails c.args.text.now c.args.tokens.now (expr c.args.text.now c.args.tokens.now c.args.self.now.depth) c.in_err-left.field-0.0 (c.args.self.now.depth + 1 - c.loop-turn._turn) (c.args.self.now.depth + 1 - (c.loop-turn._turn + 1)) (c.args.self.now.depth + 1) c.args.context (view c.loop-turn.left.tree.value) c.loop-turn.left.end c.in-Some.form h p c.in_err-left.ensures)

pub returns-in-Some-postfix_at : goal.returns-in-Some-postfix_at
returns-in-Some-postfix_at g c =
    let p : postfix_at (seen c.args.tokens.now c.args.context.column c.loop-turn.left.end) ≡ Some c.in-Some-postfix_at.field-0 = cc in
    let z : c.args.self.now.depth + 1 - c.loop-turn._turn ≡ 0 = omega arith in
    sym c.loop-turn.invariant.same
    ∙ postfix_full c.args.text.now c.args.tokens.now (expr c.args.text.now c.args.tokens.now c.args.self.now.depth) (c.args.self.now.depth + 1 - c.loop-turn._turn) (c.args.self.now.depth + 1) c.args.context (view c.loop-turn.left.tree.value) c.loop-turn.left.end c.in-Some-postfix_at.field-0 z p

pub loop-turn-preserved : goal.loop-turn-preserved
loop-turn-preserved g c =
    let p : postfix_at (seen c.args.tokens.now c.args.context.column c.loop-turn.left.end) ≡ Some c.in-Some.form = cc in
    let h : c.args.self.now.depth + 1 - c.loop-turn._turn ≡ (c.args.self.now.depth + 1 - (c.loop-turn._turn + 1)) + 1 = omega arith in
    let s = postfix_more c.args.text.now c.args.tokens.now (expr c.args.text.now c.args.tokens.now c.args.self.now.depth) (c.args.self.now.depth + 1 - c.loop-turn._turn) (c.args.self.now.depth + 1 - (c.loop-turn._turn + 1)) (c.args.self.now.depth + 1) c.args.context (view c.loop-turn.left.tree.value) c.loop-turn.left.end c.in-Some.form (view c.in_ok-left.left.tree.value) c.in_ok-left.left.end h p c.in_ok-left.ensures.0 in
    record { same = sym s ∙ c.loop-turn.invariant.same; depth = c.in_ok-left.ensures.1; shallow = c.in_ok-left.ensures.2 }

pub returns-in_default : goal.returns-in_default
returns-in_default g c =
    let p : postfix_at (seen c.args.tokens.now c.args.context.column c.loop-turn.left.end) ≡ None = cc in
    (sym c.loop-turn.invariant.same ∙ postfix_done c.args.text.now c.args.tokens.now (expr c.args.text.now c.args.tokens.now c.args.self.now.depth) (c.args.self.now.depth + 1 - c.loop-turn._turn) (c.args.self.now.depth + 1) c.args.context (view c.loop-turn.left.tree.value) c.loop-turn.left.end p, c.loop-turn.invariant.depth, c.loop-turn.invariant.shallow)

pub returns-in-None : goal.returns-in-None
returns-in-None g c =
    let p : postfix_at (seen c.args.tokens.now c.args.context.column c.loop-turn.left.end) ≡ None = cc in
    (sym c.loop-turn.invariant.same ∙ postfix_done c.args.text.now c.args.tokens.now (expr c.args.text.now c.args.tokens.now c.args.self.now.depth) (c.args.self.now.depth + 1 - c.loop-turn._turn) (c.args.self.now.depth + 1) c.args.context (view c.loop-turn.left.tree.value) c.loop-turn.left.end p, c.loop-turn.invariant.depth, c.loop-turn.invariant.shallow)
