use Rattle.std.proofs.Common.{◌≡◌, ◌+◌, ◌-◌, ◌++◌, ◌∷◌, [], Some, None, true, false, arith, sym, ap, ◌∙◌, length}
use Rattle.std.proofs.lemmas.Option.{slice_get_within}
use Rattle.tla_lex.specs.declared.token.Kind.TheVariants as k
use Rattle.tla_tree.specs.Words.{written}
use Rattle.tla_grammar.specs.Tokens.{seen}
use Rattle.tla_grammar.specs.Kinds.{kind_at}
use Rattle.tla_grammar.specs.Marks.{name_at}
use Rattle.tla_grammar.proofs.Fails.{refuses_fails}
use Rattle.tla_grammar.proofs.Inversion.{kind_stands}
use Rattle.tla_expressions.proofs.NameLists.{names_none, names_last, names_more, names_full}
use Rattle.tla_expressions.proofs.names.names.Goals as goal

pub returns-in_default : goal.returns-in_default
returns-in_default c =
    let h : length c.args.tokens.now - c.loop-turn._turn ≡ (length c.args.tokens.now - (c.loop-turn._turn + 1)) + 1 = omega arith in
    let p : name_at (seen c.args.tokens.now c.args.column c.loop-turn.at) ≡ None = cc in
    let n = names_none c.args.text.now c.args.tokens.now (length c.args.tokens.now - c.loop-turn._turn) (length c.args.tokens.now - (c.loop-turn._turn + 1)) c.loop-turn.names.items c.args.column c.loop-turn.at h p in
    refuses_fails c.args.text.now c.args.tokens.now c.refused.result c.refused.ensures _ (sym c.loop-turn.invariant.same ∙ n)

pub returns-then-not-is_kind : goal.returns-then-not-is_kind
returns-then-not-is_kind c =
    let h : length c.args.tokens.now - c.loop-turn._turn ≡ (length c.args.tokens.now - (c.loop-turn._turn + 1)) + 1 = omega arith in
    let p : name_at (seen c.args.tokens.now c.args.column c.loop-turn.at) ≡ Some c.in-Some.name = cc in
    let q : kind_at k.Comma (seen c.args.tokens.now c.args.column (c.loop-turn.at + 1)) ≡ false = cc in
    let n = names_last c.args.text.now c.args.tokens.now (length c.args.tokens.now - c.loop-turn._turn) (length c.args.tokens.now - (c.loop-turn._turn + 1)) c.loop-turn.names.items c.args.column c.loop-turn.at c.in-Some.name h p q in
    let e : c.push.new.items.items ≡ c.loop-turn.names.items ++ written c.args.text.now c.in-Some.name ∷ [] = c.in_ok-push.ensures.ok ∙ ap (λ x. c.loop-turn.names.items ++ x ∷ []) c.in_ok-name.ensures.ok in
    rw e (sym c.loop-turn.invariant.same ∙ n)

pub loop-turn-preserved : goal.loop-turn-preserved
loop-turn-preserved c =
    let h : length c.args.tokens.now - c.loop-turn._turn ≡ (length c.args.tokens.now - (c.loop-turn._turn + 1)) + 1 = omega arith in
    let p : name_at (seen c.args.tokens.now c.args.column c.loop-turn.at) ≡ Some c.in-Some.name = cc in
    let q : kind_at k.Comma (seen c.args.tokens.now c.args.column (c.loop-turn.at + 1)) ≡ true = cc in
    let n = names_more c.args.text.now c.args.tokens.now (length c.args.tokens.now - c.loop-turn._turn) (length c.args.tokens.now - (c.loop-turn._turn + 1)) c.loop-turn.names.items c.args.column c.loop-turn.at c.in-Some.name h p q in
    let e : c.push.new.items.items ≡ c.loop-turn.names.items ++ written c.args.text.now c.in-Some.name ∷ [] = c.in_ok-push.ensures.ok ∙ ap (λ x. c.loop-turn.names.items ++ x ∷ []) c.in_ok-name.ensures.ok in
    let y = kind_stands c.args.tokens.now c.args.column (c.loop-turn.at + 1) k.Comma q in
    record { same = rw e (sym n ∙ c.loop-turn.invariant.same); within = omega (arith, slice_get_within c.args.tokens.now (c.loop-turn.at + 1) y.0 y.1) }

pub returns : goal.returns
returns c =
    let z : length c.args.tokens.now - c.loop-turn._turn ≡ 0 = omega arith in
    let n = names_full c.args.text.now c.args.tokens.now (length c.args.tokens.now - c.loop-turn._turn) c.loop-turn.names.items c.args.column c.loop-turn.at z in
    refuses_fails c.args.text.now c.args.tokens.now c.refused-2.result c.refused-2.ensures _ (sym c.loop-turn.invariant.same ∙ n)
