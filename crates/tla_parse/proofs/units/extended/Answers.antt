use Rattle.std.proofs.Common.{◌≡◌, ◌+◌, ◌-◌, ◌++◌, ◌∷◌, [], Some, None, true, false, arith, refl, sym, ap, ◌∙◌, length}
use Rattle.std.proofs.lemmas.Option.{slice_get_within}
use Rattle.tla_lex.specs.declared.token.Kind.TheVariants as k
use Rattle.tla_grammar.specs.Modules.{is_module}
use Rattle.tla_tree.specs.Words.{word_of, written}
use Rattle.tla_grammar.specs.Tokens.{seen, KindAt}
use Rattle.tla_grammar.specs.Kinds.{kind_at}
use Rattle.tla_grammar.specs.Marks.{name_at}
use Rattle.tla_grammar.proofs.Inversion.{name_is, has_kind, seen_is}
use Rattle.tla_grammar.proofs.Fails.{refuses_fails}
use Rattle.tla_parse.proofs.UnitsSteps.{modules_none, modules_unknown, modules_last, modules_more, extended_more}
use Rattle.tla_parse.proofs.units.extended.Goals as goal

pub returns-in_default : goal.returns-in_default
returns-in_default c =
    let h : length c.args.tokens.now - c.loop-turn._turn ≡ (length c.args.tokens.now - (c.loop-turn._turn + 1)) + 1 = omega arith in
    let p : name_at (seen c.args.tokens.now 0 c.loop-turn.at) ≡ None = cc in
    let n = modules_none c.args.text.now c.args.tokens.now (length c.args.tokens.now - c.loop-turn._turn) (length c.args.tokens.now - (c.loop-turn._turn + 1)) c.loop-turn.names.items c.loop-turn.at h p in
    refuses_fails c.args.text.now c.args.tokens.now c.refused.result c.refused.ensures _ (sym c.loop-turn.invariant.same ∙ n)

pub returns-then-not-is_module : goal.returns-then-not-is_module
returns-then-not-is_module c =
    let h : length c.args.tokens.now - c.loop-turn._turn ≡ (length c.args.tokens.now - (c.loop-turn._turn + 1)) + 1 = omega arith in
    let p : name_at (seen c.args.tokens.now 0 c.loop-turn.at) ≡ Some c.in-Some.name = cc in
    let w = ap (λ y. y.word) c.in_ok-name.ensures.ok in
    let i : is_module (word_of c.args.text.now c.in-Some.name) ≡ false = rw (sym w) (cc) in
    let n = modules_unknown c.args.text.now c.args.tokens.now (length c.args.tokens.now - c.loop-turn._turn) (length c.args.tokens.now - (c.loop-turn._turn + 1)) c.loop-turn.names.items c.loop-turn.at c.in-Some.name h p i in
    let x = name_is c.args.tokens.now (seen c.args.tokens.now 0 c.loop-turn.at) c.in-Some.name p in
    (sym c.loop-turn.invariant.same ∙ n, (c.loop-turn._turn, c.in-Some.name, c.loop-turn.invariant.listed, seen_is c.args.tokens.now 0 c.loop-turn.at c.in-Some.name x.0, x.1, rw i refl))

pub returns-then-not-is_kind : goal.returns-then-not-is_kind
returns-then-not-is_kind c =
    let h : length c.args.tokens.now - c.loop-turn._turn ≡ (length c.args.tokens.now - (c.loop-turn._turn + 1)) + 1 = omega arith in
    let p : name_at (seen c.args.tokens.now 0 c.loop-turn.at) ≡ Some c.in-Some.name = cc in
    let q : kind_at k.Comma (seen c.args.tokens.now 0 (c.loop-turn.at + 1)) ≡ false = cc in
    let w = ap (λ y. y.word) c.in_ok-name.ensures.ok in
    let i : is_module (word_of c.args.text.now c.in-Some.name) ≡ true = rw (sym w) (cc) in
    let n = modules_last c.args.text.now c.args.tokens.now (length c.args.tokens.now - c.loop-turn._turn) (length c.args.tokens.now - (c.loop-turn._turn + 1)) c.loop-turn.names.items c.loop-turn.at c.in-Some.name h p i q in
    let e : c.push.new.items.items ≡ c.loop-turn.names.items ++ written c.args.text.now c.in-Some.name ∷ [] = c.in_ok-push.ensures.ok ∙ ap (λ x. c.loop-turn.names.items ++ x ∷ []) c.in_ok-name.ensures.ok in
    rw e (sym c.loop-turn.invariant.same ∙ n)

pub loop-turn-preserved : goal.loop-turn-preserved
loop-turn-preserved c =
    let h : length c.args.tokens.now - c.loop-turn._turn ≡ (length c.args.tokens.now - (c.loop-turn._turn + 1)) + 1 = omega arith in
    let p : name_at (seen c.args.tokens.now 0 c.loop-turn.at) ≡ Some c.in-Some.name = cc in
    let q : kind_at k.Comma (seen c.args.tokens.now 0 (c.loop-turn.at + 1)) ≡ true = cc in
    let w = ap (λ y. y.word) c.in_ok-name.ensures.ok in
    let i : is_module (word_of c.args.text.now c.in-Some.name) ≡ true = rw (sym w) (cc) in
    let n = modules_more c.args.text.now c.args.tokens.now (length c.args.tokens.now - c.loop-turn._turn) (length c.args.tokens.now - (c.loop-turn._turn + 1)) c.loop-turn.names.items c.loop-turn.at c.in-Some.name h p i q in
    let e : c.push.new.items.items ≡ c.loop-turn.names.items ++ written c.args.text.now c.in-Some.name ∷ [] = c.in_ok-push.ensures.ok ∙ ap (λ x. c.loop-turn.names.items ++ x ∷ []) c.in_ok-name.ensures.ok in
    let x = name_is c.args.tokens.now (seen c.args.tokens.now 0 c.loop-turn.at) c.in-Some.name p in
    let y = has_kind c.args.tokens.now 0 (c.loop-turn.at + 1) k.Comma q in
    let name : KindAt c.args.tokens.now c.loop-turn.at k.Name = (c.in-Some.name, seen_is c.args.tokens.now 0 c.loop-turn.at c.in-Some.name x.0, x.1) in
    let comma : KindAt c.args.tokens.now (c.loop-turn.at + 1) k.Comma = (y.0, seen_is c.args.tokens.now 0 (c.loop-turn.at + 1) y.0 y.1, y.2) in
    record { same = rw e (sym n ∙ c.loop-turn.invariant.same); within = omega (arith, slice_get_within c.args.tokens.now (c.loop-turn.at + 1) y.0 comma.1); listed = extended_more c.args.text.now c.args.tokens.now c.loop-turn._turn (c.loop-turn._turn + 1) c.loop-turn.at refl c.loop-turn.invariant.listed name comma }
