use Rattle.std.proofs.Common.{◌≡◌, ◌+◌, ◌-◌, ◌++◌, ◌∷◌, ◌||◌, not, [], true, false, arith, sym, ap, ◌∙◌, length, map}
use Rattle.std.proofs.lemmas.Grind.{common_steps}
use Rattle.std.proofs.lemmas.Result.{err_from_is_err_and}
use Rattle.tla_lex.specs.declared.token.Kind.TheVariants as k
use Rattle.tla_grammar.specs.Tokens.{seen}
use Rattle.tla_grammar.specs.Kinds.{kind_at}
use Rattle.tla_tree.specs.UnitsView.{unit_view}
use Rattle.tla_tree.specs.declared.tree.TheConstants.{MAX_DEPTH}
use Rattle.tla_grammar.proofs.Fails.{refuses_fails}
use Rattle.tla_parse.proofs.UnitsSteps.{units_done, units_more, units_late, units_fails, units_full, units_depth_snoc, map_snoc}
use Rattle.tla_parse.proofs.UnitsSound.{separators_more}
use Rattle.tla_parse.proofs.units.units_from.Goals as goal

pub returns-then-is_kind : goal.returns-then-is_kind
returns-then-is_kind c =
    let h : length c.args.tokens.now - c.loop-turn._turn ≡ (length c.args.tokens.now - (c.loop-turn._turn + 1)) + 1 = omega arith in
    let q : kind_at k.Closing (seen c.args.tokens.now 0 c.loop-turn.at) ≡ true = cc in
    let n = units_done c.args.text.now c.args.tokens.now MAX_DEPTH (length c.args.tokens.now - c.loop-turn._turn) (length c.args.tokens.now - (c.loop-turn._turn + 1)) (map unit_view c.loop-turn.units.items) c.loop-turn.first c.loop-turn.at h q in
    (sym c.loop-turn.invariant.same ∙ n, c.loop-turn.invariant.shallow)

pub returns-in_err-found : goal.returns-in_err-found
returns-in_err-found c =
    let h : length c.args.tokens.now - c.loop-turn._turn ≡ (length c.args.tokens.now - (c.loop-turn._turn + 1)) + 1 = omega arith in
    let q : kind_at k.Closing (seen c.args.tokens.now 0 c.loop-turn.at) ≡ false = cc in
    let f : (c.loop-turn.first || not (kind_at k.Extends (seen c.args.tokens.now 0 c.loop-turn.at))) ≡ true = cc in
    let e = err_from_is_err_and c.from_residual.result c.from_residual.ensures.1 in
    rw (e.1, e.2, ← c.loop-turn.invariant.same)
    (units_fails c.args.text.now c.args.tokens.now c.in_err-found.field-0.0 MAX_DEPTH (length c.args.tokens.now - c.loop-turn._turn) (length c.args.tokens.now - (c.loop-turn._turn + 1)) (map unit_view c.loop-turn.units.items) c.loop-turn.first c.loop-turn.at h q f c.in_err-found.ensures)

pub returns-then-not-may_begin : goal.returns-then-not-may_begin
returns-then-not-may_begin c =
    let h : length c.args.tokens.now - c.loop-turn._turn ≡ (length c.args.tokens.now - (c.loop-turn._turn + 1)) + 1 = omega arith in
    let q : kind_at k.Closing (seen c.args.tokens.now 0 c.loop-turn.at) ≡ false = cc in
    let f : (c.loop-turn.first || not (kind_at k.Extends (seen c.args.tokens.now 0 c.loop-turn.at))) ≡ false = cc in
    let n = units_late c.args.text.now c.args.tokens.now MAX_DEPTH (length c.args.tokens.now - c.loop-turn._turn) (length c.args.tokens.now - (c.loop-turn._turn + 1)) (map unit_view c.loop-turn.units.items) c.loop-turn.first c.loop-turn.at h q f in
    refuses_fails c.args.text.now c.args.tokens.now c.refused.result c.refused.ensures _ (sym c.loop-turn.invariant.same ∙ n)

pub loop-turn-preserved : goal.loop-turn-preserved
loop-turn-preserved c =
    let h : length c.args.tokens.now - c.loop-turn._turn ≡ (length c.args.tokens.now - (c.loop-turn._turn + 1)) + 1 = omega arith in
    let q : kind_at k.Closing (seen c.args.tokens.now 0 c.loop-turn.at) ≡ false = cc in
    let f : (c.loop-turn.first || not (kind_at k.Extends (seen c.args.tokens.now 0 c.loop-turn.at))) ≡ true = cc in
    let n = units_more c.args.text.now c.args.tokens.now MAX_DEPTH (length c.args.tokens.now - c.loop-turn._turn) (length c.args.tokens.now - (c.loop-turn._turn + 1)) (map unit_view c.loop-turn.units.items) c.loop-turn.first c.loop-turn.at (unit_view c.in_ok-found.found.unit) c.in_ok-found.found.end h q c.in_ok-found.ensures.0 f in
    let w : map unit_view c.push.new.items.items ≡ map unit_view c.loop-turn.units.items ++ unit_view c.in_ok-found.found.unit ∷ [] = ap (λ x. map unit_view x) c.in_ok-push.ensures.ok ∙ map_snoc c.loop-turn.units.items c.in_ok-found.found.unit in
    let d = units_depth_snoc (map unit_view c.loop-turn.units.items) (unit_view c.in_ok-found.found.unit) in
    rw (w, c.stays_first-first.ensures) (record { same = sym n ∙ c.loop-turn.invariant.same; separated = separators_more c.args.text.now c.args.tokens.now MAX_DEPTH c.loop-turn.at (unit_view c.in_ok-found.found.unit) c.in_ok-found.found.end c.loop-turn.first c.in_ok-found.ensures.0 c.loop-turn.invariant.separated; shallow = grind (arith, common_steps, d) })

pub returns : goal.returns
returns c =
    let z : length c.args.tokens.now - c.loop-turn._turn ≡ 0 = omega arith in
    let n = units_full c.args.text.now c.args.tokens.now MAX_DEPTH (length c.args.tokens.now - c.loop-turn._turn) (map unit_view c.loop-turn.units.items) c.loop-turn.first c.loop-turn.at z in
    refuses_fails c.args.text.now c.args.tokens.now c.refused-2.result c.refused-2.ensures _ (sym c.loop-turn.invariant.same ∙ n)
