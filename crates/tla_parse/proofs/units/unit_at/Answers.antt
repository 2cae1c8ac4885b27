use Rattle.std.proofs.Common.{◌≡◌, Some, sym, ◌∙◌}
use Rattle.tla_tree.specs.declared.tree.TheConstants.{MAX_DEPTH}
use Rattle.tla_grammar.specs.Tokens.{seen}
use Rattle.tla_grammar.proofs.Fails.{unit_fails}
use Rattle.tla_parse.proofs.UnitsSteps.{BeginsNone, unit_other}
use Rattle.tla_parse.proofs.units.unit_at.Goals as goal

pub returns-in_default-kind : goal.returns-in_default-kind
returns-in_default-kind c =
    let h : seen c.args.tokens.now 0 c.args.from ≡ Some c.in-Some.t = sym c.seen.ensures.value ∙ c.in-Some.is in
    let d = c.in_default-kind in
    let b : BeginsNone c.in-Some.t.kind = record { not_name = d.not-Name; not_separator = d.not-Separator; not_extends = d.not-Extends; not_variable = d.not-Variable; not_local = d.not-Local; not_constant = d.not-Constant; not_assume = d.not-Assume; not_theorem = d.not-Theorem } in
    let n = unit_other c.args.text.now c.args.tokens.now MAX_DEPTH c.in-Some.t c.args.from h b in
    unit_fails c.args.text.now c.args.tokens.now c.refused_unit.result c.refused_unit.ensures _ n
