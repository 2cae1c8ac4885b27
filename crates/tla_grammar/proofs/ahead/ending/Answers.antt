use Rattle.std.proofs.Common.{◌≤◌, ◌<◌, arith, sym, ◌∙◌, length}
use Rattle.std.proofs.lemmas.Option.{slice_get-get_or}
use Rattle.std.specs.List.{slice_index_or}
use Rattle.tla_lex.specs.declared.token.Token.{Token}
use Rattle.tla_lex.specs.declared.token.Kind.TheVariants as k
use Rattle.tla_grammar.proofs.Roles.{ending_more, ending_stop, ending_past}
use Rattle.tla_grammar.proofs.ahead.ending.Goals as goal

pub returns-in-None : goal.returns-in-None
returns-in-None c =
    let l : c.loop-at.at < length c.args.tokens.now = omega (arith, c.loop-at-test.true) in
    let i = slice_get-get_or c.args.tokens.now c.loop-at.at _ l in
    sym (ending_stop c.args.tokens.now c.loop-at.at c.loop-at.deep c.loop-at.bound _ i cc) ∙ c.loop-at.invariant.same

pub loop-at-preserved : goal.loop-at-preserved
loop-at-preserved c =
    let l : c.loop-at.at < length c.args.tokens.now = omega (arith, c.loop-at-test.true) in
    let none : Token = record { kind = k.Name; start = 0; end = 0; place = record { line = 0; column = 0 } } in
    let i = slice_get-get_or c.args.tokens.now c.loop-at.at none l in
    record {
      same = sym (ending_more c.args.tokens.now c.loop-at.at c.loop-at.deep c.loop-at.bound c.in-Some.inside c.in-Some.waiting (slice_index_or c.args.tokens.now c.loop-at.at none) i cc) ∙ c.loop-at.invariant.same;
      deep = omega (arith, c.in-Some.ensures.slow, c.loop-at.invariant.deep);
      bound = omega (arith, c.in-Some.ensures.slow, c.loop-at.invariant.bound);
    }

pub returns : goal.returns
returns c =
    let l : length c.args.tokens.now ≤ c.loop-at.at = omega (arith, c.loop-at-test.false) in
    sym (ending_past c.args.tokens.now c.loop-at.at c.loop-at.deep c.loop-at.bound l) ∙ c.loop-at.invariant.same
