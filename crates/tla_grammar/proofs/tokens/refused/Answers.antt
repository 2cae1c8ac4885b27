use Rattle.std.proofs.Common.{◌≡◌, ◌∙◌, Some, sym, ap}
use Rattle.std.specs.List.{slice_get}
use Rattle.std.proofs.lemmas.Option.{slice_get-get_or}
use Rattle.tla_grammar.specs.LeftOut.{BeginsLeftOut, word, selector}
use Rattle.tla_grammar.proofs.tokens.refused.Goals as goal

pub returns-then-is_left_out : goal.returns-then-is_left_out
unfolding BeginsLeftOut
returns-then-is_left_out c =
    let ts = c.args.tokens.now in
    let l = c.in-Some.ensures.lookup in
    let here : slice_get ts c.args.at ≡ Some c.in-Some.t.now = slice_get-get_or ts c.args.at c.in-Some.t.now l.3.0 ∙ ap Some (sym l.1) in
    word (c.in-Some.t.now, here, cc)

pub returns-then-is_selector : goal.returns-then-is_selector
unfolding BeginsLeftOut
returns-then-is_selector c = selector (c.is_selector.ensures c.if-is_selector.true)
