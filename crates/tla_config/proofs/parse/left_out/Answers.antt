use Rattle.std.proofs.Common.{◌≡◌, Some, slice_get, sym, subst, ◌∙◌}
use Rattle.std.specs.Str.{IsUtf8}
use Rattle.tla_config.proofs.Told.{IsLeft, token_left_out, word_utf8, word_left, explains_left_out}
use Rattle.tla_config.proofs.parse.left_out.Goals as goal

pub unreachable-requires-in_default-from_utf8 : goal.unreachable-requires-in_default-from_utf8
unreachable-requires-in_default-from_utf8 c =
    let text = c.args.text.now in
    let ts = c.args.tokens.now in
    let here : slice_get ts c.args.at ≡ Some c.in-Some.t = sym c.token_at.ensures.value ∙ c.in-Some.is in
    let utf8 = word_utf8 text ts c.in-Some.t (token_left_out text ts c.args.at c.in-Some.t c.requires.here here) c.in_default-kind.not-LeftBracket in
    c.in_default-from_utf8.ensures.cases.0 (subst (λ w. IsUtf8 w) (sym c.slice_of.ensures) utf8)

pub returns-clause-explains : goal.returns-clause-explains
returns-clause-explains c =
    let text = c.args.text.now in
    let ts = c.args.tokens.now in
    let here : slice_get ts c.args.at ≡ Some c.in-Some.t = sym c.token_at.ensures.value ∙ c.in-Some.is in
    let left = word_left text ts c.args.at c.in-Some.t c.requires.begins c.requires.here here c.in_default-kind.not-LeftBracket in
    explains_left_out text c.left_out_at-2.result.code c.left_out_at-2.result.place c.left_out_at-2.result.name c.in-Some.t.place c.in-Ok.word.now c.left_out_at-2.ensures.is
    (subst (λ w. IsLeft text c.in-Some.t.place w) (sym (c.in-Ok.ensures.cases.0 ∙ c.slice_of.ensures)) left)
