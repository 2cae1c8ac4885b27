use Rattle.std.proofs.Common.{◌≡◌, sym, subst, rules}
use Rattle.tla_lex.specs.StringLoops.{unescaped, string_text}
use Rattle.tla_lex.specs.Strings.{IsTextOf}
use Rattle.tla_lex.proofs.StringTexts.{is_text, read_to_end}
use Rattle.tla_lex.proofs.string.string_text.Goals as goal

pub returns-then-b-eq34 : goal.returns-then-b-eq34
unfolding unescaped
returns-then-b-eq34 c =
    let same : c.loop-left.text.items ≡ string_text c.args.literal.now = search rules in
    subst (λ t. IsTextOf c.args.literal.now t) (sym same) (is_text c.args.literal.now)

pub returns : goal.returns
returns c =
    let same : c.loop-left.text.items ≡ string_text c.args.literal.now = read_to_end c.loop-left.text.items c.loop-left.left.now (string_text c.args.literal.now) c.loop-left.escaped c.loop-left.invariant c.in_default.len_below in
    subst (λ t. IsTextOf c.args.literal.now t) (sym same) (is_text c.args.literal.now)
