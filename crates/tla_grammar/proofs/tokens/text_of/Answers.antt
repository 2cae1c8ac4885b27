use Rattle.std.proofs.Common.{◌≡◌, [], sym, ◌∙◌, subst, arith}
use Rattle.std.proofs.lemmas.Grind.{common_steps}
use Rattle.tla_lex.specs.Strings.{IsTextOf}
use Rattle.tla_tree.specs.Words.{word_of}
use Rattle.tla_grammar.proofs.Strings.{no_text}
use Rattle.tla_grammar.proofs.tokens.text_of.Goals as goal

pub returns-then-is_empty-clause-ok : goal.returns-then-is_empty-clause-ok
returns-then-is_empty-clause-ok c =
    let e : word_of c.args.text.now c.args.token ≡ [] = grind (arith, common_steps) in
    let n : c.new.result.items ≡ [] = c.new.ensures.items in
    subst (λ w. IsTextOf (word_of c.args.text.now c.args.token) w) (sym (c.new-then-is_empty.ensures ∙ n)) (no_text (word_of c.args.text.now c.args.token) e)
