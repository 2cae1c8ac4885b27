use Rattle.std.proofs.Common.{◌≡◌, ◌∙◌, Some, None, slice_get, refl, sym, ap}
use Rattle.std.proofs.lemmas.Option.{slice_get-get_or, slice_get_past}
use Rattle.tla_tree.specs.declared.word.Written.{Written}
use Rattle.tla_parse.proofs.NoWords.{at_no_word}
use Rattle.tla_parse.proofs.parse.left_out.Goals as goal

pub returns-in_default-clause-no_word : goal.returns-in_default-clause-no_word
returns-in_default-clause-no_word c =
    let ts = c.args.tokens.now in
    let none : slice_get ts c.args.at ≡ None = slice_get_past ts c.args.at c.in_default.ensures.lookup.3 in
    rw c.at.ensures (at_no_word ts c.args.at c.place_of.result (λ w. let some : None ≡ Some w.0 = sym none ∙ w.1 in (let z : ⊥ = cc in z)) c.place_of.ensures.here c.place_of.ensures.last)

pub returns-in-Ok-clause-justified : goal.returns-in-Ok-clause-justified
returns-in-Ok-clause-justified c =
    let ts = c.args.tokens.now in
    let l = c.in-Some.ensures.lookup in
    let here : slice_get ts c.args.at ≡ Some c.in-Some.t.now = slice_get-get_or ts c.args.at c.in-Some.t.now l.3.0 ∙ ap Some (sym l.1) in
    ((c.args.at, c.in-Some.t.now, here, refl, ap (λ (w : Written). Some w.word) c.in-Ok.ensures.ok, c.requires.form), c.requires.none)
