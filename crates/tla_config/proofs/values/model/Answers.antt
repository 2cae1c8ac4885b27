use Rattle.std.proofs.Common.{◌≡◌, [], None, Some, ap, sym, ◌∙◌}
use Rattle.tla_tree.specs.Words.{word_of}
use Rattle.tla_value.specs.Tree.{model}
use Rattle.tla_config.specs.Private.Keywords.{keywords, lookup}
use Rattle.tla_config.proofs.Atoms.{model_is, model_fails, text_because}
use Rattle.tla_config.proofs.values.model.Goals as goal

pub returns-in-Ok-clause-gives : goal.returns-in-Ok-clause-gives
returns-in-Ok-clause-gives c =
    let l : lookup keywords (word_of c.args.text.now c.args.token) ≡ None = ap (λ w. lookup keywords w) (sym c.slice_of-word.ensures) ∙ sym c.keyword_of.ensures ∙ c.in-None.is in
    λ ts. (model_is c.args.text.now ts c.args.token c.requires l ∙ ap (λ w. Some (model w)) (sym c.slice_of-word.ensures ∙ sym c.in-Ok.ensures.bytes), rw c.in-Ok.ensures.bytes c.in-Ok.ensures.utf8)

pub returns-in-Err-clause-gives : goal.returns-in-Err-clause-gives
returns-in-Err-clause-gives c =
    let l : lookup keywords (word_of c.args.text.now c.args.token) ≡ None = ap (λ w. lookup keywords w) (sym c.slice_of-word.ensures) ∙ sym c.keyword_of.ensures ∙ c.in-None.is in
    λ ts. model_fails c.args.text.now ts c.in-Err.refusal c.args.item c.args.token c.slice_of-word.result.now
    (model_is c.args.text.now ts c.args.token c.requires l ∙ ap (λ w. Some (model w)) (sym c.slice_of-word.ensures)) c.in-Err.ensures.err

pub returns-in-Err-clause-because : goal.returns-in-Err-clause-because
returns-in-Err-clause-because c =
    let l : lookup keywords (word_of c.args.text.now c.args.token) ≡ None = ap (λ w. lookup keywords w) (sym c.slice_of-word.ensures) ∙ sym c.keyword_of.ensures ∙ c.in-None.is in
    text_because c.args.text.now [] c.in-Err.refusal c.args.item c.args.token c.slice_of-word.result.now (model c.slice_of-word.result.now)
    (model_is c.args.text.now [] c.args.token c.requires l ∙ ap (λ w. Some (model w)) (sym c.slice_of-word.ensures)) (λ x. x) c.in-Err.ensures.err
