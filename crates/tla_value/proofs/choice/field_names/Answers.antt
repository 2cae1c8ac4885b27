use Rattle.std.proofs.Common.{map, ap, sym, ◌∙◌}
use Rattle.std.proofs.lemmas.List.{map-id}
use Rattle.std.proofs.lemmas.Iterator.Adapters.{YieldsList-from_vec}
use Rattle.std.proofs.lemmas.Iterator.Consumers.{YieldsList-end}
use Rattle.tla_value.specs.TreeOf.{tree_of}
use Rattle.tla_value.proofs.choice.field_names.Goals as goal

pub returns-clause-ok : goal.returns-clause-ok
returns-clause-ok c =
    let all = YieldsList-from_vec {s = c.into_iter-field-iterator.result} c.args.fields.items c.into_iter-field-iterator.ensures.into_iter_gives.0 (c.into_iter-field-iterator.ensures.into_iter_gives.1 ∙ c.args.fields.ok.0) in
    let t = YieldsList-end all c.loop-field.yielded c.loop-field.field-iterator c.loop-field.yielded_by c.next.result c.next.new.self c.in-None.is c.next.ensures.steps in
    c.loop-field.invariant.0 ∙ ap (map (λ f. tree_of f.0)) (sym (map-id c.loop-field.yielded) ∙ t.0)
