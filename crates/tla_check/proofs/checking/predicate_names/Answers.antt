use Rattle.std.proofs.Common.{◌∙◌, ◌++◌, ◌∷◌, [], ◌≤◌, length, map, ap, sym, arith}
use Rattle.std.proofs.lemmas.List.{take_all}
use Rattle.tla_model.specs.ModelOf.{predicate_of}
use Rattle.tla_check.specs.Checks.{names_in}
use Rattle.tla_check.proofs.NamesIn.{names-more}
use Rattle.tla_check.proofs.checking.predicate_names.Goals as goal

pub loop-predicate-preserved : goal.loop-predicate-preserved
loop-predicate-preserved c =
    c.in_ok-push.ensures.items
    ∙ ap (λ x. c.loop-predicate.names.items ++ x ∷ []) c.in_ok-copy.ensures.ok
    ∙ ap (λ xs. xs ++ c.predicate-item.result.name ∷ []) c.loop-predicate.invariant
    ∙ sym (names-more c.args.predicates.now c.loop-predicate.predicate-index c.predicate-item.result (omega arith) c.predicate-item.is)

pub returns-clause-ok : goal.returns-clause-ok
returns-clause-ok c =
    let all : length c.args.predicates.now ≤ c.loop-predicate.predicate-index = omega arith in
    c.new.ensures ∙ c.loop-predicate.invariant ∙ ap (λ xs. names_in (map predicate_of xs)) (take_all c.loop-predicate.predicate-index c.args.predicates.now all)
