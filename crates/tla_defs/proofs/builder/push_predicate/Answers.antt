use Rattle.tla_expand.specs.Names.{scope_of}
use Rattle.tla_defs.proofs.Found.{predicates_step}
use Rattle.tla_defs.proofs.builder.push_predicate.Goals as goal

pub returns-clause-found : goal.returns-clause-found
returns-clause-found c = λ left all f.
    predicates_step (scope_of c.args.scopes.now) c.args.name.now left all c.args.predicates.now.items c.push.new.items.items _ c.in_ok-push.ensures.ok c.in_ok-predicate.ensures.name c.in_ok-predicate.ensures.found f
