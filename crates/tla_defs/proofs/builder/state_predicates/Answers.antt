use Rattle.std.proofs.Common.{map}
use Rattle.tla_expand.specs.Names.{scope_of}
use Rattle.tla_model.specs.ModelOf.{predicate_of}
use Rattle.tla_defs.specs.Private.Formulas.{mentions}
use Rattle.tla_defs.proofs.Found.{predicates_end}
use Rattle.tla_defs.proofs.builder.state_predicates.Goals as goal

pub returns-clause-found : goal.returns-clause-found
returns-clause-found c =
    predicates_end (scope_of c.args.scopes.now) c.loop-left.left.now (mentions c.args.names.now) (map predicate_of c.loop-left.predicates.items) c.in_default.len_below c.loop-left.invariant.found
