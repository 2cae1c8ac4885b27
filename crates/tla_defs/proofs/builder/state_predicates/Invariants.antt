use Rattle.std.proofs.Common.{length, map}
use Rattle.tla_expand.specs.Names.{scope_of}
use Rattle.tla_model.specs.ModelOf.{predicate_of}
use Rattle.tla_config.specs.declared.error.DefsError.{DefsError}
use Rattle.tla_defs.specs.Private.Formulas.{LacksPredicate, Follow, mentions}
use Rattle.tla_defs.specs.Refused.{IsOfPredicate}
use Rattle.tla_defs.proofs.builder.state_predicates.Given as goal

abbrev pub invariant-loop-left : goal.invariant-loop-left
invariant-loop-left l = record {
  found : Follow (scope_of l.scopes) (mentions l.left) (mentions l.names) (map predicate_of l.predicates.items);
  told : (e : DefsError) → IsOfPredicate (scope_of l.scopes) (mentions l.left) e → IsOfPredicate (scope_of l.scopes) (mentions l.names) e;
  lacks : LacksPredicate (scope_of l.scopes) (mentions l.left) → LacksPredicate (scope_of l.scopes) (mentions l.names);
}

abbrev pub decreases-loop-left : goal.decreases-loop-left
decreases-loop-left l = length l.left
