use Rattle.std.proofs.Common.{◌≡◌, map, take}
use Rattle.tla_model.specs.ModelOf.{predicate_of}
use Rattle.tla_check.specs.Checks.{names_in}
use Rattle.tla_check.proofs.checking.predicate_names.Given as goal

abbrev pub invariant-loop-predicate : goal.invariant-loop-predicate
invariant-loop-predicate l = l.names.items ≡ names_in (map predicate_of (take l.predicate-index l.predicates))
