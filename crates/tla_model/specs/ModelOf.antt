-- The mathematical value of a model.
use Rattle.std.specs.Prelude.{ℕ, Bool, List, map}
use Rattle.tla_core.specs.Expr.{Expr}
use Rattle.tla_core.specs.ExprOf.{expr_of}
use Rattle.tla_core.specs.declared.expression.Core.{Core}
use Rattle.tla_model.specs.ModelTree.{ModelTree}
use Rattle.tla_model.specs.declared.state_predicate.StatePredicate.{StatePredicate}

-- the name and the expression of an invariant or a constraint
abbrev pub predicate_of : StatePredicate → List ℕ × Expr
predicate_of p = (p.name, expr_of p.core)

abbrev pub tree_of_parts : List (List ℕ) → List Core → Core → Core → List StatePredicate → List StatePredicate → Bool → ModelTree
tree_of_parts variables assumptions init next invariants constraints check =
    record {
      variables = variables;
      assumptions = map expr_of assumptions;
      init = expr_of init;
      next = expr_of next;
      invariants = map predicate_of invariants;
      constraints = map predicate_of constraints;
      check_deadlock = check;
    }
