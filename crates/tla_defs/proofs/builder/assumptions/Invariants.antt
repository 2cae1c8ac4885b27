use Rattle.std.proofs.Common.{◌++◌, List, length, map}
use Rattle.tla_core.specs.Expr.{Expr}
use Rattle.tla_core.specs.ExprOf.{expr_of}
use Rattle.tla_expand.specs.Names.{scope_of}
use Rattle.tla_tree.specs.UnitsView.{unit_view}
use Rattle.tla_defs.specs.Private.Formulas.{LacksAssumption}
use Rattle.tla_config.specs.declared.error.DefsError.{DefsError}
use Rattle.tla_defs.specs.Model.{AreAssumptions, assumptions_of}
use Rattle.tla_defs.specs.Refused.{IsOfAssumption}
use Rattle.tla_defs.proofs.builder.assumptions.Given as goal

abbrev pub invariant-loop-left : goal.invariant-loop-left
invariant-loop-left l = record {
  found : (es : List Expr) → AreAssumptions (scope_of l.scopes) (assumptions_of (map unit_view l.left)) es → AreAssumptions (scope_of l.scopes) (assumptions_of (map unit_view l.units)) (map expr_of l.assumptions.items ++ es);
  told : (e : DefsError) → IsOfAssumption (scope_of l.scopes) (assumptions_of (map unit_view l.left)) e → IsOfAssumption (scope_of l.scopes) (assumptions_of (map unit_view l.units)) e;
  lacks : LacksAssumption (scope_of l.scopes) (assumptions_of (map unit_view l.left)) → LacksAssumption (scope_of l.scopes) (assumptions_of (map unit_view l.units));
}

abbrev pub decreases-loop-left : goal.decreases-loop-left
decreases-loop-left l = length l.left
