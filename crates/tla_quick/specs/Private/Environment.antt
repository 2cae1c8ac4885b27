-- An environment: the values of the bound names and of the variables, and the definitions in scope.
use Rattle.std.specs.Prelude.{◌++◌, Bool, List, option_map}
use Rattle.tla_value.specs.Tree.{Tree}
use Rattle.tla_core.specs.Fault.{Outcome, ◌>>=◌}
use Rattle.tla_core.specs.Expr.{Expr}
use Rattle.tla_core.specs.Meaning.{Bound, Present, Next}
use Rattle.tla_core.specs.Value.{val, mem}
use Rattle.tla_code.specs.CodeExpr.{Scope, expr_in}
use Rattle.tla_code.specs.declared.code.Code.{Code}
use Rattle.tla_quick.specs.Private.Frames.{bound_of, scope_of}
use Rattle.tla_quick.specs.declared.environment.Environment.{Environment}

abbrev pub bound_in : Environment → Bound
bound_in env = bound_of env.frame.now

abbrev pub scope_in : Environment → Scope
scope_in env = scope_of env.frame.now

abbrev pub present_in : Environment → Present
present_in env = option_map (λ s. s.now) env.now

abbrev pub next_in : Environment → Next
next_in env = env.next.now

-- the expression that a code denotes, and its value and members, also with more bound values
abbrev pub code_in : Environment → Code → Expr
code_in env c = expr_in (scope_in env) c

abbrev pub value_in : Environment → Expr → Outcome Tree
value_in env e = val e (bound_in env) (present_in env) (next_in env)

abbrev pub has_in : Environment → Tree → Expr → Outcome Bool
has_in env v e = mem v e (bound_in env) (present_in env) (next_in env)

-- whether the value of one expression is a member of another
abbrev pub member_in : Environment → Expr → Expr → Outcome Bool
member_in env e d = value_in env e >>= λ v. has_in env v d

abbrev pub value_with : Environment → List Tree → Expr → Outcome Tree
value_with env vs e = val e (bound_in env ++ vs) (present_in env) (next_in env)
