-- The stored closed parts: their scope, and that their values hold in all states.
use Rattle.std.proofs.Common.{◌≡◌, ℕ, List, [], ◌∷◌, ◌++◌, length, replicate, Option, Some, None, Result, Ok, Err, IfOk, IfSome, Vec, Global, refl, ap, sym, ◌∙◌}
use Rattle.std.specs.Result.{result_ok}
use Rattle.tla_value.specs.TreeOf.{tree_of}
use Rattle.tla_value.specs.declared.value.Value.{Value}
use Rattle.tla_core.specs.Expr.{Expr}
use Rattle.tla_core.specs.Value.{val}
use Rattle.tla_code.specs.CodeExpr.{Scope, code_expr, expr_in}
use Rattle.tla_code.specs.NoVariables.{IsClosed}
use Rattle.tla_code.specs.declared.code.Code.{Code}
use Rattle.tla_code.proofs.SteadyValue.{value_steady}
use Rattle.tla_sharing.specs.Outside.{HasNames}
use Rattle.tla_quick.specs.declared.constant.Constant.{Constant}
use Rattle.tla_quick.specs.Private.Lasting.{IsLasting}
use Rattle.tla_quick.specs.Private.Kept.{definition_of, scope_with}

-- no names are bound outside any of them
pub all_outside : (ks : List Constant) → HasNames (scope_with ks) (replicate (length ks) 0)
all_outside [] = refl
all_outside (k ∷ ks) = ap (λ (ns : List ℕ). 0 ∷ ns) (all_outside ks)

pub outside_found : {E : Type 0} {C : ℕ → Type 0} (ks : List Constant) (r : Result (Vec ℕ Global) E) → ((y : ℕ) → C y → y ≡ 0) → IfOk r (λ v. ((y : ℕ) → C y → y ≡ 0) → v.items ≡ replicate (length ks) 0) → IfSome (result_ok r) (λ v. HasNames (scope_with ks) v.items)
outside_found ks (Ok v) equal h = all_outside ks ∙ sym (h equal)
outside_found ks (Err e) equal h = tt

-- ---- one more
scope_more : (ks : List Constant) (k : Constant) → scope_with (ks ++ k ∷ []) ≡ scope_with ks ++ (0, code_expr k.code) ∷ []
scope_more [] k = refl
scope_more (x ∷ ks) k = ap (λ (ds : Scope). definition_of x ∷ ds) (scope_more ks k)

abbrev pub Uses : List ℕ → Code → Code → Code → Type 0
Uses outside d code next = (scope : Scope) → HasNames scope outside → expr_in (scope ++ (0, expr_in scope d) ∷ []) next ≡ expr_in scope code

pub kept_more : (ks : List Constant) (k : Constant) (outside : List ℕ) (code next : Code) → IsClosed k.code → HasNames (scope_with ks) outside → Uses outside k.code code next → expr_in (scope_with (ks ++ k ∷ [])) next ≡ expr_in (scope_with ks) code
kept_more ks k outside code next closed names uses =
    ap (λ (sc : Scope). expr_in sc next) (scope_more ks k ∙ sym (ap (λ (e : Expr). scope_with ks ++ (0, e) ∷ []) (closed.1 (scope_with ks))))
    ∙ uses (scope_with ks) names

-- ---- the value without a state is the value in each
pub lasts : (c d : Code) → IsClosed c → code_expr d ≡ code_expr c → (r : Option Value) → IfSome r (λ v. val (code_expr d) [] None [] ≡ Ok (tree_of v)) → IfSome r (λ v. IsLasting c v)
lasts c d closed same None h = h
lasts c d closed same (Some v) h = λ s t. value_steady (code_expr c) closed.0 [] s None t [] ∙ ap (λ (e : Expr). val e [] None []) (sym same) ∙ h
