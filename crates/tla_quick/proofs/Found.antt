-- A definition in scope of a frame is in scope of each frame inside it.
use Rattle.std.proofs.Common.{◌≡◌, ℕ, zero, suc, List, [], ◌∷◌, ◌++◌, length, Option, Some, None, Ok, IfSome, option_map, slice_get, Bor, refl, ap, sym, ◌∙◌, append_assoc}
use Rattle.std.proofs.lemmas.Option.{slice_get-map}
use Rattle.tla_value.specs.Tree.{Tree}
use Rattle.tla_value.specs.TreeOf.{tree_of}
use Rattle.tla_value.specs.declared.value.Value.{Value}
use Rattle.tla_core.specs.Meaning.{Bound, Present, Next}
use Rattle.tla_core.specs.Value.{val}
use Rattle.tla_code.specs.CodeExpr.{Scope, code_expr, expr_in}
use Rattle.tla_code.specs.declared.code.Code.{Code}
use Rattle.tla_quick.specs.declared.constant.Constant.{Constant}
use Rattle.tla_quick.specs.Private.Kept.{definition_of, scope_with}
use Rattle.tla_quick.specs.declared.frame.Frame.{Frame}
use Rattle.tla_quick.specs.declared.frame.Found.{Found}
use Rattle.tla_quick.specs.Private.Frames.{bound_of, scope_of, IsKnown, IsDefinition}

none_some : {A : Type 0} (x : A) → (let r : Option A = None in r ≡ Some x) → ⊥
none_some x k = cc

pub get_front : {A : Type 0} (xs ys : List A) (i : ℕ) (x : A) → slice_get xs i ≡ Some x → slice_get (xs ++ ys) i ≡ Some x
get_front [] ys i x h = absurd (none_some x h)
get_front (y ∷ xs) ys zero x h = h
get_front (y ∷ xs) ys (suc i) x h = get_front xs ys i x h

pub get_last : {A : Type 0} (xs : List A) (x : A) → slice_get (xs ++ x ∷ []) (length xs) ≡ Some x
get_last [] x = refl
get_last (y ∷ xs) x = get_last xs x

pub unchanged : {A : Type 0} (xs : List A) → xs ++ [] ≡ xs
unchanged [] = refl
unchanged (x ∷ xs) = ap (λ ys. x ∷ ys) (unchanged xs)

-- what is in scope outside a frame, and in it
module _ (frame outer : Frame) (s : Present) (t : Next) (more : Bound) (scope : Scope) (deeper : scope_of frame ≡ scope_of outer ++ scope) (longer : bound_of frame ≡ bound_of outer ++ more) (number : ℕ) where
  wider : (k : ℕ) (v : Tree) → IsDefinition outer s t number k v → IsDefinition frame s t number k v
  wider k v d = record {
    expr = d.expr;
    outer = d.outer;
    inner = d.inner ++ more;
    there = ap (λ xs. slice_get xs number) deeper ∙ get_front (scope_of outer) scope number (k, d.expr) d.there;
    split = longer ∙ ap (λ (xs : Bound). xs ++ more) d.split ∙ append_assoc d.outer d.inner more;
    count = d.count;
    value = d.value;
  }

  value_wider : (o : Option (Bor Value)) (k : ℕ) → IfSome o (λ v. IsDefinition outer s t number k (tree_of v.now)) → IfSome o (λ v. IsDefinition frame s t number k (tree_of v.now))
  value_wider None k h = h
  value_wider (Some v) k h = wider k (tree_of v.now) h

  pub found_wider : (r : Option Found) → IfSome r (λ f. IfSome f.value (λ v. IsDefinition outer s t number f.names (tree_of v.now))) → IfSome r (λ f. IfSome f.value (λ v. IsDefinition frame s t number f.names (tree_of v.now)))
  found_wider None h = h
  found_wider (Some f) h = value_wider f.value f.names h

-- the definition that a frame adds
module _ (frame outer : Frame) (s : Present) (t : Next) (names : ℕ) (d : Code) (deeper : scope_of frame ≡ scope_of outer ++ (names, expr_in (scope_of outer) d) ∷ []) (longer : bound_of frame ≡ bound_of outer) (count : names ≡ length (bound_of outer)) (number : ℕ) (same : number ≡ length (scope_of outer)) where
  here : (v : Tree) → val (expr_in (scope_of outer) d) (bound_of outer) s t ≡ Ok v → IsDefinition frame s t number names v
  here v h = record {
    expr = expr_in (scope_of outer) d;
    outer = bound_of outer;
    inner = [];
    there = ap (λ xs. slice_get xs number) deeper ∙ ap (slice_get (scope_of outer ++ (names, expr_in (scope_of outer) d) ∷ [])) same ∙ get_last (scope_of outer) (names, expr_in (scope_of outer) d);
    split = longer ∙ sym (unchanged (bound_of outer));
    count = count;
    value = h;
  }

  pub found_here : (o : Option (Bor Value)) → IsKnown o (val (expr_in (scope_of outer) d) (bound_of outer) s t) → IfSome o (λ v. IsDefinition frame s t number names (tree_of v.now))
  found_here None h = h
  found_here (Some v) h = here (tree_of v.now) h

-- a frame without a definition, and one without names
pub same_scope : (frame outer : Frame) → scope_of frame ≡ scope_of outer → scope_of frame ≡ scope_of outer ++ []
same_scope frame outer e = e ∙ sym (unchanged (scope_of outer))

pub same_bound : (frame outer : Frame) → bound_of frame ≡ bound_of outer → bound_of frame ≡ bound_of outer ++ []
same_bound frame outer e = e ∙ sym (unchanged (bound_of outer))

-- a closed part
scope_at : (ks : List Constant) (i : ℕ) (k : Constant) → slice_get ks i ≡ Some k → slice_get (scope_with ks) i ≡ Some (definition_of k)
scope_at ks i k h = slice_get-map definition_of ks i ∙ ap (option_map definition_of) h

pub constant_found : (frame : Frame) (ks : List Constant) (s : Present) (t : Next) → scope_of frame ≡ scope_with ks → bound_of frame ≡ [] → (number : ℕ) (k : Constant) → slice_get ks number ≡ Some k → IsDefinition frame s t number 0 (tree_of k.value)
constant_found frame ks s t deeper empty number k h = record {
  expr = code_expr k.code;
  outer = [];
  inner = [];
  there = ap (λ xs. slice_get xs number) deeper ∙ scope_at ks number k h;
  split = empty;
  count = refl;
  value = k.lasting s t;
}
