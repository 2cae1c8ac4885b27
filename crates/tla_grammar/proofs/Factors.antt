-- The last operand of a product.
use Rattle.std.proofs.Common.{◌≡◌, suc, ◌-◌, true, length, map, slice_get, List, [], ◌∷◌, Some, None, refl, arith}
use Rattle.tla_tree.specs.declared.tree.Infix.{Infix}
use Rattle.tla_tree.specs.declared.tree.Expr.{Expr}
use Rattle.tla_tree.specs.Tree.{trees}
use Rattle.tla_tree.specs.View.{view}
use Rattle.tla_grammar.specs.Edges.{edge_allows, last_allows}

pub last_some : (es : List Expr) (op : Infix) (e : Expr) → slice_get es (length es - 1) ≡ Some e → last_allows (trees (map view es)) op ≡ edge_allows (view e) op
last_some [] op e h = cc
last_some (x ∷ []) op e h = let s : x ≡ e = cc in rw s refl
last_some (x ∷ y ∷ ys) op e h =
    let a : length (x ∷ y ∷ ys) - 1 ≡ suc (length ys) = omega arith in
    let b : length (y ∷ ys) - 1 ≡ length ys = omega arith in
    last_some (y ∷ ys) op e (rw b (rw a at h))

pub last_none : (es : List Expr) (op : Infix) → slice_get es (length es - 1) ≡ None → last_allows (trees (map view es)) op ≡ true
last_none [] op h = refl
last_none (x ∷ []) op h = cc
last_none (x ∷ y ∷ ys) op h =
    let a : length (x ∷ y ∷ ys) - 1 ≡ suc (length ys) = omega arith in
    let b : length (y ∷ ys) - 1 ≡ length ys = omega arith in
    last_none (y ∷ ys) op (rw b (rw a at h))
