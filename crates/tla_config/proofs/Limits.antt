-- Members of a value within the limits are within them.
use Rattle.std.proofs.Common.{◌≡◌, ◌≤◌, ℕ, ◌+◌, Bool, true, false, ◌||◌, List, [], ◌∷◌, ◌++◌, refl, sym, ap, subst, ◌∙◌, arith}
use Rattle.std.specs.Cmp.{Equal-is, tied_itself}
use Rattle.std.specs.Ordering.{is_eq}
use Rattle.tla_value.specs.IsValue.{IsValue, AreValues}
use Rattle.tla_value.specs.Order.{tree_cmp, tree_eq}
use Rattle.tla_value.specs.OrderLaws.{tree_cmp-total, exact-tree}
use Rattle.tla_value.specs.SetLaws.{is_member-set_of}
use Rattle.tla_value.specs.Sets.{is_member, set_of}
use Rattle.tla_value.specs.Tree.{Tree, set, trees, depth, deepest}

same_tree : (t u : Tree) → tree_eq t u ≡ true → t ≡ u
same_tree t u h = exact-tree t u ((Equal-is (tree_cmp t u)).0 h)

itself : (t : Tree) → tree_eq t t ≡ true
itself t = ap is_eq (tied_itself tree_cmp-total t)

or_true : (a b : Bool) → b ≡ true → (a || b) ≡ true
or_true true b h = refl
or_true false b h = h

record IsPart (t : Tree) (us : List Tree) : Type 0 where
  value : AreValues (trees us) → IsValue t
  nested : depth t ≤ deepest (trees us)

part_step : (t u : Tree) (us : List Tree) (b : Bool) → tree_eq t u ≡ b → (is_member t us ≡ true → IsPart t us) → (b || is_member t us) ≡ true → IsPart t (u ∷ us)
part_step t u us true e go h =
    let p = same_tree t u e in
    record { value = λ x. subst (λ v. IsValue v) (sym p) x.0; nested = let q = ap (λ v. depth v) p in grind (arith, q) }
part_step t u us false e go h =
    let g = go h in
    let n = g.nested in
    record { value = λ x. g.value x.1; nested = grind (arith, n) }

part : (t : Tree) (us : List Tree) → is_member t us ≡ true → IsPart t us
part t [] h = (let z : ⊥ = cc in absurd z)
part t (u ∷ us) h = part_step t u us (tree_eq t u) refl (λ g. part t us g) h

member_here : (front rest : List Tree) (t : Tree) → is_member t (front ++ t ∷ rest) ≡ true
member_here [] rest t = rw (itself t) refl
member_here (u ∷ front) rest t = or_true (tree_eq t u) (is_member t (front ++ t ∷ rest)) (member_here front rest t)

in_set : (front rest : List Tree) (t : Tree) → IsPart t (set_of (front ++ t ∷ rest))
in_set front rest t = part t (set_of (front ++ t ∷ rest)) (is_member-set_of (front ++ t ∷ rest) t ∙ member_here front rest t)

-- a member of a set that is a value is one
pub member_value : (front rest : List Tree) (t : Tree) → IsValue (set (trees (set_of (front ++ t ∷ rest)))) → IsValue t
member_value front rest t x = (in_set front rest t).value x.0

-- a member is nested less than its set
pub member_depth : (front rest : List Tree) (t : Tree) (room : ℕ) → depth (set (trees (set_of (front ++ t ∷ rest)))) ≤ room + 1 → depth t ≤ room
member_depth front rest t room h = let n = (in_set front rest t).nested in omega (arith, n, h)
