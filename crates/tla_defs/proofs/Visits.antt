-- Each visit to a formula leaves fewer visits to do.
use Rattle.std.proofs.Common.{◌≡◌, ◌<◌, ℕ, suc, ◌+◌, List, [], ◌∷◌, ◌++◌, map, refl, arith}
use Rattle.tla_tree.specs.declared.tree.Expr.{Expr}
use Rattle.tla_tree.specs.Tree.{trees}
use Rattle.tla_tree.specs.View.{view}
use Rattle.tla_config.specs.Names.{Name}
use Rattle.tla_defs.specs.declared.conjuncts.Formula.{Formula}
use Rattle.tla_defs.specs.Bodies.{Bodies}
use Rattle.tla_defs.specs.Private.Visits.{visits_in, visits_each, visits_from, visits_left}

-- the last formula may be counted first
pub visits_last : (b : Bodies) (left : List Formula) (f : Formula) → visits_left b (left ++ f ∷ []) ≡ visits_from b f + visits_left b left
visits_last b [] f = refl
visits_last b (g ∷ left) f = let more = visits_last b left f in omega (arith, more)

pub visits_more : (ρ : Name → ℕ) (es : List Expr) (e : Expr) → visits_each ρ (trees (map view (es ++ e ∷ []))) ≡ visits_each ρ (trees (map view es)) + visits_in ρ (view e)
visits_more ρ [] e = omega arith
visits_more ρ (d ∷ es) e = let more = visits_more ρ es e in omega (arith, more)

module _ (b : Bodies) (left : List Formula) (f : Formula) where
  -- the formula has no parts
  pub less_none : (n : ℕ) → visits_from b f ≡ suc n → visits_left b left < visits_left b (left ++ f ∷ [])
  less_none n e = let last = visits_last b left f in omega (arith, last, e)

  -- its parts need fewer visits
  pub less_left : (next : List Formula) (n : ℕ) → visits_left b next ≡ n + visits_left b left → visits_from b f ≡ suc n → visits_left b next < visits_left b (left ++ f ∷ [])
  less_left next n h e = let last = visits_last b left f in omega (arith, last, h, e)

  pub less_one : (g : Formula) → visits_from b f ≡ suc (visits_from b g) → visits_left b (left ++ g ∷ []) < visits_left b (left ++ f ∷ [])
  less_one g e = less_left (left ++ g ∷ []) (visits_from b g) (visits_last b left g) e

  pub less_two : (g h : Formula) → visits_from b f ≡ suc (visits_from b g + visits_from b h) → visits_left b ((left ++ h ∷ []) ++ g ∷ []) < visits_left b (left ++ f ∷ [])
  less_two g h e =
      let one = visits_last b left h in
      let two = visits_last b (left ++ h ∷ []) g in
      less_left ((left ++ h ∷ []) ++ g ∷ []) (visits_from b g + visits_from b h) (omega (arith, one, two)) e
