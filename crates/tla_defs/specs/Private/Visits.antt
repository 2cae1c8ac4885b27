-- How many formulas are visited to find the conjuncts of a formula: a measure of what is left to do. Private contracts
-- alone cite this.
use Rattle.std.specs.Prelude.{ℕ, zero, suc, ◌+◌, List, [], ◌∷◌, map, Option, Some, None}
use Rattle.tla_tree.specs.declared.tree.Bullet.TheVariants as bullet
use Rattle.tla_tree.specs.declared.tree.Infix.TheVariants as op
use Rattle.tla_tree.specs.Tree.{Tree, Trees, none, more, trees}
use Rattle.tla_tree.specs.Tree as t
use Rattle.tla_tree.specs.View.{view}
use Rattle.tla_config.specs.Names.{Name}
use Rattle.tla_defs.specs.declared.conjuncts.Formula.{Formula}
use Rattle.tla_defs.specs.declared.conjuncts.Split.{Split}
use Rattle.tla_defs.specs.declared.conjuncts.Split.TheVariants as split
use Rattle.tla_defs.specs.Bodies.{Bodies}
use Rattle.tla_defs.specs.Private.Seen.{tree_at}

-- the formula itself, and the visits for its parts: those of a conjunction, or of the body that replaces a name
abbrev mutual
  pub visits_in : (Name → ℕ) → Tree → ℕ
  visits_in ρ (t.Name w) = suc (ρ w.word)
  visits_in ρ (t.Paren p e) = suc (visits_in ρ e)
  visits_in ρ (t.Binary p op.And w a c) = suc (visits_in ρ a + visits_in ρ c)
  visits_in ρ (t.Junction p bullet.And es) = suc (visits_each ρ es)
  visits_in ρ e = 1

  pub visits_each : (Name → ℕ) → Trees → ℕ
  visits_each ρ none = 0
  visits_each ρ (more e es) = visits_in ρ e + visits_each ρ es

abbrev pub visits_at : (Name → ℕ) → Option Tree → ℕ
visits_at ρ None = 0
visits_at ρ (Some e) = visits_in ρ e

-- the visits for the body that replaces a name, if names are replaced n definitions deep
abbrev pub visits_of : ℕ → Bodies → Name → ℕ
visits_of zero b x = 0
visits_of (suc n) b x = visits_at (visits_of n b) (b x)

abbrev pub visits_from : Bodies → Formula → ℕ
visits_from b f = visits_in (visits_of f.names b) (tree_at f.tree)

abbrev pub visits_for : Bodies → Option Formula → ℕ
visits_for b None = 0
visits_for b (Some f) = visits_from b f

abbrev pub visits_left : Bodies → List Formula → ℕ
visits_left b [] = 0
visits_left b (f ∷ fs) = visits_from b f + visits_left b fs

-- the same, given how the code splits a formula
abbrev pub visits_by : (Name → ℕ) → Split → ℕ
visits_by ρ (split.Same e) = suc (visits_in ρ (view e.now.value))
visits_by ρ (split.Two a c) = suc (visits_in ρ (view a.now.value) + visits_in ρ (view c.now.value))
visits_by ρ (split.Many es) = suc (visits_each ρ (trees (map view es.now.items)))
visits_by ρ (split.Name w) = suc (ρ w.now)
visits_by ρ split.Whole = 1
