use Rattle.std.proofs.Common.{◌≡◌, ◌∙◌, ◌-◌, ℕ, zero, suc, Some, option_map, ap, sym, refl, arith}
use Rattle.tla_config.specs.Names.{Name}
use Rattle.tla_tree.specs.Tree.{Tree}
use Rattle.tla_defs.specs.Bodies.{Bodies}
use Rattle.tla_defs.specs.Private.Conjuncts.{replaced_in}
use Rattle.tla_defs.specs.Private.Seen.{tree_at}
use Rattle.tla_defs.specs.Private.Visits.{visits_in, visits_at, visits_of}
use Rattle.tla_defs.proofs.conjuncts.Classes.formula.Goals as goal

-- the visits for the body of a name are those of its formula, one definition less deep
one_less : (n : ℕ) (b : Bodies) (x : Name) (t : Tree) → (n ≡ 0 → ⊥) → b x ≡ Some t → visits_in (visits_of (n - 1) b) t ≡ visits_of n b x
one_less zero b x t some e = absurd (some refl)
one_less (suc n) b x t some e =
    let less : suc n - 1 ≡ n = omega arith in
    ap (λ m. visits_in (visits_of m b) t) less ∙ sym (ap (λ o. visits_at (visits_of n b) o) e)

pub returns-in-Some-clause-visits : goal.returns-in-Some-clause-visits
returns-in-Some-clause-visits c =
    one_less c.args.names (replaced_in c.args.self.now) c.args.name.now (tree_at c.in-Some.tree) c.if-names-eq0.false
    (sym c.replacing.ensures ∙ ap (λ o. option_map tree_at o) c.in-Some.is)
