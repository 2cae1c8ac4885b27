-- Sets that are known.
use Rattle.std.proofs.Common.{◌≡◌, List, Ok, ap, ◌∙◌}
use Rattle.tla_value.specs.Tree.{Tree, set, trees, members-trees}
use Rattle.tla_value.specs.Sets.{is_member}
use Rattle.tla_core.specs.declared.fault.Place.{Place}
use Rattle.tla_core.specs.Fault.{Outcome}
use Rattle.tla_sets.specs.Elements.{elements_rule, has_rule}

pub elements_known : (p : Place) (o : Outcome Tree) (ts : List Tree) → o ≡ Ok (set (trees ts)) → elements_rule p o ≡ Ok ts
elements_known p o ts e = ap (λ (q : Outcome Tree). elements_rule p q) e ∙ ap (λ us. Ok us) (members-trees ts)

pub has_known : (p : Place) (v : Tree) (o : Outcome Tree) (ts : List Tree) → o ≡ Ok (set (trees ts)) → has_rule p v o ≡ Ok (is_member v ts)
has_known p v o ts e = ap (λ (q : Outcome Tree). has_rule p v q) e ∙ ap (λ us. Ok (is_member v us)) (members-trees ts)
