-- A set whose elements all fit a pattern.
use Rattle.std.proofs.Common.{◌≡◌, ℕ, List, Result, Ok, Err, refl, ap, sym, subst}
use Rattle.tla_value.specs.Tree.{Tree, set, trees, members-trees}
use Rattle.tla_value.specs.TreeOf.{tree_of}
use Rattle.tla_value.specs.declared.value.Value.{Value}
use Rattle.tla_value.specs.declared.value.Value.TheVariants.{Set}
use Rattle.tla_core.specs.declared.fault.Place.{Place}
use Rattle.tla_core.specs.Fault.{Outcome, ◌>>=◌}
use Rattle.tla_core.specs.Lists.{each}
use Rattle.tla_core.specs.Patterns.{fitting, tried_set}
use Rattle.tla_quick.specs.declared.stop.Stop.{Stop}
use Rattle.tla_quick.specs.Private.Answers.{Answers, nothing_of}

tried_each : (p : Place) (k : ℕ) (v : Value) (ts : List Tree) → v ≡ Set ts → tried_set p k (tree_of v) ≡ (each (fitting p k) ts >>= λ xss. Ok (tree_of v))
tried_each p k v ts e =
    subst (λ (u : Value). tried_set p k (tree_of u) ≡ (each (fitting p k) ts >>= λ xss. Ok (tree_of u))) (sym e) (ap (λ us. each (fitting p k) us >>= λ xss. Ok (set (trees ts))) (members-trees ts))

passes : (o : Outcome (List (List Tree))) (t : Tree) (r : Result (Unit {0}) Stop) → Answers (λ (u : Unit {0}). u) r (nothing_of o) → Answers (λ (u : Unit {0}). t) r (o >>= λ xss. Ok t)
passes (Ok xss) t (Ok u) h = refl
passes (Ok xss) t (Err f) h = tt
passes (Err g) t (Ok u) h = cc
passes (Err g) t (Err f) h = tt

pub set_tried : (p : Place) (k : ℕ) (v : Value) (ts : List Tree) (r : Result (Unit {0}) Stop) → v ≡ Set ts → Answers (λ (u : Unit {0}). u) r (nothing_of (each (fitting p k) ts)) → Answers (λ (u : Unit {0}). tree_of v) r (tried_set p k (tree_of v))
set_tried p k v ts r e h = subst (λ o. Answers (λ (u : Unit {0}). tree_of v) r o) (sym (tried_each p k v ts e)) (passes (each (fitting p k) ts) (tree_of v) r h)
