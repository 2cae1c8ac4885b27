-- Parts that are evaluated in turn, of which one faults, and functions into a set.
use Rattle.std.proofs.Common.{◌≡◌, ◌⊎◌, ℕ, suc, ◌<◌, Bool, true, false, cond, List, [], ◌∷◌, length, drop, get_or, drop-cons, Some, Ok, Err, inl, inr, refl, sym, ap, ◌∙◌}
use Rattle.tla_value.specs.Tree.{Tree, set, trees}
use Rattle.tla_value.specs.Order.{tree_eq}
use Rattle.tla_value.specs.Funs.{arguments, values_of}
use Rattle.tla_core.specs.declared.fault.Place.{Place}
use Rattle.tla_core.specs.declared.fault.Fault.{Fault}
use Rattle.tla_core.specs.declared.expression.Core.{Core}
use Rattle.tla_core.specs.Fault.{Outcome, ◌>>=◌, out_of_memory}
use Rattle.tla_core.specs.Kinds.{as_set, pairs_of}
use Rattle.tla_core.specs.Lists.{all_hold, some_hold}
use Rattle.tla_core.specs.Meaning.{Meaning, Bound, Present, Next, asks, as_tree, elements}
use Rattle.tla_core.specs.Membership.{if_some}
use Rattle.tla_core.specs.SetForms.{means-functions}
use Rattle.tla_core.specs.Value.{means}
use Rattle.tla_core.specs.ExprOf.{expr_of, parts_of_cores}

-- from the part that faults on
module _ (p : Place) (b : Bound) (s : Present) (t : Next) (cores : List Core) (i : ℕ) (x : Core) (is : x ≡ get_or cores i x) (l : i < length cores) where
  here : parts_of_cores (drop i cores) ≡ means (expr_of x) ∷ parts_of_cores (drop (suc i) cores)
  here = ap parts_of_cores (drop-cons cores i x l ∙ ap (λ (y : Core). y ∷ drop (suc i) cores) (sym is))

  pub conjunction_told : (f : Fault) → (f ≡ out_of_memory) ⊎ (asks p (means (expr_of x)) b s t ≡ Err f) → (o : Outcome Bool) → o ≡ all_hold (λ (m : Meaning). asks p m b s t) (parts_of_cores (drop i cores)) → (f ≡ out_of_memory) ⊎ (as_tree o ≡ Err f)
  conjunction_told f (inl h) o e = inl h
  conjunction_told f (inr h) o e =
      inr (ap as_tree (e ∙ ap (all_hold (λ (m : Meaning). asks p m b s t)) here ∙ ap (λ (u : Outcome Bool). u >>= λ holds. cond holds (all_hold (λ (m : Meaning). asks p m b s t) (parts_of_cores (drop (suc i) cores))) (Ok false)) h))

  pub disjunction_told : (f : Fault) → (f ≡ out_of_memory) ⊎ (asks p (means (expr_of x)) b s t ≡ Err f) → (o : Outcome Bool) → o ≡ some_hold (λ (m : Meaning). asks p m b s t) (parts_of_cores (drop i cores)) → (f ≡ out_of_memory) ⊎ (as_tree o ≡ Err f)
  disjunction_told f (inl h) o e = inl h
  disjunction_told f (inr h) o e =
      inr (ap as_tree (e ∙ ap (some_hold (λ (m : Meaning). asks p m b s t)) here ∙ ap (λ (u : Outcome Bool). u >>= λ holds. cond holds (Ok true) (some_hold (λ (m : Meaning). asks p m b s t) (parts_of_cores (drop (suc i) cores)))) h))

-- a function whose arguments are the members of a set
of_values : (h : Tree → Outcome Bool) (ps : List (Tree × Tree)) → all_hold (λ (q : Tree × Tree). h q.1) ps ≡ all_hold h (values_of ps)
of_values h [] = refl
of_values h (p ∷ ps) = ap (λ o. h p.1 >>= λ holds. cond holds o (Ok false)) (of_values h ps)

pub function_into : (p : Place) (a r : Meaning) (b : Bound) (s : Present) (t : Next) (v : Tree) (ps : List (Tree × Tree)) (vs : List Tree) (x y : Tree) (xs : List Tree) (asked : Bool) → Some ps ≡ pairs_of v → a.value b s t ≡ Ok x → y ≡ x → as_set p y ≡ Ok xs → asked ≡ tree_eq (set (trees (arguments ps))) (set (trees xs)) → asked ≡ true → vs ≡ values_of ps → (means-functions p a r).has v b s t ≡ all_hold (λ u. r.has u b s t) vs
function_into p a r b s t v ps vs x y xs asked is value same members test holds all =
    ap (λ o. if_some o (λ us. elements p a b s t >>= λ zs. cond (tree_eq (set (trees (arguments us))) (set (trees zs))) (all_hold (λ (q : Tree × Tree). r.has q.1 b s t) us) (Ok false))) (sym is)
    ∙ ap (λ (o : Outcome (List Tree)). o >>= λ zs. cond (tree_eq (set (trees (arguments ps))) (set (trees zs))) (all_hold (λ (q : Tree × Tree). r.has q.1 b s t) ps) (Ok false)) (ap (λ (o : Outcome Tree). o >>= as_set p) value ∙ ap (as_set p) (sym same) ∙ members)
    ∙ ap (λ (h : Bool). cond h (all_hold (λ (q : Tree × Tree). r.has q.1 b s t) ps) (Ok false)) (sym test ∙ holds)
    ∙ of_values (λ u. r.has u b s t) ps ∙ ap (all_hold (λ u. r.has u b s t)) (sym all)
