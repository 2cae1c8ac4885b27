-- The values of a body for all choices from some lists.
use Rattle.std.proofs.Common.{◌≡◌, ℕ, zero, suc, ◌+◌, ◌<◌, List, [], ◌∷◌, ◌++◌, length, drop, Option, Some, None, option_map, Ok, Err, ◌⊎◌, inl, inr, ⊎_elim, refl, sym, ap, ◌∙◌, subst, add-one, arith}
use Rattle.std.specs.Prelude.{slice_get}
use Rattle.tla_value.specs.Tree.{Tree}
use Rattle.tla_value.specs.Choices.{choices}
use Rattle.tla_core.specs.declared.fault.Place.{Place}
use Rattle.tla_core.specs.declared.fault.Fault.{Fault}
use Rattle.tla_core.specs.Fault.{Outcome, ◌>>=◌, out_of_memory}
use Rattle.tla_core.specs.Kinds.{as_set, make_set}
use Rattle.tla_core.specs.Lists.{each}
use Rattle.tla_core.specs.Meaning.{Meaning, Bound, Present, Next}
use Rattle.tla_core.specs.Functions.{function_on, means-image, means-function}
use Rattle.tla_eval.specs.Private.Parts.{nothing_of}
use Rattle.tla_eval.specs.Private.Chosen.{values_for, chosen_rule, image_rule, chosen_function_rule, value_at, function_for_rule}
use Rattle.tla_operators.specs.Gathered.{then_more}
use Rattle.tla_sets.specs.Domain.{function_rule, AreForChoices, IsDomain}
use Rattle.tla_sets.specs.declared.domain.Domain.TheVariants.{Refused}
use Rattle.tla_operators.proofs.Members.{bind-ok}
use Rattle.tla_sets.proofs.Listed.{none_more, drop_from, drop_past, bind_assoc, same_list, each_long}
use Rattle.tla_eval.proofs.Collected.{each_more, each_stop}

-- ---- choices
module _ {A : Type 0} (f : A → Outcome Tree) (kept : List Tree) (all : List A) (i : ℕ) (x : A) (at : slice_get all i ≡ Some x) where
  pub chosen_from : then_more kept (each f (drop i all)) ≡ (f x >>= λ y. then_more (kept ++ y ∷ []) (each f (drop (suc i) all)))
  chosen_from = ap (λ us. then_more kept (each f us)) (drop_from all i x at) ∙ go (f x) refl
    where
      go : (o : Outcome Tree) → f x ≡ o → then_more kept (each f (x ∷ drop (suc i) all)) ≡ (f x >>= λ y. then_more (kept ++ y ∷ []) (each f (drop (suc i) all)))
      go (Ok y) h = each_more f kept x (drop (suc i) all) y h ∙ ap (λ (o : Outcome Tree). o >>= λ z. then_more (kept ++ z ∷ []) (each f (drop (suc i) all))) (sym h)
      go (Err e) h = each_stop f kept x (drop (suc i) all) e h ∙ ap (λ (o : Outcome Tree). o >>= λ z. then_more (kept ++ z ∷ []) (each f (drop (suc i) all))) (sym h)

  pub chosen_step : (y : Tree) (new : List Tree) → f x ≡ Ok y → new ≡ kept ++ y ∷ [] → then_more kept (each f (drop i all)) ≡ then_more new (each f (drop (i + 1) all))
  chosen_step y new h e =
      rw add-one (chosen_from ∙ ap (λ (o : Outcome Tree). o >>= λ z. then_more (kept ++ z ∷ []) (each f (drop (suc i) all))) h ∙ ap (λ us. then_more us (each f (drop (suc i) all))) (sym e))

pub chosen_end : {A : Type 0} (f : A → Outcome Tree) (kept : List Tree) (all : List A) (i : ℕ) → slice_get all i ≡ None → then_more kept (each f (drop i all)) ≡ Ok kept
chosen_end f kept all i h = ap (λ us. then_more kept (each f us)) (drop_past all i h) ∙ ap (λ us. Ok us) (none_more kept)

-- ---- the value for the choice with a number
pub one_choice : (xs : List Tree) (n : ℕ) → slice_get (choices (xs ∷ [])) n ≡ option_map (λ x. x ∷ []) (slice_get xs n)
one_choice [] n = refl
one_choice (x ∷ xs) zero = refl
one_choice (x ∷ xs) (suc n) = one_choice xs n

module _ (e : Meaning) (b : Bound) (s : Present) (t : Next) where
  there : (o : Option (List Tree)) (v : Tree) → value_at e b s t o ≡ Ok (Some v) → (c : List Tree) × (o ≡ Some c) × (e.value (b ++ c) s t ≡ Ok v)
  there None v h = absurd (none_some h)
    where
      none_some : (let r : Outcome (Option Tree) = Ok None in r ≡ Ok (Some v)) → ⊥
      none_some k = cc
  there (Some c) v h =
      let r = bind-ok (e.value (b ++ c) s t) (λ x. Ok (Some x)) (Some v) h in
      (c, refl, r.1 ∙ ap (λ x. Ok x) (same r.0 r.2))
    where
      same : (x : Tree) → (let r : Outcome (Option Tree) = Ok (Some x) in r ≡ Ok (Some v)) → x ≡ v
      same x k = cc

  gone : (o : Option (List Tree)) → value_at e b s t o ≡ Ok None → o ≡ None
  gone None h = refl
  gone (Some c) h = let r = bind-ok (e.value (b ++ c) s t) (λ x. Ok (Some x)) None h in absurd (some_none r.0 r.2)
    where
      some_none : (x : Tree) → (let r : Outcome (Option Tree) = Ok (Some x) in r ≡ Ok None) → ⊥
      some_none x k = cc

  pub value_here : (o : Option (List Tree)) (c : List Tree) (v : Tree) → o ≡ Some c → e.value (b ++ c) s t ≡ Ok v → value_at e b s t o ≡ Ok (Some v)
  value_here o c v h k = ap (λ (u : Option (List Tree)). value_at e b s t u) h ∙ ap (λ (r : Outcome Tree). r >>= λ x. Ok (Some x)) k

  module _ (all : List (List Tree)) (i : ℕ) where
    pub value_more : (kept : List Tree) (v : Tree) (new : List Tree) → value_at e b s t (slice_get all i) ≡ Ok (Some v) → new ≡ kept ++ v ∷ []
        → then_more kept (each (λ c. e.value (b ++ c) s t) (drop i all)) ≡ then_more new (each (λ c. e.value (b ++ c) s t) (drop (i + 1) all))
    value_more kept v new h k = let r = there (slice_get all i) v h in chosen_step (λ c. e.value (b ++ c) s t) kept all i r.0 r.1 v new r.2 k

    pub value_end : (kept : List Tree) → value_at e b s t (slice_get all i) ≡ Ok None → then_more kept (each (λ c. e.value (b ++ c) s t) (drop i all)) ≡ Ok kept
    value_end kept h = chosen_end (λ c. e.value (b ++ c) s t) kept all i (gone (slice_get all i) h)

nothing_more : (kept : List Tree) (o : Outcome (List Tree)) → nothing_of (then_more kept o) ≡ nothing_of o
nothing_more kept (Ok ys) = refl
nothing_more kept (Err g) = refl

-- ---- the next of the choices that are left
module _ (f : List Tree → Outcome Tree) (left : List (List Tree)) where
  pub taken_more : (kept c : List Tree) (v : Tree) (new : List Tree) (rest : List (List Tree)) → slice_get left 0 ≡ Some c → f c ≡ Ok v → new ≡ kept ++ v ∷ [] → rest ≡ drop 1 left → then_more kept (each f left) ≡ then_more new (each f rest)
  taken_more kept c v new rest at h e r = chosen_step f kept left 0 c at v new h e ∙ ap (λ cs. then_more new (each f cs)) (sym r)

  -- where the values aren't kept
  pub passed_more : (c : List Tree) (v : Tree) (rest : List (List Tree)) → slice_get left 0 ≡ Some c → f c ≡ Ok v → rest ≡ drop 1 left → nothing_of (each f left) ≡ nothing_of (each f rest)
  passed_more c v rest at h r =
      sym (nothing_more [] (each f left))
      ∙ ap nothing_of (taken_more [] c v (v ∷ []) rest at h refl r)
      ∙ nothing_more (v ∷ []) (each f rest)

pub image_is : (p : Place) (ms : List Meaning) (e : Meaning) (b : Bound) (s : Present) (t : Next) → (means-image p ms e).value b s t ≡ image_rule p ms e b s t
image_is p ms e b s t = go (each (λ (m : Meaning). m.value b s t) ms)
  where
    go : (o : Outcome (List Tree)) → ((o >>= each (as_set p)) >>= λ sets. values_for e b s t sets >>= make_set p) ≡ (o >>= λ vs. chosen_rule p e b s t vs >>= make_set p)
    go (Err x) = refl
    go (Ok vs) = sym (bind_assoc (each (as_set p) vs) (values_for e b s t) (make_set p))

pub image_step : (p : Place) (ms : List Meaning) (e : Meaning) (b : Bound) (s : Present) (t : Next) (vs : List Tree) (lists : List (List Tree)) → each (λ (m : Meaning). m.value b s t) ms ≡ Ok vs → each (as_set p) vs ≡ Ok lists
    → image_rule p ms e b s t ≡ (values_for e b s t lists >>= make_set p)
image_step p ms e b s t vs lists h j =
    ap (λ (o : Outcome (List Tree)). o >>= λ us. chosen_rule p e b s t us >>= make_set p) h
    ∙ ap (λ (o : Outcome (List (List Tree))). (o >>= values_for e b s t) >>= make_set p) j

pub function_is : (p : Place) (ms : List Meaning) (e : Meaning) (b : Bound) (s : Present) (t : Next) → (means-function p ms e).value b s t ≡ chosen_function_rule p ms e b s t
function_is p ms e b s t = go (each (λ (m : Meaning). m.value b s t) ms)
  where
    both : (r : Outcome (List (List Tree))) → (r >>= λ sets. values_for e b s t sets >>= λ ys. function_on p (choices sets) ys) ≡ ((r >>= values_for e b s t) >>= λ ys. r >>= λ sets. function_on p (choices sets) ys)
    both (Ok sets) = refl
    both (Err x) = refl

    go : (o : Outcome (List Tree)) → ((o >>= each (as_set p)) >>= λ sets. values_for e b s t sets >>= λ ys. function_on p (choices sets) ys) ≡ (o >>= λ vs. chosen_rule p e b s t vs >>= λ ys. each (as_set p) vs >>= λ sets. function_on p (choices sets) ys)
    go (Err x) = refl
    go (Ok vs) = both (each (as_set p) vs)

-- as many values as choices
pub chosen_long : (p : Place) (e : Meaning) (b : Bound) (s : Present) (t : Next) (vs ys : List Tree) → chosen_rule p e b s t vs ≡ Ok ys → (lists : List (List Tree)) → each (as_set p) vs ≡ Ok lists → length ys ≡ length (choices lists)
chosen_long p e b s t vs ys h lists j =
    let r = bind-ok (each (as_set p) vs) (values_for e b s t) ys h in
    each_long (λ c. e.value (b ++ c) s t) (choices r.0) ys r.2 ∙ ap (λ ls. length (choices ls)) (same_list r.0 lists (sym r.1 ∙ j))

-- the function of several names, if its domain is known
module _ (p : Place) (e : Meaning) (b : Bound) (s : Present) (t : Next) (vs : List Tree) (lists : List (List Tree)) (are : each (as_set p) vs ≡ Ok lists) where
  pub rule_of_lists : chosen_rule p e b s t vs ≡ values_for e b s t lists
  rule_of_lists = ap (λ (o : Outcome (List (List Tree))). o >>= values_for e b s t) are

  pub for_choices : (ys : List Tree) → values_for e b s t lists ≡ Ok ys → AreForChoices p vs ys
  for_choices ys h = chosen_long p e b s t vs ys (rule_of_lists ∙ h)

  pub function_of_values : (ys : List Tree) → values_for e b s t lists ≡ Ok ys → function_for_rule p e b s t vs ≡ function_rule p vs ys
  function_of_values ys h = ap (λ (o : Outcome (List Tree)). o >>= function_rule p vs) (rule_of_lists ∙ h)

  -- if the values are evaluated and dropped
  pub function_first : function_for_rule p e b s t vs ≡ (nothing_of (values_for e b s t lists) >>= λ u. values_for e b s t lists >>= function_rule p vs)
  function_first = ap (λ (o : Outcome (List Tree)). o >>= function_rule p vs) rule_of_lists ∙ go (values_for e b s t lists)
    where
      go : (o : Outcome (List Tree)) → (o >>= function_rule p vs) ≡ (nothing_of o >>= λ u. o >>= function_rule p vs)
      go (Ok ys) = refl
      go (Err g) = refl

  pub function_passed : (u : Unit {0}) (f : Fault) → nothing_of (values_for e b s t lists) ≡ Ok u → IsDomain p vs (Refused f) → (f ≡ out_of_memory) ⊎ (function_for_rule p e b s t vs ≡ Err f)
  function_passed u f h refuses =
      let r = bind-ok (values_for e b s t lists) (λ (ys : List Tree). Ok tt) u h in
      ⊎_elim (λ m. inl m) (λ k. inr (function_of_values r.0 r.1 ∙ k)) (refuses r.0 (for_choices r.0 r.1))
