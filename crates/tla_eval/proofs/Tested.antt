-- A test of each element of a set, one by one.
use Rattle.std.proofs.Common.{◌≡◌, ℕ, suc, ◌+◌, ◌≤◌, Bool, true, false, cond, List, [], ◌∷◌, ◌++◌, length, drop, Option, Some, None, Result, Ok, Err, inl, inr, refl, sym, ap, ◌∙◌, add-one}
use Rattle.std.specs.Prelude.{slice_get}
use Rattle.std.specs.Option.{option_to_list}
use Rattle.tla_value.specs.Tree.{Tree, set}
use Rattle.tla_value.specs.Sets.{is_member}
use Rattle.tla_core.specs.declared.fault.Place.{Place}
use Rattle.tla_core.specs.declared.fault.Fault.{Fault}
use Rattle.tla_core.specs.declared.fault.FaultCode.TheVariants.{NoChoice}
use Rattle.tla_core.specs.Fault.{Outcome, ◌>>=◌, fault}
use Rattle.tla_core.specs.Kinds.{as_set, or_fault, make_set}
use Rattle.tla_core.specs.Lists.{each, all_hold, some_hold, first_passing, passing}
use Rattle.tla_core.specs.Meaning.{Meaning, Bound, Present, Next, means-enumerated}
use Rattle.tla_operators.specs.Gives.{GivesBy, GivesTruth}
use Rattle.tla_sets.specs.Elements.{elements_rule, has_rule, stands_rule}
use Rattle.tla_eval.specs.Private.Parts.{tested, one_of_rule}
use Rattle.tla_operators.proofs.Members.{bind-ok}
use Rattle.tla_eval.proofs.Collected.{passing_more}
use Rattle.tla_sets.proofs.Listed.{drop_from, drop_past, get_past, none_more}

-- ---- an operator on two known values
module _ (p : Place) (rule : Tree → Tree → Outcome Tree) (o o' : Outcome Tree) (x y x' y' : Tree) (e : o ≡ Ok x) (e' : o' ≡ Ok y) (f : x' ≡ x) (f' : y' ≡ y) where
  pub two_gone : ((o >>= λ a. o' >>= λ c. rule a c) >>= λ z. as_set p z) ≡ elements_rule p (rule x' y')
  two_gone =
      ap (λ (q : Outcome Tree). elements_rule p (q >>= λ a. o' >>= λ c. rule a c)) e
      ∙ ap (λ (q : Outcome Tree). elements_rule p (q >>= λ c. rule x c)) e'
      ∙ ap (λ a. elements_rule p (rule a y)) (sym f)
      ∙ ap (λ c. elements_rule p (rule x' c)) (sym f')

  pub two_asked : (v : Tree) → ((o >>= λ a. o' >>= λ c. rule a c) >>= λ z. as_set p z >>= λ xs. Ok (is_member v xs)) ≡ has_rule p v (rule x' y')
  two_asked v =
      ap (λ (q : Outcome Tree). has_rule p v (q >>= λ a. o' >>= λ c. rule a c)) e
      ∙ ap (λ (q : Outcome Tree). has_rule p v (q >>= λ c. rule x c)) e'
      ∙ ap (λ a. has_rule p v (rule a y)) (sym f)
      ∙ ap (λ c. has_rule p v (rule x' c)) (sym f')

-- ---- the result of a test of an element
there : (test : Tree → Outcome Bool) (o : Option Tree) (b : Bool) → tested test o ≡ Ok (Some b) → (v : Tree) × (o ≡ Some v) × (test v ≡ Ok b)
there test None b h = absurd (none_some h)
  where
    none_some : (let r : Outcome (Option Bool) = Ok None in r ≡ Ok (Some b)) → ⊥
    none_some k = cc
there test (Some v) b h =
    let r = bind-ok (test v) (λ x. Ok (Some x)) (Some b) h in
    (v, refl, r.1 ∙ ap (λ x. Ok x) (same r.0 r.2))
  where
    same : (x : Bool) → (let r : Outcome (Option Bool) = Ok (Some x) in r ≡ Ok (Some b)) → x ≡ b
    same x k = cc

faults : (test : Tree → Outcome Bool) (o : Option Tree) (g : Fault) → tested test o ≡ Err g → (v : Tree) × (o ≡ Some v) × (test v ≡ Err g)
faults test None g h = absurd (ok_err h)
  where
    ok_err : (let r : Outcome (Option Bool) = Ok None in r ≡ Err g) → ⊥
    ok_err k = cc
faults test (Some v) g h = (v, refl, go (test v) h)
  where
    go : (r : Outcome Bool) → (r >>= λ x. Ok (Some x)) ≡ Err g → r ≡ Err g
    go (Ok x) k = cc
    go (Err f) k = cc

pub tested_there : (test : Tree → Outcome Bool) (o : Option Tree) (v : Tree) (b : Bool) → o ≡ Some v → test v ≡ Ok b → tested test o ≡ Ok (Some b)
tested_there test o v b h k = ap (tested test) h ∙ ap (λ (r : Outcome Bool). r >>= λ x. Ok (Some x)) k

-- the result of a test of an element that exists
pub tested_told : (test : Tree → Outcome Bool) (o : Option Tree) (v : Tree) (r : Result Bool Fault) → o ≡ Some v → GivesTruth r (test v) → GivesBy (λ (b : Bool). Some b) r (tested test o)
tested_told test o v (Ok b) h k = tested_there test o v b h k
tested_told test o v (Err f) h (inl m) = inl m
tested_told test o v (Err f) h (inr e) = inr (ap (tested test) h ∙ ap (λ (r : Outcome Bool). r >>= λ x. Ok (Some x)) e)

-- ---- loops over elements, from one of them on
module _ {A : Type 0} (test : Tree → Outcome Bool) (over : List Tree → Outcome A) (next : Tree → Bool → Outcome A → Outcome A) (turn : (v : Tree) (vs : List Tree) → over (v ∷ vs) ≡ (test v >>= λ b. next v b (over vs))) (xs : List Tree) (i : ℕ) where
  from_here : (v : Tree) → slice_get xs i ≡ Some v → over (drop i xs) ≡ (test v >>= λ b. next v b (over (drop (i + 1) xs)))
  from_here v h = rw add-one (ap over (drop_from xs i v h) ∙ turn v (drop (suc i) xs))

  pub over_tested : (v : Tree) (b : Bool) → slice_get xs i ≡ Some v → test v ≡ Ok b → over (drop i xs) ≡ next v b (over (drop (i + 1) xs))
  over_tested v b h e = from_here v h ∙ ap (λ (o : Outcome Bool). o >>= λ b. next v b (over (drop (i + 1) xs))) e

  over_stopped : (g : Fault) → tested test (slice_get xs i) ≡ Err g → over (drop i xs) ≡ Err g
  over_stopped g h = let r = faults test (slice_get xs i) g h in from_here r.0 r.1 ∙ ap (λ (o : Outcome Bool). o >>= λ b. next r.0 b (over (drop (i + 1) xs))) r.2

  pub over_first : over (drop i xs) ≡ (tested test (slice_get xs i) >>= λ o. over (drop i xs))
  over_first = go (tested test (slice_get xs i)) refl
    where
      go : (r : Outcome (Option Bool)) → tested test (slice_get xs i) ≡ r → over (drop i xs) ≡ (r >>= λ o. over (drop i xs))
      go (Ok o) h = refl
      go (Err g) h = over_stopped g h

module _ (test : Tree → Outcome Bool) (xs : List Tree) (i : ℕ) where
  past : length xs ≤ i → drop i xs ≡ []
  past h = drop_past xs i (get_past xs i h)

  -- up to the first that is FALSE
  pub all_more : (b : Bool) → tested test (slice_get xs i) ≡ Ok (Some b) → b ≡ true → all_hold test (drop i xs) ≡ all_hold test (drop (i + 1) xs)
  all_more b h e = let r = there test (slice_get xs i) b h in over_tested test (all_hold test) (λ v b o. cond b o (Ok false)) (λ v vs. refl) xs i r.0 true r.1 (r.2 ∙ ap (λ x. Ok x) e)

  pub all_stop : (b : Bool) → tested test (slice_get xs i) ≡ Ok (Some b) → b ≡ false → all_hold test (drop i xs) ≡ Ok false
  all_stop b h e = let r = there test (slice_get xs i) b h in over_tested test (all_hold test) (λ v b o. cond b o (Ok false)) (λ v vs. refl) xs i r.0 false r.1 (r.2 ∙ ap (λ x. Ok x) e)

  pub all_first : all_hold test (drop i xs) ≡ (tested test (slice_get xs i) >>= λ o. all_hold test (drop i xs))
  all_first = over_first test (all_hold test) (λ v b o. cond b o (Ok false)) (λ v vs. refl) xs i

  pub all_end : length xs ≤ i → all_hold test (drop i xs) ≡ Ok true
  all_end h = ap (all_hold test) (past h)

  -- up to the first that is TRUE
  pub some_more : (b : Bool) → tested test (slice_get xs i) ≡ Ok (Some b) → b ≡ false → some_hold test (drop i xs) ≡ some_hold test (drop (i + 1) xs)
  some_more b h e = let r = there test (slice_get xs i) b h in over_tested test (some_hold test) (λ v b o. cond b (Ok true) o) (λ v vs. refl) xs i r.0 false r.1 (r.2 ∙ ap (λ x. Ok x) e)

  pub some_stop : (b : Bool) → tested test (slice_get xs i) ≡ Ok (Some b) → b ≡ true → some_hold test (drop i xs) ≡ Ok true
  some_stop b h e = let r = there test (slice_get xs i) b h in over_tested test (some_hold test) (λ v b o. cond b (Ok true) o) (λ v vs. refl) xs i r.0 true r.1 (r.2 ∙ ap (λ x. Ok x) e)

  pub some_first : some_hold test (drop i xs) ≡ (tested test (slice_get xs i) >>= λ o. some_hold test (drop i xs))
  some_first = over_first test (some_hold test) (λ v b o. cond b (Ok true) o) (λ v vs. refl) xs i

  pub some_end : length xs ≤ i → some_hold test (drop i xs) ≡ Ok false
  some_end h = ap (some_hold test) (past h)

  -- the first that is TRUE
  pub least_more : (p : Place) (b : Bool) → tested test (slice_get xs i) ≡ Ok (Some b) → b ≡ false → first_passing p test (drop i xs) ≡ first_passing p test (drop (i + 1) xs)
  least_more p b h e = let r = there test (slice_get xs i) b h in over_tested test (first_passing p test) (λ v b o. cond b (Ok v) o) (λ v vs. refl) xs i r.0 false r.1 (r.2 ∙ ap (λ x. Ok x) e)

  pub least_stop : (p : Place) (b : Bool) → tested test (slice_get xs i) ≡ Ok (Some b) → b ≡ true → first_passing p test (drop i xs) ≡ or_fault NoChoice p (slice_get xs i)
  least_stop p b h e =
      let r = there test (slice_get xs i) b h in
      over_tested test (first_passing p test) (λ v b o. cond b (Ok v) o) (λ v vs. refl) xs i r.0 true r.1 (r.2 ∙ ap (λ x. Ok x) e)
      ∙ sym (ap (or_fault NoChoice p) r.1)

  pub least_first : (p : Place) → first_passing p test (drop i xs) ≡ (tested test (slice_get xs i) >>= λ o. first_passing p test (drop i xs))
  least_first p = over_first test (first_passing p test) (λ v b o. cond b (Ok v) o) (λ v vs. refl) xs i

  pub least_end : (p : Place) → length xs ≤ i → first_passing p test (drop i xs) ≡ fault NoChoice p
  least_end p h = ap (first_passing p test) (past h)

  -- those that are TRUE, after the collected ones
  pub kept_more : (old new : List Tree) (b : Bool) → tested test (slice_get xs i) ≡ Ok (Some b) → new ≡ cond b (old ++ option_to_list (slice_get xs i)) old
      → (passing test (drop i xs) >>= λ ys. Ok (old ++ ys)) ≡ (passing test (drop (i + 1) xs) >>= λ ys. Ok (new ++ ys))
  kept_more old new b h e =
      let r = there test (slice_get xs i) b h in
      let k : cond b (old ++ r.0 ∷ []) old ≡ new = sym (e ∙ ap (λ o. cond b (old ++ option_to_list o) old) r.1) in
      rw add-one (ap (λ us. passing test us >>= λ ys. Ok (old ++ ys)) (drop_from xs i r.0 r.1)
      ∙ passing_more test old r.0 (drop (suc i) xs) b r.2
      ∙ ap (λ us. passing test (drop (suc i) xs) >>= λ ys. Ok (us ++ ys)) k)

  pub kept_first : (old : List Tree) → (passing test (drop i xs) >>= λ ys. Ok (old ++ ys)) ≡ (tested test (slice_get xs i) >>= λ o. passing test (drop i xs) >>= λ ys. Ok (old ++ ys))
  kept_first old = ap (λ o. o >>= λ ys. Ok (old ++ ys)) (over_first test (passing test) (λ v b o. o >>= λ ys. Ok (cond b (v ∷ ys) ys)) (λ v vs. refl) xs i) ∙ go (tested test (slice_get xs i))
    where
      go : (o : Outcome (Option Bool)) → ((o >>= λ x. passing test (drop i xs)) >>= λ ys. Ok (old ++ ys)) ≡ (o >>= λ x. passing test (drop i xs) >>= λ ys. Ok (old ++ ys))
      go (Ok x) = refl
      go (Err g) = refl

  pub kept_end : (old : List Tree) → length xs ≤ i → (passing test (drop i xs) >>= λ ys. Ok (old ++ ys)) ≡ Ok old
  kept_end old h = ap (λ us. passing test us >>= λ ys. Ok (old ++ ys)) (past h) ∙ ap (λ us. Ok us) (none_more old)

-- ---- whether a value is one of the values of some parts
pub one_of_is : (p : Place) (ms : List Meaning) (v : Tree) (b : Bound) (s : Present) (t : Next) → (means-enumerated p ms).has v b s t ≡ one_of_rule p ms v b s t
one_of_is p ms v b s t = go (each (λ (m : Meaning). m.value b s t) ms)
  where
    go : (o : Outcome (List Tree)) → ((o >>= make_set p) >>= λ x. as_set p x >>= λ xs. Ok (is_member v xs)) ≡ (o >>= λ vs. stands_rule p vs v)
    go (Ok vs) = refl
    go (Err e) = refl
