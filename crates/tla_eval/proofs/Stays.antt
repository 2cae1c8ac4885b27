-- Forms of stable parts are stable.
use Rattle.std.proofs.Common.{Bool, true, false, cond, List, [], ◌∷◌, refl, ap, ◌∙◌, Ok, Err}
use Rattle.std.specs.List.{AllByRecursion}
use Rattle.tla_value.specs.Tree.{Tree}
use Rattle.tla_core.specs.Lists.{each, all_hold, some_hold, passing, first_passing}
use Rattle.tla_core.specs.Laws.{Stays}
use Rattle.tla_core.specs.declared.fault.Place.{Place}
use Rattle.tla_core.specs.Fault.{Outcome, ◌>>=◌}

pub same : {A : Type 0} {r : Outcome A} → Stays r r
same = record { by = λ h. refl }

pub stays-bind : {A B : Type 0} {r r' : Outcome A} {k k' : A → Outcome B} → Stays r r' → ((x : A) → Stays (k x) (k' x)) → Stays (r >>= k) (r' >>= k')
stays-bind {r = Ok x} {r' = r'} {k = k} {k' = k'} h j = record { by = λ n. ap (λ o. o >>= k') (h.by tt) ∙ (j x).by n }
stays-bind {r = Err f} {r' = r'} {k = k} {k' = k'} h j = record { by = λ n. ap (λ o. o >>= k') (h.by n) }

pub stays-cond : {A : Type 0} {x x' y y' : Outcome A} → (b : Bool) → Stays x x' → Stays y y' → Stays (cond b x y) (cond b x' y')
stays-cond true h j = h
stays-cond false h j = j

module _ {A : Type 0} {P : A → Type 0} where
  pub stays-each : {B : Type 0} {f f' : A → Outcome B} → ((x : A) → P x → Stays (f x) (f' x)) → (xs : List A) → AllByRecursion P xs → Stays (each f xs) (each f' xs)
  stays-each h [] all = same
  stays-each h (x ∷ xs) all = stays-bind (h x all.0) λ y. stays-bind (stays-each h xs all.1) λ ys. same

  pub stays-all_hold : {f f' : A → Outcome Bool} → ((x : A) → P x → Stays (f x) (f' x)) → (xs : List A) → AllByRecursion P xs → Stays (all_hold f xs) (all_hold f' xs)
  stays-all_hold h [] all = same
  stays-all_hold h (x ∷ xs) all = stays-bind (h x all.0) λ b. stays-cond b (stays-all_hold h xs all.1) same

  pub stays-some_hold : {f f' : A → Outcome Bool} → ((x : A) → P x → Stays (f x) (f' x)) → (xs : List A) → AllByRecursion P xs → Stays (some_hold f xs) (some_hold f' xs)
  stays-some_hold h [] all = same
  stays-some_hold h (x ∷ xs) all = stays-bind (h x all.0) λ b. stays-cond b same (stays-some_hold h xs all.1)

module _ {f f' : Tree → Outcome Bool} (h : (x : Tree) → Stays (f x) (f' x)) where
  pub stays-passing : (xs : List Tree) → Stays (passing f xs) (passing f' xs)
  stays-passing [] = same
  stays-passing (x ∷ xs) = stays-bind (h x) λ b. stays-bind (stays-passing xs) λ ys. same

  pub stays-first_passing : (p : Place) (xs : List Tree) → Stays (first_passing p f xs) (first_passing p f' xs)
  stays-first_passing p [] = same
  stays-first_passing p (x ∷ xs) = stays-bind (h x) λ b. stays-cond b same (stays-first_passing p xs)
