-- Two lists whose items are related one by one: tests and evaluations with the same results at related items have the
-- same results over the lists.
use Rattle.std.proofs.Common.{◌≡◌, suc, Bool, true, false, cond, List, [], ◌∷◌, length, refl, Option, Some, None, Ok}
use Rattle.tla_core.specs.Lists.{each, all_hold, some_hold}
use Rattle.tla_core.specs.Fault.{Outcome, ◌>>=◌}

pub data Pointwise {A B : Type 0} (P : A → B → Type 0) : List A → List B → Type 0 where
  none : Pointwise P [] []
  more : {x : A} {y : B} {xs : List A} {ys : List B} → P x y → Pointwise P xs ys → Pointwise P (x ∷ xs) (y ∷ ys)

pub data Optional {A B : Type 0} (P : A → B → Type 0) : Option A → Option B → Type 0 where
  neither : Optional P None None
  both : {x : A} {y : B} → P x y → Optional P (Some x) (Some y)

module _ {A B : Type 0} {P : A → B → Type 0} where
  pub same-length : {xs : List A} {ys : List B} → Pointwise P xs ys → length xs ≡ length ys
  same-length none = refl
  same-length (more h hs) = λ i. suc (same-length hs i)

  pub same-each : {C : Type 0} {f : A → Outcome C} {g : B → Outcome C} {xs : List A} {ys : List B} → Pointwise P xs ys → ((x : A) (y : B) → P x y → f x ≡ g y) → each f xs ≡ each g ys
  same-each none j = refl
  same-each (more h hs) j = λ i. j _ _ h i >>= λ z. (same-each hs j i >>= λ zs. Ok (z ∷ zs))

  pub same-all_hold : {f : A → Outcome Bool} {g : B → Outcome Bool} {xs : List A} {ys : List B} → Pointwise P xs ys → ((x : A) (y : B) → P x y → f x ≡ g y) → all_hold f xs ≡ all_hold g ys
  same-all_hold none j = refl
  same-all_hold (more h hs) j = λ i. j _ _ h i >>= λ holds. cond holds (same-all_hold hs j i) (Ok false)

  pub same-some_hold : {f : A → Outcome Bool} {g : B → Outcome Bool} {xs : List A} {ys : List B} → Pointwise P xs ys → ((x : A) (y : B) → P x y → f x ≡ g y) → some_hold f xs ≡ some_hold g ys
  same-some_hold none j = refl
  same-some_hold (more h hs) j = λ i. j _ _ h i >>= λ holds. cond holds (Ok true) (same-some_hold hs j i)
