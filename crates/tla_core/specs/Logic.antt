-- Logic, and forms that bind one name. (Book, chapter 16.)
use Rattle.std.specs.Prelude.{Bool, true, false, cond, ◌||◌, List, [], ◌∷◌, ◌++◌, Option, Some, None, Ok}
use Rattle.std.specs.List.{list_any}
use Rattle.tla_value.specs.Tree.{truth}
use Rattle.tla_core.specs.Fault.{Place, AssertFalse, ◌>>=◌, fault}
use Rattle.tla_core.specs.Lists.{all_hold, some_hold, first_passing, taken}
use Rattle.tla_core.specs.Meaning.{Meaning, asks, elements, as_tree, any_primed, by_value}

abbrev pub means-conjunction : Place → List Meaning → Meaning
means-conjunction p ms = by_value p (any_primed ms) (λ b s t. as_tree (all_hold (λ m. asks p m b s t) ms))

abbrev pub means-disjunction : Place → List Meaning → Meaning
means-disjunction p ms = by_value p (any_primed ms) (λ b s t. as_tree (some_hold (λ m. asks p m b s t) ms))

abbrev pub means-implies : Place → Meaning → Meaning → Meaning
means-implies p a c = by_value p (a.primed || c.primed) (λ b s t. as_tree (do
  holds ← asks p a b s t
  cond holds (asks p c b s t) (Ok true)))

abbrev pub arms_primed : List (Meaning × Meaning) → Bool
arms_primed arms = list_any (λ (arm : Meaning × Meaning). arm.0.primed || arm.1.primed) arms

abbrev pub last_primed : Option Meaning → Bool
last_primed None = false
last_primed (Some m) = m.primed

-- IF is a CASE of one arm; membership is that in the arm taken
abbrev pub means-cases : Place → List (Meaning × Meaning) → Option Meaning → Meaning
means-cases p arms last = record {
  place = p;
  primed = arms_primed arms || last_primed last;
  value = λ b s t. taken p (λ m. asks p m b s t) (λ (m : Meaning). m.value b s t) arms last;
  has = λ v b s t. taken p (λ m. asks p m b s t) (λ (m : Meaning). m.has v b s t) arms last;
}

-- the message is not evaluated
abbrev pub means-assert : Place → Meaning → Meaning → Meaning
means-assert p a c = by_value p (a.primed || c.primed) (λ b s t. do
  holds ← asks p a b s t
  cond holds (Ok (truth true)) (fault AssertFalse p))

-- ---- one bound name: evaluates the set, then the body for its elements in rising order
abbrev pub means-for_all : Place → Meaning → Meaning → Meaning
means-for_all p a e = by_value p (a.primed || e.primed) (λ b s t. do
  xs ← elements p a b s t
  as_tree (all_hold (λ v. asks p e (b ++ v ∷ []) s t) xs))

abbrev pub means-for_some : Place → Meaning → Meaning → Meaning
means-for_some p a e = by_value p (a.primed || e.primed) (λ b s t. do
  xs ← elements p a b s t
  as_tree (some_hold (λ v. asks p e (b ++ v ∷ []) s t) xs))

abbrev pub means-choose : Place → Meaning → Meaning → Meaning
means-choose p a e = by_value p (a.primed || e.primed) (λ b s t. do
  xs ← elements p a b s t
  first_passing p (λ v. asks p e (b ++ v ∷ []) s t) xs)
