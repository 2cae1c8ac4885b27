-- Sets with a rule of their own for membership. (Book, chapter 16; what is left unevaluated is this project's own
-- choice.)
use Rattle.std.specs.Prelude.{ℕ, ◌==◌, Bool, true, false, cond, not, ◌||◌, List, [], ◌∷◌, ◌++◌, map, filter, length, zip, Ok}
use Rattle.tla_value.specs.Tree.{Tree, text, set, trees}
use Rattle.tla_value.specs.Order.{tree_eq}
use Rattle.tla_value.specs.Sets.{is_member, set_of}
use Rattle.tla_value.specs.Funs.{arguments, value_at}
use Rattle.tla_value.specs.Choices.{subsets_of, tuples_of, functions_of, keys_of, parts_of, records_of, is_each_once}
use Rattle.tla_core.specs.Fault.{Place, NoField, Outcome, ◌>>=◌, fault}
use Rattle.tla_core.specs.Kinds.{as_set, members_of, pairs_of, items, make_set, make_function_set}
use Rattle.tla_core.specs.Lists.{all_hold, passing}
use Rattle.tla_core.specs.Meaning.{Meaning, Bound, Present, Next, asks, elements, any_primed}
use Rattle.tla_core.specs.Functions.{sets_of}
use Rattle.tla_core.specs.Membership.{if_some}

-- an operator on two sets
abbrev pub on_sets : Place → (List Tree → List Tree → List Tree) → Tree → Tree → Outcome Tree
on_sets p rule x y = do
  xs ← as_set p x
  ys ← as_set p y
  make_set p (rule xs ys)

abbrev pub of_two_sets : Place → (List Tree → List Tree → List Tree) → Meaning → Meaning → Bound → Present → Next → Outcome Tree
of_two_sets p rule a c b s t = do
  x ← a.value b s t
  y ← c.value b s t
  on_sets p rule x y

-- SUBSET S
abbrev pub means-power : Place → Meaning → Meaning
means-power p a = record {
  place = p;
  primed = a.primed;
  value = λ b s t. (do
    xs ← elements p a b s t
    make_set p (subsets_of xs));
  has = λ v b s t. if_some (members_of v) (all_hold (λ x. a.has x b s t));
}

-- [S -> T]
abbrev pub means-functions : Place → Meaning → Meaning → Meaning
means-functions p a c = record {
  place = p;
  primed = a.primed || c.primed;
  value = of_two_sets p functions_of a c;
  has = λ v b s t. if_some (pairs_of v) (λ ps. do
    xs ← elements p a b s t
    cond (tree_eq (set (trees (arguments ps))) (set (trees xs))) (all_hold (λ (q : Tree × Tree). c.has q.1 b s t) ps) (Ok false));
}

-- [a : S, ..]: a field's value is a member of the field's set
abbrev pub field_has : List (Tree × Tree) → Bound → Present → Next → (List ℕ × Meaning) → Outcome Bool
field_has ps b s t f = if_some (value_at (text f.0) ps) (λ v. f.1.has v b s t)

abbrev pub names_of : {A : Type 0} → List (List ℕ × A) → List (List ℕ)
names_of {A} fs = map (λ (f : List ℕ × A). f.0) fs

-- If a name occurs twice, there is no value. A caller's condition excludes that.
abbrev pub means-records : Place → List (List ℕ × Meaning) → Meaning
means-records p fs = record {
  place = p;
  primed = any_primed (parts_of fs);
  value = λ b s t. (do
    sets ← sets_of p (parts_of fs) b s t
    cond (is_each_once (keys_of fs)) (make_function_set p (records_of (zip (names_of fs) sets))) (fault NoField p));
  has = λ v b s t. if_some (pairs_of v) (λ ps.
      cond (tree_eq (set (trees (arguments ps))) (set (trees (set_of (keys_of fs))))) (all_hold (field_has ps b s t) fs) (Ok false));
}

-- S \X T ..: item by item, if the lengths agree
abbrev pub parts_have : List Meaning → List Tree → Bound → Present → Next → Outcome Bool
parts_have [] [] b s t = Ok true
parts_have [] (v ∷ vs) b s t = Ok false
parts_have (m ∷ ms) [] b s t = Ok false
parts_have (m ∷ ms) (v ∷ vs) b s t = do
  holds ← m.has v b s t
  cond holds (parts_have ms vs b s t) (Ok false)

abbrev pub means-product : Place → List Meaning → Meaning
means-product p ms = record {
  place = p;
  primed = any_primed ms;
  value = λ b s t. (do
    sets ← sets_of p ms b s t
    make_function_set p (tuples_of sets));
  has = λ v b s t. if_some (items v) (λ vs. cond (length vs == length ms) (parts_have ms vs b s t) (Ok false));
}

abbrev pub means-cup : Place → Meaning → Meaning → Meaning
means-cup p a c = record {
  place = p;
  primed = a.primed || c.primed;
  value = of_two_sets p (λ xs ys. xs ++ ys) a c;
  has = λ v b s t. (do
    left ← a.has v b s t
    cond left (Ok true) (c.has v b s t));
}

abbrev pub means-cap : Place → Meaning → Meaning → Meaning
means-cap p a c = record {
  place = p;
  primed = a.primed || c.primed;
  value = of_two_sets p (λ xs ys. filter (λ v. is_member v ys) xs) a c;
  has = λ v b s t. (do
    left ← a.has v b s t
    cond left (c.has v b s t) (Ok false));
}

abbrev pub means-minus : Place → Meaning → Meaning → Meaning
means-minus p a c = record {
  place = p;
  primed = a.primed || c.primed;
  value = of_two_sets p (λ xs ys. filter (λ v. not (is_member v ys)) xs) a c;
  has = λ v b s t. (do
    left ← a.has v b s t
    cond left (do right ← c.has v b s t; Ok (not right)) (Ok false));
}

-- {x \in S : e}
abbrev pub means-filtered : Place → Meaning → Meaning → Meaning
means-filtered p a e = record {
  place = p;
  primed = a.primed || e.primed;
  value = λ b s t. (do
    xs ← elements p a b s t
    ys ← passing (λ v. asks p e (b ++ v ∷ []) s t) xs
    make_set p ys);
  has = λ v b s t. (do
    inside ← a.has v b s t
    cond inside (asks p e (b ++ v ∷ []) s t) (Ok false));
}
