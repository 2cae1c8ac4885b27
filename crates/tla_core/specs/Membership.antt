-- Membership, and the sets of all values of one kind. (Book, chapters 16 and 18; what is left unevaluated is this
-- project's own choice.)
use Rattle.std.specs.Prelude.{pos, int_le, Bool, true, false, not, ◌||◌, [], ◌∷◌, Option, Some, None, Ok}
use Rattle.tla_value.specs.Tree.{Tree, truth, int, text, set, trees}
use Rattle.tla_core.specs.Fault.{Place, NotEnumerable, Outcome, ◌>>=◌, fault}
use Rattle.tla_core.specs.Expr.{Kind, Naturals, Integers, Strings}
use Rattle.tla_core.specs.Kinds.{items}
use Rattle.tla_core.specs.Lists.{all_hold}
use Rattle.tla_core.specs.Meaning.{Meaning, elements, as_tree, by_value}

abbrev pub means-member : Place → Meaning → Meaning → Meaning
means-member p a c = by_value p (a.primed || c.primed) (λ b s t. do
  v ← a.value b s t
  as_tree (c.has v b s t))

abbrev pub means-not_member : Place → Meaning → Meaning → Meaning
means-not_member p a c = by_value p (a.primed || c.primed) (λ b s t. do
  v ← a.value b s t
  holds ← c.has v b s t
  Ok (truth (not holds)))

abbrev pub means-subset : Place → Meaning → Meaning → Meaning
means-subset p a c = by_value p (a.primed || c.primed) (λ b s t. do
  xs ← elements p a b s t
  as_tree (all_hold (λ v. c.has v b s t) xs))

-- ---- sets with a rule of their own
abbrev pub is_of_kind : Kind → Tree → Bool
is_of_kind Naturals (int z) = int_le (pos 0) z
is_of_kind Naturals _ = false
is_of_kind Integers (int z) = true
is_of_kind Integers _ = false
is_of_kind Strings (text s) = true
is_of_kind Strings _ = false

abbrev pub means-kind_set : Place → Kind → Meaning
means-kind_set p k = record {
  place = p;
  primed = false;
  value = λ b s t. fault NotEnumerable p;
  has = λ v b s t. Ok (is_of_kind k v);
}

abbrev pub is_truth : Tree → Bool
is_truth (truth b) = true
is_truth _ = false

abbrev pub means-booleans : Place → Meaning
means-booleans p = record {
  place = p;
  primed = false;
  value = λ b s t. Ok (set (trees (truth false ∷ truth true ∷ [])));
  has = λ v b s t. Ok (is_truth v);
}

-- FALSE for a value of another kind, without evaluating anything
abbrev pub if_some : {A : Type 0} → Option A → (A → Outcome Bool) → Outcome Bool
if_some None go = Ok false
if_some (Some x) go = go x

-- Seq(S): S is not evaluated
abbrev pub means-sequences : Place → Meaning → Meaning
means-sequences p a = record {
  place = p;
  primed = a.primed;
  value = λ b s t. fault NotEnumerable p;
  has = λ v b s t. if_some (items v) (all_hold (λ x. a.has x b s t));
}
