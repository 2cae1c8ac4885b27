-- The law of sets: if the value of an expression is a set, membership has no fault, and is TRUE exactly for the set's
-- members.
use Rattle.std.proofs.Common.{◌≡◌, ℕ, Bool, true, false, cond, List, [], ◌∷◌, refl, ap, ◌∙◌, Option, Some, None, Ok}
use Rattle.std.specs.List.{AllByRecursion}
use Rattle.tla_value.specs.Tree.{Tree, truth, int, text, model, set, fun, trees, members}
use Rattle.tla_value.specs.Sets.{is_member}
use Rattle.tla_core.specs.Meaning.{Meaning, asks, means-constant, means-bound, means-now, means-next, means-unary, means-binary, means-equal, means-sub_seq, means-enumerated, means-tuple, means-record_of}
use Rattle.tla_core.specs.Lists.{taken}
use Rattle.tla_core.specs.Functions.{means-image, means-function, means-except}
use Rattle.tla_core.specs.Membership.{is_truth, means-member, means-not_member, means-subset, means-kind_set, means-booleans, means-sequences}
use Rattle.tla_core.specs.declared.expression.Opening.{Opening}
use Rattle.tla_core.specs.Patterns.{means-opened, means-tried}
use Rattle.tla_core.specs.Logic.{means-conjunction, means-disjunction, means-implies, means-cases, means-assert, means-for_all, means-for_some, means-choose}
use Rattle.tla_core.specs.Value.{means, mean_all, mean_fields, mean_arms, means_other, mean_updates}
use Rattle.tla_core.specs.Laws.{KnowsItsMembers}
use Rattle.tla_core.specs.declared.fault.Place.{Place}
use Rattle.tla_core.specs.Fault.{Outcome}
use Rattle.tla_core.specs.Expr.{Unary, Binary, Kind, Expr, Exprs, Fields, Arms, constant, bound, now, next, unary, binary, equal, sub_seq, enumerated, tuple, record_of, conjunction, disjunction, implies, conditional, cases, assert, for_all, for_some, choose, image, function, except, member, not_member, subset, kind_set, booleans, sequences, power, functions, records, product, cup, cap, minus, filtered, opened, tried, no_exprs, more_exprs, no_fields, more_fields, no_arms, other, more_arms}
use Rattle.tla_operators.proofs.Members.{bind-ok, set-same}
use Rattle.tla_eval.proofs.TwoSets.{then-ok, knows-by_value, knows-cup, knows-cap, knows-minus, knows-filtered, knows-power, knows-functions}
use Rattle.tla_eval.proofs.Products.{AllKnow, knows-product}
use Rattle.tla_eval.proofs.Records.{FieldsKnow, knows-records}

-- ---- sets that are not enumerated, and BOOLEAN
pub knows-kind_set : (at : Place) (k : Kind) → KnowsItsMembers (means-kind_set at k)
knows-kind_set at k = record { by = λ v iv b s p ts e. cc }

pub knows-sequences : (at : Place) (a : Meaning) → KnowsItsMembers (means-sequences at a)
knows-sequences at a = record { by = λ v iv b s p ts e. cc }

pub two-truths : (v : Tree) → is_truth v ≡ is_member v (truth false ∷ truth true ∷ [])
two-truths (truth true) = refl
two-truths (truth false) = refl
two-truths (int x) = refl
two-truths (text x) = refl
two-truths (model x) = refl
two-truths (set x) = refl
two-truths (fun x) = refl

pub ok-tree : (x y : Tree) (o : Outcome Tree) → o ≡ Ok x → o ≡ Ok y → x ≡ y
ok-tree x y o h j = cc

pub knows-booleans : (at : Place) → KnowsItsMembers (means-booleans at)
knows-booleans at = record {
  by = λ v iv b s p ts e.
      let f : trees (truth false ∷ truth true ∷ []) ≡ ts = set-same _ ts (ok-tree (set (trees (truth false ∷ truth true ∷ []))) (set ts) _ refl e) in
      ap (λ (x : Bool). Ok x) (two-truths v) ∙ ap (λ us. Ok (is_member v (members us))) f;
}

-- ---- the arm that is taken
abbrev pub ArmsKnow : List (Meaning × Meaning) → Type 0
ArmsKnow arms = AllByRecursion (λ (arm : Meaning × Meaning). KnowsItsMembers arm.1) arms

abbrev pub LastKnows : Option Meaning → Type 0
LastKnows None = Unit {0}
LastKnows (Some m) = KnowsItsMembers m

pub taken-knows : {A : Type 0} (at : Place) (ask : Meaning → Outcome Bool) (go : Meaning → Outcome Tree) (then : Meaning → Outcome A) (x : Tree) (y : A) → ((m : Meaning) → KnowsItsMembers m → go m ≡ Ok x → then m ≡ Ok y) → (arms : List (Meaning × Meaning)) → ArmsKnow arms → (last : Option Meaning) → LastKnows last
    → taken at ask go arms last ≡ Ok x → taken at ask then arms last ≡ Ok y
taken-knows at ask go then x y h [] hs None hl e = cc
taken-knows at ask go then x y h [] hs (Some m) hl e = h m hl e
taken-knows at ask go then x y h (arm ∷ arms) hs last hl e =
    let b = bind-ok (ask arm.0) (λ holds. cond holds (go arm.1) (taken at ask go arms last)) x e in
    then-ok (ask arm.0) b.0 (λ holds. cond holds (then arm.1) (taken at ask then arms last)) (Ok y) b.1
    ((elim b.0 as (λ c. cond c (go arm.1) (taken at ask go arms last) ≡ Ok x → cond c (then arm.1) (taken at ask then arms last) ≡ Ok y) [
      | true ↦ λ f. h arm.1 hs.0 f
      | false ↦ λ f. taken-knows at ask go then x y h arms hs.1 last hl f
    ]) b.2)

pub knows-cases : (at : Place) (arms : List (Meaning × Meaning)) (last : Option Meaning) → ArmsKnow arms → LastKnows last → KnowsItsMembers (means-cases at arms last)
knows-cases at arms last hs hl = record {
  by = λ v iv b s p ts e.
      taken-knows at (λ m. asks at m b s p) (λ (m : Meaning). m.value b s p) (λ (m : Meaning). m.has v b s p) (set ts) (is_member v (members ts)) (λ m h f. h.by v iv b s p ts f) arms hs last hl e;
}

-- ---- forms whose members are those of their values
module _ (at : Place) where
  knows-constant : (v : Tree) → KnowsItsMembers (means-constant at v)
  knows-constant v = knows-by_value at _ _

  knows-bound : (i : ℕ) → KnowsItsMembers (means-bound at i)
  knows-bound i = knows-by_value at _ _

  knows-now : (i : ℕ) → KnowsItsMembers (means-now at i)
  knows-now i = knows-by_value at _ _

  knows-next : (i : ℕ) → KnowsItsMembers (means-next at i)
  knows-next i = knows-by_value at _ _

  knows-unary : (op : Unary) (a : Meaning) → KnowsItsMembers (means-unary at op a)
  knows-unary op a = knows-by_value at _ _

  knows-binary : (op : Binary) (a c : Meaning) → KnowsItsMembers (means-binary at op a c)
  knows-binary op a c = knows-by_value at _ _

  knows-equal : (a c : Meaning) → KnowsItsMembers (means-equal at a c)
  knows-equal a c = knows-by_value at _ _

  knows-sub_seq : (a c d : Meaning) → KnowsItsMembers (means-sub_seq at a c d)
  knows-sub_seq a c d = knows-by_value at _ _

  knows-enumerated : (ms : List Meaning) → KnowsItsMembers (means-enumerated at ms)
  knows-enumerated ms = knows-by_value at _ _

  knows-tuple : (ms : List Meaning) → KnowsItsMembers (means-tuple at ms)
  knows-tuple ms = knows-by_value at _ _

  knows-record_of : (fs : List (List ℕ × Meaning)) → KnowsItsMembers (means-record_of at fs)
  knows-record_of fs = knows-by_value at _ _

  knows-conjunction : (ms : List Meaning) → KnowsItsMembers (means-conjunction at ms)
  knows-conjunction ms = knows-by_value at _ _

  knows-disjunction : (ms : List Meaning) → KnowsItsMembers (means-disjunction at ms)
  knows-disjunction ms = knows-by_value at _ _

  knows-implies : (a c : Meaning) → KnowsItsMembers (means-implies at a c)
  knows-implies a c = knows-by_value at _ _

  knows-assert : (a c : Meaning) → KnowsItsMembers (means-assert at a c)
  knows-assert a c = knows-by_value at _ _

  knows-for_all : (a c : Meaning) → KnowsItsMembers (means-for_all at a c)
  knows-for_all a c = knows-by_value at _ _

  knows-for_some : (a c : Meaning) → KnowsItsMembers (means-for_some at a c)
  knows-for_some a c = knows-by_value at _ _

  knows-choose : (a c : Meaning) → KnowsItsMembers (means-choose at a c)
  knows-choose a c = knows-by_value at _ _

  knows-image : (ms : List Meaning) (c : Meaning) → KnowsItsMembers (means-image at ms c)
  knows-image ms c = knows-by_value at _ _

  knows-function : (ms : List Meaning) (c : Meaning) → KnowsItsMembers (means-function at ms c)
  knows-function ms c = knows-by_value at _ _

  knows-except : (a : Meaning) (us : List (List Meaning × Meaning)) → KnowsItsMembers (means-except at a us)
  knows-except a us = knows-by_value at _ _

  knows-member : (a c : Meaning) → KnowsItsMembers (means-member at a c)
  knows-member a c = knows-by_value at _ _

  knows-not_member : (a c : Meaning) → KnowsItsMembers (means-not_member at a c)
  knows-not_member a c = knows-by_value at _ _

  knows-subset : (a c : Meaning) → KnowsItsMembers (means-subset at a c)
  knows-subset a c = knows-by_value at _ _

  knows-opened : (os : List Opening) (a : Meaning) → KnowsItsMembers (means-opened at os a)
  knows-opened os a = knows-by_value at _ _

  knows-tried : (k : ℕ) (a : Meaning) → KnowsItsMembers (means-tried at k a)
  knows-tried k a = knows-by_value at _ _

-- ---- the law
mutual
  pub knows : (e : Expr) → KnowsItsMembers (means e)
  knows (constant p v) = knows-constant p v
  knows (bound p i) = knows-bound p i
  knows (now p i) = knows-now p i
  knows (next p i) = knows-next p i
  knows (unary p op a) = knows-unary p op (means a)
  knows (binary p op a c) = knows-binary p op (means a) (means c)
  knows (equal p a c) = knows-equal p (means a) (means c)
  knows (sub_seq p a c d) = knows-sub_seq p (means a) (means c) (means d)
  knows (enumerated p es) = knows-enumerated p (mean_all es)
  knows (tuple p es) = knows-tuple p (mean_all es)
  knows (record_of p fs) = knows-record_of p (mean_fields fs)
  knows (conjunction p es) = knows-conjunction p (mean_all es)
  knows (disjunction p es) = knows-disjunction p (mean_all es)
  knows (implies p a c) = knows-implies p (means a) (means c)
  knows (conditional p a c d) = knows-cases p ((means a, means c) ∷ []) (Some (means d)) (knows c, tt) (knows d)
  knows (cases p arms) = knows-cases p (mean_arms arms) (means_other arms) (knows_arms arms) (knows_other arms)
  knows (assert p a c) = knows-assert p (means a) (means c)
  knows (for_all p a e) = knows-for_all p (means a) (means e)
  knows (for_some p a e) = knows-for_some p (means a) (means e)
  knows (choose p a e) = knows-choose p (means a) (means e)
  knows (image p es e) = knows-image p (mean_all es) (means e)
  knows (function p es e) = knows-function p (mean_all es) (means e)
  knows (except p a us) = knows-except p (means a) (mean_updates us)
  knows (member p a c) = knows-member p (means a) (means c)
  knows (not_member p a c) = knows-not_member p (means a) (means c)
  knows (subset p a c) = knows-subset p (means a) (means c)
  knows (kind_set p k) = knows-kind_set p k
  knows (booleans p) = knows-booleans p
  knows (sequences p a) = knows-sequences p (means a)
  knows (power p a) = knows-power p (knows a) (knows a)
  knows (functions p a c) = knows-functions p (knows a) (knows c)
  knows (records p fs) = knows-records p (mean_fields fs) (knows_fields fs)
  knows (product p es) = knows-product p (mean_all es) (knows_all es)
  knows (cup p a c) = knows-cup p (knows a) (knows c)
  knows (cap p a c) = knows-cap p (knows a) (knows c)
  knows (minus p a c) = knows-minus p (knows a) (knows c)
  knows (filtered p a e) = knows-filtered p (knows a) (knows e)
  knows (opened p os e) = knows-opened p os (means e)
  knows (tried p k a) = knows-tried p k (means a)

  knows_all : (es : Exprs) → AllKnow (mean_all es)
  knows_all no_exprs = tt
  knows_all (more_exprs e es) = (knows e, knows_all es)

  knows_fields : (fs : Fields) → FieldsKnow (mean_fields fs)
  knows_fields no_fields = tt
  knows_fields (more_fields name e fs) = (knows e, knows_fields fs)

  knows_arms : (arms : Arms) → ArmsKnow (mean_arms arms)
  knows_arms no_arms = tt
  knows_arms (other e) = tt
  knows_arms (more_arms c e arms) = (knows e, knows_arms arms)

  knows_other : (arms : Arms) → LastKnows (means_other arms)
  knows_other no_arms = tt
  knows_other (other e) = knows e
  knows_other (more_arms c e arms) = knows_other arms
