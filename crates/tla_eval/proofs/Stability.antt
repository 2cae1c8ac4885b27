-- The law of stability: extending a partial state doesn't change a result other than NotSet.
use Rattle.std.proofs.Common.{◌≡◌, ℕ, Bool, true, false, ◌==◌, List, [], ◌∷◌, ◌++◌, filter, not, length, refl, ap, Option, Some, None, slice_get}
use Rattle.std.specs.List.{AllByRecursion}
use Rattle.tla_value.specs.Tree.{Tree, text, set, trees}
use Rattle.tla_value.specs.Order.{tree_eq}
use Rattle.tla_core.specs.Kinds.{items, members_of, pairs_of}
use Rattle.tla_value.specs.Funs.{value_at, arguments}
use Rattle.tla_core.specs.Meaning.{Meaning, Bound, Present, Next, asks, elements, as_tree, by_value, of_two, of_each, if_set, means-constant, means-bound, means-now, means-next, means-unary, means-binary, means-equal, means-sub_seq, means-enumerated, means-tuple, means-record_of}
use Rattle.tla_core.specs.Lists.{each, taken}
use Rattle.tla_core.specs.declared.expression.Opening.{Opening}
use Rattle.tla_core.specs.Patterns.{means-opened, means-tried}
use Rattle.tla_core.specs.Functions.{sets_of, update, update_all, replaced, means-image, means-function, means-except}
use Rattle.tla_core.specs.Membership.{if_some, means-member, means-not_member, means-subset, means-kind_set, means-booleans, means-sequences}
use Rattle.tla_core.specs.SetForms.{parts_have, of_two_sets, means-power, means-functions, means-records, means-product, means-cup, means-cap, means-minus, means-filtered}
use Rattle.tla_value.specs.Choices.{choices, keys_of, parts_of, functions_of}
use Rattle.tla_core.specs.Logic.{means-conjunction, means-disjunction, means-implies, means-cases, means-assert, means-for_all, means-for_some, means-choose}
use Rattle.tla_core.specs.Value.{means, mean_all, mean_fields, mean_arms, means_other, mean_updates}
use Rattle.tla_core.specs.Laws.{Extends, Stays, IsStable}
use Rattle.tla_core.specs.declared.fault.Place.{Place}
use Rattle.tla_core.specs.Fault.{Outcome}
use Rattle.tla_value.specs.Sets.{is_member, set_of}
use Rattle.tla_core.specs.Expr.{Unary, Binary, Kind, Expr, Exprs, Fields, Arms, Updates, constant, bound, now, next, unary, binary, equal, sub_seq, enumerated, tuple, record_of, conjunction, disjunction, implies, conditional, cases, assert, for_all, for_some, choose, image, function, except, member, not_member, subset, kind_set, booleans, sequences, power, functions, records, product, cup, cap, minus, filtered, opened, tried, no_exprs, more_exprs, no_fields, more_fields, no_arms, other, more_arms, no_updates, more_updates}
use Rattle.tla_eval.proofs.Stays.{same, stays-bind, stays-cond, stays-each, stays-all_hold, stays-some_hold, stays-passing, stays-first_passing}

abbrev AllStable : List Meaning → Type 0
AllStable ms = AllByRecursion IsStable ms

any : (xs : List Tree) → AllByRecursion (λ (x : Tree). Unit {0}) xs
any [] = tt
any (x ∷ xs) = (tt, any xs)

any_choice : (xs : List (List Tree)) → AllByRecursion (λ (x : List Tree). Unit {0}) xs
any_choice [] = tt
any_choice (x ∷ xs) = (tt, any_choice xs)

any_pair : (xs : List (Tree × Tree)) → AllByRecursion (λ (x : Tree × Tree). Unit {0}) xs
any_pair [] = tt
any_pair (x ∷ xs) = (tt, any_pair xs)

abbrev FieldsStable : List (List ℕ × Meaning) → Type 0
FieldsStable fs = AllByRecursion (λ (f : List ℕ × Meaning). IsStable f.1) fs

stable-parts : (fs : List (List ℕ × Meaning)) → FieldsStable fs → AllStable (parts_of fs)
stable-parts [] hs = tt
stable-parts (f ∷ fs) hs = (hs.0, stable-parts fs hs.1)

stays-parts : (ms : List Meaning) → AllStable ms → (vs : List Tree) (b : Bound) (s : Present) (p q : Next) → Extends p q → Stays (parts_have ms vs b s p) (parts_have ms vs b s q)
stays-parts [] hs [] b s p q e = same
stays-parts [] hs (v ∷ vs) b s p q e = same
stays-parts (m ∷ ms) hs [] b s p q e = same
stays-parts (m ∷ ms) hs (v ∷ vs) b s p q e = stays-bind (hs.0.has v b s p q e) λ x. stays-cond x (stays-parts ms hs.1 vs b s p q e) same

-- ---- parts
module _ {m : Meaning} (h : IsStable m) (b : Bound) (s : Present) (p q : Next) (e : Extends p q) where
  stays-asks : (at : Place) → Stays (asks at m b s p) (asks at m b s q)
  stays-asks at = stays-bind (h.value b s p q e) λ v. same

  stays-elements : (at : Place) → Stays (elements at m b s p) (elements at m b s q)
  stays-elements at = stays-bind (h.value b s p q e) λ v. same

stays-as_tree : {r r' : Outcome Bool} → Stays r r' → Stays (as_tree r) (as_tree r')
stays-as_tree h = stays-bind h λ x. same

-- ---- a form whose members are those of its value
stable-by_value : (at : Place) (primed : Bool) {value : Bound → Present → Next → Outcome Tree} → ((b : Bound) (s : Present) (p q : Next) → Extends p q → Stays (value b s p) (value b s q)) → IsStable (by_value at primed value)
stable-by_value at primed h = record {
  value = h;
  has = λ v b s p q e. stays-bind (h b s p q e) λ x. same;
}

stable-constant : (at : Place) (v : Tree) → IsStable (means-constant at v)
stable-constant at v = stable-by_value at false λ b s p q e. same

stable-bound : (at : Place) (i : ℕ) → IsStable (means-bound at i)
stable-bound at i = stable-by_value at false λ b s p q e. same

stable-now : (at : Place) (i : ℕ) → IsStable (means-now at i)
stable-now at i = stable-by_value at false λ b s p q e. same

stays-if_set : (at : Place) (x y : Option (Option Tree)) → ((v : Tree) → x ≡ Some (Some v) → y ≡ Some (Some v)) → Stays (if_set at x) (if_set at y)
stays-if_set at None y h = record { by = λ n. absurd (n refl) }
stays-if_set at (Some None) y h = record { by = λ n. absurd (n refl) }
stays-if_set at (Some (Some v)) y h = record { by = λ n. ap (if_set at) (h v refl) }

stable-next : (at : Place) (i : ℕ) → IsStable (means-next at i)
stable-next at i = stable-by_value at true λ b s p q e. stays-if_set at (slice_get p i) (slice_get q i) (e.keeps i)

stays-if_some : {A : Type 0} {g g' : A → Outcome Bool} (o : Option A) → ((x : A) → Stays (g x) (g' x)) → Stays (if_some o g) (if_some o g')
stays-if_some None h = same
stays-if_some (Some x) h = h x

-- ---- forms of one part
module _ (at : Place) {a : Meaning} (ha : IsStable a) where
  stable-unary : (op : Unary) → IsStable (means-unary at op a)
  stable-unary op = stable-by_value at _ λ b s p q e. stays-bind (ha.value b s p q e) λ x. same

  stable-sequences : IsStable (means-sequences at a)
  stable-sequences = record {
    value = λ b s p q e. same;
    has = λ v b s p q e. stays-if_some (items v) λ xs. stays-all_hold (λ x _. ha.has x b s p q e) xs (any xs);
  }

  stable-power : IsStable (means-power at a)
  stable-power = record {
    value = λ b s p q e. stays-bind (stays-elements ha b s p q e at) λ xs. same;
    has = λ v b s p q e. stays-if_some (members_of v) λ xs. stays-all_hold (λ x _. ha.has x b s p q e) xs (any xs);
  }

  stable-opened : (os : List Opening) → IsStable (means-opened at os a)
  stable-opened os = stable-by_value at _ λ b s p q e. stays-bind same λ xs. ha.value (b ++ xs) s p q e

  stable-tried : (k : ℕ) → IsStable (means-tried at k a)
  stable-tried k = stable-by_value at _ λ b s p q e. stays-bind (ha.value b s p q e) λ v. same

-- ---- forms of two parts
module _ (at : Place) {a c : Meaning} (ha : IsStable a) (hc : IsStable c) where
  stable-of_two : (rule : Tree → Tree → Outcome Tree) → IsStable (of_two at rule a c)
  stable-of_two rule = stable-by_value at _ λ b s p q e. stays-bind (ha.value b s p q e) λ x. stays-bind (hc.value b s p q e) λ y. same

  stable-binary : (op : Binary) → IsStable (means-binary at op a c)
  stable-binary op = stable-of_two _

  stable-equal : IsStable (means-equal at a c)
  stable-equal = stable-of_two _

  stable-implies : IsStable (means-implies at a c)
  stable-implies = stable-by_value at _ λ b s p q e. stays-as_tree (stays-bind (stays-asks ha b s p q e at) λ x. stays-cond x (stays-asks hc b s p q e at) same)

  stable-assert : IsStable (means-assert at a c)
  stable-assert = stable-by_value at _ λ b s p q e. stays-bind (stays-asks ha b s p q e at) λ x. same

  stable-for_all : IsStable (means-for_all at a c)
  stable-for_all = stable-by_value at _ λ b s p q e. stays-bind (stays-elements ha b s p q e at) λ xs. stays-as_tree (stays-all_hold (λ v _. stays-asks hc (b ++ v ∷ []) s p q e at) xs (any xs))

  stable-for_some : IsStable (means-for_some at a c)
  stable-for_some = stable-by_value at _ λ b s p q e. stays-bind (stays-elements ha b s p q e at) λ xs. stays-as_tree (stays-some_hold (λ v _. stays-asks hc (b ++ v ∷ []) s p q e at) xs (any xs))

  stable-choose : IsStable (means-choose at a c)
  stable-choose = stable-by_value at _ λ b s p q e. stays-bind (stays-elements ha b s p q e at) λ xs. stays-first_passing (λ v. stays-asks hc (b ++ v ∷ []) s p q e at) at xs

  stable-member : IsStable (means-member at a c)
  stable-member = stable-by_value at _ λ b s p q e. stays-bind (ha.value b s p q e) λ v. stays-as_tree (hc.has v b s p q e)

  stable-not_member : IsStable (means-not_member at a c)
  stable-not_member = stable-by_value at _ λ b s p q e. stays-bind (ha.value b s p q e) λ v. stays-bind (hc.has v b s p q e) λ x. same

  stable-subset : IsStable (means-subset at a c)
  stable-subset = stable-by_value at _ λ b s p q e. stays-bind (stays-elements ha b s p q e at) λ xs. stays-as_tree (stays-all_hold (λ v _. hc.has v b s p q e) xs (any xs))

  stays-of_two_sets : (rule : List Tree → List Tree → List Tree) (b : Bound) (s : Present) (p q : Next) → Extends p q → Stays (of_two_sets at rule a c b s p) (of_two_sets at rule a c b s q)
  stays-of_two_sets rule b s p q e = stays-bind (ha.value b s p q e) λ x. stays-bind (hc.value b s p q e) λ y. same

  stable-functions : IsStable (means-functions at a c)
  stable-functions = record {
    value = stays-of_two_sets functions_of;
    has = λ v b s p q e. stays-if_some (pairs_of v) λ ps. stays-bind (stays-elements ha b s p q e at) λ xs. stays-cond (tree_eq (set (trees (arguments ps))) (set (trees xs))) (stays-all_hold {P = λ (x : Tree × Tree). Unit {0}} (λ x _. hc.has x.1 b s p q e) ps (any_pair ps)) same;
  }

  stable-cup : IsStable (means-cup at a c)
  stable-cup = record {
    value = stays-of_two_sets (λ xs ys. xs ++ ys);
    has = λ v b s p q e. stays-bind (ha.has v b s p q e) λ x. stays-cond x same (hc.has v b s p q e);
  }

  stable-cap : IsStable (means-cap at a c)
  stable-cap = record {
    value = stays-of_two_sets (λ xs ys. filter (λ v. is_member v ys) xs);
    has = λ v b s p q e. stays-bind (ha.has v b s p q e) λ x. stays-cond x (hc.has v b s p q e) same;
  }

  stable-minus : IsStable (means-minus at a c)
  stable-minus = record {
    value = stays-of_two_sets (λ xs ys. filter (λ v. not (is_member v ys)) xs);
    has = λ v b s p q e. stays-bind (ha.has v b s p q e) λ x. stays-cond x (stays-bind (hc.has v b s p q e) λ y. same) same;
  }

  stable-filtered : IsStable (means-filtered at a c)
  stable-filtered = record {
    value = λ b s p q e. stays-bind (stays-elements ha b s p q e at) λ xs. stays-bind (stays-passing (λ v. stays-asks hc (b ++ v ∷ []) s p q e at) xs) λ ys. same;
    has = λ v b s p q e. stays-bind (ha.has v b s p q e) λ x. stays-cond x (stays-asks hc (b ++ v ∷ []) s p q e at) same;
  }

stable-sub_seq : (at : Place) {a c d : Meaning} → IsStable a → IsStable c → IsStable d → IsStable (means-sub_seq at a c d)
stable-sub_seq at ha hc hd = stable-by_value at _ λ b s p q e. stays-bind (ha.value b s p q e) λ x. stays-bind (hc.value b s p q e) λ y. stays-bind (hd.value b s p q e) λ z. same

stable-kind_set : (at : Place) (k : Kind) → IsStable (means-kind_set at k)
stable-kind_set at k = record { value = λ b s p q e. same; has = λ v b s p q e. same }

stable-booleans : (at : Place) → IsStable (means-booleans at)
stable-booleans at = record { value = λ b s p q e. same; has = λ v b s p q e. same }

-- ---- forms of several parts
module _ (at : Place) (ms : List Meaning) (hs : AllStable ms) where
  stays-values : (b : Bound) (s : Present) (p q : Next) → Extends p q → Stays (each (λ (m : Meaning). m.value b s p) ms) (each (λ (m : Meaning). m.value b s q) ms)
  stays-values b s p q e = stays-each (λ m h. h.value b s p q e) ms hs

  stays-sets : (b : Bound) (s : Present) (p q : Next) → Extends p q → Stays (sets_of at ms b s p) (sets_of at ms b s q)
  stays-sets b s p q e = stays-bind (stays-values b s p q e) λ vs. same

  stable-of_each : (rule : List Tree → Outcome Tree) → IsStable (of_each at rule ms)
  stable-of_each rule = stable-by_value at _ λ b s p q e. stays-bind (stays-values b s p q e) λ vs. same

  stable-enumerated : IsStable (means-enumerated at ms)
  stable-enumerated = stable-of_each _

  stable-tuple : IsStable (means-tuple at ms)
  stable-tuple = stable-of_each _

  stable-conjunction : IsStable (means-conjunction at ms)
  stable-conjunction = stable-by_value at _ λ b s p q e. stays-as_tree (stays-all_hold (λ m h. stays-asks h b s p q e at) ms hs)

  stable-disjunction : IsStable (means-disjunction at ms)
  stable-disjunction = stable-by_value at _ λ b s p q e. stays-as_tree (stays-some_hold (λ m h. stays-asks h b s p q e at) ms hs)

  stable-image : {c : Meaning} → IsStable c → IsStable (means-image at ms c)
  stable-image hc = stable-by_value at _ λ b s p q e. stays-bind (stays-sets b s p q e) λ sets. stays-bind (stays-each (λ c _. hc.value (b ++ c) s p q e) (choices sets) (any_choice (choices sets))) λ vs. same

  stable-function : {c : Meaning} → IsStable c → IsStable (means-function at ms c)
  stable-function hc = stable-by_value at _ λ b s p q e. stays-bind (stays-sets b s p q e) λ sets. stays-bind (stays-each (λ c _. hc.value (b ++ c) s p q e) (choices sets) (any_choice (choices sets))) λ vs. same

  stable-product : IsStable (means-product at ms)
  stable-product = record {
    value = λ b s p q e. stays-bind (stays-sets b s p q e) λ sets. same;
    has = λ v b s p q e. stays-if_some (items v) λ vs. stays-cond (length vs == length ms) (stays-parts ms hs vs b s p q e) same;
  }

stable-record_of : (at : Place) (fs : List (List ℕ × Meaning)) → FieldsStable fs → IsStable (means-record_of at fs)
stable-record_of at fs hs = stable-of_each at (parts_of fs) (stable-parts fs hs) _

stable-records : (at : Place) (fs : List (List ℕ × Meaning)) → FieldsStable fs → IsStable (means-records at fs)
stable-records at fs hs = record {
  value = λ b s p q e. stays-bind (stays-sets at (parts_of fs) (stable-parts fs hs) b s p q e) λ sets. same;
  has = λ v b s p q e. stays-if_some (pairs_of v) λ ps. stays-cond (tree_eq (set (trees (arguments ps))) (set (trees (set_of (keys_of fs))))) (stays-all_hold {P = λ (f : List ℕ × Meaning). IsStable f.1} (λ f h. stays-if_some (value_at (text f.0) ps) λ x. h.has x b s p q e) fs hs) same;
}

-- ---- the arm that is taken
abbrev ArmsStable : List (Meaning × Meaning) → Type 0
ArmsStable arms = AllByRecursion (λ (arm : Meaning × Meaning). IsStable arm.0 × IsStable arm.1) arms

abbrev LastStable : Option Meaning → Type 0
LastStable None = Unit {0}
LastStable (Some m) = IsStable m

stays-taken : {A : Type 0} (at : Place) {ask ask' : Meaning → Outcome Bool} {go go' : Meaning → Outcome A} → ((m : Meaning) → IsStable m → Stays (ask m) (ask' m)) → ((m : Meaning) → IsStable m → Stays (go m) (go' m))
    → (arms : List (Meaning × Meaning)) → ArmsStable arms → (last : Option Meaning) → LastStable last → Stays (taken at ask go arms last) (taken at ask' go' arms last)
stays-taken at h j [] hs None hl = same
stays-taken at h j [] hs (Some m) hl = j m hl
stays-taken at h j (arm ∷ arms) hs last hl = stays-bind (h arm.0 hs.0.0) λ x. stays-cond x (j arm.1 hs.0.1) (stays-taken at h j arms hs.1 last hl)

stable-cases : (at : Place) (arms : List (Meaning × Meaning)) (last : Option Meaning) → ArmsStable arms → LastStable last → IsStable (means-cases at arms last)
stable-cases at arms last hs hl = record {
  value = λ b s p q e. stays-taken at (λ m h. stays-asks h b s p q e at) (λ m h. h.value b s p q e) arms hs last hl;
  has = λ v b s p q e. stays-taken at (λ m h. stays-asks h b s p q e at) (λ m h. h.has v b s p q e) arms hs last hl;
}

-- ---- updates
abbrev UpdatesStable : List (List Meaning × Meaning) → Type 0
UpdatesStable us = AllByRecursion (λ (u : List Meaning × Meaning). AllStable u.0 × IsStable u.1) us

stays-replaced : (at : Place) (ps : List (Tree × Tree)) (key : Tree) (o : Option Tree) {go go' : Tree → Outcome Tree} → ((x : Tree) → Stays (go x) (go' x)) → Stays (replaced at ps key o go) (replaced at ps key o go')
stays-replaced at ps key None h = same
stays-replaced at ps key (Some x) h = stays-bind (h x) λ y. same

stays-update : (at : Place) (ks : List Meaning) {e : Meaning} → AllStable ks → IsStable e → (b : Bound) (s : Present) (p q : Next) → Extends p q → (x : Tree) → Stays (update at ks e b s p x) (update at ks e b s q x)
stays-update at [] hs he b s p q e x = he.value (b ++ x ∷ []) s p q e
stays-update at (k ∷ ks) hs he b s p q e x = stays-bind same λ ps. stays-bind (hs.0.value b s p q e) λ key. stays-replaced at ps key (value_at key ps) (λ y. stays-update at ks hs.1 he b s p q e y)

stays-update_all : (at : Place) (us : List (List Meaning × Meaning)) → UpdatesStable us → (b : Bound) (s : Present) (p q : Next) → Extends p q → (x : Tree) → Stays (update_all at us b s p x) (update_all at us b s q x)
stays-update_all at [] hs b s p q e x = same
stays-update_all at (u ∷ us) hs b s p q e x = stays-bind (stays-update at u.0 hs.0.0 hs.0.1 b s p q e x) λ y. stays-update_all at us hs.1 b s p q e y

stable-except : (at : Place) {a : Meaning} → IsStable a → (us : List (List Meaning × Meaning)) → UpdatesStable us → IsStable (means-except at a us)
stable-except at ha us hs = stable-by_value at _ λ b s p q e. stays-bind (ha.value b s p q e) λ x. stays-update_all at us hs b s p q e x

-- ---- the law
mutual
  pub stable : (e : Expr) → IsStable (means e)
  stable (constant p v) = stable-constant p v
  stable (bound p i) = stable-bound p i
  stable (now p i) = stable-now p i
  stable (next p i) = stable-next p i
  stable (unary p op a) = stable-unary p (stable a) op
  stable (binary p op a c) = stable-binary p (stable a) (stable c) op
  stable (equal p a c) = stable-equal p (stable a) (stable c)
  stable (sub_seq p a c d) = stable-sub_seq p (stable a) (stable c) (stable d)
  stable (enumerated p es) = stable-enumerated p (mean_all es) (stable_all es)
  stable (tuple p es) = stable-tuple p (mean_all es) (stable_all es)
  stable (record_of p fs) = stable-record_of p (mean_fields fs) (stable_fields fs)
  stable (conjunction p es) = stable-conjunction p (mean_all es) (stable_all es)
  stable (disjunction p es) = stable-disjunction p (mean_all es) (stable_all es)
  stable (implies p a c) = stable-implies p (stable a) (stable c)
  stable (conditional p a c d) = stable-cases p ((means a, means c) ∷ []) (Some (means d)) ((stable a, stable c), tt) (stable d)
  stable (cases p arms) = stable-cases p (mean_arms arms) (means_other arms) (stable_arms arms) (stable_other arms)
  stable (assert p a c) = stable-assert p (stable a) (stable c)
  stable (for_all p a e) = stable-for_all p (stable a) (stable e)
  stable (for_some p a e) = stable-for_some p (stable a) (stable e)
  stable (choose p a e) = stable-choose p (stable a) (stable e)
  stable (image p es e) = stable-image p (mean_all es) (stable_all es) (stable e)
  stable (function p es e) = stable-function p (mean_all es) (stable_all es) (stable e)
  stable (except p a us) = stable-except p (stable a) (mean_updates us) (stable_updates us)
  stable (member p a c) = stable-member p (stable a) (stable c)
  stable (not_member p a c) = stable-not_member p (stable a) (stable c)
  stable (subset p a c) = stable-subset p (stable a) (stable c)
  stable (kind_set p k) = stable-kind_set p k
  stable (booleans p) = stable-booleans p
  stable (sequences p a) = stable-sequences p (stable a)
  stable (power p a) = stable-power p (stable a)
  stable (functions p a c) = stable-functions p (stable a) (stable c)
  stable (records p fs) = stable-records p (mean_fields fs) (stable_fields fs)
  stable (product p es) = stable-product p (mean_all es) (stable_all es)
  stable (cup p a c) = stable-cup p (stable a) (stable c)
  stable (cap p a c) = stable-cap p (stable a) (stable c)
  stable (minus p a c) = stable-minus p (stable a) (stable c)
  stable (filtered p a e) = stable-filtered p (stable a) (stable e)
  stable (opened p os e) = stable-opened p (stable e) os
  stable (tried p k a) = stable-tried p (stable a) k

  stable_all : (es : Exprs) → AllStable (mean_all es)
  stable_all no_exprs = tt
  stable_all (more_exprs e es) = (stable e, stable_all es)

  stable_fields : (fs : Fields) → FieldsStable (mean_fields fs)
  stable_fields no_fields = tt
  stable_fields (more_fields name e fs) = (stable e, stable_fields fs)

  stable_arms : (arms : Arms) → ArmsStable (mean_arms arms)
  stable_arms no_arms = tt
  stable_arms (other e) = tt
  stable_arms (more_arms c e arms) = ((stable c, stable e), stable_arms arms)

  stable_other : (arms : Arms) → LastStable (means_other arms)
  stable_other no_arms = tt
  stable_other (other e) = stable e
  stable_other (more_arms c e arms) = stable_other arms

  stable_updates : (us : Updates) → UpdatesStable (mean_updates us)
  stable_updates no_updates = tt
  stable_updates (more_updates keys e us) = ((stable_all keys, stable e), stable_updates us)
