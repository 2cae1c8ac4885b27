-- Two meanings with the same results, each for its bound names and its states. Forms of such parts have the same
-- results too.
use Rattle.std.proofs.Common.{◌≡◌, ℕ, Bool, true, false, cond, not, ◌==◌, List, [], ◌∷◌, ◌++◌, filter, zip, length, get_or, refl, Option, Ok, slice_get}
use Rattle.tla_value.specs.Tree.{Tree, truth, text, set, trees}
use Rattle.tla_value.specs.Order.{tree_eq}
use Rattle.tla_value.specs.Sets.{is_member, set_of}
use Rattle.tla_value.specs.Funs.{arguments, value_at}
use Rattle.tla_value.specs.Choices.{choices, keys_of, parts_of, subsets_of, functions_of, tuples_of, records_of, is_each_once}
use Rattle.tla_core.specs.declared.fault.Place.{Place}
use Rattle.tla_core.specs.declared.fault.FaultCode.TheVariants.{NoField, AssertFalse}
use Rattle.tla_core.specs.Fault.{Outcome, ◌>>=◌, fault}
use Rattle.tla_core.specs.declared.expression.Opening.{Opening}
use Rattle.tla_core.specs.Expr.{Unary, Binary, Kind}
use Rattle.tla_core.specs.Kinds.{as_truth, as_set, as_fun, items, members_of, pairs_of, make_set, make_function_set, make_fun}
use Rattle.tla_core.specs.Operators.{unary_rule, sub_seq_rule}
use Rattle.tla_core.specs.Lists.{each, all_hold, some_hold, passing, first_passing, taken}
use Rattle.tla_core.specs.Meaning.{Meaning, Bound, Present, Next, asks, elements, as_tree, by_value, variable_of, if_set, of_two, of_each, means-constant, means-bound, means-now, means-next, means-unary, means-binary, means-equal, means-sub_seq, means-enumerated, means-tuple, means-record_of}
use Rattle.tla_core.specs.Logic.{means-conjunction, means-disjunction, means-implies, means-cases, means-assert, means-for_all, means-for_some, means-choose}
use Rattle.tla_core.specs.Patterns.{opened_items, tried_set, means-opened, means-tried}
use Rattle.tla_core.specs.Functions.{sets_of, function_on, replaced, update, update_all, means-image, means-function, means-except}
use Rattle.tla_core.specs.Membership.{if_some, means-member, means-not_member, means-subset, means-kind_set, means-booleans, means-sequences}
use Rattle.tla_core.specs.SetForms.{on_sets, of_two_sets, field_has, names_of, parts_have, means-power, means-functions, means-records, means-product, means-cup, means-cap, means-minus, means-filtered}
use Rattle.tla_code.proofs.Pointwise.{Pointwise, none, more, Optional, neither, both, same-length, same-each, same-all_hold, same-some_hold}

-- for related bound names, and these states
pub record Alike (R : Bound → Bound → Type 0) (s s' : Present) (t t' : Next) (m m' : Meaning) : Type 0 where
  pub value : (b b' : Bound) → R b b' → m.value b s t ≡ m'.value b' s' t'
  pub has : (v : Tree) (b b' : Bound) → R b b' → m.has v b s t ≡ m'.has v b' s' t'

-- the same additional names on both sides
abbrev pub Grows : (Bound → Bound → Type 0) → Type 0
Grows R = (b b' own : Bound) → R b b' → R (b ++ own) (b' ++ own)

module _ (R : Bound → Bound → Type 0) (s s' : Present) (t t' : Next) where
  abbrev pub AllAlike : List Meaning → List Meaning → Type 0
  AllAlike ms ms' = Pointwise (Alike R s s' t t') ms ms'

  -- fields of one name
  pub record FieldAlike (f f' : List ℕ × Meaning) : Type 0 where
    pub name : f.0 ≡ f'.0
    pub part : Alike R s s' t t' f.1 f'.1

  abbrev pub FieldsAlike : List (List ℕ × Meaning) → List (List ℕ × Meaning) → Type 0
  FieldsAlike fs fs' = Pointwise FieldAlike fs fs'

  abbrev pub ArmsAlike : List (Meaning × Meaning) → List (Meaning × Meaning) → Type 0
  ArmsAlike arms arms' = Pointwise (λ arm arm'. Alike R s s' t t' arm.0 arm'.0 × Alike R s s' t t' arm.1 arm'.1) arms arms'

  abbrev pub LastAlike : Option Meaning → Option Meaning → Type 0
  LastAlike last last' = Optional (Alike R s s' t t') last last'

  abbrev pub UpdatesAlike : List (List Meaning × Meaning) → List (List Meaning × Meaning) → Type 0
  UpdatesAlike us us' = Pointwise (λ u u'. AllAlike u.0 u'.0 × Alike R s s' t t' u.1 u'.1) us us'

module _ {R : Bound → Bound → Type 0} {s s' : Present} {t t' : Next} where
  -- ---- parts
  module _ (p : Place) {a a' : Meaning} (ha : Alike R s s' t t' a a') (b b' : Bound) (r : R b b') where
    pub alike-asks : asks p a b s t ≡ asks p a' b' s' t'
    alike-asks = λ i. ha.value b b' r i >>= λ v. as_truth p v

    pub alike-elements : elements p a b s t ≡ elements p a' b' s' t'
    alike-elements = λ i. ha.value b b' r i >>= λ v. as_set p v

  alike-values : {ms ms' : List Meaning} → AllAlike R s s' t t' ms ms' → (b b' : Bound) → R b b' → each (λ (m : Meaning). m.value b s t) ms ≡ each (λ (m : Meaning). m.value b' s' t') ms'
  alike-values hs b b' r = same-each hs (λ m m' h. h.value b b' r)

  alike-sets : (p : Place) {ms ms' : List Meaning} → AllAlike R s s' t t' ms ms' → (b b' : Bound) → R b b' → sets_of p ms b s t ≡ sets_of p ms' b' s' t'
  alike-sets p hs b b' r = λ i. alike-values hs b b' r i >>= λ vs. each (as_set p) vs

  -- a form whose members are those of its value
  alike-by_value : (p : Place) (k k' : Bool) (f f' : Bound → Present → Next → Outcome Tree) → ((b b' : Bound) → R b b' → f b s t ≡ f' b' s' t') → Alike R s s' t t' (by_value p k f) (by_value p k' f')
  alike-by_value p k k' f f' h = record {
    value = h;
    has = λ v b b' r i. h b b' r i >>= λ x. (as_set p x >>= λ xs. Ok (is_member v xs));
  }

  -- ---- leaves
  pub alike-constant : (p : Place) (v : Tree) → Alike R s s' t t' (means-constant p v) (means-constant p v)
  alike-constant p v = alike-by_value p _ _ _ _ (λ b b' r. refl)

  pub alike-bound : (p : Place) (n n' : ℕ) → ((b b' : Bound) → R b b' → get_or b n (truth false) ≡ get_or b' n' (truth false)) → Alike R s s' t t' (means-bound p n) (means-bound p n')
  alike-bound p n n' h = alike-by_value p _ _ _ _ (λ b b' r i. Ok (h b b' r i))

  pub alike-now : (p : Place) (n : ℕ) → s ≡ s' → Alike R s s' t t' (means-now p n) (means-now p n)
  alike-now p n h = alike-by_value p _ _ _ _ (λ b b' r i. Ok (variable_of (h i) n))

  pub alike-next : (p : Place) (n : ℕ) → t ≡ t' → Alike R s s' t t' (means-next p n) (means-next p n)
  alike-next p n h = alike-by_value p _ _ _ _ (λ b b' r i. if_set p (slice_get (h i) n))

  pub alike-kind_set : (p : Place) (k : Kind) → Alike R s s' t t' (means-kind_set p k) (means-kind_set p k)
  alike-kind_set p k = record { value = λ b b' r. refl; has = λ v b b' r. refl }

  pub alike-booleans : (p : Place) → Alike R s s' t t' (means-booleans p) (means-booleans p)
  alike-booleans p = record { value = λ b b' r. refl; has = λ v b b' r. refl }

  -- ---- forms of one part
  module _ (p : Place) {a a' : Meaning} (ha : Alike R s s' t t' a a') where
    pub alike-unary : (op : Unary) → Alike R s s' t t' (means-unary p op a) (means-unary p op a')
    alike-unary op = alike-by_value p _ _ _ _ (λ b b' r i. ha.value b b' r i >>= λ x. unary_rule op p x)

    pub alike-sequences : Alike R s s' t t' (means-sequences p a) (means-sequences p a')
    alike-sequences = record {
      value = λ b b' r. refl;
      has = λ v b b' r i. if_some (items v) (all_hold (λ x. ha.has x b b' r i));
    }

    pub alike-power : Alike R s s' t t' (means-power p a) (means-power p a')
    alike-power = record {
      value = λ b b' r i. alike-elements p ha b b' r i >>= λ xs. make_set p (subsets_of xs);
      has = λ v b b' r i. if_some (members_of v) (all_hold (λ x. ha.has x b b' r i));
    }

    -- the patterns of both sides destructure the same elements
    pub alike-opened : Grows R → (os os' : List Opening) → ((b b' : Bound) → R b b' → opened_items p os b ≡ opened_items p os' b') → Alike R s s' t t' (means-opened p os a) (means-opened p os' a')
    alike-opened g os os' h = alike-by_value p _ _ _ _ (λ b b' r i. h b b' r i >>= λ xs. ha.value (b ++ xs) (b' ++ xs) (g b b' xs r) i)

    pub alike-tried : (k : ℕ) → Alike R s s' t t' (means-tried p k a) (means-tried p k a')
    alike-tried k = alike-by_value p _ _ _ _ (λ b b' r i. ha.value b b' r i >>= λ v. tried_set p k v)

  -- ---- forms of two parts
  module _ (p : Place) {a a' c c' : Meaning} (ha : Alike R s s' t t' a a') (hc : Alike R s s' t t' c c') where
    alike-of_two : (rule : Tree → Tree → Outcome Tree) → Alike R s s' t t' (of_two p rule a c) (of_two p rule a' c')
    alike-of_two rule = alike-by_value p _ _ _ _ (λ b b' r i. ha.value b b' r i >>= λ x. (hc.value b b' r i >>= λ y. rule x y))

    pub alike-binary : (op : Binary) → Alike R s s' t t' (means-binary p op a c) (means-binary p op a' c')
    alike-binary op = alike-of_two _

    pub alike-equal : Alike R s s' t t' (means-equal p a c) (means-equal p a' c')
    alike-equal = alike-of_two _

    pub alike-implies : Alike R s s' t t' (means-implies p a c) (means-implies p a' c')
    alike-implies = alike-by_value p _ _ _ _ (λ b b' r i. as_tree (alike-asks p ha b b' r i >>= λ holds. cond holds (alike-asks p hc b b' r i) (Ok true)))

    pub alike-assert : Alike R s s' t t' (means-assert p a c) (means-assert p a' c')
    alike-assert = alike-by_value p _ _ _ _ (λ b b' r i. alike-asks p ha b b' r i >>= λ holds. cond holds (Ok (truth true)) (fault AssertFalse p))

    pub alike-member : Alike R s s' t t' (means-member p a c) (means-member p a' c')
    alike-member = alike-by_value p _ _ _ _ (λ b b' r i. ha.value b b' r i >>= λ v. as_tree (hc.has v b b' r i))

    pub alike-not_member : Alike R s s' t t' (means-not_member p a c) (means-not_member p a' c')
    alike-not_member = alike-by_value p _ _ _ _ (λ b b' r i. ha.value b b' r i >>= λ v. (hc.has v b b' r i >>= λ holds. Ok (truth (not holds))))

    pub alike-subset : Alike R s s' t t' (means-subset p a c) (means-subset p a' c')
    alike-subset = alike-by_value p _ _ _ _ (λ b b' r i. alike-elements p ha b b' r i >>= λ xs. as_tree (all_hold (λ v. hc.has v b b' r i) xs))

    alike-of_two_sets : (rule : List Tree → List Tree → List Tree) (b b' : Bound) → R b b' → of_two_sets p rule a c b s t ≡ of_two_sets p rule a' c' b' s' t'
    alike-of_two_sets rule b b' r = λ i. ha.value b b' r i >>= λ x. (hc.value b b' r i >>= λ y. on_sets p rule x y)

    pub alike-functions : Alike R s s' t t' (means-functions p a c) (means-functions p a' c')
    alike-functions = record {
      value = alike-of_two_sets functions_of;
      has = λ v b b' r i. if_some (pairs_of v) (λ ps. alike-elements p ha b b' r i >>= λ xs. cond (tree_eq (set (trees (arguments ps))) (set (trees xs))) (all_hold (λ (q : Tree × Tree). hc.has q.1 b b' r i) ps) (Ok false));
    }

    pub alike-cup : Alike R s s' t t' (means-cup p a c) (means-cup p a' c')
    alike-cup = record {
      value = alike-of_two_sets (λ xs ys. xs ++ ys);
      has = λ v b b' r i. ha.has v b b' r i >>= λ left. cond left (Ok true) (hc.has v b b' r i);
    }

    pub alike-cap : Alike R s s' t t' (means-cap p a c) (means-cap p a' c')
    alike-cap = record {
      value = alike-of_two_sets (λ xs ys. filter (λ v. is_member v ys) xs);
      has = λ v b b' r i. ha.has v b b' r i >>= λ left. cond left (hc.has v b b' r i) (Ok false);
    }

    pub alike-minus : Alike R s s' t t' (means-minus p a c) (means-minus p a' c')
    alike-minus = record {
      value = alike-of_two_sets (λ xs ys. filter (λ v. not (is_member v ys)) xs);
      has = λ v b b' r i. ha.has v b b' r i >>= λ left. cond left (hc.has v b b' r i >>= λ right. Ok (not right)) (Ok false);
    }

    -- ---- forms that bind one name
    module _ (g : Grows R) where
      alike-body : (b b' : Bound) → R b b' → (v : Tree) → asks p c (b ++ v ∷ []) s t ≡ asks p c' (b' ++ v ∷ []) s' t'
      alike-body b b' r v = alike-asks p hc (b ++ v ∷ []) (b' ++ v ∷ []) (g b b' (v ∷ []) r)

      pub alike-for_all : Alike R s s' t t' (means-for_all p a c) (means-for_all p a' c')
      alike-for_all = alike-by_value p _ _ _ _ (λ b b' r i. alike-elements p ha b b' r i >>= λ xs. as_tree (all_hold (λ v. alike-body b b' r v i) xs))

      pub alike-for_some : Alike R s s' t t' (means-for_some p a c) (means-for_some p a' c')
      alike-for_some = alike-by_value p _ _ _ _ (λ b b' r i. alike-elements p ha b b' r i >>= λ xs. as_tree (some_hold (λ v. alike-body b b' r v i) xs))

      pub alike-choose : Alike R s s' t t' (means-choose p a c) (means-choose p a' c')
      alike-choose = alike-by_value p _ _ _ _ (λ b b' r i. alike-elements p ha b b' r i >>= λ xs. first_passing p (λ v. alike-body b b' r v i) xs)

      pub alike-filtered : Alike R s s' t t' (means-filtered p a c) (means-filtered p a' c')
      alike-filtered = record {
        value = λ b b' r i. alike-elements p ha b b' r i >>= λ xs. (passing (λ v. alike-body b b' r v i) xs >>= λ ys. make_set p ys);
        has = λ v b b' r i. ha.has v b b' r i >>= λ inside. cond inside (alike-body b b' r v i) (Ok false);
      }

  pub alike-sub_seq : (p : Place) {a a' c c' d d' : Meaning} → Alike R s s' t t' a a' → Alike R s s' t t' c c' → Alike R s s' t t' d d' → Alike R s s' t t' (means-sub_seq p a c d) (means-sub_seq p a' c' d')
  alike-sub_seq p ha hc hd = alike-by_value p _ _ _ _ (λ b b' r i. ha.value b b' r i >>= λ x. (hc.value b b' r i >>= λ y. (hd.value b b' r i >>= λ z. sub_seq_rule p x y z)))

  -- ---- forms of several parts
  module _ (p : Place) {ms ms' : List Meaning} (hs : AllAlike R s s' t t' ms ms') where
    alike-of_each : (rule : List Tree → Outcome Tree) → Alike R s s' t t' (of_each p rule ms) (of_each p rule ms')
    alike-of_each rule = alike-by_value p _ _ _ _ (λ b b' r i. alike-values hs b b' r i >>= λ vs. rule vs)

    pub alike-enumerated : Alike R s s' t t' (means-enumerated p ms) (means-enumerated p ms')
    alike-enumerated = alike-of_each _

    pub alike-tuple : Alike R s s' t t' (means-tuple p ms) (means-tuple p ms')
    alike-tuple = alike-of_each _

    pub alike-conjunction : Alike R s s' t t' (means-conjunction p ms) (means-conjunction p ms')
    alike-conjunction = alike-by_value p _ _ _ _ (λ b b' r i. as_tree (same-all_hold hs (λ m m' h. alike-asks p h b b' r) i))

    pub alike-disjunction : Alike R s s' t t' (means-disjunction p ms) (means-disjunction p ms')
    alike-disjunction = alike-by_value p _ _ _ _ (λ b b' r i. as_tree (same-some_hold hs (λ m m' h. alike-asks p h b b' r) i))

    pub alike-image : {c c' : Meaning} → Alike R s s' t t' c c' → Grows R → Alike R s s' t t' (means-image p ms c) (means-image p ms' c')
    alike-image hc g = alike-by_value p _ _ _ _ (λ b b' r i. alike-sets p hs b b' r i >>= λ sets. (each (λ c. hc.value (b ++ c) (b' ++ c) (g b b' c r) i) (choices sets) >>= λ vs. make_set p vs))

    pub alike-function : {c c' : Meaning} → Alike R s s' t t' c c' → Grows R → Alike R s s' t t' (means-function p ms c) (means-function p ms' c')
    alike-function hc g = alike-by_value p _ _ _ _ (λ b b' r i. alike-sets p hs b b' r i >>= λ sets. (each (λ c. hc.value (b ++ c) (b' ++ c) (g b b' c r) i) (choices sets) >>= λ vs. function_on p (choices sets) vs))

  alike-parts : {ms ms' : List Meaning} → AllAlike R s s' t t' ms ms' → (vs : List Tree) (b b' : Bound) → R b b' → parts_have ms vs b s t ≡ parts_have ms' vs b' s' t'
  alike-parts none [] b b' r = refl
  alike-parts none (v ∷ vs) b b' r = refl
  alike-parts (more h hs) [] b b' r = refl
  alike-parts (more h hs) (v ∷ vs) b b' r = λ i. h.has v b b' r i >>= λ holds. cond holds (alike-parts hs vs b b' r i) (Ok false)

  pub alike-product : (p : Place) {ms ms' : List Meaning} → AllAlike R s s' t t' ms ms' → Alike R s s' t t' (means-product p ms) (means-product p ms')
  alike-product p hs = record {
    value = λ b b' r i. alike-sets p hs b b' r i >>= λ sets. make_function_set p (tuples_of sets);
    has = λ v b b' r i. if_some (items v) (λ vs. cond (length vs == same-length hs i) (alike-parts hs vs b b' r i) (Ok false));
  }

  -- ---- fields
  alike-parts_of : {fs fs' : List (List ℕ × Meaning)} → FieldsAlike R s s' t t' fs fs' → AllAlike R s s' t t' (parts_of fs) (parts_of fs')
  alike-parts_of none = none
  alike-parts_of (more h hs) = more h.part (alike-parts_of hs)

  alike-names : {fs fs' : List (List ℕ × Meaning)} → FieldsAlike R s s' t t' fs fs' → names_of fs ≡ names_of fs'
  alike-names none = refl
  alike-names (more h hs) = λ i. h.name i ∷ alike-names hs i

  alike-keys : {fs fs' : List (List ℕ × Meaning)} → FieldsAlike R s s' t t' fs fs' → keys_of fs ≡ keys_of fs'
  alike-keys none = refl
  alike-keys (more h hs) = λ i. text (h.name i) ∷ alike-keys hs i

  alike-field_has : (ps : List (Tree × Tree)) (b b' : Bound) → R b b' → (f f' : List ℕ × Meaning) → FieldAlike R s s' t t' f f' → field_has ps b s t f ≡ field_has ps b' s' t' f'
  alike-field_has ps b b' r f f' h = λ i. if_some (value_at (text (h.name i)) ps) (λ v. h.part.has v b b' r i)

  module _ (p : Place) {fs fs' : List (List ℕ × Meaning)} (hs : FieldsAlike R s s' t t' fs fs') where
    pub alike-record_of : Alike R s s' t t' (means-record_of p fs) (means-record_of p fs')
    alike-record_of = alike-by_value p _ _ _ _ (λ b b' r i. alike-values (alike-parts_of hs) b b' r i >>= λ vs. make_fun p (zip (alike-keys hs i) vs))

    pub alike-records : Alike R s s' t t' (means-records p fs) (means-records p fs')
    alike-records = record {
      value = λ b b' r i. alike-sets p (alike-parts_of hs) b b' r i >>= λ sets. cond (is_each_once (alike-keys hs i)) (make_function_set p (records_of (zip (alike-names hs i) sets))) (fault NoField p);
      has = λ v b b' r i. if_some (pairs_of v) (λ ps. cond (tree_eq (set (trees (arguments ps))) (set (trees (set_of (alike-keys hs i))))) (same-all_hold hs (alike-field_has ps b b' r) i) (Ok false));
    }

  -- ---- the arm that is taken
  alike-taken : {A : Type 0} {go go' : Meaning → Outcome A} (p : Place) {arms arms' : List (Meaning × Meaning)} {last last' : Option Meaning} → ArmsAlike R s s' t t' arms arms' → LastAlike R s s' t t' last last' → ((m m' : Meaning) → Alike R s s' t t' m m' → go m ≡ go' m')
      → (b b' : Bound) → R b b' → taken p (λ m. asks p m b s t) go arms last ≡ taken p (λ m. asks p m b' s' t') go' arms' last'
  alike-taken p none neither j b b' r = refl
  alike-taken p none (both h) j b b' r = j _ _ h
  alike-taken p (more h hs) l j b b' r = λ i. alike-asks p h.0 b b' r i >>= λ holds. cond holds (j _ _ h.1 i) (alike-taken p hs l j b b' r i)

  pub alike-cases : (p : Place) {arms arms' : List (Meaning × Meaning)} {last last' : Option Meaning} → ArmsAlike R s s' t t' arms arms' → LastAlike R s s' t t' last last' → Alike R s s' t t' (means-cases p arms last) (means-cases p arms' last')
  alike-cases p hs l = record {
    value = λ b b' r. alike-taken p hs l (λ m m' h. h.value b b' r) b b' r;
    has = λ v b b' r. alike-taken p hs l (λ m m' h. h.has v b b' r) b b' r;
  }

  -- ---- updates
  module _ (p : Place) where
    alike-update : Grows R → {ks ks' : List Meaning} {e e' : Meaning} → AllAlike R s s' t t' ks ks' → Alike R s s' t t' e e' → (b b' : Bound) → R b b' → (x : Tree) → update p ks e b s t x ≡ update p ks' e' b' s' t' x
    alike-update g none he b b' r x = he.value (b ++ x ∷ []) (b' ++ x ∷ []) (g b b' (x ∷ []) r)
    alike-update g (more h hs) he b b' r x = λ i. as_fun p x >>= λ ps. (h.value b b' r i >>= λ key. replaced p ps key (value_at key ps) (λ y. alike-update g hs he b b' r y i))

    alike-update_all : Grows R → {us us' : List (List Meaning × Meaning)} → UpdatesAlike R s s' t t' us us' → (b b' : Bound) → R b b' → (x : Tree) → update_all p us b s t x ≡ update_all p us' b' s' t' x
    alike-update_all g none b b' r x = refl
    alike-update_all g (more h hs) b b' r x = λ i. alike-update g h.0 h.1 b b' r x i >>= λ y. alike-update_all g hs b b' r y i

    pub alike-except : {a a' : Meaning} {us us' : List (List Meaning × Meaning)} → Alike R s s' t t' a a' → UpdatesAlike R s s' t t' us us' → Grows R → Alike R s s' t t' (means-except p a us) (means-except p a' us')
    alike-except ha hs g = alike-by_value p _ _ _ _ (λ b b' r i. ha.value b b' r i >>= λ x. alike-update_all g hs b b' r x i)
