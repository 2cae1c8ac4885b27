-- The names of fields, and sets of records.
use Rattle.std.proofs.Common.{◌≡◌, ℕ, zero, suc, ℤ, pos, ◌+ℤ◌, ◌+◌, ◌<◌, add-one, arith, Bool, true, false, cond, ◌&&◌, ◌||◌, List, [], ◌∷◌, ◌++◌, map, zip, length, drop, drop-cons, get_or, Option, Some, None, is_some, option_map, Ok, refl, sym, ap, ◌∙◌}
use Rattle.std.proofs.lemmas.List.{length-map}
use Rattle.std.specs.List.{list_all}
use Rattle.std.specs.List.Sorted.{IsStrictlySortedBy}
use Rattle.tla_value.specs.Tree.{Tree, text, set, trees, members, members-trees}
use Rattle.tla_value.specs.TreeOf.{tree_of}
use Rattle.tla_value.specs.declared.value.Value.{Value}
use Rattle.tla_value.specs.declared.value.Value.TheVariants.{Truth, Int, Text, Model, Set, Fun}
use Rattle.tla_value.specs.Order.{tree_cmp, tree_eq}
use Rattle.tla_value.specs.Funs.{arguments, value_at}
use Rattle.tla_value.specs.Sets.{is_member, set_of}
use Rattle.tla_value.specs.SetLaws.{is-set_of, is_member-set_of}
use Rattle.tla_value.specs.Choices.{keys_of, is_each_once, records_of, counted_up}
use Rattle.tla_core.specs.declared.fault.Place.{Place}
use Rattle.tla_core.specs.declared.fault.FaultCode.TheVariants.{NoField}
use Rattle.tla_core.specs.Fault.{Outcome, ◌>>=◌, fault}
use Rattle.tla_core.specs.Kinds.{as_set, make_function_set}
use Rattle.tla_core.specs.Lists.{each}
use Rattle.tla_core.specs.Meaning.{Meaning}
use Rattle.tla_core.specs.SetForms.{names_of}
use Rattle.tla_sets.specs.Fields.{records_rule, named_sets}
use Rattle.tla_operators.specs.Evaluated.{tree_of_evaluated}
use Rattle.tla_core.specs.ExprOf.{expr_of, fields_of_cores}
use Rattle.tla_core.specs.Value.{means}
use Rattle.tla_core.specs.declared.expression.Core.{Core}
use Rattle.tla_operators.specs.declared.evaluated.Evaluated.{Evaluated}
use Rattle.tla_sets.proofs.Listed.{each_long, same_list}
use Rattle.tla_value.proofs.TreeTests.{bool-iff, and-both, both-and, eq-true, eq-same}
use Rattle.tla_operators.proofs.Members.{bind-ok, set-same, all-member, all-by}

pub keys-zip : (fs : List (List ℕ × Meaning)) (lists : List (List Tree)) → length lists ≡ length fs → keys_of (zip (names_of fs) lists) ≡ keys_of fs
keys-zip [] lists h = refl
keys-zip (f ∷ fs) [] h = cc
keys-zip (f ∷ fs) (l ∷ ls) h = ap (λ ks. keys_of ((f.0, l) ∷ []) ++ ks) (keys-zip fs ls (suc-same (length ls) (length fs) h))
  where
    suc-same : (m n : ℕ) → suc m ≡ suc n → m ≡ n
    suc-same m n h = omega arith

-- a rising list has the same members as another if each is in the other
pub same_domain : (xs ks : List Tree) → IsStrictlySortedBy tree_cmp xs → (list_all (λ a. is_member a ks) xs && list_all (λ k. is_member k xs) ks) ≡ tree_eq (set (trees xs)) (set (trees (set_of ks)))
same_domain xs ks h = bool-iff _ _ there back
  where
    there : (list_all (λ a. is_member a ks) xs && list_all (λ k. is_member k xs) ks) ≡ true → tree_eq (set (trees xs)) (set (trees (set_of ks))) ≡ true
    there j =
        let both = and-both (list_all (λ a. is_member a ks) xs) (list_all (λ k. is_member k xs) ks) j in
        eq-same _ _ (ap (λ us. set (trees us)) (is-set_of xs ks h (λ q. bool-iff _ _ (all-member (λ a. is_member a ks) xs both.0 q) (all-member (λ k. is_member k xs) ks both.1 q))))

    back : tree_eq (set (trees xs)) (set (trees (set_of ks))) ≡ true → (list_all (λ a. is_member a ks) xs && list_all (λ k. is_member k xs) ks) ≡ true
    back j =
        let e : xs ≡ set_of ks = sym (members-trees xs) ∙ ap members (set-same _ _ (eq-true _ _ j)) ∙ members-trees (set_of ks) in
        let same : (q : Tree) → is_member q xs ≡ is_member q ks = λ q. ap (is_member q) e ∙ is_member-set_of ks q in
        both-and (list_all (λ a. is_member a ks) xs) (list_all (λ k. is_member k xs) ks)
        (all-by (λ a. is_member a ks) xs (λ q i. sym (same q) ∙ i))
        (all-by (λ k. is_member k xs) ks (λ q i. same q ∙ i))

-- ---- fields
member-value : (t : Tree) (ps : List (Tree × Tree)) → is_member t (arguments ps) ≡ is_some (value_at t ps)
member-value t [] = refl
member-value t (p ∷ ps) = go (tree_eq t p.0) (member-value t ps)
  where
    go : (b : Bool) → is_member t (arguments ps) ≡ is_some (value_at t ps) → (b || is_member t (arguments ps)) ≡ is_some (cond b (Some p.1) (value_at t ps))
    go true h = refl
    go false h = h

some-map : {A : Type 0} (f : A → Tree) (o : Option A) → is_some (option_map f o) ≡ is_some o
some-map f (Some x) = refl
some-map f None = refl

module _ {A : Type 0} (f : A → Tree) (o : Option A) (t : Tree) (ps : List (Tree × Tree)) where
  pub argument_there : option_map f o ≡ value_at t ps → is_some o ≡ true → is_member t (arguments ps) ≡ true
  argument_there h j = member-value t ps ∙ ap is_some (sym h) ∙ some-map f o ∙ j

  pub argument_missing : option_map f o ≡ value_at t ps → is_some o ≡ false → is_member t (arguments ps) ≡ false
  argument_missing h j = member-value t ps ∙ ap is_some (sym h) ∙ some-map f o ∙ j

module _ (test : Tree → Bool) (fields : List (List ℕ × Core)) (i : ℕ) (f : List ℕ × Core) where
  pub names_step : f ≡ get_or fields i f → i < length fields → test (text f.0) ≡ true → list_all test (keys_of (fields_of_cores (drop i fields))) ≡ list_all test (keys_of (fields_of_cores (drop (i + 1) fields)))
  names_step e h g = rw (add-one, drop-cons fields i f h) (ap (λ b. b && list_all test (keys_of (fields_of_cores (drop (suc i) fields)))) (ap (λ (y : List ℕ × Core). test (text y.0)) (sym e) ∙ g))

  pub names_stop : f ≡ get_or fields i f → i < length fields → test (text f.0) ≡ false → list_all test (keys_of (fields_of_cores (drop i fields))) ≡ false
  names_stop e h g = rw (drop-cons fields i f h) (ap (λ b. b && list_all test (keys_of (fields_of_cores (drop (suc i) fields)))) (ap (λ (y : List ℕ × Core). test (text y.0)) (sym e) ∙ g))

-- a value that is no text is no name
pub no_name : (v : Value) (fields : List (List ℕ × Core)) → ((s : List ℕ) → v ≡ Text s → ⊥) → is_member (tree_of v) (keys_of (fields_of_cores fields)) ≡ false
no_name v [] h = refl
no_name (Truth b) (f ∷ fs) h = no_name (Truth b) fs h
no_name (Int z) (f ∷ fs) h = no_name (Int z) fs h
no_name (Text s) (f ∷ fs) h = absurd (h s refl)
no_name (Model s) (f ∷ fs) h = no_name (Model s) fs h
no_name (Set ts) (f ∷ fs) h = no_name (Set ts) fs h
no_name (Fun ps) (f ∷ fs) h = no_name (Fun ps) fs h

-- a number is no name
pub no_numbers : (n : ℕ) (z : ℤ) (fields : List (List ℕ × Core)) → 0 < n → list_all (λ a. is_member a (keys_of (fields_of_cores fields))) (counted_up n z) ≡ false
no_numbers zero z fields l = absurd (omega arith)
no_numbers (suc n) z fields l = ap (λ b. b && list_all (λ a. is_member a (keys_of (fields_of_cores fields))) (counted_up n (z +ℤ pos 1))) (no_name (Int z) fields (λ s e. cc))

-- the sets of fields have these names
pub named_long : (p : Place) (fields : List (List ℕ × Core)) (vs : List Evaluated) (sets : List (List ℕ × List Tree)) → length fields ≡ length vs → named_sets p (fields_of_cores fields) (map tree_of_evaluated vs) ≡ Ok sets → keys_of sets ≡ keys_of (fields_of_cores fields)
named_long p fields vs sets long h =
    let r = bind-ok (each (as_set p) (map tree_of_evaluated vs)) (λ lists. Ok (zip (names_of (fields_of_cores fields)) lists)) sets h in
    ap keys_of (sym (same_list (zip (names_of (fields_of_cores fields)) r.0) sets r.2))
    ∙ keys-zip (fields_of_cores fields) r.0 (each_long (as_set p) (map tree_of_evaluated vs) r.0 r.1 ∙ length-map vs tree_of_evaluated ∙ sym long ∙ sym (length-map fields (λ (g : List ℕ × Core). (g.0, means (expr_of g.1)))))

pub records_made : (p : Place) (fs : List (List ℕ × Meaning)) (vs : List Tree) (sets : List (List ℕ × List Tree)) → named_sets p fs vs ≡ Ok sets → is_each_once (keys_of fs) ≡ true → records_rule p fs vs ≡ make_function_set p (records_of sets)
records_made p fs vs sets h once =
    ap (λ (o : Outcome (List (List ℕ × List Tree))). o >>= λ ls. cond (is_each_once (keys_of fs)) (make_function_set p (records_of ls)) (fault NoField p)) h
    ∙ ap (λ b. cond b (make_function_set p (records_of sets)) (fault NoField p)) once
