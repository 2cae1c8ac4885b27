-- Membership in sets of records.
use Rattle.std.proofs.Common.{◌≡◌, ℕ, Bool, true, false, cond, ◌&&◌, List, [], ◌∷◌, map, zip, refl, sym, ap, subst, ◌∙◌, Option, Some, None, Ok, ⊎_elim}
use Rattle.std.specs.List.{AllByRecursion, list_all, flat_map}
use Rattle.std.specs.List.Sorted.{IsStrictlySortedBy}
use Rattle.std.specs.declared.cmp.Ordering.{Ordering}
use Rattle.std.specs.declared.cmp.Ordering.TheVariants.{Less, Equal, Greater}
use Rattle.std.specs.Ordering.{is_eq, ordering_reverse}
use Rattle.tla_value.specs.Tree.{Tree, Pairs, truth, int, text, model, set, fun, no_pairs, more_pairs, trees, pairs, members, entries, members-trees}
use Rattle.tla_value.specs.Order.{tree_cmp, tree_eq}
use Rattle.tla_value.specs.OrderLaws.{tree_cmp-total}
use Rattle.tla_value.specs.Sets.{is_member, set_of}
use Rattle.tla_value.specs.SetLaws.{rising-set_of, is_member-set_of}
use Rattle.tla_value.specs.IsValue.{IsValue, ArePairs}
use Rattle.tla_core.specs.Kinds.{size_of_functions, make_function_set, pairs_of}
use Rattle.tla_value.specs.Funs.{arguments, value_at}
use Rattle.tla_value.specs.Choices.{is_each_once, fields_fit, if_there, records_of, keys_of, parts_of, choices, functions_of}
use Rattle.tla_core.specs.Meaning.{Meaning, Bound, Present, Next, elements}
use Rattle.tla_core.specs.Lists.{all_hold}
use Rattle.tla_core.specs.Functions.{sets_of}
use Rattle.tla_core.specs.Membership.{if_some}
use Rattle.tla_core.specs.SetForms.{field_has, names_of, means-records}
use Rattle.tla_core.specs.Laws.{KnowsItsMembers}
use Rattle.tla_core.specs.declared.fault.Place.{Place}
use Rattle.tla_core.specs.declared.fault.FaultCode.TheVariants.{NoField}
use Rattle.tla_core.specs.Fault.{fault}
use Rattle.tla_value.specs.ValueOrder.{pairs-entries}
use Rattle.tla_value.proofs.TreeTests.{and-both, both-and, or-cases, or-first, or-second, eq-true, eq-refl, member-filter}
use Rattle.tla_operators.proofs.Members.{member-append, bind-ok, set-same, made-sized, cond-first, into, member-functions, all-by}
use Rattle.tla_eval.proofs.TwoSets.{then-ok, not-there, cond-and, has-elements}
use Rattle.tla_eval.proofs.Products.{Gives, gives-sets}

-- ---- records
abbrev pub FieldsKnow : List (List ℕ × Meaning) → Type 0
FieldsKnow fs = AllByRecursion (λ (f : List ℕ × Meaning). KnowsItsMembers f.1) fs

pub some-tree : (a b : Tree) (o : Option Tree) → o ≡ Some a → o ≡ Some b → a ≡ b
some-tree a b o h j = cc

pub value_at-value : (ps : Pairs) → ArePairs ps → (a v : Tree) → value_at a (entries ps) ≡ Some v → IsValue v
value_at-value no_pairs ips a v h = cc
value_at-value (more_pairs x w ps) ips a v h =
    (elim (tree_eq a x) as (λ b. cond b (Some w) (value_at a (entries ps)) ≡ Some v → IsValue v) [
      | true ↦ λ j. subst IsValue (some-tree w v _ refl j) ips.1
      | false ↦ λ j. value_at-value ps ips.2 a v j
    ]) h

pub field-known : {m : Meaning} → KnowsItsMembers m → (at : Place) (b : Bound) (s : Present) (p : Next) (xs : List Tree) → elements at m b s p ≡ Ok xs → (o : Option Tree) → ((v : Tree) → o ≡ Some v → IsValue v) → if_some o (λ v. m.has v b s p) ≡ Ok (if_there o xs)
field-known h at b s p xs e None iv = refl
field-known h at b s p xs e (Some v) iv = has-elements h v (iv v refl) b s p at xs e

pub fields-known : (at : Place) (b : Bound) (s : Present) (p : Next) (ps : Pairs) → ArePairs ps → (fs : List (List ℕ × Meaning)) → FieldsKnow fs → (lists : List (List Tree)) → Gives at (parts_of fs) b s p lists → all_hold (field_has (entries ps) b s p) fs ≡ Ok (fields_fit (zip (names_of fs) lists) (fun ps))
fields-known at b s p ps ips [] hs [] g = refl
fields-known at b s p ps ips [] hs (l ∷ ls) g = absurd g
fields-known at b s p ps ips (f ∷ fs) hs [] g = absurd g
fields-known at b s p ps ips (f ∷ fs) hs (l ∷ ls) g =
    then-ok (field_has (entries ps) b s p f) (if_there (value_at (text f.0) (entries ps)) l) (λ holds. cond holds (all_hold (field_has (entries ps) b s p) fs) (Ok false)) (Ok (fields_fit (zip (names_of (f ∷ fs)) (l ∷ ls)) (fun ps)))
    (field-known hs.0 at b s p l g.0 (value_at (text f.0) (entries ps)) (λ v j. value_at-value ps ips (text f.0) v j))
    (cond-and (if_there (value_at (text f.0) (entries ps)) l) (fields_fit (zip (names_of fs) ls) (fun ps)) _ (fields-known at b s p ps ips fs hs.1 ls g.1))

pub keys-same : (at : Place) (b : Bound) (s : Present) (p : Next) (fs : List (List ℕ × Meaning)) (lists : List (List Tree)) → Gives at (parts_of fs) b s p lists → keys_of (zip (names_of fs) lists) ≡ keys_of fs
keys-same at b s p [] [] g = refl
keys-same at b s p [] (l ∷ ls) g = absurd g
keys-same at b s p (f ∷ fs) [] g = absurd g
keys-same at b s p (f ∷ fs) (l ∷ ls) g = ap (λ ks. text f.0 ∷ ks) (keys-same at b s p fs ls g.1)

-- if arguments rise, each pair is found by its argument
pub not-eq : (a x : Tree) → tree_cmp x a ≡ Less → tree_eq a x ≡ false
not-eq a x h = go (tree_cmp a x) (tree_cmp-total.antisymm a x ∙ ap ordering_reverse h)
  where
    go : (r : Ordering) → r ≡ Greater → is_eq r ≡ false
    go Less e = cc
    go Equal e = cc
    go Greater e = refl

pub above-found : (x w : Tree) (ps qs : List (Tree × Tree)) → AllByRecursion (λ y. tree_cmp x y ≡ Less) (arguments qs) → AllByRecursion (λ (q : Tree × Tree). value_at q.0 ps ≡ Some q.1) qs → AllByRecursion (λ (q : Tree × Tree). value_at q.0 ((x, w) ∷ ps) ≡ Some q.1) qs
above-found x w ps [] h j = tt
above-found x w ps (q ∷ qs) h j = (ap (λ b. cond b (Some w) (value_at q.0 ps)) (not-eq q.0 x h.0) ∙ j.0, above-found x w ps qs h.1 j.1)

pub each-found : (ps : List (Tree × Tree)) → IsStrictlySortedBy tree_cmp (arguments ps) → AllByRecursion (λ (q : Tree × Tree). value_at q.0 ps ≡ Some q.1) ps
unfolding IsStrictlySortedBy
each-found [] h = tt
each-found (q ∷ qs) h = (ap (λ b. cond b (Some q.1) (value_at q.0 qs)) (eq-refl q.0), above-found q.0 q.1 qs qs h.0 (each-found qs h.1))

-- each value of a record is in one of the sets
pub field-into : (ps : List (Tree × Tree)) (fs : List (List ℕ × List Tree)) → list_all (λ (f : List ℕ × List Tree). if_there (value_at (text f.0) ps) f.1) fs ≡ true → (a v : Tree) → is_member a (keys_of fs) ≡ true → value_at a ps ≡ Some v → is_member v (flat_map (λ (f : List ℕ × List Tree). f.1) fs) ≡ true
field-into ps [] h a v i e = cc
field-into ps (f ∷ fs) h a v i e =
    let both = and-both (if_there (value_at (text f.0) ps) f.1) _ h in
    member-append v f.1 (flat_map (λ (f : List ℕ × List Tree). f.1) fs) ∙
    ⊎_elim
    (λ j. or-first (is_member v f.1) _ (sym (ap (λ o. if_there o f.1) (ap (λ k. value_at k ps) (sym (eq-true a (text f.0) j)) ∙ e)) ∙ both.0))
    (λ j. or-second (is_member v f.1) _ (field-into ps fs both.1 a v j e))
    (or-cases (tree_eq a (text f.0)) _ i)

pub all-into : (ps qs : List (Tree × Tree)) (fs : List (List ℕ × List Tree)) → list_all (λ (f : List ℕ × List Tree). if_there (value_at (text f.0) ps) f.1) fs ≡ true → AllByRecursion (λ (q : Tree × Tree). value_at q.0 ps ≡ Some q.1) qs → list_all (λ a. is_member a (keys_of fs)) (arguments qs) ≡ true → into (flat_map (λ (f : List ℕ × List Tree). f.1) fs) qs ≡ true
all-into ps [] fs h found i = refl
all-into ps (q ∷ qs) fs h found i =
    let both = and-both (is_member q.0 (keys_of fs)) _ i in
    both-and (is_member q.1 (flat_map (λ (f : List ℕ × List Tree). f.1) fs)) _ (field-into ps fs h q.0 q.1 both.0 found.0) (all-into ps qs fs h found.1 both.1)

pub member-records : (ps : Pairs) (fs : List (List ℕ × List Tree)) → is_member (fun ps) (records_of fs) ≡ (tree_eq (set (trees (arguments (entries ps)))) (set (trees (set_of (keys_of fs)))) && fields_fit fs (fun ps))
member-records ps fs =
    member-filter (fields_fit fs) (fun ps) (functions_of (set_of (keys_of fs)) all)
    ∙ ap (λ b. b && fields_fit fs (fun ps)) (ap (λ us. is_member (fun us) (functions_of (set_of (keys_of fs)) all)) (sym (pairs-entries ps)) ∙ member-functions (entries ps) (set_of (keys_of fs)) all)
    ∙ drop-middle (tree_eq (set (trees (arguments (entries ps)))) (set (trees (set_of (keys_of fs))))) (into all (entries ps)) (fields_fit fs (fun ps)) fits-into
  where
    all : List Tree
    all = flat_map (λ (f : List ℕ × List Tree). f.1) fs

    drop-middle : (x y z : Bool) → (x ≡ true → z ≡ true → y ≡ true) → ((x && y) && z) ≡ (x && z)
    drop-middle true true z h = refl
    drop-middle true false true h = h refl refl
    drop-middle true false false h = refl
    drop-middle false y z h = refl

    fits-into : tree_eq (set (trees (arguments (entries ps)))) (set (trees (set_of (keys_of fs)))) ≡ true → fields_fit fs (fun ps) ≡ true → into all (entries ps) ≡ true
    fits-into h j =
        let e : arguments (entries ps) ≡ set_of (keys_of fs) = sym (members-trees (arguments (entries ps))) ∙ ap members (set-same _ _ (eq-true (set (trees (arguments (entries ps)))) (set (trees (set_of (keys_of fs)))) h)) ∙ members-trees (set_of (keys_of fs)) in
        all-into (entries ps) (entries ps) fs j
        (each-found (entries ps) (subst (IsStrictlySortedBy tree_cmp) (sym e) (rising-set_of (keys_of fs))))
        (subst (λ us. list_all (λ a. is_member a (keys_of fs)) us ≡ true) (sym e) (all-by (λ a. is_member a (keys_of fs)) (set_of (keys_of fs)) (λ q i. sym (is_member-set_of (keys_of fs) q) ∙ i)))

pub no-record : (v : Tree) (fs : List (List ℕ × List Tree)) → ((c : Pairs) → tree_eq v (fun c) ≡ false) → is_member v (records_of fs) ≡ false
no-record v fs h =
    member-filter (fields_fit fs) v (functions_of (set_of (keys_of fs)) (flat_map (λ (f : List ℕ × List Tree). f.1) fs))
    ∙ ap (λ b. b && fields_fit fs v) (not-there v (λ c. fun (pairs (zip (set_of (keys_of fs)) c))) (choices (map (λ (x : Tree). flat_map (λ (f : List ℕ × List Tree). f.1) fs) (set_of (keys_of fs)))) λ c. h (pairs (zip (set_of (keys_of fs)) c)))

pub knows-records : (at : Place) (fs : List (List ℕ × Meaning)) → FieldsKnow fs → KnowsItsMembers (means-records at fs)
knows-records at fs hs = record {
  by = λ v iv b s p ts e.
      let lists = bind-ok (sets_of at (parts_of fs) b s p) (λ sets. cond (is_each_once (keys_of fs)) (make_function_set at (records_of (zip (names_of fs) sets))) (fault NoField at)) (set ts) e in
      let some = cond-first (is_each_once (keys_of fs)) (make_function_set at (records_of (zip (names_of fs) lists.0))) (record { code = NoField; place = Some at; variable = None }) (set ts) lists.2 in
      in_records b s p lists.0 (gives-sets at b s p (parts_of fs) lists.0 lists.1) v iv ∙ ap (λ (x : Bool). Ok x) (sym (made-sized at (size_of_functions (set_of (records_of (zip (names_of fs) lists.0)))) (records_of (zip (names_of fs) lists.0)) ts some v));
}
  where
    in_records : (b : Bound) (s : Present) (p : Next) (lists : List (List Tree)) → Gives at (parts_of fs) b s p lists → (v : Tree) → IsValue v
        → if_some (pairs_of v) (λ ps. cond (tree_eq (set (trees (arguments ps))) (set (trees (set_of (keys_of fs))))) (all_hold (field_has ps b s p) fs) (Ok false)) ≡ Ok (is_member v (records_of (zip (names_of fs) lists)))
    in_records b s p lists g (fun ps) iv =
        cond-and (tree_eq (set (trees (arguments (entries ps)))) (set (trees (set_of (keys_of fs))))) (fields_fit (zip (names_of fs) lists) (fun ps)) _ (fields-known at b s p ps iv.0 fs hs lists g)
        ∙ ap (λ (x : Bool). Ok x) (sym (member-records ps (zip (names_of fs) lists) ∙ ap (λ ks. tree_eq (set (trees (arguments (entries ps)))) (set (trees (set_of ks))) && fields_fit (zip (names_of fs) lists) (fun ps)) (keys-same at b s p fs lists g)))
    in_records b s p lists g (truth x) iv = ap (λ (x : Bool). Ok x) (sym (no-record (truth x) (zip (names_of fs) lists) λ c. refl))
    in_records b s p lists g (int x) iv = ap (λ (x : Bool). Ok x) (sym (no-record (int x) (zip (names_of fs) lists) λ c. refl))
    in_records b s p lists g (text x) iv = ap (λ (x : Bool). Ok x) (sym (no-record (text x) (zip (names_of fs) lists) λ c. refl))
    in_records b s p lists g (model x) iv = ap (λ (x : Bool). Ok x) (sym (no-record (model x) (zip (names_of fs) lists) λ c. refl))
    in_records b s p lists g (set x) iv = ap (λ (x : Bool). Ok x) (sym (no-record (set x) (zip (names_of fs) lists) λ c. refl))
