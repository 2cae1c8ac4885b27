-- Membership in operators on two sets: known parts make the whole known.
use Rattle.std.proofs.Common.{◌≡◌, Bool, true, false, cond, not, ◌&&◌, ◌||◌, List, [], ◌∷◌, ◌++◌, map, filter, zip, refl, sym, ap, ◌∙◌, Ok}
use Rattle.std.specs.List.{AllByRecursion, list_all}
use Rattle.std.specs.List.Sorted.{IsStrictlySortedBy}
use Rattle.tla_value.specs.Tree.{Tree, Trees, Pairs, truth, int, text, model, set, fun, no_trees, more_trees, no_pairs, more_pairs, trees, pairs, members, entries, members-trees}
use Rattle.tla_value.specs.Order.{tree_cmp, tree_eq}
use Rattle.tla_value.specs.Sets.{is_member, set_of}
use Rattle.tla_value.specs.SetLaws.{is_member-set_of, is-set_of}
use Rattle.tla_value.specs.IsValue.{IsValue, AreValues, ArePairs}
use Rattle.tla_core.specs.Kinds.{as_set, make_set, members_of, pairs_of}
use Rattle.tla_value.specs.Funs.{arguments}
use Rattle.tla_value.specs.Choices.{choices, sublists, set_tree, functions_of}
use Rattle.tla_core.specs.Meaning.{Meaning, Bound, Present, Next, asks, elements, by_value}
use Rattle.tla_core.specs.Lists.{all_hold, passing}
use Rattle.tla_core.specs.Membership.{if_some}
use Rattle.tla_core.specs.SetForms.{of_two_sets, means-power, means-functions, means-cup, means-cap, means-minus, means-filtered}
use Rattle.tla_core.specs.Laws.{KnowsItsMembers}
use Rattle.tla_core.specs.declared.fault.Place.{Place}
use Rattle.tla_core.specs.Fault.{Outcome, ◌>>=◌}
use Rattle.tla_value.specs.Rising.{any-map}
use Rattle.tla_value.specs.ValueOrder.{trees-members, pairs-entries}
use Rattle.tla_value.proofs.TreeTests.{bool-iff, or-first, eq-true, eq-same, member-filter}
use Rattle.tla_operators.proofs.Members.{member-append, bind-ok, set-same, made, as_set-ok, any-sublists, sublists-found, into, member-functions, all-member, all-by}

-- ---- known outcomes
pub all_hold-ok : {A : Type 0} (test : A → Outcome Bool) (known : A → Bool) (xs : List A) → AllByRecursion (λ x. test x ≡ Ok (known x)) xs → all_hold test xs ≡ Ok (list_all known xs)
all_hold-ok test known [] h = refl
all_hold-ok test known (x ∷ xs) h = ap (λ o. o >>= λ holds. cond holds (all_hold test xs) (Ok false)) h.0 ∙ go (known x) (all_hold-ok test known xs h.1)
  where
    go : (b : Bool) → all_hold test xs ≡ Ok (list_all known xs) → cond b (all_hold test xs) (Ok false) ≡ Ok (b && list_all known xs)
    go true e = e
    go false e = refl

-- one known outcome, and then one that is known if it is needed
pub then-known : (r : Outcome Bool) (x : Bool) (k : Bool → Outcome Bool) (y : Bool) → r ≡ Ok x → k x ≡ Ok y → (r >>= k) ≡ Ok y
then-known r x k y e f = ap (λ o. o >>= k) e ∙ f

pub then-ok : {A B : Type 0} (r : Outcome A) (x : A) (k : A → Outcome B) (o : Outcome B) → r ≡ Ok x → k x ≡ o → (r >>= k) ≡ o
then-ok r x k o e f = ap (λ q. q >>= k) e ∙ f

pub all-apply : {A : Type 0} {P Q : A → Type 0} (xs : List A) → ((x : A) → P x → Q x) → AllByRecursion P xs → AllByRecursion Q xs
all-apply [] h all = tt
all-apply (x ∷ xs) h all = (h x all.0, all-apply xs h all.1)

pub values-all : (us : Trees) → AreValues us → AllByRecursion IsValue (members us)
values-all no_trees h = tt
values-all (more_trees t ts) h = (h.0, values-all ts h.1)

pub images-all : (ps : Pairs) → ArePairs ps → AllByRecursion (λ (q : Tree × Tree). IsValue q.1) (entries ps)
images-all no_pairs h = tt
images-all (more_pairs a v ps) h = (h.1, images-all ps h.2)

module _ {m : Meaning} (h : KnowsItsMembers m) (v : Tree) (iv : IsValue v) (b : Bound) (s : Present) (p : Next) where
  pub has-elements : (at : Place) (xs : List Tree) → elements at m b s p ≡ Ok xs → m.has v b s p ≡ Ok (is_member v xs)
  has-elements at xs e =
      let x = bind-ok (m.value b s p) (as_set at) xs e in
      let y = as_set-ok at x.0 xs x.2 in
      h.by v iv b s p y.0 (x.1 ∙ ap (λ (t : Tree). Ok t) y.1) ∙ ap (λ us. Ok (is_member v us)) y.2

pub knows-by_value : (at : Place) (primed : Bool) (value : Bound → Present → Next → Outcome Tree) → KnowsItsMembers (by_value at primed value)
knows-by_value at primed value = record { by = λ v iv b s p ts e. ap (λ (o : Outcome Tree). o >>= λ x. as_set at x >>= λ xs. Ok (is_member v xs)) e }

-- ---- the trees in the lists of a set
pub not-there : {C : Type 0} (v : Tree) (f : C → Tree) (cs : List C) → ((c : C) → tree_eq v (f c) ≡ false) → is_member v (map f cs) ≡ false
not-there v f [] h = refl
not-there v f (c ∷ cs) h = ap (λ b. b || is_member v (map f cs)) (h c) ∙ not-there v f cs h

pub cond-and : (x y : Bool) (o : Outcome Bool) → o ≡ Ok y → cond x o (Ok false) ≡ Ok (x && y)
cond-and true y o e = e
cond-and false y o e = refl

pub both-false : (x : Bool) (o : Outcome Bool) → o ≡ Ok false → cond x o (Ok false) ≡ Ok false
both-false true o e = e
both-false false o e = refl

pub ok-bool : (x y : Bool) (o : Outcome Bool) → o ≡ Ok x → o ≡ Ok y → x ≡ y
ok-bool x y o e f = cc

pub passing-step : (test : Tree → Outcome Bool) (v x : Tree) (xs zs : List Tree) → cond (is_member v xs) (test v) (Ok false) ≡ Ok (is_member v zs) → (e : Bool) → tree_eq v x ≡ e → (b : Bool) → test x ≡ Ok b
    → cond (e || is_member v xs) (test v) (Ok false) ≡ Ok (is_member v (cond b (x ∷ zs) zs))
passing-step test v x xs zs ih true e true f = ap test (eq-true v x e) ∙ f ∙ ap (λ (b : Bool). Ok b) (sym (or-first (tree_eq v x) _ e))
passing-step test v x xs zs ih true e false f =
    let g = ap test (eq-true v x e) ∙ f in
    g ∙ ap (λ (b : Bool). Ok b) (ok-bool false (is_member v zs) _ (both-false (is_member v xs) (test v) g) ih)
passing-step test v x xs zs ih false e true f = ih ∙ ap (λ (b : Bool). Ok (b || is_member v zs)) (sym e)
passing-step test v x xs zs ih false e false f = ih

-- the members that pass the test are those at which it is TRUE
pub member-passing : (test : Tree → Outcome Bool) (v : Tree) (xs ys : List Tree) → passing test xs ≡ Ok ys → cond (is_member v xs) (test v) (Ok false) ≡ Ok (is_member v ys)
member-passing test v [] ys h = ap (λ us. Ok (is_member v us)) (ok-list [] ys _ refl h)
  where
    ok-list : (x y : List Tree) (o : Outcome (List Tree)) → o ≡ Ok x → o ≡ Ok y → x ≡ y
    ok-list x y o e f = cc
member-passing test v (x ∷ xs) ys h =
    let b = bind-ok (test x) (λ holds. passing test xs >>= λ us. Ok (cond holds (x ∷ us) us)) ys h in
    let zs = bind-ok (passing test xs) (λ us. Ok (cond b.0 (x ∷ us) us)) ys b.2 in
    passing-step test v x xs zs.0 (member-passing test v xs zs.0 zs.1) (tree_eq v x) refl b.0 b.1 ∙ ap (λ us. Ok (is_member v us)) (ok-list (cond b.0 (x ∷ zs.0) zs.0) ys _ refl zs.2)
  where
    ok-list : (x y : List Tree) (o : Outcome (List Tree)) → o ≡ Ok x → o ≡ Ok y → x ≡ y
    ok-list x y o e f = cc

-- a rising list is the set of a sublist exactly if its elements are in the list
pub member-power : (us : Trees) (xs : List Tree) → IsStrictlySortedBy tree_cmp (members us) → list_all (λ x. is_member x xs) (members us) ≡ is_member (set us) (map set_tree (sublists xs))
member-power us xs rising =
    bool-iff _ _
    (λ h.
    let keep : Tree → Bool = λ q. is_member q (members us) in
    let same : members us ≡ set_of (filter keep xs) = is-set_of (members us) (filter keep xs) rising (λ q. and-same (is_member q xs) (keep q) (all-member (λ x. is_member x xs) (members us) h q) ∙ sym (member-filter keep q xs)) in
    any-map set_tree (tree_eq (set us)) (sublists xs)
    ∙ any-sublists keep xs (λ ys. tree_eq (set us) (set_tree ys)) (eq-same (set us) (set_tree (filter keep xs)) (ap set (sym (trees-members us) ∙ ap trees same))))
    (λ h.
    let r = sublists-found xs (λ ys. tree_eq (set us) (set_tree ys)) (sym (any-map set_tree (tree_eq (set us)) (sublists xs)) ∙ h) in
    let e : us ≡ trees (set_of r.0) = set-same us _ (eq-true (set us) (set_tree r.0) r.1) in
    all-by (λ x. is_member x xs) (members us) (λ q i. r.2 q (sym (is_member-set_of r.0 q) ∙ ap (is_member q) (sym (members-trees (set_of r.0))) ∙ ap (λ ts. is_member q (members ts)) (sym e) ∙ i)))
  where
    and-same : (x y : Bool) → (y ≡ true → x ≡ true) → y ≡ (x && y)
    and-same true y h = refl
    and-same false true h = sym (h refl)
    and-same false false h = refl

-- the two sets of a form with two parts
pub two-sets : (at : Place) (rule : List Tree → List Tree → List Tree) (a c : Meaning) (b : Bound) (s : Present) (p : Next) (u : Tree) → of_two_sets at rule a c b s p ≡ Ok u
    → (xs : List Tree) × (ys : List Tree) × (elements at a b s p ≡ Ok xs) × (elements at c b s p ≡ Ok ys) × (make_set at (rule xs ys) ≡ Ok u)
two-sets at rule a c b s p u h =
    let x = bind-ok (a.value b s p) (λ x. c.value b s p >>= λ y. as_set at x >>= λ xs. as_set at y >>= λ ys. make_set at (rule xs ys)) u h in
    let y = bind-ok (c.value b s p) (λ y. as_set at x.0 >>= λ xs. as_set at y >>= λ ys. make_set at (rule xs ys)) u x.2 in
    let xs = bind-ok (as_set at x.0) (λ xs. as_set at y.0 >>= λ ys. make_set at (rule xs ys)) u y.2 in
    let ys = bind-ok (as_set at y.0) (λ ys. make_set at (rule xs.0 ys)) u xs.2 in
    (xs.0, ys.0, then-ok (a.value b s p) x.0 (as_set at) (Ok xs.0) x.1 xs.1, then-ok (c.value b s p) y.0 (as_set at) (Ok ys.0) y.1 ys.1, ys.2)

module _ (at : Place) {a c : Meaning} (ha : KnowsItsMembers a) (hc : KnowsItsMembers c) where
  pub knows-cup : KnowsItsMembers (means-cup at a c)
  knows-cup = record {
    by = λ v iv b s p ts e.
        let r = two-sets at (λ xs ys. xs ++ ys) a c b s p (set ts) e in
        then-known (a.has v b s p) (is_member v r.0) (λ left. cond left (Ok true) (c.has v b s p)) (is_member v r.0 || is_member v r.1)
        (has-elements ha v iv b s p at r.0 r.2)
        (go (is_member v r.0) (is_member v r.1) (c.has v b s p) (has-elements hc v iv b s p at r.1 r.3))
        ∙ ap (λ (x : Bool). Ok x) (sym (made at (r.0 ++ r.1) ts r.4 v ∙ member-append v r.0 r.1));
  }
    where
      go : (x y : Bool) (o : Outcome Bool) → o ≡ Ok y → cond x (Ok true) o ≡ Ok (x || y)
      go true y o e = refl
      go false y o e = e

  pub knows-cap : KnowsItsMembers (means-cap at a c)
  knows-cap = record {
    by = λ v iv b s p ts e.
        let r = two-sets at (λ xs ys. filter (λ u. is_member u ys) xs) a c b s p (set ts) e in
        then-known (a.has v b s p) (is_member v r.0) (λ left. cond left (c.has v b s p) (Ok false)) (is_member v r.0 && is_member v r.1)
        (has-elements ha v iv b s p at r.0 r.2)
        (go (is_member v r.0) (is_member v r.1) (c.has v b s p) (has-elements hc v iv b s p at r.1 r.3))
        ∙ ap (λ (x : Bool). Ok x) (sym (made at (filter (λ u. is_member u r.1) r.0) ts r.4 v ∙ member-filter (λ u. is_member u r.1) v r.0));
  }
    where
      go : (x y : Bool) (o : Outcome Bool) → o ≡ Ok y → cond x o (Ok false) ≡ Ok (x && y)
      go true y o e = e
      go false y o e = refl

  pub knows-minus : KnowsItsMembers (means-minus at a c)
  knows-minus = record {
    by = λ v iv b s p ts e.
        let r = two-sets at (λ xs ys. filter (λ u. not (is_member u ys)) xs) a c b s p (set ts) e in
        then-known (a.has v b s p) (is_member v r.0) (λ left. cond left (c.has v b s p >>= λ right. Ok (not right)) (Ok false)) (is_member v r.0 && not (is_member v r.1))
        (has-elements ha v iv b s p at r.0 r.2)
        (go (is_member v r.0) (is_member v r.1) (c.has v b s p) (has-elements hc v iv b s p at r.1 r.3))
        ∙ ap (λ (x : Bool). Ok x) (sym (made at (filter (λ u. not (is_member u r.1)) r.0) ts r.4 v ∙ member-filter (λ u. not (is_member u r.1)) v r.0));
  }
    where
      go : (x y : Bool) (o : Outcome Bool) → o ≡ Ok y → cond x (o >>= λ right. Ok (not right)) (Ok false) ≡ Ok (x && not y)
      go true y o e = ap (λ q. q >>= λ right. Ok (not right)) e
      go false y o e = refl

  pub knows-filtered : KnowsItsMembers (means-filtered at a c)
  knows-filtered = record {
    by = λ v iv b s p ts e.
        let test : Tree → Outcome Bool = λ u. asks at c (b ++ u ∷ []) s p in
        let xs = bind-ok (elements at a b s p) (λ xs. passing test xs >>= make_set at) (set ts) e in
        let ys = bind-ok (passing test xs.0) (make_set at) (set ts) xs.2 in
        then-ok (a.has v b s p) (is_member v xs.0) (λ inside. cond inside (test v) (Ok false)) (Ok (is_member v ys.0))
        (has-elements ha v iv b s p at xs.0 xs.1) (member-passing test v xs.0 ys.0 ys.1)
        ∙ ap (λ (x : Bool). Ok x) (sym (made at ys.0 ts ys.2 v));
  }

  pub knows-power : KnowsItsMembers (means-power at a)
  knows-power = record {
    by = λ v iv b s p ts e.
        let xs = bind-ok (elements at a b s p) (λ xs. make_set at (map set_tree (sublists xs))) (set ts) e in
        in_power b s p xs.0 xs.1 v iv ∙ ap (λ (x : Bool). Ok x) (sym (made at (map set_tree (sublists xs.0)) ts xs.2 v));
  }
    where
      in_power : (b : Bound) (s : Present) (p : Next) (xs : List Tree) → elements at a b s p ≡ Ok xs → (v : Tree) → IsValue v → if_some (members_of v) (all_hold (λ x. a.has x b s p)) ≡ Ok (is_member v (map set_tree (sublists xs)))
      in_power b s p xs e (set us) iv = all_hold-ok (λ x. a.has x b s p) (λ x. is_member x xs) (members us) (all-apply (members us) (λ x ix. has-elements ha x ix b s p at xs e) (values-all us iv.0)) ∙ ap (λ (x : Bool). Ok x) (member-power us xs iv.1.rising)
      in_power b s p xs e (truth x) iv = ap (λ (x : Bool). Ok x) (sym (not-there (truth x) set_tree (sublists xs) λ c. refl))
      in_power b s p xs e (int x) iv = ap (λ (x : Bool). Ok x) (sym (not-there (int x) set_tree (sublists xs) λ c. refl))
      in_power b s p xs e (text x) iv = ap (λ (x : Bool). Ok x) (sym (not-there (text x) set_tree (sublists xs) λ c. refl))
      in_power b s p xs e (model x) iv = ap (λ (x : Bool). Ok x) (sym (not-there (model x) set_tree (sublists xs) λ c. refl))
      in_power b s p xs e (fun x) iv = ap (λ (x : Bool). Ok x) (sym (not-there (fun x) set_tree (sublists xs) λ c. refl))

  pub knows-functions : KnowsItsMembers (means-functions at a c)
  knows-functions = record {
    by = λ v iv b s p ts e.
        let r = two-sets at functions_of a c b s p (set ts) e in
        in_functions b s p r.0 r.1 r.2 r.3 v iv ∙ ap (λ (x : Bool). Ok x) (sym (made at (functions_of r.0 r.1) ts r.4 v));
  }
    where
      in_functions : (b : Bound) (s : Present) (p : Next) (xs ys : List Tree) → elements at a b s p ≡ Ok xs → elements at c b s p ≡ Ok ys → (v : Tree) → IsValue v
          → if_some (pairs_of v) (λ ps. elements at a b s p >>= λ us. cond (tree_eq (set (trees (arguments ps))) (set (trees us))) (all_hold (λ (q : Tree × Tree). c.has q.1 b s p) ps) (Ok false)) ≡ Ok (is_member v (functions_of xs ys))
      in_functions b s p xs ys e f (fun ps) iv =
          let qs = entries ps in
          then-ok (elements at a b s p) xs (λ us. cond (tree_eq (set (trees (arguments qs))) (set (trees us))) (all_hold (λ (q : Tree × Tree). c.has q.1 b s p) qs) (Ok false)) (Ok (is_member (fun ps) (functions_of xs ys))) e
          (cond-and (tree_eq (set (trees (arguments qs))) (set (trees xs))) (into ys qs) _ (all_hold-ok (λ (q : Tree × Tree). c.has q.1 b s p) (λ (q : Tree × Tree). is_member q.1 ys) qs (all-apply qs (λ q iq. has-elements hc q.1 iq b s p at ys f) (images-all ps iv.0)))
          ∙ ap (λ (x : Bool). Ok x) (sym (member-functions qs xs ys) ∙ ap (λ us. is_member (fun us) (functions_of xs ys)) (pairs-entries ps)))
      in_functions b s p xs ys e f (truth x) iv = ap (λ (x : Bool). Ok x) (sym (not-there (truth x) (λ c. fun (pairs (zip xs c))) (choices (map (λ (x : Tree). ys) xs)) λ c. refl))
      in_functions b s p xs ys e f (int x) iv = ap (λ (x : Bool). Ok x) (sym (not-there (int x) (λ c. fun (pairs (zip xs c))) (choices (map (λ (x : Tree). ys) xs)) λ c. refl))
      in_functions b s p xs ys e f (text x) iv = ap (λ (x : Bool). Ok x) (sym (not-there (text x) (λ c. fun (pairs (zip xs c))) (choices (map (λ (x : Tree). ys) xs)) λ c. refl))
      in_functions b s p xs ys e f (model x) iv = ap (λ (x : Bool). Ok x) (sym (not-there (model x) (λ c. fun (pairs (zip xs c))) (choices (map (λ (x : Tree). ys) xs)) λ c. refl))
      in_functions b s p xs ys e f (set x) iv = ap (λ (x : Bool). Ok x) (sym (not-there (set x) (λ c. fun (pairs (zip xs c))) (choices (map (λ (x : Tree). ys) xs)) λ c. refl))
