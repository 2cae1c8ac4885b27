-- Facts on membership: in concatenations, new sets, sublists, choices and sets of functions.
use Rattle.std.proofs.Common.{◌≡◌, ℕ, Bool, true, false, cond, ◌&&◌, ◌||◌, List, [], ◌∷◌, ◌++◌, map, filter, zip, length, refl, sym, ap, subst, ◌∙◌, Some, None, Ok, Err, ⊎_elim, nat_lt}
use Rattle.std.specs.List.{list_any, list_all}
use Rattle.tla_value.specs.Tree.{Tree, Trees, Pairs, truth, int, text, model, set, fun, trees, pairs, members, entries, members-trees, entries-pairs, deepest}
use Rattle.tla_value.specs.Order.{tree_eq}
use Rattle.tla_value.specs.Sets.{is_member, set_of}
use Rattle.tla_value.specs.SetLaws.{is_member-set_of}
use Rattle.tla_core.specs.Kinds.{as_set, within, sized_set, make_set}
use Rattle.tla_value.specs.Funs.{arguments}
use Rattle.tla_value.specs.Choices.{choices, sublists, functions_of}
use Rattle.tla_value.specs.Rising.{any-map}
use Rattle.tla_value.proofs.FunctionMembers.{stand_in, images}
use Rattle.tla_value.proofs.TreeTests.{bool-iff, and-both, both-and, or-cases, or-first, or-second, eq-true, eq-refl, eq-same, any-flat_map, member-found, member-any}
use Rattle.tla_core.specs.declared.fault.Place.{Place}
use Rattle.tla_core.specs.declared.fault.Fault.{Fault}
use Rattle.tla_core.specs.declared.fault.FaultCode.TheVariants.{TooMany, TooDeep}
use Rattle.tla_core.specs.Fault.{Outcome, ◌>>=◌}

-- ---- tests over a list
or-or : (a b c : Bool) → (a || (b || c)) ≡ ((a || b) || c)
or-or true b c = refl
or-or false b c = refl

pub any-append : {A : Type 0} (test : A → Bool) (xs ys : List A) → list_any test (xs ++ ys) ≡ (list_any test xs || list_any test ys)
any-append test [] ys = refl
any-append test (x ∷ xs) ys = ap (λ b. test x || b) (any-append test xs ys) ∙ or-or (test x) _ _

-- ---- members
pub member-append : (v : Tree) (xs ys : List Tree) → is_member v (xs ++ ys) ≡ (is_member v xs || is_member v ys)
member-append v xs ys = any-append (tree_eq v) xs ys

pub all-member : (test : Tree → Bool) (xs : List Tree) → list_all test xs ≡ true → (q : Tree) → is_member q xs ≡ true → test q ≡ true
all-member test [] h q i = cc
all-member test (x ∷ xs) h q i =
    let both = and-both (test x) _ h in
    ⊎_elim (λ e. ap test (eq-true q x e) ∙ both.0) (λ e. all-member test xs both.1 q e) (or-cases (tree_eq q x) _ i)

pub all-by : (test : Tree → Bool) (xs : List Tree) → ((q : Tree) → is_member q xs ≡ true → test q ≡ true) → list_all test xs ≡ true
all-by test [] h = refl
all-by test (x ∷ xs) h = both-and (test x) _ (h x (or-first (tree_eq x x) _ (eq-refl x))) (all-by test xs (λ q i. h q (or-second (tree_eq q x) _ i)))

-- ---- outcomes, and new sets
pub bind-ok : {A B : Type 0} (r : Outcome A) (k : A → Outcome B) (y : B) → (r >>= k) ≡ Ok y → (x : A) × (r ≡ Ok x) × (k x ≡ Ok y)
bind-ok (Ok x) k y h = (x, refl, h)
bind-ok (Err f) k y h = cc

pub cond-first : {A : Type 0} (b : Bool) (r : Outcome A) (f : Fault) (y : A) → cond b r (Err f) ≡ Ok y → r ≡ Ok y
cond-first true r f y h = h
cond-first false r f y h = cc

pub cond-err : {A : Type 0} (b : Bool) (r : Outcome A) (f : Fault) (y : A) → cond b (Err f) r ≡ Ok y → r ≡ Ok y
cond-err true r f y h = cc
cond-err false r f y h = h

ok-ok : (x y : Tree) → (let r : Outcome Tree = Ok x in r ≡ Ok y) → x ≡ y
ok-ok x y h = cc

pub set-same : (a b : Trees) → set a ≡ set b → a ≡ b
set-same a b h = cc

pub fun-same : (a b : Pairs) → fun a ≡ fun b → a ≡ b
fun-same a b h = cc

pub within-ok : (p : Place) (n d : ℕ) (t u : Tree) → within p n d t ≡ Ok u → t ≡ u
within-ok p n d t u h = ok-ok t u (cond-err (nat_lt 63 d) (Ok t) (record { code = TooDeep; place = Some p; variable = None }) u (cond-err (nat_lt 1000000 n) _ (record { code = TooMany; place = Some p; variable = None }) u h))

-- the members of a new set
pub made-sized : (p : Place) (size : ℕ) (xs : List Tree) (us : Trees) → sized_set p size (set_of xs) ≡ Ok (set us) → (v : Tree) → is_member v (members us) ≡ is_member v xs
made-sized p size xs us h v =
    let f : trees (set_of xs) ≡ us = set-same _ _ (within-ok p size (deepest (trees (set_of xs))) (set (trees (set_of xs))) (set us) h) in
    ap (λ ts. is_member v (members ts)) (sym f) ∙ ap (is_member v) (members-trees (set_of xs)) ∙ is_member-set_of xs v

pub made : (p : Place) (xs : List Tree) (us : Trees) → make_set p xs ≡ Ok (set us) → (v : Tree) → is_member v (members us) ≡ is_member v xs
made p xs us h v = made-sized p (length (set_of xs)) xs us h v

pub as_set-ok : (p : Place) (t : Tree) (xs : List Tree) → as_set p t ≡ Ok xs → (ts : Trees) × (t ≡ set ts) × (members ts ≡ xs)
as_set-ok p (truth b) xs h = cc
as_set-ok p (int z) xs h = cc
as_set-ok p (text s) xs h = cc
as_set-ok p (model s) xs h = cc
as_set-ok p (set ts) xs h = (ts, refl, cc)
as_set-ok p (fun ps) xs h = cc

-- ---- all sublists, and all choices
pub any-sublists : (keep : Tree → Bool) (xs : List Tree) (test : List Tree → Bool) → test (filter keep xs) ≡ true → list_any test (sublists xs) ≡ true
any-sublists keep [] test h = or-first (test []) false h
any-sublists keep (x ∷ xs) test h =
    any-append test (sublists xs) (map (λ c. x ∷ c) (sublists xs)) ∙
    (elim (keep x) as (λ b. test (cond b (x ∷ filter keep xs) (filter keep xs)) ≡ true → (list_any test (sublists xs) || list_any test (map (λ c. x ∷ c) (sublists xs))) ≡ true) [
      | true ↦ λ j. or-second (list_any test (sublists xs)) _ (any-map (λ c. x ∷ c) test (sublists xs) ∙ any-sublists keep xs (λ c. test (x ∷ c)) j)
      | false ↦ λ j. or-first (list_any test (sublists xs)) _ (any-sublists keep xs test j)
    ]) h

-- the members of a sublist are members of the list
pub sublists-found : (xs : List Tree) (test : List Tree → Bool) → list_any test (sublists xs) ≡ true → (ys : List Tree) × (test ys ≡ true) × ((q : Tree) → is_member q ys ≡ true → is_member q xs ≡ true)
sublists-found [] test h = ⊎_elim (λ e. ([], e, λ q i. i)) (λ e. cc) (or-cases (test []) false h)
sublists-found (x ∷ xs) test h =
    ⊎_elim
    (λ e. let r = sublists-found xs test e in (r.0, r.1, λ q i. or-second (tree_eq q x) _ (r.2 q i)))
    (λ e. let r = sublists-found xs (λ c. test (x ∷ c)) (sym (any-map (λ c. x ∷ c) test (sublists xs)) ∙ e) in
    (x ∷ r.0, r.1, λ q i. ⊎_elim (λ f. or-first (tree_eq q x) _ f) (λ f. or-second (tree_eq q x) _ (r.2 q f)) (or-cases (tree_eq q x) _ i)))
    (or-cases (list_any test (sublists xs)) _ (sym (any-append test (sublists xs) (map (λ c. x ∷ c) (sublists xs))) ∙ h))

pub choices-any : (lists : List (List Tree)) (vs : List Tree) (test : List Tree → Bool) → stand_in vs lists ≡ true → test vs ≡ true → list_any test (choices lists) ≡ true
choices-any [] [] test h e = or-first (test []) false e
choices-any [] (v ∷ vs) test h e = cc
choices-any (xs ∷ rest) [] test h e = cc
choices-any (xs ∷ rest) (v ∷ vs) test h e =
    let both = and-both (is_member v xs) (stand_in vs rest) h in
    any-flat_map (λ x. map (λ c. x ∷ c) (choices rest)) test xs
    ∙ member-any (λ x. list_any test (map (λ c. x ∷ c) (choices rest))) v xs both.0 (any-map (λ c. v ∷ c) test (choices rest) ∙ choices-any rest vs (λ c. test (v ∷ c)) both.1 e)

pub choices-found : (lists : List (List Tree)) (test : List Tree → Bool) → list_any test (choices lists) ≡ true → (vs : List Tree) × (test vs ≡ true) × (stand_in vs lists ≡ true)
choices-found [] test h = ⊎_elim (λ e. ([], e, refl)) (λ e. cc) (or-cases (test []) false h)
choices-found (xs ∷ rest) test h =
    let r = member-found (λ x. list_any test (map (λ c. x ∷ c) (choices rest))) xs (sym (any-flat_map (λ x. map (λ c. x ∷ c) (choices rest)) test xs) ∙ h) in
    let s = choices-found rest (λ c. test (r.0 ∷ c)) (sym (any-map (λ c. r.0 ∷ c) test (choices rest)) ∙ r.1) in
    (r.0 ∷ s.0, s.1, both-and (is_member r.0 xs) _ r.2 s.2)

-- ---- functions
pub zip-pairs : (ps : List (Tree × Tree)) → zip (arguments ps) (images ps) ≡ ps
zip-pairs [] = refl
zip-pairs (p ∷ ps) = ap (λ qs. p ∷ qs) (zip-pairs ps)

-- each value of a function is in a list
abbrev pub into : List Tree → List (Tree × Tree) → Bool
into ys ps = list_all (λ (p : Tree × Tree). is_member p.1 ys) ps

stand-images : (ys : List Tree) (ps : List (Tree × Tree)) → into ys ps ≡ true → stand_in (images ps) (map (λ (x : Tree). ys) (arguments ps)) ≡ true
stand-images ys [] h = refl
stand-images ys (p ∷ ps) h = let both = and-both (is_member p.1 ys) _ h in both-and (is_member p.1 ys) _ both.0 (stand-images ys ps both.1)

zip-arguments : (ys xs vs : List Tree) → stand_in vs (map (λ (x : Tree). ys) xs) ≡ true → (arguments (zip xs vs) ≡ xs) × (into ys (zip xs vs) ≡ true)
zip-arguments ys [] [] h = (refl, refl)
zip-arguments ys [] (v ∷ vs) h = cc
zip-arguments ys (x ∷ xs) [] h = cc
zip-arguments ys (x ∷ xs) (v ∷ vs) h =
    let both = and-both (is_member v ys) _ h in
    let r = zip-arguments ys xs vs both.1 in
    (ap (λ zs. x ∷ zs) r.0, both-and (is_member v ys) _ both.0 r.1)

-- the functions on xs into ys are those whose arguments are xs and whose values are in ys
pub member-functions : (ps : List (Tree × Tree)) (xs ys : List Tree) → is_member (fun (pairs ps)) (functions_of xs ys) ≡ (tree_eq (set (trees (arguments ps))) (set (trees xs)) && into ys ps)
member-functions ps xs ys =
    bool-iff _ _
    (λ h.
    let f : List Tree → Tree = λ c. fun (pairs (zip xs c)) in
    let r = choices-found (map (λ (x : Tree). ys) xs) (λ c. tree_eq (fun (pairs ps)) (f c)) (sym (any-map f (tree_eq (fun (pairs ps))) (choices (map (λ (x : Tree). ys) xs))) ∙ h) in
    let e : pairs ps ≡ pairs (zip xs r.0) = fun-same _ _ (eq-true _ _ r.1) in
    let g : ps ≡ zip xs r.0 = sym (entries-pairs ps) ∙ ap entries e ∙ entries-pairs (zip xs r.0) in
    let z = zip-arguments ys xs r.0 r.2 in
    both-and _ _
    (eq-same _ _ (ap (λ us. set (trees us)) (ap arguments g ∙ z.0)))
    (ap (into ys) g ∙ z.1))
    (λ h.
    let both = and-both _ _ h in
    let f : List Tree → Tree = λ c. fun (pairs (zip xs c)) in
    let e : arguments ps ≡ xs = sym (members-trees (arguments ps)) ∙ ap members (set-same _ _ (eq-true _ _ both.0)) ∙ members-trees xs in
    let i : stand_in (images ps) (map (λ (x : Tree). ys) xs) ≡ true = subst (λ us. stand_in (images ps) (map (λ (x : Tree). ys) us) ≡ true) e (stand-images ys ps both.1) in
    any-map f (tree_eq (fun (pairs ps))) (choices (map (λ (x : Tree). ys) xs))
    ∙ choices-any (map (λ (x : Tree). ys) xs) (images ps) (λ c. tree_eq (fun (pairs ps)) (f c)) i (eq-same _ _ (ap (λ qs. fun (pairs qs)) (sym (subst (λ us. zip us (images ps) ≡ ps) e (zip-pairs ps))))))
