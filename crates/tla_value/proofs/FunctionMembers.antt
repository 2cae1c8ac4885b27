-- The members of a set of functions: those on its domain, each value in the set of its argument.
use Rattle.std.proofs.Common.{◌≡◌, suc, Bool, true, false, ◌&&◌, ◌||◌, List, [], ◌∷◌, map, zip, length, refl, sym, ap, subst, ◌∙◌, arith, ⊎_elim}
use Rattle.std.specs.List.{list_any}
use Rattle.tla_value.specs.Tree.{Tree, Trees, Pairs, set, fun, trees, pairs, members, entries, members-trees, entries-pairs}
use Rattle.tla_value.specs.Order.{tree_eq}
use Rattle.tla_value.specs.Sets.{is_member}
use Rattle.tla_value.specs.Funs.{arguments}
use Rattle.tla_value.specs.Choices.{choices, functions_by}
use Rattle.tla_value.proofs.TreeTests.{bool-iff, and-both, both-and, or-cases, or-first, eq-true, eq-same, any-flat_map, member-found, member-any}
use Rattle.tla_value.specs.Rising.{any-map}

abbrev pub stand_in : List Tree → List (List Tree) → Bool
stand_in [] [] = true
stand_in [] (xs ∷ rest) = false
stand_in (v ∷ vs) [] = false
stand_in (v ∷ vs) (xs ∷ rest) = is_member v xs && stand_in vs rest

choices-any : (lists : List (List Tree)) (vs : List Tree) (test : List Tree → Bool) → stand_in vs lists ≡ true → test vs ≡ true → list_any test (choices lists) ≡ true
choices-any [] [] test h e = or-first (test []) false e
choices-any [] (v ∷ vs) test h e = cc
choices-any (xs ∷ rest) [] test h e = cc
choices-any (xs ∷ rest) (v ∷ vs) test h e =
    let both = and-both (is_member v xs) (stand_in vs rest) h in
    any-flat_map (λ x. map (λ c. x ∷ c) (choices rest)) test xs
    ∙ member-any (λ x. list_any test (map (λ c. x ∷ c) (choices rest))) v xs both.0 (any-map (λ c. v ∷ c) test (choices rest) ∙ choices-any rest vs (λ c. test (v ∷ c)) both.1 e)

choices-found : (lists : List (List Tree)) (test : List Tree → Bool) → list_any test (choices lists) ≡ true → (vs : List Tree) × (test vs ≡ true) × (stand_in vs lists ≡ true)
choices-found [] test h = ⊎_elim (λ e. ([], e, refl)) (λ e. cc) (or-cases (test []) false h)
choices-found (xs ∷ rest) test h =
    let r = member-found (λ x. list_any test (map (λ c. x ∷ c) (choices rest))) xs (sym (any-flat_map (λ x. map (λ c. x ∷ c) (choices rest)) test xs) ∙ h) in
    let s = choices-found rest (λ c. test (r.0 ∷ c)) (sym (any-map (λ c. r.0 ∷ c) test (choices rest)) ∙ r.1) in
    (r.0 ∷ s.0, s.1, both-and (is_member r.0 xs) _ r.2 s.2)

abbrev pub images : List (Tree × Tree) → List Tree
images ps = map (λ (p : Tree × Tree). p.1) ps

zip-pairs : (ps : List (Tree × Tree)) → zip (arguments ps) (images ps) ≡ ps
zip-pairs [] = refl
zip-pairs (p ∷ ps) = ap (λ qs. p ∷ qs) (zip-pairs ps)

as_long : (vs : List Tree) (lists : List (List Tree)) → stand_in vs lists ≡ true → length vs ≡ length lists
as_long [] [] h = refl
as_long [] (xs ∷ rest) h = cc
as_long (v ∷ vs) [] h = cc
as_long (v ∷ vs) (xs ∷ rest) h = ap suc (as_long vs rest (and-both (is_member v xs) _ h).1)

parts-zip : (ks vs : List Tree) → length vs ≡ length ks → (arguments (zip ks vs) ≡ ks) × (images (zip ks vs) ≡ vs)
parts-zip [] [] e = (refl, refl)
parts-zip [] (v ∷ vs) e = absurd (omega arith)
parts-zip (k ∷ ks) [] e = absurd (omega arith)
parts-zip (k ∷ ks) (v ∷ vs) e = let r = parts-zip ks vs (omega arith) in (ap (λ us. k ∷ us) r.0, ap (λ us. v ∷ us) r.1)

fun-same : (a b : Pairs) → fun a ≡ fun b → a ≡ b
fun-same a b h = cc

set-same : (a b : Trees) → set a ≡ set b → a ≡ b
set-same a b h = cc

same-pairs : (ps qs : List (Tree × Tree)) → fun (pairs ps) ≡ fun (pairs qs) → ps ≡ qs
same-pairs ps qs e = sym (entries-pairs ps) ∙ ap entries (fun-same (pairs ps) (pairs qs) e) ∙ entries-pairs qs

pub same-members : (ts us : List Tree) → set (trees ts) ≡ set (trees us) → ts ≡ us
same-members ts us e = sym (members-trees ts) ∙ ap members (set-same (trees ts) (trees us) e) ∙ members-trees us

pub member-functions_by : (qs : List (Tree × Tree)) (ks : List Tree) (lists : List (List Tree)) → length ks ≡ length lists
    → is_member (fun (pairs qs)) (functions_by ks lists) ≡ (tree_eq (set (trees (arguments qs))) (set (trees ks)) && stand_in (images qs) lists)
member-functions_by qs ks lists long =
    let f : List Tree → Tree = λ c. fun (pairs (zip ks c)) in
    bool-iff _ _
    (λ h.
    let r = choices-found lists (λ c. tree_eq (fun (pairs qs)) (f c)) (sym (any-map f (tree_eq (fun (pairs qs))) (choices lists)) ∙ h) in
    let g : qs ≡ zip ks r.0 = same-pairs qs (zip ks r.0) (eq-true _ _ r.1) in
    let z = parts-zip ks r.0 (as_long r.0 lists r.2 ∙ sym long) in
    both-and _ _ (eq-same _ _ (ap (λ us. set (trees us)) (ap arguments g ∙ z.0))) (ap (λ us. stand_in us lists) (ap images g ∙ z.1) ∙ r.2))
    (λ h.
    let both = and-both _ _ h in
    let e : arguments qs ≡ ks = same-members (arguments qs) ks (eq-true _ _ both.0) in
    any-map f (tree_eq (fun (pairs qs))) (choices lists)
    ∙ choices-any lists (images qs) (λ c. tree_eq (fun (pairs qs)) (f c)) both.1 (eq-same _ _ (ap (λ us. fun (pairs us)) (sym (subst (λ us. zip us (images qs) ≡ qs) e (zip-pairs qs))))))

pub not-there : {C : Type 0} (v : Tree) (f : C → Tree) (cs : List C) → ((c : C) → tree_eq v (f c) ≡ false) → is_member v (map f cs) ≡ false
not-there v f [] h = refl
not-there v f (c ∷ cs) h = ap (λ b. b || is_member v (map f cs)) (h c) ∙ not-there v f cs h
