-- The set of records is the set of functions on the sorted names into the sets of the names.
use Rattle.std.proofs.Common.{◌≡◌, ℕ, Bool, true, false, ◌&&◌, IsTrue, List, [], ◌∷◌, map, zip, length, refl, sym, ap, subst, ◌∙◌, arith, Result}
use Rattle.std.specs.List.{AllByRecursion, list_all, flat_map}
use Rattle.std.specs.List.Sorted.{IsStrictlySortedBy}
use Rattle.std.proofs.lemmas.List.{length-map}
use Rattle.std.proofs.lemmas.List.Folds.{list_any-append}
use Rattle.tla_value.specs.declared.error.ValueError.{ValueError}
use Rattle.tla_value.specs.Tree.{Tree, Pairs, truth, int, text, model, set, fun, trees, pairs, entries}
use Rattle.tla_value.specs.Order.{tree_cmp, tree_eq}
use Rattle.tla_value.specs.ValueOrder.{pairs-entries}
use Rattle.tla_value.specs.Sets.{is_member, set_of, MakesSetOfFunctions}
use Rattle.tla_value.specs.SetLaws.{is-set_of}
use Rattle.tla_value.specs.Funs.{arguments, value_at, fun_of}
use Rattle.tla_value.specs.FunLaws.{value_at-fun_of, rising-fun_of, arguments-fun_of, all-fun_of}
use Rattle.tla_value.specs.Choices.{choices, functions_by, functions_of, keys_of, if_there, fields_fit, records_of, is_each_once}
use Rattle.tla_value.specs.Private.Inner.{keyed}
use Rattle.tla_value.proofs.Choosing.{rising-functions_by}
use Rattle.tla_value.proofs.FunctionSets.{set_of-functions_by}
use Rattle.tla_value.proofs.TreeTests.{bool-iff, and-both, both-and, or-first, or-second, eq-true, eq-same, member-filter}
use Rattle.tla_value.proofs.Lists.{all-of}
use Rattle.tla_value.proofs.FunctionMembers.{stand_in, images, same-members, member-functions_by, not-there}
use Rattle.tla_value.proofs.Fields.{arguments-keyed, field-fits, own-set, as_sets, stands-at, stands-all}

abbrev IsWithin : List Tree → Tree → Type 0
IsWithin all t = (L : List Tree) → t ≡ set (trees L) → (v : Tree) → is_member v L ≡ true → is_member v all ≡ true

keyed-within : (fs : List (List ℕ × List Tree)) → AllByRecursion (λ (p : Tree × Tree). IsWithin (flat_map (λ (f : List ℕ × List Tree). f.1) fs) p.1) (keyed fs)
keyed-within [] = tt
keyed-within (f ∷ fs) =
    let all : List Tree = flat_map (λ (g : List ℕ × List Tree). g.1) fs in (
      (λ L e v i. list_any-append (tree_eq v) f.1 all ∙ or-first (is_member v f.1) _ (ap (is_member v) (same-members f.1 L e) ∙ i)),
      all-of (keyed fs) (λ p h L e v i. list_any-append (tree_eq v) f.1 all ∙ or-second (is_member v f.1) _ (h L e v i)) (keyed-within fs),
    )

stand-wider : (all vs : List Tree) (ps : List (Tree × Tree)) (lists : List (List Tree)) (ks : List Tree) → length ks ≡ length lists → images ps ≡ as_sets lists → AllByRecursion (λ (p : Tree × Tree). IsWithin all p.1) ps
    → stand_in vs lists ≡ true → stand_in vs (map (λ (x : Tree). all) ks) ≡ true
stand-wider all [] ps [] [] e f h i = refl
stand-wider all [] ps [] (k ∷ ks) e f h i = absurd (omega arith)
stand-wider all (v ∷ vs) ps [] ks e f h i = cc
stand-wider all [] ps (M ∷ lists) ks e f h i = cc
stand-wider all (v ∷ vs) ps (M ∷ lists) [] e f h i = absurd (omega arith)
stand-wider all (v ∷ vs) [] (M ∷ lists) (k ∷ ks) e f h i = cc
stand-wider all (v ∷ vs) (p ∷ ps) (M ∷ lists) (k ∷ ks) e f h i =
    let both = and-both (is_member v M) _ i in
    let value : p.1 ≡ set (trees M) = cc in
    let values : images ps ≡ as_sets lists = cc in
    both-and (is_member v all) _ (h.0 M value v both.0) (stand-wider all vs ps lists ks (omega arith) values h.1 both.1)

all-true : (test : (List ℕ × List Tree) → Bool) (fs : List (List ℕ × List Tree)) → AllByRecursion (λ f. test f ≡ true) fs → list_all test fs ≡ true
all-true test [] h = refl
all-true test (f ∷ fs) h = both-and (test f) _ h.0 (all-true test fs h.1)

module _ (fs : List (List ℕ × List Tree)) (ps : List (Tree × Tree)) (lists : List (List Tree)) (once : is_each_once (keys_of fs) ≡ true) (is : ps ≡ fun_of (keyed fs)) (sets : images ps ≡ as_sets lists) where
  names : set_of (keys_of fs) ≡ arguments ps
  names = sym (ap arguments is ∙ arguments-fun_of (keyed fs) ∙ ap set_of (arguments-keyed fs))

  found : (k : Tree) → value_at k ps ≡ value_at k (keyed fs)
  found k = ap (value_at k) is ∙ value_at-fun_of (keyed fs) k

  pub long : length (arguments ps) ≡ length lists
  long = omega (arith, length-map ps (λ (p : Tree × Tree). p.0), length-map ps (λ (p : Tree × Tree). p.1), length-map lists (λ (L : List Tree). set (trees L)), ap length sets)

  rises : IsStrictlySortedBy tree_cmp (arguments ps)
  rises = subst (λ (us : List (Tree × Tree)). IsStrictlySortedBy tree_cmp (arguments us)) (sym is) (rising-fun_of (keyed fs))

  same_function : (us : Pairs) → is_member (fun us) (functions_by (arguments ps) lists) ≡ is_member (fun us) (records_of fs)
  same_function us =
      let qs = entries us in
      let all : List Tree = flat_map (λ (f : List ℕ × List Tree). f.1) fs in
      let as_pairs : fun us ≡ fun (pairs qs) = ap fun (sym (pairs-entries us)) in
      let wide : length (set_of (keys_of fs)) ≡ length (map (λ (x : Tree). all) (set_of (keys_of fs))) = sym (length-map (set_of (keys_of fs)) (λ (x : Tree). all)) in
      let left = ap (λ t. is_member t (functions_by (arguments ps) lists)) as_pairs ∙ member-functions_by qs (arguments ps) lists long in
      let right = member-filter (fields_fit fs) (fun us) (functions_of (set_of (keys_of fs)) all)
      ∙ ap (λ b. b && fields_fit fs (fun us)) (ap (λ t. is_member t (functions_of (set_of (keys_of fs)) all)) as_pairs ∙ member-functions_by qs (set_of (keys_of fs)) (map (λ (x : Tree). all) (set_of (keys_of fs))) wide) in
      left ∙ bool-iff _ _
      (λ h.
      let both = and-both _ _ h in
      let args : arguments qs ≡ arguments ps = same-members _ _ (eq-true _ _ both.0) in
      both-and _ _
      (both-and _ _ (eq-same _ _ (ap (λ vs. set (trees vs)) (args ∙ sym names)))
      (stand-wider all (images qs) ps lists (set_of (keys_of fs)) (ap length names ∙ long) sets
      (subst (λ (vs : List (Tree × Tree)). AllByRecursion (λ (p : Tree × Tree). IsWithin all p.1) vs) (sym is) (all-fun_of (IsWithin all) (keyed fs) (keyed-within fs))) both.1))
      (all-true (λ (f : List ℕ × List Tree). if_there (value_at (text f.0) qs) f.1) fs
      (all-of fs (λ f e. stands-at qs ps lists args sets both.1 (text f.0) f.1 (found (text f.0) ∙ e)) (own-set fs once))))
      (λ h.
      let both = and-both _ _ h in
      let inner = and-both _ _ both.0 in
      let args : arguments qs ≡ arguments ps = same-members _ _ (eq-true _ _ inner.0) ∙ names in
      both-and _ _ (eq-same _ _ (ap (λ vs. set (trees vs)) args)) (stands-all qs ps lists args sets rises (λ k L g. field-fits qs fs k L (sym (found k) ∙ g) both.1)))
      ∙ sym right

  no_function : (v : Tree) → ((c : Pairs) → tree_eq v (fun c) ≡ false) → is_member v (functions_by (arguments ps) lists) ≡ is_member v (records_of fs)
  no_function v h =
      let all : List Tree = flat_map (λ (f : List ℕ × List Tree). f.1) fs in
      not-there v (λ c. fun (pairs (zip (arguments ps) c))) (choices lists) (λ c. h (pairs (zip (arguments ps) c)))
      ∙ sym (member-filter (fields_fit fs) v (functions_of (set_of (keys_of fs)) all)
      ∙ ap (λ b. b && fields_fit fs v) (not-there v (λ c. fun (pairs (zip (set_of (keys_of fs)) c))) (choices (map (λ (x : Tree). all) (set_of (keys_of fs)))) (λ c. h (pairs (zip (set_of (keys_of fs)) c)))))

  same_members : (v : Tree) → is_member v (functions_by (arguments ps) lists) ≡ is_member v (records_of fs)
  same_members (fun us) = same_function us
  same_members (truth b) = no_function (truth b) (λ c. refl)
  same_members (int z) = no_function (int z) (λ c. refl)
  same_members (text s) = no_function (text s) (λ c. refl)
  same_members (model s) = no_function (model s) (λ c. refl)
  same_members (set ts) = no_function (set ts) (λ c. refl)

  pub records_are : AllByRecursion (IsStrictlySortedBy tree_cmp) lists → functions_by (arguments ps) lists ≡ set_of (records_of fs)
  records_are h = is-set_of (functions_by (arguments ps) lists) (records_of fs) (rising-functions_by (arguments ps) lists long h) same_members

pub rising-names : (fs : List (List ℕ × List Tree)) (ps : List (Tree × Tree)) (ks : List Tree) → ps ≡ fun_of (keyed fs) → ks ≡ arguments ps → IsStrictlySortedBy tree_cmp ks
rising-names fs ps ks e f = subst (IsStrictlySortedBy tree_cmp) (sym (f ∙ ap arguments e)) (rising-fun_of (keyed fs))

pub once-is : (b : Bool) → IsTrue b → b ≡ true
once-is b h = h

-- the records, from the names and the sets of the code
pub makes_records : (fs : List (List ℕ × List Tree)) (ps : List (Tree × Tree)) (ks : List Tree) (lists : List (List Tree)) (result : Result (List Tree) ValueError) → IsTrue (is_each_once (keys_of fs)) → ps ≡ fun_of (keyed fs)
    → ks ≡ arguments ps → images ps ≡ as_sets lists → AllByRecursion (IsStrictlySortedBy tree_cmp) lists → MakesSetOfFunctions (set_of (functions_by ks lists)) result → MakesSetOfFunctions (set_of (records_of fs)) result
makes_records fs ps ks lists result once e f sets rising made =
    let are = records_are fs ps lists (once-is _ once) e sets rising in
    let same : set_of (functions_by ks lists) ≡ set_of (records_of fs) =
    ap (λ us. set_of (functions_by us lists)) f ∙ set_of-functions_by (arguments ps) lists (long fs ps lists (once-is _ once) e sets) rising ∙ are in
    subst (λ ts. MakesSetOfFunctions ts result) same made

pub as-many-names : (ps : List (Tree × Tree)) (ks : List Tree) (lists : List (List Tree)) → ks ≡ arguments ps → images ps ≡ as_sets lists → length ks ≡ length lists
as-many-names ps ks lists f sets =
    omega (arith, ap length f, length-map ps (λ (p : Tree × Tree). p.0), length-map ps (λ (p : Tree × Tree). p.1), length-map lists (λ (L : List Tree). set (trees L)), ap length sets)
