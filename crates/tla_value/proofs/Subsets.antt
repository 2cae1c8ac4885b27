-- The subsets of a rising list differ, so that there are as many as sublists.
use Rattle.std.proofs.Common.{◌≡◌, ℕ, suc, ◌+◌, ◌^◌, ◌<◌, ◌≤◌, true, false, ◌||◌, List, [], ◌∷◌, ◌++◌, length, map, refl, sym, ap, subst, ◌∙◌, arith, Less, Equal, Greater}
use Rattle.std.specs.List.{AllByRecursion}
use Rattle.std.specs.List.Sorted.{IsStrictlySortedBy}
use Rattle.std.specs.Ordering.{is_eq, match_ordering}
use Rattle.std.specs.BTreeSet.{insert_key}
use Rattle.std.proofs.Math.Nat.{pow-suc, pow-le-pow_right}
use Rattle.std.proofs.lemmas.List.{length-map, length-append, map-append}
use Rattle.tla_value.specs.Tree.{Tree, set, trees, members, members-trees}
use Rattle.tla_value.specs.Order.{tree_cmp, tree_eq}
use Rattle.tla_value.specs.Sets.{is_member, set_of}
use Rattle.tla_value.specs.SetLaws.{is_member-set_of, set-unique, rising-set_of}
use Rattle.tla_value.specs.Choices.{sublists, set_tree, subsets_of}
use Rattle.tla_value.proofs.TreeTests.{eq-true, or-none, none-or, differ, eq-refl}

abbrev pub AreApart : List Tree → Type 0
AreApart [] = Unit {0}
AreApart (t ∷ ts) = (is_member t ts ≡ false) × AreApart ts

length-insert_key : (ts : List Tree) (t : Tree) → is_member t ts ≡ false → length (insert_key tree_cmp ts t) ≡ suc (length ts)
length-insert_key [] t h = refl
length-insert_key (u ∷ ts) t h =
    elim (tree_cmp t u) as (λ r. (is_eq r || is_member t ts) ≡ false → length (match_ordering r (t ∷ u ∷ ts) (u ∷ ts) (u ∷ insert_key tree_cmp ts t)) ≡ suc (suc (length ts))) [
      | Less ↦ λ e. refl
      | Equal ↦ λ e. cc
      | Greater ↦ λ e. ap suc (length-insert_key ts t e)
    ] h

pub length-set_of-apart : (ts : List Tree) → AreApart ts → length (set_of ts) ≡ length ts
length-set_of-apart [] h = refl
length-set_of-apart (t ∷ ts) h = length-insert_key (set_of ts) t (is_member-set_of ts t ∙ h.0) ∙ ap suc (length-set_of-apart ts h.1)

apart-append : (ts us : List Tree) → AreApart ts → AreApart us → AllByRecursion (λ t. is_member t us ≡ false) ts → AreApart (ts ++ us)
apart-append [] us h j k = j
apart-append (t ∷ ts) us h j k = (none_in ts h.0 k.0, apart-append ts us h.1 j k.1)
  where
    none_in : (vs : List Tree) → is_member t vs ≡ false → is_member t us ≡ false → is_member t (vs ++ us) ≡ false
    none_in [] e f = f
    none_in (v ∷ vs) e f = let both = or-none (tree_eq t v) (is_member t vs) e in none-or (tree_eq t v) (is_member t (vs ++ us)) both.0 (none_in vs both.1 f)

lower : (x q : Tree) → tree_cmp x q ≡ Less → tree_eq x q ≡ false
lower x q e = ap is_eq e

all-sublists : (P : List Tree → Type 0) (xs : List Tree) (x : Tree) (ls : List (List Tree)) → AllByRecursion P ls → ((l : List Tree) → P l → P (x ∷ l)) → AllByRecursion P (ls ++ map (λ c. x ∷ c) ls)
all-sublists P xs x ls h f = both ls h
  where
    added : (ks : List (List Tree)) → AllByRecursion P ks → AllByRecursion P (map (λ c. x ∷ c) ks)
    added [] j = tt
    added (k ∷ ks) j = (f k j.0, added ks j.1)

    both : (ks : List (List Tree)) → AllByRecursion P ks → AllByRecursion P (ks ++ map (λ c. x ∷ c) ls)
    both [] j = added ls h
    both (k ∷ ks) j = (j.0, both ks j.1)

lacking : (x : Tree) (xs : List Tree) → AllByRecursion (λ q. tree_cmp x q ≡ Less) xs → AllByRecursion (λ l. is_member x l ≡ false) (sublists xs)
lacking x [] h = (refl, tt)
lacking x (y ∷ xs) h = all-sublists (λ l. is_member x l ≡ false) xs y (sublists xs) (lacking x xs h.1) (λ l e. none-or (tree_eq x y) (is_member x l) (lower x y h.0) e)

set-members : (l k : List Tree) → set_tree l ≡ set_tree k → (q : Tree) → is_member q l ≡ is_member q k
set-members l k e q =
    let same : set_of l ≡ set_of k = sym (members-trees (set_of l)) ∙ inside (trees (set_of l)) (trees (set_of k)) e ∙ members-trees (set_of k) in
    sym (is_member-set_of l q) ∙ ap (is_member q) same ∙ is_member-set_of k q
  where
    inside : (a b : _) → set a ≡ set b → members a ≡ members b
    inside a b f = let g : a ≡ b = cc in ap members g

-- with one more tree that neither has, they still differ
more-apart : (x : Tree) (l k : List Tree) → is_member x l ≡ false → is_member x k ≡ false → set_tree (x ∷ l) ≡ set_tree (x ∷ k) → set_tree l ≡ set_tree k
more-apart x l k h j e =
    ap (λ us. set (trees us)) (set-unique (set_of l) (set_of k) (rising-set_of l) (rising-set_of k) (λ q. is_member-set_of l q ∙ same q ∙ sym (is_member-set_of k q)))
  where
    same : (q : Tree) → is_member q l ≡ is_member q k
    same q = elim (tree_eq q x) as (λ b. tree_eq q x ≡ b → is_member q l ≡ is_member q k) [
      | true ↦ λ f. let is = eq-true q x f in ap (λ u. is_member u l) is ∙ h ∙ sym (ap (λ u. is_member u k) is ∙ j)
      | false ↦ λ f. ap (λ b. b || is_member q l) (sym f) ∙ set-members (x ∷ l) (x ∷ k) e q ∙ ap (λ b. b || is_member q k) f
    ] refl

apart-more : (x : Tree) (ls : List (List Tree)) → AllByRecursion (λ l. is_member x l ≡ false) ls → AreApart (map set_tree ls) → AreApart (map set_tree (map (λ c. x ∷ c) ls))
apart-more x [] h a = tt
apart-more x (l ∷ ls) h a = (none ls h.1 a.0, apart-more x ls h.1 a.1)
  where
    none : (ks : List (List Tree)) → AllByRecursion (λ k. is_member x k ≡ false) ks → is_member (set_tree l) (map set_tree ks) ≡ false → is_member (set_tree (x ∷ l)) (map set_tree (map (λ c. x ∷ c) ks)) ≡ false
    none [] j e = refl
    none (k ∷ ks) j e =
        let both = or-none (tree_eq (set_tree l) (set_tree k)) (is_member (set_tree l) (map set_tree ks)) e in
        none-or _ _ (differ (set_tree (x ∷ l)) (set_tree (x ∷ k)) (λ f. unequal (set_tree l) (set_tree k) both.0 (more-apart x l k h.0 j.0 f))) (none ks j.1 both.1)
      where
        unequal : (t u : Tree) → tree_eq t u ≡ false → t ≡ u → ⊥
        unequal t u f g = let e1 : tree_eq t t ≡ true = eq-refl t in let e2 : tree_eq t t ≡ false = ap (tree_eq t) g ∙ f in cc

-- a sublist without a tree has another set than one with it
with-and-without : (x : Tree) (ls ks : List (List Tree)) → AllByRecursion (λ l. is_member x l ≡ false) ls → AllByRecursion (λ t. is_member t (map set_tree (map (λ c. x ∷ c) ks)) ≡ false) (map set_tree ls)
with-and-without x [] ks h = tt
with-and-without x (l ∷ ls) ks h = (none ks, with-and-without x ls ks h.1)
  where
    none : (js : List (List Tree)) → is_member (set_tree l) (map set_tree (map (λ c. x ∷ c) js)) ≡ false
    none [] = refl
    none (j ∷ js) = none-or _ _ (differ (set_tree l) (set_tree (x ∷ j)) (λ e.
        let has : is_member x l ≡ true = set-members l (x ∷ j) e x ∙ ap (λ b. b || is_member x j) (eq-refl x) in
        let lacks = h.0 in cc)) (none js)

pub apart-subsets : (xs : List Tree) → IsStrictlySortedBy tree_cmp xs → AreApart (subsets_of xs)
unfolding IsStrictlySortedBy
apart-subsets [] h = (refl, tt)
apart-subsets (x ∷ xs) h =
    let below = lacking x xs h.0 in
    subst AreApart (sym (map-append set_tree (sublists xs) (map (λ c. x ∷ c) (sublists xs))))
    (apart-append (map set_tree (sublists xs)) (map set_tree (map (λ c. x ∷ c) (sublists xs))) (apart-subsets xs h.1) (apart-more x (sublists xs) below (apart-subsets xs h.1)) (with-and-without x (sublists xs) (sublists xs) below))

pub length-sublists : (xs : List Tree) → length (sublists xs) ≡ 2 ^ length xs
length-sublists [] = refl
length-sublists (x ∷ xs) =
    length-append (sublists xs) (map (λ c. x ∷ c) (sublists xs))
    ∙ ap (λ n. length (sublists xs) + n) (length-map (sublists xs) (λ c. x ∷ c))
    ∙ ap (λ n. n + n) (length-sublists xs) ∙ twice (length xs)
  where
    twice : (n : ℕ) → 2 ^ n + 2 ^ n ≡ 2 ^ suc n
    twice n = omega (arith, pow-suc 2 n)

pub count-subsets : (xs : List Tree) → IsStrictlySortedBy tree_cmp xs → length (set_of (subsets_of xs)) ≡ 2 ^ length xs
count-subsets xs h = length-set_of-apart (subsets_of xs) (apart-subsets xs h) ∙ length-map (sublists xs) set_tree ∙ length-sublists xs

pub many_subsets : (n : ℕ) → 19 < n → 1000000 < 2 ^ n
many_subsets n h = let more : 2 ^ 20 ≤ 2 ^ n = pow-le-pow_right (omega arith) h in omega arith
