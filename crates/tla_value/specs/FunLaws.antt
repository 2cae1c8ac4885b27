-- `fun_of` returns rising pairs, in which each argument has its first value, and no other list does both.
use Rattle.std.specs.Prelude.{◌≡◌, Bool, true, false, cond, List, [], ◌∷◌, Option, Some, None, refl}
use Rattle.std.proofs.Common.{ap, sym, ◌∙◌}
use Rattle.std.specs.declared.cmp.Ordering.TheVariants.{Less, Equal, Greater}
use Rattle.std.specs.Ordering.{eq_by_cmp, is_eq, match_ordering, ordering_reverse}
use Rattle.std.specs.Cmp.{alike_right, Equal-is, tied_itself}
use Rattle.std.specs.List.Sorted.{IsStrictlySortedBy}
use Rattle.std.specs.Map.{keys_of}
use Rattle.std.specs.BTreeMap.{insert_entry}
use Rattle.std.specs.BTreeSet.{insert_key}
use Rattle.std.specs.List.{AllByRecursion}
use Rattle.tla_value.specs.Tree.{Tree}
use Rattle.tla_value.specs.Order.{tree_cmp}
use Rattle.tla_value.specs.OrderLaws.{tree_cmp-total, exact-tree}
use Rattle.tla_value.specs.Rising.{rising-insert_key, above}
use Rattle.tla_value.specs.Sets.{set_of}
use Rattle.tla_value.specs.Funs.{arguments, value_at, fun_of}

abbrev pub Pair : Type 0
Pair = Tree × Tree

arguments-insert_entry : (es : List Pair) (k v : Tree) → keys_of (insert_entry tree_cmp es k v) ≡ insert_key tree_cmp (keys_of es) k
arguments-insert_entry [] k v = refl
arguments-insert_entry (e ∷ es) k v =
    elim (tree_cmp k e.0) as (λ r. keys_of (match_ordering r ((k, v) ∷ e ∷ es) ((e.0, v) ∷ es) (e ∷ insert_entry tree_cmp es k v)) ≡ match_ordering r (k ∷ e.0 ∷ keys_of es) (e.0 ∷ keys_of es) (e.0 ∷ insert_key tree_cmp (keys_of es) k)) [
      | Less ↦ refl
      | Equal ↦ refl
      | Greater ↦ ap (λ ks. e.0 ∷ ks) (arguments-insert_entry es k v)
    ]

-- the arguments of the function of some pairs
pub arguments-fun_of : (ps : List Pair) → arguments (fun_of ps) ≡ set_of (arguments ps)
arguments-fun_of [] = refl
arguments-fun_of (p ∷ ps) = arguments-insert_entry (fun_of ps) p.0 p.1 ∙ ap (λ ks. insert_key tree_cmp ks p.0) (arguments-fun_of ps)

-- what holds of each value holds of each value of the function
all-insert_entry : (P : Tree → Type 0) (es : List Pair) (k v : Tree) → AllByRecursion (λ (e : Pair). P e.1) es → P v → AllByRecursion (λ (e : Pair). P e.1) (insert_entry tree_cmp es k v)
all-insert_entry P [] k v h p = (p, tt)
all-insert_entry P (e ∷ es) k v h p =
    elim (tree_cmp k e.0) as (λ r. AllByRecursion (λ (f : Pair). P f.1) (match_ordering r ((k, v) ∷ e ∷ es) ((e.0, v) ∷ es) (e ∷ insert_entry tree_cmp es k v))) [
      | Less ↦ (p, h)
      | Equal ↦ (p, h.1)
      | Greater ↦ (h.0, all-insert_entry P es k v h.1 p)
    ]

pub all-fun_of : (P : Tree → Type 0) (ps : List Pair) → AllByRecursion (λ (p : Pair). P p.1) ps → AllByRecursion (λ (p : Pair). P p.1) (fun_of ps)
all-fun_of P [] h = tt
all-fun_of P (p ∷ ps) h = all-insert_entry P (fun_of ps) p.0 p.1 (all-fun_of P ps h.1) h.0

pub rising-fun_of : (ps : List Pair) → IsStrictlySortedBy tree_cmp (keys_of (fun_of ps))
unfolding IsStrictlySortedBy
rising-fun_of [] = tt
rising-fun_of (p ∷ ps) = rw (arguments-insert_entry (fun_of ps) p.0 p.1) (rising-insert_key tree_cmp-total (keys_of (fun_of ps)) p.0 (rising-fun_of ps))

replaced : (a b : Bool) → a ≡ b → (v w : Tree) (rest : Option Tree) → cond b (Some v) rest ≡ cond a (Some v) (cond b (Some w) rest)
replaced true true e v w rest = refl
replaced false false e v w rest = refl
replaced true false e v w rest = cc
replaced false true e v w rest = cc

pub swapped : (a b : Bool) → (a ≡ true → b ≡ true → ⊥) → (v w : Tree) (rest : Option Tree) → cond b (Some w) (cond a (Some v) rest) ≡ cond a (Some v) (cond b (Some w) rest)
swapped true true e v w rest = absurd (e refl refl)
swapped true false e v w rest = refl
swapped false b e v w rest = refl

pub value_at-insert_entry : (es : List Pair) (k v q : Tree) → value_at q (insert_entry tree_cmp es k v) ≡ cond (eq_by_cmp tree_cmp q k) (Some v) (value_at q es)
value_at-insert_entry [] k v q = refl
value_at-insert_entry (e ∷ es) k v q =
    elim (tree_cmp k e.0) as (λ r. tree_cmp k e.0 ≡ r → value_at q (match_ordering r ((k, v) ∷ e ∷ es) ((e.0, v) ∷ es) (e ∷ insert_entry tree_cmp es k v)) ≡ cond (eq_by_cmp tree_cmp q k) (Some v) (cond (eq_by_cmp tree_cmp q e.0) (Some e.1) (value_at q es))) [
      | Less ↦ λ h. refl
      | Equal ↦ λ h. replaced _ _ (ap is_eq (alike_right tree_cmp-total k e.0 q h)) v e.1 (value_at q es)
      | Greater ↦ λ h. ap (cond (eq_by_cmp tree_cmp q e.0) (Some e.1)) (value_at-insert_entry es k v q)
          ∙ swapped (eq_by_cmp tree_cmp q k) (eq_by_cmp tree_cmp q e.0) (λ a b. apart h a b) v e.1 (value_at q es)
    ] refl
  where
    apart : tree_cmp k e.0 ≡ Greater → eq_by_cmp tree_cmp q k ≡ true → eq_by_cmp tree_cmp q e.0 ≡ true → ⊥
    apart h a b = let one : tree_cmp k e.0 ≡ Equal = sym (tree_cmp-total.congr q k e.0 ((Equal-is _).0 a)) ∙ (Equal-is _).0 b in cc

pub value_at-fun_of : (ps : List Pair) (q : Tree) → value_at q (fun_of ps) ≡ value_at q ps
value_at-fun_of [] q = refl
value_at-fun_of (p ∷ ps) q = value_at-insert_entry (fun_of ps) p.0 p.1 q ∙ ap (cond (eq_by_cmp tree_cmp q p.0) (Some p.1)) (value_at-fun_of ps q)

here : (x : Pair) (xs : List Pair) → value_at x.0 (x ∷ xs) ≡ Some x.1
here x xs = ap (λ b. cond b (Some x.1) (value_at x.0 xs)) (ap is_eq (tied_itself tree_cmp-total x.0))

skip : (x : Pair) (xs : List Pair) (q : Tree) → eq_by_cmp tree_cmp q x.0 ≡ false → value_at q (x ∷ xs) ≡ value_at q xs
skip x xs q e = ap (λ b. cond b (Some x.1) (value_at q xs)) e

-- an argument below all those of some pairs has no value in them
pub none_below : (k : Tree) (ys : List Pair) → AllByRecursion (λ y. tree_cmp k y ≡ Less) (keys_of ys) → value_at k ys ≡ None
none_below k [] h = refl
none_below k (y ∷ ys) h = skip y ys k (ap is_eq h.0) ∙ none_below k ys h.1

same_head : (x y : Pair) (xs ys : List Pair) → AllByRecursion (λ u. tree_cmp x.0 u ≡ Less) (keys_of xs) → AllByRecursion (λ u. tree_cmp y.0 u ≡ Less) (keys_of ys)
    → ((q : Tree) → value_at q (x ∷ xs) ≡ value_at q (y ∷ ys)) → tree_cmp x.0 y.0 ≡ Equal
same_head x y xs ys h j same =
    elim (tree_cmp x.0 y.0) as (λ r. tree_cmp x.0 y.0 ≡ r → tree_cmp x.0 y.0 ≡ Equal) [
      | Less ↦ λ e. absurd (some_none x.1 (sym (here x xs) ∙ same x.0 ∙ none_below x.0 (y ∷ ys) (e, above tree_cmp-total x.0 y.0 (keys_of ys) e j)))
      | Equal ↦ λ e. e
      | Greater ↦ λ e.
          let back : tree_cmp y.0 x.0 ≡ Less = tree_cmp-total.antisymm y.0 x.0 ∙ ap ordering_reverse e in
          absurd (some_none y.1 (sym (here y ys) ∙ sym (same y.0) ∙ none_below y.0 (x ∷ xs) (back, above tree_cmp-total y.0 x.0 (keys_of xs) back h)))
    ] refl
  where
    some_none : (t : Tree) → Some t ≡ None → ⊥
    some_none t e = cc

inside : (t u : Tree) → Some t ≡ Some u → t ≡ u
inside t u e = cc

-- two lists of rising pairs with the same values are equal
pub fun-unique : (xs ys : List Pair) → IsStrictlySortedBy tree_cmp (keys_of xs) → IsStrictlySortedBy tree_cmp (keys_of ys) → ((q : Tree) → value_at q xs ≡ value_at q ys) → xs ≡ ys
unfolding IsStrictlySortedBy
fun-unique [] [] h j same = refl
fun-unique [] (y ∷ ys) h j same = let e : None ≡ Some y.1 = same y.0 ∙ here y ys in cc
fun-unique (x ∷ xs) [] h j same = let e : Some x.1 ≡ None = sym (here x xs) ∙ same x.0 in cc
fun-unique (x ∷ xs) (y ∷ ys) h j same =
    let keys : x.0 ≡ y.0 = exact-tree x.0 y.0 (same_head x y xs ys h.0 j.0 same) in
    let values : x.1 ≡ y.1 = inside x.1 y.1 (sym (here x xs) ∙ same x.0 ∙ ap (λ k. value_at k (y ∷ ys)) keys ∙ here y ys) in
    let tails : (q : Tree) → value_at q xs ≡ value_at q ys = λ q.
    elim (eq_by_cmp tree_cmp q x.0) as (λ b. eq_by_cmp tree_cmp q x.0 ≡ b → value_at q xs ≡ value_at q ys) [
      | true ↦ λ e.
          let is : q ≡ x.0 = exact-tree q x.0 ((Equal-is _).0 e) in
          ap (λ k. value_at k xs) is ∙ none_below x.0 xs h.0 ∙ sym (ap (λ k. value_at k ys) (is ∙ keys) ∙ none_below y.0 ys j.0)
      | false ↦ λ e. sym (skip x xs q e) ∙ same q ∙ skip y ys q (ap (eq_by_cmp tree_cmp q) (sym keys) ∙ e)
    ] refl in
    λ i. (keys i, values i) ∷ fun-unique xs ys h.1 j.1 tails i

pub is-fun_of : (xs ps : List Pair) → IsStrictlySortedBy tree_cmp (keys_of xs) → ((q : Tree) → value_at q xs ≡ value_at q ps) → xs ≡ fun_of ps
is-fun_of xs ps h same = fun-unique xs (fun_of ps) h (rising-fun_of ps) (λ q. same q ∙ sym (value_at-fun_of ps q))
