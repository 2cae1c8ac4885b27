-- The number of distinct members, and their collection.
use Rattle.std.proofs.Common.{◌≡◌, ℕ, suc, ◌*◌, ◌^◌, ◌-◌, ◌<◌, ◌≤◌, ◌||◌, nat_lt, min, max, Bool, true, false, List, [], ◌∷◌, ◌++◌, append_assoc, append-nil, length, map, take, drop, get_or, drop-cons, add-one, ◌+◌, refl, sym, ap, subst, ◌∙◌, inl, inr, arith, Less, Equal, Greater, Ok, Err}
use Rattle.std.proofs.lemmas.List.{length-map, length-append, map-append, take_more, drop_all}
use Rattle.std.proofs.lemmas.Bool.Decides.{nat_tests}
use Rattle.std.specs.Ordering.{match_ordering}
use Rattle.std.specs.BTreeSet.{insert_key}
use Rattle.tla_value.specs.Tree.{Tree, set, trees, deepest}
use Rattle.tla_value.specs.TreeOf.{tree_of}
use Rattle.tla_value.specs.declared.value.Value.{Value}
use Rattle.tla_value.specs.Order.{tree_cmp}
use Rattle.tla_value.specs.Sets.{is_member, set_of}
use Rattle.tla_value.specs.SetLaws.{rising-set_of, is_member-set_of, is-set_of, set_of-rising}
use Rattle.tla_core.specs.declared.fault.Place.{Place}
use Rattle.tla_core.specs.declared.fault.Fault.{Fault}
use Rattle.tla_core.specs.Fault.{Outcome, ◌>>=◌}
use Rattle.tla_core.specs.Kinds.{as_set, rising_set, make_set}
use Rattle.tla_core.specs.Expr.{Union}
use Rattle.tla_core.specs.Operators.{joined_sets, unary_rule}
use Rattle.tla_operators.specs.Gathered.{then_more, different, MakeSameSet, most_held, IsHeld, IsGathered, Adds}
use Rattle.tla_operators.specs.declared.gathered.Gathered.{Gathered}
use Rattle.tla_operators.proofs.Members.{member-append}
use Rattle.tla_operators.proofs.Made.{within_many}

-- ---- the number of distinct ones
insert_few : (xs : List Tree) (t : Tree) → length (insert_key tree_cmp xs t) ≤ suc (length xs)
insert_few [] t = omega arith
insert_few (x ∷ xs) t =
    elim (tree_cmp t x) as (λ r. length (match_ordering r (t ∷ x ∷ xs) (x ∷ xs) (x ∷ insert_key tree_cmp xs t)) ≤ suc (length (x ∷ xs))) [
      | Less ↦ omega arith
      | Equal ↦ omega arith
      | Greater ↦ omega (arith, insert_few xs t)
    ]

insert_all : (xs : List Tree) (t : Tree) → length xs ≤ length (insert_key tree_cmp xs t)
insert_all [] t = omega arith
insert_all (x ∷ xs) t =
    elim (tree_cmp t x) as (λ r. length (x ∷ xs) ≤ length (match_ordering r (t ∷ x ∷ xs) (x ∷ xs) (x ∷ insert_key tree_cmp xs t))) [
      | Less ↦ omega arith
      | Equal ↦ omega arith
      | Greater ↦ omega (arith, insert_all xs t)
    ]

pub different_few : (ts : List Tree) → different ts ≤ length ts
different_few [] = omega arith
different_few (t ∷ ts) = omega (arith, insert_few (set_of ts) t, different_few ts)

different_behind : (xs ts : List Tree) → different ts ≤ different (xs ++ ts)
different_behind [] ts = omega arith
different_behind (x ∷ xs) ts = omega (arith, insert_all (set_of (xs ++ ts)) x, different_behind xs ts)

-- ---- lists with the same members
same_set : (us ts : List Tree) → ((q : Tree) → is_member q us ≡ is_member q ts) → set_of us ≡ set_of ts
same_set us ts h = is-set_of (set_of us) ts (rising-set_of us) (λ q. is_member-set_of us q ∙ h q)

same_members : (us ts : List Tree) → set_of us ≡ set_of ts → (q : Tree) → is_member q us ≡ is_member q ts
same_members us ts e q = sym (is_member-set_of us q) ∙ ap (is_member q) e ∙ is_member-set_of ts q

turned : (xs ys : List Tree) → set_of (xs ++ ys) ≡ set_of (ys ++ xs)
turned xs ys = same_set (xs ++ ys) (ys ++ xs) (λ q. member-append q xs ys ∙ or_turned (is_member q xs) (is_member q ys) ∙ sym (member-append q ys xs))
  where
    or_turned : (a b : Bool) → (a || b) ≡ (b || a)
    or_turned true true = refl
    or_turned true false = refl
    or_turned false true = refl
    or_turned false false = refl

-- with more members there are at least as many distinct ones
pub different_more : (ts xs : List Tree) → different ts ≤ different (ts ++ xs)
different_more ts xs = subst (λ (us : List Tree). different ts ≤ length us) (turned xs ts) (different_behind xs ts)

set_twice : (us : List Tree) → set_of (set_of us) ≡ set_of us
set_twice us = set_of-rising (set_of us) (rising-set_of us)

-- ---- the same set, or too many in each
many_too : (us ts : List Tree) → MakeSameSet us ts → 1000000 < different us → 1000000 < different ts
many_too us ts (inl e) h = subst (λ (xs : List Tree). 1000000 < length xs) e h
many_too us ts (inr j) h = j.1

few_same : (us ts : List Tree) → MakeSameSet us ts → different us ≤ 1000000 → different ts ≡ different us
few_same us ts (inl e) h = ap length (sym e)
few_same us ts (inr j) h = absurd (omega (arith, j.0, h))

same_more : (us ts xs : List Tree) → MakeSameSet us ts → MakeSameSet (us ++ xs) (ts ++ xs)
same_more us ts xs (inl e) = inl (same_set (us ++ xs) (ts ++ xs) (λ q. member-append q us xs ∙ ap (λ b. b || is_member q xs) (same_members us ts e q) ∙ sym (member-append q ts xs)))
same_more us ts xs (inr h) = inr (omega (arith, h.0, different_more us xs), omega (arith, h.1, different_more ts xs))

same_once : (us ts : List Tree) → MakeSameSet us ts → MakeSameSet (set_of us) ts
same_once us ts (inl e) = inl (set_twice us ∙ e)
same_once us ts (inr h) = inr (subst (λ (xs : List Tree). 1000000 < length xs) (sym (set_twice us)) h.0, h.1)

-- ---- the collection
pub none_gathered : (g : Gathered) → g.values.items ≡ [] → g.room ≡ 1024 → g.is_full ≡ false → IsGathered [] g
none_gathered g e r f = record {
  held = record {
    same = inl (ap (λ (vs : List Value). set_of (map tree_of vs)) e);
    few = omega (arith, length-map g.values.items tree_of, ap length e);
  };
  full = λ h. absurd (false_true (sym f ∙ h));
  free = λ h. (omega (arith, r, ap length e), omega (arith, r));
}
  where
    false_true : (let b : Bool = false in b ≡ true) → ⊥
    false_true k = cc

-- one more, when there are too many already
pub still_gathered : (ts : List Tree) (t : Tree) (g : Gathered) → g.is_full ≡ true → IsGathered ts g → IsGathered (ts ++ t ∷ []) g
still_gathered ts t g f h =
    let us = map tree_of g.values.items in
    let many = h.full f in
    let all = many_too us ts h.held.same many in
    let more = different_more ts (t ∷ []) in
    record {
      held = record { same = inr (many, omega (arith, all, more)); few = omega (arith, h.held.few, more) };
      full = h.full;
      free = λ e. absurd (true_false (sym f ∙ e));
    }
  where
    true_false : (let b : Bool = true in b ≡ false) → ⊥
    true_false k = cc

-- one more that is held
pub held_more : (ts : List Tree) (v : Value) (old : Gathered) (new : List Value) → old.is_full ≡ false → new ≡ old.values.items ++ v ∷ [] → IsGathered ts old → IsHeld (ts ++ tree_of v ∷ []) (map tree_of new)
held_more ts v old new f e h =
    let us = map tree_of old.values.items in
    let free = h.free f in
    let more = different_more ts (tree_of v ∷ []) in
    let are : map tree_of new ≡ us ++ tree_of v ∷ [] = ap (map tree_of) e ∙ map-append tree_of old.values.items (v ∷ []) in
    record {
      same = subst (λ (xs : List Tree). MakeSameSet xs (ts ++ tree_of v ∷ [])) (sym are) (same_more us ts (tree_of v ∷ []) h.held.same);
      few = omega (arith, free.0, free.1, more, length-map new tree_of, ap length e, length-append old.values.items (v ∷ []));
    }

pub room_more : (ts : List Tree) (t : Tree) (g : Gathered) → g.is_full ≡ false → IsGathered ts g → g.room ≤ most_held (ts ++ t ∷ [])
room_more ts t g f h = let free = h.free f in omega (arith, free.1, different_more ts (t ∷ []))

-- if there is room for another
pub gathered_so : (ts : List Tree) (g : Gathered) → IsHeld ts (map tree_of g.values.items) → g.is_full ≡ false → length g.values.items < g.room → g.room ≤ most_held ts → IsGathered ts g
gathered_so ts g h f l r = record {
  held = h;
  full = λ j. absurd (false_true (sym f ∙ j));
  free = λ j. (l, r);
}
  where
    false_true : (let b : Bool = false in b ≡ true) → ⊥
    false_true k = cc

-- if duplicates are dropped
pub gathered_once : (ts us : List Tree) (g : Gathered) (n : ℕ) → n ≡ length g.values.items → map tree_of g.values.items ≡ set_of us → g.is_full ≡ nat_lt 1000000 n → g.room ≡ max 1024 (min (n * 2) (2 ^ 64 - 1)) → IsHeld ts us → IsGathered ts g
gathered_once ts us g n long e f r h =
    let count : n ≡ different us = long ∙ sym (length-map g.values.items tree_of) ∙ ap length e in
    let again : different (map tree_of g.values.items) ≡ n = ap different e ∙ ap length (set_twice us) ∙ sym count in
    let fewer = different_few us in
    record {
      held = record {
        same = subst (λ (xs : List Tree). MakeSameSet xs ts) (sym e) (same_once us ts h.same);
        few = omega (arith, h.few, fewer, count, long, length-map g.values.items tree_of);
      };
      full = λ j. let many : 1000000 < n = is_more n (sym f ∙ j) in omega (arith, many, again);
      free = λ j.
          let few : n ≤ 1000000 = is_few n (sym f ∙ j) in
          let all : different ts ≡ n = few_same us ts h.same (omega (arith, few, count)) ∙ sym count in
          (subst (λ (k : ℕ). k < g.room) long (room n g.room r few), bound n g.room (different ts) r few all);
    }
  where
    is_more : (n : ℕ) → nat_lt 1000000 n ≡ true → 1000000 < n
    is_more n k = grind (arith, nat_tests)

    is_few : (n : ℕ) → nat_lt 1000000 n ≡ false → n ≤ 1000000
    is_few n k = grind (arith, nat_tests)

    room : (n m : ℕ) → m ≡ max 1024 (min (n * 2) (2 ^ 64 - 1)) → n ≤ 1000000 → n < m
    room n m k l = omega (arith, k, l)

    bound : (n m d : ℕ) → m ≡ max 1024 (min (n * 2) (2 ^ 64 - 1)) → n ≤ 1000000 → d ≡ n → m ≤ max 1024 (2 * min 1000000 d)
    bound n m d k l i = omega (arith, k, l, i)

-- ---- several in turn
pub taken : (vs : List Value) (i : ℕ) (x : Value) → x ≡ get_or vs i x → i < length vs → map tree_of (take (i + 1) vs) ≡ map tree_of (take i vs) ++ tree_of x ∷ []
taken vs i x is l = ap (map tree_of) (take_more vs i x l ∙ ap (λ y. take i vs ++ y ∷ []) (sym is)) ∙ map-append tree_of (take i vs) (x ∷ [])

pub adds_none : (g : Gathered) → Adds [] g g
adds_none g = λ ts h. subst (λ (us : List Tree). IsGathered us g) (sym (append-nil ts)) h

pub adds_more : (us vs : List Tree) (f g h : Gathered) → Adds us f g → Adds vs g h → Adds (us ++ vs) f h
adds_more us vs f g h a b = λ ts i. subst (λ (xs : List Tree). IsGathered xs h) (append_assoc ts us vs) (b (ts ++ us) (a ts i))

-- ---- the set of the collection
pub gathered_set : (p : Place) (us ts : List Tree) → MakeSameSet us ts → rising_set p (set_of us) ≡ make_set p ts
gathered_set p us ts (inl e) = ap (rising_set p) e
gathered_set p us ts (inr h) =
    within_many p (different us) (deepest (trees (set_of us))) (set (trees (set_of us))) h.0
    ∙ sym (within_many p (different ts) (deepest (trees (set_of ts))) (set (trees (set_of ts))) h.1)

-- ---- a union, one set after another
pub more_none : (o : Outcome (List Tree)) → o ≡ then_more [] o
more_none (Ok ys) = refl
more_none (Err f) = refl

module _ (p : Place) (kept : List Tree) (sets : List Value) (i : ℕ) (x : Value) (is : x ≡ get_or sets i x) (l : i < length sets) where
  joined_here : joined_sets p (map tree_of (drop i sets)) ≡ (as_set p (tree_of x) >>= λ xs. joined_sets p (map tree_of (drop (suc i) sets)) >>= λ ys. Ok (xs ++ ys))
  joined_here = ap (λ us. joined_sets p (map tree_of us)) (drop-cons sets i x l ∙ ap (λ y. y ∷ drop (suc i) sets) (sym is))

  pub joined_more : (xs : List Tree) → as_set p (tree_of x) ≡ Ok xs → then_more kept (joined_sets p (map tree_of (drop i sets))) ≡ then_more (kept ++ xs) (joined_sets p (map tree_of (drop (i + 1) sets)))
  joined_more xs h =
      rw add-one (ap (λ (o : Outcome (List Tree)). then_more kept o) (joined_here ∙ ap (λ (o : Outcome (List Tree)). o >>= λ ys. joined_sets p (map tree_of (drop (suc i) sets)) >>= λ zs. Ok (ys ++ zs)) h)
      ∙ go (joined_sets p (map tree_of (drop (suc i) sets))))
    where
      go : (o : Outcome (List Tree)) → then_more kept (o >>= λ zs. Ok (xs ++ zs)) ≡ then_more (kept ++ xs) o
      go (Ok zs) = ap (λ us. Ok us) (sym (append_assoc kept xs zs))
      go (Err f) = refl

  pub joined_stop : (f : Fault) → as_set p (tree_of x) ≡ Err f → then_more kept (joined_sets p (map tree_of (drop i sets))) ≡ Err f
  joined_stop f h = ap (λ (o : Outcome (List Tree)). then_more kept o) (joined_here ∙ ap (λ (o : Outcome (List Tree)). o >>= λ ys. joined_sets p (map tree_of (drop (suc i) sets)) >>= λ zs. Ok (ys ++ zs)) h)

  pub joined_first : then_more kept (joined_sets p (map tree_of (drop i sets))) ≡ (as_set p (tree_of x) >>= λ xs. then_more kept (joined_sets p (map tree_of (drop i sets))))
  joined_first = go (as_set p (tree_of x)) refl
    where
      go : (o : Outcome (List Tree)) → as_set p (tree_of x) ≡ o → then_more kept (joined_sets p (map tree_of (drop i sets))) ≡ (o >>= λ xs. then_more kept (joined_sets p (map tree_of (drop i sets))))
      go (Ok xs) h = refl
      go (Err f) h = joined_stop f h

pub joined_end : (p : Place) (kept : List Tree) (sets : List Value) (i : ℕ) → length sets ≤ i → then_more kept (joined_sets p (map tree_of (drop i sets))) ≡ Ok kept
joined_end p kept sets i l = ap (λ us. then_more kept (joined_sets p (map tree_of us))) (drop_all i sets l) ∙ ap (λ us. Ok us) (append-nil kept)

pub union_is : (p : Place) (t : Tree) (ts : List Tree) → as_set p t ≡ Ok ts → unary_rule Union p t ≡ (joined_sets p ts >>= make_set p)
union_is p t ts h = ap (λ (o : Outcome (List Tree)). o >>= λ us. joined_sets p us >>= make_set p) h
