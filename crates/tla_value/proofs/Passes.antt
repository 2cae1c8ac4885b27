-- Passes over two rising lists: the rest of each, and the part chosen so far.
use Rattle.std.proofs.Common.{◌≡◌, ℕ, zero, suc, ◌<◌, Bool, true, false, ◌||◌, ◌&&◌, cond, not, List, [], ◌∷◌, ◌++◌, append-nil, length, map, get_or, drop, take, refl, sym, ap, ◌∙◌, subst, arith, Less, Equal, Greater}
use Rattle.std.specs.Bool.{beq}
use Rattle.std.proofs.lemmas.List.Kept.{IsStrictlySortedBy-filter}
use Rattle.std.specs.List.{AllByRecursion, list_all}
use Rattle.std.specs.List.Sorted.{IsStrictlySortedBy}
use Rattle.std.specs.Ordering.{is_eq, ordering_reverse}
use Rattle.std.proofs.lemmas.List.Elements.{filter-append}
use Rattle.tla_value.specs.Tree.{Tree}
use Rattle.tla_value.specs.TreeOf.{tree_of}
use Rattle.tla_value.specs.Order.{tree_cmp, tree_eq}
use Rattle.tla_value.specs.OrderLaws.{tree_cmp-total}
use Rattle.tla_value.specs.Rising.{above}
use Rattle.tla_value.specs.Sets.{is_member}
use Rattle.tla_value.specs.Private.Inner.{chosen_of}
use Rattle.tla_value.specs.declared.value.Value.{Value}
use Rattle.tla_value.proofs.Lists.{map-drop, from_here}

pub rising-drop : (i : ℕ) (ts : List Tree) → IsStrictlySortedBy tree_cmp ts → IsStrictlySortedBy tree_cmp (drop i ts)
unfolding IsStrictlySortedBy
rising-drop zero ts h = h
rising-drop (suc i) [] h = tt
rising-drop (suc i) (t ∷ ts) h = rising-drop i ts h.1

-- of two trees the upper is not equal to the lower
upper_is_other : (x q : Tree) → tree_cmp x q ≡ Less → tree_eq q x ≡ false
upper_is_other x q e = ap is_eq (tree_cmp-total.antisymm q x ∙ ap ordering_reverse e)

-- the skipped items are below the one searched for
pub passed : (vs : List Value) (i : ℕ) (x : Value) (q : Tree) → i < length vs → x ≡ get_or vs i x → tree_cmp (tree_of x) q ≡ Less
    → is_member q (drop (suc i) (map tree_of vs)) ≡ is_member q (drop i (map tree_of vs))
passed vs i x q l is e =
    sym (ap (is_member q) (from_here tree_of vs i x l is) ∙ ap (λ b. b || is_member q (drop (suc i) (map tree_of vs))) (upper_is_other (tree_of x) q e))

-- an item at this index is found, and one below all of the rest isn't
pub stands_here : (vs : List Value) (i : ℕ) (x : Value) (q : Tree) → i < length vs → x ≡ get_or vs i x → tree_cmp (tree_of x) q ≡ Equal → is_member q (drop i (map tree_of vs)) ≡ true
stands_here vs i x q l is e =
    ap (is_member q) (from_here tree_of vs i x l is)
    ∙ ap (λ b. b || is_member q (drop (suc i) (map tree_of vs))) (ap is_eq (tree_cmp-total.antisymm q (tree_of x) ∙ ap ordering_reverse e))

none_above : (q : Tree) (ts : List Tree) → AllByRecursion (λ t. tree_cmp q t ≡ Less) ts → is_member q ts ≡ false
none_above q [] h = refl
none_above q (t ∷ ts) h = ap (λ b. b || is_member q ts) (ap is_eq h.0) ∙ none_above q ts h.1

pub stands_below : (vs : List Value) (i : ℕ) (x : Value) (q : Tree) → IsStrictlySortedBy tree_cmp (map tree_of vs) → i < length vs → x ≡ get_or vs i x → tree_cmp (tree_of x) q ≡ Greater
    → is_member q (drop i (map tree_of vs)) ≡ false
unfolding IsStrictlySortedBy
stands_below vs i x q h l is e =
    let below : tree_cmp q (tree_of x) ≡ Less = tree_cmp-total.antisymm q (tree_of x) ∙ ap ordering_reverse e in
    let rest : IsStrictlySortedBy tree_cmp (tree_of x ∷ drop (suc i) (map tree_of vs)) = subst (IsStrictlySortedBy tree_cmp) (from_here tree_of vs i x l is) (rising-drop i (map tree_of vs) h) in
    ap (is_member q) (from_here tree_of vs i x l is)
    ∙ none_above q (tree_of x ∷ drop (suc i) (map tree_of vs)) (below, above tree_cmp-total q (tree_of x) (drop (suc i) (map tree_of vs)) below rest.0)

-- for each item of the first list, membership in the rest of the second is membership in all of it
abbrev pub IsAhead : List Tree → List Tree → List Tree → Type 0
IsAhead xs rest all = AllByRecursion (λ q. is_member q rest ≡ is_member q all) xs

kept_ahead : (x : Tree) (xs rest next all : List Tree) → AllByRecursion (λ q. tree_cmp x q ≡ Less) xs → ((q : Tree) → tree_cmp x q ≡ Less → is_member q next ≡ is_member q rest) → IsAhead xs rest all → IsAhead xs next all
kept_ahead x [] rest next all h same a = tt
kept_ahead x (q ∷ xs) rest next all h same a = (same q h.0 ∙ a.0, kept_ahead x xs rest next all h.1 same a.1)

-- the next value
pub ahead_more : (vs : List Value) (i : ℕ) (x : Value) (rest next all : List Tree) → IsStrictlySortedBy tree_cmp (map tree_of vs) → i < length vs → x ≡ get_or vs i x
    → ((q : Tree) → tree_cmp (tree_of x) q ≡ Less → is_member q next ≡ is_member q rest) → IsAhead (map tree_of (drop i vs)) rest all → IsAhead (map tree_of (drop (suc i) vs)) next all
unfolding IsStrictlySortedBy
ahead_more vs i x rest next all h l is same a =
    let here : IsStrictlySortedBy tree_cmp (tree_of x ∷ drop (suc i) (map tree_of vs)) = subst (IsStrictlySortedBy tree_cmp) (from_here tree_of vs i x l is) (rising-drop i (map tree_of vs) h) in
    let all_here : IsAhead (tree_of x ∷ drop (suc i) (map tree_of vs)) rest all = subst (λ (us : List Tree). IsAhead us rest all) (map-drop tree_of i vs ∙ from_here tree_of vs i x l is) a in
    subst (λ (us : List Tree). IsAhead us next all) (sym (map-drop tree_of (suc i) vs)) (kept_ahead (tree_of x) (drop (suc i) (map tree_of vs)) rest next all here.0 same all_here.1)

-- the current value, which is the first of the rest
pub ahead_here : (vs : List Value) (i : ℕ) (x : Value) (rest all : List Tree) → i < length vs → x ≡ get_or vs i x → IsAhead (map tree_of (drop i vs)) rest all → is_member (tree_of x) rest ≡ is_member (tree_of x) all
ahead_here vs i x rest all l is a =
    let all_here : IsAhead (tree_of x ∷ drop (suc i) (map tree_of vs)) rest all = subst (λ (us : List Tree). IsAhead us rest all) (map-drop tree_of i vs ∙ from_here tree_of vs i x l is) a in
    all_here.0

take_here : (vs : List Value) (i : ℕ) (x : Value) → i < length vs → x ≡ get_or vs i x → map tree_of (take (suc i) vs) ≡ map tree_of (take i vs) ++ tree_of x ∷ []
take_here [] i x l e = absurd (omega arith)
take_here (v ∷ vs) zero x l e = λ k. tree_of (sym e k) ∷ []
take_here (v ∷ vs) (suc i) x l e = ap (λ ts. tree_of v ∷ ts) (take_here vs i x (omega arith) e)

-- the filter with one more value
pub chosen_more : (shared : Bool) (others : List Tree) (vs : List Value) (i : ℕ) (x : Value) (old new : List Tree) → i < length vs → x ≡ get_or vs i x → (wanted : Bool)
    → wanted ≡ cond shared (is_member (tree_of x) others) (not (is_member (tree_of x) others)) → new ≡ cond wanted (old ++ tree_of x ∷ []) old
    → old ≡ chosen_of shared others (map tree_of (take i vs)) → new ≡ chosen_of shared others (map tree_of (take (suc i) vs))
chosen_more shared others vs i x old new l is wanted h e was =
    e ∙ ap (λ b. cond b (old ++ tree_of x ∷ []) old) h ∙ added (cond shared (is_member (tree_of x) others) (not (is_member (tree_of x) others)))
    ∙ ap (λ us. us ++ chosen_of shared others (tree_of x ∷ [])) was
    ∙ sym (filter-append (λ t. cond shared (is_member t others) (not (is_member t others))) (map tree_of (take i vs)) (tree_of x ∷ []))
    ∙ ap (chosen_of shared others) (sym (take_here vs i x l is))
  where
    added : (b : Bool) → cond b (old ++ tree_of x ∷ []) old ≡ old ++ cond b (tree_of x ∷ []) []
    added true = refl
    added false = sym (append-nil old)

pub as_wanted : (there shared : Bool) → beq there shared ≡ cond shared there (not there)
as_wanted true true = refl
as_wanted true false = refl
as_wanted false true = refl
as_wanted false false = refl

-- an item that was found is not searched again
pub all_more : (vs : List Value) (i : ℕ) (x : Value) (all : List Tree) → i < length vs → x ≡ get_or vs i x → is_member (tree_of x) all ≡ true
    → list_all (λ t. is_member t all) (map tree_of (drop (suc i) vs)) ≡ list_all (λ t. is_member t all) (map tree_of (drop i vs))
all_more vs i x all l is e =
    sym (ap (list_all (λ t. is_member t all)) (map-drop tree_of i vs ∙ from_here tree_of vs i x l is)
    ∙ ap (λ b. b && list_all (λ t. is_member t all) (drop (suc i) (map tree_of vs))) e
    ∙ ap (list_all (λ t. is_member t all)) (sym (map-drop tree_of (suc i) vs)))

pub rising_chosen : (shared : Bool) (others ts : List Tree) → IsStrictlySortedBy tree_cmp ts → IsStrictlySortedBy tree_cmp (chosen_of shared others ts)
rising_chosen shared others ts h = IsStrictlySortedBy-filter tree_cmp (λ t. cond shared (is_member t others) (not (is_member t others))) ts h
