-- Arguments with values: parts, lengths, the greatest nesting, and replacing a value.
use Rattle.std.proofs.Common.{◌≡◌, ℕ, zero, suc, ◌<◌, ◌≤◌, max, ℤ, pos, ◌+ℤ◌, List, [], ◌∷◌, length, map, zip, get_or, set as list_set, refl, sym, ap, ◌∙◌, subst, arith, Result, Ok, Err, OnOk, OnErr}
use Rattle.std.proofs.lemmas.List.{length-map, length-set, map-set}
use Rattle.std.proofs.lemmas.Slice.Zip.{firsts-zip, seconds-zip, get_or-zip}
use Rattle.tla_value.specs.Tree.{Tree, int, trees, pairs, depth, deepest, deepest_pair}
use Rattle.tla_value.specs.TreeOf.{tree_of, pair_of}
use Rattle.tla_value.specs.IsValue.{IsValue, ArePairs}
use Rattle.tla_value.specs.Funs.{arguments, values_of}
use Rattle.tla_value.specs.Choices.{counted_up}
use Rattle.tla_value.specs.Arguments.{numbers_from}
use Rattle.tla_value.specs.Private.Held.{domain_trees, entry_pairs, FitsDomain}
use Rattle.tla_value.specs.Private.Inner.{with_value_at}
use Rattle.tla_value.specs.declared.value.Value.{Value}
use Rattle.tla_value.specs.declared.value.Value.TheVariants.{Int}
use Rattle.tla_value.specs.declared.value.Entries.{Entries}
use Rattle.tla_value.specs.declared.value.Domain.{Domain}
use Rattle.tla_value.specs.declared.value.Domain.TheVariants.{Numbers, Listed}
use Rattle.tla_value.proofs.Ranges.{length-counted_up, next_sum, no_step}

pub zip_none : (xs ys : List Tree) → ys ≡ [] → zip xs ys ≡ []
zip_none [] ys e = refl
zip_none (x ∷ xs) [] e = refl
zip_none (x ∷ xs) (y ∷ ys) e = cc

pub zip-parts : (ps : List (Tree × Tree)) → zip (arguments ps) (values_of ps) ≡ ps
zip-parts [] = refl
zip-parts (p ∷ ps) = ap (λ qs. p ∷ qs) (zip-parts ps)

pub arguments-zip : (ks vs : List Tree) → length ks ≡ length vs → arguments (zip ks vs) ≡ ks
arguments-zip ks vs e = firsts-zip ks vs (sym e)

pub values-zip : (ks vs : List Tree) → length ks ≡ length vs → values_of (zip ks vs) ≡ vs
values-zip ks vs e = seconds-zip ks vs (sym e)

pub length-zip : {A B : Type 0} (ks : List A) (vs : List B) → length ks ≡ length vs → length (zip ks vs) ≡ length vs
length-zip [] [] e = refl
length-zip [] (v ∷ vs) e = absurd (omega arith)
length-zip (k ∷ ks) [] e = absurd (omega arith)
length-zip (k ∷ ks) (v ∷ vs) e = ap suc (length-zip ks vs (omega arith))

-- ---- values and their trees
pub trees_numbers : (n : ℕ) (z : ℤ) → map tree_of (numbers_from n z) ≡ counted_up n z
trees_numbers zero z = refl
trees_numbers (suc n) z = ap (λ ts. int z ∷ ts) (trees_numbers n (z +ℤ pos 1))

pub length-numbers : (n : ℕ) (z : ℤ) → length (numbers_from n z) ≡ n
length-numbers zero z = refl
length-numbers (suc n) z = ap suc (length-numbers n (z +ℤ pos 1))

pub get_or-numbers : (n : ℕ) (z : ℤ) (i : ℕ) (d : Value) → i < n → get_or (numbers_from n z) i d ≡ Int (z +ℤ pos i)
get_or-numbers zero z i d l = absurd (omega arith)
get_or-numbers (suc n) z zero d l = ap (λ y. Int y) (sym (no_step z))
get_or-numbers (suc n) z (suc i) d l = get_or-numbers n (z +ℤ pos 1) i d (omega arith) ∙ ap (λ y. Int y) (next_sum z i)

pub map-zip : (ks vs : List Value) → map pair_of (zip ks vs) ≡ zip (map tree_of ks) (map tree_of vs)
map-zip [] vs = refl
map-zip (k ∷ ks) [] = refl
map-zip (k ∷ ks) (v ∷ vs) = ap (λ ps. pair_of (k, v) ∷ ps) (map-zip ks vs)

-- a pair whose parts were read one by one
pub at-zip : (ks vs : List Value) (i : ℕ) (k v : Value) → i < length ks → i < length vs → k ≡ get_or ks i k → v ≡ get_or vs i v → (k, v) ≡ get_or (zip ks vs) i (k, v)
at-zip ks vs i k v l m e f = (λ j. (e j, f j)) ∙ sym (get_or-zip ks vs i (k, v) l m)

-- ---- replacing a value
zip-set : (ks ts : List Tree) (i : ℕ) (t : Tree) → zip ks (list_set ts i t) ≡ with_value_at (zip ks ts) i t
zip-set [] ts i t = refl
zip-set (k ∷ ks) [] i t = refl
zip-set (k ∷ ks) (u ∷ ts) zero t = refl
zip-set (k ∷ ks) (u ∷ ts) (suc i) t = ap (λ ps. (k, u) ∷ ps) (zip-set ks ts i t)

pub entry_put : (d : Domain) (vs : List Value) (i : ℕ) (v : Value) → entry_pairs d (list_set vs i v) ≡ with_value_at (entry_pairs d vs) i (tree_of v)
entry_put d vs i v =
    ap (λ n. zip (domain_trees n d) (map tree_of (list_set vs i v))) (length-set vs i v)
    ∙ ap (λ ts. zip (domain_trees (length vs) d) ts) (map-set tree_of vs i v)
    ∙ zip-set (domain_trees (length vs) d) (map tree_of vs) i (tree_of v)

-- the same for a domain and values in another representation
pub entry_same : (d e : Domain) (vs ws : List Value) (i : ℕ) (v : Value) → e ≡ d → ws ≡ list_set vs i v → entry_pairs e ws ≡ with_value_at (entry_pairs d vs) i (tree_of v)
entry_same d e vs ws i v g h = (λ j. entry_pairs (g j) (h j)) ∙ entry_put d vs i v

-- ---- parts of the contents
length-domain_trees : (n : ℕ) (d : Domain) → FitsDomain n d → length (domain_trees n d) ≡ n
length-domain_trees n (Numbers z) h = length-counted_up n z
length-domain_trees n (Listed ts) h = h

as_many : (d : Domain) (vs : List Value) → FitsDomain (length vs) d → length (domain_trees (length vs) d) ≡ length (map tree_of vs)
as_many d vs h = length-domain_trees (length vs) d h ∙ sym (length-map vs tree_of)

pub entry_arguments : (d : Domain) (vs : List Value) → FitsDomain (length vs) d → arguments (entry_pairs d vs) ≡ domain_trees (length vs) d
entry_arguments d vs h = arguments-zip _ _ (as_many d vs h)

pub entry_values : (d : Domain) (vs : List Value) → FitsDomain (length vs) d → values_of (entry_pairs d vs) ≡ map tree_of vs
entry_values d vs h = values-zip _ _ (as_many d vs h)

pub entry_length : (d : Domain) (vs : List Value) → FitsDomain (length vs) d → length (entry_pairs d vs) ≡ length vs
entry_length d vs h = length-zip _ _ (as_many d vs h) ∙ length-map vs tree_of

-- ---- borrowed arguments
pub seen_numbers : (d : Domain) (vs : List Value) (z : ℤ) → d ≡ Numbers z → FitsDomain (length vs) d → map tree_of (numbers_from (length (entry_pairs d vs)) z) ≡ arguments (entry_pairs d vs)
seen_numbers d vs z e m =
    trees_numbers (length (entry_pairs d vs)) z
    ∙ ap (λ n. counted_up n z) (entry_length d vs m)
    ∙ ap (domain_trees (length vs)) (sym e)
    ∙ sym (entry_arguments d vs m)

pub seen_fit : (d : Domain) (vs : List Value) (z : ℤ) → d ≡ Numbers z → FitsDomain (length vs) d → FitsDomain (length (entry_pairs d vs)) (Numbers z)
seen_fit d vs z e m = rw (entry_length d vs m) (rw e at m)

pub seen_listed : (d : Domain) (vs : List Value) (ts : List Tree) → d ≡ Listed ts → FitsDomain (length vs) d → ts ≡ arguments (entry_pairs d vs)
seen_listed d vs ts e m = ap (domain_trees (length vs)) (sym e) ∙ sym (entry_arguments d vs m)

-- the replaced value may have been the deepest
deepest-kept : (ks : List Tree) (vs : List Value) (i : ℕ) (x : Value) (t : Tree) → i < length vs → x ≡ get_or vs i x → deepest_pair (pairs (zip ks (map tree_of vs))) ≤ max (deepest_pair (pairs (with_value_at (zip ks (map tree_of vs)) i t))) (depth (tree_of x))
deepest-kept [] vs i x t l is = omega arith
deepest-kept (k ∷ ks) [] i x t l is = omega arith
deepest-kept (k ∷ ks) (v ∷ vs) zero x t l is = omega (arith, ap (λ y. depth (tree_of y)) is)
deepest-kept (k ∷ ks) (v ∷ vs) (suc i) x t l is =
    let rest : deepest_pair (pairs (zip ks (map tree_of vs))) ≤ max (deepest_pair (pairs (with_value_at (zip ks (map tree_of vs)) i t))) (depth (tree_of x)) = deepest-kept ks vs i x t (omega arith) is in
    omega arith

pub deepest-replaced : (d : Domain) (vs : List Value) (i : ℕ) (x v : Value) → i < length vs → x ≡ get_or vs i x → deepest_pair (pairs (entry_pairs d vs)) ≤ max (deepest_pair (pairs (with_value_at (entry_pairs d vs) i (tree_of v)))) (depth (tree_of x))
deepest-replaced d vs i x v l is = deepest-kept (domain_trees (length vs) d) vs i x (tree_of v) l is

-- ---- that all are values
pub ArePairs-put : (ps : List (Tree × Tree)) (i : ℕ) (v : Tree) → IsValue v → ArePairs (pairs ps) → ArePairs (pairs (with_value_at ps i v))
ArePairs-put [] i v h hs = tt
ArePairs-put (p ∷ ps) zero v h hs = (hs.0, h, hs.2)
ArePairs-put (p ∷ ps) (suc i) v h hs = (hs.0, hs.1, ArePairs-put ps i v h hs.2)

-- ---- what a successful call changed
pub put_both : {A E : Type 0} (r : Result A E) (old new : Entries) (i : ℕ) (v : Value) → OnOk r (new.domain ≡ old.domain) → OnOk r (new.values.items ≡ list_set old.values.items i v)
    → OnOk r (entry_pairs new.domain new.values.items ≡ with_value_at (entry_pairs old.domain old.values.items) i (tree_of v))
put_both (Ok x) old new i v g h = entry_same old.domain new.domain old.values.items new.values.items i v g h
put_both (Err e) old new i v g h = tt

pub put_fits : {A E : Type 0} (r : Result A E) (old new : Entries) (i : ℕ) (v : Value) → OnOk r (new.domain ≡ old.domain) → OnOk r (new.values.items ≡ list_set old.values.items i v) → OnErr r (new ≡ old)
    → FitsDomain (length old.values.items) old.domain → FitsDomain (length new.values.items) new.domain
put_fits (Ok x) old new i v g h e m = subst (λ d. FitsDomain (length new.values.items) d) (sym g) (subst (λ n. FitsDomain n old.domain) (sym (ap length h ∙ length-set old.values.items i v)) m)
put_fits (Err x) old new i v g h e m = subst (λ (f : Entries). FitsDomain (length f.values.items) f.domain) (sym e) m

pub put_same : {X A E : Type 0} (r : Result A E) (old new : Entries) (f : Entries → X) → OnErr r (new ≡ old) → OnErr r (f new ≡ f old)
put_same (Ok x) old new f e = tt
put_same (Err x) old new f e = ap f e

-- ---- arguments and values that were read separately
pub same-length : (ks vs : List Value) (ps : List (Tree × Tree)) → map tree_of ks ≡ arguments ps → map tree_of vs ≡ values_of ps → length ks ≡ length vs
same-length ks vs ps h g = omega (arith, length-map ks tree_of, length-map vs tree_of, ap length h, ap length g, length-map ps (λ (p : Tree × Tree). p.0), length-map ps (λ (p : Tree × Tree). p.1))

pub pairs-back : (ks vs : List Value) (ps : List (Tree × Tree)) → map tree_of ks ≡ arguments ps → map tree_of vs ≡ values_of ps → map pair_of (zip ks vs) ≡ ps
pairs-back ks vs ps h g = map-zip ks vs ∙ (λ j. zip (h j) (g j)) ∙ zip-parts ps

-- ---- the greatest nesting in a part
pub deepest-zip : (ks vs : List Value) → length ks ≡ length vs → deepest_pair (pairs (map pair_of (zip ks vs))) ≡ max (deepest (trees (map tree_of ks))) (deepest (trees (map tree_of vs)))
deepest-zip [] [] e = refl
deepest-zip [] (v ∷ vs) e = absurd (omega arith)
deepest-zip (k ∷ ks) [] e = absurd (omega arith)
deepest-zip (k ∷ ks) (v ∷ vs) e = let rest : deepest_pair (pairs (map pair_of (zip ks vs))) ≡ max (deepest (trees (map tree_of ks))) (deepest (trees (map tree_of vs))) = deepest-zip ks vs (omega arith) in omega arith

pub deepest-values : (ps : List (Tree × Tree)) → deepest (trees (values_of ps)) ≤ deepest_pair (pairs ps)
deepest-values [] = omega arith
deepest-values (p ∷ ps) = omega (arith, deepest-values ps)

-- what was read at an index, for any default beyond the end
pub read_at : (xs : List Value) (i : ℕ) (d x : Value) → i < length xs → x ≡ get_or xs i x → get_or xs i d ≡ x
read_at [] i d x l is = absurd (omega arith)
read_at (y ∷ xs) zero d x l is = sym is
read_at (y ∷ xs) (suc i) d x l is = read_at xs i d x (omega arith) is

pub value-count : (vs : List Value) (ps : List (Tree × Tree)) → map tree_of vs ≡ values_of ps → length vs ≡ length ps
value-count vs ps h = omega (arith, length-map vs tree_of, ap length h, length-map ps (λ (p : Tree × Tree). p.1))

pub argument-count : (ks : List Value) (ps : List (Tree × Tree)) → map tree_of ks ≡ arguments ps → length ks ≡ length ps
argument-count ks ps h = omega (arith, length-map ks tree_of, ap length h, length-map ps (λ (p : Tree × Tree). p.0))

-- zipping split pairs restores them
pub split_back : (ks vs : List Value) (ps : List (Tree × Tree)) (d : Domain) → map tree_of ks ≡ arguments ps → map tree_of vs ≡ values_of ps → domain_trees (length ks) d ≡ map tree_of ks → entry_pairs d vs ≡ ps
split_back ks vs ps d h g e =
    ap (λ n. zip (domain_trees n d) (map tree_of vs)) (sym (same-length ks vs ps h g))
    ∙ (λ j. zip ((e ∙ h) j) (g j))
    ∙ zip-parts ps
