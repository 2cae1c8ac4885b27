-- The choice with a number, from the last list to the first.
use Rattle.std.proofs.Common.{◌≡◌, ℕ, zero, suc, ◌+◌, ◌-◌, ◌*◌, ◌/◌, ◌%◌, ◌<◌, ◌≤◌, false, List, [], ◌∷◌, ◌++◌, append_assoc, length, map, get_or, take, Bor, Option, Some, None, option_map, refl, sym, ap, subst, ◌∙◌, arith}
use Rattle.std.specs.Prelude.{reverse, slice_get}
use Rattle.std.specs.List.{flat_map}
use Rattle.std.proofs.Math.Nat.{mod-lt, zero-mul, suc-mul}
use Rattle.std.proofs.lemmas.Nat.{div-add-mod'}
use Rattle.std.proofs.lemmas.List.{length-map, map-append, take_more, reverse-append, get_or-map}
use Rattle.tla_value.specs.Tree.{Tree, truth}
use Rattle.tla_value.specs.TreeOf.{tree_of}
use Rattle.tla_value.specs.declared.value.Value.{Value}
use Rattle.tla_value.specs.Choices.{choices}

-- ---- an index in a concatenation
get_first : {A : Type 0} (xs ys : List A) (i : ℕ) → i < length xs → slice_get (xs ++ ys) i ≡ slice_get xs i
get_first [] ys i h = absurd (omega arith)
get_first (x ∷ xs) ys zero h = refl
get_first (x ∷ xs) ys (suc i) h = get_first xs ys i (omega arith)

get_second : {A : Type 0} (xs ys : List A) (i : ℕ) → slice_get (xs ++ ys) (length xs + i) ≡ slice_get ys i
get_second [] ys i = ap (slice_get ys) (let e : 0 + i ≡ i = omega arith in e)
get_second (x ∷ xs) ys i = ap (slice_get (x ∷ xs ++ ys)) (let e : suc (length xs) + i ≡ suc (length xs + i) = omega arith in e) ∙ get_second xs ys i

-- ---- choices with one more list at the end
abbrev pub with_last : List Tree → List Tree → List (List Tree)
with_last xs c = map (λ x. c ++ x ∷ []) xs

flat-append : (g : List Tree → List (List Tree)) (cs ds : List (List Tree)) → flat_map g (cs ++ ds) ≡ flat_map g cs ++ flat_map g ds
flat-append g [] ds = refl
flat-append g (c ∷ cs) ds = ap (λ us. g c ++ us) (flat-append g cs ds) ∙ sym (append_assoc (g c) (flat_map g cs) (flat_map g ds))

behind : (v : Tree) (c xs : List Tree) → with_last xs (v ∷ c) ≡ map (λ d. v ∷ d) (with_last xs c)
behind v c [] = refl
behind v c (x ∷ xs) = ap (λ us. (v ∷ c ++ x ∷ []) ∷ us) (behind v c xs)

flat-behind : (v : Tree) (xs : List Tree) (cs : List (List Tree)) → flat_map (with_last xs) (map (λ d. v ∷ d) cs) ≡ map (λ d. v ∷ d) (flat_map (with_last xs) cs)
flat-behind v xs [] = refl
flat-behind v xs (c ∷ cs) =
    ap (λ us. us ++ flat_map (with_last xs) (map (λ d. v ∷ d) cs)) (behind v c xs)
    ∙ ap (λ us. map (λ d. v ∷ d) (with_last xs c) ++ us) (flat-behind v xs cs)
    ∙ sym (map-append (λ d. v ∷ d) (with_last xs c) (flat_map (with_last xs) cs))

single : (xs : List Tree) → flat_map (λ x. map (λ c. x ∷ c) ([] ∷ [])) xs ≡ map (λ x. x ∷ []) xs
single [] = refl
single (x ∷ xs) = ap (λ us. (x ∷ []) ∷ us) (single xs)

nothing_more : (cs : List (List Tree)) → cs ++ [] ≡ cs
nothing_more [] = refl
nothing_more (c ∷ cs) = ap (λ us. c ∷ us) (nothing_more cs)

first_more : (xs ys : List Tree) (cs : List (List Tree)) → flat_map (λ v. map (λ d. v ∷ d) (flat_map (with_last xs) cs)) ys ≡ flat_map (with_last xs) (flat_map (λ v. map (λ d. v ∷ d) cs) ys)
first_more xs [] cs = refl
first_more xs (v ∷ vs) cs =
    ap (λ us. us ++ flat_map (λ u. map (λ d. u ∷ d) (flat_map (with_last xs) cs)) vs) (sym (flat-behind v xs cs))
    ∙ ap (λ us. flat_map (with_last xs) (map (λ d. v ∷ d) cs) ++ us) (first_more xs vs cs)
    ∙ sym (flat-append (with_last xs) (map (λ d. v ∷ d) cs) (flat_map (λ u. map (λ d. u ∷ d) cs) vs))

choices-last : (lists : List (List Tree)) (xs : List Tree) → choices (lists ++ xs ∷ []) ≡ flat_map (with_last xs) (choices lists)
choices-last [] xs = single xs ∙ sym (nothing_more (map (λ x. x ∷ []) xs))
choices-last (ys ∷ lists) xs = ap (λ cs. flat_map (λ v. map (λ d. v ∷ d) cs) ys) (choices-last lists xs) ∙ first_more xs ys (choices lists)

-- ---- the one with a number
last-at : (xs c : List Tree) (r : ℕ) → r < length xs → slice_get (with_last xs c) r ≡ Some (c ++ get_or xs r (truth false) ∷ [])
last-at [] c r h = absurd (omega arith)
last-at (x ∷ xs) c zero h = refl
last-at (x ∷ xs) c (suc r) h = last-at xs c r (omega arith)

block-at : (xs : List Tree) (cs : List (List Tree)) (q r : ℕ) → r < length xs
    → slice_get (flat_map (with_last xs) cs) (q * length xs + r) ≡ option_map (λ c. c ++ get_or xs r (truth false) ∷ []) (slice_get cs q)
block-at xs [] q r h = refl
block-at xs (c ∷ cs) zero r h =
    ap (slice_get (with_last xs c ++ flat_map (with_last xs) cs)) (ap (λ n. n + r) (zero-mul (length xs)) ∙ zero_and r)
    ∙ get_first (with_last xs c) (flat_map (with_last xs) cs) r (subst (λ n. r < n) (sym (length-map xs (λ (x : Tree). c ++ x ∷ []))) h)
    ∙ last-at xs c r h
  where
    zero_and : (n : ℕ) → 0 + n ≡ n
    zero_and n = omega arith
block-at xs (c ∷ cs) (suc q) r h =
    ap (slice_get (with_last xs c ++ flat_map (with_last xs) cs)) (after (length xs) q r ∙ ap (λ n. n + (q * length xs + r)) (sym (length-map xs (λ (x : Tree). c ++ x ∷ []))))
    ∙ get_second (with_last xs c) (flat_map (with_last xs) cs) (q * length xs + r)
    ∙ block-at xs cs q r h
  where
    after : (n p s : ℕ) → suc p * n + s ≡ n + (p * n + s)
    after n p s = omega (arith, suc-mul p n)

choice-last : (lists : List (List Tree)) (xs : List Tree) (k : ℕ) → 0 < length xs
    → slice_get (choices (lists ++ xs ∷ [])) k ≡ option_map (λ c. c ++ get_or xs (k % length xs) (truth false) ∷ []) (slice_get (choices lists) (k / length xs))
choice-last lists xs k h =
    ap (λ cs. slice_get cs k) (choices-last lists xs)
    ∙ ap (slice_get (flat_map (with_last xs) (choices lists))) (sym (div-add-mod' k (length xs)))
    ∙ block-at xs (choices lists) (k / length xs) (k % length xs) (mod-lt k h)

none-last : (lists : List (List Tree)) (k : ℕ) → slice_get (choices (lists ++ [] ∷ [])) k ≡ None
none-last lists k = ap (λ cs. slice_get cs k) (choices-last lists [] ∙ none (choices lists))
  where
    none : (cs : List (List Tree)) → flat_map (with_last []) cs ≡ []
    none [] = refl
    none (c ∷ cs) = none cs

no_items : (vs : List Value) → length vs ≡ 0 → vs ≡ []
no_items [] h = refl
no_items (v ∷ vs) h = absurd (omega arith)

-- ---- the loop over the lists, from the last one
abbrev pub trees_in : List (Bor (List Value)) → List (List Tree)
trees_in lists = map (λ (r : Bor (List Value)). map tree_of r.now) lists

module _ (lists : List (Bor (List Value))) (i : ℕ) (list : Bor (List Value)) (i_in : i < length lists) (is : list ≡ get_or lists (length lists - 1 - i) list) where
  abbrev others : List (List Tree)
  others = trees_in (take (length lists - (i + 1)) lists)

  one-more : trees_in (take (length lists - i) lists) ≡ others ++ map tree_of list.now ∷ []
  one-more =
      let e : length lists - i ≡ (length lists - (i + 1)) + 1 = omega arith in
      let f : length lists - 1 - i ≡ length lists - (i + 1) = omega arith in
      ap (λ n. trees_in (take n lists)) e
      ∙ ap trees_in (take_more lists (length lists - (i + 1)) list (omega arith) ∙ ap (λ x. take (length lists - (i + 1)) lists ++ x ∷ []) (ap (λ n. get_or lists n list) (sym f) ∙ sym is))
      ∙ map-append (λ (r : Bor (List Value)). map tree_of r.now) (take (length lists - (i + 1)) lists) (list ∷ [])

  pub choice_none : (k : ℕ) (ts : List Tree) → length list.now ≡ 0 → option_map (λ (c : List Tree). c ++ reverse ts) (slice_get (choices (trees_in (take (length lists - i) lists))) k) ≡ None
  choice_none k ts e = ap (λ us. option_map (λ (c : List Tree). c ++ reverse ts) (slice_get (choices us) k)) (one-more ∙ ap (λ (us : List Value). others ++ map tree_of us ∷ []) (no_items list.now e)) ∙ ap (option_map (λ (c : List Tree). c ++ reverse ts)) (none-last others k)

  pub choice_step : (k : ℕ) (old new : List Value) (v : Value) → 0 < length list.now → v ≡ get_or list.now (k % length list.now) v → k % length list.now < length list.now → new ≡ old ++ v ∷ []
      → option_map (λ (c : List Tree). c ++ reverse (map tree_of old)) (slice_get (choices (trees_in (take (length lists - i) lists))) k)
      ≡ option_map (λ (c : List Tree). c ++ reverse (map tree_of new)) (slice_get (choices others) (k / length list.now))
  choice_step k old new v some at below pushed =
      let n = length list.now in
      let xs = map tree_of list.now in
      let long : length xs ≡ n = length-map list.now tree_of in
      let item : get_or xs (k % n) (truth false) ≡ tree_of v = get_or-map tree_of list.now (k % n) v (truth false) below ∙ ap tree_of (sym at) in
      ap (λ us. option_map (λ (c : List Tree). c ++ reverse (map tree_of old)) (slice_get (choices us) k)) one-more
      ∙ ap (option_map (λ (c : List Tree). c ++ reverse (map tree_of old))) (choice-last others xs k (subst (λ m. 0 < m) (sym long) some))
      ∙ ap (λ m. option_map (λ (c : List Tree). c ++ reverse (map tree_of old)) (option_map (λ (c : List Tree). c ++ get_or xs (k % m) (truth false) ∷ []) (slice_get (choices others) (k / m)))) long
      ∙ ap (λ x. option_map (λ (c : List Tree). c ++ reverse (map tree_of old)) (option_map (λ (c : List Tree). c ++ x ∷ []) (slice_get (choices others) (k / n)))) item
      ∙ both (slice_get (choices others) (k / n))
      ∙ ap (λ us. option_map (λ (c : List Tree). c ++ reverse us) (slice_get (choices others) (k / n))) (sym (ap (map tree_of) pushed ∙ map-append tree_of old (v ∷ [])))
    where
      turned : (c : List Tree) → (c ++ tree_of v ∷ []) ++ reverse (map tree_of old) ≡ c ++ reverse (map tree_of old ++ tree_of v ∷ [])
      turned c = append_assoc c (tree_of v ∷ []) (reverse (map tree_of old)) ∙ ap (λ us. c ++ us) (sym (reverse-append (map tree_of old) (tree_of v ∷ [])))

      both : (o : Option (List Tree)) → option_map (λ (c : List Tree). c ++ reverse (map tree_of old)) (option_map (λ (c : List Tree). c ++ tree_of v ∷ []) o) ≡ option_map (λ (c : List Tree). c ++ reverse (map tree_of old ++ tree_of v ∷ [])) o
      both None = refl
      both (Some c) = ap (λ u. Some u) (turned c)

-- ---- its end
pub map-reversed : {A B : Type 0} (f : A → B) (xs : List A) → map f (reverse xs) ≡ reverse (map f xs)
map-reversed f [] = refl
map-reversed f (x ∷ xs) =
    ap (map f) (reverse-append (x ∷ []) xs) ∙ map-append f (reverse xs) (x ∷ []) ∙ ap (λ us. us ++ f x ∷ []) (map-reversed f xs) ∙ sym (reverse-append (f x ∷ []) (map f xs))

pub choice_end : (lists : List (Bor (List Value))) (i k : ℕ) (ts : List Tree) → length lists ≤ i → k ≡ 0 → option_map (λ (c : List Tree). c ++ reverse ts) (slice_get (choices (trees_in (take (length lists - i) lists))) k) ≡ Some (reverse ts)
choice_end lists i k ts h z =
    ap (λ n. option_map (λ (c : List Tree). c ++ reverse ts) (slice_get (choices (trees_in (take n lists))) k)) (let e : length lists - i ≡ 0 = omega arith in e)
    ∙ ap (λ n. option_map (λ (c : List Tree). c ++ reverse ts) (slice_get ([] ∷ []) n)) z
