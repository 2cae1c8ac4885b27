-- An odometer goes over all choices in their order.
use Rattle.std.proofs.Common.{◌≡◌, ℕ, zero, suc, ◌<◌, Bool, true, false, cond, not, List, [], ◌∷◌, ◌++◌, map, drop, length, get_or, set as list_set, Bor, Option, Some, None, refl, sym, ap, subst, ◌∙◌, arith}
use Rattle.std.specs.List.{flat_map}
use Rattle.std.proofs.lemmas.List.{nil_from_length, length-map, map-set, drop-map, get_or-map}
use Rattle.tla_value.specs.Tree.{Tree, truth}
use Rattle.tla_value.specs.TreeOf.{tree_of}
use Rattle.tla_value.specs.declared.value.Value.{Value}
use Rattle.tla_value.specs.Choices.{choices}
use Rattle.tla_eval.specs.declared.odometer.Wheel.{Wheel}
use Rattle.tla_eval.specs.Private.Wheels.{WheelTree, wheel_tree, wheel_trees, AreFull, heads, lists_in, left_by, left_in, turned_back, turned_by, turned_one, turned_from, next_wheels}

-- ---- the first choice
lists_back : (ws : List WheelTree) → lists_in (turned_back ws) ≡ lists_in ws
lists_back [] = refl
lists_back (w ∷ ws) = ap (λ ls. w.1 ∷ ls) (lists_back ws)

left_whole : (xs : List Tree) (ls : List (List Tree)) → left_by xs (choices ls) ls ≡ choices (xs ∷ ls)
left_whole [] ls = refl
left_whole (x ∷ xs) ls = refl

left_back : (ws : List WheelTree) → left_in (turned_back ws) ≡ choices (lists_in ws)
left_back [] = refl
left_back (w ∷ ws) =
    ap (λ cs. left_by w.1 cs (lists_in (turned_back ws))) (left_back ws)
    ∙ ap (λ ls. left_by w.1 (choices (lists_in ws)) ls) (lists_back ws)
    ∙ left_whole w.1 (lists_in ws)

head_by : (xs : List Tree) (cs ls : List (List Tree)) (c : List Tree) → 0 < length xs → cs ≡ c ∷ drop 1 cs → left_by xs cs ls ≡ (get_or xs 0 (truth false) ∷ c) ∷ drop 1 (left_by xs cs ls)
head_by [] cs ls c h e = absurd (omega arith)
head_by (x ∷ xs) cs ls c h e =
    let k : left_by (x ∷ xs) cs ls ≡ (x ∷ c) ∷ map (λ d. x ∷ d) (drop 1 cs) ++ choices (xs ∷ ls) = ap (λ us. map (λ d. x ∷ d) us ++ choices (xs ∷ ls)) e in
    k ∙ ap (λ us. (x ∷ c) ∷ us) (sym (ap (λ us. drop 1 us) k))

pub first_choice : (ws : List WheelTree) → AreFull ws → left_in ws ≡ heads ws ∷ drop 1 (left_in ws)
first_choice [] h = refl
first_choice (w ∷ ws) h = head_by w.0 (left_in ws) (lists_in ws) (heads ws) h.0 (first_choice ws h.2)

-- ---- the wheels of the next choice
abbrev TurnsTo : List WheelTree → Option (List WheelTree) → Type 0
TurnsTo ws (Some us) = (left_in us ≡ drop 1 (left_in ws)) × (lists_in us ≡ lists_in ws) × AreFull us
TurnsTo ws None = drop 1 (left_in ws) ≡ []

full_back : (ws : List WheelTree) → AreFull ws → AreFull (turned_back ws)
full_back [] h = tt
full_back (w ∷ ws) h = (h.1, h.1, full_back ws h.2)

-- a wheel before those that turn keeps its place
pass_by : (xs : List Tree) (cs ds ls : List (List Tree)) → 0 < length xs → (c : List Tree) → cs ≡ c ∷ ds → left_by xs ds ls ≡ drop 1 (left_by xs cs ls)
pass_by [] cs ds ls h c e = absurd (omega arith)
pass_by (x ∷ xs) cs ds ls h c e = sym (ap (λ us. drop 1 (map (λ d. x ∷ d) us ++ choices (xs ∷ ls))) e)

-- the wheel that turns, where those after it are at their last member
turn_one : (xs : List Tree) (cs ls : List (List Tree)) (c : List Tree) → 0 < length xs → cs ≡ c ∷ [] → choices (drop 1 xs ∷ ls) ≡ drop 1 (left_by xs cs ls)
turn_one [] cs ls c h e = absurd (omega arith)
turn_one (x ∷ xs) cs ls c h e = sym (ap (λ us. drop 1 (map (λ d. x ∷ d) us ++ choices (xs ∷ ls))) e)

one_left : (ws : List WheelTree) → AreFull ws → drop 1 (left_in ws) ≡ [] → left_in ws ≡ heads ws ∷ []
one_left ws h e = first_choice ws h ∙ ap (λ us. heads ws ∷ us) e

pub turns : (ws : List WheelTree) → AreFull ws → TurnsTo ws (next_wheels ws)
turns [] h = refl
turns (w ∷ ws) h = go (next_wheels ws) (turns ws h.2)
  where
    go : (o : Option (List WheelTree)) → TurnsTo ws o → TurnsTo (w ∷ ws) (turned_by w ws o)
    go (Some us) e = (
      ap (λ ls. left_by w.0 (left_in us) ls) e.1
          ∙ ap (λ cs. left_by w.0 cs (lists_in ws)) e.0
          ∙ pass_by w.0 (left_in ws) (drop 1 (left_in ws)) (lists_in ws) h.0 (heads ws) (first_choice ws h.2),
      ap (λ ls. w.1 ∷ ls) e.1,
      (h.0, h.1, e.2),
    )
    go None e = by_rest (drop 1 w.0) refl
      where
        on : choices (drop 1 w.0 ∷ lists_in ws) ≡ drop 1 (left_in (w ∷ ws))
        on = turn_one w.0 (left_in ws) (lists_in ws) (heads ws) h.0 (one_left ws h.2 e)

        by_rest : (r : List Tree) → drop 1 w.0 ≡ r → TurnsTo (w ∷ ws) (turned_one w.1 r ws)
        by_rest [] k = sym on ∙ ap (λ us. choices (us ∷ lists_in ws)) k
        by_rest (y ∷ ys) k = (
          ap (λ cs. left_by (y ∷ ys) cs (lists_in (turned_back ws))) (left_back ws)
              ∙ ap (λ ls. left_by (y ∷ ys) (choices (lists_in ws)) ls) (lists_back ws)
              ∙ ap (λ us. choices (us ∷ lists_in ws)) (sym k)
              ∙ on,
          ap (λ ls. w.1 ∷ ls) (lists_back ws),
          (omega arith, h.1, full_back ws h.2),
        )

-- ---- one choice taken
module _ (ws us : List WheelTree) (full : AreFull ws) where
  pub turned_full : (moved : Bool) → (moved ≡ true → next_wheels ws ≡ Some us) → not moved ≡ false → AreFull us
  turned_full true h e = (subst (TurnsTo ws) (h refl) (turns ws full)).2
  turned_full false h e = absurd (true_false e)
    where
      true_false : true ≡ false → ⊥
      true_false k = cc

  pub turned_left : (moved : Bool) → (moved ≡ true → next_wheels ws ≡ Some us) → (moved ≡ false → next_wheels ws ≡ None) → cond (not moved) [] (left_in us) ≡ drop 1 (left_in ws)
  turned_left true h n = (subst (TurnsTo ws) (h refl) (turns ws full)).0
  turned_left false h n = sym (subst (TurnsTo ws) (n refl) (turns ws full))

-- ---- turning them one after the other, from the last
pub none_turned : (ws : List WheelTree) → turned_from (length ws) ws ≡ ws
none_turned [] = refl
none_turned (w ∷ ws) = ap (λ us. w ∷ us) (none_turned ws)

pub at_wheel : (i : ℕ) (ws : List WheelTree) (d : WheelTree) → i < length ws → get_or (turned_from (suc i) ws) i d ≡ get_or ws i d
at_wheel i [] d h = absurd (omega arith)
at_wheel zero (w ∷ ws) d h = refl
at_wheel (suc i) (w ∷ ws) d h = at_wheel i ws d (omega arith)

one_turned : (l r : List Tree) (ws : List WheelTree) → 0 < length r → turned_one l r ws ≡ Some ((r, l) ∷ turned_back ws)
one_turned l [] ws h = absurd (omega arith)
one_turned l (x ∷ r) ws h = refl

module _ (d : WheelTree) where
  pub turned_on : (i : ℕ) (ws : List WheelTree) → i < length ws → next_wheels (drop (suc i) ws) ≡ None → 0 < length (drop 1 (get_or ws i d).0)
      → next_wheels ws ≡ Some (list_set (turned_from (suc i) ws) i (drop 1 (get_or ws i d).0, (get_or ws i d).1))
  turned_on i [] h none l = absurd (omega arith)
  turned_on zero (w ∷ ws) h none l = ap (λ o. turned_by w ws o) none ∙ one_turned w.1 (drop 1 w.0) ws l
  turned_on (suc i) (w ∷ ws) h none l = ap (λ o. turned_by w ws o) (turned_on i ws (omega arith) none l)

  pub still_none : (i : ℕ) (ws : List WheelTree) → i < length ws → next_wheels (drop (suc i) ws) ≡ None → drop 1 (get_or ws i d).0 ≡ [] → next_wheels (drop i ws) ≡ None
  still_none i [] h none l = absurd (omega arith)
  still_none zero (w ∷ ws) h none l = ap (λ o. turned_by w ws o) none ∙ ap (λ us. turned_one w.1 us ws) l
  still_none (suc i) (w ∷ ws) h none l = still_none i ws (omega arith) none l

  pub one_back : (i : ℕ) (ws : List WheelTree) → i < length ws → list_set (turned_from (suc i) ws) i ((get_or ws i d).1, (get_or ws i d).1) ≡ turned_from i ws
  one_back i [] h = absurd (omega arith)
  one_back zero (w ∷ ws) h = refl
  one_back (suc i) (w ∷ ws) h = ap (λ us. w ∷ us) (one_back i ws (omega arith))

-- ---- the same of the wheels themselves
drop_first : (xs ys : List Value) → ys ≡ drop 1 xs → map tree_of ys ≡ drop 1 (map tree_of xs)
drop_first xs ys e = ap (map tree_of) e ∙ sym (drop-map tree_of 1 xs)

module _ (i : ℕ) (ws : List WheelTree) (items : List Wheel) (r : Wheel) (below : i < length ws) (now : wheel_trees items ≡ turned_from (suc i) ws) (there : i < length items) (is : r ≡ get_or items i r) (none : next_wheels (drop (suc i) ws) ≡ None) (rest : Bor (List Value)) (first : rest.now ≡ drop 1 r.rest.now) where
  wheel_at : get_or ws i (wheel_tree r) ≡ wheel_tree r
  wheel_at =
      sym (at_wheel i ws (wheel_tree r) below)
      ∙ ap (λ us. get_or us i (wheel_tree r)) (sym now)
      ∙ get_or-map wheel_tree items i r (wheel_tree r) there
      ∙ sym (ap wheel_tree is)

  others : drop 1 (get_or ws i (wheel_tree r)).0 ≡ map tree_of rest.now
  others = ap (λ (w : WheelTree). drop 1 w.0) wheel_at ∙ sym (drop_first r.rest.now rest.now first)

  pub wheel_on : 0 < length rest.now → next_wheels ws ≡ Some (wheel_trees (list_set items i (record { list = r.list; rest = rest })))
  wheel_on more =
      let long : 0 < length (map tree_of rest.now) = subst (λ n. 0 < n) (sym (length-map rest.now tree_of)) more in
      turned_on (wheel_tree r) i ws below none (subst (λ (us : List Tree). 0 < length us) (sym others) long)
      ∙ ap (λ (us : List WheelTree). Some (list_set us i (drop 1 (get_or ws i (wheel_tree r)).0, (get_or ws i (wheel_tree r)).1))) (sym now)
      ∙ (λ j. Some (list_set (wheel_trees items) i (others j, (wheel_at j).1)))
      ∙ ap (λ (us : List WheelTree). Some us) (sym (map-set wheel_tree items i (record { list = r.list; rest = rest })))

  pub wheel_back : length rest.now ≡ 0 → (wheel_trees (list_set items i (record { list = r.list; rest = r.list })) ≡ turned_from i ws) × (next_wheels (drop i ws) ≡ None)
  wheel_back e = (
    map-set wheel_tree items i (record { list = r.list; rest = r.list })
        ∙ ap (λ (us : List WheelTree). list_set us i (map tree_of r.list.now, map tree_of r.list.now)) now
        ∙ ap (λ (w : WheelTree). list_set (turned_from (suc i) ws) i (w.1, w.1)) (sym wheel_at)
        ∙ one_back (wheel_tree r) i ws below,
    still_none (wheel_tree r) i ws below none (others ∙ ap (map tree_of) (nil_from_length rest.now e)),
  )

-- ---- the wheels that are made of some lists
lists_made : (lists : List (Bor (List Value))) → lists_in (map (λ (r : Bor (List Value)). (map tree_of r.now, map tree_of r.now)) lists) ≡ map (λ (r : Bor (List Value)). map tree_of r.now) lists
lists_made [] = refl
lists_made (l ∷ ls) = ap (λ us. map tree_of l.now ∷ us) (lists_made ls)

pub left_made : (lists : List (Bor (List Value))) → left_in (map (λ (r : Bor (List Value)). (map tree_of r.now, map tree_of r.now)) lists) ≡ choices (map (λ (r : Bor (List Value)). map tree_of r.now) lists)
left_made [] = refl
left_made (l ∷ ls) =
    ap (λ cs. left_by (map tree_of l.now) cs (lists_in (map (λ (r : Bor (List Value)). (map tree_of r.now, map tree_of r.now)) ls))) (left_made ls)
    ∙ ap (λ us. left_by (map tree_of l.now) (choices (map (λ (r : Bor (List Value)). map tree_of r.now) ls)) us) (lists_made ls)
    ∙ left_whole (map tree_of l.now) (map (λ (r : Bor (List Value)). map tree_of r.now) ls)

pub full_more : (ws : List WheelTree) (w : WheelTree) → AreFull ws → 0 < length w.0 → 0 < length w.1 → AreFull (ws ++ w ∷ [])
full_more [] w h a b = (a, b, tt)
full_more (v ∷ ws) w h a b = (h.0, h.1, full_more ws w h.2 a b)

pub full_at : (ws : List WheelTree) (i : ℕ) (d : WheelTree) → AreFull ws → i < length ws → 0 < length (get_or ws i d).0
full_at [] i d h l = absurd (omega arith)
full_at (w ∷ ws) zero d h l = h.0
full_at (w ∷ ws) (suc i) d h l = full_at ws i d h.2 (omega arith)

-- there is no choice where one of the lists is empty
none_in : (xs : List Tree) → flat_map (λ x. map (λ c. x ∷ c) []) xs ≡ []
none_in [] = refl
none_in (x ∷ xs) = none_in xs

pub no_choice : (lists : List (List Tree)) (i : ℕ) (d : List Tree) → i < length lists → get_or lists i d ≡ [] → choices lists ≡ []
no_choice [] i d h e = absurd (omega arith)
no_choice (xs ∷ lists) zero d h e = ap (λ us. choices (us ∷ lists)) e
no_choice (xs ∷ lists) (suc i) d h e = ap (λ cs. flat_map (λ x. map (λ c. x ∷ c) cs) xs) (no_choice lists i d (omega arith) e) ∙ none_in xs
