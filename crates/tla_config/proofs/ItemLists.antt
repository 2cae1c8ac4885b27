-- Items, and a list of them, found item by item.
use Rattle.std.proofs.Common.{◌≡◌, ◌≤◌, ℕ, ◌+◌, true, false, List, [], ◌∷◌, ◌++◌, Some, ◌⊎◌, inl, inr, slice_get, refl, sym, ap, subst, ◌∙◌, append_assoc, arith}
use Rattle.tla_lex.specs.declared.token.Kind.TheVariants as k
use Rattle.tla_lex.specs.declared.token.Token.{Token}
use Rattle.tla_tree.specs.declared.word.Written.{Written}
use Rattle.tla_value.specs.IsValue.{IsValue}
use Rattle.tla_value.specs.Tree.{Tree, Trees, Pairs, truth, int, text, model, set, fun, no_trees, more_trees, no_pairs, more_pairs, trees, pairs, members, entries, depth, deepest, deepest_pair}
use Rattle.tla_config.specs.declared.refusal.Refusal.{Refusal}
use Rattle.tla_config.specs.declared.refusal.Refusal.TheVariants as refusal
use Rattle.tla_config.specs.Beyond.{IsWrittenBeyond}
use Rattle.tla_config.specs.Configuration.{Has, IsName, SpellsItem, Items}
use Rattle.tla_config.specs.Private.Fronts.{kind_at}
use Rattle.tla_config.specs.Private.Gives.{Because, Nowhere, Anything, Fails, Ends, GoesOn, LeftOutHere, TooLargeHere, ClearItem, LeftOutAfter, TooLargeAfter, ClearItems}
use Rattle.tla_config.specs.Refusals.{IsLeftOutItem, IsTooLargeItem, ItemsUpTo}
use Rattle.tla_config.specs.Private.GivesValues.{NoValue, NoItem, AreItems, NoItems, TooLargeValue, IsValueAt}
use Rattle.tla_config.specs.Private.LiteralEnds.{EndsAt, NoneEnds}
use Rattle.tla_config.specs.Literals.{value_of}
use Rattle.tla_config.specs.Statements.{Item, Value, Replaces}
use Rattle.tla_config.proofs.Arms.{because_map}
use Rattle.tla_config.proofs.Fronts.{one_name, kind_found, kind_none}
use Rattle.tla_config.proofs.Literals.{two_kinds, one_literal}
use Rattle.tla_config.proofs.NameLists.{Between, same_next, goes_on_ends}

trees-members : (ts : Trees) → trees (members ts) ≡ ts
trees-members no_trees = refl
trees-members (more_trees t ts) = ap (λ us. more_trees t us) (trees-members ts)

pairs-entries : (ps : Pairs) → pairs (entries ps) ≡ ps
pairs-entries no_pairs = refl
pairs-entries (more_pairs a v ps) = ap (λ qs. more_pairs a v qs) (pairs-entries ps)

-- a value is at most so deep
value_depth : (v : Tree) → IsValue v → depth v ≤ 64
value_depth (truth b) x = omega arith
value_depth (int z) x = omega arith
value_depth (text s) x = omega arith
value_depth (model s) x = omega arith
value_depth (set ts) x = let f = x.1.shallow in let e = ap (λ us. deepest us) (trees-members ts) in omega arith
value_depth (fun ps) x = let f = x.1.shallow in let e = ap (λ qs. deepest_pair qs) (pairs-entries ps) in omega arith

module _ (source : List ℕ) (ts : List Token) where
  arrow_equal : (at : ℕ) → Has source ts k.Equal at → Has source ts k.Substitute at → ⊥
  arrow_equal at x y = two_kinds source ts at k.Equal k.Substitute (λ e. let z : ⊥ = cc in z) x y

  one_item : (i j : Item) (at to end : ℕ) → SpellsItem source ts i at to → SpellsItem source ts j at end → (i ≡ j) × (to ≡ end)
  one_item (Value c v) (Value d u) at to end x y =
      let n = one_name source ts at c d x.0 y.0 in
      let e = one_literal source ts x.2.0 y.2.0 (at + 2) to end x.2.1 y.2.1 in
      let p : v ≡ u = sym x.2.2 ∙ ap (λ l. value_of l) e.0 ∙ y.2.2 in
      (λ i. Value (n i) (p i), e.1)
  one_item (Value c v) (Replaces d f) at to end x y = absurd (arrow_equal (at + 1) x.1 y.1)
  one_item (Replaces c f) (Value d u) at to end x y = absurd (arrow_equal (at + 1) y.1 x.1)
  one_item (Replaces c f) (Replaces d g) at to end x y =
      let n = one_name source ts at c d x.0 y.0 in
      let m = one_name source ts (at + 2) f g x.2 y.2 in
      (λ i. Replaces (n i) (m i), x.3 ∙ sym y.3)

  abbrev constant_of : Item → Written
  constant_of (Value c v) = c
  constant_of (Replaces c f) = c

  item_name : (i : Item) (at to : ℕ) → SpellsItem source ts i at to → IsName source ts (constant_of i) at
  item_name (Value c v) at to x = x.0
  item_name (Replaces c f) at to x = x.0

  pub no_value_item : (at : ℕ) → kind_at k.Equal (slice_get ts (at + 1)) ≡ true → NoValue source ts 64 (at + 2) → NoItem source ts at
  no_value_item at e f (Value c v) to x =
      let y : IsValue (value_of x.2.0) = subst (λ u. IsValue u) (sym x.2.2) x.3 in
      f x.2.0 to x.2.1 y (value_depth (value_of x.2.0) y)
  no_value_item at e f (Replaces c g) to x = arrow_equal (at + 1) (kind_found k.Equal (slice_get ts (at + 1)) e) x.1

  pub no_operator_item : (at : ℕ) → kind_at k.Substitute (slice_get ts (at + 1)) ≡ true → ((w : Written) → IsName source ts w (at + 2) → ⊥) → NoItem source ts at
  no_operator_item at e f (Value c v) to x = arrow_equal (at + 1) x.1 (kind_found k.Substitute (slice_get ts (at + 1)) e)
  no_operator_item at e f (Replaces c o) to x = f o x.2

  pub bracket_item : (at : ℕ) → kind_at k.Substitute (slice_get ts (at + 1)) ≡ true → kind_at k.LeftBracket (slice_get ts (at + 2)) ≡ true → NoItem source ts at
  bracket_item at e b =
      let x = kind_found k.LeftBracket (slice_get ts (at + 2)) b in
      let none : (w : Written) → IsName source ts w (at + 2) → ⊥ = λ w n. two_kinds source ts (at + 2) k.LeftBracket k.Name (λ h. let z : ⊥ = cc in z) x (n.0.0, n.0.1, n.0.2) in
      no_operator_item at e none

  pub bracket_left_out : (at : ℕ) (w : Written) → IsName source ts w at → kind_at k.Substitute (slice_get ts (at + 1)) ≡ true → kind_at k.LeftBracket (slice_get ts (at + 2)) ≡ true → IsLeftOutItem source ts at
  bracket_left_out at w n e b = ((w, n), kind_found k.Substitute (slice_get ts (at + 1)) e, kind_found k.LeftBracket (slice_get ts (at + 2)) b)

  -- nothing is left out in the item, nor too large
  clear_item : (at : ℕ) → (Has source ts k.Substitute (at + 1) → Has source ts k.LeftBracket (at + 2) → ⊥) → (Has source ts k.Equal (at + 1) → IsWrittenBeyond source ts (at + 2) → ⊥) → ClearItem source ts at
  clear_item at f g = record { no_left = λ n x. f x.0.1 x.0.2; no_large = λ n x. g x.0.1 x.0.2 }

  -- no name begins it
  pub name_because : (r : Refusal) (at : ℕ) → Fails source ts r ((w : Written) → IsName source ts w at → ⊥) → Because r Nowhere Nowhere Anything
      → Because r (LeftOutHere source ts at) (TooLargeHere source ts at) (ClearItem source ts at)
  name_because (refusal.Unexpected n) at f x = record { no_left = λ m y. f y.0.0.0 y.0.0.1; no_large = λ m y. f y.0.0.0 y.0.0.1 }
  name_because (refusal.LeftOut n) at f x = absurd x
  name_because (refusal.TooLarge n) at f x = absurd x
  name_because refusal.NoMemory at f x = tt

  -- it has a value
  pub value_clear : (at : ℕ) → kind_at k.Equal (slice_get ts (at + 1)) ≡ true → (IsWrittenBeyond source ts (at + 2) → ⊥) → ClearItem source ts at
  value_clear at e f = clear_item at (λ x y. arrow_equal (at + 1) (kind_found k.Equal (slice_get ts (at + 1)) e) x) (λ x. f)

  pub value_because : (r : Refusal) (at : ℕ) (w : Written) → IsName source ts w at → kind_at k.Equal (slice_get ts (at + 1)) ≡ true → Because r Nowhere (TooLargeValue source ts at) (NoneEnds source ts (at + 2))
      → Because r (LeftOutHere source ts at) (TooLargeHere source ts at) (ClearItem source ts at)
  value_because r at w n e x = because_map r Nowhere (TooLargeValue source ts at) (LeftOutHere source ts at) (TooLargeHere source ts at) (NoneEnds source ts (at + 2)) (ClearItem source ts at)
      (λ m y. absurd y) (λ m y. (((w, n), kind_found k.Equal (slice_get ts (at + 1)) e, y.1), y.0)) (λ y. value_clear at e (λ b. y b.0 b.1 b.2)) x

  -- what is written whole, where no value is within the limits, is beyond them
  pub written_beyond : (at to : ℕ) → NoValue source ts 64 at → EndsAt source ts at to → IsWrittenBeyond source ts at
  written_beyond at to f x = (x.0, to, x.1, λ y. f x.0 to x.1 y (value_depth (value_of x.0) y))

  -- a value that is within them isn't beyond them
  pub within_limits : (at to : ℕ) (v : Tree) → IsValueAt source ts v at to → IsWrittenBeyond source ts at → ⊥
  within_limits at to v found b =
      let e = one_literal source ts b.0 found.literal at b.1 to b.2 found.spelled in
      b.3 (subst (λ u. IsValue u) (sym (ap (λ l. value_of l) e.0 ∙ found.meaning)) found.is_value)

  -- it has neither a value nor an operator
  pub neither_clear : (at : ℕ) → kind_at k.Equal (slice_get ts (at + 1)) ≡ false → kind_at k.Substitute (slice_get ts (at + 1)) ≡ false → ClearItem source ts at
  neither_clear at e s = clear_item at (λ x y. kind_none source ts k.Substitute (at + 1) refl s x) (λ x y. kind_none source ts k.Equal (at + 1) refl e x)

  -- it has no value, nor a replacement in another module
  pub operator_clear : (at : ℕ) → kind_at k.Equal (slice_get ts (at + 1)) ≡ false → kind_at k.LeftBracket (slice_get ts (at + 2)) ≡ false → ClearItem source ts at
  operator_clear at e b = clear_item at (λ x y. kind_none source ts k.LeftBracket (at + 2) refl b y) (λ x y. kind_none source ts k.Equal (at + 1) refl e x)

  pub operator_because : (r : Refusal) (at : ℕ) → ClearItem source ts at → Because r Nowhere Nowhere Anything → Because r (LeftOutHere source ts at) (TooLargeHere source ts at) (ClearItem source ts at)
  operator_because r at f x = because_map r Nowhere Nowhere (LeftOutHere source ts at) (TooLargeHere source ts at) Anything (ClearItem source ts at) (λ n y. absurd y) (λ n y. absurd y) (λ y. f) x

  -- after items from here on something is left out, or too large
  abbrev HasCause : ℕ → Type 0
  HasCause at = IsLeftOutItem source ts at ⊎ IsTooLargeItem source ts at

  abbrev pub Reaches : ℕ → Type 0
  Reaches at = (is : List Item) × (m : ℕ) × ItemsUpTo source ts is at m × HasCause m

  cause_name : (at : ℕ) → HasCause at → (w : Written) × IsName source ts w at
  cause_name at (inl x) = (x.0.0, x.0.1)
  cause_name at (inr x) = (x.0.0, x.0.1)

  reaches_name : (is : List Item) (at m : ℕ) → ItemsUpTo source ts is at m → HasCause m → (w : Written) × IsName source ts w at
  reaches_name [] at m x h = cause_name at (subst (λ n. HasCause n) (sym x) h)
  reaches_name (i ∷ is) at m x h = (constant_of i, item_name i at x.0 x.1)

  none_here : (at : ℕ) → ClearItem source ts at → HasCause at → ⊥
  none_here at clear (inl x) = clear.no_left (at + 2) (x, refl)
  none_here at clear (inr x) = clear.no_large at (x, refl)

  next_reaches : (i : Item) (at end : ℕ) → SpellsItem source ts i at end → ClearItem source ts at → (is : List Item) (m : ℕ) → ItemsUpTo source ts is at m → HasCause m
      → (next : ℕ) × Between source ts end next × Reaches next
  next_reaches i at end n clear [] m x h = absurd (none_here at clear (subst (λ q. HasCause q) (sym x) h))
  next_reaches i at end n clear (j ∷ is) m x h =
      let o = one_item j i at x.0 end x.1 n in
      (x.2, subst (λ y. Between source ts y x.2) o.1 x.3, (is, m, x.4, h))

  reaches_more : (i : Item) (at end next : ℕ) → SpellsItem source ts i at end → ClearItem source ts at → GoesOn source ts end (Some next) → Reaches at → Reaches next
  reaches_more i at end next n clear g r =
      let o = next_reaches i at end n clear r.0 r.1 r.2 r.3 in
      let w = reaches_name o.2.0 o.0 o.2.1 o.2.2 o.2.3 in
      subst (λ q. Reaches q) (same_next source ts w.0 end next o.0 g o.1 w.1) o.2

  ends_there : (w : Written) (end next : ℕ) → Ends source ts end → IsName source ts w next → Between source ts end next → ⊥
  ends_there w end next e n (inl d) = e.no_name w (subst (λ q. IsName source ts w q) d n)
  ends_there w end next e n (inr d) = e.no_comma d.0

  reaches_last : (i : Item) (at end : ℕ) → SpellsItem source ts i at end → ClearItem source ts at → Ends source ts end → Reaches at → ⊥
  reaches_last i at end n clear e r =
      let o = next_reaches i at end n clear r.0 r.1 r.2 r.3 in
      let w = reaches_name o.2.0 o.0 o.2.1 o.2.2 o.2.3 in
      ends_there w.0 end o.0 e w.1 o.1

  none_reaches : (at : ℕ) → NoItem source ts at → ClearItem source ts at → (is : List Item) (m : ℕ) → ItemsUpTo source ts is at m → HasCause m → ⊥
  none_reaches at fails clear [] m x h = none_here at clear (subst (λ q. HasCause q) (sym x) h)
  none_reaches at fails clear (i ∷ is) m x h = fails i x.0 x.1

  -- so it is after each of the items
  abbrev pub Onward : ℕ → ℕ → Type 0
  Onward from at = Reaches from → Reaches at

  clear_items : (from : ℕ) → (Reaches from → ⊥) → ClearItems source ts from
  clear_items from f = record { no_left = λ n x. f (x.1.0, x.0, x.1.1, inl x.2); no_large = λ n x. f (x.0.0, n, x.0.1, inr x.1) }

  pub onward_more : (i : Item) (from at end next : ℕ) → Onward from at → SpellsItem source ts i at end → ClearItem source ts at → GoesOn source ts end (Some next) → Onward from next
  onward_more i from at end next on n clear g r = reaches_more i at end next n clear g (on r)

  pub onward_last : (i : Item) (from at end : ℕ) → Onward from at → SpellsItem source ts i at end → ClearItem source ts at → Ends source ts end → ClearItems source ts from
  onward_last i from at end on n clear e = clear_items from (λ r. reaches_last i at end n clear e (on r))

  -- these items stand between two tokens: whatever items begin at the second, they and these stand from the first,
  -- and no others do
  pub record ItemsSoFar (front : List Item) (from at : ℕ) : Type 0 where
    pub whole : (i : Item) (is : List Item) (to : ℕ) → Items source ts (i ∷ is) at to → Items source ts (front ++ i ∷ is) from to
    pub rest : (is : List Item) (to : ℕ) → Items source ts is from to → Ends source ts to → (js : List Item) × (is ≡ front ++ js) × Items source ts js at to
    pub before : ItemsUpTo source ts front from at

  pub items_none : (from : ℕ) → ItemsSoFar [] from from
  items_none from = record { whole = λ i is to x. x; rest = λ is to x e. (is, refl, x); before = refl }

  items_head : (i : Item) (is : List Item) (at to : ℕ) → Items source ts (i ∷ is) at to → IsName source ts (constant_of i) at
  items_head i [] at to x = item_name i at to x
  items_head i (j ∷ js) at to x = item_name i at x.0 x.1

  between : (end next : ℕ) → GoesOn source ts end (Some next) → Between source ts end next
  between end next (inl c) = inr c
  between end next (inr v) = inl v.1

  before_more : (front : List Item) (from at end next : ℕ) (i : Item) → ItemsUpTo source ts front from at → SpellsItem source ts i at end → GoesOn source ts end (Some next)
      → ItemsUpTo source ts (front ++ i ∷ []) from next
  before_more [] from at end next i x n g = (end, subst (λ m. SpellsItem source ts i m end) (sym x) n, next, between end next g, refl)
  before_more (j ∷ front) from at end next i x n g = (x.0, x.1, x.2, x.3, before_more front x.2 at end next i x.4 n g)

  more_rest : (i : Item) (js : List Item) (at end next to : ℕ) → SpellsItem source ts i at end → GoesOn source ts end (Some next) → Items source ts js at to → Ends source ts to
      → (ms : List Item) × (js ≡ i ∷ ms) × Items source ts ms next to
  more_rest i [] at end next to n g x e = absurd x
  more_rest i (j ∷ []) at end next to n g x e =
      let o = one_item j i at to end x n in
      absurd (goes_on_ends source ts end next g (subst (λ m. Ends source ts m) o.1 e))
  more_rest i (j ∷ m ∷ ms) at end next to n g x e =
      let o = one_item j i at x.0 end x.1 n in
      let b = subst (λ y. Between source ts y x.2) o.1 x.3 in
      let h : x.2 ≡ next = same_next source ts (constant_of m) end next x.2 g b (items_head m ms x.2 to x.4) in
      (m ∷ ms, ap (λ y. y ∷ m ∷ ms) o.0, subst (λ y. Items source ts (m ∷ ms) y to) h x.4)

  no_more : (j : Item) (js : List Item) (end at to : ℕ) → Ends source ts end → Between source ts end at → Items source ts (j ∷ js) at to → ⊥
  no_more j js end at to e (inl d) x = e.no_name (constant_of j) (subst (λ m. IsName source ts (constant_of j) m) d (items_head j js at to x))
  no_more j js end at to e (inr d) x = e.no_comma d.0

  last_rest : (i : Item) (js : List Item) (at end to : ℕ) → SpellsItem source ts i at end → Ends source ts end → Items source ts js at to → (js ≡ i ∷ []) × (to ≡ end)
  last_rest i [] at end to n e x = absurd x
  last_rest i (j ∷ []) at end to n e x = let o = one_item j i at to end x n in (ap (λ y. y ∷ []) o.0, o.1)
  last_rest i (j ∷ m ∷ ms) at end to n e x =
      let o = one_item j i at x.0 end x.1 n in
      absurd (no_more m ms end x.2 to e (subst (λ y. Between source ts y x.2) o.1 x.3) x.4)

  none_rest : (js : List Item) (at to : ℕ) → NoItem source ts at → Items source ts js at to → ⊥
  none_rest [] at to fails x = x
  none_rest (j ∷ []) at to fails x = fails j to x
  none_rest (j ∷ m ∷ ms) at to fails x = fails j x.0 x.1

  pub items_more : (front : List Item) (from at end next : ℕ) (i : Item) → ItemsSoFar front from at → SpellsItem source ts i at end → GoesOn source ts end (Some next)
      → ItemsSoFar (front ++ i ∷ []) from next
  items_more front from at end next i so n g = record {
    whole = λ j js to x. rw append_assoc (so.whole i (j ∷ js) to (end, n, next, between end next g, x));
    rest = λ is to x e.
        let r = so.rest is to x e in
        let m = more_rest i r.0 at end next to n g r.2 e in
        (m.0, r.1 ∙ ap (λ y. front ++ y) m.1 ∙ sym (append_assoc front (i ∷ []) m.0), m.2);
    before = before_more front from at end next i so.before n g;
  }

  pub items_last : (front : List Item) (from at end : ℕ) (i : Item) → ItemsSoFar front from at → SpellsItem source ts i at end → Ends source ts end
      → AreItems source ts (front ++ i ∷ []) from end
  items_last front from at end i so n e = record {
    spelled = so.whole i [] end n;
    only = λ js to x f.
        let r = so.rest js to x f in
        let m = last_rest i r.0 at end to n e r.2 in
        (r.1 ∙ ap (λ y. front ++ y) m.0, m.1);
  }

  pub items_fail : (front : List Item) (from at : ℕ) → ItemsSoFar front from at → NoItem source ts at → NoItems source ts from
  items_fail front from at so fails = λ is to x e. let r = so.rest is to x e in none_rest r.0 at to fails r.2

  pub items_because : (r : Refusal) (front : List Item) (from at : ℕ) → ItemsSoFar front from at → Onward from at → Fails source ts r (NoItem source ts at)
      → Because r (LeftOutHere source ts at) (TooLargeHere source ts at) (ClearItem source ts at) → Because r (LeftOutAfter source ts from) (TooLargeAfter source ts from) (ClearItems source ts from)
  items_because (refusal.Unexpected n) front from at so on fails x = clear_items from (λ r. let o = on r in none_reaches at fails x o.0 o.1 o.2 o.3)
  items_because (refusal.LeftOut n) front from at so on fails x = (at, (front, so.before), x.0, x.1)
  items_because (refusal.TooLarge n) front from at so on fails x = subst (λ m. TooLargeAfter source ts from m) (sym x.1) ((front, so.before), x.0)
  items_because refusal.NoMemory front from at so on fails x = tt
