-- The names of binder lists, one after the other.
use Rattle.std.proofs.Common.{◌≡◌, ◌<◌, ◌≤◌, ℕ, suc, ◌+◌, List, [], ◌∷◌, ◌++◌, map, length, get_or, drop, refl, ap, sym, ◌∙◌, arith, add-one, drop-cons, append_assoc, length-append}
use Rattle.std.proofs.lemmas.List.{map-append, length-map}
use Rattle.tla_tree.specs.declared.word.Written.{Written}
use Rattle.tla_tree.specs.declared.tree.Binder.{Binder}
use Rattle.tla_tree.specs.Tree.{Pattern, Each, Tuple, binders}
use Rattle.tla_tree.specs.View.{view, pattern_view, group_view}
use Rattle.tla_expand.specs.declared.binders.Bind.{Bind}
use Rattle.tla_scopes.specs.declared.arena.Entry.{Entry}
use Rattle.tla_scopes.specs.Bound as x
use Rattle.tla_scopes.specs.Meanings.{Scope, Argument}
use Rattle.tla_core.specs.declared.expression.Opening.{Opening}
use Rattle.tla_core.specs.Patterns.{items_in}
use Rattle.tla_scopes.specs.Bound.{bind_each, bind_entry, with_each, with_elements, with_items, openings}
use Rattle.tla_scopes.specs.Expand.{binds_of, expand}
use Rattle.tla_expand.specs.Private.Binders.{names_of, binds_in, opened_at, with_element, item_names}
use Rattle.tla_scopes.specs.Places.{Name}
use Rattle.tla_scopes.specs.Meanings.{with_name, bound_name}

pub bind_each_more : (ws : List Written) (s : Argument) (rest : List x.Bind) → bind_each ws s rest ≡ bind_each ws s [] ++ rest
bind_each_more [] s rest = refl
bind_each_more (w ∷ ws) s rest = ap (λ (y : List x.Bind). (x.named w.word, s) ∷ y) (bind_each_more ws s rest)

bind_entry_more : (w : Pattern) (s : Argument) (rest : List x.Bind) → bind_entry w s rest ≡ bind_entry w s [] ++ rest
bind_entry_more (Each ws) s rest = bind_each_more ws s rest
bind_entry_more (Tuple ws) s rest = refl

-- one element more
pub binds_snoc : (bs : List Bind) (b : Bind) (σ : Scope) → binds_in (bs ++ b ∷ []) σ ≡ binds_in bs σ ++ (names_of b.names, expand (view b.set.now) σ) ∷ []
binds_snoc bs b σ = map-append (λ (y : Bind). (names_of y.names, expand (view y.set.now) σ)) bs (b ∷ [])

pub one_name : (bs new : List Bind) (b : Bind) (ws : List Written) (i : ℕ) (w : Written) (σ : Scope) (s : Argument) (whole : List x.Bind)
    → new ≡ bs ++ b ∷ [] → i < length ws → w ≡ get_or ws i w → names_of b.names ≡ x.named w.word → expand (view b.set.now) σ ≡ s
    → binds_in bs σ ++ bind_each (drop i ws) s [] ≡ whole → binds_in new σ ++ bind_each (drop (i + 1) ws) s [] ≡ whole
one_name bs new b ws i w σ s whole n h g bw bs_ e =
    let p : drop i ws ≡ w ∷ drop (suc i) ws = drop-cons ws i w h ∙ ap (λ (y : Written). y ∷ drop (suc i) ws) (sym g) in
    let q : i + 1 ≡ suc i = add-one i in
    let m : binds_in (bs ++ b ∷ []) σ ≡ binds_in bs σ ++ (x.named w.word, s) ∷ [] = binds_snoc bs b σ ∙ rw (bw, bs_) refl in
    let e2 : binds_in bs σ ++ bind_each (w ∷ drop (suc i) ws) s [] ≡ whole = (rw p at e) in
    rw (n, m, q) (append_assoc (binds_in bs σ) ((x.named w.word, s) ∷ []) (bind_each (drop (suc i) ws) s []) ∙ e2)

pub one_group : (old new : List x.Bind) (gs : List Binder) (i : ℕ) (g : Binder) (w : Pattern) (σ : Scope) (whole : List x.Bind) → i < length gs → g ≡ get_or gs i g
    → w ≡ pattern_view g.pattern → new ≡ old ++ bind_entry w (expand (view g.set) σ) []
    → old ++ binds_of (binders (map group_view (drop i gs))) σ ≡ whole → new ++ binds_of (binders (map group_view (drop (i + 1) gs))) σ ≡ whole
one_group old new gs i g w σ whole h f m n e =
    let p : drop i gs ≡ g ∷ drop (suc i) gs = drop-cons gs i g h ∙ ap (λ (y : Binder). y ∷ drop (suc i) gs) (sym f) in
    let q : i + 1 ≡ suc i = add-one i in
    let v = pattern_view g.pattern in
    let rest = binds_of (binders (map group_view (drop (suc i) gs))) σ in
    let e2 : old ++ bind_entry v (expand (view g.set) σ) rest ≡ whole = (rw p at e) in
    rw (n, m, q) (append_assoc old (bind_entry v (expand (view g.set) σ) []) rest ∙ ap (λ (y : List x.Bind). old ++ y) (sym (bind_entry_more v (expand (view g.set) σ) rest)) ∙ e2)

-- one entry more
pub length_more : (es new : List Entry) (e : Entry) → new ≡ es ++ e ∷ [] → length new ≡ length es + 1
length_more es new e h = ap length h ∙ length-append es (e ∷ [])

-- the next of names that are numbered from one on
pub each_more : (ws : List Written) (i d : ℕ) (w : Written) (y : Name) (old new : Scope) → i < length ws → w ≡ get_or ws i w → y ≡ w.word → new ≡ with_name y (bound_name (d + i)) old
    → with_each (drop i ws) (d + i) old ≡ with_each (drop (i + 1) ws) (d + (i + 1)) new
each_more ws i d w y old new h g n e =
    let p : drop i ws ≡ w ∷ drop (suc i) ws = drop-cons ws i w h ∙ ap (λ (z : Written). z ∷ drop (suc i) ws) (sym g) in
    let q : i + 1 ≡ suc i = add-one i in
    let r : d + i + 1 ≡ d + suc i = omega arith in
    rw (p, q, e, n, ← r) refl

-- the next of elements that are bound one after the other
elements_next : (n : x.Names) (s : Argument) (bs : List x.Bind) (d c : ℕ) (σ : Scope) → d + 1 ≡ c → with_elements ((n, s) ∷ bs) d σ ≡ with_elements bs c (with_element n d σ)
elements_next (x.named y) s bs d c σ h = ap (λ (k : ℕ). with_elements bs k (with_name y (bound_name d) σ)) h
elements_next (x.tupled ws) s bs d c σ h = ap (λ (k : ℕ). with_elements bs k σ) h

pub element_step : (bs : List Bind) (i d : ℕ) (b : Bind) (σ old new : Scope) → i < length bs → b ≡ get_or bs i b → new ≡ with_element (names_of b.names) (d + i) old
    → with_elements (binds_in (drop i bs) σ) (d + i) old ≡ with_elements (binds_in (drop (i + 1) bs) σ) (d + (i + 1)) new
element_step bs i d b σ old new h g n =
    let p : drop i bs ≡ b ∷ drop (suc i) bs = drop-cons bs i b h ∙ ap (λ (z : Bind). z ∷ drop (suc i) bs) (sym g) in
    let q : i + 1 ≡ suc i = add-one i in
    let r : d + i + 1 ≡ d + suc i = omega arith in
    rw (p, q, n) (elements_next (names_of b.names) (expand (view b.set.now) σ) (binds_in (drop (suc i) bs) σ) (d + i) (d + suc i) old r)

-- the next of the names of items
items_next : (n : x.Names) (ws : List Written) (s : Argument) (bs : List x.Bind) (d : ℕ) (σ : Scope) → ws ≡ item_names n → with_items ((n, s) ∷ bs) d σ ≡ with_items bs (d + length ws) (with_each ws d σ)
items_next (x.named y) ws s bs d σ w =
    let l : length ws ≡ 0 = rw w refl in
    let z : d + length ws ≡ d = omega (arith, l) in
    rw (z, w) refl
items_next (x.tupled us) ws s bs d σ w = rw w refl

pub item_step : (bs : List Bind) (i d : ℕ) (b : Bind) (ws : List Written) (σ old new : Scope) → i < length bs → b ≡ get_or bs i b → ws ≡ item_names (names_of b.names) → with_each ws d old ≡ new
    → with_items (binds_in (drop i bs) σ) d old ≡ with_items (binds_in (drop (i + 1) bs) σ) (d + length ws) new
item_step bs i d b ws σ old new h g w e =
    let p : drop i bs ≡ b ∷ drop (suc i) bs = drop-cons bs i b h ∙ ap (λ (z : Bind). z ∷ drop (suc i) bs) (sym g) in
    let q : i + 1 ≡ suc i = add-one i in
    rw (p, q, ← e) (items_next (names_of b.names) ws (expand (view b.set.now) σ) (binds_in (drop (suc i) bs) σ) d old w)

pub binds_length : (bs : List Bind) (σ : Scope) → length (binds_in bs σ) ≡ length bs
binds_length bs σ = length-map bs (λ (y : Bind). (names_of y.names, expand (view y.set.now) σ))

-- how many items are left: the same for every number of the first element
items_same : (bs : List x.Bind) (c d : ℕ) → items_in (openings bs c) ≡ items_in (openings bs d)
items_same [] c d = refl
items_same ((x.named y, s) ∷ bs) c d = items_same bs (c + 1) (d + 1)
items_same ((x.tupled ws, s) ∷ bs) c d = ap (λ (n : ℕ). length ws + n) (items_same bs (c + 1) (d + 1))

left_next : (n : x.Names) (ws : List Written) (s : Argument) (bs : List x.Bind) (d : ℕ) → ws ≡ item_names n → items_in (openings ((n, s) ∷ bs) d) ≡ length ws + items_in (openings bs (d + 1))
left_next (x.named y) ws s bs d w =
    let l : length ws ≡ 0 = rw w refl in
    omega (arith, l)
left_next (x.tupled us) ws s bs d w = rw w refl

pub left_step : (bs : List Bind) (i n whole : ℕ) (b : Bind) (ws : List Written) (σ : Scope) (d : ℕ) → i < length bs → b ≡ get_or bs i b → ws ≡ item_names (names_of b.names)
    → n + items_in (openings (binds_in (drop i bs) σ) d) ≡ whole → n + length ws + items_in (openings (binds_in (drop (i + 1) bs) σ) d) ≡ whole
left_step bs i n whole b ws σ d h g w k =
    let p : drop i bs ≡ b ∷ drop (suc i) bs = drop-cons bs i b h ∙ ap (λ (z : Bind). z ∷ drop (suc i) bs) (sym g) in
    let q : i + 1 ≡ suc i = add-one i in
    let rest = binds_in (drop (suc i) bs) σ in
    let l : n + items_in (openings ((names_of b.names, expand (view b.set.now) σ) ∷ rest) d) ≡ whole = (rw p at k) in
    rw q (omega (arith, l, left_next (names_of b.names) ws (expand (view b.set.now) σ) rest d w, items_same rest d (d + 1)))

-- the next of the elements that are opened
openings_next : (n : x.Names) (s : Argument) (bs : List x.Bind) (d c : ℕ) → d + 1 ≡ c → openings ((n, s) ∷ bs) d ≡ opened_at n d ++ openings bs c
openings_next (x.named y) s bs d c h = ap (λ (k : ℕ). openings bs k) h
openings_next (x.tupled ws) s bs d c h = ap (λ (k : ℕ). x.opening d ws ∷ openings bs k) h

pub opening_step : (os new : List Opening) (bs : List Bind) (i d : ℕ) (b : Bind) (σ : Scope) (whole : List Opening) → i < length bs → b ≡ get_or bs i b → new ≡ os ++ opened_at (names_of b.names) (d + i)
    → os ++ openings (binds_in (drop i bs) σ) (d + i) ≡ whole → new ++ openings (binds_in (drop (i + 1) bs) σ) (d + (i + 1)) ≡ whole
opening_step os new bs i d b σ whole h g n e =
    let p : drop i bs ≡ b ∷ drop (suc i) bs = drop-cons bs i b h ∙ ap (λ (z : Bind). z ∷ drop (suc i) bs) (sym g) in
    let q : i + 1 ≡ suc i = add-one i in
    let r : d + i + 1 ≡ d + suc i = omega arith in
    let here = opened_at (names_of b.names) (d + i) in
    let rest = binds_in (drop (suc i) bs) σ in
    let e2 : os ++ openings ((names_of b.names, expand (view b.set.now) σ) ∷ rest) (d + i) ≡ whole = (rw p at e) in
    rw (n, q) (append_assoc os here (openings rest (d + suc i)) ∙ ap (λ (y : List Opening). os ++ y) (sym (openings_next (names_of b.names) (expand (view b.set.now) σ) rest (d + i) (d + suc i) r)) ∙ e2)
