-- A walk over the parts of a nested tuple, step by step.
use Rattle.std.proofs.Common.{◌≡◌, ◌≤◌, ◌<◌, ◌+◌, ◌⊎◌, inl, inr, ℕ, zero, suc, Bool, true, false, List, [], ◌∷◌, ◌++◌, map, length, get_or, take, append_assoc, refl, sym, ap, ◌∙◌, arith, Bor, Vec, Global, Option, Some, None}
use Rattle.std.specs.Prelude.{nat_eq, ◌&&◌}
use Rattle.std.proofs.lemmas.Bool.{eqb-true, eqb-false, eq-eqb}
use Rattle.std.proofs.lemmas.List.{map-append, take_more}
use Rattle.indexmap.specs.IndexSet.{insert_key}
use Rattle.tla_core.specs.declared.fault.Place.{Place}
use Rattle.tla_core.specs.Expr.{Expr, Exprs, now, tuple, more_exprs}
use Rattle.tla_tree.specs.declared.tree.Expr as syntax
use Rattle.tla_tree.specs.Tree.{Tree, trees}
use Rattle.tla_tree.specs.View.{view}
use Rattle.tla_scopes.specs.declared.arena.Entry.{Entry}
use Rattle.tla_expand.specs.declared.cover.PrimedEntry.{PrimedEntry}
use Rattle.tla_expand.specs.declared.cover.Visit.{Visit}
use Rattle.tla_expand.specs.declared.cover.Visit.TheVariants.{Part, End}
use Rattle.tla_expand.specs.declared.cover.Piece.TheVariants as piece
use Rattle.tla_scopes.specs.declared.nodes.Form.{Form}
use Rattle.tla_scopes.specs.declared.nodes.Form.TheVariants as form
use Rattle.tla_scopes.specs.declared.nodes.ListNode.TheVariants as manies
use Rattle.tla_scopes.specs.declared.primes.Primes.{Primes}
use Rattle.tla_scopes.specs.declared.primes.Primes.TheVariants.{Never, Once, Twice}
use Rattle.tla_expand.specs.Covers.{is_names, has_name, are_names, have_name, has_all, covers}
use Rattle.tla_scopes.specs.Expand.{expand, expand_each}
use Rattle.tla_scopes.specs.Lists.{exprs}
use Rattle.tla_scopes.specs.Maybe.{◌>>=◌, each_of}
use Rattle.tla_scopes.specs.Meanings.{Scope}
use Rattle.tla_scopes.specs.Primes.{with_primes}
use Rattle.tla_scopes.specs.Forms.{form_in}
use Rattle.tla_expand.specs.Private.Gives.{part_in, pointed}
use Rattle.tla_expand.specs.Private.Walks.{EachIs, IsAmong, IsAdded, IsMet, IsNoTuple, among, HasEach, IsVisited, IsNamed, AreMet, EndsMet, IsInside, parts_at, piece_of, ArePushed, IsWalk, IsWalkTo}
use Rattle.tla_scopes.specs.Scopes.{AreLinked, scope_at}
use Rattle.tla_expand.proofs.Keeps.{inv}
use Rattle.tla_expand.proofs.Kept.{shown_not}
use Rattle.tla_expand.proofs.Lists.{each_in}
use Rattle.tla_expand.proofs.Made.{many_shown}
use Rattle.tla_expand.proofs.Visits.{each_append, each_front, each_back, each_weaker, each_added, each_among, among_sure, sure_among, noted_more, noted_before, noted_sure, noted_each, met_more, gone_more, name_met, are_met_append, are_met_front, are_met_back, ends_append, ends_front, ends_back, ends_weaker}

-- ---- steps
pub walk_same : (whole : Option Expr) (es : List Entry) (remaining : List Visit) (visited : List PrimedEntry) (found : List ℕ) (o u : Option Expr) → o ≡ u → IsWalkTo whole es remaining visited found o → IsWalkTo whole es remaining visited found u
walk_same whole es remaining visited found o u q w = rw q at w

module _ (whole : Option Expr) (es : List Entry) (remaining : List Visit) (visited : List PrimedEntry) (found : List ℕ) where
  -- what is next is taken away, to be looked at
  pub take_part : (t : Bor syntax.Expr) (s : ℕ) (k : Primes) → IsWalk whole es (remaining ++ Part t s k ∷ []) visited found → IsWalkTo whole es remaining visited found (with_primes k (expand (view t.now) (scope_at es s) 0))
  take_part t s k w =
      let o = with_primes k (expand (view t.now) (scope_at es s) 0) in
      let last : List Visit = Part t s k ∷ [] in
      record {
        linked = w.linked;
        inside = each_front (IsInside es) remaining last w.inside;
        known = w.known;
        passed = w.passed;
        whole_met = λ m u a n. w.whole_met m u (are_met_append m es remaining last a (n, tt)) tt;
        ends_met = λ m u. ends_front m es remaining last (IsMet m o) (Unit {0}) (λ n. ((n, tt), tt)) (w.ends_met m u);
        parts = λ e q y.
            let p = w.parts e q y in
            (are_met_front (λ i. has_name i e) es remaining last p.0, (are_met_back (λ i. has_name i e) es remaining last p.0).0, p.2);
      }

  -- an entry is noted
  pub take_end : (g : PrimedEntry) (more : List PrimedEntry) → IsAdded visited g more → IsWalk whole es (remaining ++ End g ∷ []) visited found → IsWalk whole es remaining more found
  take_end g more added w =
      let last : List Visit = End g ∷ [] in
      let n = each_back (IsInside es) remaining last w.inside in
      let h = ends_back (among found) es remaining last (Unit {0}) (w.ends_met (among found) (sure_among found)) in
      record {
        linked = w.linked;
        inside = each_front (IsInside es) remaining last w.inside;
        known = each_added (λ (f : PrimedEntry). f.entry < length es) visited g more added w.known n.0;
        passed = each_added (IsVisited (among found) es) visited g more added w.passed (h.0 tt tt);
        whole_met = λ m u a n. w.whole_met m u (are_met_append m es remaining last a tt) tt;
        ends_met = λ m u. ends_front m es remaining last (Unit {0}) (Unit {0}) (λ n. (tt, tt)) (w.ends_met m u);
        parts = λ e q y. let p = w.parts e q y in (are_met_front (λ i. has_name i e) es remaining last p.0, tt, p.2);
      }

  module _ (o : Option Expr) (w : IsWalkTo whole es remaining visited found o) where
    -- an entry is to be noted after what is looked at
    pub put_end : (g : PrimedEntry) → g.entry < length es → ((m : ℕ → Bool) → IsMet m o → IsVisited m es g) → IsWalkTo whole es (remaining ++ End g ∷ []) visited found o
    put_end g b f =
        let last : List Visit = End g ∷ [] in
        record {
          linked = w.linked;
          inside = each_append (IsInside es) remaining last w.inside (b, tt);
          known = w.known;
          passed = w.passed;
          whole_met = λ m u a n. w.whole_met m u (are_met_front m es remaining last a) n;
          ends_met = λ m u. ends_append m es remaining last (IsMet m o) (IsMet m o) (λ a n. n) (w.ends_met m u) (λ a n. f m n, tt);
          parts = λ e q y. let p = w.parts e q y in (are_met_append (λ i. has_name i e) es remaining last p.0 tt, p.1, p.2);
        }

    -- what is looked at is brought to these
    put_all : (more : List Visit) → EachIs (IsInside es) more → ((m : ℕ → Bool) → AreMet m es more → IsMet m o) → ((m : ℕ → Bool) → IsMet m o → AreMet m es more)
        → ((m : ℕ → Bool) → EndsMet m es more (Unit {0})) → IsWalk whole es (remaining ++ more) visited found
    put_all more inside f g ends = record {
      linked = w.linked;
      inside = each_append (IsInside es) remaining more w.inside inside;
      known = w.known;
      passed = w.passed;
      whole_met = λ m u a n. w.whole_met m u (are_met_front m es remaining more a) (f m (are_met_back m es remaining more a));
      ends_met = λ m u. ends_append m es remaining more (IsMet m o) (Unit {0}) (λ a n. f m a) (w.ends_met m u) (ends m);
      parts = λ e q y. let p = w.parts e q y in (are_met_append (λ i. has_name i e) es remaining more p.0 (g (λ i. has_name i e) p.1), tt, p.2);
    }

    -- what is looked at is met
    pub put_none : ((m : ℕ → Bool) → EachIs (λ i. m i ≡ true) found → IsMet m o) → IsWalk whole es remaining visited found
    put_none f = record {
      linked = w.linked;
      inside = w.inside;
      known = w.known;
      passed = w.passed;
      whole_met = λ m u a n. w.whole_met m u a (f m u);
      ends_met = λ m u. ends_weaker m es remaining (IsMet m o) (Unit {0}) (λ n. f m u) (w.ends_met m u);
      parts = λ e q y. let p = w.parts e q y in (p.0, tt, p.2);
    }

    -- what is looked at is a variable
    pub put_variable : (p : Place) (i : ℕ) (more : List ℕ) → o ≡ Some (now p i) → more ≡ insert_key nat_eq found i → IsWalk whole es remaining visited more
    put_variable p i more q added = rw added (record {
      linked = w.linked;
      inside = w.inside;
      known = w.known;
      passed = each_weaker (IsVisited (among found) es) (IsVisited (among (insert_key nat_eq found i)) es) visited
          (λ g h. gone_more (among found) (among (insert_key nat_eq found i)) es g (noted_more found i (among found i) refl) h) w.passed;
      whole_met = λ m u a n. w.whole_met m (before m u) a (here m u);
      ends_met = λ m u. ends_weaker m es remaining (IsMet m o) (Unit {0}) (λ n. here m u) (w.ends_met m (before m u));
      parts = λ e r y.
          let f = w.parts e r y in
          let k : now p i ≡ f.1.0 = found_index e f.1 in
          (f.0, tt, noted_each found i (λ j. has_name j e ≡ true) (among found i) refl f.2 (f.1.3 i (rw (sym k) (eq-eqb i i refl))));
    })
      where
        before : (m : ℕ → Bool) → EachIs (λ j. m j ≡ true) (insert_key nat_eq found i) → EachIs (λ j. m j ≡ true) found
        before m u = noted_before found i (λ j. m j ≡ true) (among found i) refl u

        here : (m : ℕ → Bool) → EachIs (λ j. m j ≡ true) (insert_key nat_eq found i) → IsMet m o
        here m u = (now p i, q, refl, λ j r. rw (eqb-true j i r) (noted_sure found i m (among found i) refl u))

        found_index : (e : Expr) (h : IsMet (λ j. has_name j e) o) → now p i ≡ h.0
        found_index e h = let z : Some (now p i) ≡ Some h.0 = sym q ∙ h.1 in cc

    -- what is looked at is no nested tuple of variables
    pub put_other : IsNoTuple o → IsNoTuple whole
    put_other n e q = at (is_names e) refl
      where
        at : (b : Bool) → is_names e ≡ b → is_names e ≡ false
        at false y = y
        at true y =
            let h = (w.parts e q y).1 in
            let z : true ≡ false = sym h.2 ∙ n h.0 h.1 in
            cc

-- what is looked at is brought to one expression
pub put_part : (whole : Option Expr) (es : List Entry) (remaining : List Visit) (visited : List PrimedEntry) (found : List ℕ) (t : Bor syntax.Expr) (s : ℕ) (k : Primes) → s ≤ length es
    → IsWalkTo whole es remaining visited found (with_primes k (expand (view t.now) (scope_at es s) 0)) → IsWalk whole es (remaining ++ Part t s k ∷ []) visited found
put_part whole es remaining visited found t s k h w =
    put_all whole es remaining visited found (with_primes k (expand (view t.now) (scope_at es s) 0)) w (Part t s k ∷ []) (h, tt) (λ m a. a.0) (λ m a. (a, tt)) (λ m. tt)

-- what is looked at isn't there
pub put_nothing : (whole : Option Expr) (es : List Entry) (remaining : List Visit) (visited : List PrimedEntry) (found : List ℕ) (k : Primes) (o : Option Expr) → o ≡ None
    → IsWalkTo whole es remaining visited found (with_primes k o) → IsNoTuple whole
put_nothing whole es remaining visited found k o h w =
    put_other whole es remaining visited found (with_primes k o) w (λ e q.
    let z : None ≡ Some e = sym (ap (λ (u : Option Expr). with_primes k u) h) ∙ q in
    cc)

-- ---- tuples
and_first : (a b : Bool) → (a && b) ≡ true → a ≡ true
and_first true b h = refl
and_first false b h = let z : false ≡ true = h in cc

and_second : (a b : Bool) → (a && b) ≡ true → b ≡ true
and_second true b h = h
and_second false b h = let z : false ≡ true = h in cc

and_both : (a b : Bool) → a ≡ true → b ≡ true → (a && b) ≡ true
and_both a b h k = rw (h, k) refl

-- a name of the first or of the others
have_first : (i : ℕ) (x : Expr) (xs : Exprs) → has_name i x ≡ true → have_name i (more_exprs x xs) ≡ true
have_first i x xs h = rw h refl

have_later : (i : ℕ) (x : Expr) (xs : Exprs) → have_name i xs ≡ true → have_name i (more_exprs x xs) ≡ true
have_later i x xs h = at (has_name i x) refl
  where
    at : (b : Bool) → has_name i x ≡ b → have_name i (more_exprs x xs) ≡ true
    at true q = rw q refl
    at false q = rw q h

have_either : (i : ℕ) (x : Expr) (xs : Exprs) (b : Bool) → has_name i x ≡ b → have_name i (more_exprs x xs) ≡ true → (has_name i x ≡ true) ⊎ (have_name i xs ≡ true)
have_either i x xs true q h = inl q
have_either i x xs false q h = inr (rw q at h)

module _ (m : ℕ → Bool) (f : syntax.Expr → Option Expr) where
  each_met : (ts : List syntax.Expr) → EachIs (λ (t : syntax.Expr). IsMet m (f t)) ts
      → (xs : List Expr) × (each_of f ts ≡ Some xs) × (are_names (exprs xs) ≡ true) × ((i : ℕ) → have_name i (exprs xs) ≡ true → m i ≡ true)
  each_met [] h = ([], refl, refl, λ i q. let z : false ≡ true = q in cc)
  each_met (t ∷ ts) h =
      let a = h.0 in
      let b = each_met ts h.1 in (
        a.0 ∷ b.0,
        rw (a.1, b.1) refl,
        and_both (is_names a.0) (are_names (exprs b.0)) a.2 b.2,
        λ i q.
            elim (have_either i a.0 (exprs b.0) (has_name i a.0) refl q) [
              | inl r ↦ a.3 i r
              | inr r ↦ b.3 i r
            ],
      )

  each_of_met : (ts : List syntax.Expr) (xs : List Expr) → each_of f ts ≡ Some xs → are_names (exprs xs) ≡ true → ((i : ℕ) → have_name i (exprs xs) ≡ true → m i ≡ true)
      → EachIs (λ (t : syntax.Expr). IsMet m (f t)) ts
  each_of_met [] xs q n h = tt
  each_of_met (t ∷ ts) xs q n h =
      let a = inv (f t) (λ x. each_of f ts >>= λ ys. Some (x ∷ ys)) xs q in
      let b = inv (each_of f ts) (λ ys. Some (a.0 ∷ ys)) xs a.2 in
      let w : a.0 ∷ b.0 ≡ xs = cc in
      let u : (is_names a.0 && are_names (exprs b.0)) ≡ true = ap (λ (ys : List Expr). are_names (exprs ys)) w ∙ n in
      let k : (i : ℕ) → have_name i (more_exprs a.0 (exprs b.0)) ≡ true → m i ≡ true = λ i r. h i (ap (λ (ys : List Expr). have_name i (exprs ys)) (sym w) ∙ r) in (
        (a.0, a.1, and_first (is_names a.0) (are_names (exprs b.0)) u, λ i r. k i (have_first i a.0 (exprs b.0) r)),
        each_of_met ts b.0 b.1 (and_second (is_names a.0) (are_names (exprs b.0)) u) (λ i r. k i (have_later i a.0 (exprs b.0) r)),
      )

  tuple_met : (p : Place) (ts : List syntax.Expr) → EachIs (λ (t : syntax.Expr). IsMet m (f t)) ts → IsMet m (each_of f ts >>= λ xs. Some (tuple p (exprs xs)))
  tuple_met p ts h = let b = each_met ts h in (tuple p (exprs b.0), rw b.1 refl, b.2, b.3)

  parts_met : (p : Place) (ts : List syntax.Expr) → IsMet m (each_of f ts >>= λ xs. Some (tuple p (exprs xs))) → EachIs (λ (t : syntax.Expr). IsMet m (f t)) ts
  parts_met p ts h =
      let i = inv (each_of f ts) (λ xs. Some (tuple p (exprs xs))) h.0 h.1 in
      let w : tuple p (exprs i.0) ≡ h.0 = cc in
      each_of_met ts i.0 i.1 (ap is_names w ∙ h.2) (λ j q. h.3 j (ap (λ (e : Expr). has_name j e) (sym w) ∙ q))

module _ (es : List Entry) (s : ℕ) (k : Primes) where
  pointed_met : (m : ℕ → Bool) (bs : List (Bor syntax.Expr)) → EachIs (λ (t : syntax.Expr). IsMet m (part_in k (scope_at es s) 0 t)) (pointed bs) → AreMet m es (parts_at bs s k)
  pointed_met m [] h = tt
  pointed_met m (b ∷ bs) h = (h.0, pointed_met m bs h.1)

  met_pointed : (m : ℕ → Bool) (bs : List (Bor syntax.Expr)) → AreMet m es (parts_at bs s k) → EachIs (λ (t : syntax.Expr). IsMet m (part_in k (scope_at es s) 0 t)) (pointed bs)
  met_pointed m [] h = tt
  met_pointed m (b ∷ bs) h = (h.0, met_pointed m bs h.1)

  inside_parts : s ≤ length es → (bs : List (Bor syntax.Expr)) → EachIs (IsInside es) (parts_at bs s k)
  inside_parts h [] = tt
  inside_parts h (b ∷ bs) = (h, inside_parts h bs)

  ends_parts : (m : ℕ → Bool) (bs : List (Bor syntax.Expr)) → EndsMet m es (parts_at bs s k) (Unit {0})
  ends_parts m [] = tt
  ends_parts m (b ∷ bs) = ends_parts m bs

  -- what is looked at is a tuple
  pub put_tuple : (whole o : Option Expr) (remaining more : List Visit) (visited : List PrimedEntry) (found : List ℕ) (p : Place) (ts : List syntax.Expr) → o ≡ (each_of (part_in k (scope_at es s) 0) ts >>= λ xs. Some (tuple p (exprs xs)))
      → ArePushed remaining ts s k more → s ≤ length es → IsWalkTo whole es remaining visited found o → IsWalk whole es more visited found
  put_tuple whole o remaining more visited found p ts e a h w =
      let f = part_in k (scope_at es s) 0 in
      rw a.2 (put_all whole es remaining visited found o w (parts_at a.0 s k) (inside_parts h a.0)
      (λ m u. rw (e, sym a.1) (tuple_met m f p (pointed a.0) (met_pointed m a.0 u)))
      (λ m u. pointed_met m a.0 (parts_met m f p (pointed a.0) (rw (e, sym a.1) at u)))
      (λ m. ends_parts m a.0))

-- one expression more
pub parts_more : (old mid new : List Visit) (ts : List syntax.Expr) (i s : ℕ) (k : Primes) (b : Bor syntax.Expr) → i < length ts → b.now ≡ get_or ts i b.now → ArePushed old (take i ts) s k mid → new ≡ mid ++ Part b s k ∷ []
    → ArePushed old (take (i + 1) ts) s k new
parts_more old mid new ts i s k b h q a e = (
  a.0 ++ b ∷ [],
  map-append (λ (u : Bor syntax.Expr). u.now) a.0 (b ∷ []) ∙ ap (λ (us : List syntax.Expr). us ++ b.now ∷ []) a.1 ∙ sym (take_more ts i b.now h ∙ ap (λ (t : syntax.Expr). take i ts ++ t ∷ []) (sym q)),
  e ∙ rw a.2 (append_assoc old (parts_at a.0 s k) (Part b s k ∷ []) ∙ ap (λ (ls : List Visit). old ++ ls) (sym (map-append (λ (u : Bor syntax.Expr). Part u s k) a.0 (b ∷ [])))),
)

-- what is looked at was gone through
pub put_visited : (whole : Option Expr) (es : List Entry) (remaining : List Visit) (visited : List PrimedEntry) (found : List ℕ) (t : Tree) (s : ℕ) (g : PrimedEntry) → IsNamed es t s g.entry → IsAmong g visited
    → IsWalkTo whole es remaining visited found (with_primes g.primes (expand t (scope_at es s) 0)) → IsWalk whole es remaining visited found
put_visited whole es remaining visited found t s g n a w =
    let o = with_primes g.primes (expand t (scope_at es s) 0) in
    put_none whole es remaining visited found o w (λ m u. met_more (among found) m o (among_sure m found u) (name_met (among found) es t s g n (each_among (IsVisited (among found) es) visited g w.passed a)))

-- ---- forms
pub variable_piece : (k : Primes) (fm : Form) (i : ℕ) → piece_of k fm ≡ piece.Variable i → (σ : Scope) (d : ℕ) → (p : Place) × (with_primes k (form_in fm σ d) ≡ Some (now p i))
variable_piece Never (form.Variable p j) i h σ d = let w : j ≡ i = cc in (p, ap (λ (n : ℕ). Some (now p n)) w)
variable_piece Once (form.Variable p j) i h σ d = cc
variable_piece Twice (form.Variable p j) i h σ d = cc
variable_piece k (form.Many q manies.Tuple ts) i h σ d = cc
variable_piece k (form.Many q manies.Set ts) i h σ d = cc
variable_piece k (form.Many q manies.And ts) i h σ d = cc
variable_piece k (form.Many q manies.Or ts) i h σ d = cc
variable_piece k (form.Many q manies.Product ts) i h σ d = cc
variable_piece k (form.Leaf q l) i h σ d = cc
variable_piece k (form.One q f a) i h σ d = cc
variable_piece k (form.Two q f a b) i h σ d = cc
variable_piece k (form.Three q f a b c) i h σ d = cc
variable_piece k (form.Use q u a) i h σ d = cc
variable_piece k (form.Headed q f a b) i h σ d = cc
variable_piece k (form.Cases q a b) i h σ d = cc
variable_piece k (form.Fields q f fs) i h σ d = cc
variable_piece k (form.Except q a b) i h σ d = cc
variable_piece k (form.Action q f a b c) i h σ d = cc
variable_piece k (form.Unchanged q a) i h σ d = cc
variable_piece k (form.Binders q f bs a) i h σ d = cc
variable_piece k (form.Binds q f w a b) i h σ d = cc

pub tuple_piece : (k : Primes) (fm : Form) (ts : Bor (Vec syntax.Expr Global)) → piece_of k fm ≡ piece.Tuple ts → (σ : Scope) (d : ℕ)
    → (p : Place) × (with_primes k (form_in fm σ d) ≡ (each_of (part_in k σ d) ts.now.items >>= λ xs. Some (tuple p (exprs xs))))
tuple_piece k (form.Many q manies.Tuple us) ts h σ d =
    let w : us ≡ ts = cc in
    (q, rw (sym w) (many_shown manies.Tuple k q (expand_each (trees (map view us.now.items)) σ d) (each_of (part_in k σ d) us.now.items) (each_in k us.now.items σ d)))
tuple_piece k (form.Many q manies.Set us) ts h σ d = cc
tuple_piece k (form.Many q manies.And us) ts h σ d = cc
tuple_piece k (form.Many q manies.Or us) ts h σ d = cc
tuple_piece k (form.Many q manies.Product us) ts h σ d = cc
tuple_piece Never (form.Variable p j) ts h σ d = cc
tuple_piece Once (form.Variable p j) ts h σ d = cc
tuple_piece Twice (form.Variable p j) ts h σ d = cc
tuple_piece k (form.Leaf q l) ts h σ d = cc
tuple_piece k (form.One q f a) ts h σ d = cc
tuple_piece k (form.Two q f a b) ts h σ d = cc
tuple_piece k (form.Three q f a b c) ts h σ d = cc
tuple_piece k (form.Use q u a) ts h σ d = cc
tuple_piece k (form.Headed q f a b) ts h σ d = cc
tuple_piece k (form.Cases q a b) ts h σ d = cc
tuple_piece k (form.Fields q f fs) ts h σ d = cc
tuple_piece k (form.Except q a b) ts h σ d = cc
tuple_piece k (form.Action q f a b c) ts h σ d = cc
tuple_piece k (form.Unchanged q a) ts h σ d = cc
tuple_piece k (form.Binders q f bs a) ts h σ d = cc
tuple_piece k (form.Binds q f w a b) ts h σ d = cc

-- ---- the ends
walk_start : (es : List Entry) (t : Bor syntax.Expr) (s : ℕ) → AreLinked es → s ≤ length es → IsWalk (expand (view t.now) (scope_at es s) 0) es (Part t s Never ∷ []) [] []
walk_start es t s l h =
    let o = expand (view t.now) (scope_at es s) 0 in
    record {
      linked = l;
      inside = (h, tt);
      known = tt;
      passed = tt;
      whole_met = λ m u a n. rw (shown_not o) at a.0;
      ends_met = λ m u. tt;
      parts = λ e q y. ((rw (shown_not o) (e, q, y, λ i r. r), tt), tt, tt);
    }

none_there : {A : Type 0} (xs : List A) → length xs ≡ 0 → xs ≡ []
none_there [] h = refl
none_there (x ∷ xs) h = absurd (omega arith)

pub walk_starts : (es : List Entry) (t : Bor syntax.Expr) (s : ℕ) (remaining : List Visit) (visited : List PrimedEntry) (found : List ℕ) → AreLinked es → s ≤ length es → remaining ≡ Part t s Never ∷ [] → length visited ≡ 0 → length found ≡ 0
    → IsWalk (expand (view t.now) (scope_at es s) 0) es remaining visited found
walk_starts es t s remaining visited found l h q n m = rw (q, none_there visited n, none_there found m) (walk_start es t s l h)

-- nothing is left
pub walk_over : (whole : Option Expr) (es : List Entry) (remaining : List Visit) (visited : List PrimedEntry) (found : List ℕ) → length remaining ≡ 0 → IsWalk whole es remaining visited found → IsWalk whole es [] visited found
walk_over whole es remaining visited found n w = rw (none_there remaining n) at w

-- one more of the first so many is found
pub found_more : (is : List ℕ) (n k j : ℕ) → k ≡ j + 1 → among is j ≡ true → ((i : ℕ) → k ≤ i → i < n → among is i ≡ true) → (i : ℕ) → j ≤ i → i < n → among is i ≡ true
found_more is n k j e h f i a b = pick (nat_eq i j) refl
  where
    pick : (c : Bool) → nat_eq i j ≡ c → among is i ≡ true
    pick true q = rw (eqb-true i j q) h
    pick false q = f i (omega (arith, eqb-false i j q)) b

has_all_from : (n : ℕ) (e : Expr) → ((i : ℕ) → i < n → has_name i e ≡ true) → has_all n e ≡ true
has_all_from zero e f = refl
has_all_from (suc n) e f = and_both (has_name n e) (has_all n e) (f n (omega arith)) (has_all_from n e (λ i h. f i (omega arith)))

last_or_before : (n i : ℕ) (e : Expr) (b : Bool) → nat_eq i n ≡ b → has_name n e ≡ true → i < suc n → (i < n → has_name i e ≡ true) → has_name i e ≡ true
last_or_before n i e true q h l f = rw (eqb-true i n q) h
last_or_before n i e false q h l f = f (omega (arith, eqb-false i n q))

has_all_to : (n : ℕ) (e : Expr) → has_all n e ≡ true → (i : ℕ) → i < n → has_name i e ≡ true
has_all_to zero e h i b = absurd (omega arith)
has_all_to (suc n) e h i b = last_or_before n i e (nat_eq i n) refl (and_first (has_name n e) (has_all n e) h) b (has_all_to n e (and_second (has_name n e) (has_all n e) h) i)

module _ (whole : Option Expr) (es : List Entry) (visited : List PrimedEntry) (found : List ℕ) (n : ℕ) (w : IsWalk whole es [] visited found) where
  all_met : IsMet (among found) whole
  all_met = w.whole_met (among found) (sure_among found) tt tt

  pub covered : HasEach found n → (e : Expr) × (whole ≡ Some e) × (covers n e ≡ true)
  covered h =
      let r = all_met in
      let p = (w.parts r.0 r.1 r.2).2 in
      (r.0, r.1, and_both (is_names r.0) (has_all n r.0) r.2 (has_all_from n r.0 (λ i b. among_sure (λ j. has_name j r.0) found p i (h i b))))

  pub uncovered : (HasEach found n → ⊥) → (e : Expr) → whole ≡ Some e → covers n e ≡ false
  uncovered h e q = at (covers n e) refl
    where
      same : e ≡ all_met.0
      same = let z : Some e ≡ Some all_met.0 = sym q ∙ all_met.1 in cc

      at : (b : Bool) → covers n e ≡ b → covers n e ≡ false
      at false y = y
      at true y = absurd (h (λ i b. all_met.3 i (ap (λ (u : Expr). has_name i u) (sym same) ∙ has_all_to n e (and_second (is_names e) (has_all n e) y) i b)))

pub no_cover : (whole : Option Expr) (n : ℕ) → IsNoTuple whole → (e : Expr) → whole ≡ Some e → covers n e ≡ false
no_cover whole n h e q = rw (h e q) refl
