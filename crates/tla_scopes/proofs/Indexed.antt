-- Names found by an index of entries.
use Rattle.std.proofs.Common.{◌≡◌, ℕ, zero, suc, ◌+◌, ◌-◌, ◌<◌, ◌≤◌, Bool, true, false, cond, List, [], ◌∷◌, ◌++◌, length, get_or, take, refl, sym, ap, subst, ◌∙◌, inl, inr, append_assoc, append-nil, arith, length-append}
use Rattle.std.proofs.Math.ListN.{get_or-append, get_or-map, set, replicate}
use Rattle.std.proofs.Math.Seq.{get_or-append_seam, get_or-append_right, take-append-add}
use Rattle.std.proofs.lemmas.Bool.{cases_eq}
use Rattle.std.proofs.lemmas.Grind.{get_or-set_at}
use Rattle.std.proofs.lemmas.List.{get_or-set_other, length-map, map-append, take-append-le, take-map}
use Rattle.std.specs.Str.{bytes_eq}
use Rattle.tla_scopes.specs.declared.arena.Entry.{Entry}
use Rattle.tla_scopes.specs.declared.entries.Node.{Node}
use Rattle.tla_scopes.specs.Listed.{entries_of}
use Rattle.tla_scopes.specs.Places.{Name}
use Rattle.tla_scopes.specs.Scopes.{scope_at, AreLinked}
use Rattle.tla_scopes.specs.Private.Index.{Found, nowhere, found_of, entry_found, found_behind, found_at, hash_of, slot_of, jump_for, IsNode, AreNodes, AreIndexed}
use Rattle.tla_scopes.proofs.Hashes.{slot_nearer, slot_farther, other_name}
use Rattle.tla_scopes.proofs.Links.{find_miss, below_at, below_rest}

-- what is found stays as entries are added
found_keep : (es : List Entry) (ρs : List Found) (i : ℕ) → i < length ρs → found_of (found_behind ρs es) i ≡ found_of ρs i
found_keep [] ρs i h = refl
found_keep (e ∷ es) ρs i h =
    let r = entry_found ρs e in
    found_keep es (ρs ++ r ∷ []) i (omega (arith, length-append ρs (r ∷ []))) ∙ get_or-append ρs (r ∷ []) nowhere i h

found_entry : (es : List Entry) (ρs : List Found) (k : ℕ) (e : Entry) (x : Name) → k < length es → e ≡ get_or es k e → e.rest < length ρs + k
    → found_of (found_behind ρs es) (length ρs + k) x ≡ cond (bytes_eq e.name.now x) (length ρs + k) (found_of (found_behind ρs es) e.rest x)
found_entry [] ρs k e x b g r = absurd (omega arith)
found_entry (f ∷ es) ρs zero e x b g r =
    let t = entry_found ρs f in
    let u : length (ρs ++ t ∷ []) ≡ length ρs + 1 = omega (arith, length-append ρs (t ∷ [])) in
    let p : length ρs + 0 ≡ length ρs = omega arith in
    let before : f.rest < length ρs = rw (g, p) at r in
    let here : found_of (found_behind (ρs ++ t ∷ []) es) (length ρs) ≡ t = found_keep es (ρs ++ t ∷ []) (length ρs) (omega arith) ∙ get_or-append_seam ρs t [] nowhere in
    let there : found_of (found_behind (ρs ++ t ∷ []) es) f.rest ≡ found_of ρs f.rest = found_keep es (ρs ++ t ∷ []) f.rest (omega arith) ∙ get_or-append ρs (t ∷ []) nowhere f.rest before in
    rw (p, g) (ap (λ (r : Found). r x) here ∙ ap (λ (r : Found). cond (bytes_eq f.name.now x) (length ρs) (r x)) (sym there))
found_entry (f ∷ es) ρs (suc k) e x b g r =
    let t = entry_found ρs f in
    let u : length (ρs ++ t ∷ []) ≡ length ρs + 1 = omega (arith, length-append ρs (t ∷ [])) in
    let p : length (ρs ++ t ∷ []) + k ≡ length ρs + suc k = omega arith in
    rw p at (found_entry es (ρs ++ t ∷ []) k e x (omega arith) g (omega arith))

pub found_zero : (es : List Entry) → found_at es 0 ≡ nowhere
unfolding found_at
found_zero es = found_keep es (nowhere ∷ []) 0 (omega arith)

pub found_behind_entry : (es : List Entry) (k : ℕ) (e : Entry) (x : Name) → k < length es → e ≡ get_or es k e → e.rest ≤ k
    → found_at es (k + 1) x ≡ cond (bytes_eq e.name.now x) (k + 1) (found_at es e.rest x)
unfolding found_at
found_behind_entry es k e x b g r =
    let p : 1 + k ≡ k + 1 = omega arith in
    rw p at (found_entry es (nowhere ∷ []) k e x b g (omega arith))

-- ---- what is found is what a name means
pub entry_there : (es : List Entry) (k : ℕ) → k < length es → (e : Entry) × (e ≡ get_or es k e)
entry_there [] k h = absurd (omega arith)
entry_there (e ∷ es) zero h = (e, refl)
entry_there (e ∷ es) (suc k) h = entry_there es k (omega arith)

one_found : (es : List Entry) (k : ℕ) (e : Entry) (x : Name) (b : Bool) → AreLinked es → k < length es → e ≡ get_or es k e → e.rest ≤ k → bytes_eq e.name.now x ≡ b
    → scope_at es e.rest x ≡ scope_at es (found_at es e.rest x) x → scope_at es (k + 1) x ≡ scope_at es (found_at es (k + 1) x) x
one_found es k e x true l b g r q h = rw (found_behind_entry es k e x b g r, q) refl
one_found es k e x false l b g r q h = rw (found_behind_entry es k e x b g r, q) (find_miss es (k + 1) k x e l refl b g q ∙ h)

scope_found : (es : List Entry) (n s : ℕ) (x : Name) → AreLinked es → s ≤ n → s ≤ length es → scope_at es s x ≡ scope_at es (found_at es s x) x
scope_found es n zero x l h b = rw (found_zero es) refl
scope_found es zero (suc k) x l h b = absurd (omega arith)
scope_found es (suc n) (suc k) x l h b =
    let t = entry_there es k (omega arith) in
    let e = t.0 in
    let r : e.rest ≤ k = below_rest k e.what e.rest (below_at es k e l (omega arith) t.1) in
    let p : suc k ≡ k + 1 = omega arith in
    rw p (one_found es k e x (bytes_eq e.name.now x) l (omega arith) t.1 r refl (scope_found es n e.rest x l (omega arith) (omega arith)))

-- where a name is found in one place, it means the same
pub scope_same : (es : List Entry) (s t : ℕ) (x : Name) → AreLinked es → s ≤ length es → t ≤ length es → found_at es s x ≡ found_at es t x → scope_at es s x ≡ scope_at es t x
scope_same es s t x l a b h =
    scope_found es s s x l (omega arith) a ∙ ap (λ (k : ℕ). scope_at es k x) h ∙ sym (scope_found es t t x l (omega arith) b)

-- ---- nodes
node_keep : (at to : ℕ → Found) (s : ℕ) (n : Node) → ((r : ℕ) → r < s → at r ≡ to r) → IsNode at s n → IsNode to s n
node_keep at to s n h i = record {
  rest = i.rest;
  hash = i.hash;
  below = i.below;
  same = λ x. sym (ap (λ (f : Found). f x) (h n.entry.rest i.rest)) ∙ i.same x ∙ ap (λ (f : Found). f x) (h (jump_for n x) (i.below (slot_of n.hash (hash_of x))));
}

nodes_get : (ns : List Node) (ρs : List Found) (k : ℕ) (n : Node) → AreNodes ρs ns → k < length ns → n ≡ get_or ns k n → IsNode (found_of (found_behind ρs (entries_of ns))) (length ρs + k) n
nodes_get [] ρs k n a b g = absurd (omega arith)
nodes_get (m ∷ ns) ρs zero n a b g =
    let t = entry_found ρs m.entry in
    let u : length (ρs ++ t ∷ []) ≡ length ρs + 1 = omega (arith, length-append ρs (t ∷ [])) in
    let p : length ρs + 0 ≡ length ρs = omega arith in
    rw (p, g) (node_keep (found_of ρs) (found_of (found_behind (ρs ++ t ∷ []) (entries_of ns))) (length ρs) m
    (λ r h. sym (found_keep (entries_of ns) (ρs ++ t ∷ []) r (omega arith) ∙ get_or-append ρs (t ∷ []) nowhere r h)) a.0)
nodes_get (m ∷ ns) ρs (suc k) n a b g =
    let t = entry_found ρs m.entry in
    let u : length (ρs ++ t ∷ []) ≡ length ρs + 1 = omega (arith, length-append ρs (t ∷ [])) in
    let p : length ρs + suc k ≡ length (ρs ++ t ∷ []) + k = omega arith in
    rw p (nodes_get ns (ρs ++ t ∷ []) k n a.1 (omega arith) g)

pub node_at : (ns : List Node) (k : ℕ) (n : Node) → AreIndexed ns → k < length ns → n ≡ get_or ns k n → IsNode (found_at (entries_of ns)) (k + 1) n
unfolding found_at
node_at ns k n a b g =
    let p : k + 1 ≡ 1 + k = omega arith in
    rw p (nodes_get ns (nowhere ∷ []) k n a.indexed b g)

pub entry_is : (ns : List Node) (k : ℕ) (n : Node) → n ≡ get_or ns k n → n.entry ≡ get_or (entries_of ns) k n.entry
entry_is ns k n g = ap (λ (m : Node). m.entry) g ∙ sym (get_or-map (λ (m : Node). m.entry) ns k n)

pub among_known : (known made : List Node) (k : ℕ) (n : Node) → k < length known → n ≡ get_or known k n → n ≡ get_or (known ++ made) k n
among_known known made k n h g = g ∙ sym (get_or-append known made n k h)

pub among_made : (known made : List Node) (k : ℕ) (n : Node) → length known ≤ k → n ≡ get_or made (k - length known) n → n ≡ get_or (known ++ made) k n
among_made known made k n h g = g ∙ sym (get_or-append_right known made k n h)

nodes_more : (ns : List Node) (ρs : List Found) (n : Node) → AreNodes ρs ns → IsNode (found_of (found_behind ρs (entries_of ns))) (length ρs + length ns) n → AreNodes ρs (ns ++ n ∷ [])
nodes_more [] ρs n a i =
    let p : length ρs + 0 ≡ length ρs = omega arith in
    (rw p at i, tt)
nodes_more (m ∷ ns) ρs n a i =
    let t = entry_found ρs m.entry in
    let u : length (ρs ++ t ∷ []) ≡ length ρs + 1 = omega (arith, length-append ρs (t ∷ [])) in
    let p : length ρs + suc (length ns) ≡ length (ρs ++ t ∷ []) + length ns = omega arith in
    (a.0, nodes_more ns (ρs ++ t ∷ []) n a.1 (rw p at i))

pub indexed_more : (ns : List Node) (n : Node) → AreIndexed ns → IsNode (found_at (entries_of ns)) (length ns + 1) n → AreIndexed (ns ++ n ∷ [])
unfolding found_at
indexed_more ns n a i =
    let p : length ns + 1 ≡ 1 + length ns = omega arith in
    record { indexed = nodes_more ns (nowhere ∷ []) n a.indexed (rw p at i) }

nodes_take : (k : ℕ) (ns : List Node) (ρs : List Found) → AreNodes ρs ns → AreNodes ρs (take k ns)
nodes_take zero ns ρs a = tt
nodes_take (suc k) [] ρs a = tt
nodes_take (suc k) (n ∷ ns) ρs a = (a.0, nodes_take k ns (ρs ++ entry_found ρs n.entry ∷ []) a.1)

pub indexed_take : (k : ℕ) (ns : List Node) → AreIndexed ns → AreIndexed (take k ns)
indexed_take k ns a = record { indexed = nodes_take k ns (nowhere ∷ []) a.indexed }

pub entries_length : (ns : List Node) → length (entries_of ns) ≡ length ns
entries_length ns = length-map ns (λ (n : Node). n.entry)

-- a node that is added, by the entries before it
pub node_added : (ns : List Node) (n : Node) → n.entry.rest ≤ length (entries_of ns) → n.hash ≡ hash_of n.entry.name.now → ((b : ℕ) → get_or n.jumps b 0 ≤ length (entries_of ns))
    → ((x : Name) → found_at (entries_of ns) n.entry.rest x ≡ found_at (entries_of ns) (jump_for n x) x) → AreIndexed ns → AreIndexed (ns ++ n ∷ [])
node_added ns n r h b s a =
    let l = entries_length ns in
    indexed_more ns n a (record { rest = omega arith; hash = h; below = λ k. omega (arith, b k); same = s })

-- ---- jumps
pub jump_from : (es : List Entry) (k : ℕ) (n : Node) (x : Name) → k < length es → n.entry ≡ get_or es k n.entry → IsNode (found_at es) (k + 1) n → bytes_eq n.entry.name.now x ≡ false
    → found_at es (k + 1) x ≡ found_at es (jump_for n x) x
jump_from es k n x b g i q = found_behind_entry es k n.entry x b g (omega (arith, i.rest)) ∙ rw q (i.same x)

-- names of later bits than the one in which a node's hash differs
pub jump_nearer : (es : List Entry) (k h bit : ℕ) (n : Node) (x : Name) → k < length es → n.entry ≡ get_or es k n.entry → IsNode (found_at es) (k + 1) n
    → slot_of h n.hash ≤ bit → bit < slot_of h (hash_of x) → found_at es (k + 1) x ≡ found_at es (get_or n.jumps (slot_of h n.hash) 0) x
jump_nearer es k h bit n x b g i w l =
    let near : slot_of h n.hash < slot_of h (hash_of x) = omega arith in
    let same : slot_of n.hash (hash_of x) ≡ slot_of h n.hash = slot_nearer h n.hash (hash_of x) near in
    let q = other_name h n.hash n.entry.name.now x i.hash (λ e. omega arith) in
    jump_from es k n x b g i q ∙ ap (λ (s : ℕ). found_at es (get_or n.jumps s 0) x) same

-- names of an earlier bit
pub jump_farther : (es : List Entry) (k h bit : ℕ) (n : Node) (x : Name) → k < length es → n.entry ≡ get_or es k n.entry → IsNode (found_at es) (k + 1) n
    → bit < slot_of h n.hash → slot_of h (hash_of x) ≡ bit → found_at es (k + 1) x ≡ found_at es (get_or n.jumps bit 0) x
jump_farther es k h bit n x b g i w l =
    let far : slot_of h (hash_of x) < slot_of h n.hash = omega arith in
    let same : slot_of n.hash (hash_of x) ≡ bit = slot_farther h n.hash (hash_of x) far ∙ l in
    let q = other_name h n.hash n.entry.name.now x i.hash (λ e. omega arith) in
    jump_from es k n x b g i q ∙ ap (λ (s : ℕ). found_at es (get_or n.jumps s 0) x) same

-- a jump more
pub jumps_more : (es : List Entry) (h s bit at to : ℕ) (js : List ℕ) → bit < length js
    → ((x : Name) → slot_of h (hash_of x) < bit → found_at es s x ≡ found_at es (get_or js (slot_of h (hash_of x)) 0) x)
    → ((x : Name) → bit ≤ slot_of h (hash_of x) → found_at es s x ≡ found_at es at x)
    → ((x : Name) → slot_of h (hash_of x) ≡ bit → found_at es at x ≡ found_at es to x)
    → (x : Name) → slot_of h (hash_of x) < bit + 1 → found_at es s x ≡ found_at es (get_or (set js bit to) (slot_of h (hash_of x)) 0) x
jumps_more es h s bit at to js b done left jump x k =
    let slot = slot_of h (hash_of x) in
    elim (cases_eq slot bit) [
      | inl e ↦ left x (omega arith) ∙ jump x e ∙ ap (λ (c : ℕ). found_at es c x) (sym (get_or-set_at js bit slot to 0 e b))
      | inr f ↦ done x (omega arith) ∙ ap (λ (c : ℕ). found_at es c x) (sym (get_or-set_other js bit slot to 0 f))
    ]

pub jumps_below : (js : List ℕ) (bit to n : ℕ) → bit < length js → ((b : ℕ) → get_or js b 0 ≤ n) → to ≤ n → (b : ℕ) → get_or (set js bit to) b 0 ≤ n
jumps_below js bit to n h below t b =
    elim (cases_eq b bit) [
      | inl e ↦ omega (arith, get_or-set_at js bit b to 0 e h)
      | inr f ↦ omega (arith, get_or-set_other js bit b to 0 f, below b)
    ]

pub zeros : (n b : ℕ) → ◌≡◌ {A = ℕ} (get_or (replicate n 0) b 0) 0
zeros zero b = refl
zeros (suc n) zero = refl
zeros (suc n) (suc b) = zeros n b

-- ---- lists of nodes
pub alone : (known made : List Node) → length known ≡ 0 → known ++ made ≡ made
alone [] made h = refl
alone (n ∷ known) made h = absurd (omega arith)

pub cut_known : (known made : List Node) (k : ℕ) → k ≤ length known → take k known ≡ take k (known ++ made)
cut_known known made k h = sym (take-append-le k known made h)

pub cut_made : (known made : List Node) (k : ℕ) → length known ≤ k → known ++ take (k - length known) made ≡ take k (known ++ made)
cut_made known made k h =
    let p : length known + (k - length known) ≡ k = omega arith in
    sym (subst (λ (m : ℕ). take m (known ++ made) ≡ known ++ take (k - length known) made) p (take-append-add known made (k - length known)))

-- ---- changes of a list of which a part is lent
pub pushed : (b : Bool) (known made : List Node) (n : Node) → AreIndexed (known ++ made) → AreIndexed ((known ++ made) ++ n ∷ []) → AreIndexed (known ++ cond b (made ++ n ∷ []) made)
pushed true known made n a m = rw (← append_assoc known made (n ∷ [])) m
pushed false known made n a m = a

pub entries_more : (known made new : List Node) (n : Node) → new ≡ made ++ n ∷ [] → entries_of (known ++ new) ≡ entries_of (known ++ made) ++ n.entry ∷ []
entries_more known made new n h =
    rw (h, ← append_assoc known made (n ∷ [])) (map-append (λ (m : Node). m.entry) (known ++ made) (n ∷ []))

known_cut : (known made new : List Node) (k : ℕ) → new ≡ take 0 made → k ≤ length known → take k known ++ new ≡ take k (known ++ made)
known_cut known made new k n h = rw (n, append-nil) (cut_known known made k h)

made_cut : (known made new : List Node) (k : ℕ) → new ≡ take (k - length known) made → length known ≤ k → known ++ new ≡ take k (known ++ made)
made_cut known made new k n h = rw n (cut_made known made k h)

pub indexed_known : (known made new : List Node) (k : ℕ) → new ≡ take 0 made → k ≤ length known → AreIndexed (known ++ made) → AreIndexed (take k known ++ new)
indexed_known known made new k n h a = rw (known_cut known made new k n h) (indexed_take k (known ++ made) a)

pub indexed_made : (known made new : List Node) (k : ℕ) → new ≡ take (k - length known) made → length known ≤ k → AreIndexed (known ++ made) → AreIndexed (known ++ new)
indexed_made known made new k n h a = rw (made_cut known made new k n h) (indexed_take k (known ++ made) a)

pub entries_known : (known made new : List Node) (k : ℕ) → new ≡ take 0 made → k ≤ length known → entries_of (take k known ++ new) ≡ take k (entries_of (known ++ made))
entries_known known made new k n h = rw (known_cut known made new k n h) (sym (take-map (λ (m : Node). m.entry) k (known ++ made)))

pub entries_made : (known made new : List Node) (k : ℕ) → new ≡ take (k - length known) made → length known ≤ k → entries_of (known ++ new) ≡ take k (entries_of (known ++ made))
entries_made known made new k n h = rw (made_cut known made new k n h) (sym (take-map (λ (m : Node). m.entry) k (known ++ made)))
