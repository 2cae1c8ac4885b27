-- Costs stay as entries are added.
use Rattle.std.proofs.Common.{◌≡◌, ℕ, suc, zero, Bool, true, false, ◌+◌, ◌≤◌, ◌<◌, List, [], ◌∷◌, ◌++◌, length, get_or, take, drop, refl, ap, sym, ◌∙◌, arith, subst, length-append}
use Rattle.std.proofs.lemmas.List.{length-take-le, take-append-drop}
use Rattle.std.proofs.Math.ListN.{get_or-append}
use Rattle.std.proofs.Math.Seq.{get_or-append_seam}
use Rattle.std.specs.Str.{bytes_eq}
use Rattle.tla_tree.specs.View.{view}
use Rattle.tla_scopes.specs.Places.{Name}
use Rattle.tla_scopes.specs.declared.arena.Entry.{Entry}
use Rattle.tla_scopes.specs.declared.arena.What.{What}
use Rattle.tla_scopes.specs.declared.arena.What.TheVariants.{Bound, Variable, Value, Argument, Definition, Function, Gives, Module, Unknown}
use Rattle.tla_scopes.specs.Costs.{Costs, cost, total, with_cost, with_costs, cost_by, free, costs_among, entry_costs, grow_costs, costs_at}
use Rattle.tla_scopes.specs.Scopes.{IsBelow, LinkedFrom, AreLinked, Extends}
use Rattle.tla_scopes.specs.Private.Index.{found_at}
use Rattle.tla_scopes.proofs.Links.{below_rest, below_at}
use Rattle.tla_scopes.proofs.Indexed.{entry_there, found_zero, found_behind_entry}

costs_agree : (at at2 : ℕ → Costs) (n : ℕ) (w : What) (rest : ℕ) (x : Name) → ((r : ℕ) → r ≤ n → at r ≡ at2 r) → IsBelow n w rest
    → with_cost x (cost_by at w) (at rest) ≡ with_cost x (cost_by at2 w) (at2 rest)
costs_agree at at2 n (Bound i) rest x h b = ap (λ (σ : Costs). with_cost x (λ ns. 0) σ) (h rest b)
costs_agree at at2 n (Variable i) rest x h b = ap (λ (σ : Costs). with_cost x (λ ns. 0) σ) (h rest b)
costs_agree at at2 n (Value v) rest x h b = ap (λ (σ : Costs). with_cost x (λ ns. 0) σ) (h rest b)
costs_agree at at2 n (Function p bs body home) rest x h b = ap (λ (σ : Costs). with_cost x (λ ns. 0) σ) (h rest b.1)
costs_agree at at2 n Unknown rest x h b = ap (λ (σ : Costs). with_cost x (λ ns. 0) σ) (h rest b)
costs_agree at at2 n (Argument t s) rest x h b =
    ap (λ (σ : Costs). with_cost x (λ ns. cost (view t.now) σ) (at rest)) (h s b.0)
    ∙ ap (λ (σ : Costs). with_cost x (λ ns. cost (view t.now) (at2 s)) σ) (h rest b.1)
costs_agree at at2 n (Definition xs body home) rest x h b =
    ap (λ (σ : Costs). with_cost x (λ ns. total ns + cost (view body.now) (with_costs xs.now ns σ)) (at rest)) (h home b.0)
    ∙ ap (λ (σ : Costs). with_cost x (λ ns. total ns + cost (view body.now) (with_costs xs.now ns (at2 home))) σ) (h rest b.1)
costs_agree at at2 n (Gives k g) rest x h b = ap (λ (σ : Costs). with_cost x (λ ns. total ns) σ) (h rest b)
costs_agree at at2 n (Module m) rest x h b = ap (λ (σ : Costs). with_cost x (λ ns. 0) σ) (h rest b)

pub grow_costs_at : (es : List Entry) (σs : List Costs) (i : ℕ) → i < length σs → costs_among (grow_costs σs es) i ≡ costs_among σs i
grow_costs_at [] σs i h = refl
grow_costs_at (e ∷ es) σs i h =
    let s = entry_costs (costs_among σs) e in
    grow_costs_at es (σs ++ s ∷ []) i (omega (arith, length-append σs (s ∷ []))) ∙ get_or-append σs (s ∷ []) free i h

pub grow_costs_length : (es : List Entry) (σs : List Costs) → length (grow_costs σs es) ≡ length σs + length es
grow_costs_length [] σs = omega arith
grow_costs_length (e ∷ es) σs =
    let s = entry_costs (costs_among σs) e in
    omega (arith, grow_costs_length es (σs ++ s ∷ []), length-append σs (s ∷ []))

pub grow_costs_append : (es more : List Entry) (σs : List Costs) → grow_costs σs (es ++ more) ≡ grow_costs (grow_costs σs es) more
grow_costs_append [] more σs = refl
grow_costs_append (e ∷ es) more σs = grow_costs_append es more (σs ++ entry_costs (costs_among σs) e ∷ [])

-- an entry's costs, by the scopes that are there at last
pub grow_costs_entry : (es : List Entry) (σs : List Costs) (n k : ℕ) (e : Entry) → length σs ≡ n + 1 → LinkedFrom n es → k < length es → e ≡ get_or es k e
    → costs_among (grow_costs σs es) (n + 1 + k) ≡ entry_costs (costs_among (grow_costs σs es)) e
grow_costs_entry [] σs n k e h l b g = absurd (omega arith)
grow_costs_entry (f ∷ es) σs n zero e h l b g =
    let s = entry_costs (costs_among σs) f in
    let u : length (σs ++ s ∷ []) ≡ n + 2 = omega (arith, length-append σs (s ∷ [])) in
    let p : n + 1 + 0 ≡ length σs = omega arith in
    rw (p, g) (grow_costs_at es (σs ++ s ∷ []) (length σs) (omega arith) ∙ get_or-append_seam σs s [] free
    ∙ costs_agree (costs_among σs) (costs_among (grow_costs (σs ++ s ∷ []) es)) n f.what f.rest f.name.now
    (λ r b. sym (grow_costs_at es (σs ++ s ∷ []) r (omega arith) ∙ get_or-append σs (s ∷ []) free r (omega arith))) l.0)
grow_costs_entry (f ∷ es) σs n (suc k) e h l b g =
    let s = entry_costs (costs_among σs) f in
    let u : length (σs ++ s ∷ []) ≡ n + 1 + 1 = omega (arith, length-append σs (s ∷ [])) in
    let p : n + 1 + suc k ≡ n + 1 + 1 + k = omega arith in
    rw p (grow_costs_entry es (σs ++ s ∷ []) (n + 1) k e u l.1 (omega arith) g)

pub costs_keep : (es more : List Entry) (i : ℕ) → i ≤ length es → costs_at (es ++ more) i ≡ costs_at es i
unfolding costs_at
costs_keep es more i h =
    rw (grow_costs_append es more (free ∷ [])) (grow_costs_at more (grow_costs (free ∷ []) es) i (omega (arith, grow_costs_length es (free ∷ []))))

pub costs_entry : (es : List Entry) (k : ℕ) (e : Entry) → AreLinked es → k < length es → e ≡ get_or es k e → costs_at es (k + 1) ≡ entry_costs (costs_at es) e
unfolding costs_at
costs_entry es k e l b g =
    let p : k + 1 ≡ 0 + 1 + k = omega arith in
    rw p (grow_costs_entry es (free ∷ []) 0 k e refl l.linked b g)

-- the costs after an entry that is added
pub costs_new : (es : List Entry) (e : Entry) → costs_at (es ++ e ∷ []) (length es + 1) ≡ entry_costs (costs_at es) e
unfolding costs_at
costs_new es e =
    let s = entry_costs (costs_among (grow_costs (free ∷ []) es)) e in
    let p : length es + 1 ≡ length (grow_costs (free ∷ []) es) = omega (arith, grow_costs_length es (free ∷ [])) in
    rw (grow_costs_append es (e ∷ []) (free ∷ []), p) (get_or-append_seam (grow_costs (free ∷ []) es) s [] free)

pub costs_hit : (es : List Entry) (at k : ℕ) (name : Name) (e : Entry) → AreLinked es → at ≡ k + 1 → k < length es → e ≡ get_or es k e → bytes_eq e.name.now name ≡ true
    → costs_at es at name ≡ cost_by (costs_at es) e.what
costs_hit es at k name e l p b g q = rw p (ap (λ (σ : Costs). σ name) (costs_entry es k e l b g) ∙ rw q refl)

pub costs_miss : (es : List Entry) (at k : ℕ) (name : Name) (e : Entry) → AreLinked es → at ≡ k + 1 → k < length es → e ≡ get_or es k e → bytes_eq e.name.now name ≡ false
    → costs_at es at name ≡ costs_at es e.rest name
costs_miss es at k name e l p b g q = rw p (ap (λ (σ : Costs). σ name) (costs_entry es k e l b g) ∙ rw q refl)

pub costs_zero : (es : List Entry) → costs_at es 0 ≡ free
unfolding costs_at
costs_zero es = grow_costs_at es (free ∷ []) 0 (omega arith)

one_costs : (es : List Entry) (k : ℕ) (e : Entry) (x : Name) (b : Bool) → AreLinked es → k < length es → e ≡ get_or es k e → e.rest ≤ k → bytes_eq e.name.now x ≡ b
    → costs_at es e.rest x ≡ costs_at es (found_at es e.rest x) x → costs_at es (k + 1) x ≡ costs_at es (found_at es (k + 1) x) x
one_costs es k e x true l b g r q h = rw (found_behind_entry es k e x b g r, q) refl
one_costs es k e x false l b g r q h = rw (found_behind_entry es k e x b g r, q) (costs_miss es (k + 1) k x e l refl b g q ∙ h)

costs_found : (es : List Entry) (n s : ℕ) (x : Name) → AreLinked es → s ≤ n → s ≤ length es → costs_at es s x ≡ costs_at es (found_at es s x) x
costs_found es n zero x l h b = rw (found_zero es) refl
costs_found es zero (suc k) x l h b = absurd (omega arith)
costs_found es (suc n) (suc k) x l h b =
    let t = entry_there es k (omega arith) in
    let e = t.0 in
    let r : e.rest ≤ k = below_rest k e.what e.rest (below_at es k e l (omega arith) t.1) in
    let p : suc k ≡ k + 1 = omega arith in
    rw p (one_costs es k e x (bytes_eq e.name.now x) l (omega arith) t.1 r refl (costs_found es n e.rest x l (omega arith) (omega arith)))

-- where a name is found in one place, it means the same
pub costs_same : (es : List Entry) (s t : ℕ) (x : Name) → AreLinked es → s ≤ length es → t ≤ length es → found_at es s x ≡ found_at es t x → costs_at es s x ≡ costs_at es t x
costs_same es s t x l a b h =
    costs_found es s s x l (omega arith) a ∙ ap (λ (k : ℕ). costs_at es k x) h ∙ sym (costs_found es t t x l (omega arith) b)

pub costs_cut : (es cut : List Entry) (k s : ℕ) → cut ≡ take k es → s ≤ k → k ≤ length es → costs_at cut s ≡ costs_at es s
costs_cut es cut k s c h b =
    let n : length (take k es) ≡ k = length-take-le k es b in
    let all : take k es ++ drop k es ≡ es = take-append-drop k es in
    rw c (sym (subst (λ (xs : List Entry). costs_at xs s ≡ costs_at (take k es) s) all (costs_keep (take k es) (drop k es) s (omega (arith, n, h)))))

pub costs_extends : (a b : List Entry) (i : ℕ) → Extends b a → i ≤ length a → costs_at b i ≡ costs_at a i
costs_extends a b i h k = rw h.1 (costs_keep a h.0 i k)
