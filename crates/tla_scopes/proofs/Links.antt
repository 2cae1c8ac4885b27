-- Scopes stay as entries are added.
use Rattle.std.proofs.Common.{◌≡◌, ℕ, suc, zero, true, false, ◌+◌, ◌≤◌, ◌<◌, List, [], ◌∷◌, ◌++◌, length, get_or, take, map, refl, ap, sym, ◌∙◌, arith, length-append}
use Rattle.std.proofs.Math.ListN.{get_or-append}
use Rattle.std.proofs.Math.Seq.{get_or-append_seam}
use Rattle.std.specs.Str.{bytes_eq}
use Rattle.tla_scopes.specs.Places.{Name}
use Rattle.tla_scopes.specs.declared.arena.Entry.{Entry}
use Rattle.tla_scopes.specs.declared.arena.What.{What}
use Rattle.tla_scopes.specs.declared.arena.What.TheVariants.{Bound, Variable, Value, Argument, Definition, Function, Gives, Module, Unknown}
use Rattle.tla_scopes.specs.Meanings.{Scope, standard, with_name, unknown, bound_name, variable, value_name, parameter, operator, builtin_meaning}
use Rattle.tla_scopes.specs.declared.nodes.Gather.TheVariants as gathers
use Rattle.tla_scopes.specs.Bound.{gathered}
use Rattle.tla_scopes.specs.Expand.{expand, binds_of}
use Rattle.tla_tree.specs.Tree.{binders}
use Rattle.tla_tree.specs.View.{view, group_view}
use Rattle.tla_scopes.specs.Arguments.{given}
use Rattle.tla_scopes.specs.Scopes.{meaning_of, at_of, entry_scope, grow, scope_at, IsBelow, LinkedFrom, AreLinked, Extends}

pub agree : (at at2 : ℕ → Scope) (n : ℕ) (w : What) (rest : ℕ) (x : Name) → ((r : ℕ) → r ≤ n → at r ≡ at2 r) → IsBelow n w rest
    → with_name x (meaning_of at w) (at rest) ≡ with_name x (meaning_of at2 w) (at2 rest)
agree at at2 n (Bound i) rest x h b = ap (λ (σ : Scope). with_name x (bound_name i) σ) (h rest b)
agree at at2 n (Variable i) rest x h b = ap (λ (σ : Scope). with_name x (variable i) σ) (h rest b)
agree at at2 n (Value v) rest x h b = ap (λ (σ : Scope). with_name x (value_name v.now) σ) (h rest b)
agree at at2 n (Function p bs body home) rest x h b =
    ap (λ (σ : Scope). with_name x (parameter (gathered gathers.Function p (binds_of (binders (map group_view bs.now.items)) σ) (expand (view body.now)) σ)) (at rest)) (h home b.0)
    ∙ ap (λ (σ : Scope). with_name x (parameter (gathered gathers.Function p (binds_of (binders (map group_view bs.now.items)) (at2 home)) (expand (view body.now)) (at2 home))) σ) (h rest b.1)
agree at at2 n Unknown rest x h b = ap (λ (σ : Scope). with_name x unknown σ) (h rest b)
agree at at2 n (Argument t s) rest x h b =
    ap (λ (σ : Scope). with_name x (parameter (expand (view t.now) σ)) (at rest)) (h s b.0)
    ∙ ap (λ (σ : Scope). with_name x (parameter (expand (view t.now) (at2 s))) σ) (h rest b.1)
agree at at2 n (Definition xs body home) rest x h b =
    ap (λ (σ : Scope). with_name x (operator xs.now (expand (view body.now)) σ) (at rest)) (h home b.0)
    ∙ ap (λ (σ : Scope). with_name x (operator xs.now (expand (view body.now)) (at2 home)) σ) (h rest b.1)
agree at at2 n (Gives k g) rest x h b = ap (λ (σ : Scope). with_name x (given k g) σ) (h rest b)
agree at at2 n (Module m) rest x h b = ap (λ (σ : Scope). with_name x (builtin_meaning m) σ) (h rest b)

pub grow_at : (es : List Entry) (σs : List Scope) (i : ℕ) → i < length σs → at_of (grow σs es) i ≡ at_of σs i
grow_at [] σs i h = refl
grow_at (e ∷ es) σs i h =
    let s = entry_scope (at_of σs) e in
    grow_at es (σs ++ s ∷ []) i (omega (arith, length-append σs (s ∷ []))) ∙ get_or-append σs (s ∷ []) standard i h

pub grow_length : (es : List Entry) (σs : List Scope) → length (grow σs es) ≡ length σs + length es
grow_length [] σs = omega arith
grow_length (e ∷ es) σs =
    let s = entry_scope (at_of σs) e in
    omega (arith, grow_length es (σs ++ s ∷ []), length-append σs (s ∷ []))

pub grow_append : (es more : List Entry) (σs : List Scope) → grow σs (es ++ more) ≡ grow (grow σs es) more
grow_append [] more σs = refl
grow_append (e ∷ es) more σs = grow_append es more (σs ++ entry_scope (at_of σs) e ∷ [])

-- an entry's scope, by the scopes that are there at last
pub grow_entry : (es : List Entry) (σs : List Scope) (n k : ℕ) (e : Entry) → length σs ≡ n + 1 → LinkedFrom n es → k < length es → e ≡ get_or es k e
    → at_of (grow σs es) (n + 1 + k) ≡ entry_scope (at_of (grow σs es)) e
grow_entry [] σs n k e h l b g = absurd (omega arith)
grow_entry (f ∷ es) σs n zero e h l b g =
    let s = entry_scope (at_of σs) f in
    let u : length (σs ++ s ∷ []) ≡ n + 2 = omega (arith, length-append σs (s ∷ [])) in
    let p : n + 1 + 0 ≡ length σs = omega arith in
    rw (p, g) (grow_at es (σs ++ s ∷ []) (length σs) (omega arith) ∙ get_or-append_seam σs s [] standard
    ∙ agree (at_of σs) (at_of (grow (σs ++ s ∷ []) es)) n f.what f.rest f.name.now
    (λ r b. sym (grow_at es (σs ++ s ∷ []) r (omega arith) ∙ get_or-append σs (s ∷ []) standard r (omega arith))) l.0)
grow_entry (f ∷ es) σs n (suc k) e h l b g =
    let s = entry_scope (at_of σs) f in
    let u : length (σs ++ s ∷ []) ≡ n + 1 + 1 = omega (arith, length-append σs (s ∷ [])) in
    let p : n + 1 + suc k ≡ n + 1 + 1 + k = omega arith in
    rw p (grow_entry es (σs ++ s ∷ []) (n + 1) k e u l.1 (omega arith) g)

pub scope_keep : (es more : List Entry) (i : ℕ) → i ≤ length es → scope_at (es ++ more) i ≡ scope_at es i
unfolding scope_at
scope_keep es more i h =
    rw (grow_append es more (standard ∷ [])) (grow_at more (grow (standard ∷ []) es) i (omega (arith, grow_length es (standard ∷ []))))

pub scope_entry : (es : List Entry) (k : ℕ) (e : Entry) → AreLinked es → k < length es → e ≡ get_or es k e → scope_at es (k + 1) ≡ entry_scope (scope_at es) e
unfolding scope_at
scope_entry es k e l b g =
    let p : k + 1 ≡ 0 + 1 + k = omega arith in
    rw p (grow_entry es (standard ∷ []) 0 k e refl l.linked b g)

-- the scope of an entry that is added
pub scope_new : (es : List Entry) (e : Entry) → scope_at (es ++ e ∷ []) (length es + 1) ≡ entry_scope (scope_at es) e
unfolding scope_at
scope_new es e =
    let s = entry_scope (at_of (grow (standard ∷ []) es)) e in
    let p : length es + 1 ≡ length (grow (standard ∷ []) es) = omega (arith, grow_length es (standard ∷ [])) in
    rw (grow_append es (e ∷ []) (standard ∷ []), p) (get_or-append_seam (grow (standard ∷ []) es) s [] standard)

pub linked_append : (es : List Entry) (n : ℕ) (e : Entry) → LinkedFrom n es → IsBelow (n + length es) e.what e.rest → LinkedFrom n (es ++ e ∷ [])
linked_append [] n e l b = let p : n + 0 ≡ n = omega arith in (rw p at b, tt)
linked_append (f ∷ es) n e l b = let p : n + suc (length es) ≡ n + 1 + length es = omega arith in (l.0, linked_append es (n + 1) e l.1 (rw p at b))

pub linked_get : (es : List Entry) (n k : ℕ) (e : Entry) → LinkedFrom n es → k < length es → e ≡ get_or es k e → IsBelow (n + k) e.what e.rest
linked_get [] n k e l b g = absurd (omega arith)
linked_get (f ∷ es) n zero e l b g = let p : n + 0 ≡ n = omega arith in rw (p, g) l.0
linked_get (f ∷ es) n (suc k) e l b g = let p : n + suc k ≡ n + 1 + k = omega arith in rw p (linked_get es (n + 1) k e l.1 (omega arith) g)

pub find_hit : (es : List Entry) (at k : ℕ) (name : Name) (e : Entry) → AreLinked es → at ≡ k + 1 → k < length es → e ≡ get_or es k e → bytes_eq e.name.now name ≡ true
    → scope_at es at name ≡ meaning_of (scope_at es) e.what
find_hit es at k name e l p b g q = rw p (ap (λ (σ : Scope). σ name) (scope_entry es k e l b g) ∙ rw q refl)

pub find_miss : (es : List Entry) (at k : ℕ) (name : Name) (e : Entry) → AreLinked es → at ≡ k + 1 → k < length es → e ≡ get_or es k e → bytes_eq e.name.now name ≡ false
    → scope_at es at name ≡ scope_at es e.rest name
find_miss es at k name e l p b g q = rw p (ap (λ (σ : Scope). σ name) (scope_entry es k e l b g) ∙ rw q refl)

pub scope_zero : (es : List Entry) → scope_at es 0 ≡ standard
unfolding scope_at
scope_zero es = grow_at es (standard ∷ []) 0 (omega arith)

pub below_rest : (n : ℕ) (w : What) (rest : ℕ) → IsBelow n w rest → rest ≤ n
below_rest n (Bound i) rest b = b
below_rest n (Variable i) rest b = b
below_rest n (Value v) rest b = b
below_rest n (Function p bs body home) rest b = b.1
below_rest n Unknown rest b = b
below_rest n (Argument t s) rest b = b.1
below_rest n (Definition xs body home) rest b = b.1
below_rest n (Gives k g) rest b = b
below_rest n (Module m) rest b = b

pub below_more : (n m : ℕ) (w : What) (rest : ℕ) → n ≤ m → IsBelow n w rest → IsBelow m w rest
below_more n m (Bound i) rest h b = omega arith
below_more n m (Variable i) rest h b = omega arith
below_more n m (Value v) rest h b = omega arith
below_more n m (Function p bs body home) rest h b = (omega (arith, b.0), omega (arith, b.1))
below_more n m Unknown rest h b = omega arith
below_more n m (Argument t s) rest h b = (omega (arith, b.0), omega (arith, b.1))
below_more n m (Definition xs body home) rest h b = (omega (arith, b.0), omega (arith, b.1))
below_more n m (Gives k g) rest h b = omega arith
below_more n m (Module k) rest h b = omega arith

pub below_at : (es : List Entry) (k : ℕ) (e : Entry) → AreLinked es → k < length es → e ≡ get_or es k e → IsBelow k e.what e.rest
below_at es k e l b g = let p : 0 + k ≡ k = omega arith in rw p at (linked_get es 0 k e l.linked b g)

pub are_linked_append : (es : List Entry) (e : Entry) → AreLinked es → IsBelow (length es) e.what e.rest → AreLinked (es ++ e ∷ [])
are_linked_append es e l b = let p : 0 + length es ≡ length es = omega arith in record { linked = linked_append es 0 e l.linked (rw p b) }

-- entries that were added and cut off
take_length : (old extra : List Entry) → take (length old) (old ++ extra) ≡ old
take_length [] extra = refl
take_length (e ∷ old) extra = ap (λ (es : List Entry). e ∷ es) (take_length old extra)

pub cut_back : (old new cut : List Entry) (mark : ℕ) → Extends new old → mark ≡ length old → cut ≡ take mark new → cut ≡ old
cut_back old new cut mark x m c = c ∙ rw (m, x.1) (take_length old x.0)

pub home_keep : (old mid new : List Entry) (e : Entry) (i : ℕ) → new ≡ mid ++ e ∷ [] → mid ≡ old → i ≤ length old → scope_at new i ≡ scope_at old i
home_keep old mid new e i n m b = rw (n, m) (scope_keep old (e ∷ []) i b)

pub bind_scope : (old mid : List Entry) (τ : Scope) (scope : ℕ) (x y : Name) (i : ℕ) → τ ≡ with_name x (bound_name i) (scope_at mid scope) → mid ≡ old → x ≡ y → τ ≡ with_name y (bound_name i) (scope_at old scope)
bind_scope old mid τ scope x y i h m e = h ∙ rw (m, e) refl

-- there is one entry of a number
pub same_entry : (es : List Entry) (k : ℕ) (e f : Entry) → k < length es → e ≡ get_or es k e → f ≡ get_or es k f → e ≡ f
same_entry [] k e f h p q = absurd (omega arith)
same_entry (g ∷ es) zero e f h p q = p ∙ sym q
same_entry (g ∷ es) (suc k) e f h p q = same_entry es k e f (omega arith) p q
