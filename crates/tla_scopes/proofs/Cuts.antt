-- Entries that are given back after a scope.
use Rattle.std.proofs.Common.{◌≡◌, ◌≤◌, ℕ, zero, suc, ◌+◌, List, [], ◌∷◌, ◌++◌, length, take, drop, refl, ap, sym, ◌∙◌, arith, subst}
use Rattle.std.proofs.lemmas.List.{length-take-le, take-append-drop}
use Rattle.tla_scopes.specs.declared.arena.Entry.{Entry}
use Rattle.tla_scopes.specs.Scopes.{scope_at, LinkedFrom, AreLinked, Extends}
use Rattle.tla_scopes.proofs.Links.{scope_keep}

linked_take : (n k : ℕ) (es : List Entry) → LinkedFrom n es → LinkedFrom n (take k es)
linked_take n zero es l = tt
linked_take n (suc k) [] l = tt
linked_take n (suc k) (e ∷ es) l = (l.0, linked_take (n + 1) k es l.1)

pub linked_cut : (es cut : List Entry) (k : ℕ) → cut ≡ take k es → AreLinked es → AreLinked cut
linked_cut es cut k c l = rw c (record { linked = linked_take 0 k es l.linked })

pub length_cut : (es cut : List Entry) (k : ℕ) → cut ≡ take k es → k ≤ length es → length cut ≡ k
length_cut es cut k c b = rw c (length-take-le k es b)

pub scope_cut : (es cut : List Entry) (k s : ℕ) → cut ≡ take k es → s ≤ k → k ≤ length es → scope_at cut s ≡ scope_at es s
scope_cut es cut k s c h b =
    let n : length (take k es) ≡ k = length-take-le k es b in
    let all : take k es ++ drop k es ≡ es = take-append-drop k es in
    rw c (sym (subst (λ (xs : List Entry). scope_at xs s ≡ scope_at (take k es) s) all (scope_keep (take k es) (drop k es) s (omega (arith, n, h)))))

take_beyond : (old extra : List Entry) (k : ℕ) → length old ≤ k → (more : List Entry) × (take k (old ++ extra) ≡ old ++ more)
take_beyond [] extra k h = (take k extra, refl)
take_beyond (e ∷ old) extra zero h = absurd (omega arith)
take_beyond (e ∷ old) extra (suc k) h = let r = take_beyond old extra k (omega arith) in (r.0, ap (λ (es : List Entry). e ∷ es) r.1)

pub extends_cut : (old es cut : List Entry) (k : ℕ) → cut ≡ take k es → Extends es old → length old ≤ k → Extends cut old
extends_cut old es cut k c x h = let r = take_beyond old x.0 k h in (r.0, c ∙ rw x.1 r.1)
