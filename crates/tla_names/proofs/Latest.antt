-- How many arguments each name takes, as a scope keeps it.
use Rattle.std.proofs.Common.{◌≡◌, ◌≤◌, ◌<◌, ◌-◌, zero, suc, take, length, arith, Result, Ok, Err, refl, ap, sym, ◌∙◌, Bool, true, false, ℕ, List, [], ◌∷◌, ◌++◌, map, Option, Some, None, if◌then◌else◌, append-nil}
use Rattle.std.specs.Prelude.{unwrap_or}
use Rattle.std.specs.Borrow.{Bor}
use Rattle.std.specs.Map.{lookup}
use Rattle.std.specs.Str.{bytes_eq}
use Rattle.std.specs.Prelude.{OnOk, OnErr}
use Rattle.std.proofs.lemmas.List.{append_assoc, length-take-le}
use Rattle.indexmap.specs.IndexMap.{insert_entry}
use Rattle.tla_config.specs.Names.{Name}
use Rattle.tla_names.specs.declared.scope.Signature.{Signature}
use Rattle.tla_names.specs.Private.Latest.{signature_of, arity_in, arity_by, IsTable, KeepBeforeFrom, KeepBefore}
use Rattle.tla_names.specs.Maybe.{or_else}
use Rattle.tla_names.specs.Scope as names
use Rattle.tla_names.specs.Scope.{arity}
use Rattle.tla_names.proofs.Inserted.{same, named, same_name, equal_name, lookup_after}

abbrev pub Row : Type 0
Row = Bor Name × Option ℕ

-- the last name counts
pub arity_last : (σ : names.Scope) (s : names.Signature) (x : Name) → arity (σ ++ s ∷ []) x ≡ (if bytes_eq x s.0 then Some s.1 else arity σ x)
arity_last [] s x = refl
arity_last (t ∷ σ) s x = rw (arity_last σ s x) (at (bytes_eq x s.0))
  where
    at : (b : Bool) → or_else (if b then Some s.1 else arity σ x) (if bytes_eq x t.0 then Some t.1 else None) ≡ (if b then Some s.1 else or_else (arity σ x) (if bytes_eq x t.0 then Some t.1 else None))
    at true = refl
    at false = refl

-- a table after an insertion
pub arity_by_after : (es : List Row) (k : Bor Name) (v : Option ℕ) (x : Name) → arity_by (insert_entry same es k v) x ≡ (if bytes_eq x k.now then v else arity_by es x)
arity_by_after es k v x = ap (λ o. unwrap_or o None) (lookup_after es k v x) ∙ at (bytes_eq x k.now)
  where
    at : (b : Bool) → unwrap_or (if b then Some v else lookup (named x) es) None ≡ (if b then v else arity_by es x)
    at true = refl
    at false = refl

pub signatures_last : (ks : List Signature) (k : Signature) → map signature_of (ks ++ k ∷ []) ≡ map signature_of ks ++ signature_of k ∷ []
signatures_last [] k = refl
signatures_last (j ∷ ks) k = ap (λ σ. signature_of j ∷ σ) (signatures_last ks k)

-- how many arguments a name takes after one name more
pub arity_after : (ks : List Signature) (k : Signature) (x : Name) → arity_in (ks ++ k ∷ []) x ≡ (if bytes_eq x k.name.now then Some k.arity else arity_in ks x)
arity_after ks k x = ap (λ σ. arity σ x) (signatures_last ks k) ∙ arity_last (map signature_of ks) (signature_of k) x

-- one name more
pub table_more : (es : List Row) (ks : List Signature) (k : Signature) → IsTable es ks → IsTable (insert_entry same es k.name (Some k.arity)) (ks ++ k ∷ [])
table_more es ks k t = record { each = λ x. arity_by_after es k.name (Some k.arity) x ∙ ap (λ o. if bytes_eq x k.name.now then Some k.arity else o) (t.each x) ∙ sym (arity_after ks k x) }

-- the last name less
pub table_less : (es : List Row) (ks : List Signature) (k : Signature) → k.before ≡ arity_in ks k.name.now → IsTable es (ks ++ k ∷ []) → IsTable (insert_entry same es k.name k.before) ks
table_less es ks k b t = record { each = λ x. arity_by_after es k.name k.before x ∙ at x (bytes_eq x k.name.now) refl }
  where
    at : (x : Name) (c : Bool) → bytes_eq x k.name.now ≡ c → (if bytes_eq x k.name.now then k.before else arity_by es x) ≡ arity_in ks x
    at x true h = rw h (b ∙ ap (λ y. arity_in ks y) (sym (same_name x k.name.now h)))
    at x false h = rw h (t.each x ∙ arity_after ks k x ∙ rw h refl)

-- the last name is in the table
pub is_in_table : (es : List Row) (ks : List Signature) (k : Signature) → IsTable es (ks ++ k ∷ []) → lookup (λ (y : Bor Name). bytes_eq k.name.now y.now) es ≡ None → ⊥
is_in_table es ks k t h =
    let none : arity_by es k.name.now ≡ None = ap (λ o. unwrap_or o None) h in
    let some : arity_by es k.name.now ≡ Some k.arity = t.each k.name.now ∙ arity_after ks k k.name.now ∙ rw (equal_name k.name.now) refl in
    let z : None ≡ Some k.arity = sym none ∙ some in
    cc

before_from : (before ks : List Signature) (k : Signature) → KeepBeforeFrom before ks → k.before ≡ arity_in (before ++ ks) k.name.now → KeepBeforeFrom before (ks ++ k ∷ [])
before_from before [] k r h = (h ∙ ap (λ js. arity_in js k.name.now) (append-nil before), tt)
before_from before (j ∷ ks) k r h = (r.0, before_from (before ++ j ∷ []) ks k r.1 (h ∙ ap (λ js. arity_in js k.name.now) (sym (append_assoc before (j ∷ []) ks))))

pub before_more : (ks : List Signature) (k : Signature) → KeepBefore ks → k.before ≡ arity_in ks k.name.now → KeepBefore (ks ++ k ∷ [])
before_more ks k r h = record { each = before_from [] ks k r.each h }

before_last : (before ks : List Signature) (k : Signature) → KeepBeforeFrom before (ks ++ k ∷ []) → KeepBeforeFrom before ks × (k.before ≡ arity_in (before ++ ks) k.name.now)
before_last before [] k r = (tt, r.0 ∙ ap (λ js. arity_in js k.name.now) (sym (append-nil before)))
before_last before (j ∷ ks) k r =
    let rest = before_last (before ++ j ∷ []) ks k r.1 in
    ((r.0, rest.0), rest.1 ∙ ap (λ js. arity_in js k.name.now) (append_assoc before (j ∷ []) ks))

pub before_less : (ks : List Signature) (k : Signature) → KeepBefore (ks ++ k ∷ []) → KeepBefore ks
before_less ks k r = record { each = (before_last [] ks k r.each).0 }

pub before_is : (ks : List Signature) (k : Signature) → KeepBefore (ks ++ k ∷ []) → k.before ≡ arity_in ks k.name.now
before_is ks k r = (before_last [] ks k r.each).1

-- the first of the first
pub take_take : {A : Type 0} (n m : ℕ) (xs : List A) → n ≤ m → take n (take m xs) ≡ take n xs
take_take zero m xs h = refl
take_take (suc n) zero xs h = let z : ⊥ = omega (arith, h) in absurd z
take_take (suc n) (suc m) [] h = refl
take_take (suc n) (suc m) (x ∷ xs) h = ap (λ ys. x ∷ ys) (take_take n m xs (omega (arith, h)))

pub shorter : {A : Type 0} (xs : List A) → 0 < length xs → length (take (length xs - 1) xs) < length xs
shorter xs h =
    let less : length xs - 1 ≤ length xs = omega (arith, h) in
    let is : length (take (length xs - 1) xs) ≡ length xs - 1 = length-take-le (length xs - 1) xs less in
    rw is (omega (arith, h))

pub present : {A E P Q : Type 0} (r : Result A E) → OnOk r P → OnErr r Q → (Q → ⊥) → P
present (Ok x) p q none = p
present (Err e) p q none = absurd (none q)
