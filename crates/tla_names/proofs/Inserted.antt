-- A table of names after an insertion.
use Rattle.std.proofs.Common.{◌≡◌, refl, ap, sym, ◌∙◌, Bool, true, false, List, [], ◌∷◌, Some, None, if◌then◌else◌, true≢false}
use Rattle.std.specs.Borrow.{Bor}
use Rattle.std.specs.Map.{lookup}
use Rattle.std.specs.Str.{bytes_eq}
use Rattle.std.proofs.lemmas.Slice.Eq.{bytes_eq-Decides}
use Rattle.indexmap.specs.IndexMap.{insert_entry}
use Rattle.tla_config.specs.Names.{Name}

-- how names are compared
abbrev pub same : Bor Name → Bor Name → Bool
same a b = bytes_eq a.now b.now

abbrev pub named : Name → Bor Name → Bool
named x k = bytes_eq x k.now

pub same_name : (x y : Name) → bytes_eq x y ≡ true → x ≡ y
same_name x y h = (bytes_eq-Decides x y).0 h

pub equal_name : (x : Name) → bytes_eq x x ≡ true
equal_name x = (bytes_eq-Decides x x).1 refl

-- no name is two others
differs : (x k e : Name) → bytes_eq k e ≡ false → bytes_eq x e ≡ true → bytes_eq x k ≡ false
differs x k e h g = at (bytes_eq x k) refl
  where
    at : (b : Bool) → bytes_eq x k ≡ b → bytes_eq x k ≡ false
    at false m = m
    at true m =
        let one : k ≡ e = sym (same_name x k m) ∙ same_name x e g in
        let both : bytes_eq k e ≡ true = rw one (equal_name e) in
        absurd (true≢false (sym both ∙ h))

module _ {V : Type 0} where
  pub lookup_after : (es : List (Bor Name × V)) (k : Bor Name) (v : V) (x : Name) → lookup (named x) (insert_entry same es k v) ≡ (if bytes_eq x k.now then Some v else lookup (named x) es)
  lookup_after [] k v x = at (bytes_eq x k.now) refl
    where
      at : (b : Bool) → bytes_eq x k.now ≡ b → lookup (named x) (insert_entry same [] k v) ≡ (if bytes_eq x k.now then Some v else None)
      at true h = rw h refl
      at false h = rw h refl
  lookup_after (e ∷ es) k v x = at (bytes_eq k.now e.0.now) (bytes_eq x e.0.now) refl refl (lookup_after es k v x)
    where
      at : (a b : Bool) → bytes_eq k.now e.0.now ≡ a → bytes_eq x e.0.now ≡ b → lookup (named x) (insert_entry same es k v) ≡ (if bytes_eq x k.now then Some v else lookup (named x) es)
          → lookup (named x) (insert_entry same (e ∷ es) k v) ≡ (if bytes_eq x k.now then Some v else lookup (named x) (e ∷ es))
      at true true h g r =
          let c : bytes_eq x k.now ≡ true = ap (λ y. bytes_eq x y) (same_name k.now e.0.now h) ∙ g in
          rw (h, g, c) refl
      at true false h g r =
          let c : bytes_eq x k.now ≡ false = ap (λ y. bytes_eq x y) (same_name k.now e.0.now h) ∙ g in
          rw (h, g, c) refl
      at false true h g r =
          let c : bytes_eq x k.now ≡ false = differs x k.now e.0.now h g in
          rw (h, g, c) refl
      at false false h g r = rw (h, g) r
