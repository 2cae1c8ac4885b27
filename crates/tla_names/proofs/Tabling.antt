-- A table of names after an insertion.
use Rattle.std.proofs.Common.{◌≡◌, refl, ap, sym, ◌∙◌, Bool, true, false, List, [], ◌∷◌, ◌++◌, map}
use Rattle.std.specs.Prelude.{◌||◌}
use Rattle.std.specs.Borrow.{Bor}
use Rattle.std.specs.List.{list_any}
use Rattle.std.specs.Str.{bytes_eq}
use Rattle.indexmap.specs.IndexSet.{insert_key}
use Rattle.tla_config.specs.Names.{Name, is_among}
use Rattle.tla_names.specs.Private.Tabled.{IsTabled}
use Rattle.tla_names.proofs.Inserted.{same, same_name}
use Rattle.tla_names.proofs.Keys.{among_keys}

abbrev texts : List (Bor Name) → List Name
texts ws = map (λ (w : Bor Name). w.now) ws

or_false : (b : Bool) → (b || false) ≡ b
or_false true = refl
or_false false = refl

or_moved : (a b c : Bool) → (a || (b || c)) ≡ ((a || b) || c)
or_moved true b c = refl
or_moved false b c = refl

among_more : (x : Name) (ws : List (Bor Name)) (w : Bor Name) → is_among x (texts (ws ++ w ∷ [])) ≡ (is_among x (texts ws) || bytes_eq x w.now)
among_more x [] w = or_false (bytes_eq x w.now)
among_more x (v ∷ ws) w = ap (λ b. bytes_eq x v.now || b) (among_more x ws w) ∙ or_moved (bytes_eq x v.now) (is_among x (texts ws)) (bytes_eq x w.now)

-- a name that is there already adds nothing
or_there : (a b : Bool) → (b ≡ true → a ≡ true) → (a || b) ≡ a
or_there true b h = refl
or_there false true h = sym (h refl)
or_there false false h = refl

-- the same name as a key of the table and in the list
module _ (ks ws : List (Bor Name)) (k w : Bor Name) (e : k.now ≡ w.now) (t : IsTabled ks ws) where
  there : (b : Bool) → list_any (same k) ks ≡ b → (x : Name) → is_among x (texts (insert_key same ks k)) ≡ is_among x (texts (ws ++ w ∷ []))
  there true h x =
      let known : is_among k.now (texts ks) ≡ true = sym (among_keys k.now ks) ∙ h in
      let also : bytes_eq x k.now ≡ true → is_among x (texts ws) ≡ true = λ q. ap (λ y. is_among y (texts ws)) (same_name x k.now q) ∙ sym (t.each k.now) ∙ known in
      rw h (t.each x) ∙ sym (or_there (is_among x (texts ws)) (bytes_eq x k.now) also) ∙ ap (λ y. is_among x (texts ws) || bytes_eq x y) e ∙ sym (among_more x ws w)
  there false h x = rw h (among_more x ks k) ∙ ap (λ b. b || bytes_eq x k.now) (t.each x) ∙ ap (λ y. is_among x (texts ws) || bytes_eq x y) e ∙ sym (among_more x ws w)

  pub tabled_more : IsTabled (insert_key same ks k) (ws ++ w ∷ [])
  tabled_more = record { each = there (list_any (same k) ks) refl }
