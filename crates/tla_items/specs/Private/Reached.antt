-- The names that a name leads to, as the code finds them. Private contracts alone cite this.
use Rattle.std.specs.Prelude.{◌≡◌, ℕ, ◌+◌, length, Bool, true, false, List, [], ◌∷◌, ◌++◌}
use Rattle.tla_config.specs.Names.{Name, is_among}
use Rattle.tla_items.specs.References.{Reference, next_names, LeadsBy}

abbrev pub AreAmong : List Name → List Name → Type 0
AreAmong xs ys = (z : Name) → is_among z xs ≡ true → is_among z ys ≡ true

abbrev pub part_due : Bool → ℕ → ℕ
part_due true n = 0
part_due false n = n

-- the most names that the names not yet passed can lead to at once
abbrev pub due : List Reference → List Name → ℕ
due [] passed = 0
due (l ∷ ls) passed = part_due (is_among l.0 passed) (length l.1) + due ls passed

module _ (ls : List Reference) where
  -- a name leads to each of these
  abbrev pub AreLed : Name → List Name → Type 0
  AreLed x ys = (y : Name) → is_among y ys ≡ true → (zs : List Name) × LeadsBy ls x zs y

  -- what these lead to at once is among those
  abbrev pub Covers : List Name → List Name → Type 0
  Covers xs ys = (y : Name) → is_among y xs ≡ true → AreAmong (next_names ls y) ys

  -- A visit of a name that was the last of those to be visited: what was covered still is, a name that led to all still
  -- does, and nothing is lost.
  pub record GoesOn (name : Name) (passed waiting passed_after waiting_after : List Name) : Type 0 where
    pub covers : Covers passed (passed ++ (waiting ++ name ∷ [])) → Covers passed_after (passed_after ++ waiting_after)
    pub led : (x : Name) → AreLed x (passed ++ (waiting ++ name ∷ [])) → AreLed x (passed_after ++ waiting_after)
    pub kept : AreAmong (passed ++ (waiting ++ name ∷ [])) (passed_after ++ waiting_after)
