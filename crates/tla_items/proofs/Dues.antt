-- Going on from a name for the first time leaves less to go on from.
use Rattle.std.proofs.Common.{◌≡◌, ◌≤◌, ℕ, ◌+◌, Bool, true, false, true≢false, List, [], ◌∷◌, ◌++◌, length, if◌then◌else◌, length-append, refl, sym, ap, subst, ◌∙◌, arith}
use Rattle.std.specs.Str.{bytes_eq}
use Rattle.std.proofs.lemmas.Slice.Eq.{bytes_eq-Decides}
use Rattle.tla_config.specs.Names.{Name, is_among}
use Rattle.tla_items.specs.References.{Reference, next_names}
use Rattle.tla_items.specs.Private.Reached.{part_due, due}
use Rattle.tla_items.proofs.Walks.{among_first, among_second}

part_falls : (a b : Bool) (n : ℕ) → (a ≡ true → b ≡ true) → part_due b n ≤ part_due a n
part_falls true true n h = omega arith
part_falls true false n h = absurd (true≢false (sym (h refl)))
part_falls false true n h = omega arith
part_falls false false n h = omega arith

module _ (x : Name) (passed : List Name) where
  itself : is_among x (passed ++ x ∷ []) ≡ true
  itself = among_second x passed (x ∷ []) (rw ((bytes_eq-Decides x x).1 refl) refl)

  due_falls : (ls : List Reference) → due ls (passed ++ x ∷ []) ≤ due ls passed
  due_falls [] = omega arith
  due_falls (l ∷ ls) =
      let rest = due_falls ls in
      let here = part_falls (is_among l.0 passed) (is_among l.0 (passed ++ x ∷ [])) (length l.1) (among_first l.0 passed (x ∷ [])) in
      omega (arith, rest, here)

  due_less : (ls : List Reference) → is_among x passed ≡ false → due ls (passed ++ x ∷ []) + length (next_names ls x) ≤ due ls passed
  due_less [] h = omega arith
  due_less (l ∷ ls) h = by (due_less ls h) (bytes_eq x l.0) refl
    where
      by : due ls (passed ++ x ∷ []) + length (next_names ls x) ≤ due ls passed → (b : Bool) → bytes_eq x l.0 ≡ b
          → part_due (is_among l.0 (passed ++ x ∷ [])) (length l.1) + due ls (passed ++ x ∷ []) + length (if b then l.1 else next_names ls x) ≤ part_due (is_among l.0 passed) (length l.1) + due ls passed
      by less true e =
          let same : x ≡ l.0 = (bytes_eq-Decides x l.0).0 e in
          let before : part_due (is_among l.0 passed) (length l.1) ≡ length l.1 = ap (λ b. part_due b (length l.1)) (subst (λ y. is_among y passed ≡ false) same h) in
          let after : part_due (is_among l.0 (passed ++ x ∷ [])) (length l.1) ≡ 0 = ap (λ b. part_due b (length l.1)) (subst (λ y. is_among y (passed ++ x ∷ []) ≡ true) same itself) in
          let rest = due_falls ls in
          omega (arith, before, after, rest)
      by less false e =
          let here = part_falls (is_among l.0 passed) (is_among l.0 (passed ++ x ∷ [])) (length l.1) (among_first l.0 passed (x ∷ [])) in
          omega (arith, less, here)

pub less_to : (ls : List Reference) (x : Name) (passed waiting passed_after waiting_after : List Name) → is_among x passed ≡ false → passed_after ≡ passed ++ x ∷ [] → waiting_after ≡ waiting ++ next_names ls x
    → due ls passed_after + length waiting_after ≤ due ls passed + length waiting
less_to ls x passed waiting passed_after waiting_after h p w =
    let less = due_less x passed ls h in
    let same = ap (λ ys. due ls ys) p in
    let longer : length waiting_after ≡ length waiting + length (next_names ls x) = ap (λ ys. length ys) w ∙ length-append waiting (next_names ls x) in
    omega (arith, less, same, longer)
