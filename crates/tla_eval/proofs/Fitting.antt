-- Elements that fit a pattern: the items of one, those of several concatenated, and a set whose elements all fit.
use Rattle.std.proofs.Common.{◌≡◌, ◌<◌, ℕ, suc, ◌+◌, Bool, false, List, ◌∷◌, ◌++◌, map, length, drop, get_or, Some, None, Ok, Err, inl, inr, refl, ap, sym, subst, ◌∙◌, ⊎_elim, add-one, drop-cons, append_assoc}
use Rattle.std.specs.Prelude.{if◌then◌else◌}
use Rattle.std.proofs.lemmas.Bool.{eq-eqb}
use Rattle.std.proofs.lemmas.Bool.Decides.{eqb_tells}
use Rattle.std.proofs.lemmas.List.{length-map}
use Rattle.tla_value.specs.Tree.{Tree, truth, set, trees, members-trees}
use Rattle.tla_value.specs.TreeOf.{tree_of}
use Rattle.tla_value.specs.declared.value.Value.{Value}
use Rattle.tla_value.specs.declared.value.Value.TheVariants.{Set}
use Rattle.tla_core.specs.declared.fault.Place.{Place}
use Rattle.tla_core.specs.declared.fault.FaultCode.TheVariants.{WrongKind}
use Rattle.tla_core.specs.declared.expression.Opening.{Opening}
use Rattle.tla_core.specs.Fault.{Outcome, ◌>>=◌, fault}
use Rattle.tla_core.specs.Kinds.{or_fault, items}
use Rattle.tla_core.specs.Lists.{each}
use Rattle.tla_core.specs.Meaning.{Bound}
use Rattle.tla_core.specs.Patterns.{of_length, fitting, opened_items, tried_set}
use Rattle.tla_operators.specs.Gives.{GivesBy}
use Rattle.tla_eval.specs.Private.Parts.{nothing_of}

-- ---- one element
same_length : (k : ℕ) (vs : List Tree) → length vs ≡ k → of_length k (Some vs) ≡ Some vs
same_length k vs h = ap (λ (b : Bool). if b then Some vs else None) (eq-eqb (length vs) k h)

other_length : (k : ℕ) (vs : List Tree) → (length vs ≡ k → ⊥) → of_length k (Some vs) ≡ None
other_length k vs h = ⊎_elim (λ e. absurd (h e.1)) (λ e. ap (λ (b : Bool). if b then Some vs else None) e.0) (eqb_tells (length vs) k)

module _ (p : Place) (k : ℕ) (v : Tree) (vs : List Value) (is : items v ≡ Some (map tree_of vs)) where
  pub fits_pattern : length vs ≡ k → fitting p k v ≡ Ok (map tree_of vs)
  fits_pattern h = ap (λ o. or_fault WrongKind p (of_length k o)) is ∙ ap (or_fault WrongKind p) (same_length k (map tree_of vs) (length-map vs tree_of ∙ h))

  pub fits_no_pattern : (length vs ≡ k → ⊥) → fitting p k v ≡ fault WrongKind p
  fits_no_pattern h = ap (λ o. or_fault WrongKind p (of_length k o)) is ∙ ap (or_fault WrongKind p) (other_length k (map tree_of vs) (λ e. h (sym (length-map vs tree_of) ∙ e)))

pub has_no_items : (p : Place) (k : ℕ) (v : Tree) → items v ≡ None → fitting p k v ≡ fault WrongKind p
has_no_items p k v is = ap (λ o. or_fault WrongKind p (of_length k o)) is

-- ---- several elements: the items of the first of the rest, and then the others
module _ (p : Place) (os : List Opening) (i : ℕ) (o : Opening) (b : Bound) (kept : List Tree) (v : Tree) (below : i < length os) (at : v ≡ get_or b (get_or os i o).name (truth false)) where
  pub opened_first : (opened_items p (drop i os) b >>= λ ys. Ok (kept ++ ys)) ≡ (fitting p (get_or os i o).items v >>= λ xs. opened_items p (drop (i + 1) os) b >>= λ ys. Ok ((kept ++ xs) ++ ys))
  opened_first =
      rw add-one (ap (λ us. opened_items p us b >>= λ ys. Ok (kept ++ ys)) (drop-cons os i o below)
      ∙ ap (λ u. (fitting p (get_or os i o).items u >>= λ xs. opened_items p (drop (suc i) os) b >>= λ ys. Ok (xs ++ ys)) >>= λ ys. Ok (kept ++ ys)) (sym at)
      ∙ turned (fitting p (get_or os i o).items v))
    where
      joined : (xs : List Tree) (f : Outcome (List Tree)) → ((f >>= λ ys. Ok (xs ++ ys)) >>= λ ys. Ok (kept ++ ys)) ≡ (f >>= λ ys. Ok ((kept ++ xs) ++ ys))
      joined xs (Ok ys) = simp append_assoc
      joined xs (Err g) = refl

      turned : (f : Outcome (List Tree)) → ((f >>= λ xs. opened_items p (drop (suc i) os) b >>= λ ys. Ok (xs ++ ys)) >>= λ ys. Ok (kept ++ ys)) ≡ (f >>= λ xs. opened_items p (drop (suc i) os) b >>= λ ys. Ok ((kept ++ xs) ++ ys))
      turned (Ok xs) = joined xs (opened_items p (drop (suc i) os) b)
      turned (Err g) = refl

  pub opened_more : (xs new : List Tree) → fitting p (get_or os i o).items v ≡ Ok xs → new ≡ kept ++ xs
      → (opened_items p (drop i os) b >>= λ ys. Ok (kept ++ ys)) ≡ (opened_items p (drop (i + 1) os) b >>= λ ys. Ok (new ++ ys))
  opened_more xs new h e =
      opened_first
      ∙ ap (λ (f : Outcome (List Tree)). f >>= λ xs. opened_items p (drop (i + 1) os) b >>= λ ys. Ok ((kept ++ xs) ++ ys)) h
      ∙ ap (λ us. opened_items p (drop (i + 1) os) b >>= λ ys. Ok (us ++ ys)) (sym e)

-- ---- a set
each_nothing : {A : Type 0} (o : Outcome (List A)) (y : A) → nothing_of (o >>= λ ys. Ok (y ∷ ys)) ≡ nothing_of o
each_nothing (Ok ys) y = refl
each_nothing (Err f) y = refl

-- the first of the rest of the elements, and then the others
pub each_first : (p : Place) (k : ℕ) (vs : List Value) (i : ℕ) (x : Value) → x ≡ get_or vs i x → i < length vs
    → nothing_of (each (fitting p k) (map tree_of (drop i vs))) ≡ (fitting p k (tree_of x) >>= λ xs. nothing_of (each (fitting p k) (map tree_of (drop (i + 1) vs))))
each_first p k vs i x is below =
    rw add-one (ap (λ us. nothing_of (each (fitting p k) (map tree_of us))) (drop-cons vs i x below ∙ ap (λ y. y ∷ drop (suc i) vs) (sym is)) ∙ turned (fitting p k (tree_of x)))
  where
    turned : (f : Outcome (List Tree)) → nothing_of (f >>= λ xs. each (fitting p k) (map tree_of (drop (suc i) vs)) >>= λ yss. Ok (xs ∷ yss)) ≡ (f >>= λ xs. nothing_of (each (fitting p k) (map tree_of (drop (suc i) vs))))
    turned (Ok xs) = each_nothing (each (fitting p k) (map tree_of (drop (suc i) vs))) xs
    turned (Err g) = refl

tried_each : (p : Place) (k : ℕ) (v : Value) (ts : List Tree) → v ≡ Set ts → tried_set p k (tree_of v) ≡ (each (fitting p k) ts >>= λ xss. Ok (tree_of v))
tried_each p k v ts e =
    subst (λ (u : Value). tried_set p k (tree_of u) ≡ (each (fitting p k) ts >>= λ xss. Ok (tree_of u))) (sym e) (ap (λ us. each (fitting p k) us >>= λ xss. Ok (set (trees ts))) (members-trees ts))

passes : (o : Outcome (List (List Tree))) (t : Tree) (r : Outcome (Unit {0})) → GivesBy (λ (u : Unit {0}). u) r (nothing_of o) → GivesBy (λ (u : Unit {0}). t) r (o >>= λ xss. Ok t)
passes (Ok xss) t (Ok u) h = refl
passes (Ok xss) t (Err f) (inl e) = inl e
passes (Ok xss) t (Err f) (inr e) = cc
passes (Err g) t (Ok u) h = cc
passes (Err g) t (Err f) (inl e) = inl e
passes (Err g) t (Err f) (inr e) = inr cc

pub set_tried : (p : Place) (k : ℕ) (v : Value) (ts : List Tree) (r : Outcome (Unit {0})) → v ≡ Set ts → GivesBy (λ (u : Unit {0}). u) r (nothing_of (each (fitting p k) ts)) → GivesBy (λ (u : Unit {0}). tree_of v) r (tried_set p k (tree_of v))
set_tried p k v ts r e h = subst (λ o. GivesBy (λ (u : Unit {0}). tree_of v) r o) (sym (tried_each p k v ts e)) (passes (each (fitting p k) ts) (tree_of v) r h)
