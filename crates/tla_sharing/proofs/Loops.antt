-- Loops over two lists of the same length, item by item.
use Rattle.std.proofs.Common.{◌≡◌, ℕ, suc, ◌+◌, ◌<◌, ◌≤◌, List, [], ◌∷◌, length, get_or, drop, ap, sym, ◌∙◌, add-one, drop-cons}
use Rattle.std.proofs.lemmas.List.{drop_all}

abbrev head_or : {A : Type 0} → A → List A → A
head_or d [] = d
head_or d (x ∷ xs) = x

-- an item that exists doesn't depend on the default
pub same_item : {A : Type 0} (xs : List A) (i : ℕ) (d e : A) → i < length xs → get_or xs i d ≡ get_or xs i e
same_item xs i d e h = sym (ap (head_or d) (drop-cons xs i d h)) ∙ ap (head_or d) (drop-cons xs i e h)

-- two readings of one item
pub read_twice : {A : Type 0} (xs : List A) (i : ℕ) (x y : A) → x ≡ get_or xs i x → y ≡ get_or xs i y → i < length xs → x ≡ y
read_twice xs i x y e f h = e ∙ same_item xs i x y h ∙ sym f

drop-item : {A : Type 0} (xs : List A) (i : ℕ) (x : A) → x ≡ get_or xs i x → i < length xs → drop i xs ≡ x ∷ drop (i + 1) xs
drop-item xs i x e h = rw add-one (drop-cons xs i x h ∙ ap (λ y. y ∷ drop (suc i) xs) (sym e))

module _ {A : Type 0} (R : List A → List A → Type 0) (xs ys : List A) (i : ℕ) (done : R (drop i xs) (drop i ys) → R xs ys) where
  -- what holds of this item and of those after it holds of those from here on
  pub one_more : (x y : A) → x ≡ get_or xs i x → y ≡ get_or ys i y → i < length xs → i < length ys → (R (drop (i + 1) xs) (drop (i + 1) ys) → R (x ∷ drop (i + 1) xs) (y ∷ drop (i + 1) ys)) → R (drop (i + 1) xs) (drop (i + 1) ys) → R xs ys
  one_more x y e f h k cons rest = done (rw (drop-item xs i x e h, drop-item ys i y f k) (cons rest))

  -- and it holds of none
  pub at_end : length xs ≤ i → length ys ≤ i → R [] [] → R xs ys
  at_end h k none = done (rw (drop_all i xs h, drop_all i ys k) none)
