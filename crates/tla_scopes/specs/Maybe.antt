-- What may not be there.
use Rattle.std.specs.Prelude.{List, [], ◌∷◌, Option, Some, None}

infixl 20 ◌>>=◌
-- goes on with what is there
abbrev pub ◌>>=◌ : {A B : Type 0} → Option A → (A → Option B) → Option B
(Some x) >>= k = k x
None >>= k = None

-- all of them, where each is there
abbrev pub each_of : {A B : Type 0} → (A → Option B) → List A → Option (List B)
each_of f [] = Some []
each_of f (t ∷ ts) = f t >>= λ x. each_of f ts >>= λ xs. Some (x ∷ xs)
