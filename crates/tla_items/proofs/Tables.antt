-- References in a table.
use Rattle.std.proofs.Common.{◌≡◌, refl, ap, ◌∙◌, sym, Bool, true, false, List, [], ◌∷◌, ◌++◌, map, Option, Some, None}
use Rattle.std.specs.Prelude.{is_some, unwrap_or}
use Rattle.std.specs.Borrow.{Bor}
use Rattle.std.specs.Map.{lookup}
use Rattle.std.specs.Str.{bytes_eq}
use Rattle.std.proofs.lemmas.Slice.Eq.{bytes_eq-Decides}
use Rattle.tla_config.specs.Names.{Name}
use Rattle.tla_items.specs.References.{Reference, next_names}

abbrev pub Row : Type 0
Row = Bor Name × List Name

abbrev pub row : Row → Reference
row e = (e.0.now, e.1)

abbrev pub named : Name → Bor Name → Bool
named x k = bytes_eq x k.now

pub next_lookup : (x : Name) (es : List Row) → next_names (map row es) x ≡ unwrap_or (lookup (named x) es) []
next_lookup x [] = refl
next_lookup x (e ∷ es) = at (bytes_eq x e.0.now) refl (next_lookup x es)
  where
    at : (b : Bool) → bytes_eq x e.0.now ≡ b → next_names (map row es) x ≡ unwrap_or (lookup (named x) es) [] → next_names (map row (e ∷ es)) x ≡ unwrap_or (lookup (named x) (e ∷ es)) []
    at true h r = rw h refl
    at false h r = rw h r

pub some_next : (x : Name) (es : List Row) (v : List Name) → Some v ≡ lookup (named x) es → v ≡ next_names (map row es) x
some_next x es v h = ap (λ o. unwrap_or o []) h ∙ sym (next_lookup x es)

pub none_next : (x : Name) (es : List Row) → None ≡ lookup (named x) es → next_names (map row es) x ≡ []
none_next x es h = next_lookup x es ∙ sym (ap (λ o. unwrap_or o []) h)

-- of another name nothing new is known
another : (x : Name) (l : Reference) (rest : List Reference) (es : List Row) → bytes_eq x l.0 ≡ false → next_names (map row es ++ rest) x ≡ next_names (map row es ++ l ∷ rest) x
another x l rest [] h = rw h refl
another x l rest (e ∷ es) h = at (bytes_eq x e.0.now) refl (another x l rest es h)
  where
    at : (b : Bool) → bytes_eq x e.0.now ≡ b → next_names (map row es ++ rest) x ≡ next_names (map row es ++ l ∷ rest) x → next_names (map row (e ∷ es) ++ rest) x ≡ next_names (map row (e ∷ es) ++ l ∷ rest) x
    at true k r = rw k refl
    at false k r = rw k r

-- nor of a name that is known already
pub known_before : (x : Name) (l : Reference) (rest : List Reference) (es : List Row) → is_some (lookup (named l.0) es) ≡ true → next_names (map row es ++ rest) x ≡ next_names (map row es ++ l ∷ rest) x
known_before x l rest [] h = let z : ⊥ = cc in absurd z
known_before x l rest (e ∷ es) h = at (bytes_eq x e.0.now) (bytes_eq l.0 e.0.now) refl refl (λ k. known_before x l rest es k)
  where
    at : (a b : Bool) → bytes_eq x e.0.now ≡ a → bytes_eq l.0 e.0.now ≡ b → (is_some (lookup (named l.0) es) ≡ true → next_names (map row es ++ rest) x ≡ next_names (map row es ++ l ∷ rest) x)
        → next_names (map row (e ∷ es) ++ rest) x ≡ next_names (map row (e ∷ es) ++ l ∷ rest) x
    at true b k m r = rw k refl
    at false true k m r =
        let same : l.0 ≡ e.0.now = (bytes_eq-Decides l.0 e.0.now).0 m in
        rw k (another x l rest es (ap (λ y. bytes_eq x y) same ∙ k))
    at false false k m r = rw k (r (rw m at h))

pub absent : {X : Type 0} (o : Option X) → is_some o ≡ false → o ≡ None
absent None h = refl
absent (Some x) h = let z : ⊥ = cc in absurd z

pub absent_lookup : (x : Name) (es : List Row) → is_some (lookup (named x) es) ≡ false → lookup (named x) es ≡ None
absent_lookup x es h = absent (lookup (named x) es) h

-- a new row at the end
pub added : (es : List Row) (e : Row) (rest : List Reference) → map row (es ++ e ∷ []) ++ rest ≡ map row es ++ row e ∷ rest
added [] e rest = refl
added (f ∷ es) e rest = ap (λ ls. row f ∷ ls) (added es e rest)
