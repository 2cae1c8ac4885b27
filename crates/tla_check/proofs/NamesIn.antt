-- The names of invariants, or of constraints, one by one.
use Rattle.std.proofs.Common.{◌≡◌, ◌∙◌, ◌+◌, ◌<◌, ℕ, List, [], ◌∷◌, ◌++◌, length, map, take, get_or, refl, sym, ap}
use Rattle.std.proofs.lemmas.List.{take_more}
use Rattle.tla_model.specs.ModelOf.{predicate_of}
use Rattle.tla_model.specs.declared.state_predicate.StatePredicate.{StatePredicate}
use Rattle.tla_check.specs.Checks.{names_in}

names-append : (xs : List StatePredicate) (x : StatePredicate) → names_in (map predicate_of (xs ++ x ∷ [])) ≡ names_in (map predicate_of xs) ++ x.name ∷ []
names-append [] x = refl
names-append (y ∷ xs) x = ap (λ ns. y.name ∷ ns) (names-append xs x)

pub names-more : (xs : List StatePredicate) (i : ℕ) (x : StatePredicate) → i < length xs → x ≡ get_or xs i x
    → names_in (map predicate_of (take (i + 1) xs)) ≡ names_in (map predicate_of (take i xs)) ++ x.name ∷ []
names-more xs i x l is =
    ap (λ ys. names_in (map predicate_of ys)) (take_more xs i x l)
    ∙ names-append (take i xs) (get_or xs i x)
    ∙ ap (λ (y : StatePredicate). names_in (map predicate_of (take i xs)) ++ y.name ∷ []) (sym is)
