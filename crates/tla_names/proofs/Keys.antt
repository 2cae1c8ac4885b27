-- Names in a table.
use Rattle.std.proofs.Common.{◌≡◌, refl, ap, Bool, true, false, List, [], ◌∷◌, map}
use Rattle.std.specs.Prelude.{not, ◌||◌}
use Rattle.std.specs.Borrow.{Bor}
use Rattle.std.specs.List.{list_any}
use Rattle.std.specs.Str.{bytes_eq}
use Rattle.tla_config.specs.Names.{Name, is_among}

-- a name is among the keys of a table
pub among_keys : (x : Name) (ks : List (Bor Name)) → list_any (λ (k : Bor Name). bytes_eq x k.now) ks ≡ is_among x (map (λ (k : Bor Name). k.now) ks)
among_keys x [] = refl
among_keys x (k ∷ ks) = ap (λ b. bytes_eq x k.now || b) (among_keys x ks)

pub not_new : (a b : Bool) → a ≡ not b → a ≡ false → b ≡ true
not_new a true p q = refl
not_new a false p q = let z : ⊥ = cc in absurd z
