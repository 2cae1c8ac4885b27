-- The closing line begins at the first place.
use Rattle.std.proofs.Common.{◌≡◌, ◌<◌, ◌+◌, ℕ, zero, suc, Bool, true, false, ◌&&◌, if◌then◌else◌, Option, Some, None, [], ◌∷◌, nat_eq, codes, refl, sym, ap, subst, arith}
use Rattle.std.specs.Prelude.{IsTrue}
use Rattle.std.specs.List.{starts_with}
use Rattle.std.proofs.lemmas.Bool.Decides.{Decides-eqb}
use Rattle.tla_lex.specs.Bytes.{Bytes, first}
use Rattle.tla_lex.specs.InCode.{code, ClosesBehind, IsFirstClosing}
use Rattle.tla_lex.specs.Module.{closing_from, is_code, region_after}
use Rattle.tla_lex.specs.declared.closing.Region.{Region}
use Rattle.tla_lex.specs.declared.closing.Region.TheVariants.{Code, Text, Escape}
use Rattle.tla_lex.specs.declared.gap.Mode.TheVariants.{Line, Depth, Second}
use Rattle.tla_lex.proofs.Runs.{clash, both}

pub code_is : (region : Region) → IsTrue (is_code region) → region ≡ code
code_is (Code (Depth n)) h = ap (λ k. Code (Depth k)) ((Decides-eqb n 0).0 h)
code_is (Code Line) h = clash h refl
code_is (Code (Second n)) h = clash h refl
code_is Text h = clash h refl
code_is Escape h = clash h refl

nothing_left : (region : Region) (n : ℕ) → ClosesBehind region [] n → ⊥
nothing_left region zero h = clash h.1 refl
nothing_left region (suc n) h = clash h.1 refl

pub closing_first : (region : Region) (at : ℕ) (text : Bytes) → IsFirstClosing region text at (closing_from region at text)
unfolding closing_from
closing_first region at [] = λ n h. nothing_left region n h
closing_first region at (b ∷ rest) = by (closing_first (region_after region b (first rest)) (at + 1) rest) (is_code region && starts_with nat_eq (b ∷ rest) (codes "====")) refl
  where
    not_here : (is_code region && starts_with nat_eq (b ∷ rest) (codes "====")) ≡ false → ClosesBehind region (b ∷ rest) zero → ⊥
    not_here e h = clash (subst (λ r. IsTrue (is_code r && starts_with nat_eq (b ∷ rest) (codes "===="))) (sym h.0) h.1) e

    further : (o : Option ℕ) → (is_code region && starts_with nat_eq (b ∷ rest) (codes "====")) ≡ false → IsFirstClosing (region_after region b (first rest)) rest (at + 1) o → IsFirstClosing region (b ∷ rest) at o
    further None e later = none
      where
        none : (n : ℕ) → ClosesBehind region (b ∷ rest) n → ⊥
        none zero h = not_here e h
        none (suc n) h = later n h
    further (Some to) e later = (suc later.0, omega (arith, later.1), later.2, none)
      where
        none : (j : ℕ) → j < suc later.0 → ClosesBehind region (b ∷ rest) j → ⊥
        none zero l h = not_here e h
        none (suc j) l h = later.3 j (omega arith) h

    by : IsFirstClosing (region_after region b (first rest)) rest (at + 1) (closing_from (region_after region b (first rest)) (at + 1) rest)
        → (c : Bool) → (is_code region && starts_with nat_eq (b ∷ rest) (codes "====")) ≡ c
        → IsFirstClosing region (b ∷ rest) at (if c then Some at else closing_from (region_after region b (first rest)) (at + 1) rest)
    by later true e =
        let s = both (is_code region) (starts_with nat_eq (b ∷ rest) (codes "====")) e in
        (zero, omega arith, (code_is region s.0, s.1), λ j l h. omega arith)
    by later false e = further (closing_from (region_after region b (first rest)) (at + 1) rest) e later
