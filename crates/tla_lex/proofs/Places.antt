-- Places, one byte further.
use Rattle.std.proofs.Common.{◌≡◌, ℕ, ◌+◌, ◌-◌, ◌*◌, ◌/◌, ◌<◌, ◌≤◌, List, [], ◌∷◌, ◌++◌, take, length, get_or, refl, arith, add-one, length-take}
use Rattle.std.proofs.Math.Seq.{take-suc}
use Rattle.tla_lex.specs.declared.token.Place.{Place}
use Rattle.tla_lex.specs.Places.{advance, advance_all, place_at, first_place}

advance_snoc : (p : Place) (xs : List ℕ) (b : ℕ) → advance_all p (xs ++ b ∷ []) ≡ advance (advance_all p xs) b
advance_snoc p [] b = refl
advance_snoc p (x ∷ xs) b = advance_snoc (advance p x) xs b

pub place_step : (text : List ℕ) (at : ℕ) → at < length text → place_at text (at + 1) ≡ advance (place_at text at) (get_or text at 0)
unfolding place_at
place_step text at h = rw (add-one, take-suc text at 0 h) (advance_snoc first_place (take at text) (get_or text at 0))

line_one : (p : Place) (b : ℕ) → (advance p b).line ≤ p.line + 1
line_one p b = grind arith

line_all : (p : Place) (xs : List ℕ) → (advance_all p xs).line ≤ p.line + length xs
line_all p [] = omega arith
line_all p (x ∷ xs) = let h = line_all (advance p x) xs in let g = line_one p x in omega (arith, h, g)

tab_one : (n : ℕ) → 0 < n → (n - 1) / 8 * 8 + 9 ≤ n + 8
tab_one n h = omega arith

column_one : (p : Place) (b : ℕ) → 0 < p.column → (advance p b).column ≤ p.column + 8
column_one p b h = let t = tab_one p.column h in grind (arith, t)

some_one : (p : Place) (b : ℕ) → 0 < p.column → 0 < (advance p b).column
some_one p b h = grind arith

some_all : (p : Place) (xs : List ℕ) → 0 < p.column → 0 < (advance_all p xs).column
some_all p [] h = h
some_all p (x ∷ xs) h = some_all (advance p x) xs (some_one p x h)

column_all : (p : Place) (xs : List ℕ) → 0 < p.column → (advance_all p xs).column ≤ p.column + 8 * length xs
column_all p [] k = omega arith
column_all p (x ∷ xs) k = let h = column_all (advance p x) xs (some_one p x k) in let g = column_one p x k in omega (arith, h, g)

pub line_bound : (text : List ℕ) (at : ℕ) → (place_at text at).line ≤ at + 1
unfolding place_at
line_bound text at = let h = line_all first_place (take at text) in let m = length-take at text in let g : length (take at text) ≤ at = omega (arith, m) in omega (arith, h, g)

pub column_bound : (text : List ℕ) (at : ℕ) → (place_at text at).column ≤ 8 * at + 1
unfolding place_at
column_bound text at = let h = column_all first_place (take at text) (omega arith) in let m = length-take at text in let g : length (take at text) ≤ at = omega (arith, m) in omega (arith, h, g)

pub column_some : (text : List ℕ) (at : ℕ) → 0 < (place_at text at).column
unfolding place_at
column_some text at = some_all first_place (take at text) (omega arith)
