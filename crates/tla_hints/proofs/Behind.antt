-- Columns after one more byte.
use Rattle.std.proofs.Common.{◌≡◌, ℕ, ◌+◌, ◌-◌, ◌*◌, ◌/◌, ◌<◌, ◌≤◌, ◌≢◌, List, [], ◌∷◌, ◌++◌, take, length, get_or, refl, arith, length-take, true, false}
use Rattle.std.proofs.lemmas.List.{take_more, take_all}
use Rattle.tla_lex.specs.Places.{is_inner}
use Rattle.tla_hints.specs.Columns.{column_after, column_from, column_behind}

column_from-push : (column : ℕ) (xs : List ℕ) (b : ℕ) → column_from column (xs ++ b ∷ []) ≡ column_after (column_from column xs) b
column_from-push column [] b = refl
column_from-push column (x ∷ xs) b = column_from-push (column_after column x) xs b

pub column_behind_push : (xs : List ℕ) (b : ℕ) → column_behind (xs ++ b ∷ []) ≡ column_after (column_behind xs) b
column_behind_push xs b = column_from-push 1 xs b

pub column_behind_more : (line : List ℕ) (i : ℕ) → i < length line → column_behind (take (i + 1) line) ≡ column_after (column_behind (take i line)) (get_or line i 0)
column_behind_more line i h = rw (take_more line i 0 h) (column_from-push 1 (take i line) (get_or line i 0))

tab_one : (n : ℕ) → 0 < n → (n - 1) / 8 * 8 + 9 ≤ n + 8
tab_one n h = omega arith

after_one : (n b : ℕ) → 0 < n → column_after n b ≤ n + 8
after_one n b h = let t = tab_one n h in grind (arith, t)

some_one : (n b : ℕ) → 0 < n → 0 < column_after n b
some_one n b h = grind arith

some_from : (n : ℕ) (xs : List ℕ) → 0 < n → 0 < column_from n xs
some_from n [] h = h
some_from n (x ∷ xs) h = some_from (column_after n x) xs (some_one n x h)

from_bound : (n : ℕ) (xs : List ℕ) → 0 < n → column_from n xs ≤ n + 8 * length xs
from_bound n [] k = omega arith
from_bound n (x ∷ xs) k = let h = from_bound (column_after n x) xs (some_one n x k) in let g = after_one n x k in omega (arith, h, g)

pub behind_some : (xs : List ℕ) → 0 < column_behind xs
behind_some xs = some_from 1 xs (omega arith)

pub behind_bound : (line : List ℕ) (i : ℕ) → column_behind (take i line) ≤ 8 * i + 1
behind_bound line i = let h = from_bound 1 (take i line) (omega arith) in let m = length-take i line in let g : length (take i line) ≤ i = omega (arith, m) in omega (arith, h, g)

-- a tab, the first byte of a character, and further bytes of one
pub behind_tab : (blanks line : List ℕ) (i : ℕ) → i < length line → column_behind blanks ≡ column_behind (take i line) → get_or line i 0 ≡ 9 → column_behind (blanks ++ 9 ∷ []) ≡ column_behind (take (i + 1) line)
behind_tab blanks line i h e b = rw (column_behind_push blanks 9, column_behind_more line i h, b, e) refl

one_more : (column b : ℕ) → b ≢ 9 → is_inner b ≡ false → column_after column b ≡ column + 1
one_more column b n i = grind (arith, i)

pub behind_character : (blanks line : List ℕ) (i : ℕ) → i < length line → column_behind blanks ≡ column_behind (take i line) → get_or line i 0 ≢ 9 → is_inner (get_or line i 0) ≡ false → column_behind (blanks ++ 32 ∷ []) ≡ column_behind (take (i + 1) line)
behind_character blanks line i h e n inner =
    rw (column_behind_push blanks 32, column_behind_more line i h, one_more (column_behind (take i line)) (get_or line i 0) n inner, e) refl

none_more : (column b : ℕ) → b ≢ 9 → is_inner b ≡ true → column_after column b ≡ column
none_more column b n i = grind (arith, i)

pub behind_inner : (blanks line : List ℕ) (i : ℕ) → i < length line → column_behind blanks ≡ column_behind (take i line) → get_or line i 0 ≢ 9 → is_inner (get_or line i 0) ≡ true → column_behind blanks ≡ column_behind (take (i + 1) line)
behind_inner blanks line i h e n inner =
    rw (column_behind_more line i h, none_more (column_behind (take i line)) (get_or line i 0) n inner) e

pub inner_low : (b : ℕ) → b < 128 → is_inner b ≡ false
inner_low b h = grind arith

pub inner_high : (b : ℕ) → 192 ≤ b → is_inner b ≡ false
inner_high b h = grind arith

pub inner_between : (b : ℕ) → 128 ≤ b → b < 192 → is_inner b ≡ true
inner_between b l h = grind arith

pub whole_line : (line : List ℕ) (i : ℕ) (n : ℕ) → length line ≤ i → n ≡ column_behind (take i line) → n ≡ column_behind line
whole_line line i n h e = rw (take_all i line h) at e
