-- How the bytes that wait change.
use Rattle.std.proofs.Common.{◌≡◌, ℕ, ◌+◌, ◌-◌, ◌≤◌, List, ◌++◌, length, take, drop, sym, ap, ◌∙◌, arith, length-take}
use Rattle.std.specs.List.{slice_range}
use Rattle.std.proofs.lemmas.List.{drop-take, drop-drop, drop-append-le, length-take-le}
use Rattle.std.proofs.lemmas.Slice.{take-put_mid}
use borrow.Rule.Slice.PartMut.{put_mid}

-- the first n of them were removed
pub range_rest : (xs : List ℕ) (from to n : ℕ) → n ≤ to - from → slice_range xs (from + n) to ≡ drop n (slice_range xs from to)
range_rest xs from to n within =
    let rest = to - (from + n) in
    let whole : to - from ≡ n + rest = omega arith in
    rw whole (sym (drop-take n rest (drop from xs) ∙ ap (take rest) (drop-drop n from xs)))

range_is : (xs : List ℕ) (from to : ℕ) → from ≤ to → slice_range xs from to ≡ drop from (take to xs)
range_is xs from to within =
    let whole : to ≡ from + (to - from) = omega arith in
    sym (ap (λ k. drop from (take k xs)) whole ∙ drop-take from (to - from) xs)

-- n more, ys, were appended
pub range_more : (xs ys put : List ℕ) (from to k n : ℕ) → put ≡ ys → length ys ≡ n → from ≤ to → to ≤ length xs
    → slice_range (put_mid to k xs put) from (to + n) ≡ slice_range xs from to ++ ys
range_more xs ys put from to k n same count within fits =
    let front = take to xs in
    let long : from ≤ length front = omega (arith, length-take-le to xs fits) in
    let end : to + n ≡ to + length put = omega (arith, ap length same) in
    range_is _ from (to + n) (omega arith)
    ∙ ap (drop from) (take-put_mid to k xs put (to + n) end fits)
    ∙ ap (λ l. drop from (front ++ l)) same
    ∙ drop-append-le from front ys long
    ∙ ap (λ l. l ++ ys) (sym (range_is xs from to within))

-- at most as many bytes wait as were taken
pub range_within : (xs : List ℕ) (from to given : ℕ) → to - from ≤ given → length (slice_range xs from to) ≤ given
range_within xs from to given within = omega (arith, length-take (to - from) (drop from xs))
