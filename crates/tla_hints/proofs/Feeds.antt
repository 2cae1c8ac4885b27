-- Line feeds before one more byte.
use Rattle.std.proofs.Common.{◌≡◌, ◌≢◌, ℕ, ◌+◌, ◌-◌, ◌<◌, ◌==◌, List, length, get_or, refl, arith, false}
use Rattle.std.proofs.lemmas.List.Sums.{count_by_more_yes, count_by_more_no}
use Rattle.tla_hints.specs.Lines.{feeds_before, is_line_feed}

is_no_feed : (b : ℕ) → b ≢ 10 → (b == 10) ≡ false
is_no_feed b h = grind arith

pub feeds_at_feed : (text : List ℕ) (i : ℕ) → i < length text → get_or text i 0 ≡ 10 → feeds_before text (i + 1) ≡ feeds_before text i + 1
feeds_at_feed text i h e = count_by_more_yes is_line_feed text i 0 h (rw e refl)

pub feeds_at_other : (text : List ℕ) (i : ℕ) → i < length text → get_or text i 0 ≢ 10 → feeds_before text (i + 1) ≡ feeds_before text i
feeds_at_other text i h e = count_by_more_no is_line_feed text i 0 h (is_no_feed (get_or text i 0) e)

pub feed_before : (text : List ℕ) (start i : ℕ) → start ≡ i + 1 → get_or text i 0 ≡ 10 → get_or text (start - 1) 0 ≡ 10
feed_before text start i e h = let k : start - 1 ≡ i = omega arith in rw k h
