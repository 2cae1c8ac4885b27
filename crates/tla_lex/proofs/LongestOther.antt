-- The string, separator, operator or symbol at the front of a text is the longest token there.
use Rattle.std.proofs.Common.{◌≡◌, ◌≤◌, ◌<◌, ◌+◌, ◌-◌, ℕ, zero, suc, Bool, true, false, not, ◌&&◌, if◌then◌else◌, Some, None, [], ◌∷◌, take, drop, length, length-take, refl, sym, ap, ◌∙◌, subst, arith}
use Rattle.std.specs.Prelude.{IsTrue}
use Rattle.std.specs.List.{list_all, prefix_len}
use Rattle.tla_lex.specs.Bytes.{Bytes, first, is_dash, is_quote, is_backslash, is_line_feed}
use Rattle.tla_lex.specs.LongestToken.{quoted, BeginsWith}
use Rattle.tla_lex.specs.StringLoops.{string, end_from}
use Rattle.tla_lex.specs.declared.lexeme.Lexeme.TheVariants.{Found}
use Rattle.tla_lex.specs.declared.lexeme.Source.{Source}
use Rattle.tla_lex.specs.declared.token.Kind.{Kind}
use Rattle.tla_lex.proofs.QuotedFound.{StringFound, string_found, string_is}
use Rattle.tla_lex.proofs.Runs.{clash, run_covers, first_passes, first_taken}
use Rattle.tla_lex.proofs.Shapes.{Marked, quote, dashes, letters, other, symbol_no_quote, symbol_short, operator_backslash, dash_no_quote, backslash_no_quote, backslash_no_dash, quote_no_dash}

-- a string ends after where it began
end_above : (escaped : Bool) (at n : ℕ) (bs : Bytes) → end_from escaped at bs ≡ Some n → at < n
unfolding end_from
end_above escaped at n [] h = absurd (let z : ⊥ = cc in z)
end_above escaped at n (b ∷ rest) h = by (λ g. end_above (is_backslash b && not escaped) (at + 1) n rest g) (is_line_feed b) (is_quote b && not escaped) h
  where
    by : (end_from (is_backslash b && not escaped) (at + 1) rest ≡ Some n → at + 1 < n) → (c d : Bool) → (if c then None else if d then Some (at + 1) else end_from (is_backslash b && not escaped) (at + 1) rest) ≡ Some n → at < n
    by later true d g = absurd (let z : ⊥ = cc in z)
    by later false true g = let same : at + 1 ≡ n = cc in omega (arith, same)
    by later false false g = let more : at + 1 < n = later g in omega (arith, more)

-- it ends there too where the text is cut after it
end_cut : (escaped : Bool) (at n j : ℕ) (bs : Bytes) → end_from escaped at bs ≡ Some n → n ≤ at + j → end_from escaped at (take j bs) ≡ Some n
unfolding end_from
end_cut escaped at n zero bs h l = let more : at < n = end_above escaped at n bs h in absurd (omega (arith, more))
end_cut escaped at n (suc j) [] h l = h
end_cut escaped at n (suc j) (b ∷ rest) h l = by (λ g. end_cut (is_backslash b && not escaped) (at + 1) n j rest g (omega arith)) (is_line_feed b) (is_quote b && not escaped) h
  where
    by : (end_from (is_backslash b && not escaped) (at + 1) rest ≡ Some n → end_from (is_backslash b && not escaped) (at + 1) (take j rest) ≡ Some n) → (c d : Bool) → (if c then None else if d then Some (at + 1) else end_from (is_backslash b && not escaped) (at + 1) rest) ≡ Some n
        → (if c then None else if d then Some (at + 1) else end_from (is_backslash b && not escaped) (at + 1) (take j rest)) ≡ Some n
    by later true d g = g
    by later false true g = g
    by later false false g = later g

-- and where it ends in the text that is cut, it ends in the whole
pub end_longer : (escaped : Bool) (at n j : ℕ) (bs : Bytes) → end_from escaped at (take j bs) ≡ Some n → end_from escaped at bs ≡ Some n
unfolding end_from
end_longer escaped at n zero bs h = absurd (let z : ⊥ = cc in z)
end_longer escaped at n (suc j) [] h = h
end_longer escaped at n (suc j) (b ∷ rest) h = by (λ g. end_longer (is_backslash b && not escaped) (at + 1) n j rest g) (is_line_feed b) (is_quote b && not escaped) h
  where
    by : (end_from (is_backslash b && not escaped) (at + 1) (take j rest) ≡ Some n → end_from (is_backslash b && not escaped) (at + 1) rest ≡ Some n) → (c d : Bool)
        → (if c then None else if d then Some (at + 1) else end_from (is_backslash b && not escaped) (at + 1) (take j rest)) ≡ Some n
        → (if c then None else if d then Some (at + 1) else end_from (is_backslash b && not escaped) (at + 1) rest) ≡ Some n
    by later true d g = g
    by later false true g = g
    by later false false g = later g

nothing : (k : ℕ) (none : Bytes) → none ≡ [] → none ≡ take k none
nothing zero none e = e
nothing (suc k) [] e = refl
nothing (suc k) (b ∷ rest) e = absurd (let z : ⊥ = cc in z)

drop_one : (m : ℕ) (text : Bytes) → 0 < m → drop 1 (take m text) ≡ take (m - 1) (drop 1 text)
drop_one zero text l = absurd (omega arith)
drop_one (suc m) [] l = nothing (suc m - 1) [] refl
drop_one (suc m) (b ∷ rest) l = let same : m ≡ suc m - 1 = omega arith in ap (λ k. take k rest) same

string_end : (text : Bytes) (n m : ℕ) → end_from false 1 (drop 1 text) ≡ Some n → n ≤ m → 0 < m → end_from false 1 (drop 1 (take m text)) ≡ Some n
string_end text n m h l some = subst (λ bs. end_from false 1 bs ≡ Some n) (sym (drop_one m text some)) (end_cut false 1 n (m - 1) (drop 1 text) h (omega arith))

module _ (source : Source) (text : Bytes) (kind : Kind) (n : ℕ) where
  pub string_begins : IsTrue (is_quote (first text)) → string text ≡ Found kind n → BeginsWith source text kind n
  string_begins starts h = let s = string_is text kind n starts h in quoted s.1 s.0

  module _ (m : ℕ) (k : Kind) (less : n < m) (within : m ≤ length text) where
    len : length (take m text) ≡ m
    len = let l = length-take m text in omega (arith, l, within)

    begins : first (take m text) ≡ first text
    begins = first_taken m text (omega (arith, less))

    covered : (p : ℕ → Bool) → IsTrue (list_all p (take m text)) → m ≤ prefix_len p text
    covered p all = run_covers p m text all within

    at_first : (p : ℕ → Bool) → IsTrue (p (first (take m text))) → IsTrue (p (first text))
    at_first p h = subst (λ b. IsTrue (p b)) begins h

    first_of_all : (p : ℕ → Bool) → IsTrue (list_all p (take m text)) → IsTrue (p (first text))
    first_of_all p all = at_first p (first_passes p (take m text) (omega (arith, len, less)) all)

    pub string_longest : IsTrue (is_quote (first text)) → string text ≡ Found kind n → Marked (take m text) (first (drop m text)) k → ⊥
    string_longest starts h (quote a b) =
        let f : StringFound text kind n = string_found text kind n h in
        let g : StringFound (take m text) k (length (take m text)) = string_found (take m text) k (length (take m text)) b in
        let one : Some n ≡ Some (length (take m text)) = sym (string_end text n m f.0 (omega (arith, less)) (omega (arith, less))) ∙ g.0 in
        let same : n ≡ length (take m text) = cc in
        omega (arith, same, len, less)
    string_longest starts h (dashes a b) = clash starts (dash_no_quote (first text) (first_of_all is_dash a))
    string_longest starts h (letters a b) = clash starts (backslash_no_quote (first text) (at_first is_backslash (operator_backslash (take m text) k a)))
    string_longest starts h (other a) = clash starts (subst (λ b. is_quote b ≡ false) begins (symbol_no_quote (take m text) k a))

    pub dashes_longest : 4 ≤ n → n ≡ prefix_len is_dash text → IsTrue (is_dash (first text)) → Marked (take m text) (first (drop m text)) k → ⊥
    dashes_longest four same starts (quote a b) = clash starts (quote_no_dash (first text) (at_first is_quote a))
    dashes_longest four same starts (dashes a b) = let c : m ≤ prefix_len is_dash text = covered is_dash a in omega (arith, c, same, less)
    dashes_longest four same starts (letters a b) = clash starts (backslash_no_dash (first text) (at_first is_backslash (operator_backslash (take m text) k a)))
    dashes_longest four same starts (other a) = let s : length (take m text) ≤ 4 = symbol_short (take m text) k a in omega (arith, s, len, less, four)
