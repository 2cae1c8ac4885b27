-- What the bytes of a token look like, by its first byte.
use Rattle.std.proofs.Common.{◌≡◌, ◌≤◌, ◌<◌, ◌⊎◌, inl, inr, ℕ, Bool, true, false, not, ◌||◌, eqb, true≢false, drop, length, nat_eq, codes, refl, sym, ap, ◌∙◌, subst, arith}
use Rattle.std.specs.Prelude.{IsTrue, nat_le}
use Rattle.std.specs.List.{list_all, starts_with}
use Rattle.std.proofs.lemmas.Bool.Decides.{Decides-eqb, nat_tests}
use Rattle.tla_lex.specs.Bytes.{Bytes, first, is_word, is_letter, is_digit, is_dash, is_quote, is_backslash}
use Rattle.tla_lex.specs.LongestToken.{IsToken, name, digits, underscore, fairness, quoted, separator, operator, symbol, IsListed, fairness_marks, begins_fairness}
use Rattle.tla_lex.specs.StringLoops.{string}
use Rattle.tla_lex.specs.Symbols.{symbols, operators}
use Rattle.tla_lex.specs.declared.lexeme.Lexeme.TheVariants.{Found}
use Rattle.tla_lex.specs.declared.lexeme.Source.{Source}
use Rattle.tla_lex.specs.declared.token.Kind.{Kind}
use Rattle.tla_lex.proofs.QuotedFound.{string_of}
use Rattle.tla_lex.proofs.Runs.{clash, first_passes, first_taken, all_pass, listed_meets, starts_is}

pub negates : (b : Bool) → IsTrue (not b) → b ≡ false
negates true h = absurd (true≢false (sym h))
negates false h = refl

pub either : (a b : Bool) → IsTrue (a || b) → IsTrue a ⊎ IsTrue b
either true b h = inl refl
either false b h = inr h

-- of a byte that is c, what holds of c
at_byte : (c b : ℕ) (test : ℕ → Bool) → IsTrue (eqb b c) → test c ≡ false → test b ≡ false
at_byte c b test h e = subst (λ x. test x ≡ false) (sym ((Decides-eqb b c).0 h)) e

digit_is_word : (b : ℕ) → IsTrue (is_digit b) → IsTrue (is_word b)
digit_is_word b h = subst (λ c. IsTrue (c || is_letter b || eqb b 95)) (sym h) refl

short : (n k : ℕ) → IsTrue (nat_le n k) → n ≤ k
short n k h = grind (arith, nat_tests)

-- symbols begin with no word and no quote, and are at most four bytes long, after a backslash at most two
pub symbol_no_word : (w : Bytes) (kind : Kind) → IsListed w kind symbols → is_word (first w) ≡ false
symbol_no_word w kind h = negates _ (listed_meets (λ v. not (is_word (first v))) symbols refl w kind h)

pub symbol_no_quote : (w : Bytes) (kind : Kind) → IsListed w kind symbols → is_quote (first w) ≡ false
symbol_no_quote w kind h = negates _ (listed_meets (λ v. not (is_quote (first v))) symbols refl w kind h)

pub symbol_short : (w : Bytes) (kind : Kind) → IsListed w kind symbols → length w ≤ 4
symbol_short w kind h = short (length w) 4 (listed_meets (λ v. nat_le (length v) 4) symbols refl w kind h)

pub backslash_short : (w : Bytes) (kind : Kind) → IsListed w kind symbols → IsTrue (is_backslash (first w)) → length w ≤ 2
backslash_short w kind h b = elim (either (not (is_backslash (first w))) (nat_le (length w) 2) (listed_meets (λ v. not (is_backslash (first v)) || nat_le (length v) 2) symbols refl w kind h)) [
  | inl e ↦ clash b (negates (is_backslash (first w)) e)
  | inr e ↦ short (length w) 2 e
]

-- operators are a backslash and letters
pub operator_backslash : (w : Bytes) (kind : Kind) → IsListed w kind operators → IsTrue (is_backslash (first w))
operator_backslash w kind h = listed_meets (λ v. is_backslash (first v)) operators refl w kind h

pub operator_letters : (w : Bytes) (kind : Kind) → IsListed w kind operators → IsTrue (list_all is_letter (drop 1 w))
operator_letters w kind h = listed_meets (λ v. list_all is_letter (drop 1 v)) operators refl w kind h

pub mark_words : (w : Bytes) (kind : Kind) → IsListed w kind fairness_marks → IsTrue (list_all is_word w)
mark_words w kind h = listed_meets (λ v. list_all is_word v) fairness_marks refl w kind h

pub mark_length : (w : Bytes) (kind : Kind) → IsListed w kind fairness_marks → length w ≡ 3
mark_length w kind h = (Decides-eqb (length w) 3).0 (listed_meets (λ v. eqb (length v) 3) fairness_marks refl w kind h)

-- what a token is that isn't made of letters, digits and `_`
pub data Marked (w : Bytes) (next : ℕ) (kind : Kind) : Type 0 where
  quote : IsTrue (is_quote (first w)) → string w ≡ Found kind (length w) → Marked w next kind
  dashes : IsTrue (list_all is_dash w) → 4 ≤ length w → Marked w next kind
  letters : IsListed w kind operators → is_letter next ≡ false → Marked w next kind
  other : IsListed w kind symbols → Marked w next kind

pub shape : (source : Source) (w : Bytes) (next : ℕ) (kind : Kind) → IsToken source w next kind → IsTrue (list_all is_word w) ⊎ Marked w next kind
shape source w next kind (name a b c d e) = inl a
shape source w next kind (digits a b c) = inl (all_pass is_digit is_word digit_is_word w a)
shape source w next kind (underscore a b c) = inl (subst (λ v. IsTrue (list_all is_word v)) (sym a) refl)
shape source w next kind (fairness a) = inl (mark_words w kind a)
shape source w next kind (quoted a b) = let s = string_of w a in inr (quote s.0 (s.1 ∙ ap (λ k. Found k (length w)) (sym b)))
shape source w next kind (separator a b c) = inr (dashes a b)
shape source w next kind (operator a b) = inr (letters a b)
shape source w next kind (symbol a) = inr (other a)

pub marked_no_word : (w : Bytes) (next : ℕ) (kind : Kind) → 0 < length w → Marked w next kind → is_word (first w) ≡ false
marked_no_word w next kind l (quote a b) = at_byte 34 (first w) is_word a refl
marked_no_word w next kind l (dashes a b) = at_byte 45 (first w) is_word (first_passes is_dash w l a) refl
marked_no_word w next kind l (letters a b) = at_byte 92 (first w) is_word (operator_backslash w kind a) refl
marked_no_word w next kind l (other a) = symbol_no_word w kind a

pub dash_no_quote : (b : ℕ) → IsTrue (is_dash b) → is_quote b ≡ false
dash_no_quote b h = at_byte 45 b is_quote h refl

pub backslash_no_quote : (b : ℕ) → IsTrue (is_backslash b) → is_quote b ≡ false
backslash_no_quote b h = at_byte 92 b is_quote h refl

pub backslash_no_dash : (b : ℕ) → IsTrue (is_backslash b) → is_dash b ≡ false
backslash_no_dash b h = at_byte 92 b is_dash h refl

pub quote_no_dash : (b : ℕ) → IsTrue (is_quote b) → is_dash b ≡ false
quote_no_dash b h = at_byte 34 b is_dash h refl

-- a run that begins with a mark of fairness begins with W or S
mark_first : (test : ℕ → Bool) → test 87 ≡ false → test 83 ≡ false → (w : Bytes) → IsTrue (begins_fairness w) → test (first w) ≡ false
mark_first test a b w h = elim (either (starts_with nat_eq w (codes "WF_")) (starts_with nat_eq w (codes "SF_")) h) [
  | inl e ↦ subst (λ c. test c ≡ false) (ap first (starts_is w (codes "WF_") e) ∙ first_taken 3 w (omega arith)) a
  | inr e ↦ subst (λ c. test c ≡ false) (ap first (starts_is w (codes "SF_") e) ∙ first_taken 3 w (omega arith)) b
]

-- no token longer than a mark of fairness begins with one
pub mark_alone : (source : Source) (w : Bytes) (next : ℕ) (kind : Kind) → IsToken source w next kind → IsTrue (begins_fairness w) → 3 < length w → ⊥
mark_alone source w next kind (name a b c d e) h l = clash h c
mark_alone source w next kind (digits a b c) h l = clash (first_passes is_digit w (omega arith) a) (mark_first is_digit refl refl w h)
mark_alone source w next kind (underscore a b c) h l = let one : length w ≡ 1 = ap length a in omega arith
mark_alone source w next kind (fairness a) h l = let three : length w ≡ 3 = mark_length w kind a in omega arith
mark_alone source w next kind (quoted a b) h l = clash (string_of w a).0 (mark_first is_quote refl refl w h)
mark_alone source w next kind (separator a b c) h l = clash (first_passes is_dash w (omega arith) a) (mark_first is_dash refl refl w h)
mark_alone source w next kind (operator a b) h l = clash (operator_backslash w kind a) (mark_first is_backslash refl refl w h)
mark_alone source w next kind (symbol a) h l = clash (ap not (symbol_no_word w kind a)) (mark_first (λ c. not (is_word c)) refl refl w h)
