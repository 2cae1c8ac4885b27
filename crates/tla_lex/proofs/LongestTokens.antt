-- Each token that is read is the longest at its place.
use Rattle.std.proofs.Common.{◌≡◌, ◌≤◌, ◌<◌, ◌+◌, ◌-◌, ◌⊎◌, inl, inr, ℕ, Bool, true, false, if◌then◌else◌, cond, List, [], ◌∷◌, take, drop, length, length-take, refl, sym, subst, arith}
use Rattle.std.specs.Prelude.{IsTrue, nat_le, nat_lt, ◌==◌}
use Rattle.std.specs.List.{list_all, prefix_len}
use Rattle.std.proofs.lemmas.Bool.{cases_Bool}
use Rattle.std.proofs.lemmas.List.Folds.{length-prefix_len}
use Rattle.std.proofs.lemmas.Bool.Decides.{nat_tests}
use Rattle.tla_lex.specs.Bytes.{Bytes, first, is_word, is_dash, is_quote}
use Rattle.tla_lex.specs.Gap.{gap}
use Rattle.tla_lex.specs.Lexeme.{lexeme}
use Rattle.tla_lex.specs.LongestToken.{separator, BeginsWith, IsLongest, AreLongest}
use Rattle.tla_lex.specs.Places.{place_at}
use Rattle.tla_lex.specs.Reads.{Reads, front, behind, begun, begun_at, token_at}
use Rattle.tla_lex.specs.StringLoops.{string}
use Rattle.tla_lex.specs.Symbols.{symbol}
use Rattle.tla_lex.specs.Words.{word}
use Rattle.tla_lex.specs.declared.gap.Gap.{Gap}
use Rattle.tla_lex.specs.declared.gap.Gap.TheVariants as gaps
use Rattle.tla_lex.specs.declared.lexeme.Lexeme.{Lexeme}
use Rattle.tla_lex.specs.declared.lexeme.Lexeme.TheVariants.{Found, Fault}
use Rattle.tla_lex.specs.declared.lexeme.Source.{Source}
use Rattle.tla_lex.specs.declared.scan.Front.TheVariants.{Begins, Stops}
use Rattle.tla_lex.specs.declared.scan.Stop.{Stop}
use Rattle.tla_lex.specs.declared.scan.Stop.TheVariants.{End}
use Rattle.tla_lex.specs.declared.token.Kind.{Kind}
use Rattle.tla_lex.specs.declared.token.Kind.TheVariants as kinds
use Rattle.tla_lex.specs.declared.token.Token.{Token}
use Rattle.tla_lex.proofs.Runs.{clash, run_passes, first_passes, first_taken}
use Rattle.tla_lex.proofs.Shapes.{Marked, shape}
use Rattle.tla_lex.proofs.LongestWord.{word_begins, word_longest}
use Rattle.tla_lex.proofs.LongestOther.{string_begins, string_longest, dashes_longest}
use Rattle.tla_lex.proofs.LongestOperator.{symbol_begins, symbol_longest}

-- the first n bytes are a token, and no longer one stands there
abbrev Longest : Source → Bytes → Kind → ℕ → Type 0
Longest source text kind n = BeginsWith source text kind n × ((m : ℕ) (other : Kind) → n < m → m ≤ length text → BeginsWith source text other m → ⊥)

below : (a b : ℕ) → nat_lt a b ≡ true → a < b
below a b h = grind (arith, nat_tests)

above : (a b : ℕ) → nat_lt a b ≡ false → b ≤ a
above a b h = grind (arith, nat_tests)

at_most : (a b : ℕ) → nat_le a b ≡ true → a ≤ b
at_most a b h = grind (arith, nat_tests)

more_than : (a b : ℕ) → nat_le a b ≡ false → b < a
more_than a b h = grind (arith, nat_tests)

module _ (p : ℕ → Bool) where
  first_of_run : (text : Bytes) → 0 < prefix_len p text → IsTrue (p (first text))
  first_of_run [] l = absurd (omega arith)
  first_of_run (b ∷ rest) l = elim (cases_Bool (p b)) [
    | inl e ↦ e
    | inr e ↦ let none : 0 < 0 = subst (λ c. 0 < cond c (1 + prefix_len p rest) 0) e l in absurd (omega arith)
  ]

  no_run : (text : Bytes) → prefix_len p text ≤ 0 → 0 < length text → p (first text) ≡ false
  no_run [] l some = absurd (omega arith)
  no_run (b ∷ rest) l some = elim (cases_Bool (p b)) [
    | inl e ↦ let long : 1 + prefix_len p rest ≤ 0 = subst (λ c. cond c (1 + prefix_len p rest) 0 ≤ 0) e l in absurd (omega arith)
    | inr e ↦ e
  ]

module _ (source : Source) (text : Bytes) where
  -- where no word begins, no token is one
  marked : is_word (first text) ≡ false → (m : ℕ) (kind : Kind) → 0 < m → m ≤ length text → BeginsWith source text kind m → Marked (take m text) (first (drop m text)) kind
  marked none m kind some within t = by (shape source (take m text) (first (drop m text)) kind t)
    where
      len : length (take m text) ≡ m
      len = let l = length-take m text in omega (arith, l, within)

      by : IsTrue (list_all is_word (take m text)) ⊎ Marked (take m text) (first (drop m text)) kind → Marked (take m text) (first (drop m text)) kind
      by (inl all) = clash (subst (λ b. IsTrue (is_word b)) (first_taken m text some) (first_passes is_word (take m text) (omega (arith, len, some)) all)) none
      by (inr h) = h

  lexeme_longest : (kind : Kind) (n : ℕ) → lexeme source text ≡ Found kind n → Longest source text kind n
  unfolding lexeme
  lexeme_longest kind n h = by (nat_lt 0 (prefix_len is_word text)) (is_quote (first text)) (nat_le 4 (prefix_len is_dash text)) refl refl refl h
    where
      unmarked : nat_lt 0 (prefix_len is_word text) ≡ false → (m : ℕ) → n < m → m ≤ length text → is_word (first text) ≡ false
      unmarked e m less within = no_run is_word text (above 0 (prefix_len is_word text) e) (omega (arith, less, within))

      by : (a b c : Bool) → nat_lt 0 (prefix_len is_word text) ≡ a → is_quote (first text) ≡ b → nat_le 4 (prefix_len is_dash text) ≡ c
          → (if a then word source (take (prefix_len is_word text) text) else if b then string text else if c then Found kinds.Separator (prefix_len is_dash text) else symbol text) ≡ Found kind n → Longest source text kind n
      by true b c ha hb hc g =
          let some : 0 < prefix_len is_word text = below 0 (prefix_len is_word text) ha in
          (word_begins source text kind n g, word_longest source text kind n g some (first_of_run is_word text some))
      by false true c ha hb hc g =
          (string_begins source text kind n hb g, λ m other less within t. string_longest source text kind n m other less within hb g (marked (unmarked ha m less within) m other (omega (arith, less)) within t))
      by false false true ha hb hc g =
          let four : 4 ≤ prefix_len is_dash text = at_most 4 (prefix_len is_dash text) hc in
          let same : prefix_len is_dash text ≡ n = cc in
          let is : kind ≡ kinds.Separator = cc in
          let len = length-prefix_len is_dash text in
          let long : 4 ≤ length (take (prefix_len is_dash text) text) = omega (arith, four, len) in (
            subst (λ i. BeginsWith source text kind i) same (separator (run_passes is_dash text) long is),
            λ m other less within t. dashes_longest source text kind n m other less within (omega (arith, four, same)) (sym same) (first_of_run is_dash text (omega (arith, four)))
                (marked (unmarked ha m less within) m other (omega (arith, less)) within t),
          )
      by false false false ha hb hc g =
          let few : prefix_len is_dash text < 4 = more_than 4 (prefix_len is_dash text) hc in
          (symbol_begins source text kind n g, λ m other less within t. symbol_longest source text kind n g m other less within hb few (marked (unmarked ha m less within) m other (omega (arith, less)) within t))

module _ (source : Source) (text : Bytes) where
  begun_longest : (at : ℕ) (t : Token) → begun_at source text at ≡ Begins t → IsLongest source text t
  begun_longest at t h = by (lexeme source (drop at text)) refl h
    where
      by : (l : Lexeme) → lexeme source (drop at text) ≡ l → begun text at l ≡ Begins t → IsLongest source text t
      by (Fault code n) e g = absurd (let z : ⊥ = cc in z)
      by (Found kind n) e g =
          let same : token_at text kind at (at + n) ≡ t = cc in
          let r : Longest source (drop at text) kind n = lexeme_longest source (drop at text) kind n e in
          let size : n ≡ at + n - at = omega arith in
          subst (λ x. IsLongest source text x) same (record {
            begins = subst (λ i. BeginsWith source (drop at text) kind i) size r.0;
            none_longer = λ m other less within u. r.1 m other (omega (arith, less)) within u;
          })

  front_longest : (at : ℕ) (t : Token) → front source text at ≡ Begins t → IsLongest source text t
  unfolding front
  front_longest at t h = by (gap (drop at text)) h
    where
      by : (g : Gap) → behind source text at g ≡ Begins t → IsLongest source text t
      by (gaps.Open n) e = absurd (let z : ⊥ = cc in z)
      by (gaps.End n) e = at_end (at + n == length text) e
        where
          at_end : (c : Bool) → (if c then Stops (End (place_at text (at + n))) else begun_at source text (at + n)) ≡ Begins t → IsLongest source text t
          at_end true f = absurd (let z : ⊥ = cc in z)
          at_end false f = begun_longest (at + n) t f

  pub longest_tokens : (at : ℕ) (ts : List Token) (stop : Stop) → Reads source text at ts stop → AreLongest source text ts
  longest_tokens at [] stop h = tt
  longest_tokens at (t ∷ ts) stop h = (front_longest at t h.0, longest_tokens t.end ts stop h.1)
