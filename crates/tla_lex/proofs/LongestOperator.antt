-- The operator or symbol at the front of a text is the longest token there.
use Rattle.std.proofs.Common.{◌≡◌, ◌≤◌, ◌<◌, ◌+◌, ◌⊎◌, inl, inr, ℕ, zero, suc, Bool, true, false, if◌then◌else◌, Option, Some, None, [], ◌∷◌, take, drop, length, nat_eq, length-take, refl, sym, ap, ◌∙◌, subst, arith}
use Rattle.std.specs.Prelude.{IsTrue}
use Rattle.std.specs.List.{prefix_len, starts_with, list_all}
use Rattle.std.proofs.lemmas.Bool.Decides.{Decides-eqb}
use Rattle.tla_lex.specs.Bytes.{Bytes, first, is_letter, is_dash, is_quote, is_backslash}
use Rattle.tla_lex.specs.Longest.{NoneLonger, IsAmong}
use Rattle.tla_lex.specs.LongestToken.{operator, symbol, IsListed, BeginsWith}
use Rattle.tla_lex.specs.Symbols.{symbols, operators, longest, found_len, letters_len, on_operator, symbol as read_symbol}
use Rattle.tla_lex.specs.Words.{Spellings, lookup}
use Rattle.tla_lex.specs.declared.error.LexCode.TheVariants.{Unknown}
use Rattle.tla_lex.specs.declared.lexeme.Lexeme.TheVariants.{Found, Fault}
use Rattle.tla_lex.specs.declared.lexeme.Source.{Source}
use Rattle.tla_lex.specs.declared.token.Kind.{Kind}
use Rattle.tla_lex.proofs.LongestLemmas.{none_longer, is_among}
use Rattle.tla_lex.proofs.Runs.{clash, run_covers, run_stops, run_within, first_taken, starts_from, starts_is, lookup_listed, listed_lookup}
use Rattle.tla_lex.proofs.Shapes.{Marked, quote, dashes, letters, other, backslash_short, operator_backslash, operator_letters}

-- an operator, or the longest symbol where there is none
abbrev SymbolFound : Bytes → Kind → ℕ → Type 0
SymbolFound text kind n =
    (IsTrue (is_backslash (first text)) × (lookup operators (take (letters_len text) text) ≡ Some kind) × (n ≡ letters_len text))
    ⊎ ((IsTrue (is_backslash (first text)) → lookup operators (take (letters_len text) text) ≡ None) × (longest text (Fault Unknown 0) symbols ≡ Found kind n))

symbol_found : (text : Bytes) (kind : Kind) (n : ℕ) → read_symbol text ≡ Found kind n → SymbolFound text kind n
unfolding read_symbol
symbol_found text kind n h = by (is_backslash (first text)) (lookup operators (take (letters_len text) text)) refl refl h
  where
    by : (c : Bool) (o : Option Kind) → is_backslash (first text) ≡ c → lookup operators (take (letters_len text) text) ≡ o
        → (if c then on_operator o (letters_len text) (longest text (Fault Unknown 0) symbols) else longest text (Fault Unknown 0) symbols) ≡ Found kind n → SymbolFound text kind n
    by true (Some k) e f g = let same : k ≡ kind = cc in inl (e, f ∙ ap Some same, cc)
    by true None e f g = inr (λ b. f, g)
    by false o e f g = inr (λ b. clash b e, g)

among_listed : (text : Bytes) (kind : Kind) (n : ℕ) (es : Spellings) → IsAmong text kind n es → IsListed (take n text) kind es
among_listed text kind n [] h = h
among_listed text kind n (e ∷ es) (inl h) = inl (subst (λ i. e.0 ≡ take i text) h.2 (starts_is text e.0 h.0), h.1)
among_listed text kind n (e ∷ es) (inr h) = inr (among_listed text kind n es h)

none_listed : (text : Bytes) (n : ℕ) (w : Bytes) (kind : Kind) (es : Spellings) → NoneLonger text n es → IsListed w kind es → w ≡ take (length w) text → length w ≤ n
none_listed text n w kind [] h l e = absurd l
none_listed text n w kind (x ∷ es) h (inl l) e =
    let starts : IsTrue (starts_with nat_eq text x.0) = starts_from text x.0 (l.0 ∙ e ∙ ap (λ v. take (length v) text) (sym l.0)) in
    let short : length x.0 ≤ n = h.0 starts in
    let same : length x.0 ≡ length w = ap length l.0 in
    omega (arith, short, same)
none_listed text n w kind (x ∷ es) h (inr l) e = none_listed text n w kind es h.1 l e

-- the whole run of letters after the first byte
letters_whole : (m : ℕ) (text : Bytes) → 0 < m → m ≤ length text → IsTrue (list_all is_letter (drop 1 (take m text))) → is_letter (first (drop m text)) ≡ false → letters_len text ≡ m
letters_whole zero text l within all stop = absurd (omega arith)
letters_whole (suc m) [] l within all stop = absurd (omega arith)
letters_whole (suc m) (b ∷ rest) l within all stop =
    let least : m ≤ prefix_len is_letter rest = run_covers is_letter m rest all (omega arith) in
    let most : prefix_len is_letter rest ≤ m = run_within is_letter m rest stop in
    omega (arith, least, most)

letters_stop : (text : Bytes) → IsTrue (is_backslash (first text)) → is_letter (first (drop (letters_len text) text)) ≡ false
letters_stop [] h = refl
letters_stop (b ∷ rest) h =
    let same : suc (prefix_len is_letter rest) ≡ prefix_len is_letter rest + 1 = omega arith in
    subst (λ n. is_letter (first (drop n (b ∷ rest))) ≡ false) same (run_stops is_letter refl rest)

-- a backslash alone is no operator
alone : (text : Bytes) → IsTrue (is_backslash (first text)) → lookup operators (take 1 text) ≡ None
alone [] h = refl
alone (b ∷ rest) h = subst (λ c. lookup operators (c ∷ []) ≡ None) (sym ((Decides-eqb b 92).0 h)) refl

module _ (source : Source) (text : Bytes) (kind : Kind) (n : ℕ) (h : read_symbol text ≡ Found kind n) where
  found_none : (Fault Unknown 0 ≡ Found kind n) ⊎ IsAmong text kind n symbols → IsAmong text kind n symbols
  found_none (inl e) = absurd (let z : ⊥ = cc in z)
  found_none (inr e) = e

  pub symbol_begins : BeginsWith source text kind n
  symbol_begins = elim (symbol_found text kind n h) [
    | inl (b, f, e) ↦ subst (λ m. BeginsWith source text kind m) (sym e) (operator (lookup_listed operators (take (letters_len text) text) kind f) (letters_stop text b))
    | inr (_, f) ↦ symbol (among_listed text kind n symbols (found_none (is_among text (Fault Unknown 0) symbols kind n f)))
  ]

  module _ (m : ℕ) (k : Kind) (less : n < m) (within : m ≤ length text) where
    len : length (take m text) ≡ m
    len = let l = length-take m text in omega (arith, l, within)

    begins : first (take m text) ≡ first text
    begins = first_taken m text (omega (arith, less))

    no_operator : IsListed (take m text) k operators → is_letter (first (drop m text)) ≡ false → ⊥
    no_operator l stop =
        let whole : letters_len text ≡ m = letters_whole m text (omega (arith, less)) within (operator_letters (take m text) k l) stop in
        let slash : IsTrue (is_backslash (first text)) = subst (λ b. IsTrue (is_backslash b)) begins (operator_backslash (take m text) k l) in
        elim (symbol_found text kind n h) [
          | inl (b, f, e) ↦ omega (arith, e, whole, less)
          | inr (f, _) ↦ listed_lookup operators (take m text) k l (subst (λ i. lookup operators (take i text) ≡ None) whole (f slash))
        ]

    no_symbol : IsListed (take m text) k symbols → ⊥
    no_symbol l = elim (symbol_found text kind n h) [
      | inl (b, f, e) ↦
          let short : length (take m text) ≤ 2 = backslash_short (take m text) k l (subst (λ c. IsTrue (is_backslash c)) (sym begins) b) in
          let one : letters_len text ≡ 1 = omega (arith, short, len, less, e) in
          let none : lookup operators (take (letters_len text) text) ≡ None = subst (λ i. lookup operators (take i text) ≡ None) (sym one) (alone text b) in
          let z : ⊥ = cc in z
      | inr (_, f) ↦
          let none : NoneLonger text n symbols = subst (λ x. NoneLonger text (found_len x) symbols) f (none_longer text (Fault Unknown 0) symbols) in
          let whole : take m text ≡ take (length (take m text)) text = ap (λ i. take i text) (sym len) in
          let short : length (take m text) ≤ n = none_listed text n (take m text) k symbols none l whole in
          omega (arith, short, len, less)
    ]

    pub symbol_longest : is_quote (first text) ≡ false → prefix_len is_dash text < 4 → Marked (take m text) (first (drop m text)) k → ⊥
    symbol_longest no_quote few (quote a b) = clash (subst (λ c. IsTrue (is_quote c)) begins a) no_quote
    symbol_longest no_quote few (dashes a b) = let c : m ≤ prefix_len is_dash text = run_covers is_dash m text a within in omega (arith, c, len, few, b)
    symbol_longest no_quote few (letters a b) = no_operator a b
    symbol_longest no_quote few (other a) = no_symbol a
