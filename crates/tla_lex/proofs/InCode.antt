-- Each token begins and ends in code.
use Rattle.std.proofs.Common.{◌≡◌, ◌≤◌, ◌<◌, ◌+◌, ◌-◌, ◌⊎◌, inl, inr, ℕ, zero, suc, Bool, true, false, not, ◌&&◌, ◌||◌, if◌then◌else◌, Some, List, [], ◌∷◌, ◌++◌, take, drop, length, codes, length-drop, take-append-drop, refl, sym, ap, ◌∙◌, subst, arith}
use Rattle.std.specs.Prelude.{IsTrue, nat_le, ◌==◌}
use Rattle.std.specs.List.{list_all}
use Rattle.std.specs.Str.{bytes_eq}
use Rattle.std.proofs.lemmas.Bool.{cases_Bool, cases_lt}
use Rattle.std.proofs.lemmas.Bool.Decides.{Decides-eqb, nat_tests}
use Rattle.std.proofs.lemmas.Slice.Eq.{bytes_eq-Decides}
use Rattle.std.proofs.lemmas.List.{drop-drop, drop_all}
use Rattle.tla_lex.specs.Bytes.{Bytes, first, is_word, is_letter, is_dash, is_quote, is_backslash, is_blank}
use Rattle.tla_lex.specs.Gap.{gap}
use Rattle.tla_lex.specs.InCode.{code, region_behind, StayInCode}
use Rattle.tla_lex.specs.LongestToken.{symbol, IsListed, BeginsWith, IsLongest, AreLongest}
use Rattle.tla_lex.specs.Lexeme.{lexeme}
use Rattle.tla_lex.specs.Module.{on_turn, region_of_code, region_after}
use Rattle.tla_lex.specs.Places.{place_at}
use Rattle.tla_lex.specs.Reads.{Reads, front, behind, begun, begun_at, token_at}
use Rattle.tla_lex.specs.StringLoops.{string, end_from}
use Rattle.tla_lex.specs.Symbols.{symbols, operators}
use Rattle.tla_lex.specs.declared.closing.Region.TheVariants.{Code, Text}
use Rattle.tla_lex.specs.declared.gap.Gap.{Gap}
use Rattle.tla_lex.specs.declared.gap.Gap.TheVariants.{End, Open}
use Rattle.tla_lex.specs.declared.gap.Mode.TheVariants.{Depth, Second}
use Rattle.tla_lex.specs.declared.lexeme.Lexeme.{Lexeme}
use Rattle.tla_lex.specs.declared.lexeme.Lexeme.TheVariants.{Found, Fault}
use Rattle.tla_lex.specs.declared.lexeme.Source.{Source}
use Rattle.tla_lex.specs.declared.scan.Front.TheVariants.{Begins, Stops}
use Rattle.tla_lex.specs.declared.scan.Stop.{Stop}
use Rattle.tla_lex.specs.declared.scan.Stop.TheVariants as stops
use Rattle.tla_lex.specs.declared.token.Kind.{Kind}
use Rattle.tla_lex.specs.declared.token.Kind.TheVariants as kinds
use Rattle.tla_lex.specs.declared.token.Token.{Token}
use Rattle.tla_lex.proofs.LongestOther.{end_longer}
use Rattle.tla_lex.proofs.QuotedFound.{string_found}
use Rattle.tla_lex.proofs.LongestTokens.{longest_tokens}
use Rattle.tla_lex.proofs.Plain.{IsPlain, apart, plain_run, behind_cut, in_string, string_run}
use Rattle.tla_lex.proofs.Runs.{clash, both, listed_meets, lookup_listed}
use Rattle.tla_lex.proofs.Shapes.{Marked, quote, dashes, letters, other, shape, symbol_no_quote, backslash_no_quote, operator_backslash, operator_letters, negates, either}
use Rattle.tla_lex.proofs.GapInCode.{IsBegun, GapGoes, gap_run}

-- the first byte of a token leads where code leads
first_goes : (b : ℕ) (rest : Bytes) → IsBegun (b ∷ rest) → region_after code b (first rest) ≡ region_of_code b (first rest)
first_goes b rest h = ap (λ o. on_turn o (region_of_code b (first rest))) h

stays : (b next : ℕ) → is_quote b ≡ false → ((b == 47 && is_backslash next) || (is_backslash b && next == 47)) ≡ false → region_of_code b next ≡ code
stays b next q m = subst (λ x. (if x then Text else if (b == 47 && is_backslash next) || (is_backslash b && next == 47) then Code (Second 0) else code) ≡ code) (sym q)
    (subst (λ x. (if x then Code (Second 0) else code) ≡ code) (sym m) refl)

words_plain : IsPlain is_word
words_plain = record { no_32 = refl; no_9 = refl; no_10 = refl; no_12 = refl; no_13 = refl; no_92 = refl; no_40 = refl; no_34 = refl; no_47 = refl }

dashes_plain : IsPlain is_dash
dashes_plain = record { no_32 = refl; no_9 = refl; no_10 = refl; no_12 = refl; no_13 = refl; no_92 = refl; no_40 = refl; no_34 = refl; no_47 = refl }

letters_plain : IsPlain is_letter
letters_plain = record { no_32 = refl; no_9 = refl; no_10 = refl; no_12 = refl; no_13 = refl; no_92 = refl; no_40 = refl; no_34 = refl; no_47 = refl }

-- a byte that stands after the first of a symbol, conjunction and disjunction aside
abbrev is_tame : ℕ → Bool
is_tame b = not (is_blank b) && not (is_backslash b) && not (b == 40) && not (is_quote b) && not (b == 47)

tame_plain : IsPlain is_tame
tame_plain = record { no_32 = refl; no_9 = refl; no_10 = refl; no_12 = refl; no_13 = refl; no_92 = refl; no_40 = refl; no_34 = refl; no_47 = refl }

-- conjunction and disjunction
abbrev is_junction : Bytes → Bool
is_junction w = bytes_eq w (codes "/\\") || bytes_eq w (codes "\\/")

abbrev is_tame_symbol : Bytes → Bool
is_tame_symbol w = list_all is_tame (drop 1 w) && (not (first w == 47) || nat_le 2 (length w))

at_most : (a b : ℕ) → nat_le a b ≡ true → a ≤ b
at_most a b h = grind (arith, nat_tests)

two_at_least : (w : Bytes) (kind : Kind) → IsListed w kind operators → 2 ≤ length w
two_at_least w kind h = at_most 2 (length w) (listed_meets (λ v. nat_le 2 (length v)) operators refl w kind h)

and_false : (b : Bool) → (b && false) ≡ false
and_false true = refl
and_false false = refl

neither : (x y : Bool) → ((x && false) || (y && false)) ≡ false
neither true true = refl
neither true false = refl
neither false true = refl
neither false false = refl

-- a first byte after which a plain one stands
plain_next : (p : ℕ → Bool) → IsPlain p → (b next : ℕ) → is_quote b ≡ false → IsTrue (p next) → region_of_code b next ≡ code
plain_next p plain b next q h = stays b next q
    (subst (λ x. ((b == 47 && x) || (is_backslash b && next == 47)) ≡ false) (sym (apart p next 92 h plain.no_92))
    (subst (λ x. ((b == 47 && false) || (is_backslash b && x)) ≡ false) (sym (apart p next 47 h plain.no_47)) (neither (b == 47) (is_backslash b))))

first_of_taken : (p : ℕ → Bool) (n : ℕ) (bs : Bytes) → 0 < length (take n bs) → IsTrue (list_all p (take n bs)) → IsTrue (p (first bs))
first_of_taken p zero [] l all = absurd (omega arith)
first_of_taken p (suc n) [] l all = absurd (omega arith)
first_of_taken p zero (b ∷ rest) l all = absurd (omega arith)
first_of_taken p (suc n) (b ∷ rest) l all = (both (p b) (list_all p (take n rest)) all).0

-- a byte, and plain ones after it
plain_tail : (p : ℕ → Bool) → IsPlain p → (n b : ℕ) (rest : Bytes) → IsBegun (b ∷ rest) → region_of_code b (first rest) ≡ code → IsTrue (list_all p (take n rest)) → region_behind code (suc n) (b ∷ rest) ≡ code
plain_tail p plain n b rest begun stay all = subst (λ r. region_behind r n rest ≡ code) (sym (first_goes b rest begun ∙ stay)) (plain_run p plain n rest all)

junction_goes : (x y n : ℕ) (bs : Bytes) → take n bs ≡ x ∷ y ∷ [] → ((rest : Bytes) → region_behind code 2 (x ∷ y ∷ rest) ≡ code) → region_behind code n bs ≡ code
junction_goes x y n bs e h =
    let whole : bs ≡ x ∷ y ∷ drop n bs = sym (take-append-drop n bs) ∙ ap (λ w. w ++ drop n bs) e in
    let two : length (take n bs) ≡ 2 = ap length e in
    behind_cut code n bs ∙ ap (λ k. region_behind code k bs) two ∙ subst (λ v. region_behind code 2 v ≡ code) (sym whole) (h (drop n bs))

-- a string that is closed within the first n bytes
quote_goes : (n b : ℕ) (rest : Bytes) (kind : Kind) → IsBegun (b ∷ rest) → IsTrue (is_quote b) → string (b ∷ take n rest) ≡ Found kind (length (b ∷ take n rest)) → region_behind code (suc n) (b ∷ rest) ≡ code
quote_goes n b rest kind begun q h =
    let end : end_from false 1 (take n rest) ≡ Some (length (b ∷ take n rest)) = (string_found (b ∷ take n rest) kind (length (b ∷ take n rest)) h).0 in
    let r : (j : ℕ) × (1 + j ≡ length (b ∷ take n rest)) × (region_behind (in_string false) j rest ≡ code) = string_run false 1 (length (b ∷ take n rest)) rest (end_longer false 1 (length (b ∷ take n rest)) n rest end) in
    let same : r.0 ≡ length (take n rest) = omega (arith, r.1) in
    let opens : region_after code b (first rest) ≡ Text = first_goes b rest begun ∙ subst (λ x. (if x then Text else if (b == 47 && is_backslash (first rest)) || (is_backslash b && first rest == 47) then Code (Second 0) else code) ≡ Text) (sym q) refl in
    behind_cut code (suc n) (b ∷ rest) ∙ subst (λ x. region_behind x (length (take n rest)) rest ≡ code) (sym opens) (subst (λ j. region_behind Text j rest ≡ code) same r.2)

behind_nothing : (n : ℕ) → region_behind code n [] ≡ code
behind_nothing zero = refl
behind_nothing (suc n) = refl

module _ (source : Source) where
  -- no disjunction is cut
  no_slash : (n b : ℕ) (rest : Bytes) → length (take n rest) ≤ 0 → IsTrue (is_backslash b) → ((m : ℕ) (other : Kind) → suc n < m → m ≤ length (b ∷ rest) → BeginsWith source (b ∷ rest) other m → ⊥) → (first rest == 47) ≡ false
  no_slash n b [] l slash none = refl
  no_slash (suc n) b (c ∷ rest) l slash none = absurd (omega arith)
  no_slash zero b (c ∷ rest) l slash none = elim (cases_Bool (c == 47)) [
    | inr e ↦ e
    | inl e ↦
        let backslash : b ≡ 92 = (Decides-eqb b 92).0 slash in
        let solidus : c ≡ 47 = (Decides-eqb c 47).0 e in
        let or : IsListed (b ∷ c ∷ []) kinds.Or symbols = subst (λ x. IsListed (x ∷ c ∷ []) kinds.Or symbols) (sym backslash) (subst (λ x. IsListed (92 ∷ x ∷ []) kinds.Or symbols) (sym solidus) (lookup_listed symbols (92 ∷ 47 ∷ []) kinds.Or refl)) in
        absurd (none 2 kinds.Or (omega arith) (omega arith) (symbol or))
  ]

  tame_goes : (n b : ℕ) (rest : Bytes) (kind : Kind) → IsBegun (b ∷ rest) → is_quote b ≡ false → IsTrue (list_all is_tame (take n rest)) → IsTrue (not (b == 47) || nat_le 2 (length (b ∷ take n rest)))
      → ((m : ℕ) (other : Kind) → suc n < m → m ≤ length (b ∷ rest) → BeginsWith source (b ∷ rest) other m → ⊥) → region_behind code (suc n) (b ∷ rest) ≡ code
  tame_goes n b rest kind begun q all shape none = elim (cases_lt 0 (length (take n rest))) [
    | inl some ↦ plain_tail is_tame tame_plain n b rest begun (plain_next is_tame tame_plain b (first rest) q (first_of_taken is_tame n rest some all)) all
    | inr alone ↦ plain_tail is_tame tame_plain n b rest begun (stays b (first rest) q (single alone)) all
  ]
    where
      no_solidus : length (take n rest) ≤ 0 → (b == 47) ≡ false
      no_solidus alone = elim (either (not (b == 47)) (nat_le 2 (length (b ∷ take n rest))) shape) [
        | inl e ↦ negates (b == 47) e
        | inr e ↦ let long : 2 ≤ length (b ∷ take n rest) = at_most 2 (length (b ∷ take n rest)) e in absurd (omega arith)
      ]

      single : length (take n rest) ≤ 0 → ((b == 47 && is_backslash (first rest)) || (is_backslash b && first rest == 47)) ≡ false
      single alone = subst (λ x. ((x && is_backslash (first rest)) || (is_backslash b && first rest == 47)) ≡ false) (sym (no_solidus alone)) (by (cases_Bool (is_backslash b)))
        where
          by : (is_backslash b ≡ true) ⊎ (is_backslash b ≡ false) → (is_backslash b && first rest == 47) ≡ false
          by (inl e) = subst (λ x. (is_backslash b && x) ≡ false) (sym (no_slash n b rest alone e none)) (and_false (is_backslash b))
          by (inr e) = subst (λ x. (x && first rest == 47) ≡ false) (sym e) refl

  token_run : (n : ℕ) (bs : Bytes) (kind : Kind) → (0 < length bs → IsBegun bs) → BeginsWith source bs kind n → ((m : ℕ) (other : Kind) → n < m → m ≤ length bs → BeginsWith source bs other m → ⊥) → region_behind code n bs ≡ code
  token_run zero bs kind begun t none = refl
  token_run (suc n) [] kind begun t none = refl
  token_run (suc n) (b ∷ rest) kind begun t none = by (shape source (b ∷ take n rest) (first (drop n rest)) kind t)
    where
      here : IsBegun (b ∷ rest)
      here = begun (omega arith)

      listed : IsListed (b ∷ take n rest) kind symbols → region_behind code (suc n) (b ∷ rest) ≡ code
      listed l = elim (either (is_junction (b ∷ take n rest)) (is_tame_symbol (b ∷ take n rest)) (listed_meets (λ v. is_junction v || is_tame_symbol v) symbols refl (b ∷ take n rest) kind l)) [
        | inl e ↦ elim (either (bytes_eq (b ∷ take n rest) (codes "/\\")) (bytes_eq (b ∷ take n rest) (codes "\\/")) e) [
          | inl f ↦ junction_goes 47 92 (suc n) (b ∷ rest) ((bytes_eq-Decides (b ∷ take n rest) (codes "/\\")).0 f) (λ r. refl)
          | inr f ↦ junction_goes 92 47 (suc n) (b ∷ rest) ((bytes_eq-Decides (b ∷ take n rest) (codes "\\/")).0 f) (λ r. refl)
        ]
        | inr e ↦
            let s = both (list_all is_tame (take n rest)) (not (b == 47) || nat_le 2 (length (b ∷ take n rest))) e in
            tame_goes n b rest kind here (symbol_no_quote (b ∷ take n rest) kind l) s.0 s.1 none
      ]

      by : IsTrue (list_all is_word (b ∷ take n rest)) ⊎ Marked (b ∷ take n rest) (first (drop n rest)) kind → region_behind code (suc n) (b ∷ rest) ≡ code
      by (inl all) = plain_run is_word words_plain (suc n) (b ∷ rest) all
      by (inr (quote q h)) = quote_goes n b rest kind here q h
      by (inr (dashes all four)) = plain_run is_dash dashes_plain (suc n) (b ∷ rest) all
      by (inr (letters l stop)) =
          let two : 2 ≤ length (b ∷ take n rest) = two_at_least (b ∷ take n rest) kind l in
          let all : IsTrue (list_all is_letter (take n rest)) = operator_letters (b ∷ take n rest) kind l in
          let no_quote : is_quote b ≡ false = backslash_no_quote b (operator_backslash (b ∷ take n rest) kind l) in
          plain_tail is_letter letters_plain n b rest here (plain_next is_letter letters_plain b (first rest) no_quote (first_of_taken is_letter n rest (omega arith) all)) all
      by (inr (other l)) = listed l

  module _ (text : Bytes) where
    -- a gap that ends before the text does ends in code
    gap_goes : (at g : ℕ) → gap (drop at text) ≡ End g → (at + g == length text) ≡ false → (region_behind code g (drop at text) ≡ code) × (0 < length (drop (at + g) text) → IsBegun (drop (at + g) text))
    gap_goes at g e more = by (gap_run (Depth 0) 0 0 g (drop at text) e)
      where
        by : GapGoes (Depth 0) 0 (drop at text) g → (region_behind code g (drop at text) ≡ code) × (0 < length (drop (at + g) text) → IsBegun (drop (at + g) text))
        by r = elim (cases_lt r.0 (length (drop at text))) [
          | inl l ↦
              let same : r.0 ≡ g = omega (arith, r.1) in
              let stop : (r.3 ≡ Depth 0) × IsBegun (drop r.0 (drop at text)) = r.5 l in (
                subst (λ j. region_behind code j (drop at text) ≡ code) same (r.4 ∙ ap Code stop.0),
                λ _. subst IsBegun (drop-drop g at text) (subst (λ j. IsBegun (drop j (drop at text))) same stop.1),
              )
          | inr m ↦
              let len = length-drop at text in
              let same : r.0 ≡ g = omega (arith, r.1) in
              let most : r.0 ≤ length (drop at text) = r.2 in
              elim (cases_lt (length text) at) [
                | inl past ↦
                    let none : drop at text ≡ [] = drop_all at text (omega (arith, past)) in
                    let further = length-drop (at + g) text in (
                      subst (λ v. region_behind code g v ≡ code) (sym none) (behind_nothing g),
                      λ some. absurd (omega (arith, some, further, past)),
                    )
                | inr within ↦
                    let ends : at + g ≡ length text = omega (arith, len, same, most, m, within) in
                    clash ((Decides-eqb (at + g) (length text)).1 ends) more
              ]
        ]

    token_goes : (at g : ℕ) (t : Token) → gap (drop at text) ≡ End g → (at + g == length text) ≡ false → t.start ≡ at + g → IsLongest source text t
        → (region_behind code (t.start - at) (drop at text) ≡ code) × (region_behind code (t.end - t.start) (drop t.start text) ≡ code)
    token_goes at g t e more begins longest =
        let r = gap_goes at g e more in
        let size : g ≡ t.start - at = omega (arith, begins) in (
          subst (λ j. region_behind code j (drop at text) ≡ code) size r.0,
          token_run (t.end - t.start) (drop t.start text) t.kind (subst (λ k. 0 < length (drop k text) → IsBegun (drop k text)) (sym begins) r.1) longest.begins longest.none_longer,
        )

    front_goes : (at : ℕ) (t : Token) → front source text at ≡ Begins t → IsLongest source text t → (region_behind code (t.start - at) (drop at text) ≡ code) × (region_behind code (t.end - t.start) (drop t.start text) ≡ code)
    unfolding front
    front_goes at t h longest = by (gap (drop at text)) refl h
      where
        start_of : (here : ℕ) (l : Lexeme) → begun text here l ≡ Begins t → t.start ≡ here
        start_of here (Fault code n) f = absurd (let z : ⊥ = cc in z)
        start_of here (Found kind n) f = let same : token_at text kind here (here + n) ≡ t = cc in sym (ap (λ x. x.start) same)

        at_end : (g : ℕ) (c : Bool) → gap (drop at text) ≡ End g → (at + g == length text) ≡ c → (if c then Stops (stops.End (place_at text (at + g))) else begun_at source text (at + g)) ≡ Begins t
            → (region_behind code (t.start - at) (drop at text) ≡ code) × (region_behind code (t.end - t.start) (drop t.start text) ≡ code)
        at_end g true e o f = absurd (let z : ⊥ = cc in z)
        at_end g false e o f = token_goes at g t e o (start_of (at + g) (lexeme source (drop (at + g) text)) f) longest

        by : (o : Gap) → gap (drop at text) ≡ o → behind source text at o ≡ Begins t → (region_behind code (t.start - at) (drop at text) ≡ code) × (region_behind code (t.end - t.start) (drop t.start text) ≡ code)
        by (Open n) e f = absurd (let z : ⊥ = cc in z)
        by (End g) e f = at_end g (at + g == length text) e refl f

    all_go : (at : ℕ) (ts : List Token) (stop : Stop) → Reads source text at ts stop → AreLongest source text ts → StayInCode text at ts
    all_go at [] stop h longest = tt
    all_go at (t ∷ ts) stop h longest = let r = front_goes at t h.0 longest.0 in (r.0, r.1, all_go t.end ts stop h.1 longest.1)

    pub tokens_in_code : (at : ℕ) (ts : List Token) (stop : Stop) → Reads source text at ts stop → StayInCode text at ts
    tokens_in_code at ts stop h = all_go at ts stop h (longest_tokens source text at ts stop h)
