-- The word at the front of a text is the longest token there.
use Rattle.std.proofs.Common.{◌≡◌, ◌≤◌, ◌<◌, ◌⊎◌, inl, inr, ℕ, Bool, true, false, ◌||◌, if◌then◌else◌, Option, Some, None, take, drop, length, nat_eq, codes, length-take, refl, sym, ap, ◌∙◌, subst, arith}
use Rattle.std.specs.Prelude.{IsTrue}
use Rattle.std.specs.List.{list_all, list_any, prefix_len, starts_with}
use Rattle.std.specs.Str.{bytes_eq}
use Rattle.std.proofs.lemmas.List.{take-take}
use Rattle.std.proofs.lemmas.List.Folds.{length-prefix_len}
use Rattle.std.proofs.lemmas.Slice.Eq.{bytes_eq-Decides}
use Rattle.tla_lex.specs.Bytes.{Bytes, first, is_word, is_letter, is_digit}
use Rattle.tla_lex.specs.LongestToken.{IsToken, name, digits, underscore, fairness, IsListed, fairness_marks, begins_fairness, BeginsWith}
use Rattle.tla_lex.specs.Words.{word, number, value, small, on_small, name_kind, lookup, reserved_words}
use Rattle.tla_lex.specs.declared.error.LexCode.TheVariants.{Unknown}
use Rattle.tla_lex.specs.declared.lexeme.Lexeme.{Lexeme}
use Rattle.tla_lex.specs.declared.lexeme.Lexeme.TheVariants.{Found, Fault}
use Rattle.tla_lex.specs.declared.lexeme.Source.{Source}
use Rattle.tla_lex.specs.declared.lexeme.Source.TheVariants.{Module, Configuration}
use Rattle.tla_lex.specs.declared.token.Kind.{Kind}
use Rattle.tla_lex.specs.declared.token.Kind.TheVariants as kinds
use Rattle.tla_lex.proofs.Numbers.{number_is}
use Rattle.tla_lex.proofs.Runs.{clash, run_covers, run_passes, run_stops, first_taken, starts_is}
use Rattle.tla_lex.proofs.Shapes.{Marked, shape, marked_no_word, mark_alone, mark_length}

number_len : (source : Source) (w : Bytes) (kind : Kind) (n : ℕ) → number source w ≡ Found kind n → n ≡ length w
number_len Configuration w kind n h = cc
number_len Module w kind n h = by (small (value 0 w)) h
  where
    by : (o : Option ℕ) → on_small o (length w) ≡ Found kind n → n ≡ length w
    by None g = absurd (let z : ⊥ = cc in z)
    by (Some v) g = cc

-- what a run of letters, digits and `_` is read as: a mark of fairness, or the whole run
abbrev WordFound : Source → Bytes → Kind → ℕ → Type 0
WordFound source w kind n = (IsTrue (begins_fairness w) × (n ≡ 3) × IsListed (take 3 w) kind fairness_marks) ⊎ ((n ≡ length w) × ((next : ℕ) → is_word next ≡ false → IsToken source w next kind))

abbrev chosen : Source → Bytes → Bool → Bool → Bool → Bool → Bool → Lexeme
chosen source w a b c d e =
    if a then Found kinds.WeakFairness 3
    else if b then Found kinds.StrongFairness 3
    else if c then Found (name_kind (lookup reserved_words w)) (length w)
    else if d then number source w
    else if e then Found kinds.Underscore 1
    else Fault Unknown 0

word_chosen : (source : Source) (w : Bytes) (kind : Kind) (n : ℕ) → IsTrue (list_all is_word w) → (a b c d e : Bool) → starts_with nat_eq w (codes "WF_") ≡ a → starts_with nat_eq w (codes "SF_") ≡ b → list_any is_letter w ≡ c → list_all is_digit w ≡ d → bytes_eq w (codes "_") ≡ e → chosen source w a b c d e ≡ Found kind n → WordFound source w kind n
word_chosen source w kind n all true b c d e ha hb hc hd he h = inl (subst (λ x. IsTrue (x || starts_with nat_eq w (codes "SF_"))) (sym ha) refl, cc, inl (starts_is w (codes "WF_") ha, cc))
word_chosen source w kind n all false true c d e ha hb hc hd he h = inl (subst (λ x. IsTrue (x || starts_with nat_eq w (codes "SF_"))) (sym ha) hb, cc, inr (inl (starts_is w (codes "SF_") hb, cc)))
word_chosen source w kind n all false false true d e ha hb hc hd he h =
    let none : begins_fairness w ≡ false = subst (λ x. (x || starts_with nat_eq w (codes "SF_")) ≡ false) (sym ha) hb in
    let same : kind ≡ name_kind (lookup reserved_words w) = cc in
    inr (cc, λ next stop. name all hc none same stop)
word_chosen source w kind n all false false false true e ha hb hc hd he h =
    let same : n ≡ length w = number_len source w kind n h in
    inr (same, λ next stop. digits hd (number_is source w kind n h) stop)
word_chosen source w kind n all false false false false true ha hb hc hd he h =
    let is : w ≡ codes "_" = (bytes_eq-Decides w (codes "_")).0 he in
    let one : n ≡ 1 = cc in
    let same : kind ≡ kinds.Underscore = cc in
    inr (one ∙ sym (ap length is), λ next stop. underscore is same stop)
word_chosen source w kind n all false false false false false ha hb hc hd he h = absurd (let z : ⊥ = cc in z)

word_found : (source : Source) (w : Bytes) (kind : Kind) (n : ℕ) → IsTrue (list_all is_word w) → word source w ≡ Found kind n → WordFound source w kind n
unfolding word
word_found source w kind n all h = word_chosen source w kind n all (starts_with nat_eq w (codes "WF_")) (starts_with nat_eq w (codes "SF_")) (list_any is_letter w) (list_all is_digit w) (bytes_eq w (codes "_")) refl refl refl refl refl h

module _ (source : Source) (text : Bytes) (kind : Kind) (n : ℕ) (h : word source (take (prefix_len is_word text) text) ≡ Found kind n) where
  found : WordFound source (take (prefix_len is_word text) text) kind n
  found = word_found source (take (prefix_len is_word text) text) kind n (run_passes is_word text) h

  -- a mark of fairness is three bytes of the run
  mark_within : IsListed (take 3 (take (prefix_len is_word text) text)) kind fairness_marks → 3 ≤ prefix_len is_word text
  mark_within l =
      let three : length (take 3 (take (prefix_len is_word text) text)) ≡ 3 = mark_length (take 3 (take (prefix_len is_word text) text)) kind l in
      let least = length-take 3 (take (prefix_len is_word text) text) in
      let len = length-prefix_len is_word text in
      omega (arith, three, least, len)

  pub word_begins : BeginsWith source text kind n
  word_begins = elim found [
    | inl (f, e, l) ↦ subst (λ m. BeginsWith source text kind m) (sym e)
        (fairness (subst (λ w. IsListed w kind fairness_marks) (take-take 3 (prefix_len is_word text) text (mark_within l)) l))
    | inr (e, t) ↦ subst (λ m. BeginsWith source text kind m) (sym (e ∙ length-prefix_len is_word text)) (t (first (drop (prefix_len is_word text) text)) (run_stops is_word refl text))
  ]

  pub word_longest : 0 < prefix_len is_word text → IsTrue (is_word (first text)) → (m : ℕ) (other : Kind) → n < m → m ≤ length text → BeginsWith source text other m → ⊥
  word_longest some starts m other less within t = by (shape source (take m text) (first (drop m text)) other t)
    where
      len : length (take m text) ≡ m
      len = let l = length-take m text in omega (arith, l, within)

      all_words : IsTrue (list_all is_word (take m text)) → ⊥
      all_words all =
          let covered : m ≤ prefix_len is_word text = run_covers is_word m text all within in
          elim found [
            | inl (f, e, l) ↦
                let long : 3 ≤ m = omega (arith, e, less) in
                let same : take 3 (take (prefix_len is_word text) text) ≡ take 3 (take m text) =
                take-take 3 (prefix_len is_word text) text (mark_within l) ∙ sym (take-take 3 m text long) in
                let marked : IsTrue (begins_fairness (take m text)) = marks_alike (take (prefix_len is_word text) text) (take m text) same f in
                mark_alone source (take m text) (first (drop m text)) other t marked (omega (arith, e, less, len))
            | inr (e, _) ↦ let whole = length-prefix_len is_word text in omega (arith, e, whole, covered, less)
          ]
        where
          marks_alike : (v w : Bytes) → take 3 v ≡ take 3 w → IsTrue (begins_fairness v) → IsTrue (begins_fairness w)
          marks_alike v w same f = subst (λ x. IsTrue (bytes_eq (codes "WF_") x || bytes_eq (codes "SF_") x)) same f

      by : IsTrue (list_all is_word (take m text)) ⊎ Marked (take m text) (first (drop m text)) other → ⊥
      by (inl all) = all_words all
      by (inr marked) =
          let first_word : is_word (first (take m text)) ≡ false = marked_no_word (take m text) (first (drop m text)) other (omega (arith, len, less)) marked in
          clash starts (subst (λ b. is_word b ≡ false) (first_taken m text (omega (arith, less))) first_word)
