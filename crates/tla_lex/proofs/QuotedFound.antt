-- What is read as a string is one, and the other way round.
use Rattle.std.proofs.Common.{◌≡◌, ◌+◌, ℕ, suc, inl, inr, Bool, true, false, not, ◌&&◌, ◌||◌, if◌then◌else◌, Option, Some, None, [], ◌∷◌, ◌++◌, take, drop, length, length-append, append_assoc, refl, sym, ap, ◌∙◌, subst, arith}
use Rattle.std.specs.Prelude.{IsTrue}
use Rattle.std.proofs.lemmas.Bool.{cases_Bool}
use Rattle.std.proofs.lemmas.Bool.Decides.{Decides-eqb}
use Rattle.std.proofs.lemmas.List.{take_at, take_all}
use Rattle.tla_lex.specs.Bytes.{Bytes, first, is_line_feed, is_quote, is_backslash}
use Rattle.tla_lex.specs.Comments.{is_inline}
use Rattle.tla_lex.specs.Strings.{IsQuotable, nothing, literal, escaped, is_literal, is_escape, escape, is_unknown, IsString}
use Rattle.tla_lex.specs.StringLoops.{string, end_from, unknown_escape, closed, on_end}
use Rattle.tla_lex.specs.declared.lexeme.Lexeme.TheVariants.{Found}
use Rattle.tla_lex.specs.declared.token.Kind.{Kind}
use Rattle.tla_lex.specs.declared.token.Kind.TheVariants as kinds
use Rattle.tla_lex.proofs.Runs.{clash}

pub literal_byte : (b : ℕ) → is_line_feed b ≡ false → is_quote b ≡ false → is_backslash b ≡ false → IsTrue (is_literal b)
literal_byte b l q s =
    subst (λ x. IsTrue (not (x || is_quote b || is_backslash b))) (sym l) (subst (λ x. IsTrue (not (false || x || is_backslash b))) (sym q) (subst (λ x. IsTrue (not (false || false || x))) (sym s) refl))

literal_not : (b : ℕ) → IsTrue (is_literal b) → (is_line_feed b ≡ false) × (is_quote b ≡ false) × (is_backslash b ≡ false)
literal_not b h = by (is_line_feed b) (is_quote b) (is_backslash b) h
  where
    by : (c d e : Bool) → IsTrue (not (c || d || e)) → (c ≡ false) × (d ≡ false) × (e ≡ false)
    by true d e f = clash f refl
    by false true e f = clash f refl
    by false false true f = clash f refl
    by false false false f = (refl, refl, refl)

-- what a string is that is read
abbrev pub StringFound : Bytes → Kind → ℕ → Type 0
StringFound text kind n = (end_from false 1 (drop 1 text) ≡ Some n) × (closed n (unknown_escape false 1 (drop 1 (take n text))) ≡ Found kind n)

pub string_found : (text : Bytes) (kind : Kind) (n : ℕ) → string text ≡ Found kind n → StringFound text kind n
unfolding string
string_found text kind n h = by (end_from false 1 (drop 1 text)) refl h
  where
    none_found : (k : ℕ) (o : Option ℕ) → closed k o ≡ Found kind n → k ≡ n
    none_found k None g = cc
    none_found k (Some at) g = absurd (let z : ⊥ = cc in z)

    by : (o : Option ℕ) → end_from false 1 (drop 1 text) ≡ o → on_end text o ≡ Found kind n → StringFound text kind n
    by None e g = absurd (let z : ⊥ = cc in z)
    by (Some k) e g =
        let same : k ≡ n = none_found k (unknown_escape false 1 (drop 1 (take k text))) g in
        (e ∙ ap Some same, subst (λ i. closed i (unknown_escape false 1 (drop 1 (take i text))) ≡ Found kind n) same g)

-- where a string ends, after a backslash or not
abbrev pub EndsAt : Bool → ℕ → Bytes → ℕ → Type 0
EndsAt false at bs n = (w rest : Bytes) × (bs ≡ w ++ (34 ∷ rest)) × (n ≡ at + length w + 1) × IsQuotable is_inline w
EndsAt true at bs n = (b : ℕ) × (w : Bytes) × (rest : Bytes) × (bs ≡ b ∷ (w ++ (34 ∷ rest))) × (n ≡ at + 1 + length w + 1) × IsTrue (is_inline b) × IsQuotable is_inline w

pub ends_at : (behind : Bool) (at n : ℕ) (bs : Bytes) → end_from behind at bs ≡ Some n → EndsAt behind at bs n
unfolding end_from
ends_at behind at n [] h = absurd (let z : ⊥ = cc in z)
ends_at true at n (b ∷ rest) h = by (λ g. ends_at false (at + 1) n rest g) (is_line_feed b) (is_quote b) (is_backslash b) refl h
  where
    closes : is_line_feed b ≡ false → EndsAt false (at + 1) rest n → EndsAt true at (b ∷ rest) n
    closes l (w, r, e, size, q) = (b, w, r, ap (λ x. b ∷ x) e, size, ap not l, q)

    by : (end_from false (at + 1) rest ≡ Some n → EndsAt false (at + 1) rest n) → (c d s : Bool) → is_line_feed b ≡ c
        → (if c then None else if d && false then Some (at + 1) else end_from (s && false) (at + 1) rest) ≡ Some n → EndsAt true at (b ∷ rest) n
    by later true d s l g = absurd (let z : ⊥ = cc in z)
    by later false true true l g = closes l (later g)
    by later false true false l g = closes l (later g)
    by later false false true l g = closes l (later g)
    by later false false false l g = closes l (later g)
ends_at false at n (b ∷ rest) h = by (λ e g. ends_at e (at + 1) n rest g) (is_line_feed b) (is_quote b) (is_backslash b) refl refl refl h
  where
    by : ((e : Bool) → end_from e (at + 1) rest ≡ Some n → EndsAt e (at + 1) rest n) → (c d s : Bool) → is_line_feed b ≡ c → is_quote b ≡ d → is_backslash b ≡ s
        → (if c then None else if d && true then Some (at + 1) else end_from (s && true) (at + 1) rest) ≡ Some n → EndsAt false at (b ∷ rest) n
    by later true d s l q k g = absurd (let z : ⊥ = cc in z)
    by later false true s l q k g = let same : at + 1 ≡ n = cc in ([], rest, ap (λ x. x ∷ rest) ((Decides-eqb b 34).0 q), omega (arith, same), nothing)
    by later false false true l q k g = escapes (later true g)
      where
        escapes : EndsAt true (at + 1) rest n → EndsAt false at (b ∷ rest) n
        escapes (c, w, r, e, size, inline, v) = (92 ∷ c ∷ w, r, ap (λ x. x ∷ rest) ((Decides-eqb b 92).0 k) ∙ ap (λ x. 92 ∷ x) e, omega (arith, size), escaped c w inline v)
    by later false false false l q k g = stands (later false g)
      where
        stands : EndsAt false (at + 1) rest n → EndsAt false at (b ∷ rest) n
        stands (w, r, e, size, v) = (b ∷ w, r, ap (λ x. b ∷ x) e, omega (arith, size), literal b w (literal_byte b l q k) v)

pub literal_ends : (at b : ℕ) (rest : Bytes) → IsTrue (is_literal b) → end_from false at (b ∷ rest) ≡ end_from false (at + 1) rest
unfolding end_from
literal_ends at b rest h =
    let n = literal_not b h in
    ap (λ c. if c then None else if is_quote b && true then Some (at + 1) else end_from (is_backslash b && true) (at + 1) rest) n.0
    ∙ ap (λ c. if c && true then Some (at + 1) else end_from (is_backslash b && true) (at + 1) rest) n.1
    ∙ ap (λ c. end_from (c && true) (at + 1) rest) n.2

pub escape_ends : (at b : ℕ) (rest : Bytes) → IsTrue (is_inline b) → end_from false at (92 ∷ b ∷ rest) ≡ end_from false (at + 1 + 1) rest
unfolding end_from
escape_ends at b rest h = by (is_line_feed b) (is_quote b) (is_backslash b) h
  where
    by : (c d s : Bool) → IsTrue (not c) → (if c then None else if d && false then Some (at + 1 + 1) else end_from (s && false) (at + 1 + 1) rest) ≡ end_from false (at + 1 + 1) rest
    by true d s e = clash e refl
    by false true true e = refl
    by false true false e = refl
    by false false true e = refl
    by false false false e = refl

quote_ends : (at : ℕ) (rest : Bytes) → end_from false at (34 ∷ rest) ≡ Some (at + 1)
unfolding end_from
quote_ends at rest = refl

pub ends_here : (w : Bytes) → IsQuotable is_inline w → (at : ℕ) (rest : Bytes) → end_from false at (w ++ (34 ∷ rest)) ≡ Some (at + length w + 1)
ends_here w nothing at rest = let size : at + 1 ≡ at + 0 + 1 = omega arith in quote_ends at rest ∙ ap Some size
ends_here w (literal b v h q) at rest =
    let size : at + 1 + length v + 1 ≡ at + suc (length v) + 1 = omega arith in
    literal_ends at b (v ++ (34 ∷ rest)) h ∙ ends_here v q (at + 1) rest ∙ ap Some size
ends_here w (escaped b v h q) at rest =
    let size : at + 1 + 1 + length v + 1 ≡ at + suc (suc (length v)) + 1 = omega arith in
    escape_ends at b (v ++ (34 ∷ rest)) h ∙ ends_here v q (at + 1 + 1) rest ∙ ap Some size

-- ---- escapes
pub literal_passes : (at b : ℕ) (rest : Bytes) → IsTrue (is_literal b) → unknown_escape false at (b ∷ rest) ≡ unknown_escape false (at + 1) rest
unfolding unknown_escape
literal_passes at b rest h = ap (λ c. if (c && true) && is_unknown (escape (first rest)) then Some at else unknown_escape (c && true) (at + 1) rest) (literal_not b h).2

pub escape_known : (at b : ℕ) (rest : Bytes) → is_unknown (escape b) ≡ false → unknown_escape false at (92 ∷ b ∷ rest) ≡ unknown_escape false (at + 1 + 1) rest
unfolding unknown_escape
escape_known at b rest h = ap (λ c. if c then Some at else unknown_escape true (at + 1) (b ∷ rest)) h ∙ by (is_backslash b)
  where
    by : (s : Bool) → (if (s && false) && is_unknown (escape (first rest)) then Some (at + 1) else unknown_escape (s && false) (at + 1 + 1) rest) ≡ unknown_escape false (at + 1 + 1) rest
    by true = refl
    by false = refl

pub escape_unknown : (at b : ℕ) (rest : Bytes) → is_unknown (escape b) ≡ true → unknown_escape false at (92 ∷ b ∷ rest) ≡ Some at
unfolding unknown_escape
escape_unknown at b rest h = ap (λ c. if c then Some at else unknown_escape true (at + 1) (b ∷ rest)) h

quote_known : (at : ℕ) → unknown_escape false at (34 ∷ []) ≡ None
unfolding unknown_escape
quote_known at = refl

pub all_known : (w : Bytes) → IsQuotable is_inline w → (at : ℕ) → unknown_escape false at (w ++ (34 ∷ [])) ≡ None → IsQuotable is_escape w
all_known w nothing at h = nothing
all_known w (literal b v l q) at h = literal b v l (all_known v q (at + 1) (sym (literal_passes at b (v ++ (34 ∷ [])) l) ∙ h))
all_known w (escaped b v l q) at h = elim (cases_Bool (is_unknown (escape b))) [
  | inl e ↦ let z : Some at ≡ None = sym (escape_unknown at b (v ++ (34 ∷ [])) e) ∙ h in absurd (let w : ⊥ = cc in w)
  | inr e ↦ escaped b v (ap not e) (all_known v q (at + 1 + 1) (sym (escape_known at b (v ++ (34 ∷ [])) e) ∙ h))
]

pub negated : (c : Bool) → IsTrue (not c) → c ≡ false
negated true e = clash e refl
negated false e = refl

pub none_unknown : (w : Bytes) → IsQuotable is_escape w → (at : ℕ) → unknown_escape false at (w ++ (34 ∷ [])) ≡ None
none_unknown w nothing at = quote_known at
none_unknown w (literal b v l q) at = literal_passes at b (v ++ (34 ∷ [])) l ∙ none_unknown v q (at + 1)
none_unknown w (escaped b v l q) at = escape_known at b (v ++ (34 ∷ [])) (negated (is_unknown (escape b)) l) ∙ none_unknown v q (at + 1 + 1)

escape_inline : (b : ℕ) → IsTrue (is_escape b) → IsTrue (is_inline b)
escape_inline b h = elim (cases_Bool (is_line_feed b)) [
  | inl e ↦ clash (subst (λ x. IsTrue (is_escape x)) ((Decides-eqb b 10).0 e) h) refl
  | inr e ↦ ap not e
]

pub inline : (w : Bytes) → IsQuotable is_escape w → IsQuotable is_inline w
inline w nothing = nothing
inline w (literal b v l q) = literal b v l (inline v q)
inline w (escaped b v l q) = escaped b v (escape_inline b l) (inline v q)

-- ---- strings
pub string_is : (text : Bytes) (kind : Kind) (n : ℕ) → IsTrue (is_quote (first text)) → string text ≡ Found kind n → (kind ≡ kinds.Text) × IsString (take n text)
string_is [] kind n starts h = clash starts refl
string_is (b ∷ rest) kind n starts h =
    let f : StringFound (b ∷ rest) kind n = string_found (b ∷ rest) kind n h in
    let e : EndsAt false 1 rest n = ends_at false 1 n rest f.0 in
    let w = e.0 in
    let size = e.3 in
    let parts : length (w ++ (34 ∷ [])) ≡ length w + 1 = length-append w (34 ∷ []) in
    let len : length (34 ∷ (w ++ (34 ∷ []))) ≡ n = omega (arith, size, parts) in
    let whole : b ∷ rest ≡ (34 ∷ (w ++ (34 ∷ []))) ++ e.1 = ap (λ x. x ∷ rest) ((Decides-eqb b 34).0 starts) ∙ ap (λ x. 34 ∷ x) (e.2 ∙ sym (append_assoc w (34 ∷ []) e.1)) in
    let front : take n (b ∷ rest) ≡ 34 ∷ (w ++ (34 ∷ [])) = ap (λ x. take n x) whole ∙ take_at (34 ∷ (w ++ (34 ∷ []))) e.1 n len in
    let known = text_closed (unknown_escape false 1 (w ++ (34 ∷ []))) (subst (λ x. closed n (unknown_escape false 1 (drop 1 x)) ≡ Found kind n) front f.1) in
    (known.0, (w, front, all_known w e.4 1 known.1))
  where
    text_closed : (o : Option ℕ) → closed n o ≡ Found kind n → (kind ≡ kinds.Text) × (o ≡ None)
    text_closed None g = (cc, refl)
    text_closed (Some at) g = absurd (let z : ⊥ = cc in z)

pub string_of : (w : Bytes) → IsString w → IsTrue (is_quote (first w)) × (string w ≡ Found kinds.Text (length w))
unfolding string
string_of w (u, e, q) = (ap (λ x. is_quote (first x)) e, ap string e ∙ by ∙ ap (λ x. Found kinds.Text (length x)) (sym e))
  where
    whole : Bytes
    whole = 34 ∷ (u ++ (34 ∷ []))

    by : on_end (34 ∷ (u ++ (34 ∷ []))) (end_from false 1 (u ++ (34 ∷ []))) ≡ Found kinds.Text (length (34 ∷ (u ++ (34 ∷ []))))
    by =
        let parts : length (u ++ (34 ∷ [])) ≡ length u + 1 = length-append u (34 ∷ []) in
        let size : 1 + length u + 1 ≡ length (34 ∷ (u ++ (34 ∷ []))) = omega (arith, parts) in
        ap (λ o. on_end (34 ∷ (u ++ (34 ∷ []))) o) (ends_here u (inline u q) 1 [] ∙ ap Some size)
        ∙ ap (λ x. closed (length (34 ∷ (u ++ (34 ∷ [])))) (unknown_escape false 1 (drop 1 x))) (take_all (length (34 ∷ (u ++ (34 ∷ [])))) (34 ∷ (u ++ (34 ∷ []))) (omega arith))
        ∙ ap (λ o. closed (length (34 ∷ (u ++ (34 ∷ [])))) o) (none_unknown u q 1)
