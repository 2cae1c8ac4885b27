-- What the loops read from a quote on is exactly the string or the fault that begins there.
use Rattle.std.proofs.Common.{◌≡◌, ◌+◌, ℕ, suc, inl, inr, Bool, true, false, not, ◌&&◌, if◌then◌else◌, Option, Some, None, [], ◌∷◌, ◌++◌, take, drop, length, length-append, append_assoc, refl, sym, ap, ◌∙◌, subst, arith}
use Rattle.std.specs.Prelude.{IsTrue}
use Rattle.std.proofs.lemmas.Bool.{cases_Bool}
use Rattle.std.proofs.lemmas.Bool.Decides.{Decides-eqb}
use Rattle.std.proofs.lemmas.List.{take_at}
use Rattle.tla_lex.specs.Bytes.{Bytes, first, is_line_feed, is_quote, is_backslash}
use Rattle.tla_lex.specs.Comments.{is_inline, IsLineEnd}
use Rattle.tla_lex.specs.ScannerLaws.{StringIsFound}
use Rattle.tla_lex.specs.StringLoops.{string, end_from, unknown_escape, closed, on_end}
use Rattle.tla_lex.specs.Strings.{IsQuotable, nothing, literal, escaped, is_escape, escape, is_unknown, unclosed, unclosed_escape, HasUnknownEscape, unknown, BeginsWithString, found, open_string, unknown_first}
use Rattle.tla_lex.specs.declared.error.LexCode.TheVariants.{Unknown, OpenString}
use Rattle.tla_lex.specs.declared.lexeme.Lexeme.{Lexeme}
use Rattle.tla_lex.specs.declared.lexeme.Lexeme.TheVariants.{Found, Fault}
use Rattle.tla_lex.specs.declared.token.Kind.TheVariants as kinds
use Rattle.tla_lex.proofs.QuotedFound.{literal_byte, literal_ends, escape_ends, ends_at, EndsAt, ends_here, literal_passes, escape_known, escape_unknown, all_known, none_unknown, inline, negated}
use Rattle.tla_lex.proofs.Runs.{clash}

-- ---- a string that stays open
-- what there is in an open string, after its quote
data Opened : Bytes → Type 0 where
  line : (w rest : Bytes) → IsQuotable is_inline w → IsLineEnd rest → Opened (w ++ rest)
  cut : (w rest : Bytes) → IsQuotable is_inline w → IsLineEnd rest → Opened (w ++ (92 ∷ rest))

with_literal : (b : ℕ) (bs : Bytes) → IsTrue (not (is_line_feed b)) → is_quote b ≡ false → is_backslash b ≡ false → Opened bs → Opened (b ∷ bs)
with_literal b bs l q s (line w rest o end) = line (b ∷ w) rest (literal b w (literal_byte b (negated (is_line_feed b) l) q s) o) end
with_literal b bs l q s (cut w rest o end) = cut (b ∷ w) rest (literal b w (literal_byte b (negated (is_line_feed b) l) q s) o) end

with_escape : (b : ℕ) (bs : Bytes) → IsTrue (is_inline b) → Opened bs → Opened (92 ∷ b ∷ bs)
with_escape b bs h (line w rest o end) = line (92 ∷ b ∷ w) rest (escaped b w h o) end
with_escape b bs h (cut w rest o end) = cut (92 ∷ b ∷ w) rest (escaped b w h o) end

-- after a backslash or not
abbrev OpenAt : Bool → Bytes → Type 0
OpenAt false bs = Opened bs
OpenAt true bs = Opened (92 ∷ bs)

open_at : (after : Bool) (at : ℕ) (bs : Bytes) → end_from after at bs ≡ None → OpenAt after bs
unfolding end_from
open_at false at [] h = line [] [] nothing tt
open_at true at [] h = cut [] [] nothing tt
open_at true at (b ∷ rest) h = by (λ g. open_at false (at + 1) rest g) (is_line_feed b) (is_quote b) (is_backslash b) refl h
  where
    by : (end_from false (at + 1) rest ≡ None → Opened rest) → (c d s : Bool) → is_line_feed b ≡ c
        → (if c then None else if d && false then Some (at + 1) else end_from (s && false) (at + 1) rest) ≡ None → Opened (92 ∷ b ∷ rest)
    by later true d s l g = cut [] (b ∷ rest) nothing l
    by later false true true l g = with_escape b rest (ap not l) (later g)
    by later false true false l g = with_escape b rest (ap not l) (later g)
    by later false false true l g = with_escape b rest (ap not l) (later g)
    by later false false false l g = with_escape b rest (ap not l) (later g)
open_at false at (b ∷ rest) h = by (λ e g. open_at e (at + 1) rest g) (is_line_feed b) (is_quote b) (is_backslash b) refl refl refl h
  where
    by : ((e : Bool) → end_from e (at + 1) rest ≡ None → OpenAt e rest) → (c d s : Bool) → is_line_feed b ≡ c → is_quote b ≡ d → is_backslash b ≡ s
        → (if c then None else if d && true then Some (at + 1) else end_from (s && true) (at + 1) rest) ≡ None → Opened (b ∷ rest)
    by later true d s l q k g = line [] (b ∷ rest) nothing l
    by later false true s l q k g = absurd (let z : ⊥ = cc in z)
    by later false false true l q k g = subst (λ x. Opened (x ∷ rest)) (sym ((Decides-eqb b 92).0 k)) (later true g)
    by later false false false l q k g = with_literal b rest (ap not l) q k (later false g)

open_of : (bs : Bytes) → Opened bs → BeginsWithString (34 ∷ bs) (Fault OpenString 0)
open_of bs (line w rest o end) = open_string (34 ∷ w) rest (unclosed w rest o end)
open_of bs (cut w rest o end) =
    subst (λ x. BeginsWithString (34 ∷ x) (Fault OpenString 0)) (append_assoc w (92 ∷ []) rest) (open_string (34 ∷ (w ++ 92 ∷ [])) rest (unclosed_escape w rest o end))

line_end : (after : Bool) (at : ℕ) (rest : Bytes) → IsLineEnd rest → end_from after at rest ≡ None
unfolding end_from
line_end after at [] h = refl
line_end after at (b ∷ rest) h = ap (λ c. if c then None else if is_quote b && not after then Some (at + 1) else end_from (is_backslash b && not after) (at + 1) rest) h

lone_backslash : (at : ℕ) (rest : Bytes) → IsLineEnd rest → end_from false at (92 ∷ rest) ≡ None
unfolding end_from
lone_backslash at rest h = line_end true (at + 1) rest h

stays_open : (w rest : Bytes) → IsQuotable is_inline w → ((at : ℕ) → end_from false at rest ≡ None) → (at : ℕ) → end_from false at (w ++ rest) ≡ None
stays_open w rest nothing end at = end at
stays_open w rest (literal b v h o) end at = literal_ends at b (v ++ rest) h ∙ stays_open v rest o end (at + 1)
stays_open w rest (escaped b v h o) end at = escape_ends at b (v ++ rest) h ∙ stays_open v rest o end (at + 1 + 1)

-- ---- a string with unknown escapes
-- its first one, after `at` bytes
abbrev Unknowns : Bytes → ℕ → ℕ → Type 0
Unknowns bs at k = (w : Bytes) × (b : ℕ) × (rest : Bytes) × (bs ≡ w ++ (92 ∷ b ∷ rest)) × IsQuotable is_escape w × (is_escape b ≡ false) × (k ≡ at + length w)

first_unknown : (w : Bytes) → IsQuotable is_inline w → (at k : ℕ) → unknown_escape false at (w ++ (34 ∷ [])) ≡ Some k → Unknowns (w ++ (34 ∷ [])) at k
first_unknown w nothing at k h = absurd (let e : None ≡ Some k = sym (none_unknown [] nothing at) ∙ h in let z : ⊥ = cc in z)
first_unknown w (literal b v l q) at k h = further (first_unknown v q (at + 1) k (sym (literal_passes at b (v ++ (34 ∷ [])) l) ∙ h))
  where
    further : Unknowns (v ++ (34 ∷ [])) (at + 1) k → Unknowns (b ∷ (v ++ (34 ∷ []))) at k
    further (u, c, rest, e, o, n, size) = (b ∷ u, c, rest, ap (λ x. b ∷ x) e, literal b u l o, n, omega (arith, size))
first_unknown w (escaped b v l q) at k h = elim (cases_Bool (is_unknown (escape b))) [
  | inl e ↦
      let is : Some at ≡ Some k = sym (escape_unknown at b (v ++ (34 ∷ [])) e) ∙ h in
      let same : at ≡ k = cc in
      ([], b, v ++ (34 ∷ []), refl, nothing, ap not e, omega (arith, same))
  | inr e ↦ further e (first_unknown v q (at + 1 + 1) k (sym (escape_known at b (v ++ (34 ∷ [])) e) ∙ h))
]
  where
    further : is_unknown (escape b) ≡ false → Unknowns (v ++ (34 ∷ [])) (at + 1 + 1) k → Unknowns (92 ∷ b ∷ (v ++ (34 ∷ []))) at k
    further f (u, c, rest, e, o, n, size) = (92 ∷ b ∷ u, c, rest, ap (λ x. 92 ∷ b ∷ x) e, escaped b u (ap not f) o, n, omega (arith, size))

is_first_unknown : (w : Bytes) → IsQuotable is_escape w → (b : ℕ) (rest : Bytes) → is_escape b ≡ false → (at : ℕ) → unknown_escape false at (w ++ (92 ∷ b ∷ rest)) ≡ Some (at + length w)
is_first_unknown w nothing b rest n at = let same : at ≡ at + 0 = omega arith in escape_unknown at b rest (unknown_is (is_unknown (escape b)) n) ∙ ap Some same
  where
    unknown_is : (c : Bool) → not c ≡ false → c ≡ true
    unknown_is true e = refl
    unknown_is false e = clash refl e
is_first_unknown w (literal c v l q) b rest n at =
    let size : at + 1 + length v ≡ at + suc (length v) = omega arith in
    literal_passes at c (v ++ (92 ∷ b ∷ rest)) l ∙ is_first_unknown v q b rest n (at + 1) ∙ ap Some size
is_first_unknown w (escaped c v l q) b rest n at =
    let size : at + 1 + 1 + length v ≡ at + suc (suc (length v)) = omega arith in
    escape_known at c (v ++ (92 ∷ b ∷ rest)) (negated (is_unknown (escape c)) l) ∙ is_first_unknown v q b rest n (at + 1 + 1) ∙ ap Some size

-- ---- what the loops read
-- a string, or one with unknown escapes
closed_string : (w rest : Bytes) → IsQuotable is_inline w → string (34 ∷ (w ++ (34 ∷ rest))) ≡ closed (length (34 ∷ (w ++ (34 ∷ [])))) (unknown_escape false 1 (w ++ (34 ∷ [])))
unfolding string
closed_string w rest q =
    let parts : length (w ++ (34 ∷ [])) ≡ length w + 1 = length-append w (34 ∷ []) in
    let size : 1 + length w + 1 ≡ length (34 ∷ (w ++ (34 ∷ []))) = omega (arith, parts) in
    let n : ℕ = length (34 ∷ (w ++ (34 ∷ []))) in
    let front : take n (34 ∷ (w ++ (34 ∷ rest))) ≡ 34 ∷ (w ++ (34 ∷ [])) =
    ap (λ x. take n (34 ∷ x)) (sym (append_assoc w (34 ∷ []) rest)) ∙ take_at (34 ∷ (w ++ (34 ∷ []))) rest n refl in
    ap (λ o. on_end (34 ∷ (w ++ (34 ∷ rest))) o) (ends_here w q 1 rest ∙ ap Some size) ∙ ap (λ x. closed n (unknown_escape false 1 (drop 1 x))) front

open_string_is : (bs : Bytes) → end_from false 1 bs ≡ None → string (34 ∷ bs) ≡ Fault OpenString 0
unfolding string
open_string_is bs h = ap (λ o. on_end (34 ∷ bs) o) h

read : (text : Bytes) (l : Lexeme) → BeginsWithString text l → string text ≡ l
read text l (found s rest (w, e, q)) =
    ap (λ x. string (x ++ rest)) e ∙ ap (λ x. string (34 ∷ x)) (append_assoc w (34 ∷ []) rest) ∙ closed_string w rest (inline w q)
    ∙ ap (λ o. closed (length (34 ∷ (w ++ (34 ∷ [])))) o) (none_unknown w q 1) ∙ ap (λ x. Found kinds.Text (length x)) (sym e)
read text l (open_string s rest (unclosed w r q end)) = open_string_is (w ++ rest) (stays_open w rest q (λ at. line_end false at rest end) 1)
read text l (open_string s rest (unclosed_escape w r q end)) =
    ap (λ x. string (34 ∷ x)) (append_assoc w (92 ∷ []) rest)
    ∙ open_string_is (w ++ (92 ∷ rest)) (stays_open w (92 ∷ rest) q (λ at. lone_backslash at rest end) 1)
read text l (unknown_first s rest at (w, e, q) u) =
    ap (λ x. string (x ++ rest)) e ∙ ap (λ x. string (34 ∷ x)) (append_assoc w (34 ∷ []) rest) ∙ closed_string w rest q
    ∙ ap (λ o. closed (length (34 ∷ (w ++ (34 ∷ [])))) o) (ap (λ x. unknown_escape false 1 (drop 1 x)) (sym e) ∙ by s at u)
  where
    by : (s : Bytes) (at : ℕ) → HasUnknownEscape s at → unknown_escape false 1 (drop 1 s) ≡ Some at
    by s at (unknown v b r o n) = let size : 1 + length v ≡ suc (length v) = omega arith in is_first_unknown v o b r n 1 ∙ ap Some size

begins : (bs : Bytes) (l : Lexeme) → string (34 ∷ bs) ≡ l → BeginsWithString (34 ∷ bs) l
begins bs l h = by (end_from false 1 bs) refl
  where
    in_quotes : (w rest : Bytes) (l : Lexeme) → BeginsWithString ((34 ∷ (w ++ (34 ∷ []))) ++ rest) l → BeginsWithString (34 ∷ (w ++ (34 ∷ rest))) l
    in_quotes w rest l b = subst (λ x. BeginsWithString (34 ∷ x) l) (append_assoc w (34 ∷ []) rest) b

    unknown_at : (w rest : Bytes) (k : ℕ) → IsQuotable is_inline w → Unknowns (w ++ (34 ∷ [])) 1 k → BeginsWithString (34 ∷ (w ++ (34 ∷ rest))) (Fault Unknown k)
    unknown_at w rest k q (u, c, r, e, o, n, size) =
        let same : suc (length u) ≡ k = omega (arith, size) in
        let has : HasUnknownEscape (34 ∷ (w ++ (34 ∷ []))) k = subst (λ i. HasUnknownEscape (34 ∷ (w ++ (34 ∷ []))) i) same (subst (λ x. HasUnknownEscape (34 ∷ x) (suc (length u))) (sym e) (unknown u c r o n)) in
        in_quotes w rest (Fault Unknown k) (unknown_first (34 ∷ (w ++ (34 ∷ []))) rest k (w, refl, q) has)

    in_string : (w rest : Bytes) → IsQuotable is_inline w → (o : Option ℕ) → unknown_escape false 1 (w ++ (34 ∷ [])) ≡ o → BeginsWithString (34 ∷ (w ++ (34 ∷ rest))) (closed (length (34 ∷ (w ++ (34 ∷ [])))) o)
    in_string w rest q None e = in_quotes w rest _ (found (34 ∷ (w ++ (34 ∷ []))) rest (w, refl, all_known w q 1 e))
    in_string w rest q (Some k) e = unknown_at w rest k q (first_unknown w q 1 k e)

    ended : (n : ℕ) → EndsAt false 1 bs n → BeginsWithString (34 ∷ bs) l
    ended n (w, rest, e, size, q) =
        let is : closed (length (34 ∷ (w ++ (34 ∷ [])))) (unknown_escape false 1 (w ++ (34 ∷ []))) ≡ l = sym (closed_string w rest q) ∙ ap (λ x. string (34 ∷ x)) (sym e) ∙ h in
        subst (λ x. BeginsWithString (34 ∷ x) l) (sym e)
        (subst (λ x. BeginsWithString (34 ∷ (w ++ (34 ∷ rest))) x) is (in_string w rest q (unknown_escape false 1 (w ++ (34 ∷ []))) refl))

    by : (o : Option ℕ) → end_from false 1 bs ≡ o → BeginsWithString (34 ∷ bs) l
    by None e = subst (λ x. BeginsWithString (34 ∷ bs) x) (sym (open_string_is bs e) ∙ h) (open_of bs (open_at false 1 bs e))
    by (Some n) e = ended n (ends_at false 1 n bs e)

pub string_is_found : StringIsFound
string_is_found text l starts = (λ h. by text starts h, λ b. read text l b)
  where
    by : (text : Bytes) → IsTrue (is_quote (first text)) → string text ≡ l → BeginsWithString text l
    by [] s h = clash s refl
    by (b ∷ rest) s h =
        let same : b ≡ 34 = (Decides-eqb b 34).0 s in
        subst (λ x. BeginsWithString (x ∷ rest) l) (sym same) (begins rest l (ap (λ x. string (x ∷ rest)) (sym same) ∙ h))
