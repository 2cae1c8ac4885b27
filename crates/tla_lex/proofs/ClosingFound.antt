-- The loop that looks for the closing line finds it.
use Rattle.std.proofs.Common.{◌≡◌, ◌≤◌, ◌+◌, inl, inr, ℕ, zero, suc, Bool, true, false, not, ◌&&◌, ◌||◌, if◌then◌else◌, Some, None, [], ◌∷◌, ◌++◌, drop, length, length-append, nat_eq, codes, append_assoc, refl, sym, ap, ◌∙◌, arith}
use Rattle.std.specs.Prelude.{IsTrue, ◌==◌}
use Rattle.std.specs.List.{starts_with}
use Rattle.std.proofs.lemmas.Bool.{cases_Bool}
use Rattle.std.proofs.lemmas.Bool.Decides.{Decides-eqb, nat_tests}
use Rattle.tla_lex.specs.Bytes.{Bytes, first, is_blank, is_line_feed, is_quote, is_backslash}
use Rattle.tla_lex.specs.Closing.{IsCode, nothing, comment, string, open_string, junction, other, is_junction, ClosesAt}
use Rattle.tla_lex.specs.Comments.{opens_line, opens, is_inline, IsLineEnd, IsComment}
use Rattle.tla_lex.specs.Gap.{turn, is_outside}
use Rattle.tla_lex.specs.InCode.{code}
use Rattle.tla_lex.specs.Module.{closing_from, closing, is_code, region_after, region_of_code, on_turn}
use Rattle.tla_lex.specs.Strings.{IsQuotable, is_literal, IsClosedString, IsOpenString, unclosed, unclosed_escape}
use Rattle.tla_lex.specs.Strings as quoted
use Rattle.tla_lex.specs.ScannerLaws.{ClosingIsFound}
use Rattle.tla_lex.specs.declared.closing.Region.{Region}
use Rattle.tla_lex.specs.declared.closing.Region.TheVariants.{Code, Text, Escape}
use Rattle.tla_lex.specs.declared.gap.Mode.{Mode}
use Rattle.tla_lex.specs.declared.gap.Mode.TheVariants.{Line, Depth, Second}
use Rattle.tla_lex.proofs.ClosingLeads.{went}
use Rattle.tla_lex.proofs.CommentRuns as runs
use Rattle.tla_lex.proofs.Firsts.{found_first, first_found, none_found, found_none}
use Rattle.tla_lex.proofs.Runs.{clash, both}
use Rattle.tla_lex.proofs.Shapes.{negates, either}

passes : (region : Region) (at b : ℕ) (rest : Bytes) → (is_code region && starts_with nat_eq (b ∷ rest) (codes "====")) ≡ false
    → closing_from region at (b ∷ rest) ≡ closing_from (region_after region b (first rest)) (at + 1) rest
unfolding closing_from
passes region at b rest h = ap (λ c. if c then Some at else closing_from (region_after region b (first rest)) (at + 1) rest) h

at_end : (region : Region) (at : ℕ) → closing_from region at [] ≡ None
unfolding closing_from
at_end region at = refl

here : (at b : ℕ) (rest : Bytes) → IsTrue (starts_with nat_eq (b ∷ rest) (codes "====")) → closing_from code at (b ∷ rest) ≡ Some at
unfolding closing_from
here at b rest h = ap (λ c. if c then Some at else closing_from (region_after code b (first rest)) (at + 1) rest) h

not_code : (mode : Mode) → is_outside mode ≡ false → is_code (Code mode) ≡ false
not_code Line h = refl
not_code (Second n) h = refl
not_code (Depth zero) h = clash refl h
not_code (Depth (suc n)) h = grind (arith, nat_tests)

-- ---- comments
inside_step : (opening : ℕ) (mode to : Mode) (at b : ℕ) (rest : Bytes) → is_outside mode ≡ false → turn mode b (first rest) ≡ Some to → closing_from (Code mode) at (b ∷ rest) ≡ closing_from (Code to) (at + 1) rest
inside_step opening mode to at b rest inside h =
    passes (Code mode) at b rest (ap (λ c. c && starts_with nat_eq (b ∷ rest) (codes "====")) (not_code mode inside))
    ∙ ap (λ o. closing_from (on_turn o (region_of_code b (first rest))) (at + 1) rest) h

begin_line : (at : ℕ) (rest : Bytes) → closing_from code at (92 ∷ 42 ∷ rest) ≡ closing_from (Code Line) (at + 1) (42 ∷ rest)
begin_line at rest = passes code at 92 (42 ∷ rest) refl

begin_block : (at : ℕ) (rest : Bytes) → closing_from code at (40 ∷ 42 ∷ rest) ≡ closing_from (Code (Second 1)) (at + 1) (42 ∷ rest)
begin_block at rest = passes code at 40 (42 ∷ rest) refl

-- at the end of a line a comment or string to it ends
line_ends : (region : Region) → ((at : ℕ) (rest : Bytes) → closing_from region at (10 ∷ rest) ≡ closing_from code (at + 1) rest) → (at : ℕ) (rest : Bytes) → IsLineEnd rest → closing_from region at rest ≡ closing_from code at rest
line_ends region feed at [] h = at_end region at ∙ sym (at_end code at)
line_ends region feed at (b ∷ rest) h =
    let same : b ≡ 10 = (Decides-eqb b 10).0 h in
    ap (λ x. closing_from region at (x ∷ rest)) same ∙ feed at rest ∙ sym (passes code at 10 rest refl) ∙ ap (λ x. closing_from code at (x ∷ rest)) (sym same)

end_line : (opening at : ℕ) (rest : Bytes) → IsLineEnd rest → closing_from (Code Line) at rest ≡ closing_from code at rest
end_line opening at rest h = line_ends (Code Line) (λ n bs. passes (Code Line) n 10 bs refl) at rest h

end_block : (opening at : ℕ) (rest : Bytes) → closing_from (Code (Depth 0)) at rest ≡ closing_from code at rest
end_block opening at rest = refl

comment_run : (c rest : Bytes) → IsComment c rest → (at : ℕ) → closing_from code at (c ++ rest) ≡ closing_from code (at + length c) rest
comment_run c rest h at = runs.comment_run (λ opening mode n bs. closing_from (Code mode) n bs) inside_step (λ n bs. closing_from code n bs) begin_line begin_block end_line end_block c rest h at

-- ---- strings
literal_stays : (b next : ℕ) → IsTrue (is_literal b) → region_after Text b next ≡ Text
literal_stays b next h = by (is_line_feed b) (is_quote b) (is_backslash b) h
  where
    by : (c d e : Bool) → IsTrue (not (c || d || e)) → (if c || d then Code (Depth 0) else if e then Escape else Text) ≡ Text
    by true d e f = clash f refl
    by false true e f = clash f refl
    by false false true f = clash f refl
    by false false false f = refl

escape_goes : (b next : ℕ) → IsTrue (is_inline b) → region_after Escape b next ≡ Text
escape_goes b next h = ap (λ c. if c then Code (Depth 0) else Text) (negates (is_line_feed b) h)

text_run : (w : Bytes) → IsQuotable is_inline w → (at : ℕ) (rest : Bytes) → closing_from Text at (w ++ rest) ≡ closing_from Text (at + length w) rest
text_run w quoted.nothing at rest = let same : at ≡ at + 0 = omega arith in ap (λ n. closing_from Text n rest) same
text_run w (quoted.literal b v h q) at rest =
    let size : at + 1 + length v ≡ at + suc (length v) = omega arith in
    passes Text at b (v ++ rest) refl
    ∙ ap (λ r. closing_from r (at + 1) (v ++ rest)) (literal_stays b (first (v ++ rest)) h)
    ∙ text_run v q (at + 1) rest
    ∙ ap (λ n. closing_from Text n rest) size
text_run w (quoted.escaped b v h q) at rest =
    let size : at + 1 + 1 + length v ≡ at + suc (suc (length v)) = omega arith in
    passes Text at 92 (b ∷ (v ++ rest)) refl
    ∙ passes Escape (at + 1) b (v ++ rest) refl
    ∙ ap (λ r. closing_from r (at + 1 + 1) (v ++ rest)) (escape_goes b (first (v ++ rest)) h)
    ∙ text_run v q (at + 1 + 1) rest
    ∙ ap (λ n. closing_from Text n rest) size

quote_run : (w : Bytes) → IsQuotable is_inline w → (at : ℕ) (rest : Bytes) → closing_from code at (34 ∷ (w ++ rest)) ≡ closing_from Text (at + suc (length w)) rest
quote_run w q at rest =
    let size : at + 1 + length w ≡ at + suc (length w) = omega arith in
    passes code at 34 (w ++ rest) refl ∙ text_run w q (at + 1) rest ∙ ap (λ n. closing_from Text n rest) size

string_run : (s rest : Bytes) → IsClosedString s → (at : ℕ) → closing_from code at (s ++ rest) ≡ closing_from code (at + length s) rest
string_run s rest (w, e, q) at =
    let sizes : length s ≡ suc (length (w ++ 34 ∷ [])) = ap length e in
    let parts : length (w ++ 34 ∷ []) ≡ length w + 1 = length-append w (34 ∷ []) in
    let size : at + suc (length w) + 1 ≡ at + length s = omega (arith, sizes, parts) in
    ap (λ x. closing_from code at (x ++ rest)) e
    ∙ ap (λ x. closing_from code at (34 ∷ x)) (append_assoc w (34 ∷ []) rest)
    ∙ quote_run w q at (34 ∷ rest)
    ∙ passes Text (at + suc (length w)) 34 rest refl
    ∙ ap (λ n. closing_from code n rest) size

open_string_run : (s rest : Bytes) → IsOpenString s rest → (at : ℕ) → closing_from code at (s ++ rest) ≡ closing_from code (at + length s) rest
open_string_run s rest (unclosed w r q end) at =
    quote_run w q at rest ∙ line_ends Text (λ n bs. passes Text n 10 bs refl) (at + suc (length w)) rest end
open_string_run s rest (unclosed_escape w r q end) at =
    let parts : length (w ++ 92 ∷ []) ≡ length w + 1 = length-append w (92 ∷ []) in
    let size : at + suc (length w) + 1 ≡ at + suc (length (w ++ 92 ∷ [])) = omega (arith, parts) in
    ap (λ x. closing_from code at (34 ∷ x)) (append_assoc w (92 ∷ []) rest)
    ∙ quote_run w q at (92 ∷ rest)
    ∙ passes Text (at + suc (length w)) 92 rest refl
    ∙ line_ends Escape (λ n bs. passes Escape n 10 bs refl) (at + suc (length w) + 1) rest end
    ∙ ap (λ n. closing_from code n rest) size

-- ---- other bytes
junction_run : (b c at : ℕ) (rest : Bytes) → IsTrue (is_junction b c) → closing_from code at (b ∷ c ∷ rest) ≡ closing_from code (at + 1 + 1) rest
junction_run b c at rest h = elim (either (b == 47 && is_backslash c) (is_backslash b && c == 47) h) [
  | inl e ↦
      let s = both (b == 47) (is_backslash c) e in
      ap (λ x. closing_from code at (x ∷ c ∷ rest)) ((Decides-eqb b 47).0 s.0) ∙ ap (λ x. closing_from code at (47 ∷ x ∷ rest)) ((Decides-eqb c 92).0 s.1)
      ∙ passes code at 47 (92 ∷ rest) refl ∙ passes (Code (Second 0)) (at + 1) 92 rest refl
  | inr e ↦
      let s = both (is_backslash b) (c == 47) e in
      ap (λ x. closing_from code at (x ∷ c ∷ rest)) ((Decides-eqb b 92).0 s.0) ∙ ap (λ x. closing_from code at (92 ∷ x ∷ rest)) ((Decides-eqb c 47).0 s.1)
      ∙ passes code at 92 (47 ∷ rest) refl ∙ passes (Code (Second 0)) (at + 1) 47 rest refl
]

other_stays : (b next : ℕ) → (opens_line b next || opens b next || is_quote b || is_junction b next) ≡ false → region_after code b next ≡ code
other_stays b next h = by (is_blank b) (opens_line b next) (opens b next) (is_quote b) (is_junction b next) h
  where
    by : (e c d q j : Bool) → (c || d || q || j) ≡ false
        → on_turn (if e then Some (Depth 0) else if c then Some Line else if d then Some (Second 1) else None) (if q then Text else if j then Code (Second 0) else Code (Depth 0)) ≡ code
    by true c d q j f = refl
    by false true d q j f = clash refl f
    by false false true q j f = clash refl f
    by false false false true j f = clash refl f
    by false false false false true f = clash refl f
    by false false false false false f = refl

-- a closing line is found, and no later than this one
abbrev Least : ℕ → Bytes → ℕ → Type 0
Least at text most = (m : ℕ) × (closing_from code at text ≡ Some m) × (m ≤ most)

further : (at to most last : ℕ) (text rest : Bytes) → closing_from code at text ≡ closing_from code to rest → most ≡ last → Least to rest most → Least at text last
further at to most last text rest same end (m, e, l) = (m, same ∙ e, omega (arith, l, end))

least : (w rest : Bytes) → IsCode w rest → IsTrue (starts_with nat_eq rest (codes "====")) → (at : ℕ) → Least at (w ++ rest) (at + length w)
least w [] (nothing r) line at = clash line refl
least w (b ∷ rest) (nothing r) line at = (at, here at b rest line, omega arith)
least w rest (comment c v r h g) line at =
    let size : length (c ++ v) ≡ length c + length v = length-append c v in
    further at (at + length c) (at + length c + length v) (at + length (c ++ v)) (c ++ v ++ rest) (v ++ rest) (ap (λ x. closing_from code at x) (append_assoc c v rest) ∙ comment_run c (v ++ rest) h at) (omega (arith, size)) (least v rest g line (at + length c))
least w rest (string s v r h g) line at =
    let size : length (s ++ v) ≡ length s + length v = length-append s v in
    further at (at + length s) (at + length s + length v) (at + length (s ++ v)) (s ++ v ++ rest) (v ++ rest) (ap (λ x. closing_from code at x) (append_assoc s v rest) ∙ string_run s (v ++ rest) h at) (omega (arith, size)) (least v rest g line (at + length s))
least w rest (open_string s v r h g) line at =
    let size : length (s ++ v) ≡ length s + length v = length-append s v in
    further at (at + length s) (at + length s + length v) (at + length (s ++ v)) (s ++ v ++ rest) (v ++ rest) (ap (λ x. closing_from code at x) (append_assoc s v rest) ∙ open_string_run s (v ++ rest) h at) (omega (arith, size)) (least v rest g line (at + length s))
least w rest (junction b c v r h g) line at =
    further at (at + 1 + 1) (at + 1 + 1 + length v) (at + suc (suc (length v))) (b ∷ c ∷ (v ++ rest)) (v ++ rest) (junction_run b c at (v ++ rest) h) (omega arith) (least v rest g line (at + 1 + 1))
least w rest (other b v r h g) line at = elim (cases_Bool (starts_with nat_eq (b ∷ (v ++ rest)) (codes "===="))) [
  | inl e ↦ (at, here at b (v ++ rest) e, omega arith)
  | inr e ↦
      further at (at + 1) (at + 1 + length v) (at + suc (length v)) (b ∷ (v ++ rest)) (v ++ rest)
      (passes code at b (v ++ rest) e ∙ ap (λ r. closing_from r (at + 1) (v ++ rest)) (other_stays b (first (v ++ rest)) h)) (omega arith) (least v rest g line (at + 1))
]

module _ (text : Bytes) (from : ℕ) where
  closes : (to : ℕ) → closing text from ≡ Some to → ClosesAt text from to
  closes to h = let w = went code from (drop from text) to h in record { code = w.0; rest = w.1; whole = w.2; here = w.3; outside = w.4; line = w.5 }

  least_at : (to : ℕ) → ClosesAt text from to → (m : ℕ) × (closing text from ≡ Some m) × (m ≤ to)
  least_at to c =
      let l = least c.code c.rest c.outside c.line from in
      let size = c.here in
      (l.0, ap (λ x. closing_from code from x) c.whole ∙ l.1, omega (arith, l.2, size))

pub closing_is_found : ClosingIsFound
closing_is_found text from = (
  λ to. (
    λ h. record { closes = closes text from to h; first = found_first (ClosesAt text from) (closing text from) (least_at text from) to h },
    λ h. first_found (ClosesAt text from) (closing text from) (closes text from) (least_at text from) to h.closes h.first,
  ),
  (none_found (ClosesAt text from) (closing text from) (least_at text from), found_none (ClosesAt text from) (closing text from) (closes text from)),
)
