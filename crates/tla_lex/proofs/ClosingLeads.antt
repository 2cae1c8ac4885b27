-- What is passed over in looking for the closing line.
use Rattle.std.proofs.Common.{◌≡◌, ◌+◌, ◌⊎◌, inl, inr, ℕ, Bool, true, false, not, ◌&&◌, ◌||◌, if◌then◌else◌, Option, Some, None, [], ◌∷◌, ◌++◌, length, nat_eq, codes, append_assoc, refl, sym, ap, ◌∙◌, subst, arith}
use Rattle.std.specs.Prelude.{IsTrue, ◌==◌}
use Rattle.std.specs.List.{starts_with}
use Rattle.std.proofs.lemmas.Bool.Decides.{Decides-eqb}
use Rattle.tla_lex.specs.Bytes.{Bytes, first, is_blank, is_line_feed, is_quote, is_backslash}
use Rattle.tla_lex.specs.Closing.{IsCode, nothing, comment, string, open_string, junction, other, is_junction}
use Rattle.tla_lex.specs.Comments.{opens_line, opens, is_inline, IsLineEnd}
use Rattle.tla_lex.specs.Gap.{turn}
use Rattle.tla_lex.specs.Module.{closing_from, is_code, region_after, region_of_code, on_turn}
use Rattle.tla_lex.specs.Strings.{IsQuotable, is_literal, unclosed, unclosed_escape}
use Rattle.tla_lex.specs.Strings as quoted
use Rattle.tla_lex.specs.declared.closing.Region.{Region}
use Rattle.tla_lex.specs.declared.closing.Region.TheVariants.{Code, Text, Escape}
use Rattle.tla_lex.specs.declared.gap.Mode.{Mode}
use Rattle.tla_lex.specs.declared.gap.Mode.TheVariants.{Line, Depth, Second}
use Rattle.tla_lex.proofs.ClosingFirst.{code_is}
use Rattle.tla_lex.proofs.CommentLeads as leads
use Rattle.tla_lex.proofs.GapInCode.{outside}
use Rattle.tla_lex.proofs.Plain.{apart}
use Rattle.tla_lex.proofs.QuotedFound.{literal_byte}
use Rattle.tla_lex.proofs.Runs.{clash, both}

-- a blank begins nothing
blank_apart : (b next : ℕ) → IsTrue (is_blank b) → (opens_line b next || opens b next || is_quote b || is_junction b next) ≡ false
blank_apart b next h =
    subst (λ x. ((x && next == 42) || opens b next || is_quote b || ((b == 47 && is_backslash next) || (x && next == 47))) ≡ false) (sym (apart is_blank b 92 h refl))
    (subst (λ x. (false || (x && next == 42) || is_quote b || ((b == 47 && is_backslash next) || false)) ≡ false) (sym (apart is_blank b 40 h refl))
    (subst (λ x. (false || false || x || ((b == 47 && is_backslash next) || false)) ≡ false) (sym (apart is_blank b 34 h refl))
    (subst (λ x. (false || false || false || ((x && is_backslash next) || false)) ≡ false) (sym (apart is_blank b 47 h refl)) refl)))

pub blank_code : (b : ℕ) (w rest : Bytes) → IsTrue (is_blank b) → IsCode w rest → IsCode (b ∷ w) rest
blank_code b w rest h code = other b w rest (blank_apart b (first (w ++ rest)) h) code

line_feed_code : (b : ℕ) (w rest : Bytes) → IsTrue (is_line_feed b) → IsCode w rest → IsCode (b ∷ w) rest
line_feed_code b w rest h code = blank_code b w rest (subst (λ x. IsTrue (is_blank x)) (sym ((Decides-eqb b 10).0 h)) refl) code

-- what stands in a string, from within it on
pub data InString : Bytes → Bytes → Type 0 where
  closed : (u w rest : Bytes) → IsQuotable is_inline u → IsCode w rest → InString (u ++ (34 ∷ w)) rest
  line : (u w rest : Bytes) → IsQuotable is_inline u → IsLineEnd (w ++ rest) → IsCode w rest → InString (u ++ w) rest
  cut : (u w rest : Bytes) → IsQuotable is_inline u → IsLineEnd (w ++ rest) → IsCode w rest → InString (u ++ (92 ∷ w)) rest

with_literal : (b : ℕ) (w rest : Bytes) → IsTrue (is_literal b) → InString w rest → InString (b ∷ w) rest
with_literal b w rest h (closed u v r q code) = closed (b ∷ u) v r (quoted.literal b u h q) code
with_literal b w rest h (line u v r q end code) = line (b ∷ u) v r (quoted.literal b u h q) end code
with_literal b w rest h (cut u v r q end code) = cut (b ∷ u) v r (quoted.literal b u h q) end code

with_escape : (b : ℕ) (w rest : Bytes) → IsTrue (is_inline b) → InString w rest → InString (92 ∷ b ∷ w) rest
with_escape b w rest h (closed u v r q code) = closed (92 ∷ b ∷ u) v r (quoted.escaped b u h q) code
with_escape b w rest h (line u v r q end code) = line (92 ∷ b ∷ u) v r (quoted.escaped b u h q) end code
with_escape b w rest h (cut u v r q end code) = cut (92 ∷ b ∷ u) v r (quoted.escaped b u h q) end code

string_code : (w rest : Bytes) → InString w rest → IsCode (34 ∷ w) rest
string_code w rest (closed u v r q code) =
    subst (λ x. IsCode (34 ∷ x) rest) (append_assoc u (34 ∷ []) v) (string (34 ∷ (u ++ 34 ∷ [])) v rest (u, refl, q) code)
string_code w rest (line u v r q end code) = open_string (34 ∷ u) v rest (unclosed u (v ++ rest) q end) code
string_code w rest (cut u v r q end code) =
    subst (λ x. IsCode (34 ∷ x) rest) (append_assoc u (92 ∷ []) v) (open_string (34 ∷ (u ++ 92 ∷ [])) v rest (unclosed_escape u (v ++ rest) q end) code)

-- what is passed over from a region on
abbrev pub Leads : Region → Bytes → Bytes → Type 0
Leads (Code mode) w rest = leads.Leads IsCode blank_code comment mode w rest
Leads Text w rest = InString w rest
Leads Escape w rest = (IsLineEnd (w ++ rest) × IsCode w rest) ⊎ ((b : ℕ) × (v : Bytes) × (w ≡ b ∷ v) × IsTrue (is_inline b) × InString v rest)

text_step : (b next : ℕ) (w rest : Bytes) → Leads (region_after Text b next) w rest → InString (b ∷ w) rest
text_step b next w rest l = by (is_line_feed b) (is_quote b) (is_backslash b) refl refl refl l
  where
    by : (c d e : Bool) → is_line_feed b ≡ c → is_quote b ≡ d → is_backslash b ≡ e → Leads (if c || d then Code (Depth 0) else if e then Escape else Text) w rest → InString (b ∷ w) rest
    by true d e f g h k = line [] (b ∷ w) rest quoted.nothing f (line_feed_code b w rest f k)
    by false true e f g h k = subst (λ x. InString (x ∷ w) rest) (sym ((Decides-eqb b 34).0 g)) (closed [] w rest quoted.nothing k)
    by false false true f g h (inl (end, code)) = subst (λ x. InString (x ∷ w) rest) (sym ((Decides-eqb b 92).0 h)) (cut [] w rest quoted.nothing end code)
    by false false true f g h (inr (c, v, e, inline, text)) =
        subst (λ x. InString (x ∷ w) rest) (sym ((Decides-eqb b 92).0 h)) (subst (λ x. InString (92 ∷ x) rest) (sym e) (with_escape c v rest inline text))
    by false false false f g h k =
        with_literal b w rest (literal_byte b f g h) k

escape_step : (b next : ℕ) (w rest : Bytes) → Leads (region_after Escape b next) w rest → Leads Escape (b ∷ w) rest
escape_step b next w rest l = by (is_line_feed b) refl l
  where
    by : (c : Bool) → is_line_feed b ≡ c → Leads (if c then Code (Depth 0) else Text) w rest → Leads Escape (b ∷ w) rest
    by true f k = inl (f, line_feed_code b w rest f k)
    by false f k = inr (b, w, refl, ap not f, k)

-- where no comment opens
no_comment : (b next : ℕ) → turn (Depth 0) b next ≡ None → (opens_line b next ≡ false) × (opens b next ≡ false)
no_comment b next h = by (is_blank b) (opens_line b next) (opens b next) h
  where
    by : (c d o : Bool) → (if c then Some (Depth 0) else if d then Some Line else if o then Some (Second 1) else None) ≡ None → (d ≡ false) × (o ≡ false)
    by true d o g = absurd (let z : ⊥ = cc in z)
    by false true o g = absurd (let z : ⊥ = cc in z)
    by false false true g = absurd (let z : ⊥ = cc in z)
    by false false false g = (refl, refl)

junction_some : (b : ℕ) → is_junction b 0 ≡ false
junction_some b = by (b == 47) (is_backslash b)
  where
    by : (c d : Bool) → ((c && false) || (d && false)) ≡ false
    by true true = refl
    by true false = refl
    by false true = refl
    by false false = refl

code_step : (b : ℕ) (w rest : Bytes) → turn (Depth 0) b (first (w ++ rest)) ≡ None → Leads (region_of_code b (first (w ++ rest))) w rest → IsCode (b ∷ w) rest
code_step b w rest h l = by (is_quote b) (is_junction b (first (w ++ rest))) refl refl l
  where
    pair : (v : Bytes) → IsTrue (is_junction b (first (v ++ rest))) → Leads (Code (Second 0)) v rest → IsCode (b ∷ v) rest
    pair v f (inl none) = clash f (ap (λ x. is_junction b (first x)) none ∙ junction_some b)
    pair v f (inr (c, u, e, code)) = subst (λ x. IsCode (b ∷ x) rest) (sym e) (junction b c u rest (subst (λ x. IsTrue (is_junction b (first (x ++ rest)))) e f) code)

    by : (c d : Bool) → is_quote b ≡ c → is_junction b (first (w ++ rest)) ≡ d → Leads (if c then Text else if d then Code (Second 0) else Code (Depth 0)) w rest → IsCode (b ∷ w) rest
    by true d f g k = subst (λ x. IsCode (x ∷ w) rest) (sym ((Decides-eqb b 34).0 f)) (string_code w rest k)
    by false true f g k = pair w g k
    by false false f g k =
        let none = no_comment b (first (w ++ rest)) h in
        let next : ℕ = first (w ++ rest) in
        other b w rest
        (subst (λ x. (x || opens b next || is_quote b || is_junction b next) ≡ false) (sym none.0)
        (subst (λ x. (false || x || is_quote b || is_junction b next) ≡ false) (sym none.1)
        (subst (λ x. (false || false || x || is_junction b next) ≡ false) (sym f) (subst (λ x. (false || false || false || x) ≡ false) (sym g) refl)))) k

-- one byte more
region_step : (region : Region) (b : ℕ) (w rest : Bytes) → Leads (region_after region b (first (w ++ rest))) w rest → Leads region (b ∷ w) rest
region_step Text b w rest l = text_step b (first (w ++ rest)) w rest l
region_step Escape b w rest l = escape_step b (first (w ++ rest)) w rest l
region_step (Code mode) b w rest l = by (turn mode b (first (w ++ rest))) refl l
  where
    by : (o : Option Mode) → turn mode b (first (w ++ rest)) ≡ o → Leads (on_turn o (region_of_code b (first (w ++ rest)))) w rest → leads.Leads IsCode blank_code comment mode (b ∷ w) rest
    by (Some to) f k = leads.leads_step IsCode blank_code comment mode to b w rest f k
    by None f k =
        let none : mode ≡ Depth 0 = outside mode b (first (w ++ rest)) f in
        subst (λ m. leads.Leads IsCode blank_code comment m (b ∷ w) rest) (sym none) (code_step b w rest (subst (λ m. turn m b (first (w ++ rest)) ≡ None) none f) k)

-- what was passed over where a closing line is found
abbrev pub Went : Region → ℕ → Bytes → ℕ → Type 0
Went region at text to = (w rest : Bytes) × (text ≡ w ++ rest) × (to ≡ at + length w) × Leads region w rest × IsTrue (starts_with nat_eq rest (codes "===="))

pub went : (region : Region) (at : ℕ) (text : Bytes) (to : ℕ) → closing_from region at text ≡ Some to → Went region at text to
unfolding closing_from
went region at [] to h = absurd (let z : ⊥ = cc in z)
went region at (b ∷ rest) to h = by (λ g. went (region_after region b (first rest)) (at + 1) rest to g) (is_code region && starts_with nat_eq (b ∷ rest) (codes "====")) refl h
  where
    by : (closing_from (region_after region b (first rest)) (at + 1) rest ≡ Some to → Went (region_after region b (first rest)) (at + 1) rest to)
        → (c : Bool) → (is_code region && starts_with nat_eq (b ∷ rest) (codes "====")) ≡ c → (if c then Some at else closing_from (region_after region b (first rest)) (at + 1) rest) ≡ Some to → Went region at (b ∷ rest) to
    by later true e g =
        let s = both (is_code region) (starts_with nat_eq (b ∷ rest) (codes "====")) e in
        let here : at ≡ to = cc in
        ([], b ∷ rest, refl, omega (arith, here), subst (λ r. Leads r [] (b ∷ rest)) (sym (code_is region s.0)) (nothing (b ∷ rest)), s.1)
    by later false e g = further (later g)
      where
        further : Went (region_after region b (first rest)) (at + 1) rest to → Went region at (b ∷ rest) to
        further (w, v, whole, size, l, mark) =
            (b ∷ w, v, ap (λ x. b ∷ x) whole, omega (arith, size), region_step region b w v (subst (λ x. Leads (region_after region b (first x)) w v) whole l), mark)
