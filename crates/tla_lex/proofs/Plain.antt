-- Bytes that lead nowhere in looking for the closing line.
use Rattle.std.proofs.Common.{◌≡◌, ◌+◌, inl, inr, ℕ, zero, suc, Bool, true, false, not, ◌&&◌, ◌||◌, if◌then◌else◌, Some, None, [], ◌∷◌, take, length, refl, sym, subst, arith}
use Rattle.std.specs.Prelude.{IsTrue, ◌==◌}
use Rattle.std.specs.List.{list_all}
use Rattle.std.proofs.lemmas.Bool.{cases_Bool}
use Rattle.std.proofs.lemmas.Bool.Decides.{Decides-eqb}
use Rattle.tla_lex.specs.Bytes.{Bytes, first, is_backslash, is_line_feed, is_quote}
use Rattle.tla_lex.specs.InCode.{code, region_behind}
use Rattle.tla_lex.specs.Module.{on_turn, region_after}
use Rattle.tla_lex.specs.StringLoops.{end_from}
use Rattle.tla_lex.specs.declared.closing.Region.{Region}
use Rattle.tla_lex.specs.declared.closing.Region.TheVariants.{Code, Text, Escape}
use Rattle.tla_lex.specs.declared.gap.Mode.TheVariants.{Line, Depth, Second}
use Rattle.tla_lex.proofs.Runs.{clash, both}

-- a byte that passes a test isn't one that doesn't
pub apart : (p : ℕ → Bool) (b c : ℕ) → IsTrue (p b) → p c ≡ false → (b == c) ≡ false
apart p b c h e = elim (cases_Bool (b == c)) [
  | inl same ↦ clash h (subst (λ x. p x ≡ false) (sym ((Decides-eqb b c).0 same)) e)
  | inr other ↦ other
]

-- a test that passes no blank, no mark, no quote and no slash
pub record IsPlain (p : ℕ → Bool) : Type 0 where
  pub no_32 : p 32 ≡ false
  pub no_9 : p 9 ≡ false
  pub no_10 : p 10 ≡ false
  pub no_12 : p 12 ≡ false
  pub no_13 : p 13 ≡ false
  pub no_92 : p 92 ≡ false
  pub no_40 : p 40 ≡ false
  pub no_34 : p 34 ≡ false
  pub no_47 : p 47 ≡ false

-- such a byte stays in code
pub plain_step : (p : ℕ → Bool) → IsPlain p → (b next : ℕ) → IsTrue (p b) → region_after code b next ≡ code
plain_step p plain b next h =
    (subst (λ x. on_turn (if ((((x || (b == 9)) || (b == 10)) || (b == 12)) || (b == 13)) then Some (Depth 0) else if (b == 92) && next == 42 then Some Line else if (b == 40) && next == 42 then Some (Second 1) else None) (if (b == 34) then Text else if ((b == 47) && is_backslash next) || ((b == 92) && next == 47) then Code (Second 0) else code) ≡ code) (sym (apart p b 32 h plain.no_32))
    (subst (λ x. on_turn (if ((((false || x) || (b == 10)) || (b == 12)) || (b == 13)) then Some (Depth 0) else if (b == 92) && next == 42 then Some Line else if (b == 40) && next == 42 then Some (Second 1) else None) (if (b == 34) then Text else if ((b == 47) && is_backslash next) || ((b == 92) && next == 47) then Code (Second 0) else code) ≡ code) (sym (apart p b 9 h plain.no_9))
    (subst (λ x. on_turn (if ((((false || false) || x) || (b == 12)) || (b == 13)) then Some (Depth 0) else if (b == 92) && next == 42 then Some Line else if (b == 40) && next == 42 then Some (Second 1) else None) (if (b == 34) then Text else if ((b == 47) && is_backslash next) || ((b == 92) && next == 47) then Code (Second 0) else code) ≡ code) (sym (apart p b 10 h plain.no_10))
    (subst (λ x. on_turn (if ((((false || false) || false) || x) || (b == 13)) then Some (Depth 0) else if (b == 92) && next == 42 then Some Line else if (b == 40) && next == 42 then Some (Second 1) else None) (if (b == 34) then Text else if ((b == 47) && is_backslash next) || ((b == 92) && next == 47) then Code (Second 0) else code) ≡ code) (sym (apart p b 12 h plain.no_12))
    (subst (λ x. on_turn (if ((((false || false) || false) || false) || x) then Some (Depth 0) else if (b == 92) && next == 42 then Some Line else if (b == 40) && next == 42 then Some (Second 1) else None) (if (b == 34) then Text else if ((b == 47) && is_backslash next) || ((b == 92) && next == 47) then Code (Second 0) else code) ≡ code) (sym (apart p b 13 h plain.no_13))
    (subst (λ x. on_turn (if ((((false || false) || false) || false) || false) then Some (Depth 0) else if x && next == 42 then Some Line else if (b == 40) && next == 42 then Some (Second 1) else None) (if (b == 34) then Text else if ((b == 47) && is_backslash next) || (x && next == 47) then Code (Second 0) else code) ≡ code) (sym (apart p b 92 h plain.no_92))
    (subst (λ x. on_turn (if ((((false || false) || false) || false) || false) then Some (Depth 0) else if false && next == 42 then Some Line else if x && next == 42 then Some (Second 1) else None) (if (b == 34) then Text else if ((b == 47) && is_backslash next) || (false && next == 47) then Code (Second 0) else code) ≡ code) (sym (apart p b 40 h plain.no_40))
    (subst (λ x. on_turn (if ((((false || false) || false) || false) || false) then Some (Depth 0) else if false && next == 42 then Some Line else if false && next == 42 then Some (Second 1) else None) (if x then Text else if ((b == 47) && is_backslash next) || (false && next == 47) then Code (Second 0) else code) ≡ code) (sym (apart p b 34 h plain.no_34))
    (subst (λ x. on_turn (if ((((false || false) || false) || false) || false) then Some (Depth 0) else if false && next == 42 then Some Line else if false && next == 42 then Some (Second 1) else None) (if false then Text else if (x && is_backslash next) || (false && next == 47) then Code (Second 0) else code) ≡ code) (sym (apart p b 47 h plain.no_47))
    refl)))))))))

pub plain_run : (p : ℕ → Bool) → IsPlain p → (n : ℕ) (bs : Bytes) → IsTrue (list_all p (take n bs)) → region_behind code n bs ≡ code
plain_run p plain zero bs h = refl
plain_run p plain (suc n) [] h = refl
plain_run p plain (suc n) (b ∷ rest) h =
    let s = both (p b) (list_all p (take n rest)) h in
    subst (λ r. region_behind r n rest ≡ code) (sym (plain_step p plain b (first rest) s.0)) (plain_run p plain n rest s.1)

-- no more bytes than there are lead on
pub behind_cut : (region : Region) (n : ℕ) (bs : Bytes) → region_behind region n bs ≡ region_behind region (length (take n bs)) bs
behind_cut region zero bs = refl
behind_cut region (suc n) [] = refl
behind_cut region (suc n) (b ∷ rest) = behind_cut (region_after region b (first rest)) n rest

-- a string ends in code
abbrev pub in_string : Bool → Region
in_string escaped = if escaped then Escape else Text

string_goes : (escaped : Bool) (b next : ℕ) → (is_line_feed b ≡ false) → (is_quote b && not escaped) ≡ false → region_after (in_string escaped) b next ≡ in_string (is_backslash b && not escaped)
string_goes true b next l q = by (is_line_feed b) (is_backslash b) l
  where
    by : (c d : Bool) → c ≡ false → (if c then code else Text) ≡ in_string (d && false)
    by c true e = subst (λ x. (if x then code else Text) ≡ Text) (sym e) refl
    by c false e = subst (λ x. (if x then code else Text) ≡ Text) (sym e) refl
string_goes false b next l q = by (is_line_feed b) (is_quote b) (is_backslash b) l q
  where
    by : (c d s : Bool) → c ≡ false → (d && true) ≡ false → (if c || d then code else if s then Escape else Text) ≡ in_string (s && true)
    by true d s e f = clash refl e
    by false true s e f = clash refl f
    by false false true e f = refl
    by false false false e f = refl

string_stops : (escaped : Bool) (b next : ℕ) → (is_quote b && not escaped) ≡ true → region_after (in_string escaped) b next ≡ code
string_stops true b next q = by (is_quote b) q
  where
    by : (d : Bool) → (d && false) ≡ true → region_after Escape b next ≡ code
    by true e = clash e refl
    by false e = clash e refl
string_stops false b next q = by (is_line_feed b) (is_quote b) (is_backslash b) q
  where
    by : (c d s : Bool) → (d && true) ≡ true → (if c || d then code else if s then Escape else Text) ≡ code
    by true d s e = refl
    by false true s e = refl
    by false false s e = clash e refl

pub string_run : (escaped : Bool) (at n : ℕ) (bs : Bytes) → end_from escaped at bs ≡ Some n → (j : ℕ) × (at + j ≡ n) × (region_behind (in_string escaped) j bs ≡ code)
unfolding end_from
string_run escaped at n [] h = absurd (let z : ⊥ = cc in z)
string_run escaped at n (b ∷ rest) h = by (λ g. string_run (is_backslash b && not escaped) (at + 1) n rest g) (is_line_feed b) (is_quote b && not escaped) refl refl h
  where
    by : (end_from (is_backslash b && not escaped) (at + 1) rest ≡ Some n → (j : ℕ) × (at + 1 + j ≡ n) × (region_behind (in_string (is_backslash b && not escaped)) j rest ≡ code))
        → (c d : Bool) → is_line_feed b ≡ c → (is_quote b && not escaped) ≡ d
        → (if c then None else if d then Some (at + 1) else end_from (is_backslash b && not escaped) (at + 1) rest) ≡ Some n
        → (j : ℕ) × (at + j ≡ n) × (region_behind (in_string escaped) j (b ∷ rest) ≡ code)
    by later true d l q g = absurd (let z : ⊥ = cc in z)
    by later false true l q g = let same : at + 1 ≡ n = cc in (suc zero, omega (arith, same), string_stops escaped b (first rest) q)
    by later false false l q g =
        let r : (j : ℕ) × (at + 1 + j ≡ n) × (region_behind (in_string (is_backslash b && not escaped)) j rest ≡ code) = later g in
        (suc r.0, omega (arith, r.1), subst (λ x. region_behind x r.0 rest ≡ code) (sym (string_goes escaped b (first rest) l q)) r.2)
