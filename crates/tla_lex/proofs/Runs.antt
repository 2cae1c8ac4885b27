-- Runs of bytes at the front of a text, and spellings of a table.
use Rattle.std.proofs.Common.{◌≡◌, ◌≤◌, ◌<◌, ◌+◌, inl, inr, ℕ, zero, suc, Bool, true, false, cond, ◌&&◌, true≢false, [], ◌∷◌, Some, None, take, drop, length, nat_eq, refl, sym, ◌∙◌, subst, arith}
use Rattle.std.specs.Prelude.{IsTrue}
use Rattle.std.specs.List.{list_all, prefix_len, starts_with}
use Rattle.std.specs.Str.{bytes_eq}
use Rattle.std.proofs.lemmas.Bool.{cases_Bool}
use Rattle.std.proofs.lemmas.Slice.Eq.{bytes_eq-Decides}
use Rattle.tla_lex.specs.Bytes.{Bytes, first}
use Rattle.tla_lex.specs.LongestToken.{IsListed}
use Rattle.tla_lex.specs.Words.{Spellings, lookup}
use Rattle.tla_lex.specs.declared.token.Kind.{Kind}

pub clash : {A : Type 0} {b : Bool} → b ≡ true → b ≡ false → A
clash t f = absurd (true≢false (sym t ∙ f))

pub both : (a b : Bool) → IsTrue (a && b) → IsTrue a × IsTrue b
both true b h = (refl, h)
both false b h = clash h refl

one_more : (n : ℕ) → suc n ≡ 1 + n
one_more n = omega arith

module _ (p : ℕ → Bool) where
  -- where the first m bytes pass, the run is that long
  pub run_covers : (m : ℕ) (text : Bytes) → IsTrue (list_all p (take m text)) → m ≤ length text → m ≤ prefix_len p text
  run_covers zero text h l = omega arith
  run_covers (suc m) [] h l = absurd (omega arith)
  run_covers (suc m) (b ∷ rest) h l =
      let s = both (p b) (list_all p (take m rest)) h in
      let more : m ≤ prefix_len p rest = run_covers m rest s.1 (omega arith) in
      subst (λ c. suc m ≤ cond c (1 + prefix_len p rest) 0) (sym s.0) (omega arith)

  -- each byte of the run passes
  pub run_passes : (text : Bytes) → IsTrue (list_all p (take (prefix_len p text) text))
  run_passes [] = refl
  run_passes (b ∷ rest) = elim (cases_Bool (p b)) [
    | inl e ↦ subst (λ c. IsTrue (list_all p (take (cond c (1 + prefix_len p rest) 0) (b ∷ rest)))) (sym e)
        (subst (λ n. IsTrue (list_all p (take n (b ∷ rest)))) (one_more (prefix_len p rest)) (subst (λ c. IsTrue (c && list_all p (take (prefix_len p rest) rest))) (sym e) (run_passes rest)))
    | inr e ↦ subst (λ c. IsTrue (list_all p (take (cond c (1 + prefix_len p rest) 0) (b ∷ rest)))) (sym e) refl
  ]

  -- the byte after the run doesn't pass, nor does the end of the text
  pub run_stops : p 0 ≡ false → (text : Bytes) → p (first (drop (prefix_len p text) text)) ≡ false
  run_stops end [] = end
  run_stops end (b ∷ rest) = elim (cases_Bool (p b)) [
    | inl e ↦ subst (λ c. p (first (drop (cond c (1 + prefix_len p rest) 0) (b ∷ rest))) ≡ false) (sym e)
        (subst (λ n. p (first (drop n (b ∷ rest))) ≡ false) (one_more (prefix_len p rest)) (run_stops end rest))
    | inr e ↦ subst (λ c. p (first (drop (cond c (1 + prefix_len p rest) 0) (b ∷ rest))) ≡ false) (sym e) e
  ]

  -- a run ends before a byte that doesn't pass
  pub run_within : (m : ℕ) (text : Bytes) → p (first (drop m text)) ≡ false → prefix_len p text ≤ m
  run_within m [] h = omega arith
  run_within zero (b ∷ rest) h = subst (λ c. cond c (1 + prefix_len p rest) 0 ≤ 0) (sym h) (omega arith)
  run_within (suc m) (b ∷ rest) h =
      let less : prefix_len p rest ≤ m = run_within m rest h in
      elim (cases_Bool (p b)) [
        | inl e ↦ subst (λ c. cond c (1 + prefix_len p rest) 0 ≤ suc m) (sym e) (omega (arith, less))
        | inr e ↦ subst (λ c. cond c (1 + prefix_len p rest) 0 ≤ suc m) (sym e) (omega arith)
      ]

  -- a list whose bytes pass begins with one that does
  pub first_passes : (w : Bytes) → 0 < length w → IsTrue (list_all p w) → IsTrue (p (first w))
  first_passes [] l h = absurd (omega arith)
  first_passes (b ∷ w) l h = (both (p b) (list_all p w) h).0

  pub all_pass : (q : ℕ → Bool) → ((b : ℕ) → IsTrue (p b) → IsTrue (q b)) → (w : Bytes) → IsTrue (list_all p w) → IsTrue (list_all q w)
  all_pass q h [] a = refl
  all_pass q h (b ∷ w) a =
      let s = both (p b) (list_all p w) a in
      subst (λ c. IsTrue (c && list_all q w)) (sym (h b s.0)) (all_pass q h w s.1)

pub first_taken : (m : ℕ) (text : Bytes) → 0 < m → first (take m text) ≡ first text
first_taken zero text l = absurd (omega arith)
first_taken (suc m) [] l = refl
first_taken (suc m) (b ∷ rest) l = refl

pub starts_from : (text s : Bytes) → s ≡ take (length s) text → IsTrue (starts_with nat_eq text s)
starts_from text s e = (bytes_eq-Decides s (take (length s) text)).1 e

pub starts_is : (text s : Bytes) → IsTrue (starts_with nat_eq text s) → s ≡ take (length s) text
starts_is text s h = (bytes_eq-Decides s (take (length s) text)).0 h

-- what holds of each spelling of a table
pub listed_meets : (test : Bytes → Bool) (es : Spellings) → IsTrue (list_all (λ e. test e.0) es) → (w : Bytes) (kind : Kind) → IsListed w kind es → IsTrue (test w)
listed_meets test [] all w kind h = absurd h
listed_meets test (e ∷ es) all w kind (inl h) = subst (λ v. IsTrue (test v)) h.0 (both (test e.0) (list_all (λ e. test e.0) es) all).0
listed_meets test (e ∷ es) all w kind (inr h) = listed_meets test es (both (test e.0) (list_all (λ e. test e.0) es) all).1 w kind h

pub lookup_listed : (es : Spellings) (w : Bytes) (kind : Kind) → lookup es w ≡ Some kind → IsListed w kind es
lookup_listed [] w kind h = absurd (cc)
lookup_listed (e ∷ es) w kind h = by (λ g. lookup_listed es w kind g) (bytes_eq e.0 w) refl h
  where
    by : (lookup es w ≡ Some kind → IsListed w kind es) → (c : Bool) → bytes_eq e.0 w ≡ c → cond c (Some e.1) (lookup es w) ≡ Some kind → IsListed w kind (e ∷ es)
    by later true same g = inl ((bytes_eq-Decides e.0 w).0 same, cc)
    by later false same g = inr (later g)

pub listed_lookup : (es : Spellings) (w : Bytes) (kind : Kind) → IsListed w kind es → lookup es w ≡ None → ⊥
listed_lookup [] w kind h none = h
listed_lookup (e ∷ es) w kind h none = by (λ g n. listed_lookup es w kind g n) (bytes_eq e.0 w) refl h none
  where
    by : (IsListed w kind es → lookup es w ≡ None → ⊥) → (c : Bool) → bytes_eq e.0 w ≡ c → IsListed w kind (e ∷ es) → cond c (Some e.1) (lookup es w) ≡ None → ⊥
    by later true same g n = cc
    by later false same (inl g) n = clash ((bytes_eq-Decides e.0 w).1 g.0) same
    by later false same (inr g) n = later g n
