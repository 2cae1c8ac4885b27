-- Where a gap leads in looking for the closing line.
use Rattle.std.proofs.Common.{◌≡◌, ◌≤◌, ◌<◌, ◌+◌, ℕ, zero, suc, Bool, true, false, if◌then◌else◌, Option, Some, None, [], ◌∷◌, drop, length, refl, sym, ap, subst, arith}
use Rattle.tla_lex.specs.Bytes.{Bytes, first, is_line_feed}
use Rattle.tla_lex.specs.Gap.{turn, skip, is_open, is_outside, gap}
use Rattle.tla_lex.specs.Gap as gap_spec
use Rattle.tla_lex.specs.Comments.{opens, closes}
use Rattle.tla_lex.specs.InCode.{region_behind}
use Rattle.tla_lex.specs.Module.{on_turn, region_of_code}
use Rattle.tla_lex.specs.declared.closing.Region.TheVariants.{Code}
use Rattle.tla_lex.specs.declared.gap.Gap.TheVariants.{End, Open}
use Rattle.tla_lex.specs.declared.gap.Mode.{Mode}
use Rattle.tla_lex.specs.declared.gap.Mode.TheVariants.{Line, Depth, Second}

-- only outside comments a token begins
pub outside : (mode : Mode) (b next : ℕ) → turn mode b next ≡ None → mode ≡ Depth 0
outside Line b next h = by (is_line_feed b) h
  where
    by : (c : Bool) → (if c then Some (Depth 0) else Some Line) ≡ None → Line ≡ Depth 0
    by true e = absurd (let z : ⊥ = cc in z)
    by false e = absurd (let z : ⊥ = cc in z)
outside (Second n) b next h = absurd (let z : ⊥ = cc in z)
outside (Depth zero) b next h = refl
outside (Depth (suc n)) b next h = by (opens b next) (closes b next) h
  where
    by : (c d : Bool) → (if c then Some (Second (n + 2)) else if d then Some (Second n) else Some (Depth (n + 1))) ≡ None → Depth (suc n) ≡ Depth 0
    by true d e = absurd (let z : ⊥ = cc in z)
    by false true e = absurd (let z : ⊥ = cc in z)
    by false false e = absurd (let z : ⊥ = cc in z)

-- a token begins at the front of these bytes
abbrev pub IsBegun : Bytes → Type 0
IsBegun bs = turn (Depth 0) (first bs) (first (drop 1 bs)) ≡ None

-- where a gap ends, the search for the closing line is in the same mode; and in code, unless the text ends
abbrev pub GapGoes : Mode → ℕ → Bytes → ℕ → Type 0
GapGoes mode at bs end = (j : ℕ) × (at + j ≡ end) × (j ≤ length bs) × (last : Mode) × (region_behind (Code mode) j bs ≡ Code last) × (j < length bs → (last ≡ Depth 0) × IsBegun (drop j bs))

pub gap_run : (mode : Mode) (opening at end : ℕ) (bs : Bytes) → skip mode opening at bs ≡ End end → GapGoes mode at bs end
unfolding skip
gap_run mode opening at end [] h = by (is_open mode) h
  where
    by : (c : Bool) → (if c then Open opening else End at) ≡ End end → GapGoes mode at [] end
    by true e = absurd (let z : ⊥ = cc in z)
    by false e = let same : at ≡ end = cc in (zero, omega (arith, same), omega arith, mode, refl, λ l. absurd (omega arith))
gap_run mode opening at end (b ∷ rest) h = by (λ to e. gap_run to (if is_outside mode then at else opening) (at + 1) end rest e) (turn mode b (first rest)) refl h
  where
    by : ((to : Mode) → skip to (if is_outside mode then at else opening) (at + 1) rest ≡ End end → GapGoes to (at + 1) rest end)
        → (o : Option Mode) → turn mode b (first rest) ≡ o → gap_spec.on_turn o (End at) (λ to. skip to (if is_outside mode then at else opening) (at + 1) rest) ≡ End end → GapGoes mode at (b ∷ rest) end
    by later None f g =
        let same : at ≡ end = cc in
        let none : mode ≡ Depth 0 = outside mode b (first rest) f in
        (zero, omega (arith, same), omega arith, mode, refl, λ l. (none, subst (λ m. turn m b (first rest) ≡ None) none f))
    by later (Some to) f g =
        let r : GapGoes to (at + 1) rest end = later to g in
        (suc r.0, omega (arith, r.1), omega (arith, r.2), r.3, subst (λ x. region_behind x r.0 rest ≡ Code r.3) (sym (ap (λ o. on_turn o (region_of_code b (first rest))) f)) r.4, λ l. r.5 (omega (arith, l)))
