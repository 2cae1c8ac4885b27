-- What comes next, in the words of the definitions.
use Rattle.std.proofs.Common.{◌≡◌, ◌≢◌, ◌+◌, inl, inr, ℕ, Bool, true, false, if◌then◌else◌, drop, length, refl, ap, ◌∙◌, subst}
use Rattle.std.specs.Prelude.{◌==◌}
use Rattle.std.proofs.lemmas.Bool.{cases_Bool}
use Rattle.std.proofs.lemmas.Bool.Decides.{Decides-eqb}
use Rattle.tla_lex.specs.Bytes.{Bytes}
use Rattle.tla_lex.specs.Fronts.{Comes, ends, begins, stays_open}
use Rattle.tla_lex.specs.Gap.{gap}
use Rattle.tla_lex.specs.Places.{place_at}
use Rattle.tla_lex.specs.Reads.{front, behind, begun_at}
use Rattle.tla_lex.specs.ScannerLaws.{FrontIsFound}
use Rattle.tla_lex.specs.declared.gap.Gap.{Gap}
use Rattle.tla_lex.specs.declared.gap.Gap.TheVariants as gaps
use Rattle.tla_lex.specs.declared.lexeme.Source.{Source}
use Rattle.tla_lex.specs.declared.scan.Front.{Front}
use Rattle.tla_lex.specs.declared.scan.Front.TheVariants.{Stops}
use Rattle.tla_lex.specs.declared.scan.Stop.TheVariants.{End}
use Rattle.tla_lex.proofs.GapFound.{gap_is_found}
use Rattle.tla_lex.proofs.Runs.{clash}

module _ (source : Source) (text : Bytes) (at : ℕ) where
  differs : (n : ℕ) → at + n ≢ length text → (at + n == length text) ≡ false
  differs n h = elim (cases_Bool (at + n == length text)) [
    | inl e ↦ absurd (h ((Decides-eqb (at + n) (length text)).0 e))
    | inr e ↦ e
  ]

  found : (g : Gap) → gap (drop at text) ≡ g → Comes source text at (behind source text at g)
  found (gaps.Open n) e = stays_open n ((gap_is_found (drop at text) n).1.0 e)
  found (gaps.End n) e = at_end (at + n == length text) refl
    where
      at_end : (c : Bool) → (at + n == length text) ≡ c → Comes source text at (if c then Stops (End (place_at text (at + n))) else begun_at source text (at + n))
      at_end true o = ends n ((gap_is_found (drop at text) n).0.0 e) ((Decides-eqb (at + n) (length text)).0 o)
      at_end false o = begins n ((gap_is_found (drop at text) n).0.0 e) (λ same. clash ((Decides-eqb (at + n) (length text)).1 same) o)

  comes : (f : Front) → front source text at ≡ f → Comes source text at f
  unfolding front
  comes f h = subst (λ x. Comes source text at x) h (found (gap (drop at text)) refl)

  fronts : (f : Front) → Comes source text at f → front source text at ≡ f
  unfolding front
  fronts f (ends n g e) =
      ap (λ x. behind source text at x) ((gap_is_found (drop at text) n).0.1 g)
      ∙ ap (λ c. if c then Stops (End (place_at text (at + n))) else begun_at source text (at + n)) ((Decides-eqb (at + n) (length text)).1 e)
  fronts f (begins n g e) =
      ap (λ x. behind source text at x) ((gap_is_found (drop at text) n).0.1 g)
      ∙ ap (λ c. if c then Stops (End (place_at text (at + n))) else begun_at source text (at + n)) (differs n e)
  fronts f (stays_open n g) = ap (λ x. behind source text at x) ((gap_is_found (drop at text) n).1.1 g)

pub front_is_found : FrontIsFound
front_is_found source text at f = (comes source text at f, fronts source text at f)
