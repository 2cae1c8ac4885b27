-- The value of a form whose parts have known values.
use Rattle.std.proofs.Common.{◌≡◌, ℕ, suc, ◌+◌, ◌*◌, ◌<◌, ◌≤◌, arith, Bool, true, false, cond, List, [], ◌∷◌, length, map, drop, drop-cons, add-one, get_or, Result, Ok, Err, refl, ap, sym, subst, ◌∙◌}
use Rattle.std.proofs.lemmas.List.{drop_all, length-map}
use Rattle.tla_value.specs.Tree.{Tree, truth}
use Rattle.tla_value.specs.TreeOf.{tree_of}
use Rattle.tla_value.specs.declared.value.Value.{Value}
use Rattle.tla_core.specs.declared.fault.Place.{Place}
use Rattle.tla_core.specs.Fault.{Outcome, ◌>>=◌}
use Rattle.tla_core.specs.Kinds.{as_truth}
use Rattle.tla_core.specs.Lists.{all_hold, some_hold, taken}
use Rattle.tla_core.specs.Meaning.{Meaning, Bound, Present, Next, asks, as_tree}
use Rattle.tla_core.specs.Value.{means, mean_all, mean_arms, means_other, val}
use Rattle.tla_code.specs.CodeExpr.{Scope, expr_in}
use Rattle.tla_code.specs.Forms.{arms_in}
use Rattle.tla_code.specs.Private.Listed.{exprs_of_codes}
use Rattle.tla_code.specs.declared.code.Code.{Code}
use Rattle.tla_quick.specs.declared.stop.Stop.{Stop}
use Rattle.tla_quick.specs.Private.Answers.{Answers}

-- a truth value as a value
pub truth_told : (r : Result Bool Stop) (o : Outcome Bool) → Answers (λ (b : Bool). b) r o → Answers truth r (as_tree o)
truth_told (Ok b) o h = ap as_tree h
truth_told (Err e) o h = tt

-- what follows a known part
pub after : {X A B : Type 0} (view : X → B) (r : Result X Stop) (o : Outcome A) (k : A → Outcome B) (x : A) → o ≡ Ok x → Answers view r (k x) → Answers view r (o >>= k)
after view r o k x e h = subst (λ u. Answers view r (u >>= k)) (sym e) h

-- equal arguments have equal results
pub same_answer : {X A : Type 0} (view : X → A) (r : Result X Stop) (o o' : Outcome A) → o ≡ o' → Answers view r o' → Answers view r o
same_answer view r o o' e h = subst (Answers view r) (sym e) h

-- ---- a list of parts, from one of them on
pub codes_long : (scope : Scope) (codes : List Code) → length (mean_all (exprs_of_codes scope codes)) ≡ length codes
codes_long scope [] = refl
codes_long scope (c ∷ cs) = ap suc (codes_long scope cs)

pub same_number : (vs : List Value) (scope : Scope) (codes : List Code) → length vs ≡ length codes → length (map tree_of vs) ≡ length (mean_all (exprs_of_codes scope codes))
same_number vs scope codes h = length-map vs tree_of ∙ h ∙ sym (codes_long scope codes)

pub number_same : (vs : List Value) (scope : Scope) (codes : List Code) → length (map tree_of vs) ≡ length (mean_all (exprs_of_codes scope codes)) → length vs ≡ length codes
number_same vs scope codes h = sym (length-map vs tree_of) ∙ h ∙ codes_long scope codes

module _ (scope : Scope) (b : Bound) (s : Present) (t : Next) (p : Place) (codes : List Code) (i : ℕ) where
  abbrev ask : Meaning → Outcome Bool
  ask m = asks p m b s t

  abbrev from : ℕ → List Meaning
  from n = mean_all (exprs_of_codes scope (drop n codes))

  module _ (x : Code) (is : x ≡ get_or codes i x) (l : i < length codes) where
    here : from i ≡ means (expr_in scope x) ∷ from (i + 1)
    here = rw add-one (ap (λ (cs : List Code). mean_all (exprs_of_codes scope cs)) (drop-cons codes i x l ∙ ap (λ (y : Code). y ∷ drop (suc i) codes) (sym is)))

    module _ (holds : Bool) (told : val (expr_in scope x) b s t ≡ Ok (truth holds)) where
      asked : ask (means (expr_in scope x)) ≡ Ok holds
      asked = ap (λ (o : Outcome Tree). o >>= as_truth p) told

      all_here : all_hold ask (from i) ≡ cond holds (all_hold ask (from (i + 1))) (Ok false)
      all_here = ap (all_hold ask) here ∙ ap (λ (o : Outcome Bool). o >>= λ h. cond h (all_hold ask (from (i + 1))) (Ok false)) asked

      some_here : some_hold ask (from i) ≡ cond holds (Ok true) (some_hold ask (from (i + 1)))
      some_here = ap (some_hold ask) here ∙ ap (λ (o : Outcome Bool). o >>= λ h. cond h (Ok true) (some_hold ask (from (i + 1)))) asked

      pub parts_more : holds ≡ true → all_hold ask (from i) ≡ all_hold ask (from (i + 1))
      parts_more e = all_here ∙ ap (λ h. cond h (all_hold ask (from (i + 1))) (Ok false)) e

      pub parts_stop : holds ≡ false → all_hold ask (from i) ≡ Ok false
      parts_stop e = all_here ∙ ap (λ h. cond h (all_hold ask (from (i + 1))) (Ok false)) e

      pub some_parts_more : holds ≡ false → some_hold ask (from i) ≡ some_hold ask (from (i + 1))
      some_parts_more e = some_here ∙ ap (λ h. cond h (Ok true) (some_hold ask (from (i + 1)))) e

      pub some_parts_stop : holds ≡ true → some_hold ask (from i) ≡ Ok true
      some_parts_stop e = some_here ∙ ap (λ h. cond h (Ok true) (some_hold ask (from (i + 1)))) e

  pub parts_end : length codes ≤ i → all_hold ask (from i) ≡ Ok true
  parts_end h = ap (λ (cs : List Code). all_hold ask (mean_all (exprs_of_codes scope cs))) (drop_all i codes h)

  pub some_parts_end : length codes ≤ i → some_hold ask (from i) ≡ Ok false
  some_parts_end h = ap (λ (cs : List Code). some_hold ask (mean_all (exprs_of_codes scope cs))) (drop_all i codes h)

-- ---- the arms of a CASE, from one of them on: the result of `go` for the part that is taken
two_here : (codes : List Code) (i : ℕ) (x d : Code) → x ≡ get_or codes i x → suc i < length codes → drop i codes ≡ x ∷ get_or codes (suc i) d ∷ drop (suc (suc i)) codes
two_here codes i x d is l =
    drop-cons codes i x (omega arith)
    ∙ (λ j. sym is j ∷ drop-cons codes (suc i) d l j)

module _ (scope : Scope) (b : Bound) (s : Present) (t : Next) (p : Place) {A : Type 0} (go : Meaning → Outcome A) (codes : List Code) where
  abbrev case_of : List Code → Outcome A
  case_of cs = let arms = arms_in (exprs_of_codes scope cs) in taken p (λ m. asks p m b s t) go (mean_arms arms) (means_other arms)

  arm_here : (x y : Code) (rest : List Code) (holds : Bool) → val (expr_in scope x) b s t ≡ Ok (truth holds) → case_of (x ∷ y ∷ rest) ≡ cond holds (go (means (expr_in scope y))) (case_of rest)
  arm_here x y rest holds e = ap (λ (o : Outcome Tree). (o >>= as_truth p) >>= λ h. cond h (go (means (expr_in scope y))) (case_of rest)) e

  module _ (i : ℕ) (x : Code) (is : x ≡ get_or codes (2 * i) x) (l : 2 * i + 1 < length codes) (holds : Bool) (told : val (expr_in scope x) b s t ≡ Ok (truth holds)) where
    pub arm_passed : holds ≡ false → case_of (drop (2 * i) codes) ≡ case_of (drop (2 * (i + 1)) codes)
    arm_passed e =
        let n : suc (suc (2 * i)) ≡ 2 * (i + 1) = omega arith in
        ap case_of (two_here codes (2 * i) x x is (omega arith))
        ∙ arm_here x (get_or codes (suc (2 * i)) x) (drop (suc (suc (2 * i))) codes) false (told ∙ ap (λ h. Ok (truth h)) e)
        ∙ ap (λ k. case_of (drop k codes)) n

    pub arm_taken : (d : Code) → holds ≡ true → case_of (drop (2 * i) codes) ≡ go (means (expr_in scope (get_or codes (2 * i + 1) d)))
    arm_taken d e =
        let n : suc (2 * i) ≡ 2 * i + 1 = omega arith in
        ap case_of (two_here codes (2 * i) x d is (omega arith))
        ∙ arm_here x (get_or codes (suc (2 * i)) d) (drop (suc (suc (2 * i))) codes) true (told ∙ ap (λ h. Ok (truth h)) e)
        ∙ ap (λ k. go (means (expr_in scope (get_or codes k d)))) n

  pub arm_other : (i : ℕ) (d : Code) → suc i ≡ length codes → case_of (drop i codes) ≡ go (means (expr_in scope (get_or codes i d)))
  arm_other i d l = ap case_of (drop-cons codes i d (omega arith) ∙ (λ j. get_or codes i d ∷ drop_all (suc i) codes (omega arith) j))
