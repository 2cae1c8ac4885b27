-- The names of fields, one by one.
use Rattle.std.proofs.Common.{◌≡◌, ℕ, zero, suc, ℤ, pos, ◌+ℤ◌, ◌+◌, ◌<◌, add-one, arith, Bool, true, false, ◌&&◌, List, [], ◌∷◌, length, drop, drop-cons, get_or, Bor, refl, sym, ap, ◌∙◌}
use Rattle.std.specs.List.{list_all}
use Rattle.tla_value.specs.Tree.{Tree, text}
use Rattle.tla_value.specs.TreeOf.{tree_of}
use Rattle.tla_value.specs.declared.value.Value.{Value}
use Rattle.tla_value.specs.declared.value.Value.TheVariants.{Truth, Int, Text, Model, Set, Fun}
use Rattle.tla_value.specs.Sets.{is_member}
use Rattle.tla_value.specs.Choices.{keys_of, counted_up}
use Rattle.tla_core.specs.Value.{mean_fields}
use Rattle.tla_code.specs.CodeExpr.{Scope}
use Rattle.tla_code.specs.Private.Listed.{fields_of_codes}
use Rattle.tla_code.specs.declared.code.Code.{Code}
use Rattle.tla_quick.specs.Private.Names.{names_in}

pub names_are : (scope : Scope) (fields : List (Bor (List ℕ) × Code)) → keys_of (mean_fields (fields_of_codes scope fields)) ≡ names_in fields
names_are scope [] = refl
names_are scope (f ∷ fs) = ap (λ ks. text f.0.now ∷ ks) (names_are scope fs)

module _ (test : Tree → Bool) (fields : List (Bor (List ℕ) × Code)) (i : ℕ) (f : Bor (List ℕ) × Code) where
  pub names_step : f ≡ get_or fields i f → i < length fields → test (text f.0.now) ≡ true → list_all test (names_in (drop i fields)) ≡ list_all test (names_in (drop (i + 1) fields))
  names_step e h g = rw (add-one, drop-cons fields i f h) (ap (λ b. b && list_all test (names_in (drop (suc i) fields))) (ap (λ (y : Bor (List ℕ) × Code). test (text y.0.now)) (sym e) ∙ g))

  pub names_stop : f ≡ get_or fields i f → i < length fields → test (text f.0.now) ≡ false → list_all test (names_in (drop i fields)) ≡ false
  names_stop e h g = rw (drop-cons fields i f h) (ap (λ b. b && list_all test (names_in (drop (suc i) fields))) (ap (λ (y : Bor (List ℕ) × Code). test (text y.0.now)) (sym e) ∙ g))

-- a value that is no text is no name
pub no_name : (v : Value) (fields : List (Bor (List ℕ) × Code)) → ((s : List ℕ) → v ≡ Text s → ⊥) → is_member (tree_of v) (names_in fields) ≡ false
no_name v [] h = refl
no_name (Truth b) (f ∷ fs) h = no_name (Truth b) fs h
no_name (Int z) (f ∷ fs) h = no_name (Int z) fs h
no_name (Text s) (f ∷ fs) h = absurd (h s refl)
no_name (Model s) (f ∷ fs) h = no_name (Model s) fs h
no_name (Set ts) (f ∷ fs) h = no_name (Set ts) fs h
no_name (Fun ps) (f ∷ fs) h = no_name (Fun ps) fs h

-- a number is no name
pub no_numbers : (n : ℕ) (z : ℤ) (fields : List (Bor (List ℕ) × Code)) → 0 < n → list_all (λ a. is_member a (names_in fields)) (counted_up n z) ≡ false
no_numbers zero z fields l = absurd (omega arith)
no_numbers (suc n) z fields l = ap (λ b. b && list_all (λ a. is_member a (names_in fields)) (counted_up n (z +ℤ pos 1))) (no_name (Int z) fields (λ s e. cc))
