-- Sets of records and of tuples: what is evaluated.
use Rattle.std.proofs.Common.{◌≡◌, ℕ, suc, ◌==◌, false, cond, eq-eqb, ne_eqb, List, [], ◌∷◌, map, zip, length, Option, Some, Ok, Err, refl, sym, ap, ◌∙◌}
use Rattle.std.proofs.lemmas.List.{length-map}
use Rattle.tla_value.specs.Tree.{Tree}
use Rattle.tla_value.specs.TreeOf.{tree_of}
use Rattle.tla_value.specs.declared.value.Value.{Value}
use Rattle.tla_value.specs.Choices.{keys_of, parts_of, is_each_once, records_of, tuples_of}
use Rattle.tla_core.specs.declared.fault.Place.{Place}
use Rattle.tla_core.specs.declared.fault.FaultCode.TheVariants.{NoField}
use Rattle.tla_core.specs.Fault.{Outcome, ◌>>=◌, fault}
use Rattle.tla_core.specs.Kinds.{as_set, make_function_set}
use Rattle.tla_core.specs.Lists.{each}
use Rattle.tla_core.specs.Meaning.{Meaning, Bound, Present, Next}
use Rattle.tla_core.specs.SetForms.{means-records, means-product, names_of, parts_have}
use Rattle.tla_core.specs.Membership.{if_some}
use Rattle.tla_eval.specs.Private.Parts.{product_rule, record_set_rule}
use Rattle.tla_operators.specs.Evaluated.{tree_of_evaluated}
use Rattle.tla_core.specs.ExprOf.{expr_of, fields_of_cores, parts_of_cores}
use Rattle.tla_core.specs.Value.{means}
use Rattle.tla_core.specs.declared.expression.Core.{Core}
use Rattle.tla_operators.specs.declared.evaluated.Evaluated.{Evaluated}
use Rattle.tla_sets.proofs.Listed.{bind_assoc, each_long}

pub product_is : (p : Place) (ms : List Meaning) (b : Bound) (s : Present) (t : Next) → (means-product p ms).value b s t ≡ product_rule p ms b s t
product_is p ms b s t = bind_assoc (each (λ (m : Meaning). m.value b s t) ms) (each (as_set p)) (λ lists. make_function_set p (tuples_of lists))

pub record_set_is : (p : Place) (fs : List (List ℕ × Meaning)) (b : Bound) (s : Present) (t : Next) → (means-records p fs).value b s t ≡ record_set_rule p fs b s t
record_set_is p fs b s t = go (each (λ (m : Meaning). m.value b s t) (parts_of fs))
  where
    made : List (List ℕ × List Tree) → Outcome Tree
    made sets = cond (is_each_once (keys_of fs)) (make_function_set p (records_of sets)) (fault NoField p)

    go : (o : Outcome (List Tree)) → ((o >>= each (as_set p)) >>= λ lists. made (zip (names_of fs) lists)) ≡ (o >>= λ vs. (each (as_set p) vs >>= λ lists. Ok (zip (names_of fs) lists)) >>= made)
    go (Err e) = refl
    go (Ok vs) = sym (bind_assoc (each (as_set p) vs) (λ lists. Ok (zip (names_of fs) lists)) made)

-- as many values as fields
pub fields_long : (f : Meaning → Outcome Tree) (fields : List (List ℕ × Core)) (vs : List Evaluated) → each f (parts_of (fields_of_cores fields)) ≡ Ok (map tree_of_evaluated vs) → length fields ≡ length vs
fields_long f fields vs h =
    sym (length-map (fields_of_cores fields) (λ g. g.1) ∙ length-map fields (λ (g : List ℕ × Core). (g.0, means (expr_of g.1))))
    ∙ sym (each_long f (parts_of (fields_of_cores fields)) (map tree_of_evaluated vs) h) ∙ length-map vs tree_of_evaluated

-- ---- tuples
parts_long : (parts : List Core) → length (parts_of_cores parts) ≡ length parts
parts_long [] = refl
parts_long (c ∷ cs) = ap suc (parts_long cs)

pub same_number : (vs : List Value) (parts : List Core) → length vs ≡ length parts → length (map tree_of vs) ≡ length (parts_of_cores parts)
same_number vs parts h = length-map vs tree_of ∙ h ∙ sym (parts_long parts)

pub number_same : (vs : List Value) (parts : List Core) → length (map tree_of vs) ≡ length (parts_of_cores parts) → length vs ≡ length parts
number_same vs parts h = sym (length-map vs tree_of) ∙ h ∙ parts_long parts

module _ (ms : List Meaning) (vs : List Tree) (o : Option (List Tree)) (is : o ≡ Some vs) (b : Bound) (s : Present) (t : Next) where
  known : if_some o (λ us. cond (length us == length ms) (parts_have ms us b s t) (Ok false)) ≡ cond (length vs == length ms) (parts_have ms vs b s t) (Ok false)
  known = ap (λ x. if_some x (λ us. cond (length us == length ms) (parts_have ms us b s t) (Ok false))) is

  pub tuple_long : length vs ≡ length ms → if_some o (λ us. cond (length us == length ms) (parts_have ms us b s t) (Ok false)) ≡ parts_have ms vs b s t
  tuple_long h = known ∙ ap (λ x. cond x (parts_have ms vs b s t) (Ok false)) (eq-eqb (length vs) (length ms) h)

  pub tuple_other : (length vs ≡ length ms → ⊥) → if_some o (λ us. cond (length us == length ms) (parts_have ms us b s t) (Ok false)) ≡ Ok false
  tuple_other h = known ∙ ap (λ x. cond x (parts_have ms vs b s t) (Ok false)) (ne_eqb (length vs) (length ms) h)
