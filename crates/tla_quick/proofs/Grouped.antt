-- What the value of a group's expression means for its conditions and values.
use Rattle.std.proofs.Common.{◌≡◌, ℕ, ◌+◌, Bool, true, false, cond, ◌<◌, List, [], ◌∷◌, ◌++◌, length, map, take, get_or, option_map, IfSome, Option, Some, None, Ok, Err, refl, ap, sym, subst, ◌∙◌, Bor, Vec, Global}
use Rattle.std.specs.List.{AllZip}
use Rattle.std.proofs.lemmas.List.{map_more}
use Rattle.std.proofs.lemmas.Slice.Zip.{all_zipped_more}
use Rattle.tla_value.specs.Tree.{Tree, Trees, Pairs, truth, int, text, model, set, fun, trees, pairs, entries, entries-pairs, deepest, deepest_pair}
use Rattle.tla_value.specs.TreeOf.{tree_of}
use Rattle.tla_value.specs.declared.value.Value.{Value}
use Rattle.tla_value.specs.Choices.{numbered}
use Rattle.tla_value.specs.Funs.{values_of}
use Rattle.tla_core.specs.declared.expression.Core.{Core}
use Rattle.tla_core.specs.declared.fault.Place.{Place}
use Rattle.tla_core.specs.Fault.{Outcome, ◌>>=◌}
use Rattle.tla_core.specs.ExprOf.{expr_of}
use Rattle.tla_core.specs.Kinds.{as_truth, make_set, make_sequence}
use Rattle.tla_core.specs.Lists.{all_hold, each}
use Rattle.tla_core.specs.Meaning.{Meaning, Bound, Present, Next, asks, as_tree}
use Rattle.tla_core.specs.Value.{val, means, mean_all}
use Rattle.tla_code.specs.CodeExpr.{Scope, expr_in}
use Rattle.tla_code.specs.Forms.{list_expr}
use Rattle.tla_code.specs.Private.Listed.{StandsFor, exprs_of_cores}
use Rattle.tla_code.specs.declared.code.Code.{Code}
use Rattle.tla_code.specs.declared.code.Code.TheViews as code_views
use Rattle.tla_code.specs.declared.code.ListForm.{ListForm}
use Rattle.tla_code.proofs.Listed.{list_in, all_stand}
use Rattle.tla_operators.proofs.Members.{within-ok}
use Rattle.tla_quick.specs.Groups.{referred, is_true, AreFound}
use Rattle.tla_quick.specs.Private.Grouped.{group_expr, IsAnswer}

-- ---- conditions: TRUE or FALSE at one place is the same at another
elsewhere : (p q : Place) (o : Outcome Tree) (h : Bool) → (o >>= as_truth p) ≡ Ok h → (o >>= as_truth q) ≡ Ok h
elsewhere p q (Ok (truth x)) h e = e
elsewhere p q (Ok (int z)) h e = cc
elsewhere p q (Ok (text s)) h e = cc
elsewhere p q (Ok (model s)) h e = cc
elsewhere p q (Ok (set ts)) h e = cc
elsewhere p q (Ok (fun ps)) h e = cc
elsewhere p q (Err f) h e = cc

then_others : (o o' r r' : Outcome Bool) → ((h : Bool) → o ≡ Ok h → o' ≡ Ok h) → ((h : Bool) → r ≡ Ok h → r' ≡ Ok h) → (h : Bool) → (o >>= λ holds. cond holds r (Ok false)) ≡ Ok h → (o' >>= λ holds. cond holds r' (Ok false)) ≡ Ok h
then_others (Ok true) o' r r' here there h e = ap (λ o. o >>= λ holds. cond holds r' (Ok false)) (here true refl) ∙ there h e
then_others (Ok false) o' r r' here there h e = ap (λ o. o >>= λ holds. cond holds r' (Ok false)) (here false refl) ∙ e
then_others (Err f) o' r r' here there h e = cc

module _ (p : Place) (b : Bound) (s : Present) (t : Next) where
  conditions_are : (cores : List Core) (h : Bool) → all_hold (λ m. asks p m b s t) (mean_all (exprs_of_cores cores)) ≡ Ok h → all_hold (λ core. is_true core b s t) cores ≡ Ok h
  conditions_are [] h e = e
  conditions_are (c ∷ cs) h e =
      then_others (asks p (means (expr_of c)) b s t) (is_true c b s t) _ _ (elsewhere p (means (expr_of c)).place (val (expr_of c) b s t)) (conditions_are cs) h e

  values_are : (cores : List Core) → each (λ (m : Meaning). m.value b s t) (mean_all (exprs_of_cores cores)) ≡ each (λ core. val (expr_of core) b s t) cores
  values_are [] = refl
  values_are (c ∷ cs) = ap (λ o. val (expr_of c) b s t >>= λ v. o >>= λ vs. Ok (v ∷ vs)) (values_are cs)

-- ---- the values of a sequence
numbered_values : (n : ℕ) (vs : List Tree) → values_of (numbered n vs) ≡ vs
numbered_values n [] = refl
numbered_values n (v ∷ vs) = ap (λ us. v ∷ us) (numbered_values (n + 1) vs)

abbrev pairs_in : Tree → List (Tree × Tree)
pairs_in (fun ps) = entries ps
pairs_in t = []

items_are : (vs us : List Tree) (ps : List (Tree × Tree)) (v : Tree) → fun (pairs (numbered 1 vs)) ≡ v → v ≡ fun (pairs ps) → values_of ps ≡ us → vs ≡ us
items_are vs us ps v made is h = sym (numbered_values 1 vs) ∙ ap values_of (sym (entries-pairs (numbered 1 vs)) ∙ ap pairs_in (made ∙ is) ∙ entries-pairs ps) ∙ h

sequence_made : (p : Place) (o : Outcome (List Tree)) (v : Tree) → (o >>= make_sequence p) ≡ Ok v → (vs : List Tree) × (o ≡ Ok vs) × (fun (pairs (numbered 1 vs)) ≡ v)
sequence_made p (Ok vs) v e = (vs, refl, within-ok p (length (numbered 1 vs)) (deepest_pair (pairs (numbered 1 vs))) (fun (pairs (numbered 1 vs))) v e)
sequence_made p (Err f) v e = cc

-- ---- the whole
module _ (p : Place) (cs es : List Core) (b : Bound) (s : Present) (t : Next) (v : Tree) where
  if_true : (r : Option (List Tree)) → all_hold (λ core. is_true core b s t) cs ≡ Ok true → (vs : List Tree) → each (λ core. val (expr_of core) b s t) es ≡ Ok vs → fun (pairs (numbered 1 vs)) ≡ v → IsAnswer v r → AreFound cs es b s t r
  if_true None holds vs are made a = absurd (no_truth (made ∙ a.1))
    where
      no_truth : {ps : Pairs} {h : Bool} → fun ps ≡ truth h → ⊥
      no_truth e = cc
  if_true (Some us) holds vs are made a = (holds, are ∙ ap (λ (ws : List Tree). let o : Outcome (List Tree) = Ok ws in o) (items_are vs us a.0 v made a.1 a.2))

  if_false : (r : Option (List Tree)) → all_hold (λ core. is_true core b s t) cs ≡ Ok false → truth false ≡ v → IsAnswer v r → AreFound cs es b s t r
  if_false None holds made a = holds
  if_false (Some us) holds made a = absurd (no_fun (made ∙ a.1))
    where
      no_fun : {ps : Pairs} → truth false ≡ fun ps → ⊥
      no_fun e = cc

  same_tree : {x : Tree} → (let o : Outcome Tree = Ok x in o) ≡ Ok v → x ≡ v
  same_tree e = cc

  abbrev asked : Outcome Bool
  asked = all_hold (λ m. asks p m b s t) (mean_all (exprs_of_cores cs))

  abbrev wanted : Outcome Tree
  wanted = each (λ (m : Meaning). m.value b s t) (mean_all (exprs_of_cores es)) >>= make_sequence p

  decided : (r : Option (List Tree)) → IsAnswer v r → (o : Outcome Bool) → asked ≡ o → ((as_tree o >>= as_truth p) >>= λ holds. cond holds wanted (Ok (truth false))) ≡ Ok v → AreFound cs es b s t r
  decided r a (Ok true) is e =
      let found = sequence_made p (each (λ (m : Meaning). m.value b s t) (mean_all (exprs_of_cores es))) v e in
      if_true r (conditions_are p b s t cs true is) found.0 (sym (values_are p b s t es) ∙ found.1) found.2 a
  decided r a (Ok false) is e = if_false r (conditions_are p b s t cs false is) (same_tree e) a
  decided r a (Err f) is e = cc

  pub group_found : (r : Option (List Tree)) → val (group_expr p cs es) b s t ≡ Ok v → IsAnswer v r → AreFound cs es b s t r
  group_found r e a = decided r a asked refl e

pub answered : (p : Place) (cs es : List Core) (b : Bound) (s : Present) (t : Next) (v : Tree) (o : Option (Option (Vec Value Global))) → val (group_expr p cs es) b s t ≡ Ok v
    → IfSome o (λ r. IsAnswer v (option_map (λ us. map tree_of us.items) r)) → IfSome o (λ r. AreFound cs es b s t (option_map (λ us. map tree_of us.items) r))
answered p cs es b s t v None e h = tt
answered p cs es b s t v (Some r) e h = group_found p cs es b s t v (option_map (λ us. map tree_of us.items) r) e h

-- ---- codes of expressions that are referred to
pub codes_more : (cores : List (Bor Core)) (cs : List Code) (i : ℕ) (x : Bor Core) (c : Code) → i < length cores → x ≡ get_or cores i x → AllZip StandsFor (referred (take i cores)) cs → StandsFor x.now c
    → AllZip StandsFor (referred (take (i + 1) cores)) (cs ++ c ∷ [])
codes_more cores cs i x c l is h r =
    subst (λ us. AllZip StandsFor us (cs ++ c ∷ [])) (sym (map_more (λ (k : Bor Core). k.now) cores i x l ∙ ap (λ (z : Bor Core). referred (take i cores) ++ z.now ∷ []) (sym is)))
    (all_zipped_more StandsFor (referred (take i cores)) cs x.now c h r)

pub list_is : (scope : Scope) (at : Place) (form : ListForm) (codes : Vec Code Global) (cores : List Core) → AllZip StandsFor cores codes.items → expr_in scope (code_views.List at form codes) ≡ list_expr form at (exprs_of_cores cores)
list_is scope at form codes cores h = list_in scope at form codes ∙ ap (list_expr form at) (all_stand scope cores codes.items h)
