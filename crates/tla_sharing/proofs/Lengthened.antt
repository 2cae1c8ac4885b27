-- Codes that denote the same as others once there is one more definition, in lists and in nodes with lists.
use Rattle.std.proofs.Common.{◌≡◌, ℕ, ◌+◌, ◌<◌, List, [], ◌∷◌, ◌++◌, map, length, Some, refl, ap, sym, ◌∙◌, slice_get, Vec, Box, Bor, Global, arith}
use Rattle.std.specs.List.{AllZip}
use Rattle.std.proofs.lemmas.Option.{slice_get-get_or}
use Rattle.std.proofs.lemmas.List.{get_or_append_left}
use Rattle.std.proofs.Math.Seq.{get_or-append_seam}
use Rattle.tla_core.specs.declared.fault.Place.{Place}
use Rattle.tla_core.specs.Expr.{Expr, except, more_exprs, more_fields, more_updates}
use Rattle.tla_code.specs.Forms.{list_expr, field_expr, map_expr}
use Rattle.tla_code.specs.CodeExpr.{Scope, expr_in}
use Rattle.tla_sharing.specs.Outside.{HasNames}
use Rattle.tla_code.specs.Private.Listed.{exprs_of_codes, fields_of_codes, updates_of_codes}
use Rattle.tla_code.specs.declared.code.Code.{Code}
use Rattle.tla_code.specs.declared.code.Code.TheViews as views
use Rattle.tla_code.specs.declared.code.ListForm.{ListForm}
use Rattle.tla_code.specs.declared.code.FieldForm.{FieldForm}
use Rattle.tla_code.specs.declared.code.MapForm.{MapForm}
use Rattle.tla_code.proofs.Listed.{list_in, fields_of_in, map_in, except_of_in}

-- ---- definitions by their numbers
long : (scope : Scope) (d : ℕ × Expr) → length (scope ++ d ∷ []) ≡ length scope + 1
long [] d = refl
long (x ∷ scope) d = let h = long scope d in grind (arith, h)

pub earlier : (scope : Scope) (d : ℕ × Expr) (k : ℕ) → k < length scope → slice_get (scope ++ d ∷ []) k ≡ slice_get scope k
earlier scope d k h =
    slice_get-get_or (scope ++ d ∷ []) k d (let l = long scope d in grind (arith, l, h))
    ∙ ap Some (get_or_append_left scope (d ∷ []) d k h)
    ∙ sym (slice_get-get_or scope k d h)

pub newest : (scope : Scope) (d : ℕ × Expr) → slice_get (scope ++ d ∷ []) (length scope) ≡ Some d
newest scope d = slice_get-get_or (scope ++ d ∷ []) (length scope) d (let l = long scope d in grind (arith, l)) ∙ ap Some (get_or-append_seam scope d [] d)

-- the number of names outside each definition, with one more definition
pub names_longer : (scope : Scope) (outside : List ℕ) (names : ℕ) (e : Expr) → HasNames scope outside → HasNames (scope ++ (names, e) ∷ []) (outside ++ names ∷ [])
names_longer scope outside names e h = longer scope ∙ ap (λ (ns : List ℕ). ns ++ names ∷ []) h where
  longer : (xs : Scope) → map (λ (d : ℕ × Expr). d.0) (xs ++ (names, e) ∷ []) ≡ map (λ (d : ℕ × Expr). d.0) xs ++ names ∷ []
  longer [] = refl
  longer (x ∷ xs) = ap (λ (ns : List ℕ). x.0 ∷ ns) (longer xs)

-- ---- lists
module _ (before after : Scope) where
  abbrev pub Stays : Code → Code → Type 0
  Stays old new = expr_in after new ≡ expr_in before old

  pub all_stay : (old new : List Code) → AllZip Stays old new → exprs_of_codes after new ≡ exprs_of_codes before old
  all_stay [] [] h = refl
  all_stay [] (c ∷ cs) h = absurd h
  all_stay (x ∷ xs) [] h = absurd h
  all_stay (x ∷ xs) (c ∷ cs) h = λ i. more_exprs (h.0 i) (all_stay xs cs h.1 i)

  abbrev pub FieldStays : Bor (List ℕ) × Code → Bor (List ℕ) × Code → Type 0
  FieldStays old new = (new.0.now ≡ old.0.now) × Stays old.1 new.1

  pub fields_stay : (old new : List (Bor (List ℕ) × Code)) → AllZip FieldStays old new → fields_of_codes after new ≡ fields_of_codes before old
  fields_stay [] [] h = refl
  fields_stay [] (c ∷ cs) h = absurd h
  fields_stay (x ∷ xs) [] h = absurd h
  fields_stay (x ∷ xs) (c ∷ cs) h = λ i. more_fields (h.0.0 i) (h.0.1 i) (fields_stay xs cs h.1 i)

  abbrev pub UpdateStays : Vec Code Global × Code → Vec Code Global × Code → Type 0
  UpdateStays old new = AllZip Stays old.0.items new.0.items × Stays old.1 new.1

  pub updates_stay : (old new : List (Vec Code Global × Code)) → AllZip UpdateStays old new → updates_of_codes after new ≡ updates_of_codes before old
  updates_stay [] [] h = refl
  updates_stay [] (c ∷ cs) h = absurd h
  updates_stay (x ∷ xs) [] h = absurd h
  updates_stay (x ∷ xs) (c ∷ cs) h = λ i. more_updates (all_stay x.0.items c.0.items h.0.0 i) (h.0.1 i) (updates_stay xs cs h.1 i)

-- a weaker property holds of the same pairs
pub weaker : {A B : Type 0} (P Q : A → B → Type 0) → ((x : A) (y : B) → P x y → Q x y) → (xs : List A) (ys : List B) → AllZip P xs ys → AllZip Q xs ys
weaker P Q go [] [] h = h
weaker P Q go [] (y ∷ ys) h = absurd h
weaker P Q go (x ∷ xs) [] h = absurd h
weaker P Q go (x ∷ xs) (y ∷ ys) h = (go x y h.0, weaker P Q go xs ys h.1)

-- ---- nodes with lists
module _ (before after : Scope) {c : Code} (at : Place) where
  pub list_stays : (form : ListForm) (parts made : Vec Code Global) → c ≡ views.List at form parts → AllZip (Stays before after) parts.items made.items → expr_in after (views.List at form made) ≡ expr_in before c
  list_stays form parts made e h = list_in after at form made ∙ ap (list_expr form at) (all_stay before after parts.items made.items h) ∙ sym (ap (expr_in before) e ∙ list_in before at form parts)

  pub fields_node_stays : (form : FieldForm) (fields made : Vec (Bor (List ℕ) × Code) Global) → c ≡ views.Fields at form fields → AllZip (FieldStays before after) fields.items made.items → expr_in after (views.Fields at form made) ≡ expr_in before c
  fields_node_stays form fields made e h = fields_of_in after at form made ∙ ap (field_expr form at) (fields_stay before after fields.items made.items h) ∙ sym (ap (expr_in before) e ∙ fields_of_in before at form fields)

  pub map_stays : (form : MapForm) (sets made : Vec Code Global) (body body' : Box Code Global) → c ≡ views.Map at form sets body → AllZip (Stays before after) sets.items made.items → Stays before after body.value body'.value → expr_in after (views.Map at form made body') ≡ expr_in before c
  map_stays form sets made body body' e h k = map_in after at form made body' ∙ (λ i. map_expr form at (all_stay before after sets.items made.items h i) (k i)) ∙ sym (ap (expr_in before) e ∙ map_in before at form sets body)

  pub except_stays : (base base' : Box Code Global) (updates made : Vec (Vec Code Global × Code) Global) → c ≡ views.Except at base updates → Stays before after base.value base'.value → AllZip (UpdateStays before after) updates.items made.items → expr_in after (views.Except at base' made) ≡ expr_in before c
  except_stays base base' updates made e k h = except_of_in after at base' made ∙ (λ i. except at (k i) (updates_stay before after updates.items made.items h i)) ∙ sym (ap (expr_in before) e ∙ except_of_in before at base updates)
