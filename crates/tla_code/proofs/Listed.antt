-- What nodes with a list of parts denote, from the list.
use Rattle.std.proofs.Common.{rules, Some, None, ◌≡◌, ℕ, ◌+◌, ◌<◌, List, [], ◌∷◌, ◌++◌, length, take, get_or, Result, Ok, Err, IfOk, refl, ap, sym, subst, ◌∙◌, Vec, Box, Bor, Global}
use Rattle.std.specs.List.{AllZip}
use Rattle.std.proofs.lemmas.List.{take_more}
use Rattle.std.proofs.lemmas.Slice.Zip.{all_zipped_more}
use Rattle.tla_core.specs.declared.fault.Place.{Place}
use Rattle.tla_core.specs.Expr.{Expr, Arms, more_exprs, more_fields, more_updates, no_arms, other, more_arms, cases, enumerated, tuple, record_of, conjunction, disjunction, image, function, except, records, product}
use Rattle.tla_core.specs.ExprOf.{expr_of, exprs_of, fields_of, arms_of, updates_of}
use Rattle.tla_core.specs.declared.expression.Core.{Core, Row_of-Core, end_of-Core, more_of-Core, items-the_row-Core, Row_of-Core-Record-1-2, end_of-Core-Record-1-2, more_of-Core-Record-1-2, items-the_row-Core-Record-1-2, Row_of-Core-Cases-1-2, end_of-Core-Cases-1-2, more_of-Core-Cases-1-2, items-the_row-Core-Cases-1-2, Row_of-Core-Except-2-3, end_of-Core-Except-2-3, more_of-Core-Except-2-3, items-the_row-Core-Except-2-3, items_shown-the_row-Core-0}
use Rattle.tla_core.specs.declared.expression.Core.TheViews as views
use Rattle.tla_core.specs.declared.expression.Core.TheViews.{the_lemmas}
use Rattle.tla_code.specs.Forms.{list_expr, field_expr, map_expr, arms_in}
use Rattle.tla_code.specs.declared.code.ListForm.{ListForm}
use Rattle.tla_code.specs.declared.code.FieldForm.{FieldForm}
use Rattle.tla_code.specs.declared.code.MapForm.{MapForm}
use Rattle.tla_code.specs.declared.code.Code.{Code, Row_of-Code, end_of-Code, more_of-Code, items-the_row-Code, Row_of-Code-Fields-2-2, end_of-Code-Fields-2-2, more_of-Code-Fields-2-2, items-the_row-Code-Fields-2-2, Row_of-Code-Except-2-3, end_of-Code-Except-2-3, more_of-Code-Except-2-3, items-the_row-Code-Except-2-3, items_shown-the_row-Code-0}
use Rattle.tla_code.specs.declared.code.Code.TheViews as code_views
use Rattle.tla_code.specs.declared.code.Code.TheViews.{the_lemmas as code_lemmas}
use Rattle.tla_code.specs.CodeExpr.{Scope, expr_in, exprs_in, fields_in, updates_in}
use Rattle.tla_code.specs.Private.Listed.{exprs_of_codes, fields_of_codes, updates_of_codes, exprs_of_cores, fields_of_list, parts_of_arms, arms_of_list, updates_of_list, StandsFor, FieldStandsFor, UpdateStandsFor}
use mathlib.Core.Former.{Count}

-- a code that denotes an expression that is a core's
pub stands : {E : Type 0} (core : Core) (e : Expr) (r : Result Code E) → e ≡ expr_of core → IfOk r (λ c. (scope : Scope) → expr_in scope c ≡ e) → IfOk r (λ c. StandsFor core c)
stands core e (Ok c) is h = λ scope. h scope ∙ is
stands core e (Err x) is h = h

-- ---- one more iteration of a loop
pub zip_more : {A B : Type 0} (R : A → B → Type 0) (xs : List A) (ys : List B) (i : ℕ) (x : A) (y : B) → i < length xs → x ≡ get_or xs i x → AllZip R (take i xs) ys → R x y → AllZip R (take (i + 1) xs) (ys ++ y ∷ [])
zip_more R xs ys i x y l is h r =
    subst (λ us. AllZip R us (ys ++ y ∷ [])) (sym (take_more xs i x l ∙ ap (λ z. take i xs ++ z ∷ []) (sym is))) (all_zipped_more R (take i xs) ys x y h r)

-- ---- lists
pub all_stand : (scope : Scope) (cores : List Core) (cs : List Code) → AllZip StandsFor cores cs → exprs_of_codes scope cs ≡ exprs_of_cores cores
all_stand scope [] [] h = refl
all_stand scope [] (c ∷ cs) h = absurd h
all_stand scope (x ∷ xs) [] h = absurd h
all_stand scope (x ∷ xs) (c ∷ cs) h = λ i. more_exprs (h.0 scope i) (all_stand scope xs cs h.1 i)

pub fields_stand : (scope : Scope) (fields : List (List ℕ × Core)) (fs : List (Bor (List ℕ) × Code)) → AllZip FieldStandsFor fields fs → fields_of_codes scope fs ≡ fields_of_list fields
fields_stand scope [] [] h = refl
fields_stand scope [] (f ∷ fs) h = absurd h
fields_stand scope (x ∷ xs) [] h = absurd h
fields_stand scope (x ∷ xs) (f ∷ fs) h = λ i. more_fields (h.0.0 i) (h.0.1 scope i) (fields_stand scope xs fs h.1 i)

pub updates_stand : (scope : Scope) (updates : List (Vec Core Global × Core)) (us : List (Vec Code Global × Code)) → AllZip UpdateStandsFor updates us → updates_of_codes scope us ≡ updates_of_list updates
updates_stand scope [] [] h = refl
updates_stand scope [] (u ∷ us) h = absurd h
updates_stand scope (x ∷ xs) [] h = absurd h
updates_stand scope (x ∷ xs) (u ∷ us) h = λ i. more_updates (all_stand scope x.0.items u.0.items h.0.0 i) (h.0.1 scope i) (updates_stand scope xs us h.1 i)

-- ---- rows of cores
row_cores : (n : Count) (row : Row_of-Core n) → exprs_of row ≡ exprs_of_cores (items-the_row-Core n row)
row_cores n end_of-Core = refl
row_cores n (more_of-Core e rest) = ap (more_exprs (expr_of e)) (row_cores _ rest)

row_core_fields : (n : Count) (row : Row_of-Core-Record-1-2 n) → fields_of row ≡ fields_of_list (items-the_row-Core-Record-1-2 n row)
row_core_fields n end_of-Core-Record-1-2 = refl
row_core_fields n (more_of-Core-Record-1-2 name e rest) = ap (more_fields name (expr_of e)) (row_core_fields _ rest)

row_core_arms : (n : Count) (row : Row_of-Core-Cases-1-2 n) (last : Arms) → arms_of row last ≡ arms_of_list (items-the_row-Core-Cases-1-2 n row) last
row_core_arms n end_of-Core-Cases-1-2 last = refl
row_core_arms n (more_of-Core-Cases-1-2 c e rest) last = ap (more_arms (expr_of c) (expr_of e)) (row_core_arms _ rest last)

row_core_updates : (n : Count) (row : Row_of-Core-Except-2-3 n) → updates_of row ≡ updates_of_list (items-the_row-Core-Except-2-3 n row)
row_core_updates n end_of-Core-Except-2-3 = refl
row_core_updates n (more_of-Core-Except-2-3 shape keys e rest) =
    let h = row_cores _ keys ∙ ap exprs_of_cores (sym (items_shown-the_row-Core-0 shape keys)) in
    (λ i. more_updates (h i) (expr_of e) (row_core_updates _ rest i))

pub enumerated_in : (at : Place) (parts : Vec Core Global) → expr_of (views.Enumerated at parts) ≡ enumerated at (exprs_of_cores parts.items)
enumerated_in at parts = search (rules, the_lemmas, row_cores)

pub tuple_in : (at : Place) (parts : Vec Core Global) → expr_of (views.Tuple at parts) ≡ tuple at (exprs_of_cores parts.items)
tuple_in at parts = search (rules, the_lemmas, row_cores)

pub conjunction_in : (at : Place) (parts : Vec Core Global) → expr_of (views.Conjunction at parts) ≡ conjunction at (exprs_of_cores parts.items)
conjunction_in at parts = search (rules, the_lemmas, row_cores)

pub disjunction_in : (at : Place) (parts : Vec Core Global) → expr_of (views.Disjunction at parts) ≡ disjunction at (exprs_of_cores parts.items)
disjunction_in at parts = search (rules, the_lemmas, row_cores)

pub product_in : (at : Place) (parts : Vec Core Global) → expr_of (views.Product at parts) ≡ product at (exprs_of_cores parts.items)
product_in at parts = search (rules, the_lemmas, row_cores)

pub record_of_in : (at : Place) (fields : Vec (List ℕ × Core) Global) → expr_of (views.Record at fields) ≡ record_of at (fields_of_list fields.items)
record_of_in at fields = search (rules, the_lemmas, row_core_fields)

pub records_in : (at : Place) (fields : Vec (List ℕ × Core) Global) → expr_of (views.Records at fields) ≡ records at (fields_of_list fields.items)
records_in at fields = search (rules, the_lemmas, row_core_fields)

pub image_in : (at : Place) (sets : Vec Core Global) (body : Box Core Global) → expr_of (views.Image at sets body) ≡ image at (exprs_of_cores sets.items) (expr_of body.value)
image_in at sets body = search (rules, the_lemmas, row_cores)

pub function_in : (at : Place) (sets : Vec Core Global) (body : Box Core Global) → expr_of (views.Function at sets body) ≡ function at (exprs_of_cores sets.items) (expr_of body.value)
function_in at sets body = search (rules, the_lemmas, row_cores)

pub except_in : (at : Place) (base : Box Core Global) (updates : Vec (Vec Core Global × Core) Global) → expr_of (views.Except at base updates) ≡ except at (expr_of base.value) (updates_of_list updates.items)
except_in at base updates = search (rules, the_lemmas, row_core_updates)

pub cases_in : (at : Place) (arms : Vec (Core × Core) Global) → expr_of (views.Cases at arms None) ≡ cases at (arms_of_list arms.items no_arms)
cases_in at arms = search (rules, the_lemmas, row_core_arms)

pub cases_or_in : (at : Place) (arms : Vec (Core × Core) Global) (last : Box Core Global) → expr_of (views.Cases at arms (Some last)) ≡ cases at (arms_of_list arms.items (other (expr_of last.value)))
cases_or_in at arms last = search (rules, the_lemmas, row_core_arms)

-- ---- arms
-- the arms of conditions and values in turn, and the rest of them
pub arms_read : (arms : List (Core × Core)) (rest : List Core) → arms_in (exprs_of_cores (parts_of_arms arms ++ rest)) ≡ arms_of_list arms (arms_in (exprs_of_cores rest))
arms_read [] rest = refl
arms_read (a ∷ arms) rest = ap (more_arms (expr_of a.0) (expr_of a.1)) (arms_read arms rest)

-- one more arm
pub arms_more : (arms : List (Core × Core)) (i : ℕ) (a : Core × Core) → i < length arms → a ≡ get_or arms i a → parts_of_arms (take (i + 1) arms) ≡ (parts_of_arms (take i arms) ++ a.0 ∷ []) ++ a.1 ∷ []
arms_more arms i a l is = ap parts_of_arms (take_more arms i a l ∙ ap (λ z. take i arms ++ z ∷ []) (sym is)) ∙ at_end (take i arms) a
  where
    at_end : (xs : List (Core × Core)) (x : Core × Core) → parts_of_arms (xs ++ x ∷ []) ≡ (parts_of_arms xs ++ x.0 ∷ []) ++ x.1 ∷ []
    at_end [] x = refl
    at_end (y ∷ ys) x = ap (λ us. y.0 ∷ y.1 ∷ us) (at_end ys x)

-- ---- rows of codes
row_codes : (scope : Scope) (n : Count) (row : Row_of-Code n) → exprs_in scope row ≡ exprs_of_codes scope (items-the_row-Code n row)
row_codes scope n end_of-Code = refl
row_codes scope n (more_of-Code e rest) = ap (more_exprs (expr_in scope e)) (row_codes scope _ rest)

row_fields : (scope : Scope) (n : Count) (row : Row_of-Code-Fields-2-2 n) → fields_in scope row ≡ fields_of_codes scope (items-the_row-Code-Fields-2-2 n row)
row_fields scope n end_of-Code-Fields-2-2 = refl
row_fields scope n (more_of-Code-Fields-2-2 name e rest) = ap (more_fields name.now (expr_in scope e)) (row_fields scope _ rest)

row_updates : (scope : Scope) (n : Count) (row : Row_of-Code-Except-2-3 n) → updates_in scope row ≡ updates_of_codes scope (items-the_row-Code-Except-2-3 n row)
row_updates scope n end_of-Code-Except-2-3 = refl
row_updates scope n (more_of-Code-Except-2-3 shape keys e rest) =
    let h = row_codes scope _ keys ∙ ap (exprs_of_codes scope) (sym (items_shown-the_row-Code-0 shape keys)) in
    (λ i. more_updates (h i) (expr_in scope e) (row_updates scope _ rest i))

pub list_in : (scope : Scope) (at : Place) (form : ListForm) (parts : Vec Code Global) → expr_in scope (code_views.List at form parts) ≡ list_expr form at (exprs_of_codes scope parts.items)
list_in scope at form parts = search (rules, code_lemmas, row_codes scope)

pub fields_of_in : (scope : Scope) (at : Place) (form : FieldForm) (fields : Vec (Bor (List ℕ) × Code) Global) → expr_in scope (code_views.Fields at form fields) ≡ field_expr form at (fields_of_codes scope fields.items)
fields_of_in scope at form fields = search (rules, code_lemmas, row_fields scope)

pub map_in : (scope : Scope) (at : Place) (form : MapForm) (sets : Vec Code Global) (body : Box Code Global) → expr_in scope (code_views.Map at form sets body) ≡ map_expr form at (exprs_of_codes scope sets.items) (expr_in scope body.value)
map_in scope at form sets body = search (rules, code_lemmas, row_codes scope)

pub except_of_in : (scope : Scope) (at : Place) (base : Box Code Global) (updates : Vec (Vec Code Global × Code) Global) → expr_in scope (code_views.Except at base updates) ≡ except at (expr_in scope base.value) (updates_of_codes scope updates.items)
except_of_in scope at base updates = search (rules, code_lemmas, row_updates scope)
