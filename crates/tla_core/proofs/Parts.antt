-- The meanings of the parts of a node, from the list of its parts.
use Rattle.std.proofs.Common.{rules, ◌≡◌, ℕ, suc, ◌+◌, length, add-one, Bool, true, false, ◌&&◌, List, [], ◌∷◌, Option, Some, None, map, refl, ap, ◌∙◌, sym, Vec, Box, Global}
use Rattle.std.specs.List.{list_all}
use Rattle.tla_core.specs.Expr.{Expr, Arms}
use Rattle.tla_core.specs.Fits.{fits, fits_all, fits_fields, fits_arms, fits_updates, count}
use Rattle.tla_core.specs.Fault.{Place}
use Rattle.tla_core.specs.ExprOf.{expr_of, exprs_of, fields_of, arms_of, updates_of, exprs_of_arm, parts_of_cores, fields_of_cores, arms_of_cores, updates_of_cores, update_fits}
use Rattle.tla_core.specs.Value.{means, mean_all, mean_fields, mean_arms, means_other, mean_updates}
use Rattle.tla_core.specs.Meaning.{means-enumerated, means-tuple, means-record_of}
use Rattle.tla_core.specs.Logic.{means-conjunction, means-disjunction, means-cases}
use Rattle.tla_core.specs.Functions.{means-image, means-function, means-except}
use Rattle.tla_core.specs.SetForms.{means-records, means-product}
use Rattle.tla_core.specs.declared.expression.Core.{Core, Row_of-Core, end_of-Core, more_of-Core, items-the_row-Core, Row_of-Core-Record-1-2, end_of-Core-Record-1-2, more_of-Core-Record-1-2, items-the_row-Core-Record-1-2, Row_of-Core-Cases-1-2, end_of-Core-Cases-1-2, more_of-Core-Cases-1-2, items-the_row-Core-Cases-1-2, Row_of-Core-Except-2-3, end_of-Core-Except-2-3, more_of-Core-Except-2-3, items-the_row-Core-Except-2-3, items_shown-the_row-Core-0}
use Rattle.tla_core.specs.declared.expression.Core.TheViews as views
use Rattle.tla_core.specs.declared.expression.Core.TheViews.{the_lemmas}
use mathlib.Core.Former.{Count}

pub row_parts : (n : Count) (row : Row_of-Core n) → mean_all (exprs_of row) ≡ parts_of_cores (items-the_row-Core n row)
row_parts n end_of-Core = refl
row_parts n (more_of-Core e rest) = ap (λ ms. means (expr_of e) ∷ ms) (row_parts _ rest)

pub conjunction_parts : (at : Place) (parts : Vec Core Global) → means (expr_of (views.Conjunction at parts)) ≡ means-conjunction at (parts_of_cores parts.items)
conjunction_parts at parts = search (rules, the_lemmas, row_parts)

pub means_conjunction : (core : Core) (at : Place) (parts : Vec Core Global) → core ≡ views.Conjunction at parts → means (expr_of core) ≡ means-conjunction at (parts_of_cores parts.items)
means_conjunction core at parts e = ap (λ k. means (expr_of k)) e ∙ conjunction_parts at parts

pub disjunction_parts : (at : Place) (parts : Vec Core Global) → means (expr_of (views.Disjunction at parts)) ≡ means-disjunction at (parts_of_cores parts.items)
disjunction_parts at parts = search (rules, the_lemmas, row_parts)

pub means_disjunction : (core : Core) (at : Place) (parts : Vec Core Global) → core ≡ views.Disjunction at parts → means (expr_of core) ≡ means-disjunction at (parts_of_cores parts.items)
means_disjunction core at parts e = ap (λ k. means (expr_of k)) e ∙ disjunction_parts at parts

pub enumerated_parts : (at : Place) (parts : Vec Core Global) → means (expr_of (views.Enumerated at parts)) ≡ means-enumerated at (parts_of_cores parts.items)
enumerated_parts at parts = search (rules, the_lemmas, row_parts)

pub means_enumerated : (core : Core) (at : Place) (parts : Vec Core Global) → core ≡ views.Enumerated at parts → means (expr_of core) ≡ means-enumerated at (parts_of_cores parts.items)
means_enumerated core at parts e = ap (λ k. means (expr_of k)) e ∙ enumerated_parts at parts

pub tuple_parts : (at : Place) (parts : Vec Core Global) → means (expr_of (views.Tuple at parts)) ≡ means-tuple at (parts_of_cores parts.items)
tuple_parts at parts = search (rules, the_lemmas, row_parts)

pub means_tuple : (core : Core) (at : Place) (parts : Vec Core Global) → core ≡ views.Tuple at parts → means (expr_of core) ≡ means-tuple at (parts_of_cores parts.items)
means_tuple core at parts e = ap (λ k. means (expr_of k)) e ∙ tuple_parts at parts

pub product_parts : (at : Place) (parts : Vec Core Global) → means (expr_of (views.Product at parts)) ≡ means-product at (parts_of_cores parts.items)
product_parts at parts = search (rules, the_lemmas, row_parts)

pub means_product : (core : Core) (at : Place) (parts : Vec Core Global) → core ≡ views.Product at parts → means (expr_of core) ≡ means-product at (parts_of_cores parts.items)
means_product core at parts e = ap (λ k. means (expr_of k)) e ∙ product_parts at parts

pub image_parts : (at : Place) (sets : Vec Core Global) (body : Box Core Global) → means (expr_of (views.Image at sets body)) ≡ means-image at (parts_of_cores sets.items) (means (expr_of body.value))
image_parts at sets body = search (rules, the_lemmas, row_parts)

pub means_image : (core : Core) (at : Place) (sets : Vec Core Global) (body : Box Core Global) → core ≡ views.Image at sets body → means (expr_of core) ≡ means-image at (parts_of_cores sets.items) (means (expr_of body.value))
means_image core at sets body e = ap (λ k. means (expr_of k)) e ∙ image_parts at sets body

pub function_parts : (at : Place) (sets : Vec Core Global) (body : Box Core Global) → means (expr_of (views.Function at sets body)) ≡ means-function at (parts_of_cores sets.items) (means (expr_of body.value))
function_parts at sets body = search (rules, the_lemmas, row_parts)

pub means_function : (core : Core) (at : Place) (sets : Vec Core Global) (body : Box Core Global) → core ≡ views.Function at sets body → means (expr_of core) ≡ means-function at (parts_of_cores sets.items) (means (expr_of body.value))
means_function core at sets body e = ap (λ k. means (expr_of k)) e ∙ function_parts at sets body

pub row_fields : (n : Count) (row : Row_of-Core-Record-1-2 n) → mean_fields (fields_of row) ≡ fields_of_cores (items-the_row-Core-Record-1-2 n row)
row_fields n end_of-Core-Record-1-2 = refl
row_fields n (more_of-Core-Record-1-2 name e rest) = ap (λ ms. (name, means (expr_of e)) ∷ ms) (row_fields _ rest)

pub record_parts : (at : Place) (fields : Vec (List ℕ × Core) Global) → means (expr_of (views.Record at fields)) ≡ means-record_of at (fields_of_cores fields.items)
record_parts at fields = search (rules, the_lemmas, row_fields)

pub means_record : (core : Core) (at : Place) (fields : Vec (List ℕ × Core) Global) → core ≡ views.Record at fields → means (expr_of core) ≡ means-record_of at (fields_of_cores fields.items)
means_record core at fields e = ap (λ k. means (expr_of k)) e ∙ record_parts at fields

pub records_parts : (at : Place) (fields : Vec (List ℕ × Core) Global) → means (expr_of (views.Records at fields)) ≡ means-records at (fields_of_cores fields.items)
records_parts at fields = search (rules, the_lemmas, row_fields)

pub means_records : (core : Core) (at : Place) (fields : Vec (List ℕ × Core) Global) → core ≡ views.Records at fields → means (expr_of core) ≡ means-records at (fields_of_cores fields.items)
means_records core at fields e = ap (λ k. means (expr_of k)) e ∙ records_parts at fields

pub row_updates : (n : Count) (row : Row_of-Core-Except-2-3 n) → mean_updates (updates_of row) ≡ updates_of_cores (items-the_row-Core-Except-2-3 n row)
row_updates n end_of-Core-Except-2-3 = refl
row_updates n (more_of-Core-Except-2-3 shape keys e rest) =
    let h = row_parts _ keys ∙ ap parts_of_cores (sym (items_shown-the_row-Core-0 shape keys)) in
    (λ i. (h i, means (expr_of e)) ∷ row_updates _ rest i)

pub except_parts : (at : Place) (base : Box Core Global) (updates : Vec (Vec Core Global × Core) Global) → means (expr_of (views.Except at base updates)) ≡ means-except at (means (expr_of base.value)) (updates_of_cores updates.items)
except_parts at base updates = search (rules, the_lemmas, row_updates)

pub means_except : (core : Core) (at : Place) (base : Box Core Global) (updates : Vec (Vec Core Global × Core) Global) → core ≡ views.Except at base updates → means (expr_of core) ≡ means-except at (means (expr_of base.value)) (updates_of_cores updates.items)
means_except core at base updates e = ap (λ k. means (expr_of k)) e ∙ except_parts at base updates

pub row_arms : (n : Count) (row : Row_of-Core-Cases-1-2 n) (last : Arms) → mean_arms last ≡ [] → mean_arms (arms_of row last) ≡ arms_of_cores (items-the_row-Core-Cases-1-2 n row)
row_arms n end_of-Core-Cases-1-2 last e = e
row_arms n (more_of-Core-Cases-1-2 c e rest) last h = ap (λ arms. (means (expr_of c), means (expr_of e)) ∷ arms) (row_arms _ rest last h)

pub row_other : (n : Count) (row : Row_of-Core-Cases-1-2 n) (last : Arms) → means_other (arms_of row last) ≡ means_other last
row_other n end_of-Core-Cases-1-2 last = refl
row_other n (more_of-Core-Cases-1-2 c e rest) last = row_other _ rest last

pub cases_parts : (at : Place) (arms : Vec (Core × Core) Global) → means (expr_of (views.Cases at arms None)) ≡ means-cases at (arms_of_cores arms.items) None
cases_parts at arms = search (rules, the_lemmas, row_arms, row_other)

pub cases_or_parts : (at : Place) (arms : Vec (Core × Core) Global) (other : Box Core Global) → means (expr_of (views.Cases at arms (Some other))) ≡ means-cases at (arms_of_cores arms.items) (Some (means (expr_of other.value)))
cases_or_parts at arms other = search (rules, the_lemmas, row_arms, row_other)

row_fields_fit : (b n : ℕ) (now : Bool) (k : Count) (row : Row_of-Core-Record-1-2 k) → fits_fields (fields_of row) b n now ≡ list_all (λ (e : Expr). fits e b n now) (map (λ (f : List ℕ × Core). expr_of f.1) (items-the_row-Core-Record-1-2 k row))
row_fields_fit b n now k end_of-Core-Record-1-2 = refl
row_fields_fit b n now k (more_of-Core-Record-1-2 name e rest) = ap (λ x. fits (expr_of e) b n now && x) (row_fields_fit b n now _ rest)

pub record_fits : (at : Place) (fields : Vec (List ℕ × Core) Global) (b n : ℕ) (now : Bool) → fits (expr_of (views.Record at fields)) b n now ≡ list_all (λ (e : Expr). fits e b n now) (map (λ (f : List ℕ × Core). expr_of f.1) fields.items)
record_fits at fields b n now = search (rules, the_lemmas, row_fields_fit b n now)

pub records_fits : (at : Place) (fields : Vec (List ℕ × Core) Global) (b n : ℕ) (now : Bool) → fits (expr_of (views.Records at fields)) b n now ≡ list_all (λ (e : Expr). fits e b n now) (map (λ (f : List ℕ × Core). expr_of f.1) fields.items)
records_fits at fields b n now = search (rules, the_lemmas, row_fields_fit b n now)

four : (a b c d : Bool) → (a && (b && (c && d))) ≡ (((a && b) && c) && d)
four true true c d = refl
four true false c d = refl
four false b c d = refl

and_true : (a : Bool) → (a && true) ≡ a
and_true true = refl
and_true false = refl

abbrev pub arm_fits : ℕ → ℕ → Bool → (Expr × Expr) → Bool
arm_fits b n now a = fits a.0 b n now && fits a.1 b n now

row_arms_fit : (b n : ℕ) (now : Bool) (k : Count) (row : Row_of-Core-Cases-1-2 k) (last : Arms) → fits_arms (arms_of row last) b n now ≡ (list_all (arm_fits b n now) (map exprs_of_arm (items-the_row-Core-Cases-1-2 k row)) && fits_arms last b n now)
row_arms_fit b n now k end_of-Core-Cases-1-2 last = refl
row_arms_fit b n now k (more_of-Core-Cases-1-2 c e rest) last =
    ap (λ x. fits (expr_of c) b n now && (fits (expr_of e) b n now && x)) (row_arms_fit b n now _ rest last)
    ∙ four (fits (expr_of c) b n now) (fits (expr_of e) b n now) (list_all (arm_fits b n now) (map exprs_of_arm (items-the_row-Core-Cases-1-2 _ rest))) (fits_arms last b n now)

cases_fit_so : (at : Place) (arms : Vec (Core × Core) Global) (b n : ℕ) (now : Bool) → fits (expr_of (views.Cases at arms None)) b n now ≡ (list_all (arm_fits b n now) (map exprs_of_arm arms.items) && true)
cases_fit_so at arms b n now = search (rules, the_lemmas, row_arms_fit b n now)

pub cases_fit : (core : Core) (at : Place) (arms : Vec (Core × Core) Global) (o : Option (Box Core Global)) → core ≡ views.Cases at arms o → o ≡ None → (b n : ℕ) (now : Bool) → fits (expr_of core) b n now ≡ list_all (arm_fits b n now) (map exprs_of_arm arms.items)
cases_fit core at arms o e h b n now =
    ap (λ k. fits (expr_of k) b n now) e ∙ ap (λ x. fits (expr_of (views.Cases at arms x)) b n now) h ∙ cases_fit_so at arms b n now ∙ and_true (list_all (arm_fits b n now) (map exprs_of_arm arms.items))

cases_or_fit_so : (at : Place) (arms : Vec (Core × Core) Global) (other : Box Core Global) (b n : ℕ) (now : Bool) → fits (expr_of (views.Cases at arms (Some other))) b n now ≡ (list_all (arm_fits b n now) (map exprs_of_arm arms.items) && fits (expr_of other.value) b n now)
cases_or_fit_so at arms other b n now = search (rules, the_lemmas, row_arms_fit b n now)

pub cases_or_fit : (core : Core) (at : Place) (arms : Vec (Core × Core) Global) (o : Option (Box Core Global)) (other : Box Core Global) → core ≡ views.Cases at arms o → o ≡ Some other → (b n : ℕ) (now : Bool) → fits (expr_of core) b n now ≡ (list_all (arm_fits b n now) (map exprs_of_arm arms.items) && fits (expr_of other.value) b n now)
cases_or_fit core at arms o other e h b n now =
    ap (λ k. fits (expr_of k) b n now) e ∙ ap (λ x. fits (expr_of (views.Cases at arms x)) b n now) h ∙ cases_or_fit_so at arms other b n now

pub means_cases : (core : Core) (at : Place) (arms : Vec (Core × Core) Global) (o : Option (Box Core Global)) → core ≡ views.Cases at arms o → o ≡ None → means (expr_of core) ≡ means-cases at (arms_of_cores arms.items) None
means_cases core at arms o e h = ap (λ k. means (expr_of k)) e ∙ ap (λ x. means (expr_of (views.Cases at arms x))) h ∙ cases_parts at arms

pub means_cases_or : (core : Core) (at : Place) (arms : Vec (Core × Core) Global) (o : Option (Box Core Global)) (other : Box Core Global) → core ≡ views.Cases at arms o → o ≡ Some other → means (expr_of core) ≡ means-cases at (arms_of_cores arms.items) (Some (means (expr_of other.value)))
means_cases_or core at arms o other e h = ap (λ k. means (expr_of k)) e ∙ ap (λ x. means (expr_of (views.Cases at arms x))) h ∙ cases_or_parts at arms other

pub row_fits : (b n : ℕ) (now : Bool) (k : Count) (row : Row_of-Core k) → fits_all (exprs_of row) b n now ≡ list_all (λ (e : Expr). fits e b n now) (map expr_of (items-the_row-Core k row))
row_fits b n now k end_of-Core = refl
row_fits b n now k (more_of-Core e rest) = ap (λ x. fits (expr_of e) b n now && x) (row_fits b n now _ rest)

pub conjunction_fits : (at : Place) (parts : Vec Core Global) (b n : ℕ) (now : Bool) → fits (expr_of (views.Conjunction at parts)) b n now ≡ list_all (λ (e : Expr). fits e b n now) (map expr_of parts.items)
conjunction_fits at parts b n now = search (rules, the_lemmas, row_fits b n now)

pub disjunction_fits : (at : Place) (parts : Vec Core Global) (b n : ℕ) (now : Bool) → fits (expr_of (views.Disjunction at parts)) b n now ≡ list_all (λ (e : Expr). fits e b n now) (map expr_of parts.items)
disjunction_fits at parts b n now = search (rules, the_lemmas, row_fits b n now)

pub enumerated_fits : (at : Place) (parts : Vec Core Global) (b n : ℕ) (now : Bool) → fits (expr_of (views.Enumerated at parts)) b n now ≡ list_all (λ (e : Expr). fits e b n now) (map expr_of parts.items)
enumerated_fits at parts b n now = search (rules, the_lemmas, row_fits b n now)

pub tuple_fits : (at : Place) (parts : Vec Core Global) (b n : ℕ) (now : Bool) → fits (expr_of (views.Tuple at parts)) b n now ≡ list_all (λ (e : Expr). fits e b n now) (map expr_of parts.items)
tuple_fits at parts b n now = search (rules, the_lemmas, row_fits b n now)

pub product_fits : (at : Place) (parts : Vec Core Global) (b n : ℕ) (now : Bool) → fits (expr_of (views.Product at parts)) b n now ≡ list_all (λ (e : Expr). fits e b n now) (map expr_of parts.items)
product_fits at parts b n now = search (rules, the_lemmas, row_fits b n now)

row_count : (k : Count) (row : Row_of-Core k) → count (exprs_of row) ≡ length (items-the_row-Core k row)
row_count k end_of-Core = refl
row_count k (more_of-Core e rest) = rw (add-one) (ap suc (row_count _ rest))

pub image_fits : (at : Place) (sets : Vec Core Global) (body : Box Core Global) (b n : ℕ) (now : Bool) → fits (expr_of (views.Image at sets body)) b n now ≡ (list_all (λ (e : Expr). fits e b n now) (map expr_of sets.items) && fits (expr_of body.value) (b + length sets.items) n now)
image_fits at sets body b n now = search (rules, the_lemmas, row_fits b n now, row_count)

pub function_fits : (at : Place) (sets : Vec Core Global) (body : Box Core Global) (b n : ℕ) (now : Bool) → fits (expr_of (views.Function at sets body)) b n now ≡ (list_all (λ (e : Expr). fits e b n now) (map expr_of sets.items) && fits (expr_of body.value) (b + length sets.items) n now)
function_fits at sets body b n now = search (rules, the_lemmas, row_fits b n now, row_count)

three : (a b c : Bool) → (a && (b && c)) ≡ ((a && b) && c)
three true b c = refl
three false b c = refl

row_updates_fit : (b n : ℕ) (now : Bool) (k : Count) (row : Row_of-Core-Except-2-3 k) → fits_updates (updates_of row) b n now ≡ list_all (update_fits b n now) (items-the_row-Core-Except-2-3 k row)
row_updates_fit b n now k end_of-Core-Except-2-3 = refl
row_updates_fit b n now k (more_of-Core-Except-2-3 shape keys e rest) =
    let h = row_fits b n now _ keys ∙ ap (λ us. list_all (λ (x : Expr). fits x b n now) (map expr_of us)) (sym (items_shown-the_row-Core-0 shape keys)) in
    (λ i. h i && (fits (expr_of e) (b + 1) n now && row_updates_fit b n now _ rest i))
    ∙ three (h 1) (fits (expr_of e) (b + 1) n now) (list_all (update_fits b n now) (items-the_row-Core-Except-2-3 _ rest))

pub except_fits : (at : Place) (base : Box Core Global) (updates : Vec (Vec Core Global × Core) Global) (b n : ℕ) (now : Bool) → fits (expr_of (views.Except at base updates)) b n now ≡ (fits (expr_of base.value) b n now && list_all (update_fits b n now) updates.items)
except_fits at base updates b n now = search (rules, the_lemmas, row_updates_fit b n now)
