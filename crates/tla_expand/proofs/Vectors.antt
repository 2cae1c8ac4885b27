-- Nodes of lists in memory, and those that they stand for.
use Rattle.std.proofs.Common.{rules, ◌≡◌, ◌<◌, ℕ, List, [], ◌∷◌, length, arith, map, refl, ap, sym, ◌∙◌, Vec, Box, Global, Some, None}
use Rattle.tla_scopes.specs.Nodes.{kept}
use Rattle.tla_core.specs.declared.fault.Place.{Place}
use Rattle.tla_core.specs.declared.expression.Core.{Core, Row_of-Core, end_of-Core, more_of-Core, items-the_row-Core, Row_of-Core-Cases-1-2, end_of-Core-Cases-1-2, more_of-Core-Cases-1-2, items-the_row-Core-Cases-1-2, Row_of-Core-Record-1-2, end_of-Core-Record-1-2, more_of-Core-Record-1-2, items-the_row-Core-Record-1-2, Row_of-Core-Except-2-3, end_of-Core-Except-2-3, more_of-Core-Except-2-3, items-the_row-Core-Except-2-3, items_shown-the_row-Core-0}
use Rattle.tla_core.specs.declared.expression.Core.TheViews as views
use Rattle.tla_core.specs.declared.expression.Core.TheViews.{the_lemmas}
use Rattle.tla_core.specs.Expr.{Arms, conjunction, disjunction, enumerated, tuple, product, image, function, record_of, records, except, cases, more_exprs, more_fields, more_updates, no_arms, other, more_arms}
use Rattle.tla_core.specs.ExprOf.{expr_of, exprs_of, arms_of, exprs_of_arm}
use Rattle.tla_core.specs.ExprOf.{fields_of as core_fields, updates_of as core_updates}
use Rattle.tla_scopes.specs.Lists.{exprs, arms_with, fields_of, updates_of, named_part, changed_part}
use mathlib.Core.Former.{Count}

exprs_row : (n : Count) (row : Row_of-Core n) → exprs_of row ≡ exprs (map expr_of (items-the_row-Core n row))
exprs_row n end_of-Core = refl
exprs_row n (more_of-Core e rest) = ap (λ x. more_exprs (expr_of e) x) (exprs_row _ rest)

pub expr_conjunction : (at : Place) (parts : Vec Core Global) → expr_of (views.Conjunction at parts) ≡ conjunction at (exprs (map expr_of parts.items))
expr_conjunction at parts = search (rules, the_lemmas, exprs_row)

pub expr_disjunction : (at : Place) (parts : Vec Core Global) → expr_of (views.Disjunction at parts) ≡ disjunction at (exprs (map expr_of parts.items))
expr_disjunction at parts = search (rules, the_lemmas, exprs_row)

pub expr_enumerated : (at : Place) (parts : Vec Core Global) → expr_of (views.Enumerated at parts) ≡ enumerated at (exprs (map expr_of parts.items))
expr_enumerated at parts = search (rules, the_lemmas, exprs_row)

pub expr_tuple : (at : Place) (parts : Vec Core Global) → expr_of (views.Tuple at parts) ≡ tuple at (exprs (map expr_of parts.items))
expr_tuple at parts = search (rules, the_lemmas, exprs_row)

-- UNCHANGED of a tuple that has parts
pub kept_some : (at : Place) (cs : List Core) → 0 < length cs → conjunction at (exprs (map expr_of cs)) ≡ kept at (exprs (map expr_of cs))
kept_some at [] h = absurd (omega arith)
kept_some at (c ∷ cs) h = refl

arms_row : (n : Count) (row : Row_of-Core-Cases-1-2 n) (last : Arms) → arms_of row last ≡ arms_with (map exprs_of_arm (items-the_row-Core-Cases-1-2 n row)) last
arms_row n end_of-Core-Cases-1-2 last = refl
arms_row n (more_of-Core-Cases-1-2 c e rest) last = ap (λ x. more_arms (expr_of c) (expr_of e) x) (arms_row _ rest last)

pub expr_cases : (at : Place) (arms : Vec (Core × Core) Global) → expr_of (views.Cases at arms None) ≡ cases at (arms_with (map exprs_of_arm arms.items) no_arms)
expr_cases at arms = search (rules, the_lemmas, arms_row)

pub expr_cases_or : (at : Place) (arms : Vec (Core × Core) Global) (last : Box Core Global)
    → expr_of (views.Cases at arms (Some last)) ≡ cases at (arms_with (map exprs_of_arm arms.items) (other (expr_of last.value)))
expr_cases_or at arms last = search (rules, the_lemmas, arms_row)

pub expr_product : (at : Place) (parts : Vec Core Global) → expr_of (views.Product at parts) ≡ product at (exprs (map expr_of parts.items))
expr_product at parts = search (rules, the_lemmas, exprs_row)

pub expr_image : (at : Place) (sets : Vec Core Global) (body : Box Core Global) → expr_of (views.Image at sets body) ≡ image at (exprs (map expr_of sets.items)) (expr_of body.value)
expr_image at sets body = search (rules, the_lemmas, exprs_row)

pub expr_function : (at : Place) (sets : Vec Core Global) (body : Box Core Global) → expr_of (views.Function at sets body) ≡ function at (exprs (map expr_of sets.items)) (expr_of body.value)
expr_function at sets body = search (rules, the_lemmas, exprs_row)

-- fields
fields_row : (n : Count) (row : Row_of-Core-Record-1-2 n) → core_fields row ≡ fields_of (map named_part (items-the_row-Core-Record-1-2 n row))
fields_row n end_of-Core-Record-1-2 = refl
fields_row n (more_of-Core-Record-1-2 name e rest) = ap (λ x. more_fields name (expr_of e) x) (fields_row _ rest)

pub expr_record : (at : Place) (fields : Vec (List ℕ × Core) Global) → expr_of (views.Record at fields) ≡ record_of at (fields_of (map named_part fields.items))
expr_record at fields = search (rules, the_lemmas, fields_row)

pub expr_records : (at : Place) (fields : Vec (List ℕ × Core) Global) → expr_of (views.Records at fields) ≡ records at (fields_of (map named_part fields.items))
expr_records at fields = search (rules, the_lemmas, fields_row)

-- updates
updates_row : (n : Count) (row : Row_of-Core-Except-2-3 n) → core_updates row ≡ updates_of (map changed_part (items-the_row-Core-Except-2-3 n row))
updates_row n end_of-Core-Except-2-3 = refl
updates_row n (more_of-Core-Except-2-3 shape keys e rest) =
    let h = exprs_row _ keys ∙ ap (λ es. exprs (map expr_of es)) (sym (items_shown-the_row-Core-0 shape keys)) in
    (λ i. more_updates (h i) (expr_of e) (updates_row _ rest i))

pub expr_except : (at : Place) (base : Box Core Global) (updates : Vec (Vec Core Global × Core) Global) → expr_of (views.Except at base updates) ≡ except at (expr_of base.value) (updates_of (map changed_part updates.items))
expr_except at base updates = search (rules, the_lemmas, updates_row)
