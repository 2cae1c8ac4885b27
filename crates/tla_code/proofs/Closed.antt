-- Codes of closed parts are closed.
use Rattle.std.proofs.Common.{◌≡◌, ℕ, ◌+◌, ◌<◌, ◌≤◌, List, [], ◌∷◌, length, take, get_or, refl, ap, sym, subst, ◌∙◌, Vec, Box, Bor, Global}
use Rattle.std.specs.List.{All}
use Rattle.std.proofs.lemmas.List.{take_all}
use Rattle.std.proofs.lemmas.List.Elements.{All-head, All-tail, All-more}
use Rattle.tla_core.specs.declared.fault.Place.{Place}
use Rattle.tla_core.specs.Expr.{Expr, Exprs, Fields, except, no_exprs, more_exprs, more_fields, more_updates}
use Rattle.tla_code.specs.declared.code.ListForm.{ListForm}
use Rattle.tla_code.specs.declared.code.ListForm.TheVariants.{Enumerated, Tuple, Conjunction, Disjunction, Product, Cases}
use Rattle.tla_code.specs.declared.code.FieldForm.{FieldForm}
use Rattle.tla_code.specs.declared.code.FieldForm.TheVariants.{Record, Records}
use Rattle.tla_code.specs.declared.code.MapForm.{MapForm}
use Rattle.tla_code.specs.declared.code.MapForm.TheVariants.{Image, Function}
use Rattle.tla_code.specs.declared.code.Code.{Code}
use Rattle.tla_code.specs.declared.code.Code.TheViews as views
use Rattle.tla_code.specs.Forms.{list_expr, field_expr, map_expr, arms_in}
use Rattle.tla_code.specs.CodeExpr.{Scope, expr_in}
use Rattle.tla_code.specs.NoVariables.{HasNoVariables, HaveNoVariables, ArmsHaveNone, FieldsHaveNone, UpdatesHaveNone, IsClosed, FieldIsClosed, UpdateIsClosed}
use Rattle.tla_code.specs.Private.Listed.{exprs_of_codes, fields_of_codes, updates_of_codes}
use Rattle.tla_code.proofs.Listed.{list_in, fields_of_in, map_in, except_of_in}

-- ---- loops
pub one_more_holds : {X : Type 0} (P : X → Type 0) (xs : List X) (i : ℕ) (x : X) → i < length xs → x ≡ get_or xs i x → All P (take i xs) → P x → All P (take (i + 1) xs)
one_more_holds P xs i x l is h p = All-more P xs i x l h (subst P is p)

pub each_holds : {X : Type 0} (P : X → Type 0) (xs : List X) (i : ℕ) → length xs ≤ i → All P (take i xs) → All P xs
each_holds P xs i l h = subst (λ ys. All P ys) (take_all i xs l) h

-- ---- forms of expressions without variables
arms_steady : (es : Exprs) → HaveNoVariables es → ArmsHaveNone (arms_in es)
arms_steady no_exprs h = tt
arms_steady (more_exprs e no_exprs) h = h.0
arms_steady (more_exprs c (more_exprs e rest)) h = (h.0, h.1.0, arms_steady rest h.1.1)

list_steady : (f : ListForm) (p : Place) (es : Exprs) → HaveNoVariables es → HasNoVariables (list_expr f p es)
list_steady Enumerated p es h = h
list_steady Tuple p es h = h
list_steady Conjunction p es h = h
list_steady Disjunction p es h = h
list_steady Product p es h = h
list_steady Cases p es h = arms_steady es h

field_steady : (f : FieldForm) (p : Place) (fs : Fields) → FieldsHaveNone fs → HasNoVariables (field_expr f p fs)
field_steady Record p fs h = h
field_steady Records p fs h = h

map_steady : (f : MapForm) (p : Place) (es : Exprs) (e : Expr) → HaveNoVariables es × HasNoVariables e → HasNoVariables (map_expr f p es e)
map_steady Image p es e h = h
map_steady Function p es e h = h

-- ---- lists of closed codes
all_steady : (cs : List Code) → All IsClosed cs → HaveNoVariables (exprs_of_codes [] cs)
all_steady [] h = tt
all_steady (c ∷ cs) h = ((All-head IsClosed c cs h).0, all_steady cs (All-tail IsClosed c cs h))

all_same : (cs : List Code) → All IsClosed cs → (scope : Scope) → exprs_of_codes scope cs ≡ exprs_of_codes [] cs
all_same [] h scope = refl
all_same (c ∷ cs) h scope = λ i. more_exprs ((All-head IsClosed c cs h).1 scope i) (all_same cs (All-tail IsClosed c cs h) scope i)

fields_steady : (fs : List (Bor (List ℕ) × Code)) → All FieldIsClosed fs → FieldsHaveNone (fields_of_codes [] fs)
fields_steady [] h = tt
fields_steady (f ∷ fs) h = ((All-head FieldIsClosed f fs h).0, fields_steady fs (All-tail FieldIsClosed f fs h))

fields_same : (fs : List (Bor (List ℕ) × Code)) → All FieldIsClosed fs → (scope : Scope) → fields_of_codes scope fs ≡ fields_of_codes [] fs
fields_same [] h scope = refl
fields_same (f ∷ fs) h scope = λ i. more_fields f.0.now ((All-head FieldIsClosed f fs h).1 scope i) (fields_same fs (All-tail FieldIsClosed f fs h) scope i)

updates_steady : (us : List (Vec Code Global × Code)) → All UpdateIsClosed us → UpdatesHaveNone (updates_of_codes [] us)
updates_steady [] h = tt
updates_steady (u ∷ us) h =
    let first = All-head UpdateIsClosed u us h in
    (all_steady u.0.items first.0, first.1.0, updates_steady us (All-tail UpdateIsClosed u us h))

updates_same : (us : List (Vec Code Global × Code)) → All UpdateIsClosed us → (scope : Scope) → updates_of_codes scope us ≡ updates_of_codes [] us
updates_same [] h scope = refl
updates_same (u ∷ us) h scope =
    let first = All-head UpdateIsClosed u us h in
    (λ i. more_updates (all_same u.0.items first.0 scope i) (first.1.1 scope i) (updates_same us (All-tail UpdateIsClosed u us h) scope i))

-- ---- nodes
-- a code that denotes this expression in each scope
closed : (c : Code) (e : Scope → Expr) → ((scope : Scope) → expr_in scope c ≡ e scope) → HasNoVariables (e []) → ((scope : Scope) → e scope ≡ e []) → IsClosed c
closed c e is steady same = (subst HasNoVariables (sym (is [])) steady, λ scope. is scope ∙ same scope ∙ sym (is []))

module _ (c : Code) (p : Place) where
  pub list_closed : (f : ListForm) (parts : Vec Code Global) → c ≡ views.List p f parts → All IsClosed parts.items → IsClosed c
  list_closed f parts is h = closed c (λ scope. list_expr f p (exprs_of_codes scope parts.items)) (λ scope. ap (expr_in scope) is ∙ list_in scope p f parts) (list_steady f p (exprs_of_codes [] parts.items) (all_steady parts.items h)) (λ scope. ap (list_expr f p) (all_same parts.items h scope))

  pub fields_closed : (f : FieldForm) (fields : Vec (Bor (List ℕ) × Code) Global) → c ≡ views.Fields p f fields → All FieldIsClosed fields.items → IsClosed c
  fields_closed f fields is h = closed c (λ scope. field_expr f p (fields_of_codes scope fields.items)) (λ scope. ap (expr_in scope) is ∙ fields_of_in scope p f fields) (field_steady f p (fields_of_codes [] fields.items) (fields_steady fields.items h)) (λ scope. ap (field_expr f p) (fields_same fields.items h scope))

  pub map_closed : (f : MapForm) (sets : Vec Code Global) (a : Box Code Global) → c ≡ views.Map p f sets a → All IsClosed sets.items → IsClosed a.value → IsClosed c
  map_closed f sets a is h k = closed c (λ scope. map_expr f p (exprs_of_codes scope sets.items) (expr_in scope a.value)) (λ scope. ap (expr_in scope) is ∙ map_in scope p f sets a) (map_steady f p (exprs_of_codes [] sets.items) (expr_in [] a.value) (all_steady sets.items h, k.0)) (λ scope i. map_expr f p (all_same sets.items h scope i) (k.1 scope i))

  pub except_closed : (a : Box Code Global) (updates : Vec (Vec Code Global × Code) Global) → c ≡ views.Except p a updates → IsClosed a.value → All UpdateIsClosed updates.items → IsClosed c
  except_closed a updates is h k = closed c (λ scope. except p (expr_in scope a.value) (updates_of_codes scope updates.items)) (λ scope. ap (expr_in scope) is ∙ except_of_in scope p a updates) (h.0, updates_steady updates.items k) (λ scope i. except p (h.1 scope i) (updates_same updates.items k scope i))
