-- When a code denotes the expression of a core, and the expressions of lists of both.
use Rattle.std.specs.Prelude.{◌≡◌, ℕ, List, [], ◌∷◌, Option, Some, None}
use Rattle.std.specs.List.{AllZip}
use Rattle.std.proofs.Common.{Vec, Bor, Global}
use Rattle.tla_core.specs.Expr.{Exprs, Fields, Arms, Updates, no_exprs, more_exprs, no_fields, more_fields, no_arms, other, more_arms, no_updates, more_updates}
use Rattle.tla_core.specs.ExprOf.{expr_of}
use Rattle.tla_core.specs.declared.expression.Core.{Core}
use Rattle.tla_code.specs.CodeExpr.{Scope, expr_in}
use Rattle.tla_code.specs.declared.code.Code.{Code}

abbrev pub exprs_of_codes : Scope → List Code → Exprs
exprs_of_codes scope [] = no_exprs
exprs_of_codes scope (c ∷ cs) = more_exprs (expr_in scope c) (exprs_of_codes scope cs)

abbrev pub fields_of_codes : Scope → List (Bor (List ℕ) × Code) → Fields
fields_of_codes scope [] = no_fields
fields_of_codes scope (f ∷ fs) = more_fields f.0.now (expr_in scope f.1) (fields_of_codes scope fs)

abbrev pub updates_of_codes : Scope → List (Vec Code Global × Code) → Updates
updates_of_codes scope [] = no_updates
updates_of_codes scope (u ∷ us) = more_updates (exprs_of_codes scope u.0.items) (expr_in scope u.1) (updates_of_codes scope us)

abbrev pub exprs_of_cores : List Core → Exprs
exprs_of_cores [] = no_exprs
exprs_of_cores (c ∷ cs) = more_exprs (expr_of c) (exprs_of_cores cs)

abbrev pub fields_of_list : List (List ℕ × Core) → Fields
fields_of_list [] = no_fields
fields_of_list (f ∷ fs) = more_fields f.0 (expr_of f.1) (fields_of_list fs)

-- the conditions and values of arms in turn, and the arms of a CASE before its last
abbrev pub parts_of_arms : List (Core × Core) → List Core
parts_of_arms [] = []
parts_of_arms (a ∷ arms) = a.0 ∷ a.1 ∷ parts_of_arms arms

abbrev pub arms_of_list : List (Core × Core) → Arms → Arms
arms_of_list [] last = last
arms_of_list (a ∷ arms) last = more_arms (expr_of a.0) (expr_of a.1) (arms_of_list arms last)

abbrev pub arm_of_other : Option (Bor Core) → Arms
arm_of_other None = no_arms
arm_of_other (Some core) = other (expr_of core.now)

abbrev pub updates_of_list : List (Vec Core Global × Core) → Updates
updates_of_list [] = no_updates
updates_of_list (u ∷ us) = more_updates (exprs_of_cores u.0.items) (expr_of u.1) (updates_of_list us)

-- a code denotes the expression of a core in every scope
abbrev pub StandsFor : Core → Code → Type 0
StandsFor core c = (scope : Scope) → expr_in scope c ≡ expr_of core

abbrev pub FieldStandsFor : List ℕ × Core → Bor (List ℕ) × Code → Type 0
FieldStandsFor field f = (f.0.now ≡ field.0) × StandsFor field.1 f.1

abbrev pub UpdateStandsFor : Vec Core Global × Core → Vec Code Global × Code → Type 0
UpdateStandsFor update u = AllZip StandsFor update.0.items u.0.items × StandsFor update.1 u.1
