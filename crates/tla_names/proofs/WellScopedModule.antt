-- What is well scoped has no misuse, and what has no misuse is well scoped.
use Rattle.std.proofs.Common.{◌≡◌, ◌↔◌, refl, sym, ◌∙◌, Bool, true, false, true≢false, List, [], ◌∷◌, ◌++◌, append-nil, map, Option, Some, None, if◌then◌else◌, All, Contains}
use Rattle.std.specs.List.{flat_map}
use Rattle.std.specs.Str.{bytes_eq}
use Rattle.std.proofs.lemmas.List.Elements.{All-nil, All-cons, All-head, All-tail, All-append}
use Rattle.std.proofs.lemmas.List.Folds.{list_any-from_Any}
use Rattle.std.proofs.lemmas.Map.Views.{Contains-from_any}
use Rattle.tla_tree.specs.declared.word.Written.{Written}
use Rattle.tla_tree.specs.Units.{UnitTree, Separator, Extends, Variables, Operator, Defines, Local, Constants, Assume, Theorem, Declared}
use Rattle.tla_config.specs.Names.{Name, is_among}
use Rattle.tla_config.specs.Statements.{Statement}
use Rattle.tla_names.specs.Maybe.{or_else}
use Rattle.tla_names.specs.Scope.{Scope}
use Rattle.tla_names.specs.Known.{Misuse, brought, new_name, misused, misused_definition}
use Rattle.tla_names.specs.WellScoped.{Takes, AreNew}
use Rattle.tla_names.specs.WellScopedModule.{modules_of, signatures_of, IsWellScopedUnit, AreWellScopedUnits, IsWellScopedModule}
use Rattle.tla_names.specs.Misuses.{misuse, misuse_from}
use Rattle.tla_names.specs.Named.{AreNamed, named, misnamed, each_misnamed, names_misused}
use Rattle.tla_names.specs.Constants.{AreAssigned, constants_in, misused_constants, first_unvalued, declared_unvalued, unvalued}
use Rattle.tla_names.proofs.Inserted.{same_name, equal_name}
use Rattle.tla_names.proofs.NewNames.{both, used_none, new_none, brought_first, none_new, known_cons}
use Rattle.tla_names.proofs.WellScoped.{nothing, well_scoped, definition_well_scoped}

constants_well_scoped : (σ : Scope) (ds : List Declared) → AreNew σ (map (λ (d : Declared). d.0.word) ds) ↔ (misused_constants σ ds ≡ None)
constants_well_scoped σ [] = (λ h. refl, λ e. (none_new σ []).0)
constants_well_scoped σ (d ∷ ds) =
    let after = σ ++ (d.0.word, d.1) ∷ [] in
    let names = known_cons σ d.0.word d.1 (map (λ (d : Declared). d.0.word) ds) in
    let all = both (new_name σ d.0) (misused_constants after ds) (new_none σ d.0) (constants_well_scoped after ds) in
    (λ h. all.0 (names.0 h), λ e. names.1 (all.1 e))

-- the first misuse in one unit
misused_unit : List Name → Scope → UnitTree → Option Misuse
misused_unit ms σ (Variables at ws) = brought σ [] ws
misused_unit ms σ (Operator w e) = or_else (new_name σ w) (misused ms σ e)
misused_unit ms σ (Defines d) = misused_definition ms σ d
misused_unit ms σ (Local at d) = misused_definition ms σ d
misused_unit ms σ (Assume at None e) = misused ms σ e
misused_unit ms σ (Assume at (Some w) e) = or_else (new_name σ w) (misused ms σ e)
misused_unit ms σ (Constants at ds) = misused_constants σ ds
misused_unit ms σ _ = None

or_else_assoc : (o p q : Option Misuse) → or_else o (or_else p q) ≡ or_else (or_else o p) q
or_else_assoc None p q = refl
or_else_assoc (Some m) p q = refl

-- a unit, and then those after it
misuse_cons : (ms : List Name) (σ : Scope) (u : UnitTree) (us : List UnitTree) → misuse_from ms σ (u ∷ us) ≡ or_else (misused_unit ms σ u) (misuse_from (ms ++ modules_of u) (σ ++ signatures_of u) us)
unfolding misused_unit
misuse_cons ms σ (Separator at) us = rw (append-nil ms, append-nil σ) refl
misuse_cons ms σ (Extends at ws) us = refl
misuse_cons ms σ (Variables at ws) us = rw (append-nil ms) refl
misuse_cons ms σ (Operator w e) us = rw (append-nil ms) (or_else_assoc (new_name σ w) (misused ms σ e) _)
misuse_cons ms σ (Defines d) us = rw (append-nil ms) refl
misuse_cons ms σ (Local at d) us = rw (append-nil ms) refl
misuse_cons ms σ (Assume at None e) us = rw (append-nil ms, append-nil σ) refl
misuse_cons ms σ (Assume at (Some w) e) us = rw (append-nil ms) (or_else_assoc (new_name σ w) (misused ms σ e) _)
misuse_cons ms σ (Constants at ds) us = rw (append-nil ms) refl
misuse_cons ms σ (Theorem at w e) us = rw (append-nil ms, append-nil σ) refl

unit_well_scoped : (ms : List Name) (σ : Scope) (u : UnitTree) → IsWellScopedUnit ms σ u ↔ (misused_unit ms σ u ≡ None)
unfolding misused_unit
unit_well_scoped ms σ (Separator at) = nothing
unit_well_scoped ms σ (Extends at ws) = nothing
unit_well_scoped ms σ (Variables at ws) = brought_first σ ws
unit_well_scoped ms σ (Operator w e) = both (new_name σ w) (misused ms σ e) (new_none σ w) (well_scoped ms σ e)
unit_well_scoped ms σ (Defines d) = definition_well_scoped ms σ d
unit_well_scoped ms σ (Local at d) = definition_well_scoped ms σ d
unit_well_scoped ms σ (Assume at None e) = well_scoped ms σ e
unit_well_scoped ms σ (Assume at (Some w) e) = both (new_name σ w) (misused ms σ e) (new_none σ w) (well_scoped ms σ e)
unit_well_scoped ms σ (Constants at ds) = constants_well_scoped σ ds
unit_well_scoped ms σ (Theorem at w e) = nothing

units_well_scoped : (ms : List Name) (σ : Scope) (us : List UnitTree) → AreWellScopedUnits ms σ us ↔ (misuse_from ms σ us ≡ None)
units_well_scoped ms σ [] = nothing
units_well_scoped ms σ (u ∷ us) =
    let after = misuse_from (ms ++ modules_of u) (σ ++ signatures_of u) us in
    let all = both (misused_unit ms σ u) after (unit_well_scoped ms σ u) (units_well_scoped (ms ++ modules_of u) (σ ++ signatures_of u) us) in
    let same = misuse_cons ms σ u us in
    (λ h. same ∙ all.0 h, λ e. all.1 (sym same ∙ e))

pub well_scoped_module : (us : List UnitTree) → IsWellScopedModule us ↔ (misuse us ≡ None)
well_scoped_module us = units_well_scoped [] [] us

-- each element of two lists
module _ {X : Type 0} (P : X → Type 0) where
  all_first : (xs ys : List X) → All P (xs ++ ys) → All P xs
  all_first [] ys h = All-nil P
  all_first (x ∷ xs) ys h = All-cons P x xs (All-head P x (xs ++ ys) h) (all_first xs ys (All-tail P x (xs ++ ys) h))

  all_second : (xs ys : List X) → All P (xs ++ ys) → All P ys
  all_second [] ys h = h
  all_second (x ∷ xs) ys h = all_second xs ys (All-tail P x (xs ++ ys) h)

  all_both : (xs ys : List X) → All P (xs ++ ys) ↔ (All P xs × All P ys)
  all_both xs ys = (λ h. (all_first xs ys h, all_second xs ys h), λ h. All-append P xs ys h.0 h.1)

each_named : (σ : Scope) (ws : List Written) → All (λ w. Takes σ w 0) ws ↔ (each_misnamed σ ws ≡ None)
each_named σ [] = (λ h. refl, λ e. All-nil (λ (w : Written). Takes σ w 0))
each_named σ (w ∷ ws) =
    let P = λ (w : Written). Takes σ w 0 in
    let all = both (misnamed σ w) (each_misnamed σ ws) (used_none σ w 0) (each_named σ ws) in
    (λ h. all.0 (All-head P w ws h, All-tail P w ws h), λ e. let h = all.1 e in All-cons P w ws h.0 h.1)

pub named_statements : (σ : Scope) (cs : List Statement) → AreNamed σ cs ↔ (names_misused σ cs ≡ None)
named_statements σ [] = (λ h. refl, λ e. All-nil (λ (w : Written). Takes σ w 0))
named_statements σ (c ∷ cs) =
    let split = all_both (λ (w : Written). Takes σ w 0) (named c) (flat_map named cs) in
    let all = both (each_misnamed σ (named c)) (names_misused σ cs) (each_named σ (named c)) (named_statements σ cs) in
    (λ h. all.0 (split.0 h), λ e. split.1 (all.1 e))

-- a name is in a list exactly if a test finds it
is_contained : (xs : List Name) (x : Name) → Contains xs x ↔ (is_among x xs ≡ true)
is_contained xs x = (λ h. list_any-from_Any (bytes_eq x) xs (h.0, x, h.1, h.2, equal_name x), λ e. Contains-from_any same_name x xs e)

first_assigned : (xs : List Name) (ds : List Declared) → All (λ (d : Declared). Contains xs d.0.word) ds ↔ (first_unvalued xs ds ≡ None)
first_assigned xs [] = (λ h. refl, λ e. All-nil (λ (d : Declared). Contains xs d.0.word))
first_assigned xs (d ∷ ds) =
    let P = λ (d : Declared). Contains xs d.0.word in
    let among = is_contained xs d.0.word in
    let all = at (is_among d.0.word xs) (first_unvalued xs ds) (first_assigned xs ds) in
    (λ h. all.0 (among.0 (All-head P d ds h), All-tail P d ds h), λ e. let h = all.1 e in All-cons P d ds (among.1 h.0) h.1)
  where
    at : {R : Type 0} (b : Bool) (r : Option Written) → R ↔ (r ≡ None) → ((b ≡ true) × R) ↔ ((if b then r else Some d.0) ≡ None)
    at true r f = (λ h. f.0 h.1, λ e. (refl, f.1 e))
    at false r f = (λ h. absurd (true≢false (sym h.0)), λ h. let z : ⊥ = cc in absurd z)

unit_assigned : (xs : List Name) (u : UnitTree) → All (λ (d : Declared). Contains xs d.0.word) (constants_in u) ↔ (declared_unvalued xs u ≡ None)
unit_assigned xs (Constants at ds) = first_assigned xs ds
unit_assigned xs u = (λ h. refl, λ e. All-nil (λ (d : Declared). Contains xs d.0.word))

pub assigned_constants : (xs : List Name) (us : List UnitTree) → AreAssigned xs us ↔ (unvalued xs us ≡ None)
assigned_constants xs [] = (λ h. refl, λ e. All-nil (λ (d : Declared). Contains xs d.0.word))
assigned_constants xs (u ∷ us) =
    let split = all_both (λ (d : Declared). Contains xs d.0.word) (constants_in u) (flat_map constants_in us) in
    let all = both (declared_unvalued xs u) (unvalued xs us) (unit_assigned xs u) (assigned_constants xs us) in
    (λ h. all.0 (split.0 h), λ e. split.1 (all.1 e))
