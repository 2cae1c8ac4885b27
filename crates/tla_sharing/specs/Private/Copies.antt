-- When a code is a copy of another, and when it denotes the same expression as another in a longer scope.
use Rattle.std.specs.Prelude.{◌≡◌, ◌≤◌, ◌+◌, ℕ, List, [], ◌∷◌, ◌++◌}
use Rattle.std.specs.List.{AllZip}
use Rattle.std.proofs.Common.{Vec, Bor, Global}
use Rattle.tla_code.specs.Raise.{raise, raise_all, raise_fields, raise_updates}
use Rattle.tla_code.specs.CodeExpr.{Scope, expr_in}
use Rattle.tla_code.specs.Private.Listed.{exprs_of_codes, fields_of_codes, updates_of_codes}
use Rattle.tla_code.specs.declared.code.Code.{Code}
use Rattle.tla_sharing.specs.Outside.{HasNames}
use Rattle.tla_sharing.specs.declared.shift.Shift.{Shift}
use Rattle.tla_sharing.specs.declared.replaced.Target.{Target}

-- the second is a copy of the first
abbrev pub IsCopy : Shift → Code → Code → Type 0
IsCopy k c d = (scope : Scope) → HasNames scope k.outside.now → expr_in scope d ≡ raise k.from k.by (expr_in scope c)

abbrev pub AreCopies : Shift → List Code → List Code → Type 0
AreCopies k cs ds = (scope : Scope) → HasNames scope k.outside.now → exprs_of_codes scope ds ≡ raise_all k.from k.by (exprs_of_codes scope cs)

abbrev pub AreFields : Shift → List (Bor (List ℕ) × Code) → List (Bor (List ℕ) × Code) → Type 0
AreFields k fs gs = (scope : Scope) → HasNames scope k.outside.now → fields_of_codes scope gs ≡ raise_fields k.from k.by (fields_of_codes scope fs)

abbrev pub AreUpdates : Shift → List (Vec Code Global × Code) → List (Vec Code Global × Code) → Type 0
AreUpdates k us vs = (scope : Scope) → HasNames scope k.outside.now → updates_of_codes scope vs ≡ raise_updates k.from k.by (updates_of_codes scope us)

-- a use under `since` names is the copy of one under `names`, if `outer` names are bound outside the definition
abbrev pub IsUse : ℕ → ℕ → ℕ → ℕ → ℕ → Type 0
IsUse outer names since from by = (since ≡ names + by) × (outer ≤ from) × (from ≤ outer + names)

-- ---- codes that denote the same expression once there is another definition
abbrev pub Longer : Scope → ℕ → Code → Scope
Longer scope names d = scope ++ (names, expr_in scope d) ∷ []

-- under the new definition, the second denotes what the first denotes without it
abbrev pub Replaces : Target → Code → Code → Type 0
Replaces t old new = (scope : Scope) → HasNames scope t.outside.now → expr_in (Longer scope t.names t.definition.now) new ≡ expr_in scope old

abbrev pub FieldReplaces : Target → Bor (List ℕ) × Code → Bor (List ℕ) × Code → Type 0
FieldReplaces t old new = (new.0.now ≡ old.0.now) × Replaces t old.1 new.1

abbrev pub UpdateReplaces : Target → Vec Code Global × Code → Vec Code Global × Code → Type 0
UpdateReplaces t old new = AllZip (Replaces t) old.0.items new.0.items × Replaces t old.1 new.1

-- ---- codes that denote the same expression in each scope
abbrev pub Agrees : List ℕ → Code → Code → Type 0
Agrees outside old new = (scope : Scope) → HasNames scope outside → expr_in scope new ≡ expr_in scope old

abbrev pub FieldAgrees : List ℕ → Bor (List ℕ) × Code → Bor (List ℕ) × Code → Type 0
FieldAgrees outside old new = (new.0.now ≡ old.0.now) × Agrees outside old.1 new.1

abbrev pub UpdateAgrees : List ℕ → Vec Code Global × Code → Vec Code Global × Code → Type 0
UpdateAgrees outside old new = AllZip (Agrees outside) old.0.items new.0.items × Agrees outside old.1 new.1
