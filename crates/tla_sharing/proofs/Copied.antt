-- A node with a list of parts is a copy of another if its parts are, and a use if its numbers agree.
use Rattle.std.proofs.Common.{◌≡◌, ℕ, List, map, Option, Some, None, option_map, refl, ap, sym, ◌∙◌, slice_get, Vec, Box, Bor, Global}
use Rattle.std.proofs.lemmas.Option.{slice_get-map}
use Rattle.tla_core.specs.declared.fault.Place.{Place}
use Rattle.tla_core.specs.Expr.{Expr, except}
use Rattle.tla_code.specs.Raise.{raise}
use Rattle.tla_code.specs.Forms.{list_expr, field_expr, map_expr}
use Rattle.tla_code.specs.CodeExpr.{Scope, expr_in, used}
use Rattle.tla_code.specs.Private.Listed.{exprs_of_codes, fields_of_codes}
use Rattle.tla_code.specs.declared.code.Code.{Code}
use Rattle.tla_code.specs.declared.code.Code.TheVariants.{Use}
use Rattle.tla_code.specs.declared.code.Code.TheViews as views
use Rattle.tla_code.specs.declared.code.ListForm.{ListForm}
use Rattle.tla_code.specs.declared.code.FieldForm.{FieldForm}
use Rattle.tla_code.specs.declared.code.MapForm.{MapForm}
use Rattle.tla_code.proofs.Listed.{list_in, fields_of_in, map_in, except_of_in}
use Rattle.tla_code.proofs.Twice.{raise-twice}
use Rattle.tla_sharing.specs.declared.shift.Shift.{Shift}
use Rattle.tla_sharing.specs.Private.Copies.{IsCopy, AreCopies, AreFields, AreUpdates, IsUse}
use Rattle.tla_sharing.proofs.Raised.{raise-list, raise-field, raise-map}

module _ (k : Shift) {c d : Code} {p q : Place} (same : p ≡ q) where
  pub list_copied : {f g : ListForm} → f ≡ g → (xs ys : Vec Code Global) → c ≡ views.List p f xs → d ≡ views.List q g ys → AreCopies k xs.items ys.items → IsCopy k c d
  list_copied {f} {g} form xs ys e h parts = λ scope names.
      ap (expr_in scope) h ∙ list_in scope q g ys
      ∙ (λ i. list_expr (sym form i) (sym same i) (parts scope names i))
      ∙ sym (ap (λ x. raise k.from k.by x) (ap (expr_in scope) e ∙ list_in scope p f xs) ∙ raise-list k.from k.by f p (exprs_of_codes scope xs.items))

  pub fields_copied : {f g : FieldForm} → f ≡ g → (xs ys : Vec (Bor (List ℕ) × Code) Global) → c ≡ views.Fields p f xs → d ≡ views.Fields q g ys → AreFields k xs.items ys.items → IsCopy k c d
  fields_copied {f} {g} form xs ys e h parts = λ scope names.
      ap (expr_in scope) h ∙ fields_of_in scope q g ys
      ∙ (λ i. field_expr (sym form i) (sym same i) (parts scope names i))
      ∙ sym (ap (λ x. raise k.from k.by x) (ap (expr_in scope) e ∙ fields_of_in scope p f xs) ∙ raise-field k.from k.by f p (fields_of_codes scope xs.items))

  pub map_copied : {f g : MapForm} → f ≡ g → (xs ys : Vec Code Global) (a b : Box Code Global) → c ≡ views.Map p f xs a → d ≡ views.Map q g ys b → AreCopies k xs.items ys.items → IsCopy k a.value b.value → IsCopy k c d
  map_copied {f} {g} form xs ys a b e h parts body = λ scope names.
      ap (expr_in scope) h ∙ map_in scope q g ys b
      ∙ (λ i. map_expr (sym form i) (sym same i) (parts scope names i) (body scope names i))
      ∙ sym (ap (λ x. raise k.from k.by x) (ap (expr_in scope) e ∙ map_in scope p f xs a) ∙ raise-map k.from k.by f p (exprs_of_codes scope xs.items) (expr_in scope a.value))

  pub except_copied : (a b : Box Code Global) (xs ys : Vec (Vec Code Global × Code) Global) → c ≡ views.Except p a xs → d ≡ views.Except q b ys → IsCopy k a.value b.value → AreUpdates k xs.items ys.items → IsCopy k c d
  except_copied a b xs ys e h base updates = λ scope names.
      ap (expr_in scope) h ∙ except_of_in scope q b ys
      ∙ (λ i. except (sym same i) (base scope names i) (updates scope names i))
      ∙ sym (ap (λ x. raise k.from k.by x) (ap (expr_in scope) e ∙ except_of_in scope p a xs))

-- ---- uses
-- the number of names outside the definition with a number
has_outside : (scope : Scope) (n : ℕ) (d : ℕ × Expr) → slice_get scope n ≡ Some d → slice_get (map (λ (x : ℕ × Expr). x.0) scope) n ≡ Some d.0
has_outside scope n d h = slice_get-map (λ (x : ℕ × Expr). x.0) scope n ∙ ap (option_map (λ (x : ℕ × Expr). x.0)) h

used_copied : (p : Place) (from by b b' : ℕ) (o : Option (ℕ × Expr)) → ((d : ℕ × Expr) → o ≡ Some d → IsUse d.0 b b' from by) → used p b' o ≡ raise from by (used p b o)
used_copied p from by b b' None h = refl
used_copied p from by b b' (Some d) h =
    let u = h d refl in
    ap (λ n. raise d.0 n d.1) u.0 ∙ raise-twice d.0 b from by u.1 u.2 d.1

pub use_copied : (k : Shift) {c d : Code} {p q : Place} (same : p ≡ q) (n n' b b' : ℕ) → c ≡ Use p n b → d ≡ Use q n' b' → n ≡ n' → ((outer : ℕ) → slice_get k.outside.now n ≡ Some outer → IsUse outer b b' k.from k.by) → IsCopy k c d
use_copied k {c} {d} {p} {q} same n n' b b' e h number fits = λ scope names.
    ap (expr_in scope) h
    ∙ (λ i. used (sym same i) b' (slice_get scope (sym number i)))
    ∙ used_copied p k.from k.by b b' (slice_get scope n) (λ x is. fits x.0 (ap (λ xs. slice_get xs n) (sym names) ∙ has_outside scope n x is))
    ∙ sym (ap (λ x. raise k.from k.by (expr_in scope x)) e)
