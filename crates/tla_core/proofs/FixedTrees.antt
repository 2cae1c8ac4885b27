-- Properties of trees of constants, and the nodes that they denote.
use Rattle.std.proofs.Common.{rules, ◌≡◌, ℕ, Bool, true, false, ◌||◌, ◌&&◌, List, Ok, map, refl, ap, sym, ◌∙◌, Vec, Global}
use Rattle.tla_value.specs.Tree.{Tree}
use Rattle.tla_value.specs.TreeOf.{tree_of}
use Rattle.tla_value.specs.Sets.{is_member}
use Rattle.tla_value.specs.Choices.{parts_of}
use Rattle.tla_core.specs.declared.fault.Place.{Place}
use Rattle.tla_core.specs.Fault.{Outcome, ◌>>=◌}
use Rattle.tla_core.specs.Expr.{Expr, Exprs, Fields, constant, enumerated, tuple, record_of, more_exprs, more_fields}
use Rattle.tla_core.specs.Fits.{fits, fits_all, fits_fields}
use Rattle.tla_core.specs.Kinds.{as_set}
use Rattle.tla_core.specs.Meaning.{Bound, Present, Next, any_primed}
use Rattle.tla_core.specs.Value.{means, mean_all, mean_fields, mem}
use Rattle.tla_core.specs.Always.{IsAlways}
use Rattle.tla_core.specs.FixedOf.{fixed_of, fixed_exprs, fixed_fields}
use Rattle.tla_core.specs.LiteralOf.{literal_of}
use Rattle.tla_core.specs.ExprOf.{expr_of, exprs_of}
use Rattle.tla_core.specs.ExprOf.{fields_of as core_fields}
use Rattle.tla_core.specs.Private.Known.{named_core, named_fixed, exprs, fields}
use Rattle.tla_core.specs.declared.literal.Literal.{Literal}
use Rattle.tla_core.specs.declared.fixed.Fixed.{Fixed, Row_of-Fixed, end_of-Fixed, more_of-Fixed, items-the_row-Fixed, Row_of-Fixed-Record-1-2, end_of-Fixed-Record-1-2, more_of-Fixed-Record-1-2, items-the_row-Fixed-Record-1-2}
use Rattle.tla_core.specs.declared.fixed.Fixed.TheVariants.{Constant, Enumerated', Tuple', Record'}
use Rattle.tla_core.specs.declared.fixed.Fixed.TheViews as fixed_views
use Rattle.tla_core.specs.declared.expression.Core.{Core, Row_of-Core, end_of-Core, more_of-Core, items-the_row-Core, Row_of-Core-Record-1-2, end_of-Core-Record-1-2, more_of-Core-Record-1-2, items-the_row-Core-Record-1-2}
use Rattle.tla_core.specs.declared.expression.Core.TheVariants as cores
use Rattle.tla_core.specs.declared.expression.Core.TheViews as views
use Rattle.tla_core.specs.declared.expression.Core.TheViews.{the_lemmas}
use mathlib.Core.Former.{Count}

-- a property of each of the four forms
pub fixed_form : {A : Type 0} (f : Expr → A) (x : A) → ((p : Place) (v : Tree) → f (constant p v) ≡ x) → ((p : Place) (es : Exprs) → f (enumerated p es) ≡ x) → ((p : Place) (es : Exprs) → f (tuple p es) ≡ x) → ((p : Place) (fs : Fields) → f (record_of p fs) ≡ x) → (t : Fixed) → f (fixed_of t) ≡ x
fixed_form f x one two three four (Constant at v) = one at (tree_of v)
fixed_form f x one two three four (Enumerated' at _ parts) = two at (fixed_exprs parts)
fixed_form f x one two three four (Tuple' at _ parts) = three at (fixed_exprs parts)
fixed_form f x one two three four (Record' at _ fields) = four at (fixed_fields fields)

-- no next value occurs in one
mutual
  pub fixed_unprimed : (t : Fixed) → (means (fixed_of t)).primed ≡ false
  fixed_unprimed (Constant at v) = refl
  fixed_unprimed (Enumerated' at _ parts) = exprs_unprimed _ parts
  fixed_unprimed (Tuple' at _ parts) = exprs_unprimed _ parts
  fixed_unprimed (Record' at _ fields) = fields_unprimed _ fields

  exprs_unprimed : (n : Count) (row : Row_of-Fixed n) → any_primed (mean_all (fixed_exprs row)) ≡ false
  exprs_unprimed n end_of-Fixed = refl
  exprs_unprimed n (more_of-Fixed e rest) = ap (λ x. x || any_primed (mean_all (fixed_exprs rest))) (fixed_unprimed e) ∙ exprs_unprimed _ rest

  fields_unprimed : (n : Count) (row : Row_of-Fixed-Record-1-2 n) → any_primed (parts_of (mean_fields (fixed_fields row))) ≡ false
  fields_unprimed n end_of-Fixed-Record-1-2 = refl
  fields_unprimed n (more_of-Fixed-Record-1-2 name e rest) = ap (λ x. x || any_primed (parts_of (mean_fields (fixed_fields rest)))) (fixed_unprimed e) ∙ fields_unprimed _ rest

-- nor a name or variable
mutual
  pub fixed_fits : (t : Fixed) (b n : ℕ) (now : Bool) → fits (fixed_of t) b n now ≡ true
  fixed_fits (Constant at v) b n now = refl
  fixed_fits (Enumerated' at _ parts) b n now = exprs_fit _ parts b n now
  fixed_fits (Tuple' at _ parts) b n now = exprs_fit _ parts b n now
  fixed_fits (Record' at _ fields) b n now = fields_fit _ fields b n now

  exprs_fit : (k : Count) (row : Row_of-Fixed k) (b n : ℕ) (now : Bool) → fits_all (fixed_exprs row) b n now ≡ true
  exprs_fit k end_of-Fixed b n now = refl
  exprs_fit k (more_of-Fixed e rest) b n now = ap (λ x. x && fits_all (fixed_exprs rest) b n now) (fixed_fits e b n now) ∙ exprs_fit _ rest b n now

  fields_fit : (k : Count) (row : Row_of-Fixed-Record-1-2 k) (b n : ℕ) (now : Bool) → fits_fields (fixed_fields row) b n now ≡ true
  fields_fit k end_of-Fixed-Record-1-2 b n now = refl
  fields_fit k (more_of-Fixed-Record-1-2 name e rest) b n now = ap (λ x. x && fits_fields (fixed_fields rest) b n now) (fixed_fits e b n now) ∙ fields_fit _ rest b n now

-- its members are those of its value
pub fixed_has : (t : Fixed) (v : Tree) (b : Bound) (s : Present) (q : Next) → mem v (fixed_of t) b s q ≡ ((means (fixed_of t)).value b s q >>= λ x. as_set (means (fixed_of t)).place x >>= λ xs. Ok (is_member v xs))
fixed_has (Constant at x) v b s q = refl
fixed_has (Enumerated' at _ parts) v b s q = refl
fixed_has (Tuple' at _ parts) v b s q = refl
fixed_has (Record' at _ fields) v b s q = refl

-- ---- a literal, as a form of expressions
pub literal_unprimed : (core : Core) (l : Literal) → core ≡ cores.Literal l → (means (expr_of core)).primed ≡ false
literal_unprimed core l e = ap (λ k. (means (expr_of k)).primed) e ∙ fixed_unprimed l.tree.value

pub literal_fits : (core : Core) (l : Literal) → core ≡ cores.Literal l → (b n : ℕ) (now : Bool) → fits (expr_of core) b n now ≡ true
literal_fits core l e b n now = ap (λ k. fits (expr_of k) b n now) e ∙ fixed_fits l.tree.value b n now

pub literal_value : (core : Core) (l : Literal) (x : Tree) → core ≡ cores.Literal l → IsAlways (means (literal_of l)) x → (b : Bound) (s : Present) (q : Next) → (means (expr_of core)).value b s q ≡ Ok x
literal_value core l x e h b s q = ap (λ k. (means (expr_of k)).value b s q) e ∙ h b s q

pub literal_has : (core : Core) (l : Literal) (x v : Tree) → core ≡ cores.Literal l → IsAlways (means (literal_of l)) x → (b : Bound) (s : Present) (q : Next) → mem v (expr_of core) b s q ≡ (as_set (means (literal_of l)).place x >>= λ xs. Ok (is_member v xs))
literal_has core l x v e h b s q =
    ap (λ k. mem v (expr_of k) b s q) e
    ∙ fixed_has l.tree.value v b s q
    ∙ ap (λ (o : Outcome Tree). o >>= λ y. as_set (means (literal_of l)).place y >>= λ xs. Ok (is_member v xs)) (h b s q)

-- ---- nodes of parts
fixed_row : (n : Count) (row : Row_of-Fixed n) → fixed_exprs row ≡ exprs (map fixed_of (items-the_row-Fixed n row))
fixed_row n end_of-Fixed = refl
fixed_row n (more_of-Fixed e rest) = ap (λ x. more_exprs (fixed_of e) x) (fixed_row _ rest)

core_row : (n : Count) (row : Row_of-Core n) → exprs_of row ≡ exprs (map expr_of (items-the_row-Core n row))
core_row n end_of-Core = refl
core_row n (more_of-Core e rest) = ap (λ x. more_exprs (expr_of e) x) (core_row _ rest)

fixed_field_row : (n : Count) (row : Row_of-Fixed-Record-1-2 n) → fixed_fields row ≡ fields (map named_fixed (items-the_row-Fixed-Record-1-2 n row))
fixed_field_row n end_of-Fixed-Record-1-2 = refl
fixed_field_row n (more_of-Fixed-Record-1-2 name e rest) = ap (λ x. more_fields name (fixed_of e) x) (fixed_field_row _ rest)

core_field_row : (n : Count) (row : Row_of-Core-Record-1-2 n) → core_fields row ≡ fields (map named_core (items-the_row-Core-Record-1-2 n row))
core_field_row n end_of-Core-Record-1-2 = refl
core_field_row n (more_of-Core-Record-1-2 name e rest) = ap (λ x. more_fields name (expr_of e) x) (core_field_row _ rest)

pub fixed_enumerated : (at : Place) (trees : Vec Fixed Global) → fixed_of (fixed_views.Enumerated at trees) ≡ enumerated at (exprs (map fixed_of trees.items))
fixed_enumerated at trees = search (rules, fixed_views.the_lemmas, fixed_row)

pub fixed_tuple : (at : Place) (trees : Vec Fixed Global) → fixed_of (fixed_views.Tuple at trees) ≡ tuple at (exprs (map fixed_of trees.items))
fixed_tuple at trees = search (rules, fixed_views.the_lemmas, fixed_row)

pub fixed_record : (at : Place) (trees : Vec (List ℕ × Fixed) Global) → fixed_of (fixed_views.Record at trees) ≡ record_of at (fields (map named_fixed trees.items))
fixed_record at trees = search (rules, fixed_views.the_lemmas, fixed_field_row)

core_enumerated : (at : Place) (parts : Vec Core Global) → expr_of (views.Enumerated at parts) ≡ enumerated at (exprs (map expr_of parts.items))
core_enumerated at parts = search (rules, the_lemmas, core_row)

core_tuple : (at : Place) (parts : Vec Core Global) → expr_of (views.Tuple at parts) ≡ tuple at (exprs (map expr_of parts.items))
core_tuple at parts = search (rules, the_lemmas, core_row)

core_record : (at : Place) (parts : Vec (List ℕ × Core) Global) → expr_of (views.Record at parts) ≡ record_of at (fields (map named_core parts.items))
core_record at parts = search (rules, the_lemmas, core_field_row)

pub same_enumerated : (at : Place) (parts : Vec Core Global) (trees : Vec Fixed Global) → map fixed_of trees.items ≡ map expr_of parts.items → fixed_of (fixed_views.Enumerated at trees) ≡ expr_of (views.Enumerated at parts)
same_enumerated at parts trees h = fixed_enumerated at trees ∙ ap (λ us. enumerated at (exprs us)) h ∙ sym (core_enumerated at parts)

pub same_tuple : (at : Place) (parts : Vec Core Global) (trees : Vec Fixed Global) → map fixed_of trees.items ≡ map expr_of parts.items → fixed_of (fixed_views.Tuple at trees) ≡ expr_of (views.Tuple at parts)
same_tuple at parts trees h = fixed_tuple at trees ∙ ap (λ us. tuple at (exprs us)) h ∙ sym (core_tuple at parts)

pub same_record : (at : Place) (parts : Vec (List ℕ × Core) Global) (trees : Vec (List ℕ × Fixed) Global) → map named_fixed trees.items ≡ map named_core parts.items → fixed_of (fixed_views.Record at trees) ≡ expr_of (views.Record at parts)
same_record at parts trees h = fixed_record at trees ∙ ap (λ us. record_of at (fields us)) h ∙ sym (core_record at parts)
