-- What a form means under primes, from what its parts mean.
use Rattle.std.proofs.Common.{◌≡◌, ◌≤◌, ◌<◌, ℕ, List, [], ◌∷◌, length, get_or, arith, map, ap, ◌∙◌, Bor, Box, Vec, Global, Some, None}
use Rattle.tla_core.specs.declared.fault.Place.{Place}
use Rattle.tla_core.specs.Expr as e
use Rattle.tla_core.specs.Expr.{cases, product, except}
use Rattle.tla_tree.specs.declared.tree.Expr as syntax
use Rattle.tla_tree.specs.declared.tree.Arm.{Arm}
use Rattle.tla_tree.specs.declared.tree.Field.{Field}
use Rattle.tla_tree.specs.declared.tree.Update.{Update}
use Rattle.tla_tree.specs.Tree.{trees, arms, fields, updates}
use Rattle.tla_tree.specs.View.{view, choice_view, field_view, update_view}
use Rattle.tla_scopes.specs.declared.primes.Primes.{Primes}
use Rattle.tla_scopes.specs.declared.nodes.Headed.TheVariants as headed
use Rattle.tla_tree.specs.declared.tree.Step.TheVariants as steps
use Rattle.tla_scopes.specs.declared.nodes.Form.{Form}
use Rattle.tla_scopes.specs.declared.nodes.Form.TheVariants as form
use Rattle.tla_scopes.specs.declared.nodes.UnaryNode.{UnaryNode}
use Rattle.tla_scopes.specs.declared.nodes.BinaryNode.{BinaryNode}
use Rattle.tla_scopes.specs.declared.nodes.BinaryNode.TheVariants as twos
use Rattle.tla_scopes.specs.declared.nodes.TernaryNode.{TernaryNode}
use Rattle.tla_scopes.specs.declared.nodes.ListNode.{ListNode}
use Rattle.tla_scopes.specs.declared.nodes.Fielded.{Fielded}
use Rattle.tla_scopes.specs.Maybe.{◌>>=◌, each_of}
use Rattle.tla_scopes.specs.Lists.{exprs, arms_with, fields_of, updates_of}
use Rattle.tla_scopes.specs.Primes.{settled_primes, with_primes}
use Rattle.tla_scopes.specs.Nodes.{one, two, three, many, fielded}
use Rattle.tla_scopes.specs.Unchanged.{unchanged, changed}
use Rattle.tla_scopes.specs.declared.nodes.Builtin.TheVariants as builtin
use Rattle.tla_scopes.specs.Meanings.{Scope, builtin_meaning}
use Rattle.tla_scopes.specs.Scopes.{arguments_in}
use Rattle.tla_scopes.specs.Expand.{expand, expand_each, expand_key, expand_arms, expand_fields, expand_updates}
use Rattle.tla_scopes.specs.Forms.{form_in}
use Rattle.tla_expand.specs.Private.Gives.{both, part_in, key_in, arm_in, field_in, update_in, kept_part, changed_in}
use Rattle.tla_expand.proofs.Made.{one_shown, two_shown, three_shown, many_shown, cases_shown, fielded_shown, product_shown, except_shown, Triple}
use Rattle.tla_expand.proofs.Lists.{each_in, arms_in, arms_or_in}
use Rattle.tla_expand.proofs.NamedParts.{fields_in, updates_in}
use Rattle.tla_expand.proofs.Kept.{kept_settled, changed_shown}

module _ (fm : Form) (σ : Scope) (d : ℕ) (k : Primes) where
  pub one_form : (p : Place) (f : UnaryNode) (t : Bor (Box syntax.Expr Global)) → fm ≡ form.One p f t
      → with_primes k (form_in fm σ d) ≡ (part_in k σ d t.now.value >>= λ x. Some (one f p x))
  one_form p f t q = rw q (one_shown f k p (expand (view t.now.value) σ d))

  pub two_form : (p : Place) (f : BinaryNode) (a b : Bor (Box syntax.Expr Global)) → fm ≡ form.Two p f a b
      → with_primes k (form_in fm σ d) ≡ (both (part_in k σ d a.now.value) (part_in k σ d b.now.value) >>= λ xy. Some (two f p xy.0 xy.1))
  two_form p f a b q = rw q (two_shown f k p (expand (view a.now.value) σ d) (expand (view b.now.value) σ d))

  pub three_form : (p : Place) (f : TernaryNode) (a b c : Bor (Box syntax.Expr Global)) → fm ≡ form.Three p f a b c
      → with_primes k (form_in fm σ d) ≡ (both (both (part_in k σ d a.now.value) (part_in k σ d b.now.value)) (part_in k σ d c.now.value) >>= λ (t : Triple). Some (three f p t.0.0 t.0.1 t.1))
  three_form p f a b c q = rw q (three_shown f k p (expand (view a.now.value) σ d) (expand (view b.now.value) σ d) (expand (view c.now.value) σ d))

  pub many_form : (p : Place) (f : ListNode) (ts : Bor (Vec syntax.Expr Global)) → fm ≡ form.Many p f ts
      → with_primes k (form_in fm σ d) ≡ (each_of (part_in k σ d) ts.now.items >>= λ xs. Some (many f p (exprs xs)))
  many_form p f ts q = rw q (many_shown f k p (expand_each (trees (map view ts.now.items)) σ d) (each_of (part_in k σ d) ts.now.items) (each_in k ts.now.items σ d))

  pub index_form : (p : Place) (f : Bor (Box syntax.Expr Global)) (ts : Bor (Vec syntax.Expr Global)) → fm ≡ form.Headed p headed.Index f ts
      → with_primes k (form_in fm σ d) ≡ (both (part_in k σ d f.now.value) (key_in k σ d ts.now.items) >>= λ xy. Some (two twos.Apply p xy.0 xy.1))
  index_form p f ts q = rw q (two_shown twos.Apply k p (expand (view f.now.value) σ d) (expand_key (trees (map view ts.now.items)) σ d))

  pub cases_form : (p : Place) (as' : Bor (Vec Arm Global)) → fm ≡ form.Cases p as' None
      → with_primes k (form_in fm σ d) ≡ (each_of (arm_in k σ d) as'.now.items >>= λ xs. Some (cases p (arms_with xs e.no_arms)))
  cases_form p as' q =
      rw q (cases_shown k p (λ xs. arms_with xs e.no_arms) (expand_arms (arms (map choice_view as'.now.items)) (Some e.no_arms) σ d) (each_of (arm_in k σ d) as'.now.items) (arms_in k as'.now.items σ d))

  pub cases_or_form : (p : Place) (as' : Bor (Vec Arm Global)) (t : Bor (Box syntax.Expr Global)) → fm ≡ form.Cases p as' (Some t)
      → with_primes k (form_in fm σ d) ≡ (both (each_of (arm_in k σ d) as'.now.items) (part_in k σ d t.now.value) >>= λ xs. Some (cases p (arms_with xs.0 (e.other xs.1))))
  cases_or_form p as' t q =
      rw q (cases_shown k p (λ xs. arms_with xs.0 (e.other xs.1)) (expand_arms (arms (map choice_view as'.now.items)) (expand (view t.now.value) σ d >>= λ x. Some (e.other x)) σ d)
      (both (each_of (arm_in k σ d) as'.now.items) (part_in k σ d t.now.value)) (arms_or_in k as'.now.items (view t.now.value) σ d))

  pub unchanged_form : (p : Place) (t : Bor (Box syntax.Expr Global)) → fm ≡ form.Unchanged p t → with_primes k (form_in fm σ d) ≡ kept_part (settled_primes k) p σ d t.now.value
  unchanged_form p t q = rw q (kept_settled k p (expand (view t.now.value) σ d))

  pub fields_form : (p : Place) (f : Fielded) (fs : Bor (Vec Field Global)) → fm ≡ form.Fields p f fs
      → with_primes k (form_in fm σ d) ≡ (each_of (field_in k σ d) fs.now.items >>= λ xs. Some (fielded f p (fields_of xs)))
  fields_form p f fs q = rw q (fielded_shown f k p (expand_fields (fields (map field_view fs.now.items)) σ d) (each_of (field_in k σ d) fs.now.items) (fields_in k fs.now.items σ d))

  pub product_form : (p : Place) (t : Bor (Box syntax.Expr Global)) (ts : Bor (Vec syntax.Expr Global)) → fm ≡ form.Headed p headed.Product t ts
      → with_primes k (form_in fm σ d) ≡ (both (part_in k σ d t.now.value) (each_of (part_in k σ d) ts.now.items) >>= λ xs. Some (product p (exprs (xs.0 ∷ xs.1))))
  product_form p t ts q = rw q (product_shown k p (expand (view t.now.value) σ d) (expand_each (trees (map view ts.now.items)) σ d) (each_of (part_in k σ d) ts.now.items) (each_in k ts.now.items σ d))

  pub except_form : (p : Place) (t : Bor (Box syntax.Expr Global)) (us : Bor (Vec Update Global)) → fm ≡ form.Except p t us
      → with_primes k (form_in fm σ d) ≡ (both (part_in k σ d t.now.value) (each_of (update_in k σ d) us.now.items) >>= λ xs. Some (except p xs.0 (updates_of xs.1)))
  except_form p t us q = rw q (except_shown k p (expand (view t.now.value) σ d) (expand_updates (updates (map update_view us.now.items)) σ d) (each_of (update_in k σ d) us.now.items) (updates_in k us.now.items σ d))

  pub square_form : (p q : Place) (t v : Bor (Box syntax.Expr Global)) → fm ≡ form.Action p steps.Box t q v
      → with_primes k (form_in fm σ d) ≡ (both (part_in k σ d t.now.value) (kept_part (settled_primes k) q σ d v.now.value) >>= λ xy. Some (two twos.Or p xy.0 xy.1))
  square_form p q t v h =
      rw h (two_shown twos.Or k p (expand (view t.now.value) σ d) (expand (view v.now.value) σ d >>= unchanged q)
      ∙ ap (λ o. both (part_in k σ d t.now.value) o >>= λ xy. Some (two twos.Or p xy.0 xy.1)) (kept_settled k q (expand (view v.now.value) σ d)))

  pub angle_form : (p q : Place) (t v : Bor (Box syntax.Expr Global)) → fm ≡ form.Action p steps.Angle t q v
      → with_primes k (form_in fm σ d) ≡ (both (part_in k σ d t.now.value) (changed_in k q σ d v.now.value) >>= λ xy. Some (two twos.And p xy.0 xy.1))
  angle_form p q t v h =
      rw h (two_shown twos.And k p (expand (view t.now.value) σ d) (expand (view v.now.value) σ d >>= changed q)
      ∙ ap (λ o. both (part_in k σ d t.now.value) o >>= λ xy. Some (two twos.And p xy.0 xy.1)) (changed_shown k q (expand (view v.now.value) σ d)))

-- the use of an operator of two arguments
two_items : (args : List syntax.Expr) (a b : syntax.Expr) → 2 ≤ length args → length args < 3 → a ≡ get_or args 0 a → b ≡ get_or args 1 b → args ≡ a ∷ b ∷ []
two_items [] a b l m p q = absurd (omega arith)
two_items (x ∷ []) a b l m p q = absurd (omega arith)
two_items (x ∷ y ∷ []) a b l m p q = cc
two_items (x ∷ y ∷ z ∷ args) a b l m p q = absurd (omega arith)

pub two_use : (f : BinaryNode) (p : Place) (args : List syntax.Expr) (a b : syntax.Expr) (σ : Scope) (d : ℕ) (k : Primes) → 2 ≤ length args → length args < 3 → a ≡ get_or args 0 a → b ≡ get_or args 1 b
    → with_primes k (builtin_meaning (builtin.Two f) p (arguments_in args σ) d) ≡ (both (part_in k σ d a) (part_in k σ d b) >>= λ xy. Some (two f p xy.0 xy.1))
two_use f p args a b σ d k l m q r = rw (two_items args a b l m q r) (two_shown f k p (expand (view a) σ d) (expand (view b) σ d))
