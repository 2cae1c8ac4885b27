-- What a form with its parts means, under a scope.
use Rattle.std.specs.Prelude.{◌≡◌, ℕ, Bool, true, false, [], map, Option, Some, None, Vec, Box}
use Rattle.std.specs.declared.alloc.Global.{Global}
use Rattle.std.specs.Borrow.{Bor}
use Rattle.tla_core.specs.Expr.{Arms, now, cases, product, except, more_exprs, no_arms, other}
use Rattle.tla_core.specs.declared.fault.Place.{Place}
use Rattle.tla_tree.specs.declared.tree.Prefix.{Prefix}
use Rattle.tla_tree.specs.declared.tree.Expr as s
use Rattle.tla_tree.specs.declared.tree.Bullet.{Bullet}
use Rattle.tla_tree.specs.declared.tree.Bullet.TheVariants as bullet
use Rattle.tla_tree.specs.declared.tree.Brackets.{Brackets}
use Rattle.tla_tree.specs.declared.tree.Brackets.TheVariants as brackets
use Rattle.tla_scopes.specs.declared.nodes.ListNode.{ListNode}
use Rattle.tla_scopes.specs.declared.nodes.ListNode.TheVariants as manies
use Rattle.tla_tree.specs.Tree.{Tree, trees, binders, arms, fields, updates}
use Rattle.tla_tree.specs.Tree as tree
use Rattle.tla_tree.specs.View.{view, pattern_view, group_view, choice_view, field_view, update_view}
use Rattle.tla_scopes.specs.declared.nodes.BinaryNode.TheVariants as twos
use Rattle.tla_scopes.specs.declared.nodes.Headed.TheVariants as headed
use Rattle.tla_scopes.specs.declared.nodes.Binders.TheVariants as under
use Rattle.tla_tree.specs.declared.tree.Step.TheVariants as steps
use Rattle.tla_scopes.specs.declared.nodes.Form.{Form}
use Rattle.tla_scopes.specs.declared.nodes.Form.TheVariants as form
use Rattle.tla_scopes.specs.declared.nodes.OwnForm.{OwnForm}
use Rattle.tla_scopes.specs.declared.nodes.OwnForm.TheVariants as own_form
use Rattle.tla_scopes.specs.Maybe.{◌>>=◌}
use Rattle.tla_scopes.specs.Nodes.{leaf, one, two, three, many, fielded}
use Rattle.tla_scopes.specs.Unchanged.{unchanged, changed}
use Rattle.tla_scopes.specs.Meanings.{Scope, Argument, builtin_meaning}
use Rattle.tla_scopes.specs.Scopes.{arguments_in}
use Rattle.tla_scopes.specs.Bound.{bind_entry, nested, gathered}
use Rattle.tla_scopes.specs.Expand.{prefixed, expand, expand_each, expand_key, expand_arms, expand_fields, expand_updates, binds_of}

-- the value of OTHER, where there is one
abbrev pub last_in : Option (Bor (Box s.Expr Global)) → Scope → ℕ → Option Arms
last_in None σ d = Some no_arms
last_in (Some t) σ d = expand (view t.now.value) σ d >>= λ x. Some (other x)

abbrev pub form_in : Form → Scope → Argument
form_in (form.Leaf p l) σ d = leaf l p
form_in (form.Variable p i) σ d = Some (now p i)
form_in (form.One p f t) σ d = expand (view t.now.value) σ d >>= λ x. Some (one f p x)
form_in (form.Two p f a b) σ d = expand (view a.now.value) σ d >>= λ x. expand (view b.now.value) σ d >>= λ y. Some (two f p x y)
form_in (form.Three p f a b c) σ d = expand (view a.now.value) σ d >>= λ x. expand (view b.now.value) σ d >>= λ y. expand (view c.now.value) σ d >>= λ z. Some (three f p x y z)
form_in (form.Many p f ts) σ d = expand_each (trees (map view ts.now.items)) σ d >>= λ xs. Some (many f p xs)
form_in (form.Use p u ts) σ d = builtin_meaning u p (arguments_in ts.now σ) d
form_in (form.Headed p headed.Index f ts) σ d = expand (view f.now.value) σ d >>= λ x. expand_key (trees (map view ts.now.items)) σ d >>= λ y. Some (two twos.Apply p x y)
form_in (form.Headed p headed.Product t ts) σ d = expand (view t.now.value) σ d >>= λ x. expand_each (trees (map view ts.now.items)) σ d >>= λ xs. Some (product p (more_exprs x xs))
form_in (form.Cases p as' o) σ d = expand_arms (arms (map choice_view as'.now.items)) (last_in o σ d) σ d >>= λ xs. Some (cases p xs)
form_in (form.Fields p f fs) σ d = expand_fields (fields (map field_view fs.now.items)) σ d >>= λ xs. Some (fielded f p xs)
form_in (form.Except p t us) σ d = expand (view t.now.value) σ d >>= λ x. expand_updates (updates (map update_view us.now.items)) σ d >>= λ ys. Some (except p x ys)
form_in (form.Action p steps.Box t q v) σ d = expand (view t.now.value) σ d >>= λ x. (expand (view v.now.value) σ d >>= unchanged q) >>= λ y. Some (two twos.Or p x y)
form_in (form.Action p steps.Angle t q v) σ d = expand (view t.now.value) σ d >>= λ x. (expand (view v.now.value) σ d >>= changed q) >>= λ y. Some (two twos.And p x y)
form_in (form.Unchanged p t) σ d = expand (view t.now.value) σ d >>= unchanged p
form_in (form.Binders p (under.Nested f) bs t) σ d = nested f p (binds_of (binders (map group_view bs.now.items)) σ) (expand (view t.now)) σ d
form_in (form.Binders p (under.Gathered f) bs t) σ d = gathered f p (binds_of (binders (map group_view bs.now.items)) σ) (expand (view t.now)) σ d
form_in (form.Binds p f w s t) σ d = nested f p (bind_entry (pattern_view w.now) (expand (view s.now.value) σ) []) (expand (view t.now.value)) σ d

-- what an answer says of an expression: `goes` is what `Goes` says
abbrev pub GivesForm : (Tree → Type 0) → OwnForm → Tree → Type 0
GivesForm goes (own_form.Form f) e = (σ : Scope) (d : ℕ) → expand e σ d ≡ form_in f σ d
GivesForm goes (own_form.Nothing p) e = (σ : Scope) (d : ℕ) → expand e σ d ≡ None
GivesForm goes own_form.Goes e = goes e

abbrev pub GivesPrefix : OwnForm → Place → Prefix → Tree → Type 0
GivesPrefix (own_form.Form f) p op t = (σ : Scope) (d : ℕ) → (expand t σ d >>= prefixed op p) ≡ form_in f σ d
GivesPrefix (own_form.Nothing q) p op t = (σ : Scope) (d : ℕ) → (expand t σ d >>= prefixed op p) ≡ None
GivesPrefix own_form.Goes p op t = ⊥

-- whether `plain_form`, `other_form` and `made_form` have a form for an expression
abbrev pub is_plain : Tree → Bool
is_plain (tree.Number p n) = true
is_plain (tree.Text p cs) = true
is_plain (tree.Word p c) = true
is_plain (tree.Listing p q es) = true
is_plain (tree.Junction p q es) = true
is_plain (tree.Field p a w) = true
is_plain (tree.Binary p op w a b) = true
is_plain (tree.If p a b c) = true
is_plain _ = false

abbrev pub is_other : Tree → Bool
is_other (tree.Unary p op a) = true
is_other (tree.Index p f es) = true
is_other (tree.Quantified p q bs a) = true
is_other (tree.Choose p w s a) = true
is_other (tree.Filter p w s a) = true
is_other (tree.Image p a bs) = true
is_other (tree.Function p bs a) = true
is_other (tree.Case p as' o) = true
is_other _ = false

abbrev pub is_made : Tree → Bool
is_made (tree.FunctionSet p s a) = true
is_made (tree.Record p fs) = true
is_made (tree.RecordSet p fs) = true
is_made (tree.Product p a es) = true
is_made (tree.Except p a us) = true
is_made (tree.Action p q a v) = true
is_made (tree.Fair p q v a) = true
is_made _ = false

-- whether an expression means another one, so that it has no form of its own
abbrev pub means_another : Tree → Bool
means_another (tree.Name w) = true
means_another (tree.Call w es) = true
means_another (tree.At p) = true
means_another (tree.Paren p a) = true
means_another (tree.Prime p a) = true
means_another (tree.Let p ds a) = true
means_another _ = false

abbrev pub of_brackets : Brackets → ListNode
of_brackets brackets.Set = manies.Set
of_brackets brackets.Tuple = manies.Tuple

abbrev pub of_bullet : Bullet → ListNode
of_bullet bullet.And = manies.And
of_bullet bullet.Or = manies.Or

-- the parts of a tuple
abbrev pub tuple_of : ListNode → Bor (Vec s.Expr Global) → Option (Bor (Vec s.Expr Global))
tuple_of manies.Tuple ts = Some ts
tuple_of f ts = None

abbrev pub tuple_parts : Form → Option (Bor (Vec s.Expr Global))
tuple_parts (form.Many p f ts) = tuple_of f ts
tuple_parts fm = None
