-- The mathematical value of a tree in memory.
use Rattle.std.specs.Prelude.{◌≡◌, map, refl}
use Rattle.std.proofs.Common.{ap, ◌∙◌, sym, Vec, Global}
use Rattle.tla_tree.specs.declared.tree.Binder.{Binder}
use Rattle.tla_tree.specs.declared.tree.Pattern.{Pattern}
use Rattle.tla_tree.specs.declared.tree.Pattern.TheVariants as p
use Rattle.tla_tree.specs.declared.tree.Definition.TheBlock.{hidden-the_row-Expr-1, items_hidden-the_row-Expr-1, hidden-the_row-Binder-0, items_hidden-the_row-Binder-0, hidden-the_row-Arm-2, items_hidden-the_row-Arm-2, hidden-the_row-Definition-3, items_hidden-the_row-Definition-3, hidden-the_row-Key-5, items_hidden-the_row-Key-5, items_shown-the_row-Key-5, hidden-the_row-Field-4, items_hidden-the_row-Field-4, hidden-the_row-Update-6, items_hidden-the_row-Update-6, Held-Expr-Case-2}
use Rattle.tla_tree.specs.declared.tree.Expr.{Expr, Name, Number, Text, Constant, At, Paren', Listing', Call', Prime', Index', Field', Unary', Binary', Quantified', Choose', If', Case', Let', Junction', Filter', Image', Function', FunctionSet', Record', RecordSet', Except', Action', Fair', Product', None', Some', Row_of-Expr, end_of-Expr, more_of-Expr, items-the_row-Expr, Row_of-Binder, end_of-Binder, more_of-Binder, items-the_row-Binder, Row_of-Arm, end_of-Arm, more_of-Arm, items-the_row-Arm, Row_of-Definition, end_of-Definition, more_of-Definition, items-the_row-Definition, Row_of-Field, end_of-Field, more_of-Field, items-the_row-Field, Row_of-Key, end_of-Key, more_of-Key, items-the_row-Key, Row_of-Update, end_of-Update, more_of-Update, items-the_row-Update}
use Rattle.tla_tree.specs.declared.tree.Arm.{Arm}
use Rattle.tla_tree.specs.declared.tree.Definition.{Definition, Operator}
use Rattle.tla_tree.specs.declared.tree.Definition as d
use Rattle.tla_tree.specs.declared.tree.Field.{Field}
use Rattle.tla_tree.specs.declared.tree.Key.{Key}
use Rattle.tla_tree.specs.declared.tree.Key as k
use Rattle.tla_tree.specs.declared.tree.Update.{Update}
use Rattle.tla_tree.specs.Tree.{Tree, Trees, Binders, Arms, Other, Definitions, Group, Choice, none, more, trees, unbound, bound, binders, no_arms, arm, arms, no_other, other, undefined, defined, definitions, Fields, Keys, Updates, Entry, Change, no_fields, field, fields, no_keys, key, keys, no_updates, update, updates}
use Rattle.tla_tree.specs.Tree as t

abbrev pub pattern_view : Pattern → t.Pattern
pattern_view (p.Each ws) = t.Each ws.items
pattern_view (p.Tuple ws) = t.Tuple ws.items

abbrev mutual
  pub view : Expr → Tree
  view (Name w) = t.Name w
  view (Number p n) = t.Number p n
  view (Text p x) = t.Text p x
  view (Constant p c) = t.Word p c
  view (At p) = t.At p
  view (Paren' p _ e) = t.Paren p (view e)
  view (Listing' p b _ items) = t.Listing p b (views items)
  view (Call' w _ items) = t.Call w (views items)
  view (Prime' p _ e) = t.Prime p (view e)
  view (Index' p _ e _ items) = t.Index p (view e) (views items)
  view (Field' p _ e w) = t.Field p (view e) w
  view (Unary' p op _ e) = t.Unary p op (view e)
  view (Binary' p op w _ l _ r) = t.Binary p op w (view l) (view r)
  view (Quantified' p q _ bs _ e) = t.Quantified p q (bound_views bs) (view e)
  view (Choose' at w _ s _ e) = t.Choose at (pattern_view w) (view s) (view e)
  view (If' p _ a _ b _ e) = t.If p (view a) (view b) (view e)
  view (Case' p _ cs o) = t.Case p (arm_views cs) (other_view o)
  view (Let' p _ ds _ e) = t.Let p (definition_views ds) (view e)
  view (Junction' p b _ items) = t.Junction p b (views items)
  view (Filter' at w _ s _ e) = t.Filter at (pattern_view w) (view s) (view e)
  view (Image' p _ e _ bs) = t.Image p (view e) (bound_views bs)
  view (Function' p _ bs _ e) = t.Function p (bound_views bs) (view e)
  view (FunctionSet' p _ s _ e) = t.FunctionSet p (view s) (view e)
  view (Record' p _ fs) = t.Record p (field_views fs)
  view (RecordSet' p _ fs) = t.RecordSet p (field_views fs)
  view (Except' p _ e _ us) = t.Except p (view e) (update_views us)
  view (Action' p step _ a _ v) = t.Action p step (view a) (view v)
  view (Fair' p f _ v _ a) = t.Fair p f (view v) (view a)
  view (Product' p _ e _ items) = t.Product p (view e) (views items)

  pub views : {n : _} → Row_of-Expr n → Trees
  views end_of-Expr = none
  views (more_of-Expr e rest) = more (view e) (views rest)

  pub bound_views : {n : _} → Row_of-Binder n → Binders
  bound_views end_of-Binder = unbound
  bound_views (more_of-Binder w e rest) = bound (pattern_view w) (view e) (bound_views rest)

  pub arm_views : {n : _} → Row_of-Arm n → Arms
  arm_views end_of-Arm = no_arms
  arm_views (more_of-Arm g e rest) = arm (view g) (view e) (arm_views rest)

  pub other_view : Held-Expr-Case-2 → Other
  other_view None' = no_other
  other_view (Some' _ e) = other (view e)

  pub definition_view : Definition → t.Definition
  definition_view (Operator w ws e) = t.DefinesOperator w ws.items (view e)
  definition_view (d.Function' w _ bs e) = t.DefinesFunction w (bound_views bs) (view e)

  pub definition_views : {n : _} → Row_of-Definition n → Definitions
  definition_views end_of-Definition = undefined
  definition_views (more_of-Definition d rest) = defined (definition_view d) (definition_views rest)

  pub field_views : {n : _} → Row_of-Field n → Fields
  field_views end_of-Field = no_fields
  field_views (more_of-Field w e rest) = field w (view e) (field_views rest)

  pub key_view : Key → t.Key
  key_view (k.Index' _ items) = t.AtIndex (views items)
  key_view (k.Field w) = t.AtField w

  pub key_views : {n : _} → Row_of-Key n → Keys
  key_views end_of-Key = no_keys
  key_views (more_of-Key x rest) = key (key_view x) (key_views rest)

  pub update_views : {n : _} → Row_of-Update n → Updates
  update_views end_of-Update = no_updates
  update_views (more_of-Update _ path e rest) = update (key_views path) (view e) (update_views rest)

-- an entry of a binder list
abbrev pub group_view : Binder → Group
group_view b = (pattern_view b.pattern, view b.set)

pub views_row : {n : _} (row : Row_of-Expr n) → views row ≡ trees (map view (items-the_row-Expr n row))
views_row end_of-Expr = refl
views_row (more_of-Expr e rest) = ap (λ x. more (view e) x) (views_row rest)

pub bound_views_row : {n : _} (row : Row_of-Binder n) → bound_views row ≡ binders (map group_view (items-the_row-Binder n row))
bound_views_row end_of-Binder = refl
bound_views_row (more_of-Binder w e rest) = ap (λ x. bound (pattern_view w) (view e) x) (bound_views_row rest)

pub views_items : (items : Vec Expr Global) → views (hidden-the_row-Expr-1 items) ≡ trees (map view items.items)
views_items items = views_row (hidden-the_row-Expr-1 items) ∙ ap (λ xs. trees (map view xs)) (items_hidden-the_row-Expr-1 items)

pub bound_views_items : (items : Vec Binder Global) → bound_views (hidden-the_row-Binder-0 items) ≡ binders (map group_view items.items)
bound_views_items items = bound_views_row (hidden-the_row-Binder-0 items) ∙ ap (λ xs. binders (map group_view xs)) (items_hidden-the_row-Binder-0 items)

-- an arm of CASE
abbrev pub choice_view : Arm → Choice
choice_view a = (view a.guard, view a.value)

pub arm_views_row : {n : _} (row : Row_of-Arm n) → arm_views row ≡ arms (map choice_view (items-the_row-Arm n row))
arm_views_row end_of-Arm = refl
arm_views_row (more_of-Arm g e rest) = ap (λ x. arm (view g) (view e) x) (arm_views_row rest)

pub definition_views_row : {n : _} (row : Row_of-Definition n) → definition_views row ≡ definitions (map definition_view (items-the_row-Definition n row))
definition_views_row end_of-Definition = refl
definition_views_row (more_of-Definition d rest) = ap (λ x. defined (definition_view d) x) (definition_views_row rest)

pub arm_views_items : (items : Vec Arm Global) → arm_views (hidden-the_row-Arm-2 items) ≡ arms (map choice_view items.items)
arm_views_items items = arm_views_row (hidden-the_row-Arm-2 items) ∙ ap (λ xs. arms (map choice_view xs)) (items_hidden-the_row-Arm-2 items)

pub definition_views_items : (items : Vec Definition Global) → definition_views (hidden-the_row-Definition-3 items) ≡ definitions (map definition_view items.items)
definition_views_items items = definition_views_row (hidden-the_row-Definition-3 items) ∙ ap (λ xs. definitions (map definition_view xs)) (items_hidden-the_row-Definition-3 items)

-- a field of a record
abbrev pub field_view : Field → Entry
field_view f = (f.name, view f.value)

pub field_views_row : {n : _} (row : Row_of-Field n) → field_views row ≡ fields (map field_view (items-the_row-Field n row))
field_views_row end_of-Field = refl
field_views_row (more_of-Field w e rest) = ap (λ x. field w (view e) x) (field_views_row rest)

pub field_views_items : (items : Vec Field Global) → field_views (hidden-the_row-Field-4 items) ≡ fields (map field_view items.items)
field_views_items items = field_views_row (hidden-the_row-Field-4 items) ∙ ap (λ xs. fields (map field_view xs)) (items_hidden-the_row-Field-4 items)

pub key_views_row : {n : _} (row : Row_of-Key n) → key_views row ≡ keys (map key_view (items-the_row-Key n row))
key_views_row end_of-Key = refl
key_views_row (more_of-Key x rest) = ap (λ y. key (key_view x) y) (key_views_row rest)

pub key_views_items : (items : Vec Key Global) → key_views (hidden-the_row-Key-5 items) ≡ keys (map key_view items.items)
key_views_items items = key_views_row (hidden-the_row-Key-5 items) ∙ ap (λ xs. keys (map key_view xs)) (items_hidden-the_row-Key-5 items)

-- an update of EXCEPT
abbrev pub update_view : Update → Change
update_view u = (keys (map key_view u.path.items), view u.value)

pub update_views_row : {n : _} (row : Row_of-Update n) → update_views row ≡ updates (map update_view (items-the_row-Update n row))
update_views_row end_of-Update = refl
update_views_row (more_of-Update shape path e rest) =
    let h = key_views_row path ∙ ap (λ ks. keys (map key_view ks)) (sym (items_shown-the_row-Key-5 shape path)) in
    (λ i. update (h i) (view e) (update_views_row rest i))

pub update_views_items : (items : Vec Update Global) → update_views (hidden-the_row-Update-6 items) ≡ updates (map update_view items.items)
update_views_items items = update_views_row (hidden-the_row-Update-6 items) ∙ ap (λ xs. updates (map update_view xs)) (items_hidden-the_row-Update-6 items)
