-- The scope of a well-scoped module has meanings of well-formed expressions, and the formulas that its configuration
-- names are well scoped.
use Rattle.std.proofs.Common.{◌≡◌, ℕ, ◌+◌, Bool, true, false, cond, List, [], ◌∷◌, ◌++◌, length, refl, sym, subst, Option, Some, None}
use Rattle.std.specs.Prelude.{unwrap_or, filter, ◌&&◌, ◌||◌, nat_eq, zero, suc, if◌then◌else◌}
use Rattle.std.specs.Str.{bytes_eq}
use Rattle.tla_value.specs.Tree as value
use Rattle.tla_core.specs.Expr.{Expr, Exprs, constant, conjunction, no_exprs, more_exprs}
use Rattle.tla_model.specs.WellFormed.{are_well_formed}
use Rattle.tla_tree.specs.declared.word.Written.{Written}
use Rattle.tla_tree.specs.declared.tree.Bullet.TheVariants as bullet
use Rattle.tla_tree.specs.declared.tree.Infix.TheVariants as op
use Rattle.tla_tree.specs.declared.tree.Prefix.TheVariants as prefix
use Rattle.tla_tree.specs.declared.tree.Step.TheVariants as step
use Rattle.tla_tree.specs.Places.{place}
use Rattle.tla_tree.specs.Tree.{Tree, Trees, none, more, trees, DefinesOperator, DefinesFunction}
use Rattle.tla_tree.specs.Tree as t
use Rattle.tla_tree.specs.Units.{UnitTree, Separator, Extends, Variables, Operator, Defines, Local, Constants, Assume, Theorem}
use Rattle.tla_config.specs.Names as words
use Rattle.tla_config.specs.Names.{Name, is_among}
use Rattle.tla_config.specs.Statements.{Item, Value, Replaces}
use Rattle.tla_items.specs.Items.{replaced_names, stands_for}
use Rattle.tla_names.specs.Scope as scopes
use Rattle.tla_names.specs.Scope.{signature, plain}
use Rattle.tla_names.specs.WellScoped.{IsWellScoped, AreWellScoped}
use Rattle.tla_names.specs.WellScopedModule.{IsWellScopedUnit, AreWellScopedUnits, IsWellScopedModule}
use Rattle.tla_scopes.specs.Maybe.{◌>>=◌}
use Rattle.tla_scopes.specs.Places.{place_of}
use Rattle.tla_scopes.specs.Meanings.{Scope, standard, variable, with_name, operator}
use Rattle.tla_scopes.specs.Expand.{expand, expand_each}
use Rattle.tla_expand.proofs.PrimesFit.{inv}
use Rattle.tla_defs.specs.Global.{meant, units_in, unless, variables_in, with_variable, with_operator}
use Rattle.tla_defs.specs.Given.{fixed, with_items}
use Rattle.tla_defs.specs.Bodies.{Bodies, body_if, body_in, body_of}
use Rattle.tla_defs.specs.Model.{assumed, assumptions_of}
use Rattle.tla_defs.specs.Private.Passes.{global, raised}
use Rattle.tla_defs.specs.Specification.{conjuncts_in, conjuncts_each, conjuncts_of, conjuncts, is_conjunction, replaced_by, replaced, boxed, always, Step, steps_of, is_initial, initials_of, conjunction_of, IsSpecification}
use Rattle.tla_defs.proofs.UnchangedForm.{IsForm, some}
use Rattle.tla_defs.proofs.MeaningsForm.{IsFormMeaning, IsFormScope, name_form, variable_form, standard_form, operator_form}
use Rattle.tla_defs.proofs.ExpandForm.{expand_form, definition_form}

-- ---- the scope of a module
variables_form : (ws : List Written) (i : ℕ) (σ : Scope) → IsFormScope σ → IsFormScope (variables_in i ws σ)
variables_form [] i σ g = g
variables_form (w ∷ ws) i σ g = variables_form ws (i + 1) (with_variable i w.word σ) (name_form w.word (variable i) σ (variable_form i) g)

unless_form : (b : Bool) (τ σ : Scope) → IsFormScope τ → IsFormScope σ → IsFormScope (unless b τ σ)
unless_form true τ σ f g = g
unless_form false τ σ f g = f

body_form : (w : Written) (e : Tree) (ms : List Name) (s : scopes.Scope) → IsWellScoped ms s e → (σ : Scope) → IsFormScope σ → IsFormScope (with_operator w.word e σ)
body_form w e ms s h σ g = name_form w.word (operator [] (expand e) σ) σ (operator_form [] (expand e) σ g (λ τ c. expand_form e ms s h τ c)) g

units_form : (xs : List Name) (us : List UnitTree) (ms : List Name) (s : scopes.Scope) → AreWellScopedUnits ms s us → (i : ℕ) (σ : Scope) → IsFormScope σ → IsFormScope (units_in xs i us σ)
units_form xs [] ms s h i σ g = g
units_form xs (Variables at ws ∷ us) ms s h i σ g = units_form xs us _ _ h.1 (i + length ws) (variables_in i ws σ) (variables_form ws i σ g)
units_form xs (Operator w e ∷ us) ms s h i σ g = units_form xs us _ _ h.1 i _ (unless_form (is_among w.word xs) _ σ (body_form w e ms s h.0.1 σ g) g)
units_form xs (Defines d ∷ us) ms s h i σ g = units_form xs us _ _ h.1 i _ (unless_form (is_among (signature d).0 xs) _ σ (definition_form d ms s h.0 σ g) g)
units_form xs (Local at d ∷ us) ms s h i σ g = units_form xs us _ _ h.1 i _ (unless_form (is_among (signature d).0 xs) _ σ (definition_form d ms s h.0 σ g) g)
units_form xs (Assume at (Some w) e ∷ us) ms s h i σ g = units_form xs us _ _ h.1 i _ (unless_form (is_among w.word xs) _ σ (body_form w e ms s h.0.1 σ g) g)
units_form xs (Assume at None e ∷ us) ms s h i σ g = units_form xs us _ _ h.1 i σ g
units_form xs (Separator at ∷ us) ms s h i σ g = units_form xs us _ _ h.1 i σ g
units_form xs (Extends at ws ∷ us) ms s h i σ g = units_form xs us _ _ h.1 i σ g
units_form xs (Constants at ds ∷ us) ms s h i σ g = units_form xs us _ _ h.1 i σ g
units_form xs (Theorem at w e ∷ us) ms s h i σ g = units_form xs us _ _ h.1 i σ g

fixed_form : (v : value.Tree) → IsFormMeaning (fixed v)
fixed_form v p [] d r e q = some (constant p v) e q (refl, refl)
fixed_form v p (a ∷ args) d r e q = let z : ⊥ = cc in absurd z

items_form : (ρ : Scope) (is : List Item) (σ : Scope) → IsFormScope ρ → IsFormScope σ → IsFormScope (with_items ρ is σ)
items_form ρ [] σ r g = g
items_form ρ (Value w v ∷ is) σ r g = items_form ρ is (with_name w.word (fixed v) σ) r (name_form w.word (fixed v) σ (fixed_form v) g)
items_form ρ (Replaces w op ∷ is) σ r g = items_form ρ is (with_name w.word (ρ op.word) σ) r (name_form w.word (ρ op.word) σ (r op.word) g)

meant_form : (us : List UnitTree) (is : List Item) (ρ : Scope) → IsWellScopedModule us → IsFormScope ρ → IsFormScope (meant us is ρ)
meant_form us is ρ h r = units_form (replaced_names is) us [] [] h 0 (with_items ρ is standard) (items_form ρ is standard r standard_form)

raised_form : (us : List UnitTree) (is js : List Item) (ρ : Scope) → IsWellScopedModule us → IsFormScope ρ → IsFormScope (raised us is js ρ)
raised_form us is [] ρ h r = r
raised_form us is (Value w v ∷ js) ρ h r = raised_form us is js ρ h r
raised_form us is (Replaces w op ∷ js) ρ h r = raised_form us is js (meant us is ρ) h (meant_form us is ρ h r)

pub global_form : (us : List UnitTree) (is : List Item) → IsWellScopedModule us → IsFormScope (global us is)
global_form us is h = raised_form us is is (meant us is standard) h (meant_form us is standard h standard_form)

-- ---- trees that are well scoped
pub record IsScoped (e : Tree) : Type 0 where
  pub extended : List Name
  pub names : scopes.Scope
  pub known : IsWellScoped extended names e

abbrev pub AreScoped : List Tree → Type 0
AreScoped [] = Unit {0}
AreScoped (e ∷ es) = IsScoped e × AreScoped es

here : (e : Tree) (ms : List Name) (s : scopes.Scope) → IsWellScoped ms s e → IsScoped e
here e ms s h = record { extended = ms; names = s; known = h }

pub scoped_form : (e : Tree) → IsScoped e → (σ : Scope) (d : ℕ) → IsFormScope σ → (x : Expr) → expand e σ d ≡ Some x → IsForm x
scoped_form e h σ d g x q = expand_form e h.extended h.names h.known σ d g x q

both_scoped : (es ds : List Tree) → AreScoped es → AreScoped ds → AreScoped (es ++ ds)
both_scoped [] ds f g = g
both_scoped (e ∷ es) ds f g = (f.0, both_scoped es ds f.1 g)

-- assumptions
one_assumed : (u : UnitTree) (ms : List Name) (s : scopes.Scope) → IsWellScopedUnit ms s u → AreScoped (assumed u)
one_assumed (Variables at ws) ms s h = tt
one_assumed (Operator w e) ms s h = tt
one_assumed (Defines d) ms s h = tt
one_assumed (Local at d) ms s h = tt
one_assumed (Assume at (Some w) e) ms s h = (here e ms s h.1, tt)
one_assumed (Assume at None e) ms s h = (here e ms s h, tt)
one_assumed (Separator at) ms s h = tt
one_assumed (Extends at ws) ms s h = tt
one_assumed (Constants at ds) ms s h = tt
one_assumed (Theorem at w e) ms s h = tt

all_assumed : (us : List UnitTree) (ms : List Name) (s : scopes.Scope) → AreWellScopedUnits ms s us → AreScoped (assumptions_of us)
all_assumed [] ms s h = tt
all_assumed (u ∷ us) ms s h = both_scoped (assumed u) (assumptions_of us) (one_assumed u ms s h.0) (all_assumed us _ _ h.1)

pub assumptions_scoped : (us : List UnitTree) → IsWellScopedModule us → AreScoped (assumptions_of us)
assumptions_scoped us h = all_assumed us [] [] h

-- bodies of names
abbrev AreScopedBodies : Bodies → Type 0
AreScopedBodies b = (x : Name) (e : Tree) → b x ≡ Some e → IsScoped e

if_scoped : (b : Bool) (e : Tree) (o : Option Tree) → IsScoped e → ((d : Tree) → o ≡ Some d → IsScoped d) → (d : Tree) → body_if b e o ≡ Some d → IsScoped d
if_scoped true e o h k d q = let same : e ≡ d = cc in rw (sym same) h
if_scoped false e o h k d q = k d q

in_scoped : (us : List UnitTree) (ms : List Name) (s : scopes.Scope) → AreWellScopedUnits ms s us → AreScopedBodies (body_in us)
in_scoped [] ms s h x d q = let z : ⊥ = cc in absurd z
in_scoped (Variables at ws ∷ us) ms s h x d q = in_scoped us _ _ h.1 x d q
in_scoped (Operator w e ∷ us) ms s h x d q = if_scoped (bytes_eq x w.word) e (body_in us x) (here e ms s h.0.1) (λ c r. in_scoped us _ _ h.1 x c r) d q
in_scoped (Defines (DefinesOperator w ps e) ∷ us) ms s h x d q = if_scoped (bytes_eq x w.word && nat_eq (length ps) 0) e (body_in us x) (here e ms (s ++ plain (words.words ps)) h.0.2) (λ c r. in_scoped us _ _ h.1 x c r) d q
in_scoped (Defines (DefinesFunction w bs e) ∷ us) ms s h x d q = in_scoped us _ _ h.1 x d q
in_scoped (Local at (DefinesOperator w ps e) ∷ us) ms s h x d q = if_scoped (bytes_eq x w.word && nat_eq (length ps) 0) e (body_in us x) (here e ms (s ++ plain (words.words ps)) h.0.2) (λ c r. in_scoped us _ _ h.1 x c r) d q
in_scoped (Local at (DefinesFunction w bs e) ∷ us) ms s h x d q = in_scoped us _ _ h.1 x d q
in_scoped (Assume at (Some w) e ∷ us) ms s h x d q = if_scoped (bytes_eq x w.word) e (body_in us x) (here e ms s h.0.1) (λ c r. in_scoped us _ _ h.1 x c r) d q
in_scoped (Assume at None e ∷ us) ms s h x d q = in_scoped us _ _ h.1 x d q
in_scoped (Separator at ∷ us) ms s h x d q = in_scoped us _ _ h.1 x d q
in_scoped (Extends at ws ∷ us) ms s h x d q = in_scoped us _ _ h.1 x d q
in_scoped (Constants at ds ∷ us) ms s h x d q = in_scoped us _ _ h.1 x d q
in_scoped (Theorem at w e ∷ us) ms s h x d q = in_scoped us _ _ h.1 x d q

bodies_scoped : (us : List UnitTree) (is : List Item) → IsWellScopedModule us → AreScopedBodies (body_of us is)
bodies_scoped us is h x e q =
    let i = inv (stands_for is x) (λ y. body_in us y) e q in
    in_scoped us [] [] h i.0 e i.2

if_replaced : (b : Bool) (e d : Tree) → IsScoped e → (if b then Some e else None) ≡ Some d → IsScoped d
if_replaced true e d h q = let same : e ≡ d = cc in rw (sym same) h
if_replaced false e d h q = let z : ⊥ = cc in absurd z

replaced_scoped : (τ : Name → Bool) (b : Bodies) → AreScopedBodies b → AreScopedBodies (replaced_by τ b)
replaced_scoped τ b h x d q =
    let i = inv (b x) (λ e. if is_conjunction e || τ x then Some e else None) d q in
    if_replaced (is_conjunction i.0 || τ x) i.0 d (h x i.0 i.1) i.2

-- conjuncts
kept_name : (o : Option (List Tree)) (e : Tree) → IsScoped e → ((es : List Tree) → o ≡ Some es → AreScoped es) → AreScoped (unwrap_or o (e ∷ []))
kept_name None e h k = (h, tt)
kept_name (Some es) e h k = k es refl

module _ (ρ : Name → Option (List Tree)) (r : (x : Name) (es : List Tree) → ρ x ≡ Some es → AreScoped es) where
  mutual
    parts_scoped : (e : Tree) (ms : List Name) (s : scopes.Scope) → IsWellScoped ms s e → AreScoped (conjuncts_in ρ e)
    parts_scoped (t.Name v) ms s h = kept_name (ρ v.word) (t.Name v) (here (t.Name v) ms s h) (λ es q. r v.word es q)
    parts_scoped (t.Paren p e) ms s h = parts_scoped e ms s h
    parts_scoped (t.Junction p bullet.And es) ms s h = each_scoped es ms s h
    parts_scoped (t.Junction p bullet.Or es) ms s h = (here (t.Junction p bullet.Or es) ms s h, tt)
    parts_scoped (t.Binary p op.And v a c) ms s h = both_scoped (conjuncts_in ρ a) (conjuncts_in ρ c) (parts_scoped a ms s h.1) (parts_scoped c ms s h.2)
    parts_scoped (t.Binary p op.Implies v a c) ms s h = (here (t.Binary p op.Implies v a c) ms s h, tt)
    parts_scoped (t.Binary p op.Equivalent v a c) ms s h = (here (t.Binary p op.Equivalent v a c) ms s h, tt)
    parts_scoped (t.Binary p op.LeadsTo v a c) ms s h = (here (t.Binary p op.LeadsTo v a c) ms s h, tt)
    parts_scoped (t.Binary p op.Or v a c) ms s h = (here (t.Binary p op.Or v a c) ms s h, tt)
    parts_scoped (t.Binary p op.Equal v a c) ms s h = (here (t.Binary p op.Equal v a c) ms s h, tt)
    parts_scoped (t.Binary p op.NotEqual v a c) ms s h = (here (t.Binary p op.NotEqual v a c) ms s h, tt)
    parts_scoped (t.Binary p op.Less v a c) ms s h = (here (t.Binary p op.Less v a c) ms s h, tt)
    parts_scoped (t.Binary p op.Greater v a c) ms s h = (here (t.Binary p op.Greater v a c) ms s h, tt)
    parts_scoped (t.Binary p op.AtMost v a c) ms s h = (here (t.Binary p op.AtMost v a c) ms s h, tt)
    parts_scoped (t.Binary p op.AtLeast v a c) ms s h = (here (t.Binary p op.AtLeast v a c) ms s h, tt)
    parts_scoped (t.Binary p op.Member v a c) ms s h = (here (t.Binary p op.Member v a c) ms s h, tt)
    parts_scoped (t.Binary p op.NotMember v a c) ms s h = (here (t.Binary p op.NotMember v a c) ms s h, tt)
    parts_scoped (t.Binary p op.SubsetEqual v a c) ms s h = (here (t.Binary p op.SubsetEqual v a c) ms s h, tt)
    parts_scoped (t.Binary p op.Override v a c) ms s h = (here (t.Binary p op.Override v a c) ms s h, tt)
    parts_scoped (t.Binary p op.Pair v a c) ms s h = (here (t.Binary p op.Pair v a c) ms s h, tt)
    parts_scoped (t.Binary p op.Cup v a c) ms s h = (here (t.Binary p op.Cup v a c) ms s h, tt)
    parts_scoped (t.Binary p op.Cap v a c) ms s h = (here (t.Binary p op.Cap v a c) ms s h, tt)
    parts_scoped (t.Binary p op.Difference v a c) ms s h = (here (t.Binary p op.Difference v a c) ms s h, tt)
    parts_scoped (t.Binary p op.Range v a c) ms s h = (here (t.Binary p op.Range v a c) ms s h, tt)
    parts_scoped (t.Binary p op.Plus v a c) ms s h = (here (t.Binary p op.Plus v a c) ms s h, tt)
    parts_scoped (t.Binary p op.Remainder v a c) ms s h = (here (t.Binary p op.Remainder v a c) ms s h, tt)
    parts_scoped (t.Binary p op.Minus v a c) ms s h = (here (t.Binary p op.Minus v a c) ms s h, tt)
    parts_scoped (t.Binary p op.Product v a c) ms s h = (here (t.Binary p op.Product v a c) ms s h, tt)
    parts_scoped (t.Binary p op.Times v a c) ms s h = (here (t.Binary p op.Times v a c) ms s h, tt)
    parts_scoped (t.Binary p op.Quotient v a c) ms s h = (here (t.Binary p op.Quotient v a c) ms s h, tt)
    parts_scoped (t.Binary p op.Concatenation v a c) ms s h = (here (t.Binary p op.Concatenation v a c) ms s h, tt)
    parts_scoped (t.Binary p op.Power v a c) ms s h = (here (t.Binary p op.Power v a c) ms s h, tt)
    parts_scoped (t.Number p n) ms s h = (here (t.Number p n) ms s h, tt)
    parts_scoped (t.Text p cs) ms s h = (here (t.Text p cs) ms s h, tt)
    parts_scoped (t.Word p c) ms s h = (here (t.Word p c) ms s h, tt)
    parts_scoped (t.At p) ms s h = (here (t.At p) ms s h, tt)
    parts_scoped (t.Listing p b es) ms s h = (here (t.Listing p b es) ms s h, tt)
    parts_scoped (t.Call v es) ms s h = (here (t.Call v es) ms s h, tt)
    parts_scoped (t.Prime p e) ms s h = (here (t.Prime p e) ms s h, tt)
    parts_scoped (t.Index p e es) ms s h = (here (t.Index p e es) ms s h, tt)
    parts_scoped (t.Field p e v) ms s h = (here (t.Field p e v) ms s h, tt)
    parts_scoped (t.Unary p o e) ms s h = (here (t.Unary p o e) ms s h, tt)
    parts_scoped (t.Quantified p k bs e) ms s h = (here (t.Quantified p k bs e) ms s h, tt)
    parts_scoped (t.Choose p v u e) ms s h = (here (t.Choose p v u e) ms s h, tt)
    parts_scoped (t.If p a b c) ms s h = (here (t.If p a b c) ms s h, tt)
    parts_scoped (t.Case p arms o) ms s h = (here (t.Case p arms o) ms s h, tt)
    parts_scoped (t.Let p ds e) ms s h = (here (t.Let p ds e) ms s h, tt)
    parts_scoped (t.Filter p v u e) ms s h = (here (t.Filter p v u e) ms s h, tt)
    parts_scoped (t.Image p e bs) ms s h = (here (t.Image p e bs) ms s h, tt)
    parts_scoped (t.Function p bs e) ms s h = (here (t.Function p bs e) ms s h, tt)
    parts_scoped (t.FunctionSet p u e) ms s h = (here (t.FunctionSet p u e) ms s h, tt)
    parts_scoped (t.Record p fs) ms s h = (here (t.Record p fs) ms s h, tt)
    parts_scoped (t.RecordSet p fs) ms s h = (here (t.RecordSet p fs) ms s h, tt)
    parts_scoped (t.Except p e us) ms s h = (here (t.Except p e us) ms s h, tt)
    parts_scoped (t.Action p st a v) ms s h = (here (t.Action p st a v) ms s h, tt)
    parts_scoped (t.Fair p f v a) ms s h = (here (t.Fair p f v a) ms s h, tt)
    parts_scoped (t.Product p e es) ms s h = (here (t.Product p e es) ms s h, tt)

    each_scoped : (es : Trees) (ms : List Name) (s : scopes.Scope) → AreWellScoped ms s es → AreScoped (conjuncts_each ρ es)
    each_scoped none ms s h = tt
    each_scoped (more e es) ms s h = both_scoped (conjuncts_in ρ e) (conjuncts_each ρ es) (parts_scoped e ms s h.0) (each_scoped es ms s h.1)

names_scoped : (n : ℕ) (b : Bodies) → AreScopedBodies b → (x : Name) (es : List Tree) → conjuncts_of n b x ≡ Some es → AreScoped es
names_scoped zero b h x es q = let z : ⊥ = cc in absurd z
names_scoped (suc n) b h x es q =
    let i = inv (b x) (λ e. Some (conjuncts_in (conjuncts_of n b) e)) es q in
    let e = h x i.0 i.1 in
    let same : conjuncts_in (conjuncts_of n b) i.0 ≡ es = cc in
    rw (sym same) (parts_scoped (conjuncts_of n b) (names_scoped n b h) i.0 e.extended e.names e.known)

-- the action of [][A]_v
boxed_scoped : (e : Tree) (ms : List Name) (s : scopes.Scope) → IsWellScoped ms s e → (x : Step) → boxed e ≡ Some x → IsScoped x.0
boxed_scoped (t.Paren p e) ms s h x q = boxed_scoped e ms s h x q
boxed_scoped (t.Action p step.Box a v) ms s h x q = let same : (a, v) ≡ x = cc in rw (sym same) (here a ms s h.0)
boxed_scoped (t.Action p step.Angle a v) ms s h x q = let z : ⊥ = cc in absurd z
boxed_scoped (t.Name v) ms s h x q = let z : ⊥ = cc in absurd z
boxed_scoped (t.Number p n) ms s h x q = let z : ⊥ = cc in absurd z
boxed_scoped (t.Text p cs) ms s h x q = let z : ⊥ = cc in absurd z
boxed_scoped (t.Word p c) ms s h x q = let z : ⊥ = cc in absurd z
boxed_scoped (t.At p) ms s h x q = let z : ⊥ = cc in absurd z
boxed_scoped (t.Listing p b es) ms s h x q = let z : ⊥ = cc in absurd z
boxed_scoped (t.Call v es) ms s h x q = let z : ⊥ = cc in absurd z
boxed_scoped (t.Prime p e) ms s h x q = let z : ⊥ = cc in absurd z
boxed_scoped (t.Index p e es) ms s h x q = let z : ⊥ = cc in absurd z
boxed_scoped (t.Field p e v) ms s h x q = let z : ⊥ = cc in absurd z
boxed_scoped (t.Unary p o e) ms s h x q = let z : ⊥ = cc in absurd z
boxed_scoped (t.Binary p o v a c) ms s h x q = let z : ⊥ = cc in absurd z
boxed_scoped (t.Quantified p k bs e) ms s h x q = let z : ⊥ = cc in absurd z
boxed_scoped (t.Choose p v u e) ms s h x q = let z : ⊥ = cc in absurd z
boxed_scoped (t.If p a b c) ms s h x q = let z : ⊥ = cc in absurd z
boxed_scoped (t.Case p arms o) ms s h x q = let z : ⊥ = cc in absurd z
boxed_scoped (t.Let p ds e) ms s h x q = let z : ⊥ = cc in absurd z
boxed_scoped (t.Junction p b es) ms s h x q = let z : ⊥ = cc in absurd z
boxed_scoped (t.Filter p v u e) ms s h x q = let z : ⊥ = cc in absurd z
boxed_scoped (t.Image p e bs) ms s h x q = let z : ⊥ = cc in absurd z
boxed_scoped (t.Function p bs e) ms s h x q = let z : ⊥ = cc in absurd z
boxed_scoped (t.FunctionSet p u e) ms s h x q = let z : ⊥ = cc in absurd z
boxed_scoped (t.Record p fs) ms s h x q = let z : ⊥ = cc in absurd z
boxed_scoped (t.RecordSet p fs) ms s h x q = let z : ⊥ = cc in absurd z
boxed_scoped (t.Except p e us) ms s h x q = let z : ⊥ = cc in absurd z
boxed_scoped (t.Fair p f v a) ms s h x q = let z : ⊥ = cc in absurd z
boxed_scoped (t.Product p e es) ms s h x q = let z : ⊥ = cc in absurd z

always_scoped : (e : Tree) → IsScoped e → (x : Step) → always e ≡ Some x → IsScoped x.0
always_scoped (t.Unary p prefix.Not e) h x q = let z : ⊥ = cc in absurd z
always_scoped (t.Unary p prefix.Negate e) h x q = let z : ⊥ = cc in absurd z
always_scoped (t.Unary p prefix.Always e) h x q = boxed_scoped e h.extended h.names h.known.1 x q
always_scoped (t.Unary p prefix.Eventually e) h x q = let z : ⊥ = cc in absurd z
always_scoped (t.Unary p prefix.Unchanged e) h x q = let z : ⊥ = cc in absurd z
always_scoped (t.Unary p prefix.Subset e) h x q = let z : ⊥ = cc in absurd z
always_scoped (t.Unary p prefix.Union e) h x q = let z : ⊥ = cc in absurd z
always_scoped (t.Unary p prefix.Domain e) h x q = let z : ⊥ = cc in absurd z
always_scoped (t.Name v) h x q = let z : ⊥ = cc in absurd z
always_scoped (t.Number p n) h x q = let z : ⊥ = cc in absurd z
always_scoped (t.Text p cs) h x q = let z : ⊥ = cc in absurd z
always_scoped (t.Word p c) h x q = let z : ⊥ = cc in absurd z
always_scoped (t.At p) h x q = let z : ⊥ = cc in absurd z
always_scoped (t.Paren p e) h x q = let z : ⊥ = cc in absurd z
always_scoped (t.Listing p b es) h x q = let z : ⊥ = cc in absurd z
always_scoped (t.Call v es) h x q = let z : ⊥ = cc in absurd z
always_scoped (t.Prime p e) h x q = let z : ⊥ = cc in absurd z
always_scoped (t.Index p e es) h x q = let z : ⊥ = cc in absurd z
always_scoped (t.Field p e v) h x q = let z : ⊥ = cc in absurd z
always_scoped (t.Binary p o v a c) h x q = let z : ⊥ = cc in absurd z
always_scoped (t.Quantified p k bs e) h x q = let z : ⊥ = cc in absurd z
always_scoped (t.Choose p v u e) h x q = let z : ⊥ = cc in absurd z
always_scoped (t.If p a b c) h x q = let z : ⊥ = cc in absurd z
always_scoped (t.Case p arms o) h x q = let z : ⊥ = cc in absurd z
always_scoped (t.Let p ds e) h x q = let z : ⊥ = cc in absurd z
always_scoped (t.Junction p b es) h x q = let z : ⊥ = cc in absurd z
always_scoped (t.Filter p v u e) h x q = let z : ⊥ = cc in absurd z
always_scoped (t.Image p e bs) h x q = let z : ⊥ = cc in absurd z
always_scoped (t.Function p bs e) h x q = let z : ⊥ = cc in absurd z
always_scoped (t.FunctionSet p u e) h x q = let z : ⊥ = cc in absurd z
always_scoped (t.Record p fs) h x q = let z : ⊥ = cc in absurd z
always_scoped (t.RecordSet p fs) h x q = let z : ⊥ = cc in absurd z
always_scoped (t.Except p e us) h x q = let z : ⊥ = cc in absurd z
always_scoped (t.Action p st a v) h x q = let z : ⊥ = cc in absurd z
always_scoped (t.Fair p f v a) h x q = let z : ⊥ = cc in absurd z
always_scoped (t.Product p e es) h x q = let z : ⊥ = cc in absurd z

abbrev AreScopedSteps : List Step → Type 0
AreScopedSteps [] = Unit {0}
AreScopedSteps (x ∷ xs) = IsScoped x.0 × AreScopedSteps xs

one_step : (e : Tree) (es : List Tree) (o : Option Step) → always e ≡ o → ((x : Step) → o ≡ Some x → IsScoped x.0) → AreScopedSteps (steps_of es) → AreScopedSteps (steps_of (e ∷ es))
one_step e es None q k h = rw q h
one_step e es (Some x) q k h = rw q (k x refl, h)

steps_scoped : (es : List Tree) → AreScoped es → AreScopedSteps (steps_of es)
steps_scoped [] h = tt
steps_scoped (e ∷ es) h = one_step e es (always e) refl (λ x q. always_scoped e h.0 x q) (steps_scoped es h.1)

filter_one : (b : Bool) (e : Tree) (es : List Tree) → IsScoped e → AreScoped es → AreScoped (cond b (e ∷ es) es)
filter_one true e es f g = (f, g)
filter_one false e es f g = g

filter_scoped : (f : Tree → Bool) (es : List Tree) → AreScoped es → AreScoped (filter f es)
filter_scoped f [] h = tt
filter_scoped f (e ∷ es) h = filter_one (f e) e (filter f es) h.0 (filter_scoped f es h.1)

-- a conjunction of formulas that are well scoped, each in its place
all_form : (es : List Tree) → AreScoped es → (σ : Scope) (d : ℕ) → IsFormScope σ → (xs : Exprs) → expand_each (trees es) σ d ≡ Some xs → are_well_formed xs ≡ true
all_form [] h σ d g xs q = let same : no_exprs ≡ xs = cc in rw (sym same) refl
all_form (e ∷ es) h σ d g xs q =
    let i = inv (expand e σ d) (λ x. expand_each (trees es) σ d >>= λ y. Some (more_exprs x y)) xs q in
    let j = inv (expand_each (trees es) σ d) (λ y. Some (more_exprs i.0 y)) xs i.2 in
    let same : more_exprs i.0 j.0 ≡ xs = cc in
    rw (sym same, (scoped_form e h.0 σ d g i.0 i.1).1, all_form es h.1 σ d g j.0 j.1) refl

conjunction_form : (es : List Tree) (e : Tree) → AreScoped es → conjunction_of es ≡ Some e → (σ : Scope) (d : ℕ) → IsFormScope σ → (x : Expr) → expand e σ d ≡ Some x → IsForm x
conjunction_form [] e h c σ d g x q = let z : ⊥ = cc in absurd z
conjunction_form (a ∷ []) e h c σ d g x q =
    let same : a ≡ e = cc in
    let r = rw (sym same) at q in
    scoped_form a h.0 σ d g x r
conjunction_form (a ∷ b ∷ es) e h c σ d g x q =
    let same : t.Junction (place a) bullet.And (trees (a ∷ b ∷ es)) ≡ e = cc in
    let r = rw (sym same) at q in
    let i = inv (expand_each (trees (a ∷ b ∷ es)) σ d) (λ xs. Some (conjunction (place_of (place a)) xs)) x r in
    some (conjunction (place_of (place a)) i.0) x i.2 (refl, all_form (a ∷ b ∷ es) h σ d g i.0 i.1)

module _ (us : List UnitTree) (is : List Item) (known : IsWellScopedModule us) (v : ℕ) (w : Written) (initial action : Tree) (τ : Scope) (h : IsSpecification us is τ v w initial action) where
  parts : AreScoped (conjuncts (length us) (replaced us is) h.body)
  parts =
      let b = bodies_scoped us is known in
      let e = b w.word h.body h.is_body in
      parts_scoped (conjuncts_of (length us) (replaced us is)) (names_scoped (length us) (replaced us is) (replaced_scoped _ (body_of us is) b)) h.body e.extended e.names e.known

  pub specified_action : IsScoped action
  specified_action =
      let all : AreScopedSteps ((action, h.subscript) ∷ []) = subst (λ (xs : List Step). AreScopedSteps xs) h.one_step (steps_scoped (conjuncts (length us) (replaced us is) h.body) parts) in
      all.0

  pub specified_initial : (σ : Scope) (d : ℕ) → IsFormScope σ → (x : Expr) → expand initial σ d ≡ Some x → IsForm x
  specified_initial σ d g x q =
      conjunction_form (initials_of (length us) (body_of us is) (conjuncts (length us) (replaced us is) h.body)) initial
      (filter_scoped (is_initial (length us) (body_of us is)) (conjuncts (length us) (replaced us is) h.body) parts) h.is_initial σ d g x q
