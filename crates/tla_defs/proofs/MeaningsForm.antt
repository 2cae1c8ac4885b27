-- The meanings of names, the binders and the nodes that are well-formed where their parts are.
use Rattle.std.proofs.Common.{◌≡◌, ℕ, pos, ◌+◌, Bool, true, false, if◌then◌else◌, List, [], ◌∷◌, length, refl, sym, Option, Some, None}
use Rattle.std.specs.Str.{bytes_eq}
use Rattle.tla_value.specs.Tree as value
use Rattle.tla_core.specs.declared.fault.Place.{Place}
use Rattle.tla_core.specs.declared.expression.Opening.{Opening}
use Rattle.tla_core.specs.Patterns.{items_in}
use Rattle.tla_core.specs.ExprOf.{unary_of, kind_of}
use Rattle.tla_core.specs.Expr as x
use Rattle.tla_core.specs.Expr.{Expr, Exprs, constant, bound, now, unary, binary, opened, tried, kind_set, sequences}
use Rattle.tla_model.specs.WellFormed.{is_well_formed, are_well_formed}
use Rattle.tla_tree.specs.declared.word.Written.{Written}
use Rattle.tla_tree.specs.declared.tree.Constant.{Constant}
use Rattle.tla_tree.specs.declared.tree.Constant.TheVariants.{True, False, Boolean, String}
use Rattle.tla_tree.specs.declared.tree.Prefix.{Prefix}
use Rattle.tla_tree.specs.declared.tree.Prefix.TheVariants as prefix
use Rattle.tla_tree.specs.Tree.{Name, Pattern, Each, Tuple}
use Rattle.tla_scopes.specs.declared.nodes.Builtin.{Builtin}
use Rattle.tla_scopes.specs.declared.nodes.Builtin.TheVariants as builtin
use Rattle.tla_scopes.specs.declared.nodes.Binding.{Binding}
use Rattle.tla_scopes.specs.declared.nodes.Binding.TheVariants as binds
use Rattle.tla_scopes.specs.declared.nodes.UnaryNode.{UnaryNode}
use Rattle.tla_scopes.specs.declared.nodes.UnaryNode.TheVariants as ones
use Rattle.tla_scopes.specs.declared.nodes.Gather.{Gather}
use Rattle.tla_scopes.specs.declared.nodes.Gather.TheVariants as gathers
use Rattle.tla_scopes.specs.declared.nodes.BinaryNode.{BinaryNode}
use Rattle.tla_scopes.specs.declared.nodes.BinaryNode.TheVariants as w
use Rattle.tla_scopes.specs.declared.nodes.TernaryNode.{TernaryNode}
use Rattle.tla_scopes.specs.declared.nodes.TernaryNode.TheVariants as h
use Rattle.tla_scopes.specs.declared.primes.Primes.TheVariants.{Once}
use Rattle.tla_scopes.specs.Maybe.{◌>>=◌, each_of}
use Rattle.tla_scopes.specs.Places as names
use Rattle.tla_scopes.specs.Lists.{exprs}
use Rattle.tla_scopes.specs.Primes.{primes}
use Rattle.tla_scopes.specs.Unchanged.{changed}
use Rattle.tla_scopes.specs.Nodes.{constant_of, one, two, three, binding, gather}
use Rattle.tla_scopes.specs.Operators.{prefix_for}
use Rattle.tla_scopes.specs.Library.{library}
use Rattle.tla_scopes.specs.Meanings.{Argument, Meaning, Scope, with_name, unknown, alone, of_one, of_two, of_three, bound_name, variable, parameter, builtin_meaning, meaning_or, standard, with_parameters, operator}
use Rattle.tla_scopes.specs.Bound.{Names, named, tupled, Bind, bind_each, bind_entry, under, with_each, opening, nested, with_elements, with_items, openings, under_openings, set_for, gathered}
use Rattle.tla_scopes.specs.Expand.{applied, prefixed, expand}
use Rattle.tla_scopes.specs.Places.{place_of}
use Rattle.tla_expand.proofs.PrimesFit.{inv}
use Rattle.tla_defs.proofs.PrimesForm.{primes_form}
use Rattle.tla_defs.proofs.UnchangedForm.{IsForm, some, unchanged_form}

abbrev pub IsFormArgument : Argument → Type 0
IsFormArgument a = (d : ℕ) (e : Expr) → a d ≡ Some e → IsForm e

abbrev pub AreFormArguments : List Argument → Type 0
AreFormArguments [] = Unit {0}
AreFormArguments (a ∷ args) = IsFormArgument a × AreFormArguments args

-- on arguments that are forms
abbrev pub IsFormMeaning : Meaning → Type 0
IsFormMeaning m = (p : Place) (args : List Argument) (d : ℕ) → AreFormArguments args → (e : Expr) → m p args d ≡ Some e → IsForm e

abbrev pub IsFormScope : Scope → Type 0
IsFormScope σ = (x : names.Name) → IsFormMeaning (σ x)

pub two_form : (f : BinaryNode) (p : Place) (x y : Expr) → IsForm x → IsForm y → IsForm (two f p x y)
two_form (w.Binary b) p x y i j = (refl, rw (i.1, j.1) refl)
two_form w.Apply p x y i j = (refl, rw (i.1, j.1) refl)
two_form w.Equal p x y i j = (refl, rw (i.1, j.1) refl)
two_form w.Implies p x y i j = (refl, rw (i.1, j.1) refl)
two_form w.And p x y i j = (refl, rw (i.1, j.1) refl)
two_form w.Or p x y i j = (refl, rw (i.1, j.1) refl)
two_form w.Member p x y i j = (refl, rw (i.1, j.1) refl)
two_form w.NotMember p x y i j = (refl, rw (i.1, j.1) refl)
two_form w.Subset p x y i j = (refl, rw (i.1, j.1) refl)
two_form w.Cup p x y i j = (refl, rw (i.1, j.1) refl)
two_form w.Cap p x y i j = (refl, rw (i.1, j.1) refl)
two_form w.Minus p x y i j = (refl, rw (i.1, j.1) refl)
two_form w.Assert p x y i j = (refl, rw (i.1, j.1) refl)
two_form w.Functions p x y i j = (refl, rw (i.1, j.1) refl)

pub three_form : (f : TernaryNode) (p : Place) (x y z : Expr) → IsForm x → IsForm y → IsForm z → IsForm (three f p x y z)
three_form h.If p x y z i j k = (refl, rw (i.1, j.1, k.1) refl)
three_form h.SubSeq p x y z i j k = (refl, rw (i.1, j.1, k.1) refl)

binding_form : (f : Binding) (p : Place) (s x : Expr) → IsForm s → is_well_formed x ≡ true → IsForm (binding f p s x)
binding_form binds.ForAll p s x i j = (refl, rw (i.1, j) refl)
binding_form binds.ForSome p s x i j = (refl, rw (i.1, j) refl)
binding_form binds.Choose p s x i j = (refl, rw (i.1, j) refl)
binding_form binds.Filter p s x i j = (refl, rw (i.1, j) refl)

either_form : (same : Bool) (m n : Meaning) → IsFormMeaning m → IsFormMeaning n → IsFormMeaning (if same then m else n)
either_form true m n i j = i
either_form false m n i j = j

pub name_form : (x : names.Name) (m : Meaning) (σ : Scope) → IsFormMeaning m → IsFormScope σ → IsFormScope (with_name x m σ)
name_form x m σ i g y = either_form (bytes_eq x y) m (σ y) i (g y)

unknown_form : IsFormMeaning unknown
unknown_form p args d r e q = cc

pub alone_form : (f : Place → ℕ → Option Expr) → ((p : Place) (d : ℕ) (e : Expr) → f p d ≡ Some e → IsForm e) → IsFormMeaning (alone f)
alone_form f k p [] d r e q = k p d e q
alone_form f k p (a ∷ args) d r e q = cc

bound_form : (i : ℕ) → IsFormMeaning (bound_name i)
bound_form i = alone_form (λ p d. Some (bound p i)) (λ p d e q. some (bound p i) e q (refl, refl))

pub variable_form : (i : ℕ) → IsFormMeaning (variable i)
variable_form i = alone_form (λ p d. Some (now p i)) (λ p d e q. some (now p i) e q (refl, refl))

of_one_form : (f : Place → Expr → Expr) → ((p : Place) (x : Expr) → IsForm x → IsForm (f p x)) → IsFormMeaning (of_one f)
of_one_form f k p [] d r e q = cc
of_one_form f k p (a ∷ []) d r e q =
    let i = inv (a d) (λ x. Some (f p x)) e q in
    some (f p i.0) e i.2 (k p i.0 (r.0 d i.0 i.1))
of_one_form f k p (a ∷ c ∷ args) d r e q = cc

of_two_form : (f : Place → Expr → Expr → Expr) → ((p : Place) (x y : Expr) → IsForm x → IsForm y → IsForm (f p x y)) → IsFormMeaning (of_two f)
of_two_form f k p [] d r e q = cc
of_two_form f k p (a ∷ []) d r e q = cc
of_two_form f k p (a ∷ c ∷ []) d r e q =
    let i = inv (a d) (λ x. c d >>= λ y. Some (f p x y)) e q in
    let j = inv (c d) (λ y. Some (f p i.0 y)) e i.2 in
    some (f p i.0 j.0) e j.2 (k p i.0 j.0 (r.0 d i.0 i.1) (r.1.0 d j.0 j.1))
of_two_form f k p (a ∷ c ∷ g ∷ args) d r e q = cc

of_three_form : (f : Place → Expr → Expr → Expr → Expr) → ((p : Place) (x y z : Expr) → IsForm x → IsForm y → IsForm z → IsForm (f p x y z)) → IsFormMeaning (of_three f)
of_three_form f k p [] d r e q = cc
of_three_form f k p (a ∷ []) d r e q = cc
of_three_form f k p (a ∷ c ∷ []) d r e q = cc
of_three_form f k p (a ∷ c ∷ g ∷ []) d r e q =
    let i = inv (a d) (λ x. c d >>= λ y. g d >>= λ z. Some (f p x y z)) e q in
    let j = inv (c d) (λ y. g d >>= λ z. Some (f p i.0 y z)) e i.2 in
    let m = inv (g d) (λ z. Some (f p i.0 j.0 z)) e j.2 in
    some (f p i.0 j.0 m.0) e m.2 (k p i.0 j.0 m.0 (r.0 d i.0 i.1) (r.1.0 d j.0 j.1) (r.1.1.0 d m.0 m.1))
of_three_form f k p (a ∷ c ∷ g ∷ n ∷ args) d r e q = cc

builtin_form : (u : Builtin) → IsFormMeaning (builtin_meaning u)
builtin_form (builtin.Kinds k) = alone_form (λ p d. Some (kind_set p (kind_of k))) (λ p d e q. some (kind_set p (kind_of k)) e q (refl, refl))
builtin_form builtin.Sequences = of_one_form (λ p x. sequences p x) (λ p x i. (refl, i.1))
builtin_form (builtin.One u) = of_one_form (λ p x. unary p (unary_of u) x) (λ p x i. (refl, i.1))
builtin_form (builtin.Two f) = of_two_form (two f) (λ p x y i j. two_form f p x y i j)
builtin_form (builtin.Three f) = of_three_form (three f) (λ p x y z i j k. three_form f p x y z i j k)

meaning_form : (o : Option Builtin) → IsFormMeaning (meaning_or o)
meaning_form None = unknown_form
meaning_form (Some u) = builtin_form u

pub standard_form : IsFormScope standard
standard_form x = meaning_form (library x)

pub named_form : (v : Written) (σ : Scope) (d : ℕ) → IsFormScope σ → (e : Expr) → expand (Name v) σ d ≡ Some e → IsForm e
named_form v σ d g e q = g v.word (place_of v.place) [] d tt e q

-- what is expanded in each scope of forms
abbrev pub IsFormBody : (Scope → Argument) → Type 0
IsFormBody body = (τ : Scope) (d : ℕ) → IsFormScope τ → (e : Expr) → body τ d ≡ Some e → IsForm e

parameters_form : (d : ℕ) (ws : List Written) (args : List Argument) (σ : Scope) → AreFormArguments args → IsFormScope σ → (body : Scope → Argument) → IsFormBody body
    → (e : Expr) → (with_parameters ws args σ >>= λ τ. body τ d) ≡ Some e → IsForm e
parameters_form d [] [] σ r g body k e q = k σ d g e q
parameters_form d [] (a ∷ args) σ r g body k e q = cc
parameters_form d (x ∷ xs) [] σ r g body k e q = cc
parameters_form d (x ∷ xs) (a ∷ args) σ r g body k e q =
    parameters_form d xs args (with_name x.word (parameter a) σ) r.1 (name_form x.word (parameter a) σ (alone_form (λ p c. a c) (λ p c. r.0 c)) g) body k e q

pub operator_form : (ws : List Written) (body : Scope → Argument) (σ : Scope) → IsFormScope σ → IsFormBody body → IsFormMeaning (operator ws body σ)
operator_form ws body σ g k p args d r = parameters_form d ws args σ r g body k

-- the sets of bound names
abbrev pub AreFormBinds : List Bind → Type 0
AreFormBinds [] = Unit {0}
AreFormBinds (n ∷ bs) = IsFormArgument n.1 × AreFormBinds bs

pub under_name : (d : ℕ) (x : names.Name) (σ : Scope) → IsFormScope σ → IsFormScope (with_name x (bound_name d) σ)
under_name d x σ g = name_form x (bound_name d) σ (bound_form d) g

each_named : (ws : List Written) (d : ℕ) (σ : Scope) → IsFormScope σ → IsFormScope (with_each ws d σ)
each_named [] d σ g = g
each_named (w ∷ ws) d σ g = each_named ws (d + 1) (with_name w.word (bound_name d) σ) (under_name d w.word σ g)

openings_form : (p : Place) (os : List Opening) (o : Option Expr) → ((e : Expr) → o ≡ Some e → IsForm e) → (e : Expr) → under_openings p os o ≡ Some e → is_well_formed e ≡ true
openings_form p [] o k e q = (k e q).1
openings_form p (x ∷ os) o k e q =
    let i = inv o (λ y. Some (opened p (x ∷ os) y)) e q in
    let same : opened p (x ∷ os) i.0 ≡ e = cc in
    let f = k i.0 i.1 in
    rw (sym same, f.0, f.1) refl

under_form : (p : Place) (n : Names) (body : Scope → Argument) (σ : Scope) (d : ℕ) → IsFormScope σ → IsFormBody body → (e : Expr) → under p n body σ d ≡ Some e → is_well_formed e ≡ true
under_form p (named x) body σ d g k e q = (k (with_name x (bound_name d) σ) (d + 1) (under_name d x σ g) e q).1
under_form p (tupled ws) body σ d g k e q =
    let τ = with_each ws (d + 1) σ in
    openings_form p (opening d ws ∷ []) (body τ (d + 1 + length ws)) (λ y r. k τ (d + 1 + length ws) (each_named ws (d + 1) σ g) y r) e q

pub nested_form : (f : Binding) (p : Place) (bs : List Bind) (body : Scope → Argument) → IsFormBody body → AreFormBinds bs → (σ : Scope) (d : ℕ) → IsFormScope σ
    → (e : Expr) → nested f p bs body σ d ≡ Some e → IsForm e
nested_form f p [] body k r σ d g e q = cc
nested_form f p (n ∷ []) body k r σ d g e q =
    let i = inv (n.1 d) (λ x. under p n.0 body σ d >>= λ y. Some (binding f p x y)) e q in
    let j = inv (under p n.0 body σ d) (λ y. Some (binding f p i.0 y)) e i.2 in
    some (binding f p i.0 j.0) e j.2 (binding_form f p i.0 j.0 (r.0 d i.0 i.1) (under_form p n.0 body σ d g k j.0 j.1))
nested_form f p (n ∷ m ∷ bs) body k r σ d g e q =
    let i = inv (n.1 d) (λ x. under p n.0 (nested f p (m ∷ bs) body) σ d >>= λ y. Some (binding f p x y)) e q in
    let j = inv (under p n.0 (nested f p (m ∷ bs) body) σ d) (λ y. Some (binding f p i.0 y)) e i.2 in
    let inner = under_form p n.0 (nested f p (m ∷ bs) body) σ d g (λ τ c u y v. nested_form f p (m ∷ bs) body k r.1 τ c u y v) j.0 j.1 in
    some (binding f p i.0 j.0) e j.2 (binding_form f p i.0 j.0 (r.0 d i.0 i.1) inner)

pub number_form : (p : Place) (n : ℕ) (small : Bool) (e : Expr) → (if small then Some (constant p (value.int (pos n))) else None) ≡ Some e → IsForm e
number_form p n true e q = some (constant p (value.int (pos n))) e q (refl, refl)
number_form p n false e q = cc

pub word_form : (p : Place) (c : Constant) → IsForm (constant_of p c)
word_form p True = (refl, refl)
word_form p False = (refl, refl)
word_form p Boolean = (refl, refl)
word_form p String = (refl, refl)

one_form : (f : UnaryNode) (p : Place) (x : Expr) → IsForm x → IsForm (one f p x)
one_form (ones.Unary u) p x i = (refl, i.1)
one_form ones.Power p x i = (refl, i.1)
one_form ones.Sequences p x i = (refl, i.1)
one_form (ones.Field w) p x i = (refl, i.1)

applied_form : (f : Option UnaryNode) (p : Place) (x : Expr) → IsForm x → (e : Expr) → applied f p x ≡ Some e → IsForm e
applied_form None p x i e q = cc
applied_form (Some f) p x i e q = some (one f p x) e q (one_form f p x i)

pub prefixed_form : (op : Prefix) (p : Place) (x : Expr) → IsForm x → (e : Expr) → prefixed op p x ≡ Some e → IsForm e
prefixed_form prefix.Unchanged p x i e q = unchanged_form p x e i.1 q
prefixed_form prefix.Not p x i e q = applied_form (prefix_for prefix.Not) p x i e q
prefixed_form prefix.Negate p x i e q = applied_form (prefix_for prefix.Negate) p x i e q
prefixed_form prefix.Always p x i e q = applied_form (prefix_for prefix.Always) p x i e q
prefixed_form prefix.Eventually p x i e q = applied_form (prefix_for prefix.Eventually) p x i e q
prefixed_form prefix.Subset p x i e q = applied_form (prefix_for prefix.Subset) p x i e q
prefixed_form prefix.Union p x i e q = applied_form (prefix_for prefix.Union) p x i e q
prefixed_form prefix.Domain p x i e q = applied_form (prefix_for prefix.Domain) p x i e q

pub changed_form : (p : Place) (x : Expr) → IsForm x → (e : Expr) → changed p x ≡ Some e → IsForm e
changed_form p u i e q =
    let j = inv (primes Once u) (λ y. Some (binary p x.Unequal y u)) e q in
    some (binary p x.Unequal j.0 u) e j.2 (refl, rw ((primes_form Once u j.0 j.1).1, i.1) refl)

-- elements that have names, and then the names of items
elements_form : (bs : List Bind) (d : ℕ) (σ : Scope) → IsFormScope σ → IsFormScope (with_elements bs d σ)
elements_form [] d σ g = g
elements_form ((named x, s) ∷ bs) d σ g = elements_form bs (d + 1) (with_name x (bound_name d) σ) (under_name d x σ g)
elements_form ((tupled ws, s) ∷ bs) d σ g = elements_form bs (d + 1) σ g

items_form : (bs : List Bind) (d : ℕ) (σ : Scope) → IsFormScope σ → IsFormScope (with_items bs d σ)
items_form [] d σ g = g
items_form ((named x, s) ∷ bs) d σ g = items_form bs d σ g
items_form ((tupled ws, s) ∷ bs) d σ g = items_form bs (d + length ws) (with_each ws d σ) (each_named ws d σ g)

set_form : (p : Place) (n : Names) (o : Option Expr) → ((e : Expr) → o ≡ Some e → IsForm e) → (e : Expr) → set_for p n o ≡ Some e → is_well_formed e ≡ true
set_form p (named x) o k e q = (k e q).1
set_form p (tupled ws) o k e q =
    let i = inv o (λ x. Some (tried p (length ws) x)) e q in
    let same : tried p (length ws) i.0 ≡ e = cc in
    let f = k i.0 i.1 in
    rw (sym same, f.0, f.1) refl

sets_form : (p : Place) (d : ℕ) (bs : List Bind) → AreFormBinds bs → (xs : List Expr) → each_of (λ (b : Bind). set_for p b.0 (b.1 d)) bs ≡ Some xs → are_well_formed (exprs xs) ≡ true
sets_form p d [] r xs q = let same : [] ≡ xs = cc in rw (← same) refl
sets_form p d (b ∷ bs) r xs q =
    let i = inv (set_for p b.0 (b.1 d)) (λ x. each_of (λ (b : Bind). set_for p b.0 (b.1 d)) bs >>= λ ys. Some (x ∷ ys)) xs q in
    let j = inv (each_of (λ (b : Bind). set_for p b.0 (b.1 d)) bs) (λ ys. Some (i.0 ∷ ys)) xs i.2 in
    let same : i.0 ∷ j.0 ≡ xs = cc in
    rw (← same) (rw (set_form p b.0 (b.1 d) (λ e k. r.0 d e k) i.0 i.1, sets_form p d bs r.1 j.0 j.1) refl)

gather_form : (f : Gather) (p : Place) (xs : Exprs) (y : Expr) → are_well_formed xs ≡ true → is_well_formed y ≡ true → IsForm (gather f p xs y)
gather_form gathers.Image p xs y i j = (refl, rw (i, j) refl)
gather_form gathers.Function p xs y i j = (refl, rw (i, j) refl)

pub gathered_form : (f : Gather) (p : Place) (bs : List Bind) (body : Scope → Argument) → IsFormBody body → (σ : Scope) (d : ℕ) → IsFormScope σ → AreFormBinds bs
    → (e : Expr) → gathered f p bs body σ d ≡ Some e → IsForm e
gathered_form f p bs body k σ d g r e q =
    let os = openings bs d in
    let τ = with_items bs (d + length bs) (with_elements bs d σ) in
    let c = d + length bs + items_in os in
    let i = inv (each_of (λ (b : Bind). set_for p b.0 (b.1 d)) bs) (λ xs. under_openings p os (body τ c) >>= λ y. Some (gather f p (exprs xs) y)) e q in
    let j = inv (under_openings p os (body τ c)) (λ y. Some (gather f p (exprs i.0) y)) e i.2 in
    let fit = items_form bs (d + length bs) (with_elements bs d σ) (elements_form bs d σ g) in
    some (gather f p (exprs i.0) j.0) e j.2 (gather_form f p (exprs i.0) j.0 (sets_form p d bs r i.0 i.1) (openings_form p os (body τ c) (λ y v. k τ c fit y v) j.0 j.1))

bind_each_form : (ws : List Written) (s : Argument) (rest : List Bind) → IsFormArgument s → AreFormBinds rest → AreFormBinds (bind_each ws s rest)
bind_each_form [] s rest i j = j
bind_each_form (w ∷ ws) s rest i j = (i, bind_each_form ws s rest i j)

pub entry_form : (w : Pattern) (s : Argument) (rest : List Bind) → IsFormArgument s → AreFormBinds rest → AreFormBinds (bind_entry w s rest)
entry_form (Each ws) s rest i j = bind_each_form ws s rest i j
entry_form (Tuple ws) s rest i j = (i, j)
