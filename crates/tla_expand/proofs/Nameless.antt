-- A form that is neither a variable nor a tuple expands to no nested tuple of variables.
use Rattle.std.proofs.Common.{◌≡◌, ℕ, ◌+◌, Bool, true, false, List, [], ◌∷◌, length, map, refl, Bor, Vec, Global, Option, Some, None}
use Rattle.std.specs.Prelude.{nat_le, if◌then◌else◌}
use Rattle.tla_core.specs.declared.fault.Place.{Place}
use Rattle.tla_core.specs.Expr.{Expr, Exprs, Fields, constant, next, equal, tuple, cases, product, except, no_exprs, more_exprs, no_arms, other}
use Rattle.tla_value.specs.Tree as value
use Rattle.tla_tree.specs.declared.tree.Expr as syntax
use Rattle.tla_tree.specs.declared.tree.Constant.{Constant}
use Rattle.tla_tree.specs.declared.tree.Constant.TheVariants.{True, False, Boolean, String}
use Rattle.tla_tree.specs.Tree as t
use Rattle.tla_tree.specs.Tree.{trees, binders}
use Rattle.tla_tree.specs.View.{view, pattern_view, group_view, choice_view, field_view, update_view}
use Rattle.tla_expand.specs.declared.cover.Piece.TheVariants.{Other}
use Rattle.tla_scopes.specs.declared.primes.Primes.{Primes}
use Rattle.tla_scopes.specs.declared.primes.Primes.TheVariants.{Never, Once, Twice}
use Rattle.tla_scopes.specs.declared.nodes.Headed.TheVariants as headed
use Rattle.tla_scopes.specs.declared.nodes.Binders.TheVariants as under
use Rattle.tla_tree.specs.declared.tree.Step.TheVariants as steps
use Rattle.tla_scopes.specs.declared.nodes.Form.{Form}
use Rattle.tla_scopes.specs.declared.nodes.Form.TheVariants as form
use Rattle.tla_scopes.specs.declared.nodes.Leaf.{Leaf}
use Rattle.tla_scopes.specs.declared.nodes.Leaf.TheVariants as leaves
use Rattle.tla_scopes.specs.declared.nodes.UnaryNode.{UnaryNode}
use Rattle.tla_scopes.specs.declared.nodes.UnaryNode.TheVariants as ones
use Rattle.tla_scopes.specs.declared.nodes.BinaryNode.{BinaryNode}
use Rattle.tla_scopes.specs.declared.nodes.BinaryNode.TheVariants as twos
use Rattle.tla_scopes.specs.declared.nodes.TernaryNode.{TernaryNode}
use Rattle.tla_scopes.specs.declared.nodes.TernaryNode.TheVariants as threes
use Rattle.tla_scopes.specs.declared.nodes.ListNode.{ListNode}
use Rattle.tla_scopes.specs.declared.nodes.ListNode.TheVariants as manies
use Rattle.tla_scopes.specs.declared.nodes.Binding.{Binding}
use Rattle.tla_scopes.specs.declared.nodes.Binding.TheVariants as bindings
use Rattle.tla_scopes.specs.declared.nodes.Gather.{Gather}
use Rattle.tla_scopes.specs.declared.nodes.Gather.TheVariants as gathers
use Rattle.tla_scopes.specs.declared.nodes.Fielded.{Fielded}
use Rattle.tla_scopes.specs.declared.nodes.Fielded.TheVariants as fieldeds
use Rattle.tla_scopes.specs.Maybe.{◌>>=◌, each_of}
use Rattle.tla_scopes.specs.Primes.{primes, primed_now, settled_primes}
use Rattle.tla_expand.specs.Covers.{is_names}
use Rattle.tla_scopes.specs.Lists.{exprs, arms_with, fields_of, updates_of}
use Rattle.tla_scopes.specs.Nodes.{leaf, constant_of, one, two, three, many, binding, gather, fielded, kept}
use Rattle.tla_scopes.specs.Unchanged.{unchanged, unchanged_each, changed}
use Rattle.tla_scopes.specs.Meanings.{Scope, Argument}
use Rattle.tla_core.specs.Patterns.{items_in}
use Rattle.tla_scopes.specs.Bound.{Bind, bind_entry, under as under_element, nested, last_or, set_for, openings, with_elements, with_items, under_openings}
use Rattle.tla_scopes.specs.Expand.{expand, expand_each, expand_key, expand_arms, expand_fields, expand_updates, binds_of}
use Rattle.tla_scopes.specs.Scopes.{arguments_in}
use Rattle.tla_scopes.specs.Forms.{form_in}
use Rattle.tla_expand.specs.Private.Gives.{both, is_tuple, part_in, key_in, arm_in, field_in, update_in}
use Rattle.tla_expand.specs.Private.Walks.{IsNoTuple, piece_of, piece_of_many, piece_of_variable}
use Rattle.tla_scopes.specs.Primes.{with_primes}
use Rattle.tla_expand.proofs.Kept.{unchanged_plain, kept_settled}
use Rattle.tla_expand.proofs.Made.{leaf_shown, one_shown, two_shown, three_shown, many_shown, cases_shown, gather_shown, fielded_shown, product_shown, except_shown, binding_shown, Triple}
use Rattle.tla_expand.proofs.Lists.{each_in, arms_in, arms_or_in}
use Rattle.tla_expand.proofs.NamedParts.{fields_in, updates_in}
use Rattle.tla_expand.proofs.Builtins.{HoldsOfUses, use_holds}

some_nameless : (a x : Expr) → is_names a ≡ false → Some a ≡ Some x → is_names x ≡ false
some_nameless a x t h = let w : a ≡ x = cc in rw (← w) t

made_nameless : {A : Type 0} (o : Option A) (f : A → Expr) → ((x : A) → is_names (f x) ≡ false) → IsNoTuple (o >>= λ x. Some (f x))
made_nameless None f h = λ e q. cc
made_nameless (Some x) f h = λ e q. some_nameless (f x) e (h x) q

word_nameless : (p : Place) (c : Constant) → is_names (constant_of p c) ≡ false
word_nameless p True = refl
word_nameless p False = refl
word_nameless p Boolean = refl
word_nameless p String = refl

number_nameless : (p : Place) (b : Bool) (n : value.Tree) → IsNoTuple (if b then Some (constant p n) else None)
number_nameless p true n = λ e q. some_nameless (constant p n) e refl q
number_nameless p false n = λ e q. cc

leaf_nameless : (l : Leaf) (p : Place) → IsNoTuple (leaf l p)
leaf_nameless (leaves.Number n) p = number_nameless p (nat_le n 9223372036854775807) _
leaf_nameless (leaves.Text w) p = λ e q. some_nameless _ e refl q
leaf_nameless (leaves.Word c) p = λ e q. some_nameless (constant_of p c) e (word_nameless p c) q
leaf_nameless (leaves.Bound i) p = λ e q. some_nameless _ e refl q
leaf_nameless (leaves.Value v) p = λ e q. some_nameless _ e refl q
leaf_nameless (leaves.Kinds t) p = λ e q. some_nameless _ e refl q

now_nameless : (k : Primes) (p : Place) (i : ℕ) → piece_of_variable k i ≡ Other → IsNoTuple (primed_now k p i)
now_nameless Never p i h = cc
now_nameless Once p i h = λ e q. some_nameless (next p i) e refl q
now_nameless Twice p i h = λ e q. cc

one_nameless : (f : UnaryNode) (p : Place) (x : Expr) → is_names (one f p x) ≡ false
one_nameless (ones.Unary u) p x = refl
one_nameless ones.Power p x = refl
one_nameless ones.Sequences p x = refl
one_nameless (ones.Field w) p x = refl

two_nameless : (f : BinaryNode) (p : Place) (x y : Expr) → is_names (two f p x y) ≡ false
two_nameless (twos.Binary b) p x y = refl
two_nameless twos.Apply p x y = refl
two_nameless twos.Equal p x y = refl
two_nameless twos.Implies p x y = refl
two_nameless twos.And p x y = refl
two_nameless twos.Or p x y = refl
two_nameless twos.Member p x y = refl
two_nameless twos.NotMember p x y = refl
two_nameless twos.Subset p x y = refl
two_nameless twos.Cup p x y = refl
two_nameless twos.Cap p x y = refl
two_nameless twos.Minus p x y = refl
two_nameless twos.Assert p x y = refl
two_nameless twos.Functions p x y = refl

three_nameless : (f : TernaryNode) (p : Place) (x y z : Expr) → is_names (three f p x y z) ≡ false
three_nameless threes.If p x y z = refl
three_nameless threes.SubSeq p x y z = refl

many_nameless : (f : ListNode) (p : Place) (ts : Bor (Vec syntax.Expr Global)) (xs : Exprs) → piece_of_many f ts ≡ Other → is_names (many f p xs) ≡ false
many_nameless manies.Set p ts xs h = refl
many_nameless manies.Tuple p ts xs h = cc
many_nameless manies.And p ts xs h = refl
many_nameless manies.Or p ts xs h = refl
many_nameless manies.Product p ts xs h = refl

binding_nameless : (f : Binding) (p : Place) (x y : Expr) → is_names (binding f p x y) ≡ false
binding_nameless bindings.ForAll p x y = refl
binding_nameless bindings.ForSome p x y = refl
binding_nameless bindings.Choose p x y = refl
binding_nameless bindings.Filter p x y = refl

gather_nameless : (f : Gather) (p : Place) (xs : Exprs) (y : Expr) → is_names (gather f p xs y) ≡ false
gather_nameless gathers.Image p xs y = refl
gather_nameless gathers.Function p xs y = refl

fielded_nameless : (f : Fielded) (p : Place) (fs : Fields) → is_names (fielded f p fs) ≡ false
fielded_nameless fieldeds.Record p fs = refl
fielded_nameless fieldeds.Records p fs = refl

kept_nameless : (p : Place) (xs : Exprs) → is_names (kept p xs) ≡ false
kept_nameless p no_exprs = refl
kept_nameless p (more_exprs x xs) = refl

equation_nameless : (p : Place) (x : Expr) → is_tuple x ≡ false → IsNoTuple (unchanged p x)
equation_nameless p x h = rw (unchanged_plain p x h) (made_nameless (primes Once x) (λ y. equal p y x) (λ y. refl))

unchanged_none : (p : Place) (x : Expr) (b : Bool) → is_tuple x ≡ b → IsNoTuple (unchanged p x)
unchanged_none p x false h = equation_nameless p x h
unchanged_none p (tuple q es) true h = made_nameless (unchanged_each p es) (λ xs. kept p xs) (kept_nameless p)
unchanged_none p x true h = cc

after_nameless : (p : Place) (o : Option Expr) → IsNoTuple (o >>= unchanged p)
after_nameless p None = λ e q. cc
after_nameless p (Some x) = unchanged_none p x (is_tuple x) refl

nested_nameless : (f : Binding) (k : Primes) (p : Place) (bs : List Bind) (body : Scope → Argument) (σ : Scope) (d : ℕ) → IsNoTuple (with_primes k (nested f p bs body σ d))
nested_nameless f k p [] body σ d = λ e q. cc
nested_nameless f k p (b ∷ bs) body σ d =
    rw (binding_shown f k p (b.1 d) (under_element p b.0 (last_or bs body (nested f p bs body)) σ d))
    (made_nameless (both (with_primes k (b.1 d)) (with_primes k (under_element p b.0 (last_or bs body (nested f p bs body)) σ d))) (λ (xy : Expr × Expr). binding f p xy.0 xy.1) (λ xy. binding_nameless f p xy.0 xy.1))

one_part : (f : UnaryNode) (k : Primes) (p : Place) (a : Option Expr) → IsNoTuple (with_primes k (a >>= λ x. Some (one f p x)))
one_part f k p a = rw (one_shown f k p a) (made_nameless (with_primes k a) (λ x. one f p x) (one_nameless f p))

two_parts : (f : BinaryNode) (k : Primes) (p : Place) (a b : Option Expr) → IsNoTuple (with_primes k (a >>= λ x. b >>= λ y. Some (two f p x y)))
two_parts f k p a b = rw (two_shown f k p a b) (made_nameless (both (with_primes k a) (with_primes k b)) (λ (xy : Expr × Expr). two f p xy.0 xy.1) (λ xy. two_nameless f p xy.0 xy.1))

three_parts : (f : TernaryNode) (k : Primes) (p : Place) (a b c : Option Expr) → IsNoTuple (with_primes k (a >>= λ x. b >>= λ y. c >>= λ z. Some (three f p x y z)))
three_parts f k p a b c =
    rw (three_shown f k p a b c) (made_nameless (both (both (with_primes k a) (with_primes k b)) (with_primes k c)) (λ (t : Triple). three f p t.0.0 t.0.1 t.1) (λ t. three_nameless f p t.0.0 t.0.1 t.1))

uses_nameless : (k : Primes) (p : Place) → HoldsOfUses (λ o. IsNoTuple (with_primes k o)) p
uses_nameless k p = record {
  of_nothing = λ e q. cc;
  of_leaf = λ l. rw (leaf_shown k l p) (leaf_nameless l p);
  of_one = λ f a. one_part f k p a;
  of_two = λ f a b. two_parts f k p a b;
  of_three = λ f a b c. three_parts f k p a b c;
}

pub form_nameless : (fm : Form) (σ : Scope) (d : ℕ) (k : Primes) → piece_of k fm ≡ Other → IsNoTuple (with_primes k (form_in fm σ d))
form_nameless (form.Leaf p l) σ d k h = rw (leaf_shown k l p) (leaf_nameless l p)
form_nameless (form.Variable p i) σ d k h = now_nameless k p i h
form_nameless (form.One p f t) σ d k h = one_part f k p (expand (view t.now.value) σ d)
form_nameless (form.Two p f a b) σ d k h = two_parts f k p (expand (view a.now.value) σ d) (expand (view b.now.value) σ d)
form_nameless (form.Three p f a b c) σ d k h = three_parts f k p (expand (view a.now.value) σ d) (expand (view b.now.value) σ d) (expand (view c.now.value) σ d)
form_nameless (form.Use p u ts) σ d k h = use_holds (λ o. IsNoTuple (with_primes k o)) p (uses_nameless k p) u (arguments_in ts.now σ) d
form_nameless (form.Many p f ts) σ d k h =
    rw (many_shown f k p (expand_each (trees (map view ts.now.items)) σ d) (each_of (part_in k σ d) ts.now.items) (each_in k ts.now.items σ d)) (made_nameless (each_of (part_in k σ d) ts.now.items) (λ xs. many f p (exprs xs)) (λ xs. many_nameless f p ts (exprs xs) h))
form_nameless (form.Headed p headed.Index f ts) σ d k h =
    rw (two_shown twos.Apply k p (expand (view f.now.value) σ d) (expand_key (trees (map view ts.now.items)) σ d))
    (made_nameless (both (part_in k σ d f.now.value) (key_in k σ d ts.now.items)) (λ (xy : Expr × Expr). two twos.Apply p xy.0 xy.1) (λ xy. refl))
form_nameless (form.Cases p as' None) σ d k h =
    rw (cases_shown k p (λ xs. arms_with xs no_arms) (expand_arms (t.arms (map choice_view as'.now.items)) (Some no_arms) σ d) (each_of (arm_in k σ d) as'.now.items) (arms_in k as'.now.items σ d))
    (made_nameless (each_of (arm_in k σ d) as'.now.items) (λ xs. cases p (arms_with xs no_arms)) (λ xs. refl))
form_nameless (form.Cases p as' (Some z)) σ d k h =
    rw (cases_shown k p (λ xs. arms_with xs.0 (other xs.1)) (expand_arms (t.arms (map choice_view as'.now.items)) (expand (view z.now.value) σ d >>= λ x. Some (other x)) σ d) (both (each_of (arm_in k σ d) as'.now.items) (part_in k σ d z.now.value)) (arms_or_in k as'.now.items (view z.now.value) σ d))
    (made_nameless (both (each_of (arm_in k σ d) as'.now.items) (part_in k σ d z.now.value)) (λ xs. cases p (arms_with xs.0 (other xs.1))) (λ xs. refl))
form_nameless (form.Binders p (under.Gathered f) bs t) σ d k h =
    let b = binds_of (binders (map group_view bs.now.items)) σ in
    let sets = each_of (λ (n : Bind). set_for p n.0 (n.1 d)) b in
    let os = openings b d in
    let inner = under_openings p os (expand (view t.now) (with_items b (d + length b) (with_elements b d σ)) (d + length b + items_in os)) in
    rw (gather_shown f k p sets inner (sets >>= each_of (primes k)) refl)
    (made_nameless (both (sets >>= each_of (primes k)) (with_primes k inner)) (λ (xy : List Expr × Expr). gather f p (exprs xy.0) xy.1) (λ xy. gather_nameless f p (exprs xy.0) xy.1))
form_nameless (form.Fields p f fs) σ d k h =
    rw (fielded_shown f k p (expand_fields (t.fields (map field_view fs.now.items)) σ d) (each_of (field_in k σ d) fs.now.items) (fields_in k fs.now.items σ d))
    (made_nameless (each_of (field_in k σ d) fs.now.items) (λ xs. fielded f p (fields_of xs)) (λ xs. fielded_nameless f p (fields_of xs)))
form_nameless (form.Headed p headed.Product z zs) σ d k h =
    rw (product_shown k p (expand (view z.now.value) σ d) (expand_each (trees (map view zs.now.items)) σ d) (each_of (part_in k σ d) zs.now.items) (each_in k zs.now.items σ d))
    (made_nameless (both (part_in k σ d z.now.value) (each_of (part_in k σ d) zs.now.items)) (λ (xs : Expr × List Expr). product p (exprs (xs.0 ∷ xs.1))) (λ xs. refl))
form_nameless (form.Except p z us) σ d k h =
    rw (except_shown k p (expand (view z.now.value) σ d) (expand_updates (t.updates (map update_view us.now.items)) σ d) (each_of (update_in k σ d) us.now.items) (updates_in k us.now.items σ d))
    (made_nameless (both (part_in k σ d z.now.value) (each_of (update_in k σ d) us.now.items)) (λ (xs : Expr × List (List Expr × Expr)). except p xs.0 (updates_of xs.1)) (λ xs. refl))
form_nameless (form.Action p steps.Box z q v) σ d k h =
    rw (two_shown twos.Or k p (expand (view z.now.value) σ d) (expand (view v.now.value) σ d >>= unchanged q))
    (made_nameless (both (part_in k σ d z.now.value) (with_primes k (expand (view v.now.value) σ d >>= unchanged q))) (λ (xy : Expr × Expr). two twos.Or p xy.0 xy.1) (λ xy. refl))
form_nameless (form.Action p steps.Angle z q v) σ d k h =
    rw (two_shown twos.And k p (expand (view z.now.value) σ d) (expand (view v.now.value) σ d >>= changed q))
    (made_nameless (both (part_in k σ d z.now.value) (with_primes k (expand (view v.now.value) σ d >>= changed q))) (λ (xy : Expr × Expr). two twos.And p xy.0 xy.1) (λ xy. refl))
form_nameless (form.Unchanged p t) σ d k h = rw (kept_settled k p (expand (view t.now.value) σ d)) (after_nameless p (with_primes (settled_primes k) (expand (view t.now.value) σ d)))
form_nameless (form.Binders p (under.Nested f) bs t) σ d k h = nested_nameless f k p (binds_of (binders (map group_view bs.now.items)) σ) (expand (view t.now)) σ d
form_nameless (form.Binds p f w s t) σ d k h = nested_nameless f k p (bind_entry (pattern_view w.now) (expand (view s.now.value) σ) []) (expand (view t.now.value)) σ d
