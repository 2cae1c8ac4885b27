-- A form that is no tuple expands to none.
use Rattle.std.proofs.Common.{◌≡◌, ℕ, ◌+◌, Bool, true, false, List, [], ◌∷◌, length, map, refl, sym, Bor, Vec, Global, Option, Some, None}
use Rattle.std.specs.Prelude.{nat_le, if◌then◌else◌}
use Rattle.tla_core.specs.declared.fault.Place.{Place}
use Rattle.tla_core.specs.Expr.{Expr, Exprs, Fields, constant, equal, tuple, cases, product, except, no_exprs, more_exprs, no_arms, other}
use Rattle.tla_model.specs.Size.{nodes, depth}
use Rattle.tla_value.specs.Tree as value
use Rattle.tla_tree.specs.declared.tree.Expr as syntax
use Rattle.tla_tree.specs.declared.tree.Constant.{Constant}
use Rattle.tla_tree.specs.declared.tree.Constant.TheVariants.{True, False, Boolean, String}
use Rattle.tla_tree.specs.Tree as t
use Rattle.tla_tree.specs.Tree.{trees, binders}
use Rattle.tla_tree.specs.View.{view, pattern_view, group_view, choice_view, field_view, update_view}
use Rattle.tla_scopes.specs.declared.failure.Failure.{Failure}
use Rattle.tla_scopes.specs.declared.primes.Primes.{Primes}
use Rattle.tla_scopes.specs.declared.primes.Primes.TheVariants.{Never, Once, Twice}
use Rattle.tla_scopes.specs.declared.nodes.Headed.TheVariants as headed
use Rattle.tla_scopes.specs.declared.nodes.Binders.TheVariants as under
use Rattle.tla_tree.specs.declared.tree.Step.TheVariants as steps
use Rattle.tla_scopes.specs.declared.nodes.Form.{Form}
use Rattle.tla_scopes.specs.declared.nodes.Form.TheVariants as form
use Rattle.tla_scopes.specs.declared.nodes.Leaf.{Leaf}
use Rattle.tla_scopes.specs.declared.nodes.Leaf.TheVariants as leaves
use Rattle.tla_scopes.specs.declared.nodes.UnaryNode.{UnaryNode}
use Rattle.tla_scopes.specs.declared.nodes.UnaryNode.TheVariants as ones
use Rattle.tla_scopes.specs.declared.nodes.BinaryNode.{BinaryNode}
use Rattle.tla_scopes.specs.declared.nodes.BinaryNode.TheVariants as twos
use Rattle.tla_scopes.specs.declared.nodes.TernaryNode.{TernaryNode}
use Rattle.tla_scopes.specs.declared.nodes.TernaryNode.TheVariants as threes
use Rattle.tla_scopes.specs.declared.nodes.ListNode.{ListNode}
use Rattle.tla_scopes.specs.declared.nodes.ListNode.TheVariants as manies
use Rattle.tla_scopes.specs.declared.nodes.Binding.{Binding}
use Rattle.tla_scopes.specs.declared.nodes.Binding.TheVariants as bindings
use Rattle.tla_scopes.specs.declared.nodes.Gather.{Gather}
use Rattle.tla_scopes.specs.declared.nodes.Gather.TheVariants as gathers
use Rattle.tla_scopes.specs.declared.nodes.Fielded.{Fielded}
use Rattle.tla_scopes.specs.declared.nodes.Fielded.TheVariants as fieldeds
use Rattle.tla_scopes.specs.Maybe.{◌>>=◌, each_of}
use Rattle.tla_scopes.specs.Primes.{primes, primed_now, settled_primes, one_more}
use Rattle.tla_scopes.specs.Lists.{exprs, arms_with, fields_of, updates_of}
use Rattle.tla_scopes.specs.Nodes.{leaf, constant_of, one, two, three, many, binding, gather, fielded, kept}
use Rattle.tla_scopes.specs.Unchanged.{unchanged, unchanged_each, changed}
use Rattle.tla_scopes.specs.Meanings.{Scope, Argument}
use Rattle.tla_core.specs.Patterns.{items_in}
use Rattle.tla_scopes.specs.Bound.{Bind, bind_entry, under as under_element, nested, last_or, set_for, openings, with_elements, with_items, under_openings}
use Rattle.tla_scopes.specs.Expand.{expand, expand_each, expand_key, expand_arms, expand_fields, expand_updates, binds_of}
use Rattle.tla_scopes.specs.Scopes.{arguments_in}
use Rattle.tla_scopes.specs.Forms.{form_in, tuple_of, tuple_parts}
use Rattle.tla_expand.specs.Private.Gives.{is_tuple, Plain, both, total, highest, part_in, key_in, arm_in, field_in, update_in, kept_part, sum_of, larger_of, Makes, FailsBy, Fails}
use Rattle.tla_scopes.specs.Primes.{with_primes}
use Rattle.tla_expand.proofs.Kept.{some_plain, unchanged_plain, kept_settled, kept_equal}
use Rattle.tla_expand.proofs.Made.{leaf_shown, one_shown, two_shown, three_shown, many_shown, cases_shown, gather_shown, fielded_shown, product_shown, except_shown, binding_shown, kept_larger, two_larger, Triple}
use Rattle.tla_expand.proofs.Lists.{each_in, arms_in, arms_or_in, kept_tuple}
use Rattle.tla_expand.proofs.NamedParts.{fields_in, updates_in}
use Rattle.tla_expand.proofs.Builtins.{HoldsOfUses, use_holds}
use Rattle.tla_expand.proofs.Sizes.{Given, node_fails, node_gives}

made_plain : {A : Type 0} (o : Option A) (f : A → Expr) → ((x : A) → is_tuple (f x) ≡ false) → Plain (o >>= λ x. Some (f x))
made_plain None f h = λ e q. cc
made_plain (Some x) f h = λ e q. some_plain (f x) e (h x) q

word_plain : (p : Place) (c : Constant) → is_tuple (constant_of p c) ≡ false
word_plain p True = refl
word_plain p False = refl
word_plain p Boolean = refl
word_plain p String = refl

number_plain : (p : Place) (b : Bool) (n : value.Tree) → Plain (if b then Some (constant p n) else None)
number_plain p true n = λ e q. some_plain (constant p n) e refl q
number_plain p false n = λ e q. cc

leaf_plain : (l : Leaf) (p : Place) → Plain (leaf l p)
leaf_plain (leaves.Number n) p = number_plain p (nat_le n 9223372036854775807) _
leaf_plain (leaves.Text w) p = λ e q. some_plain _ e refl q
leaf_plain (leaves.Word c) p = λ e q. some_plain (constant_of p c) e (word_plain p c) q
leaf_plain (leaves.Bound i) p = λ e q. some_plain _ e refl q
leaf_plain (leaves.Value v) p = λ e q. some_plain _ e refl q
leaf_plain (leaves.Kinds t) p = λ e q. some_plain _ e refl q

now_plain : (k : Primes) (p : Place) (i : ℕ) → Plain (primed_now k p i)
now_plain Never p i = λ e q. some_plain _ e refl q
now_plain Once p i = λ e q. some_plain _ e refl q
now_plain Twice p i = λ e q. cc

one_plain : (f : UnaryNode) (p : Place) (x : Expr) → is_tuple (one f p x) ≡ false
one_plain (ones.Unary u) p x = refl
one_plain ones.Power p x = refl
one_plain ones.Sequences p x = refl
one_plain (ones.Field w) p x = refl

two_plain : (f : BinaryNode) (p : Place) (x y : Expr) → is_tuple (two f p x y) ≡ false
two_plain (twos.Binary b) p x y = refl
two_plain twos.Apply p x y = refl
two_plain twos.Equal p x y = refl
two_plain twos.Implies p x y = refl
two_plain twos.And p x y = refl
two_plain twos.Or p x y = refl
two_plain twos.Member p x y = refl
two_plain twos.NotMember p x y = refl
two_plain twos.Subset p x y = refl
two_plain twos.Cup p x y = refl
two_plain twos.Cap p x y = refl
two_plain twos.Minus p x y = refl
two_plain twos.Assert p x y = refl
two_plain twos.Functions p x y = refl

three_plain : (f : TernaryNode) (p : Place) (x y z : Expr) → is_tuple (three f p x y z) ≡ false
three_plain threes.If p x y z = refl
three_plain threes.SubSeq p x y z = refl

many_plain : (f : ListNode) (p : Place) (ts : Bor (Vec syntax.Expr Global)) (xs : Exprs) → tuple_of f ts ≡ None → is_tuple (many f p xs) ≡ false
many_plain manies.Set p ts xs h = refl
many_plain manies.Tuple p ts xs h = cc
many_plain manies.And p ts xs h = refl
many_plain manies.Or p ts xs h = refl
many_plain manies.Product p ts xs h = refl

binding_plain : (f : Binding) (p : Place) (x y : Expr) → is_tuple (binding f p x y) ≡ false
binding_plain bindings.ForAll p x y = refl
binding_plain bindings.ForSome p x y = refl
binding_plain bindings.Choose p x y = refl
binding_plain bindings.Filter p x y = refl

gather_plain : (f : Gather) (p : Place) (xs : Exprs) (y : Expr) → is_tuple (gather f p xs y) ≡ false
gather_plain gathers.Image p xs y = refl
gather_plain gathers.Function p xs y = refl

fielded_plain : (f : Fielded) (p : Place) (fs : Fields) → is_tuple (fielded f p fs) ≡ false
fielded_plain fieldeds.Record p fs = refl
fielded_plain fieldeds.Records p fs = refl

kept_plain : (p : Place) (xs : Exprs) → is_tuple (kept p xs) ≡ false
kept_plain p no_exprs = refl
kept_plain p (more_exprs x xs) = refl

equation_plain : (p : Place) (x : Expr) → is_tuple x ≡ false → Plain (unchanged p x)
equation_plain p x h = rw (unchanged_plain p x h) (made_plain (primes Once x) (λ y. equal p y x) (λ y. refl))

unchanged_none : (p : Place) (x : Expr) (b : Bool) → is_tuple x ≡ b → Plain (unchanged p x)
unchanged_none p x false h = equation_plain p x h
unchanged_none p (tuple q es) true h = made_plain (unchanged_each p es) (λ xs. kept p xs) (kept_plain p)
unchanged_none p x true h = cc

after_plain : (p : Place) (o : Option Expr) → Plain (o >>= unchanged p)
after_plain p None = λ e q. cc
after_plain p (Some x) = unchanged_none p x (is_tuple x) refl

nested_plain : (f : Binding) (k : Primes) (p : Place) (bs : List Bind) (body : Scope → Argument) (σ : Scope) (d : ℕ) → Plain (with_primes k (nested f p bs body σ d))
nested_plain f k p [] body σ d = λ e q. cc
nested_plain f k p (b ∷ bs) body σ d =
    rw (binding_shown f k p (b.1 d) (under_element p b.0 (last_or bs body (nested f p bs body)) σ d))
    (made_plain (both (with_primes k (b.1 d)) (with_primes k (under_element p b.0 (last_or bs body (nested f p bs body)) σ d))) (λ (xy : Expr × Expr). binding f p xy.0 xy.1) (λ xy. binding_plain f p xy.0 xy.1))

one_part : (f : UnaryNode) (k : Primes) (p : Place) (a : Option Expr) → Plain (with_primes k (a >>= λ x. Some (one f p x)))
one_part f k p a = rw (one_shown f k p a) (made_plain (with_primes k a) (λ x. one f p x) (one_plain f p))

two_parts : (f : BinaryNode) (k : Primes) (p : Place) (a b : Option Expr) → Plain (with_primes k (a >>= λ x. b >>= λ y. Some (two f p x y)))
two_parts f k p a b = rw (two_shown f k p a b) (made_plain (both (with_primes k a) (with_primes k b)) (λ (xy : Expr × Expr). two f p xy.0 xy.1) (λ xy. two_plain f p xy.0 xy.1))

three_parts : (f : TernaryNode) (k : Primes) (p : Place) (a b c : Option Expr) → Plain (with_primes k (a >>= λ x. b >>= λ y. c >>= λ z. Some (three f p x y z)))
three_parts f k p a b c =
    rw (three_shown f k p a b c) (made_plain (both (both (with_primes k a) (with_primes k b)) (with_primes k c)) (λ (t : Triple). three f p t.0.0 t.0.1 t.1) (λ t. three_plain f p t.0.0 t.0.1 t.1))

uses_plain : (k : Primes) (p : Place) → HoldsOfUses (λ o. Plain (with_primes k o)) p
uses_plain k p = record {
  of_nothing = λ e q. cc;
  of_leaf = λ l. rw (leaf_shown k l p) (leaf_plain l p);
  of_one = λ f a. one_part f k p a;
  of_two = λ f a b. two_parts f k p a b;
  of_three = λ f a b c. three_parts f k p a b c;
}

form_plain : (fm : Form) (σ : Scope) (d : ℕ) (k : Primes) → tuple_parts fm ≡ None → Plain (with_primes k (form_in fm σ d))
form_plain (form.Leaf p l) σ d k h = rw (leaf_shown k l p) (leaf_plain l p)
form_plain (form.Variable p i) σ d k h = now_plain k p i
form_plain (form.One p f t) σ d k h = one_part f k p (expand (view t.now.value) σ d)
form_plain (form.Two p f a b) σ d k h = two_parts f k p (expand (view a.now.value) σ d) (expand (view b.now.value) σ d)
form_plain (form.Three p f a b c) σ d k h = three_parts f k p (expand (view a.now.value) σ d) (expand (view b.now.value) σ d) (expand (view c.now.value) σ d)
form_plain (form.Use p u ts) σ d k h = use_holds (λ o. Plain (with_primes k o)) p (uses_plain k p) u (arguments_in ts.now σ) d
form_plain (form.Many p f ts) σ d k h =
    rw (many_shown f k p (expand_each (trees (map view ts.now.items)) σ d) (each_of (part_in k σ d) ts.now.items) (each_in k ts.now.items σ d)) (made_plain (each_of (part_in k σ d) ts.now.items) (λ xs. many f p (exprs xs)) (λ xs. many_plain f p ts (exprs xs) h))
form_plain (form.Headed p headed.Index f ts) σ d k h =
    rw (two_shown twos.Apply k p (expand (view f.now.value) σ d) (expand_key (trees (map view ts.now.items)) σ d))
    (made_plain (both (part_in k σ d f.now.value) (key_in k σ d ts.now.items)) (λ (xy : Expr × Expr). two twos.Apply p xy.0 xy.1) (λ xy. refl))
form_plain (form.Cases p as' None) σ d k h =
    rw (cases_shown k p (λ xs. arms_with xs no_arms) (expand_arms (t.arms (map choice_view as'.now.items)) (Some no_arms) σ d) (each_of (arm_in k σ d) as'.now.items) (arms_in k as'.now.items σ d))
    (made_plain (each_of (arm_in k σ d) as'.now.items) (λ xs. cases p (arms_with xs no_arms)) (λ xs. refl))
form_plain (form.Cases p as' (Some z)) σ d k h =
    rw (cases_shown k p (λ xs. arms_with xs.0 (other xs.1)) (expand_arms (t.arms (map choice_view as'.now.items)) (expand (view z.now.value) σ d >>= λ x. Some (other x)) σ d) (both (each_of (arm_in k σ d) as'.now.items) (part_in k σ d z.now.value)) (arms_or_in k as'.now.items (view z.now.value) σ d))
    (made_plain (both (each_of (arm_in k σ d) as'.now.items) (part_in k σ d z.now.value)) (λ xs. cases p (arms_with xs.0 (other xs.1))) (λ xs. refl))
form_plain (form.Binders p (under.Gathered f) bs t) σ d k h =
    let b = binds_of (binders (map group_view bs.now.items)) σ in
    let sets = each_of (λ (n : Bind). set_for p n.0 (n.1 d)) b in
    let os = openings b d in
    let inner = under_openings p os (expand (view t.now) (with_items b (d + length b) (with_elements b d σ)) (d + length b + items_in os)) in
    rw (gather_shown f k p sets inner (sets >>= each_of (primes k)) refl)
    (made_plain (both (sets >>= each_of (primes k)) (with_primes k inner)) (λ (xy : List Expr × Expr). gather f p (exprs xy.0) xy.1) (λ xy. gather_plain f p (exprs xy.0) xy.1))
form_plain (form.Fields p f fs) σ d k h =
    rw (fielded_shown f k p (expand_fields (t.fields (map field_view fs.now.items)) σ d) (each_of (field_in k σ d) fs.now.items) (fields_in k fs.now.items σ d))
    (made_plain (each_of (field_in k σ d) fs.now.items) (λ xs. fielded f p (fields_of xs)) (λ xs. fielded_plain f p (fields_of xs)))
form_plain (form.Headed p headed.Product z zs) σ d k h =
    rw (product_shown k p (expand (view z.now.value) σ d) (expand_each (trees (map view zs.now.items)) σ d) (each_of (part_in k σ d) zs.now.items) (each_in k zs.now.items σ d))
    (made_plain (both (part_in k σ d z.now.value) (each_of (part_in k σ d) zs.now.items)) (λ (xs : Expr × List Expr). product p (exprs (xs.0 ∷ xs.1))) (λ xs. refl))
form_plain (form.Except p z us) σ d k h =
    rw (except_shown k p (expand (view z.now.value) σ d) (expand_updates (t.updates (map update_view us.now.items)) σ d) (each_of (update_in k σ d) us.now.items) (updates_in k us.now.items σ d))
    (made_plain (both (part_in k σ d z.now.value) (each_of (update_in k σ d) us.now.items)) (λ (xs : Expr × List (List Expr × Expr)). except p xs.0 (updates_of xs.1)) (λ xs. refl))
form_plain (form.Action p steps.Box z q v) σ d k h =
    rw (two_shown twos.Or k p (expand (view z.now.value) σ d) (expand (view v.now.value) σ d >>= unchanged q))
    (made_plain (both (part_in k σ d z.now.value) (with_primes k (expand (view v.now.value) σ d >>= unchanged q))) (λ (xy : Expr × Expr). two twos.Or p xy.0 xy.1) (λ xy. refl))
form_plain (form.Action p steps.Angle z q v) σ d k h =
    rw (two_shown twos.And k p (expand (view z.now.value) σ d) (expand (view v.now.value) σ d >>= changed q))
    (made_plain (both (part_in k σ d z.now.value) (with_primes k (expand (view v.now.value) σ d >>= changed q))) (λ (xy : Expr × Expr). two twos.And p xy.0 xy.1) (λ xy. refl))
form_plain (form.Unchanged p t) σ d k h = rw (kept_settled k p (expand (view t.now.value) σ d)) (after_plain p (with_primes (settled_primes k) (expand (view t.now.value) σ d)))
form_plain (form.Binders p (under.Nested f) bs t) σ d k h = nested_plain f k p (binds_of (binders (map group_view bs.now.items)) σ) (expand (view t.now)) σ d
form_plain (form.Binds p f w s t) σ d k h = nested_plain f k p (bind_entry (pattern_view w.now) (expand (view s.now.value) σ) []) (expand (view t.now.value)) σ d

pub plain_head : (o : Option Expr) (fm : Form) (σ : Scope) (d : ℕ) (k : Primes) → o ≡ with_primes k (form_in fm σ d) → tuple_parts fm ≡ None → Plain o
plain_head o fm σ d k h t = rw h (form_plain fm σ d k t)

-- a tuple
of_tuple : (f : ListNode) (ts us : Bor (Vec syntax.Expr Global)) → tuple_of f ts ≡ Some us → (f ≡ manies.Tuple) × (ts ≡ us)
of_tuple manies.Tuple ts us h = (refl, (let w : ts ≡ us = cc in w))
of_tuple manies.Set ts us h = cc
of_tuple manies.And ts us h = cc
of_tuple manies.Or ts us h = cc
of_tuple manies.Product ts us h = cc

many_kept : (o : Option Expr) (q : Place) (f : ListNode) (ts us : Bor (Vec syntax.Expr Global)) (σ : Scope) (d : ℕ) (k : Primes) (p : Place) → o ≡ with_primes k (form_in (form.Many q f ts) σ d) → tuple_of f ts ≡ Some us
    → (o >>= unchanged p) ≡ (each_of (kept_part k p σ d) us.now.items >>= λ xs. Some (kept p (exprs xs)))
many_kept o q f ts us σ d k p h t =
    let g = of_tuple f ts us t in
    rw (h, g.0, g.1, many_shown manies.Tuple k q (expand_each (trees (map view us.now.items)) σ d) (each_of (part_in k σ d) us.now.items) (each_in k us.now.items σ d)) (kept_tuple k p q us.now.items σ d)

pub tuple_kept : (o : Option Expr) (fm : Form) (us : Bor (Vec syntax.Expr Global)) (σ : Scope) (d : ℕ) (k : Primes) (p : Place) → o ≡ with_primes k (form_in fm σ d) → tuple_parts fm ≡ Some us
    → (o >>= unchanged p) ≡ (each_of (kept_part k p σ d) us.now.items >>= λ xs. Some (kept p (exprs xs)))
tuple_kept o (form.Many q f ts) us σ d k p h t = many_kept o q f ts us σ d k p h t
tuple_kept o (form.Leaf q l) us σ d k p h t = cc
tuple_kept o (form.Variable q i) us σ d k p h t = cc
tuple_kept o (form.One q f a) us σ d k p h t = cc
tuple_kept o (form.Two q f a b) us σ d k p h t = cc
tuple_kept o (form.Three q f a b c) us σ d k p h t = cc
tuple_kept o (form.Use q u a) us σ d k p h t = cc
tuple_kept o (form.Headed q f a b) us σ d k p h t = cc
tuple_kept o (form.Cases q a b) us σ d k p h t = cc
tuple_kept o (form.Fields q f fs) us σ d k p h t = cc
tuple_kept o (form.Except q a b) us σ d k p h t = cc
tuple_kept o (form.Action q f a b c) us σ d k p h t = cc
tuple_kept o (form.Unchanged q a) us σ d k p h t = cc
tuple_kept o (form.Binders q f bs a) us σ d k p h t = cc
tuple_kept o (form.Binds q f w a b) us σ d k p h t = cc

pub tuple_fails : (o : Option Expr) (fm : Form) (us : Bor (Vec syntax.Expr Global)) (σ : Scope) (d : ℕ) (k : Primes) (p : Place) (s : Failure) (depth_left nodes_left : ℕ) → o ≡ with_primes k (form_in fm σ d) → tuple_parts fm ≡ Some us
    → FailsBy (total nodes) (highest depth) depth_left nodes_left s (each_of (kept_part k p σ d) us.now.items) → Fails (depth_left + 1) (nodes_left + 1) s (o >>= unchanged p)
tuple_fails o fm us σ d k p s depth_left nodes_left h t g =
    rw (tuple_kept o fm us σ d k p h t) (node_fails (total nodes) (highest depth) (λ xs. kept p (exprs xs)) s (each_of (kept_part k p σ d) us.now.items) depth_left nodes_left (kept_larger p) g)

pub tuple_gives : (o : Option Expr) (fm : Form) (us : Bor (Vec syntax.Expr Global)) (σ : Scope) (d : ℕ) (k : Primes) (p : Place) (xs : List Expr) (c : Expr) (rest depth_left nodes_left : ℕ) → o ≡ with_primes k (form_in fm σ d) → tuple_parts fm ≡ Some us
    → Makes (total nodes) (highest depth) depth_left nodes_left rest xs (each_of (kept_part k p σ d) us.now.items) → c ≡ kept p (exprs xs) → Given (o >>= unchanged p) c rest (nodes_left + 1) (depth_left + 1)
tuple_gives o fm us σ d k p xs c rest depth_left nodes_left h t g e =
    rw (tuple_kept o fm us σ d k p h t) (node_gives (total nodes) (highest depth) (λ ys. kept p (exprs ys)) (each_of (kept_part k p σ d) us.now.items) xs c depth_left nodes_left rest (kept_larger p) g e)

-- an equation
pub equal_fails : (o : Option Expr) (k m : Primes) (p : Place) (s : Failure) (depth_left nodes_left : ℕ) → Plain (with_primes k o) → m ≡ one_more k
    → FailsBy (sum_of nodes nodes) (larger_of depth depth) depth_left nodes_left s (both (with_primes m o) (with_primes k o)) → Fails (depth_left + 1) (nodes_left + 1) s (with_primes k o >>= unchanged p)
equal_fails o k m p s depth_left nodes_left h e g =
    rw (kept_equal k o p h, sym e) (node_fails (sum_of nodes nodes) (larger_of depth depth) (λ (xy : Expr × Expr). equal p xy.0 xy.1) s (both (with_primes m o) (with_primes k o)) depth_left nodes_left (two_larger twos.Equal p) g)

pub equal_gives : (o : Option Expr) (k m : Primes) (p : Place) (x : Expr × Expr) (z : Expr) (rest depth_left nodes_left : ℕ) → Plain (with_primes k o) → m ≡ one_more k
    → Makes (sum_of nodes nodes) (larger_of depth depth) depth_left nodes_left rest x (both (with_primes m o) (with_primes k o)) → z ≡ equal p x.0 x.1 → Given (with_primes k o >>= unchanged p) z rest (nodes_left + 1) (depth_left + 1)
equal_gives o k m p x z rest depth_left nodes_left h e g q =
    rw (kept_equal k o p h, sym e) (node_gives (sum_of nodes nodes) (larger_of depth depth) (λ (xy : Expr × Expr). equal p xy.0 xy.1) (both (with_primes m o) (with_primes k o)) x z depth_left nodes_left rest (two_larger twos.Equal p) g q)
