-- The nodes of forms: their primes, and what they add in nodes and depth.
use Rattle.std.proofs.Common.{◌≡◌, ℕ, ◌+◌, true, false, max, List, ◌∷◌, refl, ap, ◌∙◌, arith, Option, Some, None}
use Rattle.std.specs.Prelude.{nat_le, if◌then◌else◌}
use Rattle.tla_core.specs.declared.fault.Place.{Place}
use Rattle.tla_core.specs.Expr.{Expr, Exprs, Fields, Arms, Updates, conjunction, disjunction, cases, image, function, product, except, constant, no_exprs, more_exprs, no_arms, other}
use Rattle.tla_model.specs.Size.{nodes, depth, nodes_each, depth_each, nodes_fields, depth_fields}
use Rattle.tla_value.specs.Tree as value
use Rattle.tla_tree.specs.declared.tree.Constant.{Constant}
use Rattle.tla_tree.specs.declared.tree.Constant.TheVariants.{True, False, Boolean, String}
use Rattle.tla_scopes.specs.declared.primes.Primes.{Primes}
use Rattle.tla_scopes.specs.declared.nodes.Leaf.{Leaf}
use Rattle.tla_scopes.specs.declared.nodes.Leaf.TheVariants as leaves
use Rattle.tla_scopes.specs.declared.nodes.UnaryNode.{UnaryNode}
use Rattle.tla_scopes.specs.declared.nodes.UnaryNode.TheVariants as ones
use Rattle.tla_scopes.specs.declared.nodes.BinaryNode.{BinaryNode}
use Rattle.tla_scopes.specs.declared.nodes.BinaryNode.TheVariants as twos
use Rattle.tla_scopes.specs.declared.nodes.TernaryNode.{TernaryNode}
use Rattle.tla_scopes.specs.declared.nodes.TernaryNode.TheVariants as threes
use Rattle.tla_scopes.specs.declared.nodes.ListNode.{ListNode}
use Rattle.tla_scopes.specs.declared.nodes.ListNode.TheVariants as manies
use Rattle.tla_scopes.specs.declared.nodes.Binding.{Binding}
use Rattle.tla_scopes.specs.declared.nodes.Binding.TheVariants as bindings
use Rattle.tla_scopes.specs.declared.nodes.Gather.{Gather}
use Rattle.tla_scopes.specs.declared.nodes.Gather.TheVariants as gathers
use Rattle.tla_scopes.specs.declared.nodes.Fielded.{Fielded}
use Rattle.tla_scopes.specs.declared.nodes.Fielded.TheVariants as fieldeds
use Rattle.tla_scopes.specs.Maybe.{◌>>=◌, each_of}
use Rattle.tla_scopes.specs.Lists.{exprs, arms_with, fields_of, updates_of}
use Rattle.tla_scopes.specs.Primes.{primes, primes_each, primes_fields, primes_arms, primes_updates}
use Rattle.tla_scopes.specs.Nodes.{leaf, constant_of, one, two, three, many, binding, gather, fielded, kept}
use Rattle.tla_expand.specs.Private.Gives.{both, sum_of, larger_of, total, highest, field_nodes, field_depth, update_nodes, update_depth}
use Rattle.tla_scopes.specs.Primes.{with_primes}
use Rattle.tla_scopes.proofs.Primed as primed
use Rattle.tla_expand.proofs.Sizes.{IsLarger}
use Rattle.tla_expand.proofs.Lists.{nodes_exprs, depth_exprs, nodes_arms_of, depth_arms_of, primes_exprs}
use Rattle.tla_expand.proofs.NamedParts.{nodes_fields_of, depth_fields_of, nodes_updates_of, depth_updates_of}

number_shown : (k : Primes) (p : Place) (b : _) (n : value.Tree) → with_primes k (if b then Some (constant p n) else None) ≡ (if b then Some (constant p n) else None)
number_shown k p true n = refl
number_shown k p false n = refl

word_shown : (k : Primes) (p : Place) (c : Constant) → primes k (constant_of p c) ≡ Some (constant_of p c)
word_shown k p True = refl
word_shown k p False = refl
word_shown k p Boolean = refl
word_shown k p String = refl

-- no prime changes a node without parts
pub leaf_shown : (k : Primes) (l : Leaf) (p : Place) → with_primes k (leaf l p) ≡ leaf l p
leaf_shown k (leaves.Number n) p = number_shown k p (nat_le n 9223372036854775807) _
leaf_shown k (leaves.Text w) p = refl
leaf_shown k (leaves.Word c) p = word_shown k p c
leaf_shown k (leaves.Bound i) p = refl
leaf_shown k (leaves.Value v) p = refl
leaf_shown k (leaves.Kinds t) p = refl

abbrev pub IsAbove : Expr → ℕ → ℕ → Type 0
IsAbove e n d = (nodes e ≡ n + 1) × (depth e ≡ d + 1)

-- nodes of one part
pub one_primed : (f : UnaryNode) (k : Primes) (p : Place) (x : Expr) → primes k (one f p x) ≡ (primes k x >>= λ y. Some (one f p y))
one_primed (ones.Unary u) k p x = refl
one_primed ones.Power k p x = refl
one_primed ones.Sequences k p x = refl
one_primed (ones.Field w) k p x = refl

pub one_shown : (f : UnaryNode) (k : Primes) (p : Place) (o : Option Expr) → with_primes k (o >>= λ x. Some (one f p x)) ≡ (with_primes k o >>= λ x. Some (one f p x))
one_shown f k p o = primed.one (λ x. one f p x) (primes k) (primes k) (one_primed f k p) o

-- nodes of two parts
nest : (a b : Option Expr) (f : Exprs → Expr)
    → ((a >>= λ u. (b >>= λ v. Some (more_exprs v no_exprs)) >>= λ us. Some (more_exprs u us)) >>= λ es. Some (f es)) ≡ (a >>= λ u. b >>= λ v. Some (f (more_exprs u (more_exprs v no_exprs))))
nest None b f = refl
nest (Some x) None f = refl
nest (Some x) (Some y) f = refl

pub two_primed : (f : BinaryNode) (k : Primes) (p : Place) (x y : Expr) → primes k (two f p x y) ≡ (primes k x >>= λ u. primes k y >>= λ v. Some (two f p u v))
two_primed (twos.Binary b) k p x y = refl
two_primed twos.Apply k p x y = refl
two_primed twos.Equal k p x y = refl
two_primed twos.Implies k p x y = refl
two_primed twos.And k p x y = nest (primes k x) (primes k y) (λ es. conjunction p es)
two_primed twos.Or k p x y = nest (primes k x) (primes k y) (λ es. disjunction p es)
two_primed twos.Member k p x y = refl
two_primed twos.NotMember k p x y = refl
two_primed twos.Subset k p x y = refl
two_primed twos.Cup k p x y = refl
two_primed twos.Cap k p x y = refl
two_primed twos.Minus k p x y = refl
two_primed twos.Assert k p x y = refl
two_primed twos.Functions k p x y = refl

two_nodes : (f : BinaryNode) (p : Place) (x y : Expr) → IsAbove (two f p x y) (nodes x + nodes y) (max (depth x) (depth y))
two_nodes (twos.Binary b) p x y = (refl, refl)
two_nodes twos.Apply p x y = (refl, refl)
two_nodes twos.Equal p x y = (refl, refl)
two_nodes twos.Implies p x y = (refl, refl)
two_nodes twos.And p x y = (omega arith, omega arith)
two_nodes twos.Or p x y = (omega arith, omega arith)
two_nodes twos.Member p x y = (refl, refl)
two_nodes twos.NotMember p x y = (refl, refl)
two_nodes twos.Subset p x y = (refl, refl)
two_nodes twos.Cup p x y = (refl, refl)
two_nodes twos.Cap p x y = (refl, refl)
two_nodes twos.Minus p x y = (refl, refl)
two_nodes twos.Assert p x y = (refl, refl)
two_nodes twos.Functions p x y = (refl, refl)

pub two_larger : (f : BinaryNode) (p : Place) → IsLarger (sum_of nodes nodes) (larger_of depth depth) (λ (xy : Expr × Expr). two f p xy.0 xy.1)
two_larger f p = record { nodes_more = λ xy. (two_nodes f p xy.0 xy.1).0; depth_more = λ xy. (two_nodes f p xy.0 xy.1).1 }

-- parts one after the other are a pair of parts
pub of_both : (f : Expr → Expr → Expr) (a b : Option Expr) → (a >>= λ x. b >>= λ y. Some (f x y)) ≡ (both a b >>= λ (xy : Expr × Expr). Some (f xy.0 xy.1))
of_both f None b = refl
of_both f (Some x) None = refl
of_both f (Some x) (Some y) = refl

pub two_shown : (f : BinaryNode) (k : Primes) (p : Place) (a b : Option Expr)
    → with_primes k (a >>= λ x. b >>= λ y. Some (two f p x y)) ≡ (both (with_primes k a) (with_primes k b) >>= λ (xy : Expr × Expr). Some (two f p xy.0 xy.1))
two_shown f k p a b = primed.two (λ x y. two f p x y) (primes k) (primes k) (primes k) (two_primed f k p) a b ∙ of_both (two f p) (with_primes k a) (with_primes k b)

-- a set and a body
pub binding_primed : (f : Binding) (k : Primes) (p : Place) (x y : Expr) → primes k (binding f p x y) ≡ (primes k x >>= λ u. primes k y >>= λ v. Some (binding f p u v))
binding_primed bindings.ForAll k p x y = refl
binding_primed bindings.ForSome k p x y = refl
binding_primed bindings.Choose k p x y = refl
binding_primed bindings.Filter k p x y = refl

binding_nodes : (f : Binding) (p : Place) (x y : Expr) → IsAbove (binding f p x y) (nodes x + nodes y) (max (depth x) (depth y))
binding_nodes bindings.ForAll p x y = (refl, refl)
binding_nodes bindings.ForSome p x y = (refl, refl)
binding_nodes bindings.Choose p x y = (refl, refl)
binding_nodes bindings.Filter p x y = (refl, refl)

pub binding_larger : (f : Binding) (p : Place) → IsLarger (sum_of nodes nodes) (larger_of depth depth) (λ (xy : Expr × Expr). binding f p xy.0 xy.1)
binding_larger f p = record { nodes_more = λ xy. (binding_nodes f p xy.0 xy.1).0; depth_more = λ xy. (binding_nodes f p xy.0 xy.1).1 }

pub binding_shown : (f : Binding) (k : Primes) (p : Place) (a b : Option Expr)
    → with_primes k (a >>= λ x. b >>= λ y. Some (binding f p x y)) ≡ (both (with_primes k a) (with_primes k b) >>= λ (xy : Expr × Expr). Some (binding f p xy.0 xy.1))
binding_shown f k p a b = primed.two (λ x y. binding f p x y) (primes k) (primes k) (primes k) (binding_primed f k p) a b ∙ of_both (binding f p) (with_primes k a) (with_primes k b)

-- nodes of three parts
pub three_primed : (f : TernaryNode) (k : Primes) (p : Place) (x y z : Expr) → primes k (three f p x y z) ≡ (primes k x >>= λ u. primes k y >>= λ v. primes k z >>= λ w. Some (three f p u v w))
three_primed threes.If k p x y z = refl
three_primed threes.SubSeq k p x y z = refl

abbrev pub Triple : Type 0
Triple = (Expr × Expr) × Expr

three_nodes : (f : TernaryNode) (p : Place) (x y z : Expr) → IsAbove (three f p x y z) (nodes x + nodes y + nodes z) (max (max (depth x) (depth y)) (depth z))
three_nodes threes.If p x y z = (omega arith, omega arith)
three_nodes threes.SubSeq p x y z = (omega arith, omega arith)

pub three_larger : (f : TernaryNode) (p : Place) → IsLarger (sum_of (sum_of nodes nodes) nodes) (larger_of (larger_of depth depth) depth) (λ (t : Triple). three f p t.0.0 t.0.1 t.1)
three_larger f p = record { nodes_more = λ t. (three_nodes f p t.0.0 t.0.1 t.1).0; depth_more = λ t. (three_nodes f p t.0.0 t.0.1 t.1).1 }

of_three : (f : Expr → Expr → Expr → Expr) (a b c : Option Expr)
    → (a >>= λ x. b >>= λ y. c >>= λ z. Some (f x y z)) ≡ (both (both a b) c >>= λ (t : Triple). Some (f t.0.0 t.0.1 t.1))
of_three f None b c = refl
of_three f (Some x) None c = refl
of_three f (Some x) (Some y) None = refl
of_three f (Some x) (Some y) (Some z) = refl

pub three_shown : (f : TernaryNode) (k : Primes) (p : Place) (a b c : Option Expr)
    → with_primes k (a >>= λ x. b >>= λ y. c >>= λ z. Some (three f p x y z)) ≡ (both (both (with_primes k a) (with_primes k b)) (with_primes k c) >>= λ (t : Triple). Some (three f p t.0.0 t.0.1 t.1))
three_shown f k p a b c = primed.three (λ x y z. three f p x y z) (primes k) (primes k) (primes k) (primes k) (three_primed f k p) a b c ∙ of_three (three f p) (with_primes k a) (with_primes k b) (with_primes k c)

-- nodes of a list of parts
pub many_primed : (f : ListNode) (k : Primes) (p : Place) (xs : Exprs) → primes k (many f p xs) ≡ (primes_each k xs >>= λ ys. Some (many f p ys))
many_primed manies.Set k p xs = refl
many_primed manies.Tuple k p xs = refl
many_primed manies.And k p xs = refl
many_primed manies.Or k p xs = refl
many_primed manies.Product k p xs = refl

many_nodes : (f : ListNode) (p : Place) (xs : Exprs) → IsAbove (many f p xs) (nodes_each xs) (depth_each xs)
many_nodes manies.Set p xs = (refl, refl)
many_nodes manies.Tuple p xs = (refl, refl)
many_nodes manies.And p xs = (refl, refl)
many_nodes manies.Or p xs = (refl, refl)
many_nodes manies.Product p xs = (refl, refl)

pub many_larger : (f : ListNode) (p : Place) → IsLarger (total nodes) (highest depth) (λ xs. many f p (exprs xs))
many_larger f p = record {
  nodes_more = λ xs. (many_nodes f p (exprs xs)).0 ∙ ap (λ n. n + 1) (nodes_exprs xs);
  depth_more = λ xs. (many_nodes f p (exprs xs)).1 ∙ ap (λ n. n + 1) (depth_exprs xs);
}

many_in : (f : ListNode) (p : Place) (o : Option (List Expr)) → ((o >>= λ xs. Some (exprs xs)) >>= λ xs. Some (many f p xs)) ≡ (o >>= λ xs. Some (many f p (exprs xs)))
many_in f p None = refl
many_in f p (Some xs) = refl

pub many_shown : (f : ListNode) (k : Primes) (p : Place) (o : Option Exprs) (parts : Option (List Expr)) → (o >>= primes_each k) ≡ (parts >>= λ xs. Some (exprs xs))
    → with_primes k (o >>= λ xs. Some (many f p xs)) ≡ (parts >>= λ xs. Some (many f p (exprs xs)))
many_shown f k p o parts h = primed.one (λ xs. many f p xs) (primes_each k) (primes k) (many_primed f k p) o ∙ ap (λ (q : Option Exprs). q >>= λ xs. Some (many f p xs)) h ∙ many_in f p parts

kept_nodes : (p : Place) (xs : Exprs) → IsAbove (kept p xs) (nodes_each xs) (depth_each xs)
kept_nodes p no_exprs = (refl, refl)
kept_nodes p (more_exprs x xs) = (refl, refl)

pub kept_larger : (p : Place) → IsLarger (total nodes) (highest depth) (λ xs. kept p (exprs xs))
kept_larger p = record {
  nodes_more = λ xs. (kept_nodes p (exprs xs)).0 ∙ ap (λ n. n + 1) (nodes_exprs xs);
  depth_more = λ xs. (kept_nodes p (exprs xs)).1 ∙ ap (λ n. n + 1) (depth_exprs xs);
}

-- CASE
pub cases_larger : (p : Place) → IsLarger (total (sum_of nodes nodes)) (highest (larger_of depth depth)) (λ xs. cases p (arms_with xs no_arms))
cases_larger p = record { nodes_more = λ xs. omega (arith, nodes_arms_of xs no_arms); depth_more = λ xs. omega (arith, depth_arms_of xs no_arms) }

pub cases_or_larger : (p : Place)
    → IsLarger (sum_of (total (sum_of nodes nodes)) nodes) (larger_of (highest (larger_of depth depth)) depth) (λ (xs : List (Expr × Expr) × Expr). cases p (arms_with xs.0 (other xs.1)))
cases_or_larger p = record { nodes_more = λ xs. omega (arith, nodes_arms_of xs.0 (other xs.1)); depth_more = λ xs. omega (arith, depth_arms_of xs.0 (other xs.1)) }

cases_in : {A : Type 0} (p : Place) (f : A → Arms) (o : Option A) → ((o >>= λ xs. Some (f xs)) >>= λ xs. Some (cases p xs)) ≡ (o >>= λ xs. Some (cases p (f xs)))
cases_in p f None = refl
cases_in p f (Some xs) = refl

pub cases_shown : {A : Type 0} (k : Primes) (p : Place) (f : A → Arms) (o : Option Arms) (parts : Option A) → (o >>= primes_arms k) ≡ (parts >>= λ xs. Some (f xs))
    → with_primes k (o >>= λ xs. Some (cases p xs)) ≡ (parts >>= λ xs. Some (cases p (f xs)))
cases_shown k p f o parts h = primed.one (λ xs. cases p xs) (primes_arms k) (primes k) (λ xs. refl) o ∙ ap (λ (q : Option Arms). q >>= λ xs. Some (cases p xs)) h ∙ cases_in p f parts

-- sets and a body
after_exprs : (f : Exprs → Expr → Expr) (a : Option (List Expr)) (b : Option Expr) → ((a >>= λ us. Some (exprs us)) >>= λ us. b >>= λ v. Some (f us v)) ≡ (a >>= λ us. b >>= λ v. Some (f (exprs us) v))
after_exprs f None b = refl
after_exprs f (Some us) b = refl

both_none : {A : Type 0} (a : Option A) (f : A × Expr → Expr) → None ≡ (both a None >>= λ x. Some (f x))
both_none None f = refl
both_none (Some x) f = refl

of_pair : {A B : Type 0} (f : A → B → Expr) (a : Option A) (b : Option B) → (a >>= λ x. b >>= λ y. Some (f x y)) ≡ (both a b >>= λ (xy : A × B). Some (f xy.0 xy.1))
of_pair f None b = refl
of_pair f (Some x) None = refl
of_pair f (Some x) (Some y) = refl

gather_primed : (f : Gather) (k : Primes) (p : Place) (xs : List Expr) (y : Expr) → primes k (gather f p (exprs xs) y) ≡ (each_of (primes k) xs >>= λ us. primes k y >>= λ v. Some (gather f p (exprs us) v))
gather_primed gathers.Image k p xs y = rw (primes_exprs k xs) (after_exprs (λ us v. image p us v) (each_of (primes k) xs) (primes k y))
gather_primed gathers.Function k p xs y = rw (primes_exprs k xs) (after_exprs (λ us v. function p us v) (each_of (primes k) xs) (primes k y))

gather_more : (f : Gather) (k : Primes) (p : Place) (a : Option (List Expr)) (b : Option Expr)
    → ((a >>= λ xs. b >>= λ y. Some (gather f p (exprs xs) y)) >>= primes k) ≡ (both (a >>= each_of (primes k)) (b >>= primes k) >>= λ (xy : List Expr × Expr). Some (gather f p (exprs xy.0) xy.1))
gather_more f k p None b = refl
gather_more f k p (Some xs) None = both_none (each_of (primes k) xs) (λ xy. gather f p (exprs xy.0) xy.1)
gather_more f k p (Some xs) (Some y) = gather_primed f k p xs y ∙ of_pair (λ us v. gather f p (exprs us) v) (each_of (primes k) xs) (primes k y)

pub gather_shown : (f : Gather) (k : Primes) (p : Place) (a : Option (List Expr)) (b : Option Expr) (parts : Option (List Expr)) → (a >>= each_of (primes k)) ≡ parts
    → with_primes k (a >>= λ xs. b >>= λ y. Some (gather f p (exprs xs) y)) ≡ (both parts (with_primes k b) >>= λ (xy : List Expr × Expr). Some (gather f p (exprs xy.0) xy.1))
gather_shown f k p a b parts h = gather_more f k p a b ∙ ap (λ (o : Option (List Expr)). both o (with_primes k b) >>= λ (xy : List Expr × Expr). Some (gather f p (exprs xy.0) xy.1)) h

gather_nodes : (f : Gather) (p : Place) (xs : Exprs) (y : Expr) → IsAbove (gather f p xs y) (nodes_each xs + nodes y) (max (depth_each xs) (depth y))
gather_nodes gathers.Image p xs y = (refl, refl)
gather_nodes gathers.Function p xs y = (refl, refl)

pub gather_larger : (f : Gather) (p : Place) → IsLarger (sum_of (total nodes) nodes) (larger_of (highest depth) depth) (λ (xy : List Expr × Expr). gather f p (exprs xy.0) xy.1)
gather_larger f p = record {
  nodes_more = λ xy. (gather_nodes f p (exprs xy.0) xy.1).0 ∙ ap (λ n. n + nodes xy.1 + 1) (nodes_exprs xy.0);
  depth_more = λ xy. (gather_nodes f p (exprs xy.0) xy.1).1 ∙ ap (λ n. max n (depth xy.1) + 1) (depth_exprs xy.0);
}

-- fields
fielded_primed : (f : Fielded) (k : Primes) (p : Place) (fs : Fields) → primes k (fielded f p fs) ≡ (primes_fields k fs >>= λ xs. Some (fielded f p xs))
fielded_primed fieldeds.Record k p fs = refl
fielded_primed fieldeds.Records k p fs = refl

fielded_nodes : (f : Fielded) (p : Place) (fs : Fields) → IsAbove (fielded f p fs) (nodes_fields fs) (depth_fields fs)
fielded_nodes fieldeds.Record p fs = (refl, refl)
fielded_nodes fieldeds.Records p fs = (refl, refl)

pub fielded_larger : (f : Fielded) (p : Place) → IsLarger (total field_nodes) (highest field_depth) (λ xs. fielded f p (fields_of xs))
fielded_larger f p = record {
  nodes_more = λ xs. (fielded_nodes f p (fields_of xs)).0 ∙ ap (λ n. n + 1) (nodes_fields_of xs);
  depth_more = λ xs. (fielded_nodes f p (fields_of xs)).1 ∙ ap (λ n. n + 1) (depth_fields_of xs);
}

fielded_in : (f : Fielded) (p : Place) (o : Option (List (List ℕ × Expr))) → ((o >>= λ xs. Some (fields_of xs)) >>= λ xs. Some (fielded f p xs)) ≡ (o >>= λ xs. Some (fielded f p (fields_of xs)))
fielded_in f p None = refl
fielded_in f p (Some xs) = refl

pub fielded_shown : (f : Fielded) (k : Primes) (p : Place) (o : Option Fields) (parts : Option (List (List ℕ × Expr))) → (o >>= primes_fields k) ≡ (parts >>= λ xs. Some (fields_of xs))
    → with_primes k (o >>= λ xs. Some (fielded f p xs)) ≡ (parts >>= λ xs. Some (fielded f p (fields_of xs)))
fielded_shown f k p o parts h = primed.one (λ xs. fielded f p xs) (primes_fields k) (primes k) (fielded_primed f k p) o ∙ ap (λ (q : Option Fields). q >>= λ xs. Some (fielded f p xs)) h ∙ fielded_in f p parts

-- a product
pub product_larger : (p : Place) → IsLarger (sum_of nodes (total nodes)) (larger_of depth (highest depth)) (λ (xs : Expr × List Expr). product p (exprs (xs.0 ∷ xs.1)))
product_larger p = record { nodes_more = λ xs. omega (arith, nodes_exprs xs.1); depth_more = λ xs. omega (arith, depth_exprs xs.1) }

product_in : (p : Place) (a : Option Expr) (o : Option (List Expr))
    → (a >>= λ x. (o >>= λ xs. Some (exprs xs)) >>= λ xs. Some (product p (more_exprs x xs))) ≡ (both a o >>= λ (xs : Expr × List Expr). Some (product p (exprs (xs.0 ∷ xs.1))))
product_in p None o = refl
product_in p (Some x) None = refl
product_in p (Some x) (Some xs) = refl

product_primed : (k : Primes) (p : Place) (x : Expr) (xs : Exprs) → primes k (product p (more_exprs x xs)) ≡ (primes k x >>= λ u. primes_each k xs >>= λ us. Some (product p (more_exprs u us)))
product_primed k p x xs = nested_parts (primes k x) (primes_each k xs)
  where
    nested_parts : (a : Option Expr) (o : Option Exprs) → ((a >>= λ u. o >>= λ us. Some (more_exprs u us)) >>= λ us. Some (product p us)) ≡ (a >>= λ u. o >>= λ us. Some (product p (more_exprs u us)))
    nested_parts None o = refl
    nested_parts (Some u) None = refl
    nested_parts (Some u) (Some us) = refl

pub product_shown : (k : Primes) (p : Place) (a : Option Expr) (o : Option Exprs) (parts : Option (List Expr)) → (o >>= primes_each k) ≡ (parts >>= λ xs. Some (exprs xs))
    → with_primes k (a >>= λ x. o >>= λ xs. Some (product p (more_exprs x xs))) ≡ (both (with_primes k a) parts >>= λ (xs : Expr × List Expr). Some (product p (exprs (xs.0 ∷ xs.1))))
product_shown k p a o parts h =
    primed.two (λ x xs. product p (more_exprs x xs)) (primes k) (primes_each k) (primes k) (product_primed k p) a o
    ∙ ap (λ (q : Option Exprs). with_primes k a >>= λ x. q >>= λ xs. Some (product p (more_exprs x xs))) h ∙ product_in p (with_primes k a) parts

-- EXCEPT
pub except_larger : (p : Place) → IsLarger (sum_of nodes (total update_nodes)) (larger_of depth (highest update_depth)) (λ (xs : Expr × List (List Expr × Expr)). except p xs.0 (updates_of xs.1))
except_larger p = record { nodes_more = λ xs. omega (arith, nodes_updates_of xs.1); depth_more = λ xs. omega (arith, depth_updates_of xs.1) }

except_in : (p : Place) (a : Option Expr) (o : Option (List (List Expr × Expr)))
    → (a >>= λ x. (o >>= λ us. Some (updates_of us)) >>= λ us. Some (except p x us)) ≡ (both a o >>= λ (xs : Expr × List (List Expr × Expr)). Some (except p xs.0 (updates_of xs.1)))
except_in p None o = refl
except_in p (Some x) None = refl
except_in p (Some x) (Some us) = refl

pub except_shown : (k : Primes) (p : Place) (a : Option Expr) (o : Option Updates) (parts : Option (List (List Expr × Expr))) → (o >>= primes_updates k) ≡ (parts >>= λ us. Some (updates_of us))
    → with_primes k (a >>= λ x. o >>= λ us. Some (except p x us)) ≡ (both (with_primes k a) parts >>= λ (xs : Expr × List (List Expr × Expr)). Some (except p xs.0 (updates_of xs.1)))
except_shown k p a o parts h =
    primed.two (λ x us. except p x us) (primes k) (primes_updates k) (primes k) (λ x us. refl) a o
    ∙ ap (λ (q : Option Updates). with_primes k a >>= λ x. q >>= λ us. Some (except p x us)) h ∙ except_in p (with_primes k a) parts
