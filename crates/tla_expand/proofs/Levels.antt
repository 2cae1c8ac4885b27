-- What isn't there under some primes isn't there under more, nor with UNCHANGED or as a subscript; and what fails
-- there fails in the whole.
use Rattle.std.proofs.Common.{◌≡◌, ◌≤◌, ℕ, ◌+◌, true, false, refl, ap, sym, ◌∙◌, arith, subst, map, Option, Some, None, Bor, Vec, Global}
use Rattle.tla_core.specs.declared.fault.Place.{Place}
use Rattle.tla_core.specs.declared.expression.Binary.TheVariants.{Unequal}
use Rattle.tla_core.specs.Expr.{Expr, equal}
use Rattle.tla_model.specs.Size.{nodes, depth, IsWithinLimits}
use Rattle.tla_tree.specs.declared.tree.Expr as syntax
use Rattle.tla_tree.specs.View.{view}
use Rattle.tla_tree.specs.Tree.{trees}
use Rattle.tla_scopes.specs.declared.failure.Failure.{Failure}
use Rattle.tla_scopes.specs.declared.failure.Failure.TheVariants.{NoExpansion, TooLarge, Memory}
use Rattle.tla_scopes.specs.declared.nodes.Form.{Form}
use Rattle.tla_scopes.specs.declared.nodes.Form.TheVariants as form
use Rattle.tla_scopes.specs.declared.nodes.ListNode.{ListNode}
use Rattle.tla_scopes.specs.declared.nodes.ListNode.TheVariants as manies
use Rattle.tla_scopes.specs.declared.nodes.BinaryNode.TheVariants as twos
use Rattle.tla_scopes.specs.declared.primes.Primes.{Primes}
use Rattle.tla_scopes.specs.declared.primes.Primes.TheVariants.{Never, Once, Twice}
use Rattle.tla_scopes.specs.Maybe.{◌>>=◌, each_of}
use Rattle.tla_scopes.specs.Expand.{expand_each}
use Rattle.tla_scopes.specs.Lists.{exprs}
use Rattle.tla_scopes.specs.Meanings.{Scope, Argument}
use Rattle.tla_scopes.specs.Nodes.{two, many}
use Rattle.tla_scopes.specs.Primes.{primes, with_primes, settled_primes, are_fewer, one_more}
use Rattle.tla_scopes.specs.Unchanged.{unchanged}
use Rattle.tla_scopes.specs.Forms.{form_in, tuple_of, tuple_parts}
use Rattle.tla_expand.specs.Private.Gives.{SaysNone, Fails, FailsBy, Plain, is_tuple, both, part_in, total, highest}
use Rattle.tla_scopes.specs.Reductions.{Explains}
use Rattle.tla_scopes.proofs.Primed.{once, unprimed}
use Rattle.tla_expand.proofs.Keeps.{inv}
use Rattle.tla_expand.proofs.Kept.{unchanged_plain}
use Rattle.tla_expand.proofs.PrimesSize.{primes_sizes}
use Rattle.tla_expand.proofs.Larger.{unchanged_larger}
use Rattle.tla_expand.proofs.Lists.{each_in}
use Rattle.tla_expand.proofs.Made.{many_larger, many_shown}
use Rattle.tla_expand.proofs.Sizes.{node_fails}

none_bare : (k : Primes) (e : Expr) → primes Never e ≡ None → primes k e ≡ None
none_bare k e h = let q = sym (unprimed e) ∙ h in cc

none_twice : (e : Expr) → primes Once e ≡ None → primes Twice e ≡ None
none_twice e h = sym (once Once e) ∙ rw h refl

pub none_more : (j k : Primes) (o : Option Expr) → are_fewer j k ≡ true → with_primes j o ≡ None → with_primes k o ≡ None
none_more j k None f h = refl
none_more Never k (Some e) f h = none_bare k e h
none_more Once Never (Some e) f h = cc
none_more Once Once (Some e) f h = cc
none_more Once Twice (Some e) f h = none_twice e h
none_more Twice k (Some e) f h = cc

pub none_settled : (k : Primes) (o : Option Expr) → with_primes k o ≡ None → with_primes (settled_primes k) o ≡ None
none_settled Never o h = h
none_settled Once o h = none_more Once Twice o refl h
none_settled Twice o h = h

-- A look that fails says why the whole does: primes leave it as large as it was.
of_fewer : (j k : Primes) (e y : Expr) (u : Option Expr) (depth_left nodes_left : ℕ) → are_fewer j k ≡ true → primes j e ≡ u → ((x : Expr) → u ≡ Some x → nodes x ≤ nodes_left → depth x ≤ depth_left → ⊥)
    → primes k e ≡ Some y → nodes y ≤ nodes_left → depth y ≤ depth_left → ⊥
of_fewer j k e y None depth_left nodes_left q r h p n d = let z : Some y ≡ None = sym p ∙ none_more j k (Some e) q r in cc
of_fewer j k e y (Some x) depth_left nodes_left q r h p n d =
    let a = primes_sizes j e x r in
    let b = primes_sizes k e y p in
    h x refl (omega (arith, a.0, b.0, n)) (omega (arith, a.1, b.1, d))

look_large : (j k : Primes) (o : Option Expr) (depth_left nodes_left : ℕ) → are_fewer j k ≡ true → ((x : Expr) → with_primes j o ≡ Some x → nodes x ≤ nodes_left → depth x ≤ depth_left → ⊥)
    → (y : Expr) → with_primes k o ≡ Some y → nodes y ≤ nodes_left → depth y ≤ depth_left → ⊥
look_large j k None depth_left nodes_left q h y p n d = cc
look_large j k (Some e) depth_left nodes_left q h y p n d = of_fewer j k e y (primes j e) depth_left nodes_left q refl h p n d

pub look_fails : (j k : Primes) (f : Failure) (o : Option Expr) (depth_left nodes_left : ℕ) → are_fewer j k ≡ true → Fails depth_left nodes_left f (with_primes j o) → Fails depth_left nodes_left f (with_primes k o)
look_fails j k (NoExpansion p) o depth_left nodes_left q h = none_more j k o q h
look_fails j k TooLarge o depth_left nodes_left q h = look_large j k o depth_left nodes_left q h
look_fails j k Memory o depth_left nodes_left q h = tt

pub unchanged_fails : (k : Primes) (f : Failure) (p : Place) (o : Option Expr) (depth_left nodes_left : ℕ) → SaysNone f (with_primes k o) → Fails depth_left nodes_left f (with_primes (settled_primes k) o >>= unchanged p)
unchanged_fails k (NoExpansion q) p o depth_left nodes_left h = rw (none_settled k o h) refl
unchanged_fails k TooLarge p o depth_left nodes_left h = absurd h
unchanged_fails k Memory p o depth_left nodes_left h = tt

pub explains_none : (f : Failure) (e : Argument) (d : ℕ) → Explains f e → SaysNone f (e d)
explains_none (NoExpansion p) e d h = h d
explains_none TooLarge e d h = h
explains_none Memory e d h = tt

-- what there was before it was UNCHANGED: as it was read for that, and under its own primes
record WasRead (k : Primes) (p : Place) (o : Option Expr) (y : Expr) : Type 0 where
  read : Expr
  before : Expr
  kept : unchanged p read ≡ Some y
  shown : with_primes k o ≡ Some before
  small : nodes before ≡ nodes read
  shallow : depth before ≡ depth read
  alike : is_tuple before ≡ is_tuple read

was_before : (k : Primes) (p : Place) (e r y : Expr) (u : Option Expr) → primes (settled_primes k) e ≡ Some r → unchanged p r ≡ Some y → primes k e ≡ u → WasRead k p (Some e) y
was_before k p e r y None s h q = let z : Some r ≡ None = sym s ∙ none_settled k (Some e) q in let no : ⊥ = cc in absurd no
was_before k p e r y (Some x) s h q =
    let a = primes_sizes k e x q in
    let b = primes_sizes (settled_primes k) e r s in
    record {
      read = r;
      before = x;
      kept = h;
      shown = q;
      small = a.0 ∙ sym b.0;
      shallow = a.1 ∙ sym b.1;
      alike = a.2 ∙ sym b.2;
    }

was_read : (k : Primes) (p : Place) (o : Option Expr) (y : Expr) → (with_primes (settled_primes k) o >>= unchanged p) ≡ Some y → WasRead k p o y
was_read k p None y h = let no : ⊥ = cc in absurd no
was_read k p (Some e) y h =
    let i = inv (primes (settled_primes k) e) (unchanged p) y h in
    was_before k p e i.0 y (primes k e) i.1 i.2 refl

-- UNCHANGED of a tuple is no smaller than the tuple
pub tuple_operand_fails : (k : Primes) (f : Failure) (p : Place) (o : Option Expr) (depth_left nodes_left : ℕ) → Fails depth_left nodes_left f (with_primes k o) → Fails depth_left nodes_left f (with_primes (settled_primes k) o >>= unchanged p)
tuple_operand_fails k (NoExpansion q) p o depth_left nodes_left h = rw (none_settled k o h) refl
tuple_operand_fails k TooLarge p o depth_left nodes_left h = λ y e n d.
    let r = was_read k p o y e in
    let l = unchanged_larger p r.read y r.kept in
    h r.before r.shown (omega (arith, r.small, l.0, n)) (omega (arith, r.shallow, l.1, d))
tuple_operand_fails k Memory p o depth_left nodes_left h = tt

-- and that of anything else has a node more
pub plain_operand_fails : (k : Primes) (f : Failure) (p : Place) (o : Option Expr) (depth_left nodes_left : ℕ) → Plain (with_primes k o) → Fails depth_left nodes_left f (with_primes k o)
    → Fails (depth_left + 1) (nodes_left + 1) f (with_primes (settled_primes k) o >>= unchanged p)
plain_operand_fails k (NoExpansion q) p o depth_left nodes_left plain h = rw (none_settled k o h) refl
plain_operand_fails k TooLarge p o depth_left nodes_left plain h = λ y e n d.
    let r = was_read k p o y e in
    let bare : is_tuple r.read ≡ false = sym r.alike ∙ plain r.before r.shown in
    let i = inv (primes Once r.read) (λ x. Some (equal p x r.read)) y (sym (unchanged_plain p r.read bare) ∙ r.kept) in
    let same : equal p i.0 r.read ≡ y = cc in
    let small = ap nodes same in
    let shallow = ap depth same in
    h r.before r.shown (omega (arith, r.small, small, n)) (omega (arith, r.shallow, shallow, d))
plain_operand_fails k Memory p o depth_left nodes_left plain h = tt

-- a subscript that is looked at
none_after : (a b : Option Expr) → b ≡ None → both a b ≡ None
none_after None b h = refl
none_after (Some x) b h = rw h refl

pub changed_fails : (k : Primes) (f : Failure) (p : Place) (o : Option Expr) (depth_left nodes_left : ℕ) → Fails depth_left nodes_left f (with_primes k o)
    → Fails depth_left nodes_left f (both (with_primes (one_more k) o) (with_primes k o) >>= λ (xy : Expr × Expr). Some (two (twos.Binary Unequal) p xy.0 xy.1))
changed_fails k (NoExpansion q) p o depth_left nodes_left h = rw (none_after (with_primes (one_more k) o) (with_primes k o) h) refl
changed_fails k TooLarge p o depth_left nodes_left h = λ y e n d.
    let a = with_primes (one_more k) o in
    let b = with_primes k o in
    let i = inv (both a b) (λ (xy : Expr × Expr). Some (two (twos.Binary Unequal) p xy.0 xy.1)) y e in
    let j = inv a (λ (x : Expr). b >>= λ (z : Expr). Some (x, z)) i.0 i.1 in
    let l = inv b (λ (z : Expr). Some (j.0, z)) i.0 j.2 in
    let pair : (j.0, l.0) ≡ i.0 = cc in
    let second = ap (λ (xy : Expr × Expr). xy.1) pair in
    let same : two (twos.Binary Unequal) p i.0.0 i.0.1 ≡ y = cc in
    let small = ap nodes same in
    let shallow = ap depth same in
    h l.0 l.1 (omega (arith, small, ap nodes second, n)) (omega (arith, shallow, ap depth second, d))
changed_fails k Memory p o depth_left nodes_left h = tt

-- the parts of a tuple that are looked at
many_looked : (q : Place) (f : ListNode) (ts us : Bor (Vec syntax.Expr Global)) (σ : Scope) (d : ℕ) (k : Primes) (s : Failure) (depth_left nodes_left : ℕ) → tuple_of f ts ≡ Some us
    → FailsBy (total nodes) (highest depth) depth_left nodes_left s (each_of (part_in k σ d) us.now.items) → Fails (depth_left + 1) (nodes_left + 1) s (with_primes k (form_in (form.Many q f ts) σ d))
many_looked q manies.Tuple ts us σ d k s depth_left nodes_left t h =
    let same : ts ≡ us = cc in
    rw (same, many_shown manies.Tuple k q (expand_each (trees (map view us.now.items)) σ d) (each_of (part_in k σ d) us.now.items) (each_in k us.now.items σ d))
    (node_fails (total nodes) (highest depth) (λ xs. many manies.Tuple q (exprs xs)) s (each_of (part_in k σ d) us.now.items) depth_left nodes_left (many_larger manies.Tuple q) h)
many_looked q manies.Set ts us σ d k s depth_left nodes_left t h = let no : ⊥ = cc in absurd no
many_looked q manies.And ts us σ d k s depth_left nodes_left t h = let no : ⊥ = cc in absurd no
many_looked q manies.Or ts us σ d k s depth_left nodes_left t h = let no : ⊥ = cc in absurd no
many_looked q manies.Product ts us σ d k s depth_left nodes_left t h = let no : ⊥ = cc in absurd no

pub tuple_looked : (fm : Form) (us : Bor (Vec syntax.Expr Global)) (σ : Scope) (d : ℕ) (k : Primes) (s : Failure) (depth_left nodes_left : ℕ) → tuple_parts fm ≡ Some us
    → FailsBy (total nodes) (highest depth) depth_left nodes_left s (each_of (part_in k σ d) us.now.items) → Fails (depth_left + 1) (nodes_left + 1) s (with_primes k (form_in fm σ d))
tuple_looked (form.Many q f ts) us σ d k s depth_left nodes_left t h = many_looked q f ts us σ d k s depth_left nodes_left t h
tuple_looked (form.Leaf q l) us σ d k s depth_left nodes_left t h = let no : ⊥ = cc in absurd no
tuple_looked (form.Variable q i) us σ d k s depth_left nodes_left t h = let no : ⊥ = cc in absurd no
tuple_looked (form.One q f a) us σ d k s depth_left nodes_left t h = let no : ⊥ = cc in absurd no
tuple_looked (form.Two q f a b) us σ d k s depth_left nodes_left t h = let no : ⊥ = cc in absurd no
tuple_looked (form.Three q f a b c) us σ d k s depth_left nodes_left t h = let no : ⊥ = cc in absurd no
tuple_looked (form.Use q u a) us σ d k s depth_left nodes_left t h = let no : ⊥ = cc in absurd no
tuple_looked (form.Headed q f a b) us σ d k s depth_left nodes_left t h = let no : ⊥ = cc in absurd no
tuple_looked (form.Cases q a b) us σ d k s depth_left nodes_left t h = let no : ⊥ = cc in absurd no
tuple_looked (form.Fields q f fs) us σ d k s depth_left nodes_left t h = let no : ⊥ = cc in absurd no
tuple_looked (form.Except q a b) us σ d k s depth_left nodes_left t h = let no : ⊥ = cc in absurd no
tuple_looked (form.Action q f a b c) us σ d k s depth_left nodes_left t h = let no : ⊥ = cc in absurd no
tuple_looked (form.Unchanged q a) us σ d k s depth_left nodes_left t h = let no : ⊥ = cc in absurd no
tuple_looked (form.Binders q f bs a) us σ d k s depth_left nodes_left t h = let no : ⊥ = cc in absurd no
tuple_looked (form.Binds q f w a b) us σ d k s depth_left nodes_left t h = let no : ⊥ = cc in absurd no

-- What is too large under its level and within the limits without one has nothing of its level.
level_none : (k : Primes) (e : Expr) (u : Option Expr) → primes k e ≡ u → IsWithinLimits e → ((x : Expr) → u ≡ Some x → IsWithinLimits x → ⊥) → u ≡ None
level_none k e None q l h = refl
level_none k e (Some x) q l h =
    let a = primes_sizes k e x q in
    absurd (h x refl (record { small = omega (arith, a.0, l.small); shallow = omega (arith, a.1, l.shallow) }))

pub too_high : (k : Primes) (o : Option Expr) (e : Expr) → with_primes Never o ≡ Some e → IsWithinLimits e → ((x : Expr) → with_primes k o ≡ Some x → IsWithinLimits x → ⊥) → with_primes k o ≡ None
too_high k None e p l h = refl
too_high k (Some t) e p l h =
    let same : t ≡ e = let q = unprimed t in cc in
    level_none k t (primes k t) refl (subst (λ x. IsWithinLimits x) (sym same) l) h

pub large_bare : (o : Option Expr) → ((x : Expr) → with_primes Never o ≡ Some x → IsWithinLimits x → ⊥) → (x : Expr) → o ≡ Some x → IsWithinLimits x → ⊥
large_bare None h x p l = cc
large_bare (Some t) h x p l = h x (unprimed t ∙ p) l
