-- Lists of parts, one after the other.
use Rattle.std.proofs.Common.{◌≡◌, ℕ, suc, ◌+◌, ◌≤◌, ◌<◌, max, List, [], ◌∷◌, ◌++◌, length, map, get_or, drop, refl, ap, sym, ◌∙◌, arith, add-one, drop-cons, append_assoc, append-nil, Option, Some, None}
use Rattle.tla_tree.specs.declared.tree.Expr as syntax
use Rattle.tla_tree.specs.declared.tree.Arm.{Arm}
use Rattle.tla_tree.specs.Places.{place}
use Rattle.tla_tree.specs.Tree as t
use Rattle.tla_tree.specs.Tree.{Tree, trees}
use Rattle.tla_tree.specs.View.{view, choice_view}
use Rattle.tla_core.specs.declared.fault.Place.{Place}
use Rattle.tla_core.specs.Expr as e
use Rattle.tla_core.specs.Expr.{Expr, Exprs, Arms, no_exprs, more_exprs, more_arms, tuple}
use Rattle.tla_model.specs.Size.{nodes, depth, nodes_each, depth_each, nodes_arms, depth_arms}
use Rattle.tla_scopes.specs.declared.primes.Primes.{Primes}
use Rattle.tla_scopes.specs.declared.failure.Failure.{Failure}
use Rattle.tla_scopes.specs.declared.failure.Failure.TheVariants.{NoExpansion, TooLarge, Memory}
use Rattle.tla_scopes.specs.Maybe.{◌>>=◌, each_of}
use Rattle.tla_scopes.specs.Lists.{exprs, arms_with}
use Rattle.tla_scopes.specs.Places.{place_of}
use Rattle.tla_scopes.specs.Nodes.{kept}
use Rattle.tla_scopes.specs.Primes.{primes, primes_each, primes_arms, with_primes}
use Rattle.tla_scopes.specs.Unchanged.{unchanged, unchanged_each}
use Rattle.tla_scopes.specs.Meanings.{Scope}
use Rattle.tla_scopes.specs.Expand.{expand, expand_each, expand_arms}
use Rattle.tla_expand.specs.Private.Gives.{both, sum_of, larger_of, total, highest, part_in, key_in, arm_in, kept_part, FailsBy}
use Rattle.tla_scopes.proofs.Primed as primed
use Rattle.tla_scopes.proofs.Primed.{two, two_of}

pub total_append : {A : Type 0} (size : A → ℕ) (xs ys : List A) → total size (xs ++ ys) ≡ total size xs + total size ys
total_append size [] ys = omega arith
total_append size (x ∷ xs) ys = omega (arith, total_append size xs ys)

pub highest_append : {A : Type 0} (deep : A → ℕ) (xs ys : List A) → highest deep (xs ++ ys) ≡ max (highest deep xs) (highest deep ys)
highest_append deep [] ys = omega arith
highest_append deep (x ∷ xs) ys = omega (arith, highest_append deep xs ys)

pub nodes_exprs : (es : List Expr) → nodes_each (exprs es) ≡ total nodes es
nodes_exprs [] = refl
nodes_exprs (e ∷ es) = omega (arith, nodes_exprs es)

pub depth_exprs : (es : List Expr) → depth_each (exprs es) ≡ highest depth es
depth_exprs [] = refl
depth_exprs (e ∷ es) = omega (arith, depth_exprs es)

module _ {A B : Type 0} (f : A → Option B) (ts : List A) where
  -- the first parts are expanded, and the others are still to do
  abbrev pub so_far : List B → ℕ → Type 0
  so_far es i = each_of f ts ≡ (each_of f (drop i ts) >>= λ xs. Some (es ++ xs))

  next_is : (i : ℕ) (t : A) → i < length ts → t ≡ get_or ts i t → drop i ts ≡ t ∷ drop (i + 1) ts
  next_is i t h g = rw (add-one) (drop-cons ts i t h ∙ ap (λ (y : A). y ∷ drop (suc i) ts) (sym g))

  after : (o : Option (List B)) (es : List B) (x : B) → ((o >>= λ xs. Some (x ∷ xs)) >>= λ xs. Some (es ++ xs)) ≡ (o >>= λ xs. Some ((es ++ x ∷ []) ++ xs))
  after None es x = refl
  after (Some xs) es x = ap (λ (y : List B). Some y) (sym (append_assoc es (x ∷ []) xs))

  pub part_done : (es new : List B) (i : ℕ) (t : A) (x : B) → so_far es i → i < length ts → t ≡ get_or ts i t
      → f t ≡ Some x → new ≡ es ++ x ∷ [] → so_far new (i + 1)
  part_done es new i t x h b g e n = h ∙ rw (next_is i t b g, e, n) (after (each_of f (drop (i + 1) ts)) es x)

  fails_by : (size deep : B → ℕ) (s : Failure) (es : List B) (a : Option B) (o whole : Option (List B)) (depth_left nodes_left rest : ℕ) → rest + total size es ≡ nodes_left
      → whole ≡ ((a >>= λ x. o >>= λ xs. Some (x ∷ xs)) >>= λ xs. Some (es ++ xs)) → FailsBy size deep depth_left rest s a → FailsBy (total size) (highest deep) depth_left nodes_left s whole
  fails_by size deep (NoExpansion p) es a o whole depth_left nodes_left rest n e g = rw (e, g) refl
  fails_by size deep TooLarge es None o whole depth_left nodes_left rest n e g = λ xs p q r. cc
  fails_by size deep TooLarge es (Some x) None whole depth_left nodes_left rest n e g = λ xs p q r. cc
  fails_by size deep TooLarge es (Some x) (Some ys) whole depth_left nodes_left rest n e g = λ xs p q r.
      let w : es ++ x ∷ ys ≡ xs = cc in
      let m = total_append size es (x ∷ ys) in
      let l = highest_append deep es (x ∷ ys) in
      let w1 = ap (total size) w in
      let w2 = ap (highest deep) w in
      g x refl (omega arith) (omega arith)
  fails_by size deep Memory es a o whole depth_left nodes_left rest n e g = tt

  pub part_fails : (size deep : B → ℕ) (s : Failure) (es : List B) (i : ℕ) (t : A) (depth_left nodes_left rest : ℕ) → so_far es i → i < length ts → t ≡ get_or ts i t
      → rest + total size es ≡ nodes_left → FailsBy size deep depth_left rest s (f t) → FailsBy (total size) (highest deep) depth_left nodes_left s (each_of f ts)
  part_fails size deep s es i t depth_left nodes_left rest h b g n q =
      fails_by size deep s es (f t) (each_of f (drop (i + 1) ts)) (each_of f ts) depth_left nodes_left rest n (h ∙ rw (next_is i t b g) refl) q

  pub all_done : (es : List B) (i : ℕ) → drop i ts ≡ [] → so_far es i → each_of f ts ≡ Some es
  all_done es i e h = h ∙ rw e (ap (λ (y : List B). Some y) (append-nil es))

-- one part more is within the limits
pub total_more : {A : Type 0} (size : A → ℕ) (old new : List A) (x : A) → new ≡ old ++ x ∷ [] → total size new ≡ total size old + size x
total_more size old new x h = ap (total size) h ∙ total_append size old (x ∷ []) ∙ (omega arith)

pub highest_more : {A : Type 0} (deep : A → ℕ) (old new : List A) (x : A) (n : ℕ) → new ≡ old ++ x ∷ [] → highest deep old ≤ n → deep x ≤ n → highest deep new ≤ n
highest_more deep old new x n h a b = let w = ap (highest deep) h in let m = highest_append deep old (x ∷ []) in omega arith

-- primes go on to the parts
pub each_in : (k : Primes) (ts : List syntax.Expr) (σ : Scope) (d : ℕ) → (expand_each (trees (map view ts)) σ d >>= primes_each k) ≡ (each_of (part_in k σ d) ts >>= λ xs. Some (exprs xs))
each_in k [] σ d = refl
each_in k (t ∷ ts) σ d =
    two (λ x y. more_exprs x y) (primes k) (primes_each k) (primes_each k) (λ x y. refl) (expand (view t) σ d) (expand_each (trees (map view ts)) σ d)
    ∙ rw (each_in k ts σ d) (regroup (part_in k σ d t) (each_of (part_in k σ d) ts))
  where
    regroup : (a : Option Expr) (o : Option (List Expr)) → (a >>= λ x. (o >>= λ xs. Some (exprs xs)) >>= λ xs. Some (more_exprs x xs)) ≡ ((a >>= λ x. o >>= λ xs. Some (x ∷ xs)) >>= λ xs. Some (exprs xs))
    regroup None o = refl
    regroup (Some x) None = refl
    regroup (Some x) (Some xs) = refl

-- the tuple of several arguments
key_tuple : (p : Place) (a b : Option Expr) (o : Option Exprs)
    → (a >>= λ x. b >>= λ y. o >>= λ xs. Some (tuple p (more_exprs x (more_exprs y xs)))) ≡ ((a >>= λ x. (b >>= λ y. o >>= λ xs. Some (more_exprs y xs)) >>= λ xs. Some (more_exprs x xs)) >>= λ xs. Some (tuple p xs))
key_tuple p None b o = refl
key_tuple p (Some x) None o = refl
key_tuple p (Some x) (Some y) None = refl
key_tuple p (Some x) (Some y) (Some xs) = refl

tuple_in : (p : Place) (o : Option (List Expr)) → ((o >>= λ xs. Some (exprs xs)) >>= λ xs. Some (tuple p xs)) ≡ (o >>= λ xs. Some (tuple p (exprs xs)))
tuple_in p None = refl
tuple_in p (Some xs) = refl

pub key_of_several : (k : Primes) (a b : syntax.Expr) (ts : List syntax.Expr) (σ : Scope) (d : ℕ)
    → key_in k σ d (a ∷ b ∷ ts) ≡ (each_of (part_in k σ d) (a ∷ b ∷ ts) >>= λ xs. Some (tuple (place_of (place (view a))) (exprs xs)))
key_of_several k a b ts σ d =
    let p = place_of (place (view a)) in
    ap (with_primes k) (key_tuple p (expand (view a) σ d) (expand (view b) σ d) (expand_each (trees (map view ts)) σ d))
    ∙ primed.one (λ xs. tuple p xs) (primes_each k) (primes k) (λ xs. refl) (expand_each (trees (map view (a ∷ b ∷ ts))) σ d)
    ∙ ap (λ (o : Option Exprs). o >>= λ xs. Some (tuple p xs)) (each_in k (a ∷ b ∷ ts) σ d)
    ∙ tuple_in p (each_of (part_in k σ d) (a ∷ b ∷ ts))

-- UNCHANGED of a tuple is UNCHANGED of each part
kept_parts : (k : Primes) (p : Place) (ts : List syntax.Expr) (σ : Scope) (d : ℕ)
    → ((each_of (part_in k σ d) ts >>= λ xs. Some (exprs xs)) >>= unchanged_each p) ≡ (each_of (kept_part k p σ d) ts >>= λ xs. Some (exprs xs))
kept_parts k p [] σ d = refl
kept_parts k p (t ∷ ts) σ d =
    split (part_in k σ d t) (each_of (part_in k σ d) ts)
    ∙ rw (kept_parts k p ts σ d) (regroup (kept_part k p σ d t) (each_of (kept_part k p σ d) ts))
  where
    split : (a : Option Expr) (o : Option (List Expr)) → (((a >>= λ x. o >>= λ xs. Some (x ∷ xs)) >>= λ xs. Some (exprs xs)) >>= unchanged_each p)
        ≡ ((a >>= unchanged p) >>= λ x. ((o >>= λ xs. Some (exprs xs)) >>= unchanged_each p) >>= λ xs. Some (more_exprs x xs))
    split None o = refl
    split (Some x) None = two_of {C = Exprs} (unchanged p x)
    split (Some x) (Some xs) = refl

    regroup : (a : Option Expr) (o : Option (List Expr)) → (a >>= λ x. (o >>= λ xs. Some (exprs xs)) >>= λ xs. Some (more_exprs x xs)) ≡ ((a >>= λ x. o >>= λ xs. Some (x ∷ xs)) >>= λ xs. Some (exprs xs))
    regroup None o = refl
    regroup (Some x) None = refl
    regroup (Some x) (Some xs) = refl

kept_of : (p q : Place) (o : Option Exprs) → ((o >>= λ xs. Some (tuple q xs)) >>= unchanged p) ≡ ((o >>= unchanged_each p) >>= λ xs. Some (kept p xs))
kept_of p q None = refl
kept_of p q (Some xs) = refl

kept_in : (p : Place) (o : Option (List Expr)) → ((o >>= λ xs. Some (exprs xs)) >>= λ xs. Some (kept p xs)) ≡ (o >>= λ xs. Some (kept p (exprs xs)))
kept_in p None = refl
kept_in p (Some xs) = refl

pub kept_tuple : (k : Primes) (p q : Place) (ts : List syntax.Expr) (σ : Scope) (d : ℕ)
    → ((each_of (part_in k σ d) ts >>= λ xs. Some (tuple q (exprs xs))) >>= unchanged p) ≡ (each_of (kept_part k p σ d) ts >>= λ xs. Some (kept p (exprs xs)))
kept_tuple k p q ts σ d =
    ap (λ (o : Option Expr). o >>= unchanged p) (sym (tuple_in q (each_of (part_in k σ d) ts)))
    ∙ kept_of p q (each_of (part_in k σ d) ts >>= λ xs. Some (exprs xs))
    ∙ ap (λ (o : Option Exprs). o >>= λ xs. Some (kept p xs)) (kept_parts k p ts σ d)
    ∙ kept_in p (each_of (kept_part k p σ d) ts)

-- the arms of CASE
arms_regroup : (a b : Option Expr) (o : Option (List (Expr × Expr))) (last : Arms)
    → (a >>= λ x. b >>= λ y. (o >>= λ xs. Some (arms_with xs last)) >>= λ xs. Some (more_arms x y xs)) ≡ ((both a b >>= λ x. o >>= λ xs. Some (x ∷ xs)) >>= λ xs. Some (arms_with xs last))
arms_regroup None b o last = refl
arms_regroup (Some x) None o last = refl
arms_regroup (Some x) (Some y) None last = refl
arms_regroup (Some x) (Some y) (Some xs) last = refl

arms_more : (k : Primes) (a b : Option Expr) (o : Option Arms)
    → ((a >>= λ x. b >>= λ y. o >>= λ xs. Some (more_arms x y xs)) >>= primes_arms k) ≡ ((a >>= primes k) >>= λ x. (b >>= primes k) >>= λ y. (o >>= primes_arms k) >>= λ xs. Some (more_arms x y xs))
arms_more k a b o = primed.three (λ x y xs. more_arms x y xs) (primes k) (primes k) (primes_arms k) (primes_arms k) (λ x y xs. refl) a b o

pub arms_in : (k : Primes) (as' : List Arm) (σ : Scope) (d : ℕ) → (expand_arms (t.arms (map choice_view as')) (Some e.no_arms) σ d >>= primes_arms k) ≡ (each_of (arm_in k σ d) as' >>= λ xs. Some (arms_with xs e.no_arms))
arms_in k [] σ d = refl
arms_in k (a ∷ as') σ d =
    arms_more k (expand (view a.guard) σ d) (expand (view a.value) σ d) (expand_arms (t.arms (map choice_view as')) (Some e.no_arms) σ d)
    ∙ rw (arms_in k as' σ d) (arms_regroup (part_in k σ d a.guard) (part_in k σ d a.value) (each_of (arm_in k σ d) as') e.no_arms)

or_regroup : (a b : Option Expr) (o : Option (List (Expr × Expr))) (c : Option Expr)
    → (a >>= λ x. b >>= λ y. (both o c >>= λ xs. Some (arms_with xs.0 (e.other xs.1))) >>= λ xs. Some (more_arms x y xs)) ≡ (both (both a b >>= λ x. o >>= λ xs. Some (x ∷ xs)) c >>= λ xs. Some (arms_with xs.0 (e.other xs.1)))
or_regroup None b o c = refl
or_regroup (Some x) None o c = refl
or_regroup (Some x) (Some y) None c = refl
or_regroup (Some x) (Some y) (Some xs) None = refl
or_regroup (Some x) (Some y) (Some xs) (Some z) = refl

last_in : (k : Primes) (o : Option Expr) → ((o >>= λ x. Some (e.other x)) >>= primes_arms k) ≡ (both (Some []) (with_primes k o) >>= λ (xs : List (Expr × Expr) × Expr). Some (arms_with xs.0 (e.other xs.1)))
last_in k None = refl
last_in k (Some x) = last_some (primes k x)
  where
    last_some : (o : Option Expr) → (o >>= λ x. Some (e.other x)) ≡ (both (Some []) o >>= λ (xs : List (Expr × Expr) × Expr). Some (arms_with xs.0 (e.other xs.1)))
    last_some None = refl
    last_some (Some y) = refl

pub arms_or_in : (k : Primes) (as' : List Arm) (last : Tree) (σ : Scope) (d : ℕ)
    → (expand_arms (t.arms (map choice_view as')) (expand last σ d >>= λ x. Some (e.other x)) σ d >>= primes_arms k) ≡ (both (each_of (arm_in k σ d) as') (with_primes k (expand last σ d)) >>= λ xs. Some (arms_with xs.0 (e.other xs.1)))
arms_or_in k [] last σ d = last_in k (expand last σ d)
arms_or_in k (a ∷ as') last σ d =
    arms_more k (expand (view a.guard) σ d) (expand (view a.value) σ d) (expand_arms (t.arms (map choice_view as')) (expand last σ d >>= λ x. Some (e.other x)) σ d)
    ∙ rw (arms_or_in k as' last σ d) (or_regroup (part_in k σ d a.guard) (part_in k σ d a.value) (each_of (arm_in k σ d) as') (with_primes k (expand last σ d)))

pub nodes_arms_of : (xs : List (Expr × Expr)) (last : Arms) → nodes_arms (arms_with xs last) ≡ total (sum_of nodes nodes) xs + nodes_arms last
nodes_arms_of [] last = omega arith
nodes_arms_of (x ∷ xs) last = omega (arith, nodes_arms_of xs last)

pub depth_arms_of : (xs : List (Expr × Expr)) (last : Arms) → depth_arms (arms_with xs last) ≡ max (highest (larger_of depth depth) xs) (depth_arms last)
depth_arms_of [] last = omega arith
depth_arms_of (x ∷ xs) last = omega (arith, depth_arms_of xs last)

-- one more thing is done to each
each_more : {B C : Type 0} (a : Option B) (g : B → Option C) (o : Option (List B)) → ((a >>= λ x. o >>= λ xs. Some (x ∷ xs)) >>= each_of g) ≡ ((a >>= g) >>= λ y. (o >>= each_of g) >>= λ ys. Some (y ∷ ys))
each_more None g o = refl
each_more {C = C} (Some x) g None = two_of {C = List C} (g x)
each_more (Some x) g (Some xs) = refl

pub each_then : {A B C : Type 0} (f : A → Option B) (g : B → Option C) (ts : List A) → (each_of f ts >>= each_of g) ≡ each_of (λ t. f t >>= g) ts
each_then f g [] = refl
each_then f g (t ∷ ts) = each_more (f t) g (each_of f ts) ∙ rw (each_then f g ts) refl

pub primes_exprs : (k : Primes) (xs : List Expr) → primes_each k (exprs xs) ≡ (each_of (primes k) xs >>= λ ys. Some (exprs ys))
primes_exprs k [] = refl
primes_exprs k (x ∷ xs) = rw (primes_exprs k xs) (regroup (primes k x) (each_of (primes k) xs))
  where
    regroup : (a : Option Expr) (o : Option (List Expr)) → (a >>= λ x. (o >>= λ xs. Some (exprs xs)) >>= λ xs. Some (more_exprs x xs)) ≡ ((a >>= λ x. o >>= λ xs. Some (x ∷ xs)) >>= λ xs. Some (exprs xs))
    regroup None o = refl
    regroup (Some x) None = refl
    regroup (Some x) (Some xs) = refl
