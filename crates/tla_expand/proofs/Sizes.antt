-- Nodes, depth, and what a failure of a part says of the whole.
use Rattle.std.proofs.Common.{◌≡◌, ◌≤◌, ◌<◌, ℕ, ◌+◌, List, [], ◌∷◌, length, refl, ap, arith, Option, Some, None}
use Rattle.tla_core.specs.declared.fault.Place.{Place}
use Rattle.tla_core.specs.declared.expression.Opening.{Opening}
use Rattle.tla_scopes.specs.Bound.{under_openings}
use Rattle.tla_scopes.specs.declared.primes.Primes.{Primes}
use Rattle.tla_scopes.specs.Primes.{primes, with_primes}
use Rattle.tla_scopes.proofs.Primed.{one}
use Rattle.tla_core.specs.Expr.{Expr, constant, bound, now, next, unary, binary, equal, sub_seq, enumerated, tuple, record_of, conjunction, disjunction, implies, conditional, cases, assert, for_all, for_some, choose, image, function, except, member, not_member, subset, kind_set, booleans, sequences, power, functions, records, product, cup, cap, minus, filtered, opened, tried}
use Rattle.tla_scopes.specs.declared.failure.Failure.{Failure}
use Rattle.tla_scopes.specs.declared.failure.Failure.TheVariants.{NoExpansion, TooLarge, Memory}
use Rattle.tla_scopes.specs.Maybe.{◌>>=◌}
use Rattle.tla_model.specs.Size.{nodes, depth}
use Rattle.tla_expand.specs.Private.Gives.{FailsBy, Fails, Makes, both, sum_of, larger_of}

pub some_node : (e : Expr) → 0 < nodes e
some_node (constant p a) = omega arith
some_node (bound p a) = omega arith
some_node (now p a) = omega arith
some_node (next p a) = omega arith
some_node (unary p a b) = omega arith
some_node (binary p a b c) = omega arith
some_node (equal p a b) = omega arith
some_node (sub_seq p a b c) = omega arith
some_node (enumerated p a) = omega arith
some_node (tuple p a) = omega arith
some_node (record_of p a) = omega arith
some_node (conjunction p a) = omega arith
some_node (disjunction p a) = omega arith
some_node (implies p a b) = omega arith
some_node (conditional p a b c) = omega arith
some_node (cases p a) = omega arith
some_node (assert p a b) = omega arith
some_node (for_all p a b) = omega arith
some_node (for_some p a b) = omega arith
some_node (choose p a b) = omega arith
some_node (image p a b) = omega arith
some_node (function p a b) = omega arith
some_node (except p a b) = omega arith
some_node (member p a b) = omega arith
some_node (not_member p a b) = omega arith
some_node (subset p a b) = omega arith
some_node (kind_set p a) = omega arith
some_node (booleans p) = omega arith
some_node (sequences p a) = omega arith
some_node (power p a) = omega arith
some_node (functions p a b) = omega arith
some_node (records p a) = omega arith
some_node (product p a) = omega arith
some_node (cup p a b) = omega arith
some_node (cap p a b) = omega arith
some_node (minus p a b) = omega arith
some_node (filtered p a b) = omega arith
some_node (opened p os a) = some_node a
some_node (tried p k a) = some_node a

pub some_depth : (e : Expr) → 0 < depth e
some_depth (constant p a) = omega arith
some_depth (bound p a) = omega arith
some_depth (now p a) = omega arith
some_depth (next p a) = omega arith
some_depth (unary p a b) = omega arith
some_depth (binary p a b c) = omega arith
some_depth (equal p a b) = omega arith
some_depth (sub_seq p a b c) = omega arith
some_depth (enumerated p a) = omega arith
some_depth (tuple p a) = omega arith
some_depth (record_of p a) = omega arith
some_depth (conjunction p a) = omega arith
some_depth (disjunction p a) = omega arith
some_depth (implies p a b) = omega arith
some_depth (conditional p a b c) = omega arith
some_depth (cases p a) = omega arith
some_depth (assert p a b) = omega arith
some_depth (for_all p a b) = omega arith
some_depth (for_some p a b) = omega arith
some_depth (choose p a b) = omega arith
some_depth (image p a b) = omega arith
some_depth (function p a b) = omega arith
some_depth (except p a b) = omega arith
some_depth (member p a b) = omega arith
some_depth (not_member p a b) = omega arith
some_depth (subset p a b) = omega arith
some_depth (kind_set p a) = omega arith
some_depth (booleans p) = omega arith
some_depth (sequences p a) = omega arith
some_depth (power p a) = omega arith
some_depth (functions p a b) = omega arith
some_depth (records p a) = omega arith
some_depth (product p a) = omega arith
some_depth (cup p a b) = omega arith
some_depth (cap p a b) = omega arith
some_depth (minus p a b) = omega arith
some_depth (filtered p a b) = omega arith
some_depth (opened p os a) = some_depth a
some_depth (tried p k a) = some_depth a

-- an expression that was made of what is left
abbrev pub Given : Option Expr → Expr → ℕ → ℕ → ℕ → Type 0
Given o c rest nodes_left depth_left = Makes nodes depth depth_left nodes_left rest c o

-- the first of two fails, or the second, where the first is there
pub first_fails : {A B : Type 0} (sa da : A → ℕ) (sb db : B → ℕ) (s : Failure) (a : Option A) (b : Option B) (depth_left nodes_left : ℕ)
    → FailsBy sa da depth_left nodes_left s a → FailsBy (sum_of sa sb) (larger_of da db) depth_left nodes_left s (both a b)
first_fails sa da sb db (NoExpansion p) a b depth_left nodes_left h = rw h refl
first_fails sa da sb db TooLarge None b depth_left nodes_left h = λ x q n d. cc
first_fails sa da sb db TooLarge (Some u) None depth_left nodes_left h = λ x q n d. cc
first_fails sa da sb db TooLarge (Some u) (Some v) depth_left nodes_left h = λ x q n d. let w : (u, v) ≡ x = cc in let w0 = ap (λ y. sum_of sa sb y) w in let w1 = ap (λ y. larger_of da db y) w in h u refl (omega arith) (omega arith)
first_fails sa da sb db Memory a b depth_left nodes_left h = tt

pub second_fails : {A B : Type 0} (sa da : A → ℕ) (sb db : B → ℕ) (s : Failure) (a : Option A) (b : Option B) (x : A) (depth_left nodes_left less : ℕ)
    → a ≡ Some x → less + sa x ≡ nodes_left → FailsBy sb db depth_left less s b → FailsBy (sum_of sa sb) (larger_of da db) depth_left nodes_left s (both a b)
second_fails sa da sb db (NoExpansion p) a b x depth_left nodes_left less q n h = rw (q, h) refl
second_fails sa da sb db TooLarge a None x depth_left nodes_left less q n h = rw q (λ y r m d. cc)
second_fails sa da sb db TooLarge a (Some v) x depth_left nodes_left less q n h = rw q (λ y r m d. let w : (x, v) ≡ y = cc in let w0 = ap (λ z. sum_of sa sb z) w in let w1 = ap (λ z. larger_of da db z) w in h v refl (omega arith) (omega arith))
second_fails sa da sb db Memory a b x depth_left nodes_left less q n h = tt

pub two_give : {A B : Type 0} (sa da : A → ℕ) (sb db : B → ℕ) (a : Option A) (b : Option B) (x : A) (y : B) (depth_left nodes_left less rest : ℕ)
    → Makes sa da depth_left nodes_left less x a → Makes sb db depth_left less rest y b → Makes (sum_of sa sb) (larger_of da db) depth_left nodes_left rest (x, y) (both a b)
two_give sa da sb db a b x y depth_left nodes_left less rest g h = (rw (g.0, h.0) refl, omega (arith, g.1, h.1), omega (arith, g.2, h.2))

-- a node of parts: one node more, one more on each path
pub record IsLarger {A : Type 0} (size deep : A → ℕ) (f : A → Expr) : Type 0 where
  pub nodes_more : (x : A) → nodes (f x) ≡ size x + 1
  pub depth_more : (x : A) → depth (f x) ≡ deep x + 1

pub node_fails : {A : Type 0} (size deep : A → ℕ) (f : A → Expr) (s : Failure) (o : Option A) (depth_left nodes_left : ℕ) → IsLarger size deep f
    → FailsBy size deep depth_left nodes_left s o → Fails (depth_left + 1) (nodes_left + 1) s (o >>= λ x. Some (f x))
node_fails size deep f (NoExpansion p) o depth_left nodes_left i h = rw h refl
node_fails size deep f TooLarge None depth_left nodes_left i h = λ x q n d. cc
node_fails size deep f TooLarge (Some u) depth_left nodes_left i h = λ x q n d.
    let w : f u ≡ x = cc in
    let w0 = ap nodes w in
    let w1 = ap depth w in
    let n1 = i.nodes_more u in
    let d1 = i.depth_more u in
    h u refl (omega arith) (omega arith)
node_fails size deep f Memory o depth_left nodes_left i h = tt

pub node_gives : {A : Type 0} (size deep : A → ℕ) (f : A → Expr) (o : Option A) (x : A) (c : Expr) (depth_left nodes_left rest : ℕ) → IsLarger size deep f
    → Makes size deep depth_left nodes_left rest x o → c ≡ f x → Given (o >>= λ y. Some (f y)) c rest (nodes_left + 1) (depth_left + 1)
node_gives size deep f o x c depth_left nodes_left rest i (p, n, d) e =
    let n1 = i.nodes_more x in
    let d1 = i.depth_more x in
    let n2 = ap nodes e in
    let d2 = ap depth e in
    (rw (p, e) refl, omega arith, omega arith)

-- a body under elements that are opened: no more nodes, none on a path
pub opened_gives : (p : Place) (os : List Opening) (o : Option Expr) (y c : Expr) (depth_left nodes_left rest : ℕ) → Given o y rest nodes_left depth_left → Some c ≡ under_openings p os (Some y) → Given (under_openings p os o) c rest nodes_left depth_left
opened_gives p [] o y c depth_left nodes_left rest g e = let same : c ≡ y = cc in rw same g
opened_gives p (n ∷ os) o y c depth_left nodes_left rest g e = let same : c ≡ opened p (n ∷ os) y = cc in rw (same, g.0) (refl, g.1, g.2)

pub opened_fails : (p : Place) (os : List Opening) (s : Failure) (o : Option Expr) (depth_left nodes_left : ℕ) → Fails depth_left nodes_left s o → Fails depth_left nodes_left s (under_openings p os o)
opened_fails p [] s o depth_left nodes_left h = h
opened_fails p (n ∷ os) (NoExpansion q) o depth_left nodes_left h = rw h refl
opened_fails p (n ∷ os) TooLarge None depth_left nodes_left h = λ x q m d. cc
opened_fails p (n ∷ os) TooLarge (Some u) depth_left nodes_left h = λ x q m d. let w : opened p (n ∷ os) u ≡ x = cc in let w0 = ap nodes w in let w1 = ap depth w in h u refl (omega arith) (omega arith)
opened_fails p (n ∷ os) Memory o depth_left nodes_left h = tt

pub openings_primed : (k : Primes) (p : Place) (os : List Opening) (o : Option Expr) → with_primes k (under_openings p os o) ≡ under_openings p os (with_primes k o)
openings_primed k p [] o = refl
openings_primed k p (n ∷ os) o = one (λ x. opened p (n ∷ os) x) (primes k) (primes k) (λ x. refl) o

pub opened_some : (p : Place) (os : List Opening) (e : Expr) → 0 < length os → under_openings p os (Some e) ≡ Some (opened p os e)
opened_some p [] e h = absurd (omega arith)
opened_some p (n ∷ os) e h = refl
