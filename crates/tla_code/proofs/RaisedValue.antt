-- A copy of an expression under more names has the same value and the same members.
use Rattle.std.proofs.Common.{◌≡◌, ℕ, zero, suc, false, Ok, ◌+◌, List, [], ◌∷◌, ◌++◌, get_or, length, refl, ap, sym, ◌∙◌, arith, append_assoc}
use Rattle.tla_value.specs.Tree.{Tree, truth}
use Rattle.tla_core.specs.declared.expression.Opening.{Opening}
use Rattle.tla_core.specs.declared.fault.Place.{Place}
use Rattle.tla_core.specs.Fault.{◌>>=◌}
use Rattle.tla_core.specs.Meaning.{Bound, Present, Next}
use Rattle.tla_core.specs.Patterns.{opened_items, fitting}
use Rattle.tla_core.specs.Expr.{Expr, Exprs, Fields, Arms, Updates, constant, bound, now, next, unary, binary, equal, sub_seq, enumerated, tuple, record_of, conjunction, disjunction, implies, conditional, cases, assert, for_all, for_some, choose, image, function, except, member, not_member, subset, kind_set, booleans, sequences, power, functions, records, product, cup, cap, minus, filtered, opened, tried, no_exprs, more_exprs, no_fields, more_fields, no_arms, other, more_arms, no_updates, more_updates}
use Rattle.tla_core.specs.Value.{means, mean_all, mean_fields, mean_arms, means_other, mean_updates, val, mem}
use Rattle.tla_code.specs.Raise.{raise, raise_all, raise_fields, raise_arms, raise_updates, raised_name, raised_openings}
use Rattle.tla_code.proofs.Pointwise.{none, more, neither, both}
use Rattle.tla_code.proofs.Alike.{Alike, AllAlike, FieldsAlike, ArmsAlike, LastAlike, UpdatesAlike, alike-constant, alike-bound, alike-now, alike-next, alike-kind_set, alike-booleans, alike-unary, alike-sequences, alike-power, alike-opened, alike-tried, alike-binary, alike-equal, alike-implies, alike-assert, alike-member, alike-not_member, alike-subset, alike-functions, alike-cup, alike-cap, alike-minus, alike-for_all, alike-for_some, alike-choose, alike-filtered, alike-sub_seq, alike-enumerated, alike-tuple, alike-conjunction, alike-disjunction, alike-image, alike-function, alike-product, alike-record_of, alike-records, alike-cases, alike-except}

-- ---- the names of a copy

-- the first are the second with `inner` after `outer`
pub record Inserted (outer inner : Bound) (b b' : Bound) : Type 0 where
  pub own : Bound
  pub long : b ≡ (outer ++ inner) ++ own
  pub short : b' ≡ outer ++ own

raised_name-zero : (by i : ℕ) → raised_name 0 by i ≡ i + by
raised_name-zero by i = grind arith

raised_name-suc : (from by i : ℕ) → raised_name (suc from) by (suc i) ≡ suc (raised_name from by i)
raised_name-suc from by i = grind arith

past : (inner own : Bound) (i : ℕ) (d : Tree) → get_or (inner ++ own) (i + length inner) d ≡ get_or own i d
past [] own i d = grind arith
past (v ∷ inner) own i d = let h = past inner own i d in grind (arith, h)

seek : (outer inner own : Bound) (i : ℕ) (d : Tree) → get_or ((outer ++ inner) ++ own) (raised_name (length outer) (length inner) i) d ≡ get_or (outer ++ own) i d
seek [] inner own i d = ap (λ k. get_or (inner ++ own) k d) (raised_name-zero (length inner) i) ∙ past inner own i d
seek (v ∷ outer) inner own zero d = grind arith
seek (v ∷ outer) inner own (suc i) d = ap (λ k. get_or (v ∷ ((outer ++ inner) ++ own)) k d) (raised_name-suc (length outer) (length inner) i) ∙ seek outer inner own i d

-- ---- the law
module _ (outer inner : Bound) where
  abbrev R : Bound → Bound → Type 0
  R = Inserted outer inner

  abbrev copy : Expr → Expr
  copy e = raise (length outer) (length inner) e

  grows : (b b' own : Bound) → R b b' → R (b ++ own) (b' ++ own)
  grows b b' own r = record {
    own = r.own ++ own;
    long = ap (λ (xs : Bound). xs ++ own) r.long ∙ append_assoc (outer ++ inner) r.own own;
    short = ap (λ (xs : Bound). xs ++ own) r.short ∙ append_assoc outer r.own own;
  }

  name : (i : ℕ) (b b' : Bound) → R b b' → get_or b (raised_name (length outer) (length inner) i) (truth false) ≡ get_or b' i (truth false)
  name i b b' r =
      ap (λ (xs : Bound). get_or xs (raised_name (length outer) (length inner) i) (truth false)) r.long
      ∙ seek outer inner r.own i (truth false)
      ∙ ap (λ (xs : Bound). get_or xs i (truth false)) (sym r.short)

  patterns : (p : Place) (os : List Opening) (b b' : Bound) → R b b' → opened_items p (raised_openings (length outer) (length inner) os) b ≡ opened_items p os b'
  patterns p [] b b' r = refl
  patterns p (o ∷ os) b b' r = λ i. fitting p o.items (name o.name b b' r i) >>= λ xs. (patterns p os b b' r i >>= λ ys. Ok (xs ++ ys))

  module _ (s : Present) (t : Next) where
    mutual
      pub alike : (e : Expr) → Alike R s s t t (means (copy e)) (means e)
      alike (constant p v) = alike-constant p v
      alike (bound p i) = alike-bound p _ i (name i)
      alike (now p i) = alike-now p i refl
      alike (next p i) = alike-next p i refl
      alike (unary p op a) = alike-unary p (alike a) op
      alike (binary p op a c) = alike-binary p (alike a) (alike c) op
      alike (equal p a c) = alike-equal p (alike a) (alike c)
      alike (sub_seq p a c d) = alike-sub_seq p (alike a) (alike c) (alike d)
      alike (enumerated p es) = alike-enumerated p (alike_all es)
      alike (tuple p es) = alike-tuple p (alike_all es)
      alike (record_of p fs) = alike-record_of p (alike_fields fs)
      alike (conjunction p es) = alike-conjunction p (alike_all es)
      alike (disjunction p es) = alike-disjunction p (alike_all es)
      alike (implies p a c) = alike-implies p (alike a) (alike c)
      alike (conditional p a c d) = alike-cases p (more (alike a, alike c) none) (both (alike d))
      alike (cases p arms) = alike-cases p (alike_arms arms) (alike_other arms)
      alike (assert p a c) = alike-assert p (alike a) (alike c)
      alike (for_all p a e) = alike-for_all p (alike a) (alike e) grows
      alike (for_some p a e) = alike-for_some p (alike a) (alike e) grows
      alike (choose p a e) = alike-choose p (alike a) (alike e) grows
      alike (image p es e) = alike-image p (alike_all es) (alike e) grows
      alike (function p es e) = alike-function p (alike_all es) (alike e) grows
      alike (except p a us) = alike-except p (alike a) (alike_updates us) grows
      alike (member p a c) = alike-member p (alike a) (alike c)
      alike (not_member p a c) = alike-not_member p (alike a) (alike c)
      alike (subset p a c) = alike-subset p (alike a) (alike c)
      alike (kind_set p k) = alike-kind_set p k
      alike (booleans p) = alike-booleans p
      alike (sequences p a) = alike-sequences p (alike a)
      alike (power p a) = alike-power p (alike a)
      alike (functions p a c) = alike-functions p (alike a) (alike c)
      alike (records p fs) = alike-records p (alike_fields fs)
      alike (product p es) = alike-product p (alike_all es)
      alike (cup p a c) = alike-cup p (alike a) (alike c)
      alike (cap p a c) = alike-cap p (alike a) (alike c)
      alike (minus p a c) = alike-minus p (alike a) (alike c)
      alike (filtered p a e) = alike-filtered p (alike a) (alike e) grows
      alike (opened p os e) = alike-opened p (alike e) grows (raised_openings (length outer) (length inner) os) os (patterns p os)
      alike (tried p k a) = alike-tried p (alike a) k

      alike_all : (es : Exprs) → AllAlike R s s t t (mean_all (raise_all (length outer) (length inner) es)) (mean_all es)
      alike_all no_exprs = none
      alike_all (more_exprs e es) = more (alike e) (alike_all es)

      alike_fields : (fs : Fields) → FieldsAlike R s s t t (mean_fields (raise_fields (length outer) (length inner) fs)) (mean_fields fs)
      alike_fields no_fields = none
      alike_fields (more_fields name e fs) = more (record { name = refl; part = alike e }) (alike_fields fs)

      alike_arms : (arms : Arms) → ArmsAlike R s s t t (mean_arms (raise_arms (length outer) (length inner) arms)) (mean_arms arms)
      alike_arms no_arms = none
      alike_arms (other e) = none
      alike_arms (more_arms c e arms) = more (alike c, alike e) (alike_arms arms)

      alike_other : (arms : Arms) → LastAlike R s s t t (means_other (raise_arms (length outer) (length inner) arms)) (means_other arms)
      alike_other no_arms = neither
      alike_other (other e) = both (alike e)
      alike_other (more_arms c e arms) = alike_other arms

      alike_updates : (us : Updates) → UpdatesAlike R s s t t (mean_updates (raise_updates (length outer) (length inner) us)) (mean_updates us)
      alike_updates no_updates = none
      alike_updates (more_updates keys e us) = more (alike_all keys, alike e) (alike_updates us)

-- a copy with its own names, and the expression with them
here : (outer inner own : Bound) → Inserted outer inner ((outer ++ inner) ++ own) (outer ++ own)
here outer inner own = record { own = own; long = refl; short = refl }

pub value_raised : (e : Expr) (outer inner own : Bound) (s : Present) (t : Next) → val (raise (length outer) (length inner) e) ((outer ++ inner) ++ own) s t ≡ val e (outer ++ own) s t
value_raised e outer inner own s t = (alike outer inner s t e).value ((outer ++ inner) ++ own) (outer ++ own) (here outer inner own)

pub members_raised : (v : Tree) (e : Expr) (outer inner own : Bound) (s : Present) (t : Next) → mem v (raise (length outer) (length inner) e) ((outer ++ inner) ++ own) s t ≡ mem v e (outer ++ own) s t
members_raised v e outer inner own s t = (alike outer inner s t e).has v ((outer ++ inner) ++ own) (outer ++ own) (here outer inner own)
