-- The value of an expression, and membership in it. (Book, chapter 16.)
use Rattle.std.specs.Prelude.{ℕ, List, [], ◌∷◌, Option, Some, None, Bool}
use Rattle.tla_value.specs.Tree.{Tree}
use Rattle.tla_core.specs.Fault.{Outcome}
use Rattle.tla_core.specs.Expr.{Expr, Exprs, Fields, Arms, Updates, constant, bound, now, next, unary, binary, equal, sub_seq, enumerated, tuple, record_of, conjunction, disjunction, implies, conditional, cases, assert, for_all, for_some, choose, image, function, except, member, not_member, subset, kind_set, booleans, sequences, power, functions, records, product, cup, cap, minus, filtered, opened, tried, no_exprs, more_exprs, no_fields, more_fields, no_arms, other, more_arms, no_updates, more_updates}
use Rattle.tla_core.specs.Meaning.{Meaning, Bound, Present, Next, means-constant, means-bound, means-now, means-next, means-unary, means-binary, means-equal, means-sub_seq, means-enumerated, means-tuple, means-record_of}
use Rattle.tla_core.specs.Logic.{means-conjunction, means-disjunction, means-implies, means-cases, means-assert, means-for_all, means-for_some, means-choose}
use Rattle.tla_core.specs.Patterns.{means-opened, means-tried}
use Rattle.tla_core.specs.Functions.{means-image, means-function, means-except}
use Rattle.tla_core.specs.Membership.{means-member, means-not_member, means-subset, means-kind_set, means-booleans, means-sequences}
use Rattle.tla_core.specs.SetForms.{means-power, means-functions, means-records, means-product, means-cup, means-cap, means-minus, means-filtered}

abbrev mutual
  pub means : Expr → Meaning
  means (constant p v) = means-constant p v
  means (bound p i) = means-bound p i
  means (now p i) = means-now p i
  means (next p i) = means-next p i
  means (unary p op a) = means-unary p op (means a)
  means (binary p op a c) = means-binary p op (means a) (means c)
  means (equal p a c) = means-equal p (means a) (means c)
  means (sub_seq p a c d) = means-sub_seq p (means a) (means c) (means d)
  means (enumerated p es) = means-enumerated p (mean_all es)
  means (tuple p es) = means-tuple p (mean_all es)
  means (record_of p fs) = means-record_of p (mean_fields fs)
  means (conjunction p es) = means-conjunction p (mean_all es)
  means (disjunction p es) = means-disjunction p (mean_all es)
  means (implies p a c) = means-implies p (means a) (means c)
  means (conditional p a c d) = means-cases p ((means a, means c) ∷ []) (Some (means d))
  means (cases p arms) = means-cases p (mean_arms arms) (means_other arms)
  means (assert p a c) = means-assert p (means a) (means c)
  means (for_all p a e) = means-for_all p (means a) (means e)
  means (for_some p a e) = means-for_some p (means a) (means e)
  means (choose p a e) = means-choose p (means a) (means e)
  means (image p es e) = means-image p (mean_all es) (means e)
  means (function p es e) = means-function p (mean_all es) (means e)
  means (except p a us) = means-except p (means a) (mean_updates us)
  means (member p a c) = means-member p (means a) (means c)
  means (not_member p a c) = means-not_member p (means a) (means c)
  means (subset p a c) = means-subset p (means a) (means c)
  means (kind_set p k) = means-kind_set p k
  means (booleans p) = means-booleans p
  means (sequences p a) = means-sequences p (means a)
  means (power p a) = means-power p (means a)
  means (functions p a c) = means-functions p (means a) (means c)
  means (records p fs) = means-records p (mean_fields fs)
  means (product p es) = means-product p (mean_all es)
  means (cup p a c) = means-cup p (means a) (means c)
  means (cap p a c) = means-cap p (means a) (means c)
  means (minus p a c) = means-minus p (means a) (means c)
  means (filtered p a e) = means-filtered p (means a) (means e)
  means (opened p os e) = means-opened p os (means e)
  means (tried p k a) = means-tried p k (means a)

  pub mean_all : Exprs → List Meaning
  mean_all no_exprs = []
  mean_all (more_exprs e es) = means e ∷ mean_all es

  pub mean_fields : Fields → List (List ℕ × Meaning)
  mean_fields no_fields = []
  mean_fields (more_fields name e fs) = (name, means e) ∷ mean_fields fs

  pub mean_arms : Arms → List (Meaning × Meaning)
  mean_arms no_arms = []
  mean_arms (other e) = []
  mean_arms (more_arms c e arms) = (means c, means e) ∷ mean_arms arms

  pub means_other : Arms → Option Meaning
  means_other no_arms = None
  means_other (other e) = Some (means e)
  means_other (more_arms c e arms) = means_other arms

  pub mean_updates : Updates → List (List Meaning × Meaning)
  mean_updates no_updates = []
  mean_updates (more_updates keys e us) = (mean_all keys, means e) ∷ mean_updates us

-- the value of an expression, or its first fault, with bound names b, present state s and next values t
abbrev pub val : Expr → Bound → Present → Next → Outcome Tree
val e b s t = (means e).value b s t

-- whether a value is a member of an expression
abbrev pub mem : Tree → Expr → Bound → Present → Next → Outcome Bool
mem v e b s t = (means e).has v b s t
