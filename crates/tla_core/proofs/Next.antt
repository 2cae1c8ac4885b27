-- Whether an expression mentions a next value, besides its meaning.
use Rattle.std.proofs.Common.{◌≡◌, Bool, true, false, ◌||◌, refl, ap, ◌∙◌}
use Rattle.tla_value.specs.Choices.{parts_of}
use Rattle.tla_core.specs.Expr.{Expr, Exprs, Fields, Arms, Updates, constant, bound, now, next, unary, binary, equal, sub_seq, enumerated, tuple, record_of, conjunction, disjunction, implies, conditional, cases, assert, for_all, for_some, choose, image, function, except, member, not_member, subset, kind_set, booleans, sequences, power, functions, records, product, cup, cap, minus, filtered, opened, tried, no_exprs, more_exprs, no_fields, more_fields, no_arms, other, more_arms, no_updates, more_updates}
use Rattle.tla_core.specs.Functions.{updates_primed}
use Rattle.tla_core.specs.Logic.{arms_primed, last_primed}
use Rattle.tla_core.specs.Meaning.{any_primed}
use Rattle.tla_core.specs.Next.{has_next, some_next, field_next, arm_next, update_next}
use Rattle.tla_core.specs.Value.{means, mean_all, mean_fields, mean_arms, means_other, mean_updates}

or_or : {a b c d : Bool} → a ≡ b → c ≡ d → (a || c) ≡ (b || d)
or_or {a} {b} {c} {d} e f = ap (λ x. x || c) e ∙ ap (λ x. b || x) f

or_assoc : (a b c : Bool) → ((a || b) || c) ≡ (a || (b || c))
or_assoc true b c = refl
or_assoc false b c = refl

-- the arms of IF, which the meaning has as those of a CASE
grouped : (a b c : Bool) → (((a || b) || false) || c) ≡ (a || (b || c))
grouped true b c = refl
grouped false true c = refl
grouped false false c = refl

-- the arms of a CASE, and the value of OTHER
moved : (a b c d : Bool) → (((a || b) || c) || d) ≡ (a || (b || (c || d)))
moved true b c d = refl
moved false b c d = or_assoc b c d

mutual
  pub next_is : (e : Expr) → (means e).primed ≡ has_next e
  next_is (constant p v) = refl
  next_is (bound p i) = refl
  next_is (now p i) = refl
  next_is (next p i) = refl
  next_is (unary p op a) = next_is a
  next_is (binary p op a c) = or_or (next_is a) (next_is c)
  next_is (equal p a c) = or_or (next_is a) (next_is c)
  next_is (sub_seq p a c d) = or_or (next_is a) (or_or (next_is c) (next_is d))
  next_is (enumerated p es) = some_is es
  next_is (tuple p es) = some_is es
  next_is (record_of p fs) = field_is fs
  next_is (conjunction p es) = some_is es
  next_is (disjunction p es) = some_is es
  next_is (implies p a c) = or_or (next_is a) (next_is c)
  next_is (conditional p a c d) = grouped (means a).primed (means c).primed (means d).primed ∙ or_or (next_is a) (or_or (next_is c) (next_is d))
  next_is (cases p arms) = arm_is arms
  next_is (assert p a c) = or_or (next_is a) (next_is c)
  next_is (for_all p a e) = or_or (next_is a) (next_is e)
  next_is (for_some p a e) = or_or (next_is a) (next_is e)
  next_is (choose p a e) = or_or (next_is a) (next_is e)
  next_is (image p es e) = or_or (some_is es) (next_is e)
  next_is (function p es e) = or_or (some_is es) (next_is e)
  next_is (except p a us) = or_or (next_is a) (update_is us)
  next_is (member p a c) = or_or (next_is a) (next_is c)
  next_is (not_member p a c) = or_or (next_is a) (next_is c)
  next_is (subset p a c) = or_or (next_is a) (next_is c)
  next_is (kind_set p k) = refl
  next_is (booleans p) = refl
  next_is (sequences p a) = next_is a
  next_is (power p a) = next_is a
  next_is (functions p a c) = or_or (next_is a) (next_is c)
  next_is (records p fs) = field_is fs
  next_is (product p es) = some_is es
  next_is (cup p a c) = or_or (next_is a) (next_is c)
  next_is (cap p a c) = or_or (next_is a) (next_is c)
  next_is (minus p a c) = or_or (next_is a) (next_is c)
  next_is (filtered p a e) = or_or (next_is a) (next_is e)
  next_is (opened p os e) = next_is e
  next_is (tried p k a) = next_is a

  some_is : (es : Exprs) → any_primed (mean_all es) ≡ some_next es
  some_is no_exprs = refl
  some_is (more_exprs e es) = or_or (next_is e) (some_is es)

  field_is : (fs : Fields) → any_primed (parts_of (mean_fields fs)) ≡ field_next fs
  field_is no_fields = refl
  field_is (more_fields name e fs) = or_or (next_is e) (field_is fs)

  arm_is : (arms : Arms) → (arms_primed (mean_arms arms) || last_primed (means_other arms)) ≡ arm_next arms
  arm_is no_arms = refl
  arm_is (other e) = next_is e
  arm_is (more_arms c e arms) =
      moved (means c).primed (means e).primed (arms_primed (mean_arms arms)) (last_primed (means_other arms))
      ∙ or_or (next_is c) (or_or (next_is e) (arm_is arms))

  update_is : (us : Updates) → updates_primed (mean_updates us) ≡ update_next us
  update_is no_updates = refl
  update_is (more_updates keys e us) =
      or_assoc (any_primed (mean_all keys)) (means e).primed (updates_primed (mean_updates us))
      ∙ or_or (some_is keys) (or_or (next_is e) (update_is us))
