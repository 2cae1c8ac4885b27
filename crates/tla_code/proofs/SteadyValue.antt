-- An expression that mentions no variable has the same value and the same members in all states.
use Rattle.std.proofs.Common.{◌≡◌, false, ◌++◌, get_or, refl}
use Rattle.tla_value.specs.Tree.{Tree, truth}
use Rattle.tla_core.specs.Meaning.{Bound, Present, Next}
use Rattle.tla_core.specs.Patterns.{opened_items}
use Rattle.tla_core.specs.Expr.{Expr, Exprs, Fields, Arms, Updates, constant, bound, now, next, unary, binary, equal, sub_seq, enumerated, tuple, record_of, conjunction, disjunction, implies, conditional, cases, assert, for_all, for_some, choose, image, function, except, member, not_member, subset, kind_set, booleans, sequences, power, functions, records, product, cup, cap, minus, filtered, opened, tried, no_exprs, more_exprs, no_fields, more_fields, no_arms, other, more_arms, no_updates, more_updates}
use Rattle.tla_core.specs.Value.{means, mean_all, mean_fields, mean_arms, means_other, mean_updates, val, mem}
use Rattle.tla_code.specs.NoVariables.{HasNoVariables, HaveNoVariables, FieldsHaveNone, ArmsHaveNone, UpdatesHaveNone}
use Rattle.tla_code.proofs.Pointwise.{none, more, neither, both}
use Rattle.tla_code.proofs.Alike.{Alike, AllAlike, FieldsAlike, ArmsAlike, LastAlike, UpdatesAlike, alike-constant, alike-bound, alike-kind_set, alike-booleans, alike-unary, alike-sequences, alike-power, alike-opened, alike-tried, alike-binary, alike-equal, alike-implies, alike-assert, alike-member, alike-not_member, alike-subset, alike-functions, alike-cup, alike-cap, alike-minus, alike-for_all, alike-for_some, alike-choose, alike-filtered, alike-sub_seq, alike-enumerated, alike-tuple, alike-conjunction, alike-disjunction, alike-image, alike-function, alike-product, alike-record_of, alike-records, alike-cases, alike-except}

-- the same bound names
abbrev Same : Bound → Bound → Type 0
Same b b' = b ≡ b'

grows : (b b' own : Bound) → Same b b' → Same (b ++ own) (b' ++ own)
grows b b' own r = λ i. r i ++ own

module _ (s s' : Present) (t t' : Next) where
  mutual
    pub alike : (e : Expr) → HasNoVariables e → Alike Same s s' t t' (means e) (means e)
    alike (constant p v) h = alike-constant p v
    alike (bound p i) h = alike-bound p i i (λ b b' r j. get_or (r j) i (truth false))
    alike (now p i) h = absurd h
    alike (next p i) h = absurd h
    alike (unary p op a) h = alike-unary p (alike a h) op
    alike (binary p op a c) h = alike-binary p (alike a h.0) (alike c h.1) op
    alike (equal p a c) h = alike-equal p (alike a h.0) (alike c h.1)
    alike (sub_seq p a c d) h = alike-sub_seq p (alike a h.0) (alike c h.1) (alike d h.2)
    alike (enumerated p es) h = alike-enumerated p (alike_all es h)
    alike (tuple p es) h = alike-tuple p (alike_all es h)
    alike (record_of p fs) h = alike-record_of p (alike_fields fs h)
    alike (conjunction p es) h = alike-conjunction p (alike_all es h)
    alike (disjunction p es) h = alike-disjunction p (alike_all es h)
    alike (implies p a c) h = alike-implies p (alike a h.0) (alike c h.1)
    alike (conditional p a c d) h = alike-cases p (more (alike a h.0, alike c h.1) none) (both (alike d h.2))
    alike (cases p arms) h = alike-cases p (alike_arms arms h) (alike_other arms h)
    alike (assert p a c) h = alike-assert p (alike a h.0) (alike c h.1)
    alike (for_all p a e) h = alike-for_all p (alike a h.0) (alike e h.1) grows
    alike (for_some p a e) h = alike-for_some p (alike a h.0) (alike e h.1) grows
    alike (choose p a e) h = alike-choose p (alike a h.0) (alike e h.1) grows
    alike (image p es e) h = alike-image p (alike_all es h.0) (alike e h.1) grows
    alike (function p es e) h = alike-function p (alike_all es h.0) (alike e h.1) grows
    alike (except p a us) h = alike-except p (alike a h.0) (alike_updates us h.1) grows
    alike (member p a c) h = alike-member p (alike a h.0) (alike c h.1)
    alike (not_member p a c) h = alike-not_member p (alike a h.0) (alike c h.1)
    alike (subset p a c) h = alike-subset p (alike a h.0) (alike c h.1)
    alike (kind_set p k) h = alike-kind_set p k
    alike (booleans p) h = alike-booleans p
    alike (sequences p a) h = alike-sequences p (alike a h)
    alike (power p a) h = alike-power p (alike a h)
    alike (functions p a c) h = alike-functions p (alike a h.0) (alike c h.1)
    alike (records p fs) h = alike-records p (alike_fields fs h)
    alike (product p es) h = alike-product p (alike_all es h)
    alike (cup p a c) h = alike-cup p (alike a h.0) (alike c h.1)
    alike (cap p a c) h = alike-cap p (alike a h.0) (alike c h.1)
    alike (minus p a c) h = alike-minus p (alike a h.0) (alike c h.1)
    alike (filtered p a e) h = alike-filtered p (alike a h.0) (alike e h.1) grows
    alike (opened p os e) h = alike-opened p (alike e h) grows os os (λ b b' r j. opened_items p os (r j))
    alike (tried p k a) h = alike-tried p (alike a h) k

    alike_all : (es : Exprs) → HaveNoVariables es → AllAlike Same s s' t t' (mean_all es) (mean_all es)
    alike_all no_exprs h = none
    alike_all (more_exprs e es) h = more (alike e h.0) (alike_all es h.1)

    alike_fields : (fs : Fields) → FieldsHaveNone fs → FieldsAlike Same s s' t t' (mean_fields fs) (mean_fields fs)
    alike_fields no_fields h = none
    alike_fields (more_fields name e fs) h = more (record { name = refl; part = alike e h.0 }) (alike_fields fs h.1)

    alike_arms : (arms : Arms) → ArmsHaveNone arms → ArmsAlike Same s s' t t' (mean_arms arms) (mean_arms arms)
    alike_arms no_arms h = none
    alike_arms (other e) h = none
    alike_arms (more_arms c e arms) h = more (alike c h.0, alike e h.1) (alike_arms arms h.2)

    alike_other : (arms : Arms) → ArmsHaveNone arms → LastAlike Same s s' t t' (means_other arms) (means_other arms)
    alike_other no_arms h = neither
    alike_other (other e) h = both (alike e h)
    alike_other (more_arms c e arms) h = alike_other arms h.2

    alike_updates : (us : Updates) → UpdatesHaveNone us → UpdatesAlike Same s s' t t' (mean_updates us) (mean_updates us)
    alike_updates no_updates h = none
    alike_updates (more_updates keys e us) h = more (alike_all keys h.0, alike e h.1) (alike_updates us h.2)

pub value_steady : (e : Expr) → HasNoVariables e → (b : Bound) (s s' : Present) (t t' : Next) → val e b s t ≡ val e b s' t'
value_steady e h b s s' t t' = (alike s s' t t' e h).value b b refl

pub members_steady : (v : Tree) (e : Expr) → HasNoVariables e → (b : Bound) (s s' : Present) (t t' : Next) → mem v e b s t ≡ mem v e b s' t'
members_steady v e h b s s' t t' = (alike s s' t t' e h).has v b b refl
