-- Whether the names of an expression exist, if b names are bound outside it, there are n variables, and s says whether
-- there is a present state. (This project's own choice: what an evaluation requires.)
use Rattle.std.specs.Prelude.{◌≡◌, ℕ, ◌+◌, ◌≤◌, ◌^◌, nat_lt, Bool, true, ◌&&◌, Option, Some, None}
use Rattle.std.specs.List.{list_all}
use Rattle.tla_core.specs.declared.expression.Opening.{Opening}
use Rattle.tla_core.specs.Patterns.{items_in}
use Rattle.tla_core.specs.Expr.{Expr, Exprs, Fields, Arms, Updates, constant, bound, now, next, unary, binary, equal, sub_seq, enumerated, tuple, record_of, conjunction, disjunction, implies, conditional, cases, assert, for_all, for_some, choose, image, function, except, member, not_member, subset, kind_set, booleans, sequences, power, functions, records, product, cup, cap, minus, filtered, opened, tried, no_exprs, more_exprs, no_fields, more_fields, no_arms, other, more_arms, no_updates, more_updates}

abbrev pub count : Exprs → ℕ
count no_exprs = 0
count (more_exprs e es) = count es + 1

abbrev mutual
  pub fits : Expr → ℕ → ℕ → Bool → Bool
  fits (constant p v) b n s = true
  fits (bound p i) b n s = nat_lt i b
  fits (now p i) b n s = s && nat_lt i n
  fits (next p i) b n s = nat_lt i n
  fits (unary p op a) b n s = fits a b n s
  fits (binary p op a c) b n s = fits a b n s && fits c b n s
  fits (equal p a c) b n s = fits a b n s && fits c b n s
  fits (sub_seq p a c d) b n s = fits a b n s && (fits c b n s && fits d b n s)
  fits (enumerated p es) b n s = fits_all es b n s
  fits (tuple p es) b n s = fits_all es b n s
  fits (record_of p fs) b n s = fits_fields fs b n s
  fits (conjunction p es) b n s = fits_all es b n s
  fits (disjunction p es) b n s = fits_all es b n s
  fits (implies p a c) b n s = fits a b n s && fits c b n s
  fits (conditional p a c d) b n s = fits a b n s && (fits c b n s && fits d b n s)
  fits (cases p arms) b n s = fits_arms arms b n s
  fits (assert p a c) b n s = fits a b n s && fits c b n s
  -- the body of a form that binds has more names
  fits (for_all p a e) b n s = fits a b n s && fits e (b + 1) n s
  fits (for_some p a e) b n s = fits a b n s && fits e (b + 1) n s
  fits (choose p a e) b n s = fits a b n s && fits e (b + 1) n s
  fits (image p es e) b n s = fits_all es b n s && fits e (b + count es) n s
  fits (function p es e) b n s = fits_all es b n s && fits e (b + count es) n s
  fits (except p a us) b n s = fits a b n s && fits_updates us b n s
  fits (member p a c) b n s = fits a b n s && fits c b n s
  fits (not_member p a c) b n s = fits a b n s && fits c b n s
  fits (subset p a c) b n s = fits a b n s && fits c b n s
  fits (kind_set p k) b n s = true
  fits (booleans p) b n s = true
  fits (sequences p a) b n s = fits a b n s
  fits (power p a) b n s = fits a b n s
  fits (functions p a c) b n s = fits a b n s && fits c b n s
  fits (records p fs) b n s = fits_fields fs b n s
  fits (product p es) b n s = fits_all es b n s
  fits (cup p a c) b n s = fits a b n s && fits c b n s
  fits (cap p a c) b n s = fits a b n s && fits c b n s
  fits (minus p a c) b n s = fits a b n s && fits c b n s
  fits (filtered p a e) b n s = fits a b n s && fits e (b + 1) n s
  -- a destructured name is bound outside, and each item is one more name
  fits (opened p os e) b n s = list_all (λ (o : Opening). nat_lt o.name b) os && fits e (b + items_in os) n s
  fits (tried p k a) b n s = fits a b n s

  pub fits_all : Exprs → ℕ → ℕ → Bool → Bool
  fits_all no_exprs b n s = true
  fits_all (more_exprs e es) b n s = fits e b n s && fits_all es b n s

  pub fits_fields : Fields → ℕ → ℕ → Bool → Bool
  fits_fields no_fields b n s = true
  fits_fields (more_fields name e fs) b n s = fits e b n s && fits_fields fs b n s

  pub fits_arms : Arms → ℕ → ℕ → Bool → Bool
  fits_arms no_arms b n s = true
  fits_arms (other e) b n s = fits e b n s
  fits_arms (more_arms c e arms) b n s = fits c b n s && (fits e b n s && fits_arms arms b n s)

  -- `@` is one more name
  pub fits_updates : Updates → ℕ → ℕ → Bool → Bool
  fits_updates no_updates b n s = true
  fits_updates (more_updates keys e us) b n s = fits_all keys b n s && (fits e (b + 1) n s && fits_updates us b n s)

-- the code's count of names: none if there are 2 ^ 64 or more
abbrev pub Counts : Option ℕ → ℕ → Type 0
Counts (Some k) n = n ≡ k
Counts None n = 2 ^ 64 ≤ n
