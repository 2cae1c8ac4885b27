-- The size of an expression: the number of its nodes, and of those on its longest path.
use Rattle.std.specs.Prelude.{ℕ, ◌+◌, ◌≤◌, max}
use Rattle.tla_core.specs.Expr.{Expr, Exprs, Fields, Arms, Updates, constant, bound, now, next, unary, binary, equal, sub_seq, enumerated, tuple, record_of, conjunction, disjunction, implies, conditional, cases, assert, for_all, for_some, choose, image, function, except, member, not_member, subset, kind_set, booleans, sequences, power, functions, records, product, cup, cap, minus, filtered, opened, tried, no_exprs, more_exprs, no_fields, more_fields, no_arms, other, more_arms, no_updates, more_updates}
use Rattle.tla_model.specs.declared.limits.TheConstants.{MAX_NODES, MAX_PATH}

abbrev mutual
  pub nodes : Expr → ℕ
  nodes (constant p v) = 1
  nodes (bound p i) = 1
  nodes (now p i) = 1
  nodes (next p i) = 1
  nodes (unary p o a) = nodes a + 1
  nodes (binary p o a b) = nodes a + nodes b + 1
  nodes (equal p a b) = nodes a + nodes b + 1
  nodes (sub_seq p a b c) = nodes a + nodes b + nodes c + 1
  nodes (enumerated p es) = nodes_each es + 1
  nodes (tuple p es) = nodes_each es + 1
  nodes (record_of p fs) = nodes_fields fs + 1
  nodes (conjunction p es) = nodes_each es + 1
  nodes (disjunction p es) = nodes_each es + 1
  nodes (implies p a b) = nodes a + nodes b + 1
  nodes (conditional p a b c) = nodes a + nodes b + nodes c + 1
  nodes (cases p arms) = nodes_arms arms + 1
  nodes (assert p a b) = nodes a + nodes b + 1
  nodes (for_all p a b) = nodes a + nodes b + 1
  nodes (for_some p a b) = nodes a + nodes b + 1
  nodes (choose p a b) = nodes a + nodes b + 1
  nodes (image p es a) = nodes_each es + nodes a + 1
  nodes (function p es a) = nodes_each es + nodes a + 1
  nodes (except p a us) = nodes a + nodes_updates us + 1
  nodes (member p a b) = nodes a + nodes b + 1
  nodes (not_member p a b) = nodes a + nodes b + 1
  nodes (subset p a b) = nodes a + nodes b + 1
  nodes (kind_set p o) = 1
  nodes (booleans p) = 1
  nodes (sequences p a) = nodes a + 1
  nodes (power p a) = nodes a + 1
  nodes (functions p a b) = nodes a + nodes b + 1
  nodes (records p fs) = nodes_fields fs + 1
  nodes (product p es) = nodes_each es + 1
  nodes (cup p a b) = nodes a + nodes b + 1
  nodes (cap p a b) = nodes a + nodes b + 1
  nodes (minus p a b) = nodes a + nodes b + 1
  nodes (filtered p a b) = nodes a + nodes b + 1
  -- a tuple pattern is part of the form that binds: neither it nor its names are nodes
  nodes (opened p os a) = nodes a
  nodes (tried p k a) = nodes a

  pub nodes_each : Exprs → ℕ
  nodes_each no_exprs = 0
  nodes_each (more_exprs e es) = nodes e + nodes_each es

  pub nodes_fields : Fields → ℕ
  nodes_fields no_fields = 0
  nodes_fields (more_fields n e fs) = nodes e + nodes_fields fs

  pub nodes_arms : Arms → ℕ
  nodes_arms no_arms = 0
  nodes_arms (other e) = nodes e
  nodes_arms (more_arms a b arms) = nodes a + nodes b + nodes_arms arms

  pub nodes_updates : Updates → ℕ
  nodes_updates no_updates = 0
  nodes_updates (more_updates path e us) = nodes_each path + nodes e + nodes_updates us

abbrev mutual
  pub depth : Expr → ℕ
  depth (constant p v) = 1
  depth (bound p i) = 1
  depth (now p i) = 1
  depth (next p i) = 1
  depth (unary p o a) = depth a + 1
  depth (binary p o a b) = max (depth a) (depth b) + 1
  depth (equal p a b) = max (depth a) (depth b) + 1
  depth (sub_seq p a b c) = max (depth a) (max (depth b) (depth c)) + 1
  depth (enumerated p es) = depth_each es + 1
  depth (tuple p es) = depth_each es + 1
  depth (record_of p fs) = depth_fields fs + 1
  depth (conjunction p es) = depth_each es + 1
  depth (disjunction p es) = depth_each es + 1
  depth (implies p a b) = max (depth a) (depth b) + 1
  depth (conditional p a b c) = max (depth a) (max (depth b) (depth c)) + 1
  depth (cases p arms) = depth_arms arms + 1
  depth (assert p a b) = max (depth a) (depth b) + 1
  depth (for_all p a b) = max (depth a) (depth b) + 1
  depth (for_some p a b) = max (depth a) (depth b) + 1
  depth (choose p a b) = max (depth a) (depth b) + 1
  depth (image p es a) = max (depth_each es) (depth a) + 1
  depth (function p es a) = max (depth_each es) (depth a) + 1
  depth (except p a us) = max (depth a) (depth_updates us) + 1
  depth (member p a b) = max (depth a) (depth b) + 1
  depth (not_member p a b) = max (depth a) (depth b) + 1
  depth (subset p a b) = max (depth a) (depth b) + 1
  depth (kind_set p o) = 1
  depth (booleans p) = 1
  depth (sequences p a) = depth a + 1
  depth (power p a) = depth a + 1
  depth (functions p a b) = max (depth a) (depth b) + 1
  depth (records p fs) = depth_fields fs + 1
  depth (product p es) = depth_each es + 1
  depth (cup p a b) = max (depth a) (depth b) + 1
  depth (cap p a b) = max (depth a) (depth b) + 1
  depth (minus p a b) = max (depth a) (depth b) + 1
  depth (filtered p a b) = max (depth a) (depth b) + 1
  depth (opened p os a) = depth a
  depth (tried p k a) = depth a

  pub depth_each : Exprs → ℕ
  depth_each no_exprs = 0
  depth_each (more_exprs e es) = max (depth e) (depth_each es)

  pub depth_fields : Fields → ℕ
  depth_fields no_fields = 0
  depth_fields (more_fields n e fs) = max (depth e) (depth_fields fs)

  pub depth_arms : Arms → ℕ
  depth_arms no_arms = 0
  depth_arms (other e) = depth e
  depth_arms (more_arms a b arms) = max (depth a) (max (depth b) (depth_arms arms))

  pub depth_updates : Updates → ℕ
  depth_updates no_updates = 0
  depth_updates (more_updates path e us) = max (depth_each path) (max (depth e) (depth_updates us))

-- the limits of an expression (this project's own choice)
pub record IsWithinLimits (e : Expr) : Type 0 where
  pub small : nodes e ≤ MAX_NODES
  pub shallow : depth e ≤ MAX_PATH
