-- Subscripts that cover the variables: v of [][A]_v (book, chapter 8).
use Rattle.std.specs.Prelude.{ℕ, zero, suc, Bool, true, false, ◌&&◌, if◌then◌else◌, nat_eq}
use Rattle.tla_core.specs.Expr.{Expr, Exprs, now, tuple, no_exprs, more_exprs}

-- a variable, or a nested tuple of variables
abbrev mutual
  pub is_names : Expr → Bool
  is_names (now p i) = true
  is_names (tuple p es) = are_names es
  is_names e = false

  pub are_names : Exprs → Bool
  are_names no_exprs = true
  are_names (more_exprs e es) = is_names e && are_names es

abbrev mutual
  pub has_name : ℕ → Expr → Bool
  has_name i (now p j) = nat_eq i j
  has_name i (tuple p es) = have_name i es
  has_name i e = false

  pub have_name : ℕ → Exprs → Bool
  have_name i no_exprs = false
  have_name i (more_exprs e es) = if has_name i e then true else have_name i es

-- each of the first n variables is there
abbrev pub has_all : ℕ → Expr → Bool
has_all zero e = true
has_all (suc n) e = has_name n e && has_all n e

-- a variable or a nested tuple of variables that covers every variable
abbrev pub covers : ℕ → Expr → Bool
covers n e = is_names e && has_all n e
