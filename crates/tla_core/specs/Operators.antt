-- Operators applied to the values of their operands. (Book, chapters 16 and 18; `0 ^ 0 = 1` and the faults are this
-- project's own choice.)
use Rattle.std.specs.Prelude.{◌+◌, ℤ, pos, negsuc, ◌+ℤ◌, ◌-ℤ◌, ◌*ℤ◌, neg_ℤ, int_lt, int_le, true, not, ◌||◌, List, [], ◌∷◌, ◌++◌, length, take, drop, Ok, if◌then◌else◌, unsigned_abs}
use Rattle.std.specs.Int.{int_div_euclid, int_rem_euclid, int_pow}
use Rattle.tla_value.specs.Tree.{Tree, truth, int, text, set, trees}
use Rattle.tla_value.specs.Order.{tree_eq}
use Rattle.tla_value.specs.Funs.{arguments, value_at}
use Rattle.tla_value.specs.Choices.{sequence, range_of}
use Rattle.tla_core.specs.Fault.{Place, SmallDivisor, NegativeExponent, OutsideDomain, NoField, EmptySequence, Outcome, ◌>>=◌, fault}
use Rattle.tla_core.specs.Expr.{Unary, Not, Negate, Union, Domain, Field, Len, Head, Tail, IsFinite, Cardinality, Binary, Iff, Unequal, Add, Subtract, Multiply, Divide, Modulo, Power, LessThan, GreaterThan, AtMost, AtLeast, Range, Apply, Single, Override, Concat, Append}
use Rattle.tla_core.specs.Kinds.{as_truth, as_int, as_set, as_fun, as_sequence, or_fault, rising_set, make_set, rising_fun, make_fun, make_sequence, number}

-- ---- numbers
-- two numbers
abbrev pub on_ints : {A : Type 0} → Place → Tree → Tree → (ℤ → ℤ → Outcome A) → Outcome A
on_ints p a b go = do
  x ← as_int p a
  y ← as_int p b
  go x y

-- a = b * (a \div b) + a % b with 0 <= a % b < b, for b above 0
abbrev pub quotient : Place → ℤ → ℤ → Outcome Tree
quotient p a b = if int_lt (pos 0) b then number p (int_div_euclid a b) else fault SmallDivisor p

abbrev pub remainder : Place → ℤ → ℤ → Outcome Tree
remainder p a b = if int_lt (pos 0) b then number p (int_rem_euclid a b) else fault SmallDivisor p

-- the product of n copies
abbrev pub power_of : Place → ℤ → ℤ → Outcome Tree
power_of p a (pos n) = number p (int_pow a n)
power_of p a (negsuc n) = fault NegativeExponent p

-- ---- sequences
abbrev pub first_item : Place → List Tree → Outcome Tree
first_item p [] = fault EmptySequence p
first_item p (t ∷ ts) = Ok t

abbrev pub other_items : Place → List Tree → Outcome Tree
other_items p [] = fault EmptySequence p
other_items p (t ∷ ts) = Ok (sequence ts)

-- the items m to n
abbrev pub part_of : Place → List Tree → ℤ → ℤ → Outcome Tree
part_of p ts m n =
    if int_lt n m then Ok (sequence [])
    else (if int_lt m (pos 1) || int_lt (pos (length ts)) n then fault OutsideDomain p
    else Ok (sequence (take (unsigned_abs (n -ℤ m) + 1) (drop (unsigned_abs (m -ℤ pos 1)) ts))))

-- ---- sets
-- the members of the members
abbrev pub joined_sets : Place → List Tree → Outcome (List Tree)
joined_sets p [] = Ok []
joined_sets p (t ∷ ts) = do
  xs ← as_set p t
  ys ← joined_sets p ts
  Ok (xs ++ ys)

-- ---- the rules
abbrev pub unary_rule : Unary → Place → Tree → Outcome Tree
unary_rule Not p t = do
  b ← as_truth p t
  Ok (truth (not b))
unary_rule Negate p t = do
  z ← as_int p t
  number p (neg_ℤ z)
unary_rule Union p t = do
  ts ← as_set p t
  us ← joined_sets p ts
  make_set p us
unary_rule Domain p t = do
  ps ← as_fun p t
  Ok (set (trees (arguments ps)))
unary_rule (Field name) p t = do
  ps ← as_fun p t
  or_fault NoField p (value_at (text name) ps)
unary_rule Len p t = do
  ts ← as_sequence p t
  Ok (int (pos (length ts)))
unary_rule Head p t = do
  ts ← as_sequence p t
  first_item p ts
unary_rule Tail p t = do
  ts ← as_sequence p t
  other_items p ts
unary_rule IsFinite p t = do
  ts ← as_set p t
  Ok (truth true)
unary_rule Cardinality p t = do
  ts ← as_set p t
  Ok (int (pos (length ts)))

abbrev pub binary_rule : Binary → Place → Tree → Tree → Outcome Tree
binary_rule Iff p a b = do
  x ← as_truth p a
  y ← as_truth p b
  Ok (truth (if x then y else not y))
binary_rule Unequal p a b = Ok (truth (not (tree_eq a b)))
binary_rule Add p a b = on_ints p a b (λ x y. number p (x +ℤ y))
binary_rule Subtract p a b = on_ints p a b (λ x y. number p (x -ℤ y))
binary_rule Multiply p a b = on_ints p a b (λ x y. number p (x *ℤ y))
binary_rule Divide p a b = on_ints p a b (quotient p)
binary_rule Modulo p a b = on_ints p a b (remainder p)
binary_rule Power p a b = on_ints p a b (power_of p)
binary_rule LessThan p a b = on_ints p a b (λ x y. Ok (truth (int_lt x y)))
binary_rule GreaterThan p a b = on_ints p a b (λ x y. Ok (truth (int_lt y x)))
binary_rule AtMost p a b = on_ints p a b (λ x y. Ok (truth (int_le x y)))
binary_rule AtLeast p a b = on_ints p a b (λ x y. Ok (truth (int_le y x)))
binary_rule Range p a b = on_ints p a b (λ x y. rising_set p (range_of x y))
binary_rule Apply p f a = do
  ps ← as_fun p f
  or_fault OutsideDomain p (value_at a ps)
binary_rule Single p a b = rising_fun p ((a, b) ∷ [])
binary_rule Override p f g = do
  ps ← as_fun p f
  qs ← as_fun p g
  make_fun p (ps ++ qs)
binary_rule Concat p s t = do
  xs ← as_sequence p s
  ys ← as_sequence p t
  make_sequence p (xs ++ ys)
binary_rule Append p s t = do
  xs ← as_sequence p s
  make_sequence p (xs ++ t ∷ [])

-- SubSeq(s, m, n)
abbrev pub sub_seq_rule : Place → Tree → Tree → Tree → Outcome Tree
sub_seq_rule p s a b = do
  ts ← as_sequence p s
  m ← as_int p a
  n ← as_int p b
  part_of p ts m n
