-- Worked examples, each by computation. A fault is that of the outermost node, at column 1, unless the comment says
-- otherwise.
use Rattle.std.proofs.Common.{◌≡◌, ℕ, pos, negsuc, true, false, [], ◌∷◌, refl, None, Ok}
use Rattle.tla_value.specs.Tree.{Tree, truth, int, text, set, fun, trees, pairs}
use Rattle.tla_core.specs.declared.fault.Place.{Place}
use Rattle.tla_core.specs.declared.fault.FaultCode.TheVariants.{WrongKind, Overflow, OutsideDomain, NoChoice, NoArm, NotEnumerable, NotSet, SmallDivisor, EmptySequence, NoField}
use Rattle.tla_core.specs.Fault.{Outcome, fault}
use Rattle.tla_core.specs.Expr.{Not, Negate, Union, Field, Head, Cardinality, Unequal, Add, Subtract, Divide, Modulo, Power, GreaterThan, Range, Apply, Naturals, Integers, Expr, constant, bound, next, unary, binary, equal, sub_seq, enumerated, tuple, record_of, conjunction, disjunction, conditional, cases, assert, for_all, for_some, choose, image, function, except, member, subset, kind_set, sequences, power, functions, records, product, cup, filtered, opened, tried, no_exprs, more_exprs, no_fields, more_fields, no_arms, more_arms, no_updates, more_updates}
use Rattle.tla_value.specs.Choices.{sequence}
use Rattle.tla_core.specs.Value.{val}

abbrev at : ℕ → Place
at c = record { line = 1; column = c }

-- the outermost node, and the others
abbrev p : Place
p = at 1

abbrev n : ℕ → Expr
n k = constant (at 99) (int (pos k))

-- a text of one letter, a set of one number, 1 \div 0 at column 7, and the greatest number
abbrev letter : Expr
letter = constant (at 99) (text (97 ∷ []))

abbrev only : ℕ → Expr
only k = enumerated (at 98) (more_exprs (n k) no_exprs)

abbrev one_by_zero : Expr
one_by_zero = binary (at 7) Divide (n 1) (n 0)

abbrev greatest : Expr
greatest = constant (at 99) (int (pos 9223372036854775807))

abbrev run : Expr → Outcome Tree
run e = val e [] None []

-- (-2) ^ 63
power-least : run (binary p Power (constant p (int (negsuc 1))) (n 63)) ≡ Ok (int (negsuc 9223372036854775807))
power-least = refl

-- 2 ^ 62
power-high : run (binary p Power (n 2) (n 62)) ≡ Ok (int (pos 4611686018427387904))
power-high = refl

-- 2 ^ 63
power-overflow : run (binary p Power (n 2) (n 63)) ≡ fault Overflow p
power-overflow = refl

-- (-1) ^ 9223372036854775807
power-minus_one : run (binary p Power (constant p (int (negsuc 0))) (n 9223372036854775807)) ≡ Ok (int (negsuc 0))
power-minus_one = refl

-- SubSeq(<<1, 2, 3>>, 2, 3)
sub_seq-part : run (sub_seq p (tuple p (more_exprs (n 1) (more_exprs (n 2) (more_exprs (n 3) no_exprs)))) (n 2) (n 3)) ≡ Ok (sequence (int (pos 2) ∷ int (pos 3) ∷ []))
sub_seq-part = refl

-- SubSeq(<<1>>, 0, -1)
sub_seq-empty : run (sub_seq p (tuple p (more_exprs (n 1) no_exprs)) (n 0) (constant p (int (negsuc 0)))) ≡ Ok (sequence ([]))
sub_seq-empty = refl

-- SubSeq(<<1>>, 1, 2)
sub_seq-outside : run (sub_seq p (tuple p (more_exprs (n 1) no_exprs)) (n 1) (n 2)) ≡ fault OutsideDomain p
sub_seq-outside = refl

-- FALSE /\ 1
and-decided : run (conjunction p (more_exprs (constant p (truth false)) (more_exprs (n 1) no_exprs))) ≡ Ok (truth false)
and-decided = refl

-- TRUE /\ 1
and-kind : run (conjunction p (more_exprs (constant p (truth true)) (more_exprs (n 1) no_exprs))) ≡ fault WrongKind p
and-kind = refl

-- 1 \in {2} \cup Nat
member-cup : run (member p (n 1) (cup p (enumerated p (more_exprs (n 2) no_exprs)) (kind_set p Naturals))) ≡ Ok (truth true)
member-cup = refl

-- "a" \in Nat
member-other_kind : run (member p (constant p (text (97 ∷ []))) (kind_set p Naturals)) ≡ Ok (truth false)
member-other_kind = refl

-- {1} \subseteq Nat
subset-naturals : run (subset p (enumerated p (more_exprs (n 1) no_exprs)) (kind_set p Naturals)) ≡ Ok (truth true)
subset-naturals = refl

-- Nat \subseteq Int
subset-endless : run (subset p (kind_set p Naturals) (kind_set p Integers)) ≡ fault NotEnumerable p
subset-endless = refl

-- 1 \in {v \in Nat : v = 1}
member-filtered : run (member p (n 1) (filtered p (kind_set p Naturals) (equal p (bound p 0) (n 1)))) ≡ Ok (truth true)
member-filtered = refl

-- {v \in Nat : v = 1}
filtered-endless : run (filtered p (kind_set p Naturals) (equal p (bound p 0) (n 1))) ≡ fault NotEnumerable p
filtered-endless = refl

-- [[a |-> 0] EXCEPT !.a = 1, !.a = @ + 1].a
except-twice : run (unary p (Field (97 ∷ [])) (except p (record_of p (more_fields (97 ∷ []) (n 0) no_fields)) (more_updates (more_exprs (constant p (text (97 ∷ []))) no_exprs) (n 1) (more_updates (more_exprs (constant p (text (97 ∷ []))) no_exprs) (binary p Add (bound p 0) (n 1)) no_updates)))) ≡ Ok (int (pos 2))
except-twice = refl

-- CHOOSE v \in {} : TRUE
choose-none : run (choose p (enumerated p no_exprs) (constant p (truth true))) ≡ fault NoChoice p
choose-none = refl

-- CASE FALSE -> 1
case-none : run (cases p (more_arms (constant p (truth false)) (n 1) no_arms)) ≡ fault NoArm p
case-none = refl

-- UNION {}
union-empty : run (unary p Union (enumerated p no_exprs)) ≡ Ok (set (trees []))
union-empty = refl

-- [i \in 1..2 |-> i] = <<1, 2>>
function-is_tuple : run (equal p (function p (more_exprs (binary p Range (n 1) (n 2)) no_exprs) (bound p 0)) (tuple p (more_exprs (n 1) (more_exprs (n 2) no_exprs)))) ≡ Ok (truth true)
function-is_tuple = refl

-- [i \in 1..2, j \in {5} |-> i + j][2, 5]
function-of_two : run (binary p Apply (function p (more_exprs (binary p Range (n 1) (n 2)) (more_exprs (enumerated p (more_exprs (n 5) no_exprs)) no_exprs)) (binary p Add (bound p 0) (bound p 1))) (tuple p (more_exprs (n 2) (more_exprs (n 5) no_exprs)))) ≡ Ok (int (pos 7))
function-of_two = refl

-- SUBSET {2, 1}
power-set : run (power p (enumerated p (more_exprs (n 2) (more_exprs (n 1) no_exprs)))) ≡ Ok (set (trees (set (trees []) ∷ set (trees (int (pos 1) ∷ [])) ∷ set (trees (int (pos 2) ∷ [])) ∷ set (trees (int (pos 1) ∷ int (pos 2) ∷ [])) ∷ [])))
power-set = refl

-- [{1, 2} -> {0}] = {<<0, 0>>}
functions-set : run (equal p (functions p (enumerated p (more_exprs (n 1) (more_exprs (n 2) no_exprs))) (enumerated p (more_exprs (n 0) no_exprs))) (enumerated p (more_exprs (tuple p (more_exprs (n 0) (more_exprs (n 0) no_exprs))) no_exprs))) ≡ Ok (truth true)
functions-set = refl

-- Cardinality([a : {1, 2}, b : {3, 4}])
records-count : run (unary p Cardinality (records p (more_fields (97 ∷ []) (enumerated p (more_exprs (n 1) (more_exprs (n 2) no_exprs))) (more_fields (98 ∷ []) (enumerated p (more_exprs (n 3) (more_exprs (n 4) no_exprs))) no_fields)))) ≡ Ok (int (pos 4))
records-count = refl

-- [b |-> 3, a |-> 2] \in [a : {1, 2}, b : Nat]
record-member : run (member p (record_of p (more_fields (98 ∷ []) (n 3) (more_fields (97 ∷ []) (n 2) no_fields))) (records p (more_fields (97 ∷ []) (enumerated p (more_exprs (n 1) (more_exprs (n 2) no_exprs))) (more_fields (98 ∷ []) (kind_set p Naturals) no_fields)))) ≡ Ok (truth true)
record-member = refl

-- (-7) \div 2
divide-down : run (binary p Divide (constant p (int (negsuc 6))) (n 2)) ≡ Ok (int (negsuc 3))
divide-down = refl

-- (-7) % 2
modulo-up : run (binary p Modulo (constant p (int (negsuc 6))) (n 2)) ≡ Ok (int (pos 1))
modulo-up = refl

-- -(7 \div 2)
negate-after : run (unary p Negate (binary p Divide (n 7) (n 2))) ≡ Ok (int (negsuc 2))
negate-after = refl

-- Cardinality({1, 2} \X {3} \X {4, 5})
product-count : run (unary p Cardinality (product p (more_exprs (enumerated p (more_exprs (n 1) (more_exprs (n 2) no_exprs))) (more_exprs (enumerated p (more_exprs (n 3) no_exprs)) (more_exprs (enumerated p (more_exprs (n 4) (more_exprs (n 5) no_exprs))) no_exprs))))) ≡ Ok (int (pos 4))
product-count = refl

-- <<1, 7>> \in {1} \X Nat
product-member : run (member p (tuple p (more_exprs (n 1) (more_exprs (n 7) no_exprs))) (product p (more_exprs (enumerated p (more_exprs (n 1) no_exprs)) (more_exprs (kind_set p Naturals) no_exprs)))) ≡ Ok (truth true)
product-member = refl

-- [ : ] has only the empty function
records-empty : run (records p no_fields) ≡ Ok (set (trees (fun (pairs []) ∷ [])))
records-empty = refl

-- 5 - 3 + 1 = 3
left-associated : run (equal p (binary p Add (binary p Subtract (n 5) (n 3)) (n 1)) (n 3)) ≡ Ok (truth true)
left-associated = refl

-- ~ 1 = 2
not-equal : run (unary p Not (equal p (n 1) (n 2))) ≡ Ok (truth true)
not-equal = refl

-- (CHOOSE v \in {3, 1, 2} : v > 1) = 2
choose-least : run (choose p (enumerated p (more_exprs (n 3) (more_exprs (n 1) (more_exprs (n 2) no_exprs)))) (binary p GreaterThan (bound p 0) (n 1))) ≡ Ok (int (pos 2))
choose-least = refl

-- 1 # "1"
unequal-kinds : run (binary p Unequal (n 1) letter) ≡ Ok (truth true)
unequal-kinds = refl

-- 0 ^ 0 = 1
power-zero : run (binary p Power (n 0) (n 0)) ≡ Ok (int (pos 1))
power-zero = refl

-- 9223372036854775807 + 1
add-overflow : run (binary p Add greatest (n 1)) ≡ fault Overflow p
add-overflow = refl

-- 1 + "a"
add-kind : run (binary p Add (n 1) letter) ≡ fault WrongKind p
add-kind = refl

-- 1 % 0
modulo-zero : run (binary p Modulo (n 1) (n 0)) ≡ fault SmallDivisor p
modulo-zero = refl

-- "a" + (1 \div 0): both operands are evaluated first
operands-first : run (binary p Add letter one_by_zero) ≡ fault SmallDivisor (at 7)
operands-first = refl

-- [i \in 1..2 |-> 0] with EXCEPT ![9] = @ + 1 is unchanged, and its new value is not evaluated
except-outside : run (except p (tuple p (more_exprs (n 0) (more_exprs (n 0) no_exprs))) (more_updates (more_exprs (n 9) no_exprs) one_by_zero no_updates)) ≡ Ok (sequence (int (pos 0) ∷ int (pos 0) ∷ []))
except-outside = refl

-- [5 EXCEPT ![1 \div 0] = 2]: the kind before the key
except-kind : run (except p (n 5) (more_updates (more_exprs one_by_zero no_exprs) (n 2) no_updates)) ≡ fault WrongKind p
except-kind = refl

-- 1 \in 2: the fault is that of the set
member-kind : run (member p (n 1) (n 2)) ≡ fault WrongKind (at 99)
member-kind = refl

-- {} \subseteq 5
subset-empty : run (subset p (enumerated p no_exprs) (n 5)) ≡ Ok (truth true)
subset-empty = refl

-- {2} \cup Nat
cup-endless : run (cup p (only 2) (kind_set (at 5) Naturals)) ≡ fault NotEnumerable (at 5)
cup-endless = refl

-- {1 : x \in 5, y \in 1 \div 0}: the sets are evaluated first
image-sets : run (image p (more_exprs (n 5) (more_exprs one_by_zero no_exprs)) (n 1)) ≡ fault SmallDivisor (at 7)
image-sets = refl

-- {Seq(Nat)}: the fault is that of Seq
sequences-endless : run (enumerated p (more_exprs (sequences (at 4) (kind_set (at 5) Naturals)) no_exprs)) ≡ fault NotEnumerable (at 4)
sequences-endless = refl

-- 1 \in [1 \div 0 -> Nat]: the set is not evaluated
functions-other_kind : run (member p (n 1) (functions (at 3) one_by_zero (kind_set (at 5) Naturals))) ≡ Ok (truth false)
functions-other_kind = refl

-- IF TRUE THEN 1 ELSE 1 \div 0
conditional-arm : run (conditional p (constant p (truth true)) (n 1) one_by_zero) ≡ Ok (int (pos 1))
conditional-arm = refl

-- \A v \in {1, 2} : v, whose body is no truth value
for_all-kind : run (for_all p (only 1) (bound (at 4) 0)) ≡ fault WrongKind p
for_all-kind = refl

-- \E v \in {1, 2} : v = 1 \/ 1 \div 0 = 1 stops at 1
for_some-stops : run (for_some p (enumerated p (more_exprs (n 1) (more_exprs (n 2) no_exprs))) (disjunction (at 3) (more_exprs (equal (at 4) (bound (at 4) 0) (n 1)) (more_exprs (equal (at 5) one_by_zero (n 1)) no_exprs)))) ≡ Ok (truth true)
for_some-stops = refl

-- Head(<< >>)
head-empty : run (unary p Head (tuple p no_exprs)) ≡ fault EmptySequence p
head-empty = refl

-- [a |-> 1].b
field-none : run (unary p (Field (98 ∷ [])) (record_of p (more_fields (97 ∷ []) (n 1) no_fields))) ≡ fault NoField p
field-none = refl

-- Assert(TRUE, 1 \div 0)
assert-true : run (assert p (constant p (truth true)) one_by_zero) ≡ Ok (truth true)
assert-true = refl

-- x' if it is not set
next-unset : val (next p 0) [] None (None ∷ []) ≡ fault NotSet p
next-unset = refl

-- ---- tuple patterns: <<1, 2>> and <<1, 2, 3>>, each in a set of one, and a pattern of two names for bound name 0
abbrev two : Expr
two = tuple (at 97) (more_exprs (n 1) (more_exprs (n 2) no_exprs))

abbrev three : Expr
three = tuple (at 97) (more_exprs (n 1) (more_exprs (n 2) (more_exprs (n 3) no_exprs)))

abbrev alone : Expr → Expr
alone e = enumerated (at 98) (more_exprs e no_exprs)

abbrev under_two_names : Expr → Expr
under_two_names e = opened p (record { name = 0; items = 2 } ∷ []) e

abbrev yes : Expr
yes = constant (at 3) (truth true)

-- \A <<a, b>> \in {<<1, 2>>} : b > a
pattern-fits : run (for_all p (alone two) (under_two_names (binary p GreaterThan (bound p 2) (bound p 1)))) ≡ Ok (truth true)
pattern-fits = refl

-- \A <<a, b>> \in {<<1, 2, 3>>} : TRUE: a longer sequence doesn't fit
pattern-longer : run (for_all p (alone three) (under_two_names yes)) ≡ fault WrongKind p
pattern-longer = refl

-- \A <<a, b>> \in {<<1>>} : TRUE: nor does a shorter one
pattern-shorter : run (for_all p (alone (tuple (at 97) (more_exprs (n 1) no_exprs))) (under_two_names yes)) ≡ fault WrongKind p
pattern-shorter = refl

-- CHOOSE <<a, b>> \in {<<1, 2>>} : TRUE is the element
pattern-chosen : run (choose p (alone two) (under_two_names yes)) ≡ Ok (sequence (int (pos 1) ∷ int (pos 2) ∷ []))
pattern-chosen = refl

-- {b : <<a, b>> \in {<<1, 2>>}}
pattern-image : run (image p (more_exprs (tried p 2 (alone two)) no_exprs) (under_two_names (bound p 2))) ≡ Ok (set (trees (int (pos 2) ∷ [])))
pattern-image = refl

-- {1 : <<a, b>> \in {<<1, 2, 3>>}, y \in 1 \div 0}: a longer sequence is met before the next set
pattern-image_longer : run (image p (more_exprs (tried p 2 (alone three)) (more_exprs one_by_zero no_exprs)) (under_two_names (n 1))) ≡ fault WrongKind p
pattern-image_longer = refl

-- {1 : <<a, b>> \in 5, y \in 1 \div 0}: the fault that 5 is no set comes after those of all sets
pattern-image_sets : run (image p (more_exprs (tried p 2 (n 5)) (more_exprs one_by_zero no_exprs)) (under_two_names (n 1))) ≡ fault SmallDivisor (at 7)
pattern-image_sets = refl

-- <<1, 2, 3>> \in {<<a, b>> \in {<<1, 2, 3>>} : TRUE}
pattern-member_longer : run (member p three (filtered p (alone three) (under_two_names yes))) ≡ fault WrongKind p
pattern-member_longer = refl

-- <<1, 2, 3>> \in {<<a, b>> \in {<<1, 2>>} : TRUE}: no member of the set is checked against the pattern
pattern-no_member : run (member p three (filtered p (alone two) (under_two_names yes))) ≡ Ok (truth false)
pattern-no_member = refl
