-- The expression that each form makes of its operands. (Book, chapter 16.)
use Rattle.tla_core.specs.declared.fault.Place.{Place}
use Rattle.tla_core.specs.Expr.{Expr, Exprs, Fields, Arms, no_exprs, more_exprs, no_arms, other, more_arms, unary, binary, equal, sub_seq, enumerated, tuple, record_of, conjunction, disjunction, implies, conditional, cases, for_all, for_some, choose, image, function, member, not_member, subset, sequences, power, functions, records, product, cup, cap, minus, filtered, tried}
use Rattle.tla_core.specs.Expr as expr
use Rattle.tla_core.specs.ExprOf.{unary_of, binary_of}
use Rattle.tla_code.specs.declared.code.OneForm.{OneForm}
use Rattle.tla_code.specs.declared.code.OneForm.TheVariants.{Operator as of_one, Field, Sequences, Power, CheckPattern}
use Rattle.tla_code.specs.declared.code.TwoForm.{TwoForm}
use Rattle.tla_code.specs.declared.code.TwoForm.TheVariants.{Operator as of_two, Apply, Equal, Implies, Member, NotMember, Subset, Functions, Cup, Cap, Minus}
use Rattle.tla_code.specs.declared.code.ThreeForm.{ThreeForm}
use Rattle.tla_code.specs.declared.code.ThreeForm.TheVariants.{If, SubSeq}
use Rattle.tla_code.specs.declared.code.ListForm.{ListForm}
use Rattle.tla_code.specs.declared.code.ListForm.TheVariants.{Enumerated, Tuple, Conjunction, Disjunction, Product, Cases}
use Rattle.tla_code.specs.declared.code.FieldForm.{FieldForm}
use Rattle.tla_code.specs.declared.code.FieldForm.TheVariants.{Record, Records}
use Rattle.tla_code.specs.declared.code.BinderForm.{BinderForm}
use Rattle.tla_code.specs.declared.code.BinderForm.TheVariants.{ForAll, ForSome, Choose, Filter}
use Rattle.tla_code.specs.declared.code.MapForm.{MapForm}
use Rattle.tla_code.specs.declared.code.MapForm.TheVariants.{Image, Function}

abbrev pub one_expr : OneForm → Place → Expr → Expr
one_expr (of_one op) p a = unary p (unary_of op) a
one_expr (Field name) p a = unary p (expr.Field name.now) a
one_expr Sequences p a = sequences p a
one_expr Power p a = power p a
one_expr (CheckPattern count) p a = tried p count a

abbrev pub two_expr : TwoForm → Place → Expr → Expr → Expr
two_expr (of_two op) p a c = binary p (binary_of op) a c
two_expr Apply p a c = binary p expr.Apply a c
two_expr Equal p a c = equal p a c
two_expr Implies p a c = implies p a c
two_expr Member p a c = member p a c
two_expr NotMember p a c = not_member p a c
two_expr Subset p a c = subset p a c
two_expr Functions p a c = functions p a c
two_expr Cup p a c = cup p a c
two_expr Cap p a c = cap p a c
two_expr Minus p a c = minus p a c

abbrev pub three_expr : ThreeForm → Place → Expr → Expr → Expr → Expr
three_expr If p a c d = conditional p a c d
three_expr SubSeq p a c d = sub_seq p a c d

-- the arms of a CASE: conditions and values in turn, and last that of OTHER, if there is one more
abbrev pub arms_in : Exprs → Arms
arms_in no_exprs = no_arms
arms_in (more_exprs e no_exprs) = other e
arms_in (more_exprs c (more_exprs e rest)) = more_arms c e (arms_in rest)

abbrev pub list_expr : ListForm → Place → Exprs → Expr
list_expr Enumerated p es = enumerated p es
list_expr Tuple p es = tuple p es
list_expr Conjunction p es = conjunction p es
list_expr Disjunction p es = disjunction p es
list_expr Product p es = product p es
list_expr Cases p es = cases p (arms_in es)

abbrev pub field_expr : FieldForm → Place → Fields → Expr
field_expr Record p fs = record_of p fs
field_expr Records p fs = records p fs

abbrev pub binder_expr : BinderForm → Place → Expr → Expr → Expr
binder_expr ForAll p a e = for_all p a e
binder_expr ForSome p a e = for_some p a e
binder_expr Choose p a e = choose p a e
binder_expr Filter p a e = filtered p a e

abbrev pub map_expr : MapForm → Place → Exprs → Expr → Expr
map_expr Image p es e = image p es e
map_expr Function p es e = function p es e
