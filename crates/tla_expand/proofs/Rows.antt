-- Worked rows, by computation: what stands in the place of parameters, under primes and UNCHANGED.
use Rattle.std.proofs.Common.{◌≡◌, ℕ, [], ◌∷◌, refl, Option, Some, None}
use Rattle.std.specs.Prelude.{pos, codes, true}
use Rattle.tla_lex.specs.declared.token.Place as text
use Rattle.tla_value.specs.Tree.{truth, int}
use Rattle.tla_core.specs.declared.fault.Place.{Place}
use Rattle.tla_core.specs.Expr.{Expr, constant, bound, now, next, equal, for_all, conjunction, no_exprs, more_exprs}
use Rattle.tla_tree.specs.declared.word.Written.{Written}
use Rattle.tla_tree.specs.declared.tree.Infix.TheVariants as infixes
use Rattle.tla_tree.specs.declared.tree.Prefix.TheVariants as prefixes
use Rattle.tla_tree.specs.declared.tree.Brackets.TheVariants as brackets
use Rattle.tla_tree.specs.declared.tree.Quantifier.TheVariants as quantifier
use Rattle.tla_tree.specs.Tree.{Tree, Trees, none, more, unbound, undefined, defined, DefinesOperator, Name, Number, Call, Prime, Listing, Unary, Binary, Quantified, Let}
use Rattle.tla_tree.specs.Tree as t
use Rattle.tla_scopes.specs.Places as names
use Rattle.tla_scopes.specs.Meanings.{standard, with_name, variable}
use Rattle.tla_scopes.specs.Expand.{expand}

abbrev at : text.Place
at = record { line = 1; column = 1 }

abbrev here : Place
here = record { line = 1; column = 1 }

abbrev named : names.Name → Written
named x = record { place = at; word = x }

abbrev name : names.Name → Tree
name x = Name (named x)

abbrev equals : Tree → Tree → Tree
equals a b = Binary at infixes.Equal (named (codes "=")) a b

abbrev all : names.Name → ℕ → Tree → Tree
all x s e = Quantified at quantifier.ForAll (t.bound (t.Each (named x ∷ [])) (Number at s) unbound) e

-- LET f(a) == body IN e
abbrev let_f : Tree → Tree → Tree
let_f body e = Let at (defined (DefinesOperator (named (codes "f")) (named (codes "a") ∷ []) body) undefined) e

abbrev f : Tree → Tree
f e = Call (named (codes "f")) (more e none)

abbrev number : ℕ → Expr
number n = constant here (int (pos n))

-- x and y are variables
abbrev run : Tree → Option Expr
run e = expand e (with_name (codes "x") (variable 0) (with_name (codes "y") (variable 1) standard)) 0

-- an argument keeps the names that it uses: LET f(a) == \A i \in 1 : a = i IN \A j \in 2 : f(j)
argument_uses : run (let_f (all (codes "i") 1 (equals (name (codes "a")) (name (codes "i")))) (all (codes "j") 2 (f (name (codes "j")))))
    ≡ Some (for_all here (number 2) (for_all here (number 1) (equal here (bound here 0) (bound here 1))))
argument_uses = refl

-- also where its name is bound in the body
no_capture : run (let_f (all (codes "i") 1 (equals (name (codes "a")) (name (codes "i")))) (all (codes "i") 2 (f (name (codes "i")))))
    ≡ Some (for_all here (number 2) (for_all here (number 1) (equal here (bound here 0) (bound here 1))))
no_capture = refl

-- a prime on a parameter is a prime on the argument
primed_argument : run (let_f (Prime at (name (codes "a"))) (f (equals (name (codes "x")) (Number at 5)))) ≡ Some (equal here (next here 0) (number 5))
primed_argument = refl

-- UNCHANGED of a parameter: LET f(a) == UNCHANGED a IN f(<<x, <<y>>>>)
kept_argument : run (let_f (Unary at prefixes.Unchanged (name (codes "a"))) (f (Listing at brackets.Tuple (more (name (codes "x")) (more (Listing at brackets.Tuple (more (name (codes "y")) none)) none)))))
    ≡ Some (conjunction here (more_exprs (equal here (next here 0) (now here 0)) (more_exprs (conjunction here (more_exprs (equal here (next here 1) (now here 1)) no_exprs)) no_exprs)))
kept_argument = refl

kept_nothing : run (Unary at prefixes.Unchanged (Listing at brackets.Tuple none)) ≡ Some (constant here (truth true))
kept_nothing = refl

-- no prime stands on a variable next
twice_primed : run (Prime at (Prime at (name (codes "x")))) ≡ None
twice_primed = refl

twice_primed_number : run (Prime at (Prime at (Number at 5))) ≡ Some (number 5)
twice_primed_number = refl

-- an argument that isn't used isn't looked at, and there are as many as parameters
unused : run (let_f (Number at 1) (f (Prime at (Prime at (name (codes "x")))))) ≡ Some (number 1)
unused = refl

number_of_arguments : run (let_f (Number at 1) (Call (named (codes "f")) (more (name (codes "x")) (more (name (codes "y")) none)))) ≡ None
number_of_arguments = refl

unknown_name : run (name (codes "z")) ≡ None
unknown_name = refl
