-- The one tree that tokens can spell, found from the left. It has the shape of the code; what a tree spells is said
-- in Grammar.
use Rattle.std.specs.Prelude.{ℕ, zero, suc, ◌+◌, not, ◌||◌, nat_le, if◌then◌else◌, List, [], length, slice_get, Ok, Err}
use Rattle.tla_lex.specs.declared.token.Place.{Place}
use Rattle.tla_lex.specs.declared.token.Token.{Token}
use Rattle.tla_lex.specs.declared.token.Kind.{Kind}
use Rattle.tla_lex.specs.declared.token.Kind.TheVariants as k
use Rattle.tla_lex.specs.StringLoops.{string_text}
use Rattle.tla_grammar.specs.declared.context.Context.{Context}
use Rattle.tla_grammar.specs.declared.tokens.Between.TheVariants as between
use Rattle.tla_tree.specs.declared.tree.Infix.{Infix}
use Rattle.tla_tree.specs.declared.tree.Infix.TheVariants as i
use Rattle.tla_tree.specs.declared.tree.Prefix.{Prefix}
use Rattle.tla_tree.specs.declared.tree.Bullet.{Bullet}
use Rattle.tla_tree.specs.declared.tree.Quantifier.{Quantifier}
use Rattle.tla_grammar.specs.declared.tokens.Postfix.{Postfix}
use Rattle.tla_grammar.specs.declared.tokens.Postfix.TheVariants as form
use Rattle.tla_tree.specs.Tree.{Tree, Choice, Definition, trees, binders, arms, definitions, no_other, other, DefinesOperator, DefinesFunction, Case, Let, Name, Number, Text, Word, At, Prime, Index, Field, Unary, Binary, Quantified, Choose, If, Junction, Product}
use Rattle.tla_grammar.specs.Operators.{high, prefix_high, is_product, prefix_of, bullet_of, quantifier_of, constant_of}
use Rattle.tla_tree.specs.Places.{place}
use Rattle.tla_grammar.specs.Edges.{edge_allows, depth}
use Rattle.tla_tree.specs.Words.{word_of, written}
use Rattle.tla_grammar.specs.Tokens.{seen, may_follow}
use Rattle.tla_grammar.specs.Kinds.{kind_at}
use Rattle.tla_grammar.specs.Ending.{above, infix_at}
use Rattle.tla_grammar.specs.Grammar.{within}
use Rattle.tla_grammar.specs.Marks.{name_at, following, postfix_at}
use Rattle.tla_expressions.specs.ReadingLists.{names, exprs, some, call, one_group, groups, paren}
use Rattle.tla_expressions.specs.ReadingBrackets.{fair, brace, tuple, bracket}
use Rattle.tla_tree.specs.declared.tree.Fairness.TheVariants as fa
use Rattle.tla_grammar.specs.Outcome.{Refused, Nested, Outcome, ◌>>=◌, need, room, at_op, sequence}

module _ (text : List ℕ) (ts : List Token) where
  -- `inner` reads an expression in a context, whose top is above a floor, one level deeper
  module _ (inner : Context → ℕ → ℕ → Outcome Tree) where
    unfoldable pub indexed : ℕ → Context → Tree → ℕ → Outcome Tree
    indexed most s t at = some text ts inner s k.RightBracket (at + 1) >>= λ es end. room (nat_le (depth (Index (place t) t es)) most) (Ok (Index (place t) t es, end))

    -- one more postfix form after the tree
    abbrev pub behind : ℕ → Context → Tree → Postfix → ℕ → Outcome Tree
    behind most s t form.Prime at = room (nat_le (depth (Prime (place t) t)) most) (Ok (Prime (place t) t, at + 1))
    behind most s t form.Index at = indexed most s t at
    behind most s t form.Field at = at_op (name_at (seen ts s.column (at + 1))) (Err Refused) (λ w. room (nat_le (depth (Field (place t) t (written text w))) most) (Ok (Field (place t) t (written text w), at + 2)))

    -- the postfix forms after a closed form, at most this many
    unfoldable pub postfix : ℕ → ℕ → Context → Tree → ℕ → Outcome Tree
    postfix zero most s t at = at_op (postfix_at (seen ts s.column at)) (Ok (t, at)) (λ u. Err Nested)
    postfix (suc n) most s t at = at_op (postfix_at (seen ts s.column at)) (Ok (t, at)) (λ u. behind most s t u at >>= postfix n most s)

    abbrev pub postfixes : ℕ → Context → Tree → ℕ → Outcome Tree
    postfixes most s t at = postfix most most s t at

    -- an operand of a product after the first
    unfoldable pub factor : Context → ℕ → Outcome Tree
    factor s at = inner s (high i.Product) at >>= λ e after. need (not (kind_at k.Product (seen ts s.column after)) || edge_allows e i.Product) (Ok (e, after))

    abbrev pub factors : ℕ → List Tree → Context → ℕ → Outcome (List Tree)
    factors n front s at = sequence (factor s) (following ts s.column between.Product) n front at

    -- the product of the tree and the operands after it
    unfoldable pub product : ℕ → Context → Tree → ℕ → Outcome Tree
    product most s t at = need (edge_allows t i.Product) (factors (length ts) [] s (at + 1) >>= λ es after.
        room (nat_le (depth (Product (place t) t (trees es))) most) (Ok (Product (place t) t (trees es), after)))

    -- the tree under one more operator
    unfoldable pub turn : ℕ → Context → Tree → Infix → ℕ → Outcome Tree
    turn most s t op at = if is_product op then product most s t at else need (edge_allows t op) (at_op (seen ts s.column at) (Err Refused) (λ sign. inner s (high op) (at + 1) >>= λ r after.
        room (nat_le (depth (Binary (place t) op (written text sign) t r)) most) (Ok (Binary (place t) op (written text sign) t r, after))))

    -- under the operators that follow, at most this many
    unfoldable pub climb : ℕ → ℕ → Context → ℕ → Tree → ℕ → Outcome Tree
    climb zero most s floor t at = at_op (above floor (infix_at (seen ts s.column at))) (Ok (t, at)) (λ op. Err Nested)
    climb (suc n) most s floor t at = at_op (above floor (infix_at (seen ts s.column at))) (Ok (t, at)) (λ op.
        turn most s t op at >>= climb n most s floor)

    unfoldable pub junction : Context → Place → Bullet → ℕ → Outcome Tree
    junction s p b at = exprs text ts inner (length ts) [] (within s p.column) (between.Bullet b) (at + 1) >>= λ es after.
        need (may_follow p.column (slice_get ts after)) (Ok (Junction p b (trees es), after))

    unfoldable pub quantified : Context → Place → Quantifier → ℕ → Outcome Tree
    quantified s p q at = groups text ts inner (length ts) [] s (at + 1) >>= λ gs after. need (kind_at k.Colon (seen ts s.column after)) (inner s 0 (after + 1) >>= λ e end. Ok (Quantified p q (binders gs) e, end))

    unfoldable pub chosen : Context → Place → ℕ → Outcome Tree
    chosen s p at = one_group text ts inner s (at + 1) >>= λ g after. need (kind_at k.Colon (seen ts s.column after)) (inner s 0 (after + 1) >>= λ e end. Ok (Choose p g.0 g.1 e, end))

    unfoldable pub choice : Context → Place → ℕ → Outcome Tree
    choice s p at = inner s 0 (at + 1) >>= λ a after. need (kind_at k.Then (seen ts s.column after))
        (inner s 0 (after + 1) >>= λ b mid. need (kind_at k.Else (seen ts s.column mid)) (inner s 0 (mid + 1) >>= λ e end. Ok (If p a b e, end)))

    -- an arm of CASE
    unfoldable pub arm_at : Context → ℕ → Outcome Choice
    arm_at s at = inner s 0 at >>= λ g after. need (kind_at k.Arrow (seen ts s.column after)) (inner s 0 (after + 1) >>= λ e end. Ok ((g, e), end))

    abbrev pub arms_at : ℕ → List Choice → Context → ℕ → Outcome (List Choice)
    arms_at n front s at = sequence (arm_at s) (following ts s.column between.Arm) n front at

    unfoldable pub cases : Context → Place → ℕ → Outcome Tree
    cases s p at = arms_at (length ts) [] s (at + 1) >>= λ cs after. if kind_at k.Box (seen ts s.column after)
        then need (kind_at k.Other (seen ts s.column (after + 1))) (need (kind_at k.Arrow (seen ts s.column (after + 2))) (inner s 0 (after + 3) >>= λ e end. Ok (Case p (arms cs) (other e), end)))
        else Ok (Case p (arms cs) no_other, after)

    -- Op(p, ..) == e, after the bracket
    unfoldable pub operator : Context → Token → ℕ → Outcome Definition
    operator s t at = names text ts (length ts) [] s.column at >>= λ ws after. need (kind_at k.RightParen (seen ts s.column after))
        (need (kind_at k.Define (seen ts s.column (after + 1))) (inner s 0 (after + 2) >>= λ e end. Ok (DefinesOperator (written text t) ws e, end)))

    -- f[x \in S, ..] == e, after the bracket
    unfoldable pub function : Context → Token → ℕ → Outcome Definition
    function s t at = groups text ts inner (length ts) [] s at >>= λ gs after. need (kind_at k.RightBracket (seen ts s.column after))
        (need (kind_at k.Define (seen ts s.column (after + 1))) (inner s 0 (after + 2) >>= λ e end. Ok (DefinesFunction (written text t) (binders gs) e, end)))

    unfoldable pub defined : Context → Token → ℕ → Outcome Definition
    defined s t at = if kind_at k.Define (seen ts s.column (at + 1)) then (inner s 0 (at + 2) >>= λ e end. Ok (DefinesOperator (written text t) [] e, end))
        else if kind_at k.LeftParen (seen ts s.column (at + 1)) then operator s t (at + 2)
        else need (kind_at k.LeftBracket (seen ts s.column (at + 1))) (function s t (at + 2))

    unfoldable pub definition : Context → ℕ → Outcome Definition
    definition s at = at_op (name_at (seen ts s.column at)) (Err Refused) (λ t. defined s t at)

    abbrev pub definitions_at : ℕ → List Definition → Context → ℕ → Outcome (List Definition)
    definitions_at n front s at = sequence (definition s) (following ts s.column between.Nothing) n front at

    unfoldable pub lets : Context → Place → ℕ → Outcome Tree
    lets s p at = definitions_at (length ts) [] s (at + 1) >>= λ ds after. need (kind_at k.In (seen ts s.column after)) (inner s 0 (after + 1) >>= λ e end. Ok (Let p (definitions ds) e, end))

    unfoldable pub prefix : Context → Prefix → Place → ℕ → Outcome Tree
    prefix s op p at = inner s (prefix_high op) (at + 1) >>= λ e end. Ok (Unary p op e, end)

    -- a form that begins with a token of a class
    unfoldable pub by_class : ℕ → Context → Token → ℕ → Outcome Tree
    by_class most s t at = at_op (bullet_of t.kind)
        (at_op (prefix_of t.kind)
        (at_op (quantifier_of t.kind)
        (at_op (constant_of t.kind) (Err Refused)
        (λ c. postfixes most s (Word t.place c) (at + 1)))
        (λ q. quantified s t.place q at))
        (λ op. prefix s op t.place at))
        (λ b. junction s t.place b at >>= postfixes most s)

    -- a name alone, or with arguments
    unfoldable pub named : Context → Token → ℕ → Outcome Tree
    named s t at = if kind_at k.LeftParen (seen ts s.column (at + 1)) then call text ts inner s t at else Ok (Name (written text t), at + 1)

    -- a form, by the kind of its first token
    abbrev pub operand_by : ℕ → Context → Token → ℕ → Kind → Outcome Tree
    operand_by most s t at k.Name = named s t at >>= postfixes most s
    operand_by most s t at (k.Number n) = postfixes most s (Number t.place n) (at + 1)
    operand_by most s t at k.Text = postfixes most s (Text t.place (string_text (word_of text t))) (at + 1)
    operand_by most s t at k.At = need s.updating (postfixes most s (At t.place) (at + 1))
    operand_by most s t at k.LeftParen = paren text ts inner s t.place at >>= postfixes most s
    operand_by most s t at k.LeftBrace = brace text ts inner s t.place at >>= postfixes most s
    operand_by most s t at k.LeftTuple = tuple text ts inner most s t.place at >>= postfixes most s
    operand_by most s t at k.LeftBracket = bracket text ts inner most s t.place at >>= postfixes most s
    operand_by most s t at k.WeakFairness = fair text ts inner most s t.place fa.Weak at >>= postfixes most s
    operand_by most s t at k.StrongFairness = fair text ts inner most s t.place fa.Strong at >>= postfixes most s
    operand_by most s t at k.If = choice s t.place at
    operand_by most s t at k.Choose = chosen s t.place at
    operand_by most s t at k.Case = cases s t.place at
    operand_by most s t at k.Let = lets s t.place at
    operand_by most s t at kind = by_class most s t at

    unfoldable pub operand : ℕ → Context → ℕ → Outcome Tree
    operand most s at = at_op (seen ts s.column at) (Err Refused) (λ t. operand_by most s t at t.kind)

    unfoldable pub level : ℕ → Context → ℕ → ℕ → Outcome Tree
    level n s floor at = operand (n + 1) s at >>= climb n (n + 1) s floor

  -- an expression of at most this many levels, in a context, whose top is above a floor
  unfoldable pub expr : ℕ → Context → ℕ → ℕ → Outcome Tree
  expr zero s floor at = Err Nested
  expr (suc n) s floor at = level (expr n) n s floor at
