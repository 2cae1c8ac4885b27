-- With more levels the same is read, or what was nested too deep.
use Rattle.std.proofs.Common.{◌≡◌, ℕ, zero, suc, ◌+◌, ◌≤◌, inl, inr, length, List, [], Ok, refl, arith}
use Rattle.tla_lex.specs.declared.token.Place.{Place}
use Rattle.tla_lex.specs.declared.token.Token.{Token}
use Rattle.tla_lex.specs.declared.token.Kind.{Kind}
use Rattle.tla_lex.specs.declared.token.Kind.TheVariants as k
use Rattle.tla_lex.specs.StringLoops.{string_text}
use Rattle.tla_grammar.specs.declared.context.Context.{Context}
use Rattle.tla_tree.specs.declared.tree.Infix.{Infix}
use Rattle.tla_tree.specs.declared.tree.Infix.TheVariants as i
use Rattle.tla_tree.specs.declared.tree.Prefix.{Prefix}
use Rattle.tla_tree.specs.declared.tree.Bullet.{Bullet}
use Rattle.tla_grammar.specs.declared.tokens.Between.TheVariants as between
use Rattle.tla_grammar.specs.declared.tokens.Postfix.{Postfix}
use Rattle.tla_grammar.specs.declared.tokens.Postfix.TheVariants as form
use Rattle.tla_tree.specs.declared.tree.Quantifier.{Quantifier}
use Rattle.tla_tree.specs.Tree.{Tree, Number, Text, Word, At, Prime, Index, Field, Binary, Product, trees}
use Rattle.tla_grammar.specs.Operators.{high, is_product, prefix_high, prefix_of, bullet_of, quantifier_of, constant_of}
use Rattle.tla_tree.specs.Places.{place}
use Rattle.tla_grammar.specs.Edges.{edge_allows, depth}
use Rattle.tla_tree.specs.Words.{word_of, written}
use Rattle.tla_grammar.specs.Tokens.{seen}
use Rattle.tla_grammar.specs.Kinds.{kind_at}
use Rattle.tla_grammar.specs.Grammar.{within}
use Rattle.tla_grammar.specs.Ending.{above, infix_at}
use Rattle.tla_grammar.specs.Outcome.{Outcome}
use Rattle.tla_grammar.specs.Marks.{name_at, following, postfix_at}
use Rattle.tla_expressions.specs.ReadingLists.{names, exprs, some, group, one_group, groups, paren}
use Rattle.tla_expressions.specs.Reading.{indexed, behind, postfix, postfixes, turn, climb, junction, quantified, chosen, arm_at, arms_at, cases, operator, function, defined, definition, definitions_at, lets, choice, prefix, by_class, named, operand_by, operand, level, expr, factor, factors, product}
use Rattle.tla_tree.specs.declared.tree.Fairness.TheVariants as fa
use Rattle.tla_expressions.specs.ReadingBrackets.{fair, brace, tuple, bracket}
use Rattle.tla_expressions.proofs.DeeperLists.{Refines, bind, needs, more_room, ops, choices, sequences, somes, nameds, group_deeper, one_group_deeper, parens}
use Rattle.tla_expressions.proofs.DeeperBrackets.{fairs, braces, tuples, brackets}

module _ (text : List ℕ) (ts : List Token) where
  module _ (inner outer : Context → ℕ → ℕ → Outcome Tree) (deeper : (s : Context) (floor at : ℕ) → Refines (inner s floor at) (outer s floor at)) where
    indexeds : (most : ℕ) (s : Context) (t : Tree) (at : ℕ) → Refines (indexed text ts inner most s t at) (indexed text ts outer (most + 1) s t at)
    unfolding indexed
    indexeds most s t at = bind (some text ts inner s k.RightBracket (at + 1)) (some text ts outer s k.RightBracket (at + 1)) _ _ (somes text ts inner outer deeper s k.RightBracket (at + 1))
        (λ es end. more_room (depth (Index (place t) t es)) most (Ok (Index (place t) t es, end)))

    behinds : (most : ℕ) (s : Context) (t : Tree) (f : Postfix) (at : ℕ) → Refines (behind text ts inner most s t f at) (behind text ts outer (most + 1) s t f at)
    behinds most s t form.Prime at = more_room (depth (Prime (place t) t)) most (Ok (Prime (place t) t, at + 1))
    behinds most s t form.Index at = indexeds most s t at
    behinds most s t form.Field at = ops (name_at (seen ts s.column (at + 1))) _ _ _ _ (inr refl) (λ w. more_room (depth (Field (place t) t (written text w))) most (Ok (Field (place t) t (written text w), at + 2)))

    more_postfix : (n m most : ℕ) (s : Context) (t : Tree) (at : ℕ) → n ≤ m → Refines (postfix text ts inner n most s t at) (postfix text ts outer m (most + 1) s t at)
    unfolding postfix
    more_postfix zero zero most s t at h = inr refl
    more_postfix zero (suc m) most s t at h = ops (postfix_at (seen ts s.column at)) _ _ _ _ (inr refl) (λ u. inl refl)
    more_postfix (suc n) zero most s t at h = absurd (omega (arith, h))
    more_postfix (suc n) (suc m) most s t at h = ops (postfix_at (seen ts s.column at)) _ _ _ _ (inr refl)
        (λ u. bind (behind text ts inner most s t u at) (behind text ts outer (most + 1) s t u at) _ _ (behinds most s t u at)
        (λ r after. more_postfix n m most s r after (omega (arith, h))))

    more_postfixes : (most : ℕ) (s : Context) (t : Tree) (at : ℕ) → Refines (postfixes text ts inner most s t at) (postfixes text ts outer (most + 1) s t at)
    more_postfixes most s t at = more_postfix most (most + 1) most s t at (omega arith)

    factor_deeper : (s : Context) (at : ℕ) → Refines (factor text ts inner s at) (factor text ts outer s at)
    unfolding factor
    factor_deeper s at = bind (inner s (high i.Product) at) (outer s (high i.Product) at) _ _ (deeper s (high i.Product) at) (λ e after. inr refl)

    products : (most : ℕ) (s : Context) (t : Tree) (at : ℕ) → Refines (product text ts inner most s t at) (product text ts outer (most + 1) s t at)
    unfolding product
    products most s t at = needs (edge_allows t i.Product) _ _
        (bind (factors text ts inner (length ts) [] s (at + 1)) (factors text ts outer (length ts) [] s (at + 1)) _ _
        (sequences (factor text ts inner s) (factor text ts outer s) (following ts s.column between.Product) (factor_deeper s) (length ts) [] (at + 1)) (λ es after. more_room (depth (Product (place t) t (trees es))) most (Ok (Product (place t) t (trees es), after))))

    turns : (most : ℕ) (s : Context) (t : Tree) (op : Infix) (at : ℕ) → Refines (turn text ts inner most s t op at) (turn text ts outer (most + 1) s t op at)
    unfolding turn
    turns most s t op at = choices (is_product op) _ _ _ _ (products most s t at) (needs (edge_allows t op) _ _ (ops (seen ts s.column at) _ _ _ _ (inr refl) (λ sign.
        bind (inner s (high op) (at + 1)) (outer s (high op) (at + 1)) _ _ (deeper s (high op) (at + 1))
        (λ r after. more_room (depth (Binary (place t) op (written text sign) t r)) most (Ok (Binary (place t) op (written text sign) t r, after))))))

    climbs : (n m most : ℕ) (s : Context) (floor : ℕ) (t : Tree) (at : ℕ) → n ≤ m → Refines (climb text ts inner n most s floor t at) (climb text ts outer m (most + 1) s floor t at)
    unfolding climb
    climbs zero zero most s floor t at h = inr refl
    climbs zero (suc m) most s floor t at h = ops (above floor (infix_at (seen ts s.column at))) _ _ _ _ (inr refl) (λ op. inl refl)
    climbs (suc n) zero most s floor t at h = absurd (omega (arith, h))
    climbs (suc n) (suc m) most s floor t at h = ops (above floor (infix_at (seen ts s.column at))) _ _ _ _ (inr refl)
        (λ op. bind (turn text ts inner most s t op at) (turn text ts outer (most + 1) s t op at) _ _ (turns most s t op at)
        (λ r after. climbs n m most s floor r after (omega (arith, h))))

    junctions : (s : Context) (p : Place) (b : Bullet) (at : ℕ) → Refines (junction text ts inner s p b at) (junction text ts outer s p b at)
    unfolding junction
    junctions s p b at = bind (exprs text ts inner (length ts) [] (within s p.column) (between.Bullet b) (at + 1)) (exprs text ts outer (length ts) [] (within s p.column) (between.Bullet b) (at + 1)) _ _
        (sequences (inner (within s p.column) 0) (outer (within s p.column) 0) (following ts p.column (between.Bullet b)) (deeper (within s p.column) 0) (length ts) [] (at + 1)) (λ es after. inr refl)

    quantifieds : (s : Context) (p : Place) (q : Quantifier) (at : ℕ) → Refines (quantified text ts inner s p q at) (quantified text ts outer s p q at)
    unfolding quantified
    quantifieds s p q at = bind (groups text ts inner (length ts) [] s (at + 1)) (groups text ts outer (length ts) [] s (at + 1)) _ _
        (sequences (group text ts inner s) (group text ts outer s) (following ts s.column between.Comma) (group_deeper text ts inner outer deeper s) (length ts) [] (at + 1)) (λ gs after. needs (kind_at k.Colon (seen ts s.column after)) _ _
        (bind (inner s 0 (after + 1)) (outer s 0 (after + 1)) _ _ (deeper s 0 (after + 1)) (λ e end. inr refl)))

    choosings : (s : Context) (p : Place) (at : ℕ) → Refines (chosen text ts inner s p at) (chosen text ts outer s p at)
    unfolding chosen
    choosings s p at = bind (one_group text ts inner s (at + 1)) (one_group text ts outer s (at + 1)) _ _ (one_group_deeper text ts inner outer deeper s (at + 1)) (λ g after. needs (kind_at k.Colon (seen ts s.column after)) _ _
        (bind (inner s 0 (after + 1)) (outer s 0 (after + 1)) _ _ (deeper s 0 (after + 1)) (λ e end. inr refl)))

    arms_deeper : (s : Context) (at : ℕ) → Refines (arm_at text ts inner s at) (arm_at text ts outer s at)
    unfolding arm_at
    arms_deeper s at = bind (inner s 0 at) (outer s 0 at) _ _ (deeper s 0 at) (λ g after. needs (kind_at k.Arrow (seen ts s.column after)) _ _
        (bind (inner s 0 (after + 1)) (outer s 0 (after + 1)) _ _ (deeper s 0 (after + 1)) (λ e end. inr refl)))

    cases_deeper : (s : Context) (p : Place) (at : ℕ) → Refines (cases text ts inner s p at) (cases text ts outer s p at)
    unfolding cases
    cases_deeper s p at = bind (arms_at text ts inner (length ts) [] s (at + 1)) (arms_at text ts outer (length ts) [] s (at + 1)) _ _
        (sequences (arm_at text ts inner s) (arm_at text ts outer s) (following ts s.column between.Arm) (arms_deeper s) (length ts) [] (at + 1)) (λ cs after. choices (kind_at k.Box (seen ts s.column after)) _ _ _ _
        (needs (kind_at k.Other (seen ts s.column (after + 1))) _ _ (needs (kind_at k.Arrow (seen ts s.column (after + 2))) _ _
        (bind (inner s 0 (after + 3)) (outer s 0 (after + 3)) _ _ (deeper s 0 (after + 3)) (λ e end. inr refl)))) (inr refl))

    operators : (s : Context) (t : Token) (at : ℕ) → Refines (operator text ts inner s t at) (operator text ts outer s t at)
    unfolding operator
    operators s t at = bind (names text ts (length ts) [] s.column at) (names text ts (length ts) [] s.column at) _ _ (inr refl) (λ ws after. needs (kind_at k.RightParen (seen ts s.column after)) _ _ (needs (kind_at k.Define (seen ts s.column (after + 1))) _ _
        (bind (inner s 0 (after + 2)) (outer s 0 (after + 2)) _ _ (deeper s 0 (after + 2)) (λ e end. inr refl))))

    functions : (s : Context) (t : Token) (at : ℕ) → Refines (function text ts inner s t at) (function text ts outer s t at)
    unfolding function
    functions s t at = bind (groups text ts inner (length ts) [] s at) (groups text ts outer (length ts) [] s at) _ _
        (sequences (group text ts inner s) (group text ts outer s) (following ts s.column between.Comma) (group_deeper text ts inner outer deeper s) (length ts) [] at) (λ gs after. needs (kind_at k.RightBracket (seen ts s.column after)) _ _ (needs (kind_at k.Define (seen ts s.column (after + 1))) _ _
        (bind (inner s 0 (after + 2)) (outer s 0 (after + 2)) _ _ (deeper s 0 (after + 2)) (λ e end. inr refl))))

    pub definition_deeper : (s : Context) (at : ℕ) → Refines (definition text ts inner s at) (definition text ts outer s at)
    unfolding definition defined
    definition_deeper s at = ops (name_at (seen ts s.column at)) _ _ _ _ (inr refl) (λ t. choices (kind_at k.Define (seen ts s.column (at + 1))) _ _ _ _
        (bind (inner s 0 (at + 2)) (outer s 0 (at + 2)) _ _ (deeper s 0 (at + 2)) (λ e end. inr refl))
        (choices (kind_at k.LeftParen (seen ts s.column (at + 1))) _ _ _ _ (operators s t (at + 2)) (needs (kind_at k.LeftBracket (seen ts s.column (at + 1))) _ _ (functions s t (at + 2)))))

    lets_deeper : (s : Context) (p : Place) (at : ℕ) → Refines (lets text ts inner s p at) (lets text ts outer s p at)
    unfolding lets
    lets_deeper s p at = bind (definitions_at text ts inner (length ts) [] s (at + 1)) (definitions_at text ts outer (length ts) [] s (at + 1)) _ _
        (sequences (definition text ts inner s) (definition text ts outer s) (following ts s.column between.Nothing) (definition_deeper s) (length ts) [] (at + 1)) (λ ds after. needs (kind_at k.In (seen ts s.column after)) _ _
        (bind (inner s 0 (after + 1)) (outer s 0 (after + 1)) _ _ (deeper s 0 (after + 1)) (λ e end. inr refl)))

    conditionals : (s : Context) (p : Place) (at : ℕ) → Refines (choice text ts inner s p at) (choice text ts outer s p at)
    unfolding choice
    conditionals s p at = bind (inner s 0 (at + 1)) (outer s 0 (at + 1)) _ _ (deeper s 0 (at + 1)) (λ a m. needs (kind_at k.Then (seen ts s.column m)) _ _
        (bind (inner s 0 (m + 1)) (outer s 0 (m + 1)) _ _ (deeper s 0 (m + 1)) (λ b n. needs (kind_at k.Else (seen ts s.column n)) _ _
        (bind (inner s 0 (n + 1)) (outer s 0 (n + 1)) _ _ (deeper s 0 (n + 1)) (λ e end. inr refl)))))

    prefixes : (s : Context) (op : Prefix) (p : Place) (at : ℕ) → Refines (prefix text ts inner s op p at) (prefix text ts outer s op p at)
    unfolding prefix
    prefixes s op p at = bind (inner s (prefix_high op) (at + 1)) (outer s (prefix_high op) (at + 1)) _ _ (deeper s (prefix_high op) (at + 1)) (λ e end. inr refl)

    classes : (most : ℕ) (s : Context) (t : Token) (at : ℕ) → Refines (by_class text ts inner most s t at) (by_class text ts outer (most + 1) s t at)
    unfolding by_class
    classes most s t at = ops (bullet_of t.kind) _ _ _ _
        (ops (prefix_of t.kind) _ _ _ _
        (ops (quantifier_of t.kind) _ _ _ _
        (ops (constant_of t.kind) _ _ _ _ (inr refl)
        (λ c. more_postfixes most s (Word t.place c) (at + 1)))
        (λ q. quantifieds s t.place q at))
        (λ op. prefixes s op t.place at))
        (λ b. bind (junction text ts inner s t.place b at) (junction text ts outer s t.place b at) _ _ (junctions s t.place b at) (λ e after. more_postfixes most s e after))

    kinds : (most : ℕ) (s : Context) (t : Token) (at : ℕ) (kind : Kind) → Refines (operand_by text ts inner most s t at kind) (operand_by text ts outer (most + 1) s t at kind)
    kinds most s t at k.Name = bind (named text ts inner s t at) (named text ts outer s t at) _ _ (nameds text ts inner outer deeper s t at) (λ e after. more_postfixes most s e after)
    kinds most s t at k.Text = more_postfixes most s (Text t.place (string_text (word_of text t))) (at + 1)
    kinds most s t at k.LeftBrace = bind (brace text ts inner s t.place at) (brace text ts outer s t.place at) _ _ (braces text ts inner outer deeper s t.place at) (λ e after. more_postfixes most s e after)
    kinds most s t at k.LeftTuple = bind (tuple text ts inner most s t.place at) (tuple text ts outer (most + 1) s t.place at) _ _ (tuples text ts inner outer deeper most s t.place at) (λ e after. more_postfixes most s e after)
    kinds most s t at k.LeftBracket = bind (bracket text ts inner most s t.place at) (bracket text ts outer (most + 1) s t.place at) _ _ (brackets text ts inner outer deeper most s t.place at) (λ e after. more_postfixes most s e after)
    kinds most s t at k.WeakFairness = bind (fair text ts inner most s t.place fa.Weak at) (fair text ts outer (most + 1) s t.place fa.Weak at) _ _ (fairs text ts inner outer deeper most s t.place fa.Weak at) (λ e after. more_postfixes most s e after)
    kinds most s t at k.StrongFairness = bind (fair text ts inner most s t.place fa.Strong at) (fair text ts outer (most + 1) s t.place fa.Strong at) _ _ (fairs text ts inner outer deeper most s t.place fa.Strong at) (λ e after. more_postfixes most s e after)
    kinds most s t at k.Choose = choosings s t.place at
    kinds most s t at k.Case = cases_deeper s t.place at
    kinds most s t at k.Let = lets_deeper s t.place at
    kinds most s t at (k.Number n) = more_postfixes most s (Number t.place n) (at + 1)
    kinds most s t at k.At = needs s.updating _ _ (more_postfixes most s (At t.place) (at + 1))
    kinds most s t at k.LeftParen = bind (paren text ts inner s t.place at) (paren text ts outer s t.place at) _ _ (parens text ts inner outer deeper s t.place at) (λ e after. more_postfixes most s e after)
    kinds most s t at k.If = conditionals s t.place at
    kinds most s t at kind = classes most s t at

    operands : (most : ℕ) (s : Context) (at : ℕ) → Refines (operand text ts inner most s at) (operand text ts outer (most + 1) s at)
    unfolding operand
    operands most s at = ops (seen ts s.column at) _ _ _ _ (inr refl) (λ t. kinds most s t at t.kind)

    levels : (n : ℕ) (s : Context) (floor at : ℕ) → Refines (level text ts inner n s floor at) (level text ts outer (suc n) s floor at)
    unfolding level
    levels n s floor at = let e : suc n + 1 ≡ n + 1 + 1 = omega arith in rw e (bind (operand text ts inner (n + 1) s at) (operand text ts outer (n + 1 + 1) s at) _ _ (operands (n + 1) s at)
        (λ t after. climbs n (suc n) (n + 1) s floor t after (omega arith)))

  pub deeper : (n : ℕ) (s : Context) (floor at : ℕ) → Refines (expr text ts n s floor at) (expr text ts (suc n) s floor at)
  unfolding expr
  deeper zero s floor at = inl refl
  deeper (suc n) s floor at = levels (expr text ts n) (expr text ts (suc n)) (deeper n) n s floor at
