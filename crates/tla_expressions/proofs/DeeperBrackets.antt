-- With more levels brackets, braces and subscripts are read the same, or were nested too deep.
use Rattle.std.proofs.Common.{ℕ, ◌+◌, inr, length, List, [], ◌∷◌, Ok, refl}
use Rattle.std.specs.Prelude.{is_none}
use Rattle.tla_lex.specs.declared.token.Place.{Place}
use Rattle.tla_lex.specs.declared.token.Token.{Token}
use Rattle.tla_lex.specs.declared.token.Kind.{Kind}
use Rattle.tla_lex.specs.declared.token.Kind.TheVariants as k
use Rattle.tla_grammar.specs.declared.context.Context.{Context}
use Rattle.tla_grammar.specs.declared.tokens.Between.TheVariants as between
use Rattle.tla_grammar.specs.declared.ahead.Opened.{Opened}
use Rattle.tla_grammar.specs.declared.ahead.Opened.TheVariants as opened
use Rattle.tla_tree.specs.declared.tree.Brackets.TheVariants as br
use Rattle.tla_tree.specs.declared.tree.Step.{Step}
use Rattle.tla_tree.specs.declared.tree.Step.TheVariants as step
use Rattle.tla_tree.specs.declared.tree.Fairness.{Fairness}
use Rattle.tla_tree.specs.Tree.{Tree, Action, Fair}
use Rattle.tla_grammar.specs.Edges.{depth}
use Rattle.tla_grammar.specs.Tokens.{seen}
use Rattle.tla_grammar.specs.Kinds.{kind_at}
use Rattle.tla_grammar.specs.Grammar.{updating}
use Rattle.tla_grammar.specs.Ahead.{binds, filters, opened_by}
use Rattle.tla_grammar.specs.Outcome.{Outcome, at_op}
use Rattle.tla_grammar.specs.Marks.{name_at, following}
use Rattle.tla_expressions.specs.ReadingLists.{exprs, some, group, one_group, groups}
use Rattle.tla_expressions.specs.ReadingBrackets.{others, subscript_by, subscript, action, fair, filter, image, set_of, brace, tuple, mapping, function_set, entry, entries, record_of, records_of, key_at, path, change, changes, except, behind_first, bracket_by, bracket}
use Rattle.tla_expressions.proofs.DeeperLists.{Refines, bind, needs, more_room, ops, choices, sequences, somes, listings, group_deeper, one_group_deeper, parens}

module _ (text : List ℕ) (ts : List Token) where
  module _ (inner outer : Context → ℕ → ℕ → Outcome Tree) (deeper : (s : Context) (floor at : ℕ) → Refines (inner s floor at) (outer s floor at)) where
    others_deeper : (s : Context) (close : Kind) (e : Tree) (at : ℕ) → Refines (others text ts inner s close e at) (others text ts outer s close e at)
    unfolding others
    others_deeper s close e at = bind (at_op (following ts s.column between.Comma at) (Ok (e ∷ [], at)) (λ next. exprs text ts inner (length ts) (e ∷ []) s between.Comma next)) (at_op (following ts s.column between.Comma at) (Ok (e ∷ [], at)) (λ next. exprs text ts outer (length ts) (e ∷ []) s between.Comma next)) _ _
        (ops (following ts s.column between.Comma at) _ _ _ _ (inr refl) (λ next. sequences (inner s 0) (outer s 0) (following ts s.column between.Comma) (deeper s 0) (length ts) (e ∷ []) next)) (λ es end. inr refl)

    subscripts_by : (s : Context) (t : Token) (at : ℕ) (kind : Kind) → Refines (subscript_by text ts inner s t at kind) (subscript_by text ts outer s t at kind)
    subscripts_by s t at k.Name = inr refl
    subscripts_by s t at k.LeftTuple = listings text ts inner outer deeper s t.place br.Tuple at
    subscripts_by s t at k.LeftParen = parens text ts inner outer deeper s t.place at
    subscripts_by s t at _ = inr refl

    subscripts : (s : Context) (at : ℕ) → Refines (subscript text ts inner s at) (subscript text ts outer s at)
    unfolding subscript
    subscripts s at = ops (seen ts s.column at) _ _ _ _ (inr refl) (λ t. subscripts_by s t at t.kind)

    actions : (most : ℕ) (s : Context) (p : Place) (g : Step) (a : Tree) (at : ℕ) → Refines (action text ts inner most s p g a at) (action text ts outer (most + 1) s p g a at)
    unfolding action
    actions most s p g a at = bind (subscript text ts inner s (at + 1)) (subscript text ts outer s (at + 1)) _ _ (subscripts s (at + 1)) (λ v end. more_room (depth (Action p g a v)) most (Ok (Action p g a v, end)))

    pub fairs : (most : ℕ) (s : Context) (p : Place) (f : Fairness) (at : ℕ) → Refines (fair text ts inner most s p f at) (fair text ts outer (most + 1) s p f at)
    unfolding fair
    fairs most s p f at = bind (subscript text ts inner s (at + 1)) (subscript text ts outer s (at + 1)) _ _ (subscripts s (at + 1)) (λ v after. needs (kind_at k.LeftParen (seen ts s.column after)) _ _
        (bind (inner s 0 (after + 1)) (outer s 0 (after + 1)) _ _ (deeper s 0 (after + 1)) (λ a end. needs (kind_at k.RightParen (seen ts s.column end)) _ _
        (more_room (depth (Fair p f v a)) most (Ok (Fair p f v a, end + 1))))))

    filters_deeper : (s : Context) (p : Place) (at : ℕ) → Refines (filter text ts inner s p at) (filter text ts outer s p at)
    unfolding filter
    filters_deeper s p at = bind (one_group text ts inner s (at + 1)) (one_group text ts outer s (at + 1)) _ _ (one_group_deeper text ts inner outer deeper s (at + 1)) (λ g after. needs (kind_at k.Colon (seen ts s.column after)) _ _
        (bind (inner s 0 (after + 1)) (outer s 0 (after + 1)) _ _ (deeper s 0 (after + 1)) (λ e end. inr refl)))

    group_lists : (s : Context) (at : ℕ) → Refines (groups text ts inner (length ts) [] s at) (groups text ts outer (length ts) [] s at)
    group_lists s at = sequences (group text ts inner s) (group text ts outer s) (following ts s.column between.Comma) (group_deeper text ts inner outer deeper s) (length ts) [] at

    images : (s : Context) (p : Place) (e : Tree) (at : ℕ) → Refines (image text ts inner s p e at) (image text ts outer s p e at)
    unfolding image
    images s p e at = bind (groups text ts inner (length ts) [] s (at + 1)) (groups text ts outer (length ts) [] s (at + 1)) _ _ (group_lists s (at + 1)) (λ gs after. inr refl)

    sets_of : (s : Context) (p : Place) (at : ℕ) (e : Tree) (after : ℕ) → Refines (set_of text ts inner s p at e after) (set_of text ts outer s p at e after)
    unfolding set_of
    sets_of s p at e after = choices (kind_at k.Colon (seen ts s.column after)) _ _ _ _ (needs (is_none (binds ts s.column (at + 1))) _ _ (images s p e after))
        (bind (others text ts inner s k.RightBrace e after) (others text ts outer s k.RightBrace e after) _ _ (others_deeper s k.RightBrace e after) (λ es end. inr refl))

    pub braces : (s : Context) (p : Place) (at : ℕ) → Refines (brace text ts inner s p at) (brace text ts outer s p at)
    unfolding brace
    braces s p at = choices (kind_at k.RightBrace (seen ts s.column (at + 1))) _ _ _ _ (inr refl)
        (choices (filters ts s.column (at + 1)) _ _ _ _ (filters_deeper s p at)
        (bind (inner s 0 (at + 1)) (outer s 0 (at + 1)) _ _ (deeper s 0 (at + 1)) (λ e after. sets_of s p at e after)))

    pub tuples : (most : ℕ) (s : Context) (p : Place) (at : ℕ) → Refines (tuple text ts inner most s p at) (tuple text ts outer (most + 1) s p at)
    unfolding tuple
    tuples most s p at = choices (kind_at k.RightTuple (seen ts s.column (at + 1))) _ _ _ _ (inr refl)
        (bind (inner s 0 (at + 1)) (outer s 0 (at + 1)) _ _ (deeper s 0 (at + 1)) (λ e after. choices (kind_at k.RightTupleSubscript (seen ts s.column after)) _ _ _ _ (actions most s p step.Angle e after)
        (bind (others text ts inner s k.RightTuple e after) (others text ts outer s k.RightTuple e after) _ _ (others_deeper s k.RightTuple e after) (λ es end. inr refl))))

    mappings : (s : Context) (p : Place) (at : ℕ) → Refines (mapping text ts inner s p at) (mapping text ts outer s p at)
    unfolding mapping
    mappings s p at = bind (groups text ts inner (length ts) [] s (at + 1)) (groups text ts outer (length ts) [] s (at + 1)) _ _ (group_lists s (at + 1)) (λ gs after. needs (kind_at k.MapsTo (seen ts s.column after)) _ _
        (bind (inner s 0 (after + 1)) (outer s 0 (after + 1)) _ _ (deeper s 0 (after + 1)) (λ e end. inr refl)))

    function_sets : (s : Context) (p : Place) (a : Tree) (at : ℕ) → Refines (function_set text ts inner s p a at) (function_set text ts outer s p a at)
    unfolding function_set
    function_sets s p a at = bind (inner s 0 (at + 1)) (outer s 0 (at + 1)) _ _ (deeper s 0 (at + 1)) (λ b end. inr refl)

    entry_deeper : (s : Context) (mark : Kind) (at : ℕ) → Refines (entry text ts inner s mark at) (entry text ts outer s mark at)
    unfolding entry
    entry_deeper s mark at = ops (name_at (seen ts s.column at)) _ _ _ _ (inr refl) (λ w. needs (kind_at mark (seen ts s.column (at + 1))) _ _
        (bind (inner s 0 (at + 2)) (outer s 0 (at + 2)) _ _ (deeper s 0 (at + 2)) (λ e end. inr refl)))

    entry_lists : (s : Context) (mark : Kind) (at : ℕ) → Refines (entries text ts inner (length ts) [] s mark at) (entries text ts outer (length ts) [] s mark at)
    entry_lists s mark at = sequences (entry text ts inner s mark) (entry text ts outer s mark) (following ts s.column between.Comma) (entry_deeper s mark) (length ts) [] at

    records : (s : Context) (p : Place) (at : ℕ) → Refines (record_of text ts inner s p at) (record_of text ts outer s p at)
    unfolding record_of
    records s p at = bind (entries text ts inner (length ts) [] s k.MapsTo (at + 1)) (entries text ts outer (length ts) [] s k.MapsTo (at + 1)) _ _ (entry_lists s k.MapsTo (at + 1)) (λ fs after. inr refl)

    record_sets : (s : Context) (p : Place) (at : ℕ) → Refines (records_of text ts inner s p at) (records_of text ts outer s p at)
    unfolding records_of
    record_sets s p at = bind (entries text ts inner (length ts) [] s k.Colon (at + 1)) (entries text ts outer (length ts) [] s k.Colon (at + 1)) _ _ (entry_lists s k.Colon (at + 1)) (λ fs after. inr refl)

    key_deeper : (s : Context) (at : ℕ) → Refines (key_at text ts inner s at) (key_at text ts outer s at)
    unfolding key_at
    key_deeper s at = choices (kind_at k.LeftBracket (seen ts s.column at)) _ _ _ _ (bind (some text ts inner s k.RightBracket (at + 1)) (some text ts outer s k.RightBracket (at + 1)) _ _ (somes text ts inner outer deeper s k.RightBracket (at + 1)) (λ es end. inr refl)) (inr refl)

    change_deeper : (s : Context) (at : ℕ) → Refines (change text ts inner s at) (change text ts outer s at)
    unfolding change
    change_deeper s at = needs (kind_at k.Bang (seen ts s.column at)) _ _ (bind (path text ts inner (length ts) [] s (at + 1)) (path text ts outer (length ts) [] s (at + 1)) _ _
        (sequences (key_at text ts inner s) (key_at text ts outer s) (following ts s.column between.Key) (key_deeper s) (length ts) [] (at + 1)) (λ ks after. needs (kind_at k.Equal (seen ts s.column after)) _ _
        (bind (inner (updating s) 0 (after + 1)) (outer (updating s) 0 (after + 1)) _ _ (deeper (updating s) 0 (after + 1)) (λ e end. inr refl))))

    excepts : (s : Context) (p : Place) (f : Tree) (at : ℕ) → Refines (except text ts inner s p f at) (except text ts outer s p f at)
    unfolding except
    excepts s p f at = bind (changes text ts inner (length ts) [] s (at + 1)) (changes text ts outer (length ts) [] s (at + 1)) _ _
        (sequences (change text ts inner s) (change text ts outer s) (following ts s.column between.Comma) (change_deeper s) (length ts) [] (at + 1)) (λ us end. inr refl)

    behinds_first : (most : ℕ) (s : Context) (p : Place) (e : Tree) (at : ℕ) → Refines (behind_first text ts inner most s p e at) (behind_first text ts outer (most + 1) s p e at)
    unfolding behind_first
    behinds_first most s p e at = choices (kind_at k.Arrow (seen ts s.column at)) _ _ _ _ (function_sets s p e at)
        (choices (kind_at k.Except (seen ts s.column at)) _ _ _ _ (excepts s p e at) (needs (kind_at k.RightBracketSubscript (seen ts s.column at)) _ _ (actions most s p step.Box e at)))

    brackets_by : (most : ℕ) (s : Context) (p : Place) (at : ℕ) (o : Opened) → Refines (bracket_by text ts inner most s p at o) (bracket_by text ts outer (most + 1) s p at o)
    brackets_by most s p at opened.Record = records s p at
    brackets_by most s p at opened.RecordSet = record_sets s p at
    brackets_by most s p at opened.Binders = mappings s p at
    brackets_by most s p at opened.Expression = bind (inner s 0 (at + 1)) (outer s 0 (at + 1)) _ _ (deeper s 0 (at + 1)) (λ e after. behinds_first most s p e after)

    pub brackets : (most : ℕ) (s : Context) (p : Place) (at : ℕ) → Refines (bracket text ts inner most s p at) (bracket text ts outer (most + 1) s p at)
    unfolding bracket
    brackets most s p at = brackets_by most s p at (opened_by ts s.column (at + 1))
