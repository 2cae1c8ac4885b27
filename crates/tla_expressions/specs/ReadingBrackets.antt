-- The forms in brackets and braces, read from the left. It has the shape of the code.
use Rattle.std.specs.Prelude.{ℕ, ◌+◌, nat_le, if◌then◌else◌, List, [], ◌∷◌, length, is_none, Ok, Err}
use Rattle.tla_lex.specs.declared.token.Place.{Place}
use Rattle.tla_lex.specs.declared.token.Token.{Token}
use Rattle.tla_lex.specs.declared.token.Kind.{Kind}
use Rattle.tla_lex.specs.declared.token.Kind.TheVariants as k
use Rattle.tla_grammar.specs.declared.context.Context.{Context}
use Rattle.tla_grammar.specs.declared.tokens.Between.TheVariants as between
use Rattle.tla_tree.specs.declared.tree.Brackets.TheVariants as b
use Rattle.tla_tree.specs.Tree.{Tree, Trees, Entry, Key, Change, trees, binders, fields, keys, updates, none, Name, Listing, Filter, Image, Function, FunctionSet, Record, RecordSet, Except, Action, Fair, AtIndex, AtField}
use Rattle.tla_grammar.specs.Edges.{depth}
use Rattle.tla_tree.specs.Words.{written}
use Rattle.tla_grammar.specs.Tokens.{seen}
use Rattle.tla_grammar.specs.Kinds.{kind_at}
use Rattle.tla_grammar.specs.Grammar.{updating}
use Rattle.tla_grammar.specs.Marks.{name_at, following}
use Rattle.tla_expressions.specs.ReadingLists.{exprs, some, listing, one_group, groups, paren}
use Rattle.tla_grammar.specs.declared.ahead.Opened.{Opened}
use Rattle.tla_grammar.specs.declared.ahead.Opened.TheVariants as opened
use Rattle.tla_tree.specs.declared.tree.Step.{Step}
use Rattle.tla_tree.specs.declared.tree.Step.TheVariants as step
use Rattle.tla_tree.specs.declared.tree.Fairness.{Fairness}
use Rattle.tla_grammar.specs.Ahead.{opened_by, binds, filters}
use Rattle.tla_grammar.specs.Outcome.{Refused, Outcome, ◌>>=◌, need, room, at_op, sequence}

module _ (text : List ℕ) (ts : List Token) where
  module _ (inner : Context → ℕ → ℕ → Outcome Tree) where
    -- the expressions after the first, and the closing bracket
    unfoldable pub others : Context → Kind → Tree → ℕ → Outcome Trees
    others s close e at = at_op (following ts s.column between.Comma at) (Ok (e ∷ [], at)) (λ next. exprs text ts inner (length ts) (e ∷ []) s between.Comma next) >>= λ es after.
        need (kind_at close (seen ts s.column after)) (Ok (trees es, after + 1))

    -- ---- subscripts

    -- a name, a tuple or (e)
    abbrev pub subscript_by : Context → Token → ℕ → Kind → Outcome Tree
    subscript_by s t at k.Name = Ok (Name (written text t), at + 1)
    subscript_by s t at k.LeftTuple = listing text ts inner s t.place b.Tuple at
    subscript_by s t at k.LeftParen = paren text ts inner s t.place at
    subscript_by s t at _ = Err Refused

    unfoldable pub subscript : Context → ℕ → Outcome Tree
    subscript s at = at_op (seen ts s.column at) (Err Refused) (λ t. subscript_by s t at t.kind)

    -- the subscript of an action
    unfoldable pub action : ℕ → Context → Place → Step → Tree → ℕ → Outcome Tree
    action most s p g a at = subscript s (at + 1) >>= λ v end. room (nat_le (depth (Action p g a v)) most) (Ok (Action p g a v, end))

    unfoldable pub fair : ℕ → Context → Place → Fairness → ℕ → Outcome Tree
    fair most s p f at = subscript s (at + 1) >>= λ v after. need (kind_at k.LeftParen (seen ts s.column after)) (inner s 0 (after + 1) >>= λ a end.
        need (kind_at k.RightParen (seen ts s.column end)) (room (nat_le (depth (Fair p f v a)) most) (Ok (Fair p f v a, end + 1))))

    -- ---- braces and tuples

    unfoldable pub filter : Context → Place → ℕ → Outcome Tree
    filter s p at = one_group text ts inner s (at + 1) >>= λ g after. need (kind_at k.Colon (seen ts s.column after)) (inner s 0 (after + 1) >>= λ e end.
        need (kind_at k.RightBrace (seen ts s.column end)) (Ok (Filter p g.0 g.1 e, end + 1)))

    unfoldable pub image : Context → Place → Tree → ℕ → Outcome Tree
    image s p e at = groups text ts inner (length ts) [] s (at + 1) >>= λ gs after. need (kind_at k.RightBrace (seen ts s.column after)) (Ok (Image p e (binders gs), after + 1))

    -- after the first expression
    unfoldable pub set_of : Context → Place → ℕ → Tree → ℕ → Outcome Tree
    set_of s p at e after = if kind_at k.Colon (seen ts s.column after) then need (is_none (binds ts s.column (at + 1))) (image s p e after)
        else (others s k.RightBrace e after >>= λ es end. Ok (Listing p b.Set es, end))

    unfoldable pub brace : Context → Place → ℕ → Outcome Tree
    brace s p at = if kind_at k.RightBrace (seen ts s.column (at + 1)) then Ok (Listing p b.Set none, at + 2)
        else if filters ts s.column (at + 1) then filter s p at else (inner s 0 (at + 1) >>= set_of s p at)

    unfoldable pub tuple : ℕ → Context → Place → ℕ → Outcome Tree
    tuple most s p at = if kind_at k.RightTuple (seen ts s.column (at + 1)) then Ok (Listing p b.Tuple none, at + 2)
        else (inner s 0 (at + 1) >>= λ e after. if kind_at k.RightTupleSubscript (seen ts s.column after) then action most s p step.Angle e after
        else (others s k.RightTuple e after >>= λ es end. Ok (Listing p b.Tuple es, end)))

    -- ---- functions and records

    unfoldable pub mapping : Context → Place → ℕ → Outcome Tree
    mapping s p at = groups text ts inner (length ts) [] s (at + 1) >>= λ gs after. need (kind_at k.MapsTo (seen ts s.column after)) (inner s 0 (after + 1) >>= λ e end.
        need (kind_at k.RightBracket (seen ts s.column end)) (Ok (Function p (binders gs) e, end + 1)))

    unfoldable pub function_set : Context → Place → Tree → ℕ → Outcome Tree
    function_set s p a at = inner s 0 (at + 1) >>= λ b end. need (kind_at k.RightBracket (seen ts s.column end)) (Ok (FunctionSet p a b, end + 1))

    -- a |-> e, or a : S
    unfoldable pub entry : Context → Kind → ℕ → Outcome Entry
    entry s mark at = at_op (name_at (seen ts s.column at)) (Err Refused) (λ w. need (kind_at mark (seen ts s.column (at + 1))) (inner s 0 (at + 2) >>= λ e end. Ok ((written text w, e), end)))

    abbrev pub entries : ℕ → List Entry → Context → Kind → ℕ → Outcome (List Entry)
    entries n front s mark at = sequence (entry s mark) (following ts s.column between.Comma) n front at

    unfoldable pub record_of : Context → Place → ℕ → Outcome Tree
    record_of s p at = entries (length ts) [] s k.MapsTo (at + 1) >>= λ fs after. need (kind_at k.RightBracket (seen ts s.column after)) (Ok (Record p (fields fs), after + 1))

    unfoldable pub records_of : Context → Place → ℕ → Outcome Tree
    records_of s p at = entries (length ts) [] s k.Colon (at + 1) >>= λ fs after. need (kind_at k.RightBracket (seen ts s.column after)) (Ok (RecordSet p (fields fs), after + 1))

    -- ---- EXCEPT

    -- [e, ..] or .a
    unfoldable pub key_at : Context → ℕ → Outcome Key
    key_at s at = if kind_at k.LeftBracket (seen ts s.column at) then (some text ts inner s k.RightBracket (at + 1) >>= λ es end. Ok (AtIndex es, end))
        else need (kind_at k.Dot (seen ts s.column at)) (at_op (name_at (seen ts s.column (at + 1))) (Err Refused) (λ w. Ok (AtField (written text w), at + 2)))

    abbrev pub path : ℕ → List Key → Context → ℕ → Outcome (List Key)
    path n front s at = sequence (key_at s) (following ts s.column between.Key) n front at

    -- !p = e
    unfoldable pub change : Context → ℕ → Outcome Change
    change s at = need (kind_at k.Bang (seen ts s.column at)) (path (length ts) [] s (at + 1) >>= λ ks after.
        need (kind_at k.Equal (seen ts s.column after)) (inner (updating s) 0 (after + 1) >>= λ e end. Ok ((keys ks, e), end)))

    abbrev pub changes : ℕ → List Change → Context → ℕ → Outcome (List Change)
    changes n front s at = sequence (change s) (following ts s.column between.Comma) n front at

    unfoldable pub except : Context → Place → Tree → ℕ → Outcome Tree
    except s p f at = changes (length ts) [] s (at + 1) >>= λ us end. need (kind_at k.RightBracket (seen ts s.column end)) (Ok (Except p f (updates us), end + 1))

    -- ---- brackets

    -- after the first expression
    unfoldable pub behind_first : ℕ → Context → Place → Tree → ℕ → Outcome Tree
    behind_first most s p e at = if kind_at k.Arrow (seen ts s.column at) then function_set s p e at
        else if kind_at k.Except (seen ts s.column at) then except s p e at
        else need (kind_at k.RightBracketSubscript (seen ts s.column at)) (action most s p step.Box e at)

    abbrev pub bracket_by : ℕ → Context → Place → ℕ → Opened → Outcome Tree
    bracket_by most s p at opened.Record = record_of s p at
    bracket_by most s p at opened.RecordSet = records_of s p at
    bracket_by most s p at opened.Binders = mapping s p at
    bracket_by most s p at opened.Expression = inner s 0 (at + 1) >>= behind_first most s p

    unfoldable pub bracket : ℕ → Context → Place → ℕ → Outcome Tree
    bracket most s p at = bracket_by most s p at (opened_by ts s.column (at + 1))
