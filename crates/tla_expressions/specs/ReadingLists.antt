-- Lists of expressions and of binders, read from the left. It has the shape of the code.
use Rattle.std.specs.Prelude.{ℕ, zero, suc, ◌+◌, if◌then◌else◌, List, [], ◌∷◌, ◌++◌, length, Ok, Err}
use Rattle.tla_lex.specs.declared.token.Place.{Place}
use Rattle.tla_lex.specs.declared.token.Token.{Token}
use Rattle.tla_lex.specs.declared.token.Kind.{Kind}
use Rattle.tla_lex.specs.declared.token.Kind.TheVariants as k
use Rattle.tla_grammar.specs.declared.context.Context.{Context}
use Rattle.tla_grammar.specs.declared.tokens.Between.{Between}
use Rattle.tla_grammar.specs.declared.tokens.Between.TheVariants as between
use Rattle.tla_tree.specs.declared.tree.Brackets.{Brackets}
use Rattle.tla_tree.specs.declared.word.Written.{Written}
use Rattle.tla_tree.specs.Tree.{Tree, Trees, Pattern, Each, Tuple, Group, trees, none, Paren, Listing, Call}
use Rattle.tla_tree.specs.Words.{written}
use Rattle.tla_grammar.specs.Tokens.{seen}
use Rattle.tla_grammar.specs.Kinds.{kind_at, closing}
use Rattle.tla_grammar.specs.Marks.{name_at, following}
use Rattle.tla_grammar.specs.Outcome.{Refused, Outcome, ◌>>=◌, need, at_op, sequence}

module _ (text : List ℕ) (ts : List Token) where
  -- names with commas between them
  unfoldable pub names : ℕ → List Written → ℕ → ℕ → Outcome (List Written)
  names zero front column at = Err Refused
  names (suc n) front column at = at_op (name_at (seen ts column at)) (Err Refused) (λ t.
      if kind_at k.Comma (seen ts column (at + 1)) then names n (front ++ written text t ∷ []) column (at + 2) else Ok (front ++ written text t ∷ [], at + 1))

  -- a tuple of names, after `<<`
  unfoldable pub tuple_of_names : ℕ → ℕ → Outcome Pattern
  tuple_of_names column at = names (length ts) [] column at >>= λ ws after. need (kind_at k.RightTuple (seen ts column after)) (Ok (Tuple ws, after + 1))

  -- names, or a tuple of names
  unfoldable pub pattern : ℕ → ℕ → Outcome Pattern
  pattern column at = if kind_at k.LeftTuple (seen ts column at) then tuple_of_names column (at + 1) else (names (length ts) [] column at >>= λ ws after. Ok (Each ws, after))

  -- one name, or a tuple of names
  unfoldable pub single : ℕ → ℕ → Outcome Pattern
  single column at = if kind_at k.LeftTuple (seen ts column at) then tuple_of_names column (at + 1) else at_op (name_at (seen ts column at)) (Err Refused) (λ t. Ok (Each (written text t ∷ []), at + 1))

  -- `inner` reads an expression in a context, whose top is above a floor, one level deeper
  module _ (inner : Context → ℕ → ℕ → Outcome Tree) where
    -- expressions with commas or bullets between them
    abbrev pub exprs : ℕ → List Tree → Context → Between → ℕ → Outcome (List Tree)
    exprs n front s m at = sequence (inner s 0) (following ts s.column m) n front at

    -- one expression or more, and the closing bracket
    unfoldable pub some : Context → Kind → ℕ → Outcome Trees
    some s close at = exprs (length ts) [] s between.Comma at >>= λ es after. need (kind_at close (seen ts s.column after)) (Ok (trees es, after + 1))

    unfoldable pub listing : Context → Place → Brackets → ℕ → Outcome Tree
    listing s p b at = if kind_at (closing b) (seen ts s.column (at + 1)) then Ok (Listing p b none, at + 2) else (some s (closing b) (at + 1) >>= λ es end. Ok (Listing p b es, end))

    unfoldable pub call : Context → Token → ℕ → Outcome Tree
    call s t at = some s k.RightParen (at + 2) >>= λ es end. Ok (Call (written text t) es, end)

    -- the set of an entry, after its names
    unfoldable pub set_behind : Context → Pattern → ℕ → Outcome Group
    set_behind s w at = need (kind_at k.Member (seen ts s.column at)) (inner s 0 (at + 1) >>= λ e end. Ok ((w, e), end))

    -- an entry of a binder list
    unfoldable pub group : Context → ℕ → Outcome Group
    group s at = pattern s.column at >>= set_behind s

    -- an entry of one element
    unfoldable pub one_group : Context → ℕ → Outcome Group
    one_group s at = single s.column at >>= set_behind s

    abbrev pub groups : ℕ → List Group → Context → ℕ → Outcome (List Group)
    groups n front s at = sequence (group s) (following ts s.column between.Comma) n front at

    unfoldable pub paren : Context → Place → ℕ → Outcome Tree
    paren s p at = inner s 0 (at + 1) >>= λ e after. need (kind_at k.RightParen (seen ts s.column after)) (Ok (Paren p e, after + 1))
