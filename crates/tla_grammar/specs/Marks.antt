-- The marks between the parts of forms: names, what separates the items of a list, and what begins a postfix form.
use Rattle.std.specs.Prelude.{ℕ, ◌+◌, not, ◌&&◌, ◌||◌, if◌then◌else◌, List, Option, Some, None, slice_get}
use Rattle.tla_lex.specs.SameKind.{same_kind}
use Rattle.tla_lex.specs.declared.token.Token.{Token}
use Rattle.tla_lex.specs.declared.token.Kind.{Kind}
use Rattle.tla_lex.specs.declared.token.Kind.TheVariants as k
use Rattle.tla_grammar.specs.declared.tokens.Between.{Between}
use Rattle.tla_grammar.specs.declared.tokens.Between.TheVariants as between
use Rattle.tla_grammar.specs.declared.tokens.Postfix.{Postfix}
use Rattle.tla_grammar.specs.declared.tokens.Postfix.TheVariants as form
use Rattle.tla_grammar.specs.Tokens.{seen, is_bullet_at}
use Rattle.tla_grammar.specs.Kinds.{kind_at}

-- the token, where it is a name
abbrev pub name_at : Option Token → Option Token
name_at None = None
name_at (Some t) = if same_kind k.Name t.kind then Some t else None

-- where the next item of a list begins, after this token
abbrev pub following : List Token → ℕ → Between → ℕ → Option ℕ
following ts column between.Comma at = if kind_at k.Comma (seen ts column at) then Some (at + 1) else None
following ts column (between.Bullet b) at = if is_bullet_at column b (slice_get ts at) then Some (at + 1) else None
following ts column between.Arm at = if kind_at k.Box (seen ts column at) && not (kind_at k.Other (seen ts column (at + 1))) then Some (at + 1) else None
following ts column between.Key at = if kind_at k.LeftBracket (seen ts column at) || kind_at k.Dot (seen ts column at) then Some at else None
following ts column between.Product at = if kind_at k.Product (seen ts column at) then Some (at + 1) else None
following ts column between.Nothing at = if kind_at k.Name (seen ts column at) then Some at else None

abbrev pub postfix_of : Kind → Option Postfix
postfix_of k.Prime = Some form.Prime
postfix_of k.LeftBracket = Some form.Index
postfix_of k.Dot = Some form.Field
postfix_of _ = None

-- the postfix form that begins here
abbrev pub postfix_at : Option Token → Option Postfix
postfix_at None = None
postfix_at (Some t) = postfix_of t.kind
