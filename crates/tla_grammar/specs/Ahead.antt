-- What follows an opening bracket, and an entry of a binder that begins there: the token that distinguishes a binder
-- from an operator.
use Rattle.std.specs.Prelude.{ℕ, zero, suc, ◌+◌, Bool, false, ◌&&◌, ◌||◌, if◌then◌else◌, List, [], ◌∷◌, Option, Some, None, drop, length}
use Rattle.tla_lex.specs.declared.token.Token.{Token}
use Rattle.tla_lex.specs.declared.token.Kind.{Kind}
use Rattle.tla_lex.specs.declared.token.Kind.TheVariants as k
use Rattle.tla_grammar.specs.declared.ahead.Role.{Role}
use Rattle.tla_grammar.specs.declared.ahead.Role.TheVariants as role
use Rattle.tla_grammar.specs.declared.ahead.Opened.{Opened}
use Rattle.tla_grammar.specs.declared.ahead.Opened.TheVariants as opened
use Rattle.tla_grammar.specs.Tokens.{seen}
use Rattle.tla_grammar.specs.Kinds.{kind_at, role_of}

-- How many brackets are open, and how many quantifiers and CHOOSEs still lack their colon, after a token in this role;
-- None if it ends a part of the open bracket.
abbrev pub behind : ℕ → ℕ → Role → Option (ℕ × ℕ)
behind deep bound role.Plain = Some (deep, bound)
behind deep bound role.Opens = Some (deep + 1, bound)
behind zero bound role.Closes = None
behind (suc deep) bound role.Closes = Some (deep, bound)
behind zero bound role.Binds = Some (0, bound + 1)
behind (suc deep) bound role.Binds = Some (suc deep, bound)
behind zero zero role.Colon = None
behind zero (suc bound) role.Colon = Some (0, bound)
behind (suc deep) bound role.Colon = Some (suc deep, bound)
behind zero zero role.Separates = None
behind zero (suc bound) role.Separates = Some (0, suc bound)
behind (suc deep) bound role.Separates = Some (suc deep, bound)

abbrev pub onward : Option (ℕ × ℕ) → Option Token → (ℕ → ℕ → Option Token) → Option Token
onward None t f = t
onward (Some x) t f = f x.0 x.1

-- the first token that ends a part of the open bracket
unfoldable pub ending : ℕ → ℕ → List Token → Option Token
ending deep bound [] = None
ending deep bound (t ∷ ts) = onward (behind deep bound (role_of t.kind)) (Some t) (λ d b. ending d b ts)

-- the token after at most this many names, with commas between them, and `>>`
unfoldable pub tuple_end : List Token → ℕ → ℕ → ℕ → Option ℕ
tuple_end ts column zero at = None
tuple_end ts column (suc n) at = if kind_at k.Name (seen ts column at)
    then (if kind_at k.Comma (seen ts column (at + 1)) then tuple_end ts column n (at + 2) else if kind_at k.RightTuple (seen ts column (at + 1)) then Some (at + 2) else None)
    else None

-- the token after one name, or after a tuple of names
abbrev pub single_end : List Token → ℕ → ℕ → Option ℕ
single_end ts column at = if kind_at k.Name (seen ts column at) then Some (at + 1)
    else if kind_at k.LeftTuple (seen ts column at) then tuple_end ts column (length ts) (at + 1) else None

abbrev pub if_member : List Token → ℕ → Option ℕ → Option ℕ
if_member ts column None = None
if_member ts column (Some at) = if kind_at k.Member (seen ts column at) then Some at else None

-- where `\in` follows one name or a tuple of names
abbrev pub binds : List Token → ℕ → ℕ → Option ℕ
binds ts column at = if_member ts column (single_end ts column at)

-- such a token ends the part after `\in`
abbrev pub part_ends : List Token → Kind → Option ℕ → Bool
part_ends ts kind None = false
part_ends ts kind (Some at) = kind_at kind (ending 0 0 (drop (at + 1) ts))

-- an entry of one element, and a colon ends the part
abbrev pub filters : List Token → ℕ → ℕ → Bool
filters ts column at = part_ends ts k.Colon (binds ts column at)

-- an entry of one element, and `|->` or a comma ends the part
abbrev pub maps : List Token → ℕ → ℕ → Bool
maps ts column at = part_ends ts k.MapsTo (binds ts column at) || part_ends ts k.Comma (binds ts column at)

-- the forms that a bracket opens, by what follows it
abbrev pub opened_by : List Token → ℕ → ℕ → Opened
opened_by ts column at = if kind_at k.Name (seen ts column at) && kind_at k.MapsTo (seen ts column (at + 1)) then opened.Record
    else if kind_at k.Name (seen ts column at) && kind_at k.Colon (seen ts column (at + 1)) then opened.RecordSet
    else if kind_at k.Name (seen ts column at) && kind_at k.Comma (seen ts column (at + 1)) then opened.Binders
    else if maps ts column at then opened.Binders else opened.Expression
