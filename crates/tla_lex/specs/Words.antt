-- Names, reserved words and numbers (book, chapter 15).
use Rattle.std.specs.Prelude.{ℕ, ◌+◌, ◌*◌, ◌-◌, ◌^◌, nat_lt, nat_eq, if◌then◌else◌, List, [], ◌∷◌, Option, Some, None, length, codes}
use Rattle.std.specs.List.{starts_with, list_all, list_any}
use Rattle.std.specs.Str.{bytes_eq}
use Rattle.tla_lex.specs.Bytes.{Bytes, is_letter, is_digit}
use Rattle.tla_lex.specs.declared.error.LexCode.TheVariants.{Unknown, NumberTooLarge}
use Rattle.tla_lex.specs.declared.lexeme.Lexeme.{Lexeme}
use Rattle.tla_lex.specs.declared.lexeme.Lexeme.TheVariants.{Found, Fault}
use Rattle.tla_lex.specs.declared.lexeme.Source.{Source}
use Rattle.tla_lex.specs.declared.lexeme.Source.TheVariants.{Module, Configuration}
use Rattle.tla_lex.specs.declared.token.Kind.{Kind}
use Rattle.tla_lex.specs.declared.token.Kind.TheVariants as kind

-- a list of spellings, each with its kind
abbrev pub Spellings : Type 0
Spellings = List (Bytes × Kind)

abbrev pub lookup : Spellings → Bytes → Option Kind
lookup [] word = None
lookup (e ∷ es) word = if bytes_eq e.0 word then Some e.1 else lookup es word

abbrev pub reserved_words : Spellings
reserved_words =
    (codes "ASSUME", kind.Assume) ∷ (codes "ASSUMPTION", kind.Assume) ∷ (codes "AXIOM", kind.Assume)
    ∷ (codes "BOOLEAN", kind.Boolean) ∷ (codes "CASE", kind.Case) ∷ (codes "CHOOSE", kind.Choose)
    ∷ (codes "CONSTANT", kind.Constant) ∷ (codes "CONSTANTS", kind.Constant) ∷ (codes "DOMAIN", kind.Domain)
    ∷ (codes "ELSE", kind.Else) ∷ (codes "EXCEPT", kind.Except) ∷ (codes "EXTENDS", kind.Extends)
    ∷ (codes "FALSE", kind.False) ∷ (codes "IF", kind.If) ∷ (codes "IN", kind.In) ∷ (codes "LET", kind.Let)
    ∷ (codes "LOCAL", kind.Local) ∷ (codes "MODULE", kind.Module) ∷ (codes "OTHER", kind.Other)
    ∷ (codes "STRING", kind.String) ∷ (codes "SUBSET", kind.Subset) ∷ (codes "THEN", kind.Then)
    ∷ (codes "THEOREM", kind.Theorem) ∷ (codes "TRUE", kind.True) ∷ (codes "UNCHANGED", kind.Unchanged)
    ∷ (codes "UNION", kind.Union) ∷ (codes "VARIABLE", kind.Variable) ∷ (codes "VARIABLES", kind.Variable)
    ∷ (codes "ENABLED", kind.Enabled) ∷ (codes "INSTANCE", kind.Instance) ∷ (codes "LAMBDA", kind.Lambda)
    ∷ (codes "RECURSIVE", kind.Recursive) ∷ (codes "WITH", kind.With) ∷ (codes "PROOF", kind.Proof)
    ∷ (codes "BY", kind.By) ∷ (codes "OBVIOUS", kind.Obvious) ∷ (codes "OMITTED", kind.Omitted) ∷ []

abbrev pub name_kind : Option Kind → Kind
name_kind None = kind.Name
name_kind (Some reserved) = reserved

-- the number that digits mean, after a number
abbrev pub value : ℕ → Bytes → ℕ
value n [] = n
value n (b ∷ bs) = value (n * 10 + (b - 48)) bs

-- a number is at most 9223372036854775807
abbrev pub small : ℕ → Option ℕ
small n = if nat_lt n (2 ^ 63) then Some n else None

abbrev pub on_small : Option ℕ → ℕ → Lexeme
on_small None len = Fault NumberTooLarge 0
on_small (Some n) len = Found (kind.Number n) len

-- the digits of a configuration are read above this crate, so that there they may be any number
abbrev pub number : Source → Bytes → Lexeme
number Module w = on_small (small (value 0 w)) (length w)
number Configuration w = Found kind.Digits (length w)

-- A whole run of letters, digits and `_`: after `WF_` and `SF_` the rest is a token of its own; a name has a letter, a
-- number has only digits.
unfoldable pub word : Source → Bytes → Lexeme
word source w =
    if starts_with nat_eq w (codes "WF_") then Found kind.WeakFairness 3
    else if starts_with nat_eq w (codes "SF_") then Found kind.StrongFairness 3
    else if list_any is_letter w then Found (name_kind (lookup reserved_words w)) (length w)
    else if list_all is_digit w then number source w
    else if bytes_eq w (codes "_") then Found kind.Underscore 1
    else Fault Unknown 0
