-- Whether two kinds are the same, for kinds that separate the parts of forms, units and statements; false for all
-- others.
use Rattle.std.specs.Prelude.{Bool, true, false}
use Rattle.tla_lex.specs.declared.token.Kind.{Kind}
use Rattle.tla_lex.specs.declared.token.Kind.TheVariants as k

abbrev pub same_kind : Kind → Kind → Bool
same_kind k.Name k.Name = true
same_kind k.Separator k.Separator = true
same_kind k.Closing k.Closing = true
same_kind k.LeftParen k.LeftParen = true
same_kind k.RightParen k.RightParen = true
same_kind k.LeftBracket k.LeftBracket = true
same_kind k.RightBracket k.RightBracket = true
same_kind k.RightBrace k.RightBrace = true
same_kind k.RightTuple k.RightTuple = true
same_kind k.Underscore k.Underscore = true
same_kind k.Comma k.Comma = true
same_kind k.Colon k.Colon = true
same_kind k.Prime k.Prime = true
same_kind k.Define k.Define = true
same_kind k.Module k.Module = true
same_kind k.Member k.Member = true
same_kind k.Then k.Then = true
same_kind k.Else k.Else = true
same_kind k.In k.In = true
same_kind k.Box k.Box = true
same_kind k.Arrow k.Arrow = true
same_kind k.MapsTo k.MapsTo = true
same_kind k.Other k.Other = true
same_kind k.Equal k.Equal = true
same_kind k.RightBracketSubscript k.RightBracketSubscript = true
same_kind k.RightTupleSubscript k.RightTupleSubscript = true
same_kind k.Except k.Except = true
same_kind k.Bang k.Bang = true
same_kind k.Dot k.Dot = true
same_kind k.LeftTuple k.LeftTuple = true
same_kind k.Extends k.Extends = true
same_kind k.Choose k.Choose = true
same_kind k.Product k.Product = true
same_kind k.Substitute k.Substitute = true
same_kind k.LeftBrace k.LeftBrace = true
same_kind k.Minus k.Minus = true
same_kind _ _ = false
