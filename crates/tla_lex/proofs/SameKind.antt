-- What is the same kind is that kind.
use Rattle.std.proofs.Common.{◌≡◌, true, false, refl}
use Rattle.tla_lex.specs.SameKind.{same_kind}
use Rattle.tla_lex.specs.declared.token.Kind.{Kind}
use Rattle.tla_lex.specs.declared.token.Kind.TheVariants as k

pub no : false ≡ true → ⊥
no h = cc

pub same_is : (wanted kind : Kind) → same_kind wanted kind ≡ true → kind ≡ wanted
same_is k.Name k.Name h = refl
same_is k.Separator k.Separator h = refl
same_is k.Closing k.Closing h = refl
same_is k.LeftParen k.LeftParen h = refl
same_is k.RightParen k.RightParen h = refl
same_is k.LeftBracket k.LeftBracket h = refl
same_is k.RightBracket k.RightBracket h = refl
same_is k.RightBrace k.RightBrace h = refl
same_is k.RightTuple k.RightTuple h = refl
same_is k.Underscore k.Underscore h = refl
same_is k.Comma k.Comma h = refl
same_is k.Colon k.Colon h = refl
same_is k.Prime k.Prime h = refl
same_is k.Define k.Define h = refl
same_is k.Module k.Module h = refl
same_is k.Member k.Member h = refl
same_is k.Then k.Then h = refl
same_is k.Else k.Else h = refl
same_is k.In k.In h = refl
same_is k.Box k.Box h = refl
same_is k.Arrow k.Arrow h = refl
same_is k.MapsTo k.MapsTo h = refl
same_is k.Other k.Other h = refl
same_is k.Equal k.Equal h = refl
same_is k.RightBracketSubscript k.RightBracketSubscript h = refl
same_is k.RightTupleSubscript k.RightTupleSubscript h = refl
same_is k.Except k.Except h = refl
same_is k.Bang k.Bang h = refl
same_is k.Dot k.Dot h = refl
same_is k.LeftTuple k.LeftTuple h = refl
same_is k.Extends k.Extends h = refl
same_is k.Choose k.Choose h = refl
same_is k.Product k.Product h = refl
same_is k.Substitute k.Substitute h = refl
same_is k.LeftBrace k.LeftBrace h = refl
same_is k.Minus k.Minus h = refl
same_is _ _ h = absurd (no h)
