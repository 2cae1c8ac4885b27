-- What the parser of a configuration asks about a token. Only private contracts cite this.
use Rattle.std.specs.Prelude.{Bool, true, false, Option, Some, None}
use Rattle.tla_lex.specs.SameKind.{same_kind}
use Rattle.tla_lex.specs.Bytes.{Bytes}
use Rattle.tla_lex.specs.declared.token.Kind.{Kind}
use Rattle.tla_lex.specs.declared.token.Kind.TheVariants as k
use Rattle.tla_lex.specs.declared.token.Place.{Place}
use Rattle.tla_lex.specs.declared.token.Token.{Token}
use Rattle.tla_tree.specs.Words.{word_of}
use Rattle.tla_config.specs.declared.keyword.Keyword.{Keyword}
use Rattle.tla_config.specs.declared.keyword.Keyword.TheVariants as word
use Rattle.tla_config.specs.Private.Keywords.{keywords, lookup}

abbrev pub unless_keyword : Option Keyword → Token → Option Token
unless_keyword None t = Some t
unless_keyword (Some word) t = None

abbrev pub name_by : Bytes → Token → Kind → Option Token
name_by text t k.Name = unless_keyword (lookup keywords (word_of text t)) t
name_by text t _ = None

-- the token, where it is a name and no word of a statement
abbrev pub name_of : Bytes → Option Token → Option Token
name_of text None = None
name_of text (Some t) = name_by text t t.kind

abbrev pub with_place : Option Keyword → Place → Option (Keyword × Place)
with_place None p = None
with_place (Some word) p = Some (word, p)

abbrev pub keyword_by : Bytes → Token → Kind → Option (Keyword × Place)
keyword_by text t k.Name = with_place (lookup keywords (word_of text t)) t.place
keyword_by text t k.Constant = Some (word.Constants, t.place)
keyword_by text t _ = None

-- what the token begins, and its place
abbrev pub keyword_of : Bytes → Option Token → Option (Keyword × Place)
keyword_of text None = None
keyword_of text (Some t) = keyword_by text t t.kind

abbrev pub kind_at : Kind → Option Token → Bool
kind_at kind None = false
kind_at kind (Some t) = same_kind kind t.kind

abbrev pub truth_by : Kind → Option Bool
truth_by k.True = Some true
truth_by k.False = Some false
truth_by _ = None

-- the truth value that the token writes
abbrev pub truth_of : Option Token → Option Bool
truth_of None = None
truth_of (Some t) = truth_by t.kind

abbrev pub digits_by : Token → Kind → Option Token
digits_by t k.Digits = Some t
digits_by t _ = None

-- the token, where it is a number
abbrev pub digits_of : Option Token → Option Token
digits_of None = None
digits_of (Some t) = digits_by t t.kind

abbrev pub is_check_word : Keyword → Bool
is_check_word word.CheckDeadlock = true
is_check_word _ = false

abbrev pub is_check : Option (Keyword × Place) → Bool
is_check None = false
is_check (Some x) = is_check_word x.0

-- CHECK_DEADLOCK begins here
abbrev pub begins_check : Bytes → Option Token → Bool
begins_check text o = is_check (keyword_of text o)
