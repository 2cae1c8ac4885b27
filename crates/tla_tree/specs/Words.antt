-- What a token is written as.
use Rattle.std.specs.Prelude.{ℕ, ◌-◌, List, take, drop}
use Rattle.tla_lex.specs.declared.token.Token.{Token}
use Rattle.tla_tree.specs.declared.word.Written.{Written}

-- a token's slice of the text
abbrev pub word_of : List ℕ → Token → List ℕ
word_of text t = take (t.end - t.start) (drop t.start text)

-- a token as it is written, and where
abbrev pub written : List ℕ → Token → Written
written text t = record { place = t.place; word = word_of text t }
