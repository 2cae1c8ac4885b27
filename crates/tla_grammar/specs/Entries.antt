-- What an entry of a binder has before its set: names, or a tuple of names (book, chapter 15).
use Rattle.std.specs.Prelude.{◌≡◌, ℕ, ◌+◌, Bool, true, false, IsTrue, List, [], ◌∷◌}
use Rattle.tla_lex.specs.declared.token.Token.{Token}
use Rattle.tla_lex.specs.declared.token.Kind.TheVariants as k
use Rattle.tla_tree.specs.Tree.{Pattern, Each, Tuple}
use Rattle.tla_grammar.specs.Tokens.{Has, Names}

-- one name, or a tuple of names: CHOOSE and filters bind one element
abbrev pub is_single : Pattern → Bool
is_single (Each []) = false
is_single (Each (w ∷ [])) = true
is_single (Each (w ∷ v ∷ ws)) = false
is_single (Tuple ws) = true

module _ (text : List ℕ) (ts : List Token) where
  -- x, y or <<x, y>>
  abbrev pub Binds : ℕ → Pattern → ℕ → ℕ → Type 0
  Binds column (Each ws) from to = Names ts text column ws from to
  Binds column (Tuple ws) from to = (mid : ℕ) × Has ts column k.LeftTuple from × Names ts text column ws (from + 1) mid × Has ts column k.RightTuple mid × (to ≡ mid + 1)

  -- the same, `\in`, and a set that is spelled so
  abbrev pub Entry : ℕ → Pattern → (ℕ → ℕ → Type 0) → ℕ → ℕ → Type 0
  Entry column w spells from to = (m : ℕ) × Binds column w from m × Has ts column k.Member m × spells (m + 1) to

  -- one name or a tuple of names, and `\in`
  abbrev pub BeginsEntry : ℕ → ℕ → Type 0
  BeginsEntry column at = (w : Pattern) × (m : ℕ) × IsTrue (is_single w) × Binds column w at m × Has ts column k.Member m
