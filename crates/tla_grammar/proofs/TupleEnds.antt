-- How the search for the end of a tuple of names goes on, and stops.
use Rattle.std.proofs.Common.{◌≡◌, ℕ, ◌+◌, true, false, List, Some, None, refl, add-one}
use Rattle.tla_lex.specs.declared.token.Token.{Token}
use Rattle.tla_lex.specs.declared.token.Kind.TheVariants as k
use Rattle.tla_grammar.specs.Tokens.{seen}
use Rattle.tla_grammar.specs.Kinds.{kind_at}
use Rattle.tla_grammar.specs.Ahead.{tuple_end}

module _ (ts : List Token) where
  pub tuple_more : (n m : ℕ) (column at : ℕ) → n ≡ m + 1 → kind_at k.Name (seen ts column at) ≡ true → kind_at k.Comma (seen ts column (at + 1)) ≡ true
      → tuple_end ts column n at ≡ tuple_end ts column m (at + 2)
  unfolding tuple_end
  tuple_more n m column at h p q = rw (h, add-one, p, q) refl

  pub tuple_last : (n m : ℕ) (column at : ℕ) → n ≡ m + 1 → kind_at k.Name (seen ts column at) ≡ true → kind_at k.Comma (seen ts column (at + 1)) ≡ false → kind_at k.RightTuple (seen ts column (at + 1)) ≡ true
      → tuple_end ts column n at ≡ Some (at + 2)
  unfolding tuple_end
  tuple_last n m column at h p q r = rw (h, add-one, p, q, r) refl

  pub tuple_open : (n m : ℕ) (column at : ℕ) → n ≡ m + 1 → kind_at k.Name (seen ts column at) ≡ true → kind_at k.Comma (seen ts column (at + 1)) ≡ false → kind_at k.RightTuple (seen ts column (at + 1)) ≡ false
      → tuple_end ts column n at ≡ None
  unfolding tuple_end
  tuple_open n m column at h p q r = rw (h, add-one, p, q, r) refl

  pub tuple_none : (n m : ℕ) (column at : ℕ) → n ≡ m + 1 → kind_at k.Name (seen ts column at) ≡ false → tuple_end ts column n at ≡ None
  unfolding tuple_end
  tuple_none n m column at h p = rw (h, add-one, p) refl

  pub tuple_full : (n : ℕ) (column at : ℕ) → n ≡ 0 → tuple_end ts column n at ≡ None
  unfolding tuple_end
  tuple_full n column at z = rw z refl
