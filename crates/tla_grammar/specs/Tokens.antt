-- Tokens as the grammar reads them: by their number in the list, and only right of a column.
use Rattle.std.specs.Prelude.{◌≡◌, ℕ, zero, suc, ◌+◌, Bool, true, false, not, ◌&&◌, ◌||◌, nat_lt, nat_eq, if◌then◌else◌, List, [], ◌∷◌, Option, Some, None, slice_get}
use Rattle.tla_lex.specs.declared.token.Place.{Place}
use Rattle.tla_lex.specs.declared.token.Token.{Token}
use Rattle.tla_lex.specs.declared.token.Kind.{Kind}
use Rattle.tla_lex.specs.declared.token.Kind.TheVariants as k
use Rattle.tla_tree.specs.declared.tree.Bullet.{Bullet}
use Rattle.tla_tree.specs.declared.tree.Infix.{Infix}
use Rattle.tla_tree.specs.declared.word.Written.{Written}
use Rattle.tla_tree.specs.Words.{written}
use Rattle.tla_grammar.specs.Operators.{infix_of, bullet_of, same_bullet}

abbrev pub right_of : ℕ → Option Token → Option Token
right_of column None = None
right_of column (Some t) = if nat_lt column t.place.column then Some t else None

-- the token with this number, if it is right of the column
abbrev pub seen : List Token → ℕ → ℕ → Option Token
seen ts column at = right_of column (slice_get ts at)

-- begins a postfix form, or arguments
abbrev pub is_suffix : Kind → Bool
is_suffix k.Prime = true
is_suffix k.LeftBracket = true
is_suffix k.Dot = true
is_suffix k.LeftParen = true
is_suffix _ = false

abbrev pub is_some_infix : Option Infix → Bool
is_some_infix None = false
is_some_infix (Some _) = true

-- begins an infix operator, a postfix form or arguments
abbrev pub goes_on : Kind → Bool
goes_on kind = is_suffix kind || is_some_infix (infix_of kind)

abbrev pub is_bullet : Bullet → Option Bullet → Bool
is_bullet b None = false
is_bullet b (Some other) = same_bullet b other

-- this bullet, in this column
abbrev pub is_bullet_at : ℕ → Bullet → Option Token → Bool
is_bullet_at column b None = false
is_bullet_at column b (Some t) = nat_eq t.place.column column && is_bullet b (bullet_of t.kind)

-- what may follow a junction list in this column: right of it, nothing that goes on with it
abbrev pub may_follow : ℕ → Option Token → Bool
may_follow column None = true
may_follow column (Some t) = not (nat_lt column t.place.column && goes_on t.kind)

module _ (ts : List Token) where
  -- some token of this kind, right of the column
  abbrev pub Has : ℕ → Kind → ℕ → Type 0
  Has column kind at = (t : Token) × (seen ts column at ≡ Some t) × (t.kind ≡ kind)

  -- a token of this kind at this place
  abbrev pub Is : ℕ → Kind → Place → ℕ → Type 0
  Is column kind p at = (t : Token) × (seen ts column at ≡ Some t) × (t.kind ≡ kind) × (t.place ≡ p)

  -- a token of this kind, written so
  abbrev pub Writes : List ℕ → ℕ → Kind → Written → ℕ → Type 0
  Writes text column kind w at = (t : Token) × (seen ts column at ≡ Some t) × (t.kind ≡ kind) × (written text t ≡ w)

  -- names with commas between them, one or more
  abbrev pub Names : List ℕ → ℕ → List Written → ℕ → ℕ → Type 0
  Names text column [] from to = ⊥
  Names text column (w ∷ []) from to = Writes text column k.Name w from × (to ≡ from + 1)
  Names text column (w ∷ v ∷ ws) from to = Writes text column k.Name w from × Has column k.Comma (from + 1) × Names text column (v ∷ ws) (from + 2) to

  -- a token of this kind has this number, in whatever column
  abbrev pub KindAt : ℕ → Kind → Type 0
  KindAt at kind = (t : Token) × (slice_get ts at ≡ Some t) × (t.kind ≡ kind)

  -- n names from the first number up to the second, each with a comma after it
  abbrev pub Commas : ℕ → ℕ → ℕ → Type 0
  Commas zero from at = at ≡ from
  Commas (suc n) from at = (before : ℕ) × Commas n from before × KindAt before k.Name × KindAt (before + 1) k.Comma × (at ≡ before + 2)
