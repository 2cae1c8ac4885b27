-- What begins beyond the limits of values.
use Rattle.std.proofs.Common.{◌≡◌, ℕ, ◌+◌, ◌⊎◌, inl, inr, List, [], ◌∷◌, refl, sym, ap, subst, ◌∙◌, arith}
use Rattle.tla_lex.specs.declared.token.Kind.TheVariants as k
use Rattle.tla_lex.specs.declared.token.Token.{Token}
use Rattle.tla_value.specs.IsValue.{IsValue}
use Rattle.tla_value.specs.Tree.{Tree}
use Rattle.tla_config.specs.Private.Beyond.{MembersUpTo, IsBeyond, itself, nested, member}
use Rattle.tla_config.specs.Configuration.{Has, SpellsLiteral}
use Rattle.tla_config.specs.Literals.{Literal, value_of}
use Rattle.tla_config.specs.Private.GivesValues.{IsValueAt, IsUnwritten}
use Rattle.tla_config.proofs.Literals.{two_kinds, brace_begins_none, one_literal}

module _ (text : List ℕ) (ts : List Token) where
  abbrev pub NoLiteral : ℕ → Type 0
  NoLiteral at = (l : Literal) (to : ℕ) → SpellsLiteral text ts l at to → ⊥

  -- what stands there whole, and is no value
  abbrev NoValueWhole : ℕ → Type 0
  NoValueWhole at = (l : Literal) × (to : ℕ) × SpellsLiteral text ts l at to × (IsValue (value_of l) → ⊥)

  -- where no set opens, it stands whole
  beyond_whole : (room at : ℕ) → IsBeyond text ts room at → (Has text ts k.LeftBrace at → ⊥) → NoValueWhole at
  beyond_whole room at (itself n from to l x f) none = (l, to, x, f)
  beyond_whole room at (nested from b) none = absurd (none b)
  beyond_whole room at (member n from m ls b us x) none = absurd (none b)

  value_whole : (at to : ℕ) (v : Tree) → IsValueAt text ts v at to → NoValueWhole at → ⊥
  value_whole at to v found w =
      let e = one_literal text ts w.0 found.literal at w.1 to w.2 found.spelled in
      w.3 (subst (λ u. IsValue u) (sym (ap (λ l. value_of l) e.0 ∙ found.meaning)) found.is_value)

  -- a value that opens no set is not beyond the limits
  pub value_within : (room at to : ℕ) (v : Tree) → (Has text ts k.LeftBrace at → ⊥) → IsValueAt text ts v at to → IsBeyond text ts room at → ⊥
  value_within room at to v none found b = value_whole at to v found (beyond_whole room at b none)

  -- where no value stands and no set opens
  pub unwritten : (room at : ℕ) → (Has text ts k.LeftBrace at → ⊥) → NoLiteral at → IsUnwritten text ts room at
  unwritten room at none f = record { no_literal = f; within = λ b. let w = beyond_whole room at b none in f w.0 w.1 w.2 }

  -- after members from here on something begins that is beyond the limits
  abbrev pub Reaches : ℕ → ℕ → Type 0
  Reaches room at = (ls : List Literal) × (m : ℕ) × MembersUpTo text ts ls at m × IsBeyond text ts room m

  next_reaches : (room at end : ℕ) (v : Tree) → IsValueAt text ts v at end → (IsBeyond text ts room at → ⊥) → (ls : List Literal) (m : ℕ) → MembersUpTo text ts ls at m → IsBeyond text ts room m
      → Has text ts k.Comma end × Reaches room (end + 1)
  next_reaches room at end v found within [] m x b = absurd (within (subst (λ n. IsBeyond text ts room n) (sym x) b))
  next_reaches room at end v found within (l ∷ ls) m x b =
      let e = one_literal text ts l found.literal at x.0 end x.1 found.spelled in
      (subst (λ n. Has text ts k.Comma n) e.1 x.2, (ls, m, subst (λ n. MembersUpTo text ts ls (n + 1) m) e.1 x.3, b))

  -- after a value, which is not beyond them, a comma stands and it begins after that
  pub reaches_next : (room at end : ℕ) (v : Tree) → IsValueAt text ts v at end → (IsBeyond text ts room at → ⊥) → Reaches room at → Has text ts k.Comma end × Reaches room (end + 1)
  reaches_next room at end v found within r = next_reaches room at end v found within r.0 r.1 r.2 r.3

  none_reaches : (room at : ℕ) → IsUnwritten text ts room at → (ls : List Literal) (m : ℕ) → MembersUpTo text ts ls at m → IsBeyond text ts room m → ⊥
  none_reaches room at none [] m x b = none.within (subst (λ n. IsBeyond text ts room n) (sym x) b)
  none_reaches room at none (l ∷ ls) m x b = none.no_literal l x.0 x.1

  pub reaches_none : (room at : ℕ) → IsUnwritten text ts room at → Reaches room at → ⊥
  reaches_none room at none r = none_reaches room at none r.0 r.1 r.2 r.3

  -- nothing begins with the brace that closes a set
  pub close_unwritten : (room at : ℕ) → Has text ts k.RightBrace at → IsUnwritten text ts room at
  close_unwritten room at h = unwritten room at (λ b. two_kinds text ts at k.LeftBrace k.RightBrace (λ e. let z : ⊥ = cc in z) b h) (λ l to x. brace_begins_none text ts at l to h x)

  beyond_set : (n from : ℕ) → IsBeyond text ts n from → (room : ℕ) → n ≡ room + 1 → Reaches room (from + 1) ⊎ NoValueWhole from
  beyond_set n from (itself r at to l x f) room e = inr (l, to, x, f)
  beyond_set n from (nested at b) room e = absurd (omega arith)
  beyond_set n from (member r at m ls b us x) room e = let p : r ≡ room = omega arith in inl (ls, m, us, subst (λ q. IsBeyond text ts q m) p x)

  set_case : (room from : ℕ) → (Reaches room (from + 1) → ⊥) → (NoValueWhole from → ⊥) → Reaches room (from + 1) ⊎ NoValueWhole from → ⊥
  set_case room from f g (inl r) = f r
  set_case room from f g (inr w) = g w

  -- a set of which no member is beyond the limits, where it is a value, and where none is written
  pub set_within : (room from to : ℕ) (v : Tree) → IsValueAt text ts v from to → (Reaches room (from + 1) → ⊥) → IsBeyond text ts (room + 1) from → ⊥
  set_within room from to v found f b = set_case room from f (value_whole from to v found) (beyond_set (room + 1) from b room refl)

  pub set_unwritten : (room from : ℕ) → NoLiteral from → (Reaches room (from + 1) → ⊥) → IsUnwritten text ts (room + 1) from
  set_unwritten room from none f = record { no_literal = none; within = λ b. set_case room from f (λ w. none w.0 w.1 w.2) (beyond_set (room + 1) from b room refl) }
