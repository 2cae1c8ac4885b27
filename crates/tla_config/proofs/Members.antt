-- The members of a set, found one by one.
use Rattle.std.proofs.Common.{◌≡◌, ◌≤◌, ◌<◌, ℕ, ◌+◌, List, [], ◌∷◌, ◌++◌, refl, sym, ap, subst, ◌∙◌, append_assoc, arith, length}
use Rattle.tla_lex.specs.declared.token.Kind.TheVariants as k
use Rattle.tla_lex.specs.declared.token.Token.{Token}
use Rattle.tla_value.specs.IsValue.{IsValue}
use Rattle.tla_value.specs.Sets.{set_of}
use Rattle.tla_value.specs.Tree.{Tree, set, trees, members-trees, depth, deepest}
use Rattle.tla_config.specs.Configuration.{Has, SpellsLiteral, SpellsMembers}
use Rattle.tla_config.specs.declared.refusal.Refusal.{Refusal}
use Rattle.tla_config.specs.declared.refusal.Refusal.TheVariants as refusal
use Rattle.tla_config.specs.Private.Beyond.{MembersUpTo, IsBeyond, itself, member}
use Rattle.tla_config.specs.Private.Gives.{Because, Nowhere, Fails}
use Rattle.tla_config.specs.Private.GivesValues.{IsValueAt, NoValue, BeyondIn, IsUnwritten}
use Rattle.tla_config.proofs.Arms.{because_map}
use Rattle.tla_config.specs.Literals.{Literal, Literals, atom, braces, no_literals, more_literals, value_of, values_of}
use Rattle.tla_config.proofs.Beyond.{NoLiteral, Reaches, reaches_next, reaches_none, close_unwritten, set_within, set_unwritten}
use Rattle.tla_config.proofs.Limits.{member_value, member_depth}
use Rattle.tla_config.proofs.Literals.{two_kinds, atom_no_brace, brace_begins_none, one_literal}

-- members that make no set make no value
pub set_too_many : (vs : List Tree) → 1000000 < length vs → IsValue (set (trees vs)) → ⊥
set_too_many vs h x = let f = x.1.few in let e = ap (λ us. length us) (members-trees vs) in absurd (omega arith)

pub set_too_deep : (vs : List Tree) → 64 ≤ deepest (trees vs) → IsValue (set (trees vs)) → ⊥
set_too_deep vs h x = let f = x.1.shallow in let e = ap (λ us. deepest (trees us)) (members-trees vs) in absurd (omega arith)

module _ (text : List ℕ) (ts : List Token) where
  -- these members stand after the brace at one token and before another: whatever members follow, they and these are
  -- a set, and each set there begins with these
  pub record MembersSoFar (front : List Tree) (from at : ℕ) : Type 0 where
    pub whole : (l : Literal) (ls : Literals) (mid to : ℕ) → SpellsLiteral text ts l at mid → SpellsMembers text ts ls mid to
        → (ms : Literals) × SpellsLiteral text ts (braces ms) from to × (values_of ms ≡ front ++ value_of l ∷ values_of ls)
    pub rest : (ms : Literals) (to : ℕ) → SpellsLiteral text ts (braces ms) from to
        → (l : Literal) × (ls : Literals) × (mid : ℕ) × SpellsLiteral text ts l at mid × SpellsMembers text ts ls mid to × (values_of ms ≡ front ++ value_of l ∷ values_of ls)

  first_rest : (from : ℕ) → (Has text ts k.RightBrace (from + 1) → ⊥) → (ms : Literals) (to : ℕ) → SpellsLiteral text ts (braces ms) from to
      → (l : Literal) × (ls : Literals) × (mid : ℕ) × SpellsLiteral text ts l (from + 1) mid × SpellsMembers text ts ls mid to × (values_of ms ≡ [] ++ value_of l ∷ values_of ls)
  first_rest from unclosed no_literals to x = absurd (unclosed x.1)
  first_rest from unclosed (more_literals l ls) to x = (l, ls, x.1, x.2, x.3, refl)

  pub so_far_none : (from : ℕ) → Has text ts k.LeftBrace from → (Has text ts k.RightBrace (from + 1) → ⊥) → MembersSoFar [] from (from + 1)
  so_far_none from brace unclosed = record {
    whole = λ l ls mid to a b. (more_literals l ls, (brace, mid, a, b), refl);
    rest = first_rest from unclosed;
  }

  -- what follows a member that was found
  behind : (v : Tree) (l : Literal) (ls : Literals) (at mid end to : ℕ) → IsValueAt text ts v at end → SpellsLiteral text ts l at mid → SpellsMembers text ts ls mid to
      → (value_of l ≡ v) × SpellsMembers text ts ls end to
  behind v l ls at mid end to found a b =
      let e = one_literal text ts l found.literal at mid end a found.spelled in
      (ap (λ x. value_of x) e.0 ∙ found.meaning, subst (λ n. SpellsMembers text ts ls n to) e.1 b)

  abbrev After : Tree → List Tree → ℕ → Literals → ℕ → Type 0
  After v front end ms to = (ls : Literals) × SpellsMembers text ts ls end to × (values_of ms ≡ front ++ v ∷ values_of ls)

  after : (v : Tree) (front : List Tree) (from at end : ℕ) → MembersSoFar front from at → IsValueAt text ts v at end → (ms : Literals) (to : ℕ) → SpellsLiteral text ts (braces ms) from to
      → After v front end ms to
  after v front from at end so found ms to x =
      let r = so.rest ms to x in
      let b = behind v r.0 r.1 at r.2 end to found r.3 r.4 in
      (r.1, b.1, r.5 ∙ ap (λ y. front ++ y ∷ values_of r.1) b.0)

  no_comma_here : (ls : Literals) (end to : ℕ) → (Has text ts k.Comma end → ⊥) → SpellsMembers text ts ls end to → ls ≡ no_literals
  no_comma_here no_literals end to none x = refl
  no_comma_here (more_literals l ls) end to none x = absurd (none x.0)

  -- after a comma stands another member
  next_rest : (v : Tree) (front : List Tree) (ls : Literals) (end to : ℕ) → Has text ts k.Comma end → SpellsMembers text ts ls end to
      → (m : Literal) × (ns : Literals) × (mid : ℕ) × SpellsLiteral text ts m (end + 1) mid × SpellsMembers text ts ns mid to × (front ++ v ∷ values_of ls ≡ (front ++ v ∷ []) ++ value_of m ∷ values_of ns)
  next_rest v front no_literals end to comma x = absurd (two_kinds text ts end k.Comma k.RightBrace (λ e. let z : ⊥ = cc in z) comma x.0)
  next_rest v front (more_literals m ns) end to comma x = (m, ns, x.1, x.2, x.3, sym (append_assoc front (v ∷ []) (value_of m ∷ values_of ns)))

  pub so_far_more : (front : List Tree) (from at end : ℕ) (v : Tree) → MembersSoFar front from at → IsValueAt text ts v at end → Has text ts k.Comma end → MembersSoFar (front ++ v ∷ []) from (end + 1)
  so_far_more front from at end v so found comma = record {
    whole = λ l ls mid to a b.
        let w = so.whole found.literal (more_literals l ls) end to found.spelled (comma, mid, a, b) in
        (w.0, w.1, w.2 ∙ ap (λ y. front ++ y ∷ value_of l ∷ values_of ls) found.meaning ∙ sym (append_assoc front (v ∷ []) (value_of l ∷ values_of ls)));
    rest = λ ms to x.
        let r = after v front from at end so found ms to x in
        let n = next_rest v front r.0 end to comma r.1 in
        (n.0, n.1, n.2, n.3, n.4, r.2 ∙ n.5);
  }

  -- the set that the closing brace ends
  pub so_far_last : (front : List Tree) (from at end : ℕ) (v s : Tree) → MembersSoFar front from at → IsValueAt text ts v at end → Has text ts k.RightBrace end
      → s ≡ set (trees (set_of (front ++ v ∷ []))) → IsValue s → IsValueAt text ts s from (end + 1)
  so_far_last front from at end v s so found brace e x =
      let w = so.whole found.literal no_literals end (end + 1) found.spelled (brace, refl) in
      record {
        literal = braces w.0;
        spelled = w.1;
        meaning = ap (λ vs. set (trees (set_of vs))) (w.2 ∙ ap (λ y. front ++ y ∷ []) found.meaning) ∙ sym e;
        is_value = x;
      }

  -- no set stands there, where no set of braces does
  pub no_set : (room from : ℕ) → Has text ts k.LeftBrace from
      → ((ms : Literals) (to : ℕ) → SpellsLiteral text ts (braces ms) from to → IsValue (value_of (braces ms)) → depth (value_of (braces ms)) ≤ room → ⊥) → NoValue text ts room from
  no_set room from brace f (atom v) to x = absurd (atom_no_brace text ts from to v brace x)
  no_set room from brace f (braces ms) to x = f ms to x

  -- the set's members are beyond the limits
  pub so_far_refused : (front : List Tree) (room from at end : ℕ) (v : Tree) → Has text ts k.LeftBrace from → MembersSoFar front from at → IsValueAt text ts v at end → Has text ts k.RightBrace end
      → (IsValue (set (trees (set_of (front ++ v ∷ [])))) → ⊥) → NoValue text ts room from
  so_far_refused front room from at end v brace so found close refused = no_set room from brace (λ ms to x y d.
      let r = after v front from at end so found ms to x in
      let e : r.0 ≡ no_literals = no_comma_here r.0 end to (λ c. two_kinds text ts end k.Comma k.RightBrace (λ e. let z : ⊥ = cc in z) c close) r.1 in
      refused (subst (λ vs. IsValue (set (trees (set_of vs)))) (r.2 ∙ ap (λ ls. front ++ v ∷ values_of ls) e) y))

  -- a member is refused
  pub so_far_fails : (front : List Tree) (room from at : ℕ) → Has text ts k.LeftBrace from → MembersSoFar front from at → NoValue text ts room at → NoValue text ts (room + 1) from
  so_far_fails front room from at brace so fails = no_set (room + 1) from brace (λ ms to x y d.
      let r = so.rest ms to x in
      let z = subst (λ vs. IsValue (set (trees (set_of vs)))) r.5 y in
      let n = subst (λ vs. depth (set (trees (set_of vs))) ≤ room + 1) r.5 d in
      fails r.0 r.2 r.3 (member_value front (values_of r.1) (value_of r.0) z) (member_depth front (values_of r.1) (value_of r.0) room n))

  -- the set that the closing brace ends is beyond the limits
  pub set_beyond : (front : List Tree) (room from at end : ℕ) (v : Tree) → MembersSoFar front from at → IsValueAt text ts v at end → Has text ts k.RightBrace end
      → (IsValue (set (trees (set_of (front ++ v ∷ [])))) → ⊥) → IsBeyond text ts room from
  set_beyond front room from at end v so found brace refused =
      let w = so.whole found.literal no_literals end (end + 1) found.spelled (brace, refl) in
      let e : values_of w.0 ≡ front ++ v ∷ [] = w.2 ∙ ap (λ y. front ++ y ∷ []) found.meaning in
      itself room from (end + 1) (braces w.0) w.1 (λ x. refused (subst (λ vs. IsValue (set (trees (set_of vs)))) e x))

  pub empty_beyond : (room from : ℕ) → Has text ts k.LeftBrace from → Has text ts k.RightBrace (from + 1) → (IsValue (set (trees (set_of []))) → ⊥) → IsBeyond text ts room from
  empty_beyond room from brace close refused = itself room from (from + 2) (braces no_literals) (brace, close, refl) refused

  -- a set is refused, and a member of one
  pub set_because : (r : Refusal) (vs : List Tree) (item room from : ℕ) → ((IsValue (set (trees (set_of vs))) → ⊥) → IsBeyond text ts room from)
      → Fails text ts r (IsValue (set (trees (set_of vs))) → ⊥) → Because r Nowhere (λ n. n ≡ item) ⊥ → Because r Nowhere (BeyondIn text ts item room from) (IsUnwritten text ts room from)
  set_because (refusal.Unexpected n) vs item room from beyond fails x = absurd x
  set_because (refusal.LeftOut n) vs item room from beyond fails x = x
  set_because (refusal.TooLarge n) vs item room from beyond fails x = (x, beyond fails)
  set_because refusal.NoMemory vs item room from beyond fails x = tt

  before_more : (front : List Literal) (from at mid : ℕ) (l : Literal) → MembersUpTo text ts front from at → SpellsLiteral text ts l at mid → Has text ts k.Comma mid → MembersUpTo text ts (front ++ l ∷ []) from (mid + 1)
  before_more [] from at mid l x a c = (mid, subst (λ n. SpellsLiteral text ts l n mid) (sym x) a, c, refl)
  before_more (m ∷ front) from at mid l x a c = (x.0, x.1, x.2, before_more front (x.0 + 1) at mid l x.3 a c)

  -- some members stand after the brace at one token and before another
  abbrev pub MembersBefore : ℕ → ℕ → Type 0
  MembersBefore from at = (ls : List Literal) × MembersUpTo text ts ls (from + 1) at

  pub members_before : (from at end : ℕ) (v : Tree) → MembersBefore from at → IsValueAt text ts v at end → Has text ts k.Comma end → MembersBefore from (end + 1)
  members_before from at end v b found comma = (b.0 ++ found.literal ∷ [], before_more b.0 (from + 1) at end found.literal b.1 found.spelled comma)

  -- what is beyond the limits after the brace at one token is so after another too
  abbrev pub Onward : ℕ → ℕ → ℕ → Type 0
  Onward room from at = Reaches text ts room (from + 1) → Reaches text ts room at

  pub onward_more : (room from at end : ℕ) (v : Tree) → Onward room from at → IsValueAt text ts v at end → (IsBeyond text ts room at → ⊥) → Onward room from (end + 1)
  onward_more room from at end v on found within r = (reaches_next text ts room at end v found within (on r)).1

  onward_last : (room from at end : ℕ) (v : Tree) → Onward room from at → IsValueAt text ts v at end → (IsBeyond text ts room at → ⊥) → (Has text ts k.Comma end → ⊥) → Reaches text ts room (from + 1) → ⊥
  onward_last room from at end v on found within no_comma r = no_comma (reaches_next text ts room at end v found within (on r)).0

  no_set_written : (from : ℕ) → Has text ts k.LeftBrace from → ((ms : Literals) (to : ℕ) → SpellsLiteral text ts (braces ms) from to → ⊥) → NoLiteral text ts from
  no_set_written from brace f (atom v) to x = atom_no_brace text ts from to v brace x
  no_set_written from brace f (braces ms) to x = f ms to x

  member_unwritten : (front : List Tree) (room from at : ℕ) → Has text ts k.LeftBrace from → MembersSoFar front from at → Onward room from at → IsUnwritten text ts room at → IsUnwritten text ts (room + 1) from
  member_unwritten front room from at brace so on none =
      set_unwritten text ts room from (no_set_written from brace (λ ms to x. let r = so.rest ms to x in none.no_literal r.0 r.2 r.3)) (λ r. reaches_none text ts room at none (on r))

  pub member_because : (r : Refusal) (front : List Tree) (item room from at : ℕ) → Has text ts k.LeftBrace from → MembersSoFar front from at → MembersBefore from at → Onward room from at
      → Because r Nowhere (BeyondIn text ts item room at) (IsUnwritten text ts room at) → Because r Nowhere (BeyondIn text ts item (room + 1) from) (IsUnwritten text ts (room + 1) from)
  member_because r front item room from at brace so b on x =
      because_map r Nowhere (BeyondIn text ts item room at) Nowhere (BeyondIn text ts item (room + 1) from) (IsUnwritten text ts room at) (IsUnwritten text ts (room + 1) from)
      (λ n y. y) (λ n y. (y.0, member room from at b.0 brace b.1 y.1)) (member_unwritten front room from at brace so on) x

  -- neither a comma nor the closing brace follows
  open_unwritten : (front : List Tree) (from at end : ℕ) (v : Tree) → Has text ts k.LeftBrace from → MembersSoFar front from at → IsValueAt text ts v at end
      → (Has text ts k.Comma end → ⊥) → (Has text ts k.RightBrace end → ⊥) → NoLiteral text ts from
  open_unwritten front from at end v brace so found no_comma no_brace = no_set_written from brace (λ ms to x.
      let r = after v front from at end so found ms to x in
      let e : r.0 ≡ no_literals = no_comma_here r.0 end to no_comma r.1 in
      no_brace (subst (λ ls. SpellsMembers text ts ls end to) e r.1).0)

  pub so_far_open : (front : List Tree) (room from at end : ℕ) (v : Tree) → Has text ts k.LeftBrace from → MembersSoFar front from at → IsValueAt text ts v at end
      → (Has text ts k.Comma end → ⊥) → (Has text ts k.RightBrace end → ⊥) → NoValue text ts room from
  so_far_open front room from at end v brace so found no_comma no_brace l to x y d = open_unwritten front from at end v brace so found no_comma no_brace l to x

  pub so_far_unwritten : (front : List Tree) (room from at end : ℕ) (v : Tree) → Has text ts k.LeftBrace from → MembersSoFar front from at → Onward room from at → IsValueAt text ts v at end → (IsBeyond text ts room at → ⊥)
      → (Has text ts k.Comma end → ⊥) → (Has text ts k.RightBrace end → ⊥) → IsUnwritten text ts (room + 1) from
  so_far_unwritten front room from at end v brace so on found within no_comma no_brace =
      set_unwritten text ts room from (open_unwritten front from at end v brace so found no_comma no_brace) (onward_last room from at end v on found within no_comma)

  -- the set that the closing brace ends is not beyond the limits
  pub so_far_within : (room from at end : ℕ) (v s : Tree) → Onward room from at → IsValueAt text ts v at end → (IsBeyond text ts room at → ⊥) → Has text ts k.RightBrace end → IsValueAt text ts s from (end + 1)
      → IsBeyond text ts (room + 1) from → ⊥
  so_far_within room from at end v s on found within close whole =
      set_within text ts room from (end + 1) s whole (onward_last room from at end v on found within (λ c. two_kinds text ts end k.Comma k.RightBrace (λ e. let z : ⊥ = cc in z) c close))

  pub empty_within : (room from to : ℕ) (s : Tree) → Has text ts k.RightBrace (from + 1) → IsValueAt text ts s from to → IsBeyond text ts (room + 1) from → ⊥
  empty_within room from to s close whole = set_within text ts room from to s whole (reaches_none text ts room (from + 1) (close_unwritten text ts room (from + 1) close))

  -- the empty set
  pub empty_set : (from : ℕ) (s : Tree) → Has text ts k.LeftBrace from → Has text ts k.RightBrace (from + 1) → s ≡ set (trees (set_of [])) → IsValue s → IsValueAt text ts s from (from + 2)
  empty_set from s brace close e x = record { literal = braces no_literals; spelled = (brace, close, refl); meaning = sym e; is_value = x }

  no_empty : (from : ℕ) (ms : Literals) (to : ℕ) → Has text ts k.RightBrace (from + 1) → SpellsLiteral text ts (braces ms) from to → values_of ms ≡ []
  no_empty from no_literals to close x = refl
  no_empty from (more_literals l ls) to close x = absurd (brace_begins_none text ts (from + 1) l x.1 close x.2)

  pub empty_refused : (room from : ℕ) → Has text ts k.LeftBrace from → Has text ts k.RightBrace (from + 1) → (IsValue (set (trees (set_of []))) → ⊥) → NoValue text ts room from
  empty_refused room from brace close refused = no_set room from brace (λ ms to x y d. refused (subst (λ vs. IsValue (set (trees (set_of vs)))) (no_empty from ms to close x) y))
