-- A list of statements, found statement by statement.
use Rattle.std.proofs.Common.{◌≡◌, ◌<◌, ◌≤◌, ℕ, ◌+◌, Bool, true, false, true≢false, not, ◌&&◌, ◌||◌, List, [], ◌∷◌, ◌++◌, Some, None, ◌⊎◌, inl, inr, filter, slice_get, refl, sym, ap, subst, ◌∙◌, append_assoc, append-nil, length-append, arith, length}
use Rattle.std.proofs.lemmas.List.Elements.{filter-append}
use Rattle.std.proofs.lemmas.Option.{slice_get_past}
use Rattle.tla_lex.specs.declared.token.Kind.TheVariants as k
use Rattle.tla_lex.specs.declared.token.Place.{Place}
use Rattle.tla_lex.specs.declared.token.Token.{Token}
use Rattle.tla_config.specs.declared.keyword.Keyword.{Keyword}
use Rattle.tla_config.specs.declared.keyword.Keyword.TheVariants as keyword
use Rattle.tla_config.specs.declared.refusal.Refusal.{Refusal}
use Rattle.tla_config.specs.declared.refusal.Refusal.TheVariants as refusal
use Rattle.tla_config.specs.Configuration.{Has, SpellsStatement, StatementsUpTo, SpellsStatements, is_check_deadlock}
use Rattle.tla_config.specs.Private.Fronts.{keyword_of, is_check_word, is_check, begins_check}
use Rattle.tla_config.specs.Private.Gives.{Because, Fails, Ends, IsStatement, NoStatement, AreStatements, NoStatements, LeftOutIn, TooLargeIn, ClearStatement, LeftOutAt, TooLargeAt, Clear}
use Rattle.tla_config.specs.Refusals.{FollowsStatements}
use Rattle.tla_config.specs.Statements.{Statement, Specification, Init, Next, Invariants, Constraints, Constants, CheckDeadlock}
use Rattle.tla_config.proofs.Arms.{word_for, place_for, spelled_front, left_out_front, clear_none}
use Rattle.tla_config.proofs.Fronts.{has_within, name_within, comma_begins_none, name_begins_none, constants_is}

-- how many statements are CHECK_DEADLOCK
abbrev pub checks_of : List Statement → ℕ
checks_of cs = length (filter is_check_deadlock cs)

abbrev pub count_of : Bool → ℕ
count_of true = 1
count_of false = 0

checks_one : (c : Statement) (b : Bool) → is_check_deadlock c ≡ b → checks_of (c ∷ []) ≡ count_of b
checks_one c true h = rw h refl
checks_one c false h = rw h refl

checks_append : (bs cs : List Statement) → checks_of (bs ++ cs) ≡ checks_of bs + checks_of cs
checks_append bs cs = ap (λ xs. length xs) (filter-append is_check_deadlock bs cs) ∙ length-append (filter is_check_deadlock bs) (filter is_check_deadlock cs)

pub checks_more : (bs : List Statement) (c : Statement) (b : Bool) (n : ℕ) → checks_of bs ≡ n → is_check_deadlock c ≡ b → checks_of (bs ++ c ∷ []) ≡ n + count_of b
checks_more bs c b n h e = checks_append bs (c ∷ []) ∙ (let x = checks_one c b e in cc)

checks_front : (checks is : Bool) → not (checks && is) ≡ true → count_of checks + count_of is ≡ count_of (checks || is)
checks_front true true h = (let z : ⊥ = cc in absurd z)
checks_front true false h = refl
checks_front false true h = refl
checks_front false false h = refl

-- one statement more
pub checks_next : (bs : List Statement) (c : Statement) (checks : Bool) → checks_of bs ≡ count_of checks → not (checks && is_check_deadlock c) ≡ true
    → checks_of (bs ++ c ∷ []) ≡ count_of (checks || is_check_deadlock c)
checks_next bs c checks h m = checks_more bs c (is_check_deadlock c) (count_of checks) h refl ∙ checks_front checks (is_check_deadlock c) m

count_small : (checks : Bool) → count_of checks ≤ 1
count_small true = omega arith
count_small false = omega arith

pub few_checks : (bs : List Statement) (checks : Bool) → checks_of bs ≡ count_of checks → checks_of bs ≤ 1
few_checks bs checks h = rw h (count_small checks)

both_true : (a b : Bool) → (a && b) ≡ true → (a ≡ true) × (b ≡ true)
both_true true b h = (refl, h)
both_true false b h = absurd (true≢false (sym h))

word_is_check : (c : Statement) → is_check_word (word_for c) ≡ is_check_deadlock c
word_is_check (Specification p w) = refl
word_is_check (Init p w) = refl
word_is_check (Next p w) = refl
word_is_check (Invariants p ws) = refl
word_is_check (Constraints p ws) = refl
word_is_check (Constants p is) = refl
word_is_check (CheckDeadlock p check) = refl

module _ (text : List ℕ) (ts : List Token) where
  begins_within : (c : Statement) (at to : ℕ) → SpellsStatement text ts c at to → length ts ≤ at → ⊥
  begins_within c at to x h =
      let f = spelled_front text ts at c to x in
      let n = slice_get_past ts at h in
      let g : keyword_of text (slice_get ts at) ≡ None = ap (λ o. keyword_of text o) n in
      (let z : ⊥ = cc in z)

  -- no list of names goes on where the statements go on
  keyword_ends : (at : ℕ) (word : Keyword) (p : Place) → keyword_of text (slice_get ts at) ≡ Some (word, p) → Ends text ts at
  keyword_ends at word p f = record {
    no_comma = λ h. let n = comma_begins_none text ts at h in (let z : ⊥ = cc in z);
    no_name = λ v h. let n = name_begins_none text ts v at h in (let z : ⊥ = cc in z);
  }

  front_ends : (at : ℕ) (c : Statement) (to : ℕ) → SpellsStatement text ts c at to → Ends text ts at
  front_ends at c to x = keyword_ends at (word_for c) (place_for c) (spelled_front text ts at c to x)

  ends_last : Ends text ts (length ts)
  ends_last = record {
    no_comma = λ h. let n = has_within text ts k.Comma (length ts) h in absurd (omega arith);
    no_name = λ w h. let n = name_within text ts w (length ts) h in absurd (omega arith);
  }

  ends_of : (cs : List Statement) (at to : ℕ) → StatementsUpTo text ts cs at to → Ends text ts to → Ends text ts at
  ends_of [] at to x e = subst (λ m. Ends text ts m) (sym x) e
  ends_of (c ∷ cs) at to x e = front_ends at c x.0 x.1

  -- no list of names goes on at a token, and no statement begins there in which nothing is left out or too large
  pub record Stops (at : ℕ) : Type 0 where
    pub ends : Ends text ts at
    pub none : (c : Statement) (to : ℕ) → SpellsStatement text ts c at to → ClearStatement text ts at → ⊥

  stops_last : Stops (length ts)
  stops_last = record { ends = ends_last; none = λ c to x f. begins_within c (length ts) to x (omega arith) }

  -- something is left out in the statement that begins at a token, or too large
  abbrev HasCause : ℕ → Type 0
  HasCause begin = (at : ℕ) × (LeftOutIn text ts begin at ⊎ TooLargeIn text ts begin at)

  clear_no_cause : (begin at : ℕ) → ClearStatement text ts begin → LeftOutIn text ts begin at ⊎ TooLargeIn text ts begin at → ⊥
  clear_no_cause begin at clear (inl x) = clear.no_left at x
  clear_no_cause begin at clear (inr x) = clear.no_large at x

  constant_ends : (at : ℕ) → Has text ts k.Constant at → Ends text ts at
  constant_ends at x = keyword_ends at keyword.Constants x.0.place (constants_is text ts at x.0.place (x.0, x.1, x.2, refl))

  cause_ends : (begin at : ℕ) → LeftOutIn text ts begin at ⊎ TooLargeIn text ts begin at → Ends text ts begin
  cause_ends begin at (inl (inl x)) = keyword_ends begin keyword.LeftOut x.0.0.place (left_out_front text ts begin x.0)
  cause_ends begin at (inl (inr x)) = constant_ends begin x.0
  cause_ends begin at (inr x) = constant_ends begin x.0

  stops_cause : (begin : ℕ) → HasCause begin → Stops begin
  stops_cause begin h = record { ends = cause_ends begin h.0 h.1; none = λ c to x f. clear_no_cause begin h.0 f h.1 }

  -- these statements stand before a token: whatever statements begin there, they and these stand from the first
  -- token, and each list that stops begins with these
  pub record StatementsSoFar (front : List Statement) (at : ℕ) : Type 0 where
    pub whole : (cs : List Statement) (to : ℕ) → StatementsUpTo text ts cs at to → StatementsUpTo text ts (front ++ cs) 0 to
    pub rest : (cs : List Statement) (to : ℕ) → StatementsUpTo text ts cs 0 to → Stops to → (ds : List Statement) × (cs ≡ front ++ ds) × StatementsUpTo text ts ds at to

  next_rest : (c : Statement) (ds : List Statement) (at mid to : ℕ) → IsStatement text ts c at mid → ClearStatement text ts at → StatementsUpTo text ts ds at to → Stops to
      → (es : List Statement) × (ds ≡ c ∷ es) × StatementsUpTo text ts es mid to
  next_rest c [] at mid to st f x s = absurd (s.none c mid (subst (λ m. SpellsStatement text ts c m mid) x st.spelled) (subst (λ m. ClearStatement text ts m) x f))
  next_rest c (d ∷ ds) at mid to st f x s =
      let o = st.only d x.0 x.1 (ends_of ds x.0 to x.2 s.ends) in
      (ds, ap (λ y. y ∷ ds) o.0, subst (λ m. StatementsUpTo text ts ds m to) o.1 x.2)

  pub so_far_more : (front : List Statement) (at mid : ℕ) (c : Statement) → StatementsSoFar front at → IsStatement text ts c at mid → ClearStatement text ts at → StatementsSoFar (front ++ c ∷ []) mid
  so_far_more front at mid c so st f = record {
    whole = λ cs to x. rw append_assoc (so.whole (c ∷ cs) to (mid, st.spelled, x));
    rest = λ cs to x s.
        let r = so.rest cs to x s in
        let n = next_rest c r.0 at mid to st f r.2 s in
        (n.0, r.1 ∙ ap (λ y. front ++ y) n.1 ∙ sym (append_assoc front (c ∷ []) n.0), n.2);
  }

  last_rest : (ds : List Statement) (at : ℕ) → length ts ≤ at → SpellsStatements text ts ds at → ds ≡ []
  last_rest [] at h x = refl
  last_rest (d ∷ ds) at h x = absurd (begins_within d at x.0 x.1 h)

  pub so_far_all : (front : List Statement) (at : ℕ) → at ≤ length ts → length ts ≤ at → checks_of front ≤ 1 → StatementsSoFar front at → AreStatements text ts front
  so_far_all front at a b once so =
      let e : at ≡ length ts = omega arith in
      record {
        spelled = subst (λ cs. SpellsStatements text ts cs 0) (append-nil front) (so.whole [] (length ts) e);
        once = once;
        only = λ ds x. let r = so.rest ds (length ts) x stops_last in r.1 ∙ ap (λ y. front ++ y) (last_rest r.0 at b r.2) ∙ append-nil front;
      }

  none_rest : (ds : List Statement) (at : ℕ) → at < length ts → NoStatement text ts at → SpellsStatements text ts ds at → ⊥
  none_rest [] at h fails x = absurd (omega arith)
  none_rest (d ∷ ds) at h fails x = fails d x.0 x.1 (ends_of ds x.0 (length ts) x.2 ends_last)

  pub so_far_fails : (front : List Statement) (at : ℕ) → at < length ts → StatementsSoFar front at → NoStatement text ts at → NoStatements text ts
  so_far_fails front at h so fails = λ cs x once. let r = so.rest cs (length ts) x stops_last in none_rest r.0 at h fails r.2

  clear_all : ((begin : ℕ) → FollowsStatements text ts begin → HasCause begin → ⊥) → Clear text ts
  clear_all f = record { no_left = λ n x. f x.0 x.1 (n, inl x.2); no_large = λ n x. f x.0 x.1 (n, inr x.2) }

  -- a statement that is read here is CHECK_DEADLOCK where that begins here
  pub check_begins : (at to : ℕ) (c : Statement) → SpellsStatement text ts c at to → begins_check text (slice_get ts at) ≡ is_check_deadlock c
  check_begins at to c x = ap is_check (spelled_front text ts at c to x) ∙ word_is_check c

  check_no_cause : (at begin : ℕ) → begins_check text (slice_get ts at) ≡ true → at ≡ begin → HasCause begin → ⊥
  check_no_cause at begin h same w = by w.0 w.1
    where
      there : begins_check text (slice_get ts begin) ≡ true
      there = subst (λ n. begins_check text (slice_get ts n) ≡ true) same h

      no_constant : Has text ts k.Constant begin → ⊥
      no_constant x = true≢false (sym there ∙ ap is_check (constants_is text ts begin x.0.place (x.0, x.1, x.2, refl)))

      by : (n : ℕ) → LeftOutIn text ts begin n ⊎ TooLargeIn text ts begin n → ⊥
      by n (inl (inl x)) = true≢false (sym there ∙ ap is_check (left_out_front text ts begin x.0))
      by n (inl (inr x)) = no_constant x.0
      by n (inr x) = no_constant x.0

  module _ (front : List Statement) (at : ℕ) where
    twice_rest : (cs ds : List Statement) (to : ℕ) → checks_of front ≡ 1 → begins_check text (slice_get ts at) ≡ true → cs ≡ front ++ ds → StatementsUpTo text ts ds at to → checks_of cs ≤ 1 → (at ≡ to → ⊥) → ⊥
    twice_rest cs [] to one check e x once apart = apart x
    twice_rest cs (d ∷ ds) to one check e x once apart =
        let second : is_check_deadlock d ≡ true = sym (check_begins at x.0 d x.1) ∙ check in
        let p : checks_of cs ≡ checks_of front + checks_of (d ∷ ds) = ap (λ y. checks_of y) e ∙ checks_append front (d ∷ ds) in
        let q : checks_of (d ∷ ds) ≡ checks_of (d ∷ []) + checks_of ds = checks_append (d ∷ []) ds in
        let r : checks_of (d ∷ []) ≡ 1 = checks_one d true second in
        absurd (omega (arith, one, p, q, r, once))

    twice : StatementsSoFar front at → checks_of front ≡ 1 → begins_check text (slice_get ts at) ≡ true → (cs : List Statement) (to : ℕ) → StatementsUpTo text ts cs 0 to → Stops to → checks_of cs ≤ 1 → (at ≡ to → ⊥) → ⊥
    twice so one check cs to x s once apart = let r = so.rest cs to x s in twice_rest cs r.0 to one check r.1 r.2 once apart

    -- CHECK_DEADLOCK begins for a second time
    pub so_far_twice : (checks : Bool) → at < length ts → StatementsSoFar front at → checks_of front ≡ count_of checks → (checks && begins_check text (slice_get ts at)) ≡ true → NoStatements text ts
    so_far_twice checks l so h second cs x once =
        let two = both_true checks (begins_check text (slice_get ts at)) second in
        twice so (h ∙ ap (λ y. count_of y) two.0) two.1 cs (length ts) x stops_last once (λ e. omega (arith, e, l))

    pub so_far_twice_clear : (checks : Bool) → StatementsSoFar front at → checks_of front ≡ count_of checks → (checks && begins_check text (slice_get ts at)) ≡ true → Clear text ts
    so_far_twice_clear checks so h second =
        let two = both_true checks (begins_check text (slice_get ts at)) second in
        clear_all (λ begin g w. twice so (h ∙ ap (λ y. count_of y) two.0) two.1 g.statements begin g.spelled (stops_cause begin w) g.once (λ e. check_no_cause at begin two.1 e w))

  -- no second one begins here
  pub not_twice : (checks : Bool) (at to : ℕ) (c : Statement) → SpellsStatement text ts c at to → (checks && begins_check text (slice_get ts at)) ≡ false → not (checks && is_check_deadlock c) ≡ true
  not_twice checks at to c x h = ap not (subst (λ b. (checks && b) ≡ false) (check_begins at to c x) h)

  -- they are followed by this token
  pub so_far_follows : (front : List Statement) (at : ℕ) → checks_of front ≤ 1 → StatementsSoFar front at → FollowsStatements text ts at
  so_far_follows front at once so = record {
    statements = front;
    spelled = subst (λ cs. StatementsUpTo text ts cs 0 at) (append-nil front) (so.whole [] at refl);
    once = once;
  }

  no_cause_rest : (ds : List Statement) (at begin : ℕ) → NoStatement text ts at → ClearStatement text ts at → HasCause begin → StatementsUpTo text ts ds at begin → ⊥
  no_cause_rest [] at begin fails clear h x = clear_no_cause begin h.0 (subst (λ m. ClearStatement text ts m) x clear) h.1
  no_cause_rest (d ∷ ds) at begin fails clear h x = fails d x.0 x.1 (ends_of ds x.0 begin x.2 (stops_cause begin h).ends)

  pub so_far_clear : (front : List Statement) (at : ℕ) → StatementsSoFar front at → NoStatement text ts at → ClearStatement text ts at → Clear text ts
  so_far_clear front at so fails clear = clear_all (λ begin f h.
      let r = so.rest f.statements begin f.spelled (stops_cause begin h) in
      no_cause_rest r.0 at begin fails clear h r.2)

  -- all tokens are read
  pub so_far_all_clear : (front : List Statement) (at : ℕ) → length ts ≤ at → StatementsSoFar front at → Clear text ts
  so_far_all_clear front at h so =
      so_far_clear front at so (λ c to x e. begins_within c at to x h) (clear_none text ts at (ap (λ o. keyword_of text o) (slice_get_past ts at h)))

  -- a statement is refused
  pub so_far_because : (r : Refusal) (front : List Statement) (at : ℕ) → checks_of front ≤ 1 → StatementsSoFar front at → Fails text ts r (NoStatement text ts at)
      → Because r (LeftOutIn text ts at) (TooLargeIn text ts at) (ClearStatement text ts at) → Because r (LeftOutAt text ts) (TooLargeAt text ts) (Clear text ts)
  so_far_because (refusal.Unexpected n) front at once so fails x = so_far_clear front at so fails x
  so_far_because (refusal.LeftOut n) front at once so fails x = (at, so_far_follows front at once so, x)
  so_far_because (refusal.TooLarge n) front at once so fails x = (at, so_far_follows front at once so, x)
  so_far_because refusal.NoMemory front at once so fails x = tt
