-- Brackets, braces and subscripts that are spelled are read.
use Rattle.std.proofs.Common.{◌≡◌, ℕ, ◌+◌, ◌≤◌, true, false, nat_le, length, List, [], ◌∷◌, Ok, refl, arith}
use Rattle.std.proofs.lemmas.Bool.{le-leb}
use Rattle.tla_lex.specs.SameKind.{same_kind}
use Rattle.tla_lex.specs.declared.token.Place.{Place}
use Rattle.tla_lex.specs.declared.token.Token.{Token}
use Rattle.tla_lex.specs.declared.token.Kind.{Kind}
use Rattle.tla_lex.specs.declared.token.Kind.TheVariants as k
use Rattle.tla_grammar.specs.declared.context.Context.{Context}
use Rattle.tla_grammar.specs.declared.tokens.Between.TheVariants as between
use Rattle.tla_tree.specs.declared.tree.Brackets.TheVariants as br
use Rattle.tla_tree.specs.declared.tree.Step.{Step}
use Rattle.tla_tree.specs.declared.tree.Step.TheVariants as st
use Rattle.tla_tree.specs.declared.tree.Fairness.{Fairness}
use Rattle.tla_tree.specs.declared.tree.Fairness.TheVariants as fa
use Rattle.tla_tree.specs.Tree.{Tree, Trees, Pattern, Binders, Fields, Updates, none, more, no_fields, field, Name, Paren, Listing, Filter, Image, Function, FunctionSet, Record, RecordSet, Except, Action, Fair}
use Rattle.tla_grammar.specs.Edges.{depth, depths}
use Rattle.tla_grammar.specs.Tokens.{seen, Has}
use Rattle.tla_grammar.specs.Kinds.{kind_at}
use Rattle.tla_grammar.specs.Grammar.{Spells, Listed, Others, is_subscript}
use Rattle.tla_grammar.specs.Outcome.{at_op}
use Rattle.tla_grammar.specs.Ahead.{filters}
use Rattle.tla_expressions.specs.Reading.{expr, operand}
use Rattle.tla_grammar.specs.Marks.{following}
use Rattle.tla_expressions.specs.ReadingLists.{exprs, paren}
use Rattle.tla_expressions.specs.ReadingBrackets.{others, subscript, action, fair, filter, image, set_of, brace, tuple, mapping, function_set, behind_first, bracket}
use Rattle.tla_expressions.proofs.Sequence.{Behind, Follows, follows_fit, sequence_complete}
use Rattle.tla_expressions.proofs.NameLists.{seen_within}
use Rattle.tla_expressions.proofs.Lists.{list, trees_list, binders_list, rises}
use Rattle.tla_expressions.proofs.First.{first_token, not_closing}
use Rattle.tla_expressions.proofs.Tuples.{no_brace, no_binds}
use Rattle.tla_expressions.proofs.PartEnds.{no_filter, is_filter, stopped, arrow_stopped, opens_expression, opens_binders}
use Rattle.tla_expressions.proofs.Comes.{Comes, Opens, AllCome, AllBound, AllFields, AllUpdates, ReadAt, before_plain}
use Rattle.tla_expressions.proofs.CompleteLists.{Ends, others_read, others_next, listing_complete, one_group_read, bound_complete}
use Rattle.tla_expressions.proofs.CompleteRecords.{record_complete, record_set_complete, except_complete}

maps_ends : Ends k.MapsTo
maps_ends = record { plain = refl; no_comma = refl; same = refl }

brace_ends : Ends k.RightBrace
brace_ends = record { plain = refl; no_comma = refl; same = refl }

tuple_ends : Ends k.RightTuple
tuple_ends = record { plain = refl; no_comma = refl; same = refl }

module _ (text : List ℕ) (ts : List Token) where
  -- ---- lists after a first expression

  resumed_read : (e : Tree) (xs : List Tree) (n : ℕ) (s : Context) (at mid : ℕ) → Behind (ReadAt text ts n s) (following ts s.column between.Comma) xs at mid → mid ≤ length ts
      → at_op (following ts s.column between.Comma at) (Ok (e ∷ [], at)) (λ next. exprs text ts (expr text ts n) (length ts) (e ∷ []) s between.Comma next) ≡ Ok (e ∷ xs, mid)
  resumed_read e [] n s at mid b w = rw (b.0, b.1) refl
  resumed_read e (x ∷ xs) n s at mid b w =
      let f : Follows (ReadAt text ts n s) (following ts s.column between.Comma) (x ∷ xs) b.0 mid = (b.1, b.3, b.4) in
      let fit = follows_fit (ReadAt text ts n s) (following ts s.column between.Comma) (λ u a c y. y.1) (rises text ts s.column between.Comma) (x ∷ xs) b.0 mid f in
      rw b.2 (sequence_complete (ReadAt text ts n s) (following ts s.column between.Comma) (expr text ts n s 0) (λ u a c y. y.0) (x ∷ xs) (length ts) (e ∷ []) b.0 mid f (omega (arith, fit, w)))

  others_by : (e : Tree) (es : Trees) (n : ℕ) (s : Context) (close : Kind) (at mid to : ℕ) → Ends close
      → at_op (following ts s.column between.Comma at) (Ok (e ∷ [], at)) (λ next. exprs text ts (expr text ts n) (length ts) (e ∷ []) s between.Comma next) ≡ Ok (e ∷ list es, mid)
      → Has ts s.column close mid → to ≡ mid + 1 → others text ts (expr text ts n) s close e at ≡ Ok (more e es, to)
  unfolding others
  others_by e es n s close at mid to p r h q = let same = p.same in rw (r, h.1, h.2, same, trees_list es, q) refl

  others_complete : (e : Tree) (es : Trees) → AllCome text ts es → (n : ℕ) (s : Context) (close : Kind) (at to : ℕ) → Ends close → Others text ts s close es at to → depths es ≤ n → others text ts (expr text ts n) s close e at ≡ Ok (more e es, to)
  others_complete e es h n s close at to p x d =
      let q = others_read text ts es h n s close at to p x d in
      let w = seen_within text ts s.column q.0 q.2.0 q.2.1 in
      let r = resumed_read e (list es) n s at q.0 q.1 (omega (arith, w)) in
      others_by e es n s close at q.0 to p r q.2 q.3

  -- what stands after the first is no such mark
  no_mark : (mark : Kind) (es : Trees) (s : Context) (close : Kind) (from to : ℕ) → same_kind mark k.Comma ≡ false → same_kind mark close ≡ false → Others text ts s close es from to → kind_at mark (seen ts s.column from) ≡ false
  no_mark mark none s close from to a b x = let y = x.0 in rw (y.1, y.2, b) refl
  no_mark mark (more e es) s close from to a b x = let y = x.1 in rw (y.1, y.2, a) refl

  -- ---- subscripts

  -- the parts of a subscript are read
  abbrev pub PartsCome : Tree → Type 0
  PartsCome (Paren p e) = Comes text ts e
  PartsCome (Listing p b es) = AllCome text ts es
  PartsCome _ = Unit {0}

  subscript_complete : (v : Tree) → PartsCome v → (n : ℕ) (s : Context) (from to : ℕ) → Spells text ts s v from to → is_subscript v ≡ true → depth v ≤ n + 1 → subscript text ts (expr text ts n) s from ≡ Ok (v, to)
  unfolding subscript paren
  subscript_complete (Name w) h n s from to x i d = let y = x.0 in rw (y.1, y.2, y.3, x.1) refl
  subscript_complete (Paren p e) h n s from to x i d =
      let r = before_plain text ts e h n s (from + 1) x.0 k.RightParen x.2 x.3 refl (omega (arith, d)) in
      rw (x.1.1, x.1.2, x.1.3, r.0, x.3.1, x.3.2, x.4) refl
  subscript_complete (Listing p br.Tuple es) h n s from to x i d =
      let r = listing_complete text ts es h n s p br.Tuple from to x.1 (omega (arith, d)) in
      rw (x.0.1, x.0.2, x.0.3, r) refl
  subscript_complete _ h n s from to x i d = absurd (let z : ⊥ = cc in z)

  action_complete : (p : Place) (g : Step) (a v : Tree) → PartsCome v → (n : ℕ) (s : Context) (mid to : ℕ) → Spells text ts s v (mid + 1) to → is_subscript v ≡ true → depth (Action p g a v) ≤ n + 1
      → action text ts (expr text ts n) (n + 1) s p g a mid ≡ Ok (Action p g a v, to)
  unfolding action
  action_complete p g a v h n s mid to x i d =
      let r = subscript_complete v h n s (mid + 1) to x i (omega (arith, d)) in
      let room : nat_le (depth (Action p g a v)) (n + 1) ≡ true = le-leb _ _ d in
      rw (r, room) refl

  -- ---- forms

  pub fair_opens : (p : Place) (f : Fairness) (v a : Tree) → PartsCome v → Comes text ts a → Opens text ts (Fair p f v a)
  unfolding operand fair
  fair_opens p fa.Weak v a hv ha n s from to x d nc =
      let r = subscript_complete v hv n s (from + 1) x.0 x.3 x.4 (omega (arith, d)) in
      let q = before_plain text ts a ha n s (x.0 + 1) x.1 k.RightParen x.6 x.7 refl (omega (arith, d)) in
      let room : nat_le (depth (Fair p fa.Weak v a)) (n + 1) ≡ true = le-leb _ _ d in
      rw (x.2.1, x.2.2, x.2.3, r, x.5.1, x.5.2, q.0, x.7.1, x.7.2, room, x.8) refl
  fair_opens p fa.Strong v a hv ha n s from to x d nc =
      let r = subscript_complete v hv n s (from + 1) x.0 x.3 x.4 (omega (arith, d)) in
      let q = before_plain text ts a ha n s (x.0 + 1) x.1 k.RightParen x.6 x.7 refl (omega (arith, d)) in
      let room : nat_le (depth (Fair p fa.Strong v a)) (n + 1) ≡ true = le-leb _ _ d in
      rw (x.2.1, x.2.2, x.2.3, r, x.5.1, x.5.2, q.0, x.7.1, x.7.2, room, x.8) refl

  pub filter_opens : (p : Place) (w : Pattern) (a e : Tree) → Comes text ts a → Comes text ts e → Opens text ts (Filter p w a e)
  unfolding operand brace filter
  filter_opens p w a e ha he n s from to x d nc =
      let f = is_filter text ts w a s (from + 1) x.0 x.3 x.4 x.5 in
      let c = no_brace text ts w s.column (from + 1) x.4.0 x.4.1 in
      let ra = one_group_read text ts w a ha n s (from + 1) x.0 k.Colon x.3 x.4 x.5 refl (omega (arith, d)) in
      let re = before_plain text ts e he n s (x.0 + 1) x.1 k.RightBrace x.6 x.7 refl (omega (arith, d)) in
      rw (x.2.1, x.2.2, x.2.3, c, f, ra, x.5.1, x.5.2, re.0, x.7.1, x.7.2, x.8) refl

  pub image_opens : (p : Place) (e : Tree) (bs : Binders) → Comes text ts e → AllBound text ts bs → Opens text ts (Image p e bs)
  unfolding operand brace set_of image
  image_opens p e bs he hs n s from to x d nc =
      let none = no_binds text ts s.column (from + 1) x.3 in
      let f = first_token text ts e s (from + 1) x.0 x.4 in
      let c = not_closing br.Set f.0.kind f.2 in
      let re = before_plain text ts e he n s (from + 1) x.0 k.Colon x.4 x.5 refl (omega (arith, d)) in
      let rb = bound_complete text ts bs hs n s (x.0 + 1) x.1 k.RightBrace brace_ends x.7 x.6 (omega (arith, d)) in
      rw (x.2.1, x.2.2, x.2.3, none, f.1, c, re.0, x.5.1, x.5.2, none, rb, x.7.1, x.7.2, binders_list bs, x.8) refl

  set_no_filter : (e : Tree) (es : Trees) (s : Context) (from mid to : ℕ) → Spells text ts s e from mid → Others text ts s k.RightBrace es mid to → filters ts s.column from ≡ false
  set_no_filter e none s from mid to x y = no_filter text ts e s from mid k.RightBrace x y.0 refl refl
  set_no_filter e (more u es) s from mid to x y = no_filter text ts e s from mid k.Comma x y.1 refl refl

  set_complete : (es : Trees) → AllCome text ts es → (n : ℕ) (s : Context) (p : Place) (from to : ℕ) → Listed text ts s k.RightBrace es (from + 1) to → depths es ≤ n → brace text ts (expr text ts n) s p from ≡ Ok (Listing p br.Set es, to)
  unfolding brace set_of
  set_complete none h n s p from to x d = let e : to ≡ from + 2 = omega (arith, x.1) in rw (x.0.1, x.0.2, e) refl
  set_complete (more e es) h n s p from to x d =
      let f = first_token text ts e s (from + 1) x.0 x.1 in
      let c = not_closing br.Set f.0.kind f.2 in
      let y = others_next text ts es s k.RightBrace x.0 to brace_ends x.2 in
      let no = set_no_filter e es s (from + 1) x.0 to x.1 x.2 in
      let re = before_plain text ts e h.0 n s (from + 1) x.0 y.0 x.1 y.1 y.2 (omega (arith, d)) in
      let nc = no_mark k.Colon es s k.RightBrace x.0 to refl refl x.2 in
      let r = others_complete e es h.1 n s k.RightBrace x.0 to brace_ends x.2 (omega (arith, d)) in
      rw (no, f.1, c, re.0, nc, r) refl

  tuple_complete : (es : Trees) → AllCome text ts es → (n : ℕ) (s : Context) (p : Place) (from to : ℕ) → Listed text ts s k.RightTuple es (from + 1) to → depths es ≤ n → tuple text ts (expr text ts n) (n + 1) s p from ≡ Ok (Listing p br.Tuple es, to)
  unfolding tuple
  tuple_complete none h n s p from to x d = let e : to ≡ from + 2 = omega (arith, x.1) in rw (x.0.1, x.0.2, e) refl
  tuple_complete (more e es) h n s p from to x d =
      let f = first_token text ts e s (from + 1) x.0 x.1 in
      let c = not_closing br.Tuple f.0.kind f.2 in
      let y = others_next text ts es s k.RightTuple x.0 to tuple_ends x.2 in
      let re = before_plain text ts e h.0 n s (from + 1) x.0 y.0 x.1 y.1 y.2 (omega (arith, d)) in
      let nc = no_mark k.RightTupleSubscript es s k.RightTuple x.0 to refl refl x.2 in
      let r = others_complete e es h.1 n s k.RightTuple x.0 to tuple_ends x.2 (omega (arith, d)) in
      rw (f.1, c, re.0, nc, r) refl

  pub listing_opens : (p : Place) (b : _) (es : Trees) → AllCome text ts es → Opens text ts (Listing p b es)
  unfolding operand
  listing_opens p br.Set es h n s from to x d nc = let r = set_complete es h n s p from to x.1 (omega (arith, d)) in rw (x.0.1, x.0.2, x.0.3, r) refl
  listing_opens p br.Tuple es h n s from to x d nc = let r = tuple_complete es h n s p from to x.1 (omega (arith, d)) in rw (x.0.1, x.0.2, x.0.3, r) refl

  pub action_opens : (p : Place) (g : Step) (a v : Tree) → Comes text ts a → PartsCome v → Opens text ts (Action p g a v)
  unfolding operand tuple bracket behind_first
  action_opens p st.Angle a v ha hv n s from to x d nc =
      let f = first_token text ts a s (from + 1) x.0 x.2 in
      let c = not_closing br.Tuple f.0.kind f.2 in
      let ra = before_plain text ts a ha n s (from + 1) x.0 k.RightTupleSubscript x.2 x.3 refl (omega (arith, d)) in
      let r = action_complete p st.Angle a v hv n s x.0 to x.4 x.5 d in
      rw (x.1.1, x.1.2, x.1.3, f.1, c, ra.0, x.3.1, x.3.2, r) refl
  action_opens p st.Box a v ha hv n s from to x d nc =
      let o = opens_expression text ts a s (from + 1) x.0 k.RightBracketSubscript x.2 x.3 refl refl refl (stopped text ts s x.0 k.RightBracketSubscript x.3 refl refl refl) in
      let ra = before_plain text ts a ha n s (from + 1) x.0 k.RightBracketSubscript x.2 x.3 refl (omega (arith, d)) in
      let r = action_complete p st.Box a v hv n s x.0 to x.4 x.5 d in
      rw (x.1.1, x.1.2, x.1.3, o, ra.0, x.3.1, x.3.2, r) refl

  pub function_opens : (p : Place) (bs : Binders) (e : Tree) → AllBound text ts bs → Comes text ts e → Opens text ts (Function p bs e)
  unfolding operand bracket mapping
  function_opens p bs e hs he n s from to x d nc =
      let o = opens_binders text ts bs s (from + 1) x.0 x.3 x.4 in
      let rb = bound_complete text ts bs hs n s (from + 1) x.0 k.MapsTo maps_ends x.4 x.3 (omega (arith, d)) in
      let re = before_plain text ts e he n s (x.0 + 1) x.1 k.RightBracket x.5 x.6 refl (omega (arith, d)) in
      rw (x.2.1, x.2.2, x.2.3, o, rb, x.4.1, x.4.2, re.0, x.6.1, x.6.2, binders_list bs, x.7) refl

  pub function_set_opens : (p : Place) (a e : Tree) → Comes text ts a → Comes text ts e → Opens text ts (FunctionSet p a e)
  unfolding operand bracket behind_first function_set
  function_set_opens p a e ha he n s from to x d nc =
      let o = opens_expression text ts a s (from + 1) x.0 k.Arrow x.3 x.4 refl refl refl (arrow_stopped text ts e s x.0 x.1 x.4 x.5 x.6) in
      let ra = before_plain text ts a ha n s (from + 1) x.0 k.Arrow x.3 x.4 refl (omega (arith, d)) in
      let re = before_plain text ts e he n s (x.0 + 1) x.1 k.RightBracket x.5 x.6 refl (omega (arith, d)) in
      rw (x.2.1, x.2.2, x.2.3, o, ra.0, x.4.1, x.4.2, re.0, x.6.1, x.6.2, x.7) refl

  pub except_opens : (p : Place) (f : Tree) (us : Updates) → Comes text ts f → AllUpdates text ts us → Opens text ts (Except p f us)
  unfolding operand bracket behind_first
  except_opens p f us hf hu n s from to x d nc =
      let o = opens_expression text ts f s (from + 1) x.0 k.Except x.3 x.4 refl refl refl (stopped text ts s x.0 k.Except x.4 refl refl refl) in
      let rf = before_plain text ts f hf n s (from + 1) x.0 k.Except x.3 x.4 refl (omega (arith, d)) in
      let r = except_complete text ts f us hu n s p x.0 to x.1 x.5 x.6 x.7 (omega (arith, d)) in
      rw (x.2.1, x.2.2, x.2.3, o, rf.0, x.4.1, x.4.2, r) refl

  pub record_opens : (p : Place) (fs : Fields) → AllFields text ts fs → Opens text ts (Record p fs)
  unfolding operand bracket
  record_opens p no_fields h n s from to x d nc = absurd x.2
  record_opens p (field w e fs) h n s from to x d nc =
      let y = x.2 in
      let r = record_complete text ts (field w e fs) h n s p from to x (omega (arith, d)) in
      rw (x.1.1, x.1.2, x.1.3, y.1.1, y.1.2, y.2.1, y.2.2, r) refl

  pub record_set_opens : (p : Place) (fs : Fields) → AllFields text ts fs → Opens text ts (RecordSet p fs)
  unfolding operand bracket
  record_set_opens p no_fields h n s from to x d nc = absurd x.2
  record_set_opens p (field w e fs) h n s from to x d nc =
      let y = x.2 in
      let r = record_set_complete text ts (field w e fs) h n s p from to x (omega (arith, d)) in
      rw (x.1.1, x.1.2, x.1.3, y.1.1, y.1.2, y.2.1, y.2.2, r) refl
