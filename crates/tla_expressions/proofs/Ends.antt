-- Where brackets and lists end, and what stands between two ends, whatever follows.
use Rattle.std.proofs.Common.{◌≡◌, ℕ, zero, suc, ◌+◌, ◌-◌, ◌<◌, Bool, true, false, nat_le, ◌⊎◌, inl, inr, take, List, None, Ok, refl, sym, ◌∙◌, arith}
use Rattle.std.proofs.lemmas.Bool.{leb-true, leb-false}
use Rattle.tla_lex.specs.declared.token.Token.{Token}
use Rattle.tla_lex.specs.declared.token.Kind.TheVariants as k
use Rattle.tla_grammar.specs.declared.context.Context.{Context}
use Rattle.tla_grammar.specs.declared.tokens.Postfix.{Postfix}
use Rattle.tla_grammar.specs.declared.tokens.Postfix.TheVariants as form
use Rattle.tla_tree.specs.Tree.{Tree, Name, Prime, Index, Field}
use Rattle.tla_tree.specs.Places.{place}
use Rattle.tla_grammar.specs.Edges.{is_delimited, is_closed, depth}
use Rattle.tla_tree.specs.Words.{written}
use Rattle.tla_grammar.specs.Tokens.{seen}
use Rattle.tla_grammar.specs.Grammar.{Spells}
use Rattle.tla_grammar.specs.Outcome.{Outcome}
use Rattle.tla_grammar.specs.Marks.{name_at, postfix_at}
use Rattle.tla_expressions.specs.ReadingLists.{some}
use Rattle.tla_expressions.specs.Reading.{indexed, behind, postfix, expr}
use Rattle.tla_grammar.proofs.Inversion.{ok_to, bind_ok, room_ok, at_op_ok}
use Rattle.tla_expressions.proofs.Steps.{postfix_done}
use Rattle.tla_expressions.proofs.Shapes.{tails, top_zero}
use Rattle.tla_expressions.proofs.Shorter.{seen_past, shorter}
use Rattle.tla_expressions.proofs.Comes.{is_name, Fits, Stops}
use Rattle.tla_expressions.proofs.Complete.{main, one_tree}

delimited_closed : (t : Tree) → is_delimited t ≡ true → is_closed t ≡ true
delimited_closed (Name w) h = refl
delimited_closed _ h = cc

delimited_tails : (t : Tree) → is_delimited t ≡ true → tails t ≡ 0
delimited_tails (Name w) h = refl
delimited_tails _ h = cc

delimited_name : (t : Tree) → is_delimited t ≡ true → is_name t ≡ false
delimited_name (Name w) h = sym h
delimited_name _ h = refl

module _ (text : List ℕ) (ts : List Token) (inner : Context → ℕ → ℕ → Outcome Tree) where
  -- a tree under a postfix form more
  abbrev Under : Tree × ℕ → Type 0
  Under z = 0 < tails z.0

  indexed_under : (most : ℕ) (s : Context) (t : Tree) (at : ℕ) (z : Tree × ℕ) → indexed text ts inner most s t at ≡ Ok z → Under z
  unfolding indexed
  indexed_under most s t at z h =
      let x = bind_ok (some text ts inner s k.RightBracket (at + 1)) _ z h in
      let r = room_ok _ _ z x.3 in
      ok_to (Index (place t) t x.0, x.1) z r.1 Under (omega arith)

  behind_under : (most : ℕ) (s : Context) (t : Tree) (p : Postfix) (at : ℕ) (z : Tree × ℕ) → behind text ts inner most s t p at ≡ Ok z → Under z
  behind_under most s t form.Prime at z h = let r = room_ok _ _ z h in ok_to (Prime (place t) t, at + 1) z r.1 Under (omega arith)
  behind_under most s t form.Index at z h = indexed_under most s t at z h
  behind_under most s t form.Field at z h = elim (at_op_ok (name_at (seen ts s.column (at + 1))) _ _ z h) [
    | inl w ↦ absurd (let z : ⊥ = cc in z)
    | inr w ↦ (let r = room_ok _ _ z w.2 in ok_to (Field (place t) t (written text w.0), at + 2) z r.1 Under (omega arith))
  ]

  -- the postfix forms after a tree leave it as it is, or put it under one
  abbrev Kept : Tree → ℕ → Tree × ℕ → Type 0
  Kept t at z = Under z ⊎ ((t ≡ z.0) × (at ≡ z.1))

  postfix_keeps : (n most : ℕ) (s : Context) (t : Tree) (at : ℕ) (z : Tree × ℕ) → postfix text ts inner n most s t at ≡ Ok z → Kept t at z
  unfolding postfix
  postfix_keeps zero most s t at z h = elim (at_op_ok (postfix_at (seen ts s.column at)) _ _ z h) [
    | inl w ↦ ok_to (t, at) z w.1 (Kept t at) (inr (refl, refl))
    | inr w ↦ absurd (let z : ⊥ = cc in z)
  ]
  postfix_keeps (suc n) most s t at z h = elim (at_op_ok (postfix_at (seen ts s.column at)) _ _ z h) [
    | inl w ↦ ok_to (t, at) z w.1 (Kept t at) (inr (refl, refl))
    | inr w ↦
        let x = bind_ok (behind text ts inner most s t w.0 at) (postfix text ts inner n most s) z w.2 in
        let u = behind_under most s t w.0 at (x.0, x.1) x.2 in
        elim (postfix_keeps n most s x.0 x.1 z x.3) [
          | inl v ↦ inl v
          | inr v ↦ inl (rw (← v.0) u)
        ]
  ]

module _ (text : List ℕ) (ts : List Token) where
  -- the second ends with the tokens
  last_end : (t u : Tree) (s : Context) (from to end : ℕ) → is_delimited t ≡ true → is_delimited u ≡ true → Spells text ts s t from to → Spells text ts s u from end
      → seen ts s.column end ≡ None → to ≡ end
  last_end t u s from to end dt du x y p =
      let n = depth t + depth u in
      let a = (main text ts t).stands n s from to x (delimited_closed t dt) (omega arith) (λ w. absurd (let v = delimited_name t dt in let z : ⊥ = cc in z)) in
      let b = (main text ts u).stands n s from end y (delimited_closed u du) (omega arith) (λ w. absurd (let v = delimited_name u du in let z : ⊥ = cc in z)) in
      let o : postfix_at (seen ts s.column end) ≡ None = rw p refl in
      let d = postfix_done text ts (expr text ts n) (n + 1 - tails u) (n + 1) s u end o in
      elim (postfix_keeps text ts (expr text ts n) (n + 1 - tails t) (n + 1) s t to (u, end) (sym a ∙ b ∙ d)) [
        | inl v ↦ absurd (let e = delimited_tails u du in omega (arith, e, v))
        | inr v ↦ v.1
      ]

module _ (text : List ℕ) (ts : List Token) where
  end_by : (t u : Tree) (s : Context) (from to end : ℕ) (b : Bool) → nat_le to end ≡ b → is_delimited t ≡ true → is_delimited u ≡ true → Spells text ts s t from to → Spells text ts s u from end → to ≡ end
  end_by t u s from to end true e dt du x y =
      last_end text (take end ts) t u s from to end dt du (shorter text ts end t s from to (leb-true to end e) x) (shorter text ts end u s from end (omega arith) y) (seen_past ts end s.column end (omega arith))
  end_by t u s from to end false e dt du x y =
      let l = leb-false to end e in
      sym (last_end text (take to ts) u t s from end to du dt (shorter text ts to u s from end (omega (arith, l)) y) (shorter text ts to t s from to (omega arith) x) (seen_past ts to s.column to (omega arith)))

  -- A bracket or a junction list has one end.
  pub delimited_end : (t u : Tree) (s : Context) (from to end : ℕ) → is_delimited t ≡ true → is_delimited u ≡ true → Spells text ts s t from to → Spells text ts s u from end → to ≡ end
  delimited_end t u s from to end dt du x y = end_by t u s from to end (nat_le to end) refl dt du x y

  -- Between two ends stands one tree.
  pub same_ends : (t u : Tree) (s : Context) (from to : ℕ) → Spells text ts s t from to → Spells text ts s u from to → t ≡ u
  same_ends t u s from to x y =
      let cut = take to ts in
      let p = seen_past ts to s.column to (omega arith) in
      let ft : Fits text cut s t to = rw p refl in
      let fu : Fits text cut s u to = rw p refl in
      let st : Stops text cut s 0 to = rw p refl in
      (one_tree text cut t u s 0 from to to (shorter text ts to t s from to (omega arith) x) ft (top_zero t) st (shorter text ts to u s from to (omega arith) y) fu (top_zero u) st).0
