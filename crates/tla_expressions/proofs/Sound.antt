-- What is read is spelled so.
use Rattle.std.proofs.Common.{◌≡◌, ℕ, zero, suc, ◌+◌, true, not, ◌&&◌, inl, inr, IsTrue, nat_lt, slice_get, length, List, [], Some, Ok, Err, refl}
use Rattle.tla_lex.specs.declared.token.Token.{Token}
use Rattle.tla_lex.specs.declared.token.Kind.{Kind}
use Rattle.tla_lex.specs.declared.token.Kind.TheVariants as k
use Rattle.tla_lex.specs.StringLoops.{string_text}
use Rattle.tla_lex.proofs.StringTexts.{is_text}
use Rattle.tla_grammar.specs.declared.context.Context.{Context}
use Rattle.tla_tree.specs.declared.tree.Infix.{Infix}
use Rattle.tla_tree.specs.declared.tree.Prefix.{Prefix}
use Rattle.tla_tree.specs.declared.tree.Bullet.{Bullet}
use Rattle.tla_grammar.specs.declared.tokens.Between.TheVariants as between
use Rattle.tla_tree.specs.declared.tree.Quantifier.{Quantifier}
use Rattle.tla_tree.specs.Tree.{Tree, trees, binders, Number, Text, Word, At, Unary, Binary, Quantified, Choose, If, Junction}
use Rattle.tla_grammar.specs.Operators.{low, high, prefix_high, is_product, infix_of, prefix_of, bullet_of, quantifier_of, constant_of}
use Rattle.tla_tree.specs.Places.{place}
use Rattle.tla_grammar.specs.Edges.{edge_allows}
use Rattle.tla_tree.specs.Words.{word_of, written}
use Rattle.tla_grammar.specs.Tokens.{seen, is_bullet_at, may_follow}
use Rattle.tla_grammar.specs.Kinds.{kind_at}
use Rattle.tla_grammar.specs.Grammar.{Spells, Items, within}
use Rattle.tla_grammar.specs.Ending.{above, infix_at}
use Rattle.tla_grammar.specs.Outcome.{Outcome, Refused}
use Rattle.tla_grammar.specs.Marks.{following}
use Rattle.tla_expressions.specs.ReadingLists.{exprs, group, one_group, groups, paren}
use Rattle.tla_expressions.specs.Reading.{postfixes, turn, climb, junction, quantified, chosen, choice, prefix, by_class, named, operand_by, operand, level, expr, product}
use Rattle.tla_grammar.proofs.Inversion.{ok_to, bind_ok, need_ok, room_ok, at_op_ok, choice_ok, has_kind, has_infix, first_bullet}
use Rattle.tla_expressions.proofs.Sequence.{sequence_sound}
use Rattle.tla_expressions.proofs.Lists.{Spelled, GroupAt, bound_of, items_of}
use Rattle.tla_tree.specs.declared.tree.Fairness.TheVariants as fa
use Rattle.tla_expressions.specs.ReadingBrackets.{fair, brace, tuple, bracket}
use Rattle.tla_expressions.proofs.SoundParts.{Closed, Good, Whole, group_sound, one_group_sound, paren_sound, named_sound, postfixes_sound}
use Rattle.tla_expressions.proofs.SoundBrackets.{fair_sound, brace_sound, tuple_sound, bracket_sound}
use Rattle.tla_expressions.proofs.SoundProduct.{product_op, product_kind, product_sound}
use Rattle.tla_expressions.proofs.SoundCase.{cases_sound, lets_sound}

module _ (text : List ℕ) (ts : List Token) where
  module _ (inner : Context → ℕ → ℕ → Outcome Tree) (good : (s : Context) (floor at : ℕ) (z : Tree × ℕ) → inner s floor at ≡ Ok z → Good text ts s floor at z) where
    -- ---- the forms

    prefix_sound : (s : Context) (t : Token) (op : Prefix) (at : ℕ) (z : Tree × ℕ) → seen ts s.column at ≡ Some t → prefix_of t.kind ≡ Some op
        → prefix text ts inner s op t.place at ≡ Ok z → Whole text ts s at z
    unfolding prefix
    prefix_sound s t op at z i e h floor =
        let x = bind_ok (inner s (prefix_high op) (at + 1)) _ z h in
        let w = good s (prefix_high op) (at + 1) (x.0, x.1) x.2 in
        ok_to (Unary t.place op x.0, x.1) z x.3 (Good text ts s floor at) ((t.kind, (t, i, refl, refl), e, w.0, w.1), refl)

    quantified_sound : (s : Context) (t : Token) (q : Quantifier) (at : ℕ) (z : Tree × ℕ) → seen ts s.column at ≡ Some t → quantifier_of t.kind ≡ Some q
        → quantified text ts inner s t.place q at ≡ Ok z → Whole text ts s at z
    unfolding quantified
    quantified_sound s t q at z i e h floor =
        let x = bind_ok (groups text ts inner (length ts) [] s (at + 1)) _ z h in
        let n = need_ok (kind_at k.Colon (seen ts s.column x.1)) _ z x.3 in
        let y = bind_ok (inner s 0 (x.1 + 1)) _ z n.1 in
        let r = sequence_sound (GroupAt text ts s) (following ts s.column between.Comma) (group text ts inner s) (group_sound text ts inner good s) (length ts) [] (at + 1) (x.0, x.1) x.2 in
        let l = bound_of text ts r.0 s (at + 1) x.1 r.2 in
        ok_to (Quantified t.place q (binders x.0) y.0, y.1) z y.3 (Good text ts s floor at)
        ((x.1, t.kind, (t, i, refl, refl), e, rw r.1 l, has_kind ts s.column x.1 k.Colon n.0, (good s 0 (x.1 + 1) (y.0, y.1) y.2).0), refl)

    chosen_sound : (s : Context) (t : Token) (at : ℕ) (z : Tree × ℕ) → seen ts s.column at ≡ Some t → t.kind ≡ k.Choose
        → chosen text ts inner s t.place at ≡ Ok z → Whole text ts s at z
    unfolding chosen
    chosen_sound s t at z i e h floor =
        let x = bind_ok (one_group text ts inner s (at + 1)) _ z h in
        let g = one_group_sound text ts inner good s (at + 1) x.0 x.1 x.2 in
        let b = need_ok _ _ z x.3 in
        let y = bind_ok (inner s 0 (x.1 + 1)) _ z b.1 in
        ok_to (Choose t.place x.0.0 x.0.1 y.0, y.1) z y.3 (Good text ts s floor at)
        ((x.1, (t, i, e, refl), g.0, g.1, has_kind ts s.column x.1 k.Colon b.0, (good s 0 (x.1 + 1) (y.0, y.1) y.2).0), refl)

    choice_sound : (s : Context) (t : Token) (at : ℕ) (z : Tree × ℕ) → seen ts s.column at ≡ Some t → t.kind ≡ k.If → choice text ts inner s t.place at ≡ Ok z → Whole text ts s at z
    unfolding choice
    choice_sound s t at z i e h floor =
        let x = bind_ok (inner s 0 (at + 1)) _ z h in
        let a = need_ok _ _ z x.3 in
        let y = bind_ok (inner s 0 (x.1 + 1)) _ z a.1 in
        let b = need_ok _ _ z y.3 in
        let w = bind_ok (inner s 0 (y.1 + 1)) _ z b.1 in
        ok_to (If t.place x.0 y.0 w.0, w.1) z w.3 (Good text ts s floor at) (
          (
            x.1,
            y.1,
            (t, i, e, refl),
            (good s 0 (at + 1) (x.0, x.1) x.2).0,
            has_kind ts s.column x.1 k.Then a.0,
            (good s 0 (x.1 + 1) (y.0, y.1) y.2).0,
            has_kind ts s.column y.1 k.Else b.0,
            (good s 0 (y.1 + 1) (w.0, w.1) w.2).0,
          ),
          refl,
        )

    junction_sound : (s : Context) (t : Token) (b : Bullet) (at : ℕ) (z : Tree × ℕ) → seen ts s.column at ≡ Some t → bullet_of t.kind ≡ Some b
        → junction text ts inner s t.place b at ≡ Ok z → Closed text ts s at z
    unfolding junction
    junction_sound s t b at z i e h =
        let p = t.place in
        let x = bind_ok (exprs text ts inner (length ts) [] (within s p.column) (between.Bullet b) (at + 1)) _ z h in
        let r = sequence_sound (Spelled text ts (within s p.column)) (following ts p.column (between.Bullet b)) (inner (within s p.column) 0) (λ m e after y. (good (within s p.column) 0 m (e, after) y).0) (length ts) [] (at + 1) (x.0, x.1) x.2 in
        let l = items_of text ts r.0 (within s p.column) b at x.1 (first_bullet ts s.column at t b i e) r.2 in
        let n = need_ok (may_follow p.column (slice_get ts x.1)) (Ok (Junction p b (trees x.0), x.1)) z x.3 in
        let follows : IsTrue (not (is_bullet_at p.column b (slice_get ts x.1)) && may_follow p.column (slice_get ts x.1)) = rw (l.1, n.0) refl in
        let it : Items text ts (within s p.column) b (trees x.0) at x.1 = rw r.1 l.0 in
        ok_to (Junction p b (trees x.0), x.1) z n.1 (Closed text ts s at) ((t.kind, (t, i, refl, refl), e, it, follows), refl)

    class_sound : (most : ℕ) (s : Context) (t : Token) (at : ℕ) (z : Tree × ℕ) → seen ts s.column at ≡ Some t → by_class text ts inner most s t at ≡ Ok z → Whole text ts s at z
    unfolding by_class
    class_sound most s t at z i h = elim (at_op_ok (bullet_of t.kind) _ _ z h) [
      | inl w ↦ (elim (at_op_ok (prefix_of t.kind) _ _ z w.1) [
        | inl v ↦ (elim (at_op_ok (quantifier_of t.kind) _ _ z v.1) [
          | inl u ↦ (elim (at_op_ok (constant_of t.kind) (Err Refused) _ z u.1) [
            | inl r ↦ absurd (let z : ⊥ = cc in z)
            | inr r ↦ postfixes_sound text ts inner good most s at (Word t.place r.0) (at + 1) z ((t.kind, (t, i, refl, refl), r.1, refl), refl) r.2
          ])
          | inr u ↦ quantified_sound s t u.0 at z i u.1 u.2
        ])
        | inr v ↦ prefix_sound s t v.0 at z i v.1 v.2
      ])
      | inr w ↦
          let x = bind_ok (junction text ts inner s t.place w.0 at) (postfixes text ts inner most s) z w.2 in
          postfixes_sound text ts inner good most s at x.0 x.1 z (junction_sound s t w.0 at (x.0, x.1) i w.1 x.2) x.3
    ]

    by_sound : (most : ℕ) (s : Context) (t : Token) (at : ℕ) (kind : Kind) (z : Tree × ℕ) → seen ts s.column at ≡ Some t → t.kind ≡ kind → operand_by text ts inner most s t at kind ≡ Ok z → Whole text ts s at z
    by_sound most s t at k.Name z i e h =
        let x = bind_ok (named text ts inner s t at) (postfixes text ts inner most s) z h in
        postfixes_sound text ts inner good most s at x.0 x.1 z (named_sound text ts inner good s t at (x.0, x.1) i e x.2) x.3
    by_sound most s t at k.Text z i e h = postfixes_sound text ts inner good most s at (Text t.place (string_text (word_of text t))) (at + 1) z ((t, i, e, refl, is_text (word_of text t), refl), refl) h
    by_sound most s t at k.LeftBrace z i e h =
        let x = bind_ok (brace text ts inner s t.place at) (postfixes text ts inner most s) z h in
        postfixes_sound text ts inner good most s at x.0 x.1 z (brace_sound text ts inner good s t at (x.0, x.1) i e x.2) x.3
    by_sound most s t at k.LeftBracket z i e h =
        let x = bind_ok (bracket text ts inner most s t.place at) (postfixes text ts inner most s) z h in
        postfixes_sound text ts inner good most s at x.0 x.1 z (bracket_sound text ts inner good most s t at (x.0, x.1) i e x.2) x.3
    by_sound most s t at k.WeakFairness z i e h =
        let x = bind_ok (fair text ts inner most s t.place fa.Weak at) (postfixes text ts inner most s) z h in
        postfixes_sound text ts inner good most s at x.0 x.1 z (fair_sound text ts inner good most s t fa.Weak at (x.0, x.1) i e x.2) x.3
    by_sound most s t at k.StrongFairness z i e h =
        let x = bind_ok (fair text ts inner most s t.place fa.Strong at) (postfixes text ts inner most s) z h in
        postfixes_sound text ts inner good most s at x.0 x.1 z (fair_sound text ts inner good most s t fa.Strong at (x.0, x.1) i e x.2) x.3
    by_sound most s t at k.LeftTuple z i e h =
        let x = bind_ok (tuple text ts inner most s t.place at) (postfixes text ts inner most s) z h in
        postfixes_sound text ts inner good most s at x.0 x.1 z (tuple_sound text ts inner good most s t at (x.0, x.1) i e x.2) x.3
    by_sound most s t at k.Choose z i e h = chosen_sound s t at z i e h
    by_sound most s t at k.Case z i e h = cases_sound text ts inner good s t at z i e h
    by_sound most s t at k.Let z i e h = lets_sound text ts inner good s t at z i e h
    by_sound most s t at (k.Number n) z i e h = postfixes_sound text ts inner good most s at (Number t.place n) (at + 1) z (((t, i, e, refl), refl), refl) h
    by_sound most s t at k.At z i e h =
        let n = need_ok s.updating _ z h in
        postfixes_sound text ts inner good most s at (At t.place) (at + 1) z (((t, i, e, refl), n.0, refl), refl) n.1
    by_sound most s t at k.LeftParen z i e h =
        let x = bind_ok (paren text ts inner s t.place at) (postfixes text ts inner most s) z h in
        postfixes_sound text ts inner good most s at x.0 x.1 z (paren_sound text ts inner good s t at (x.0, x.1) i e x.2) x.3
    by_sound most s t at k.If z i e h = choice_sound s t at z i e h
    by_sound most s t at kind z i e h = class_sound most s t at z i h

    operand_sound : (most : ℕ) (s : Context) (at : ℕ) (z : Tree × ℕ) → operand text ts inner most s at ≡ Ok z → Whole text ts s at z
    unfolding operand
    operand_sound most s at z h = elim (at_op_ok (seen ts s.column at) (Err Refused) _ z h) [
      | inl w ↦ absurd (let z : ⊥ = cc in z)
      | inr w ↦ by_sound most s w.0 at w.0.kind z w.1 refl w.2
    ]

    turn_sound : (most : ℕ) (s : Context) (floor from : ℕ) (t : Tree) (op : Infix) (at : ℕ) (sign : Token) (z : Tree × ℕ) → Spells text ts s t from at
        → seen ts s.column at ≡ Some sign → infix_of sign.kind ≡ Some op → nat_lt floor (low op) ≡ true → turn text ts inner most s t op at ≡ Ok z → Good text ts s floor from z
    unfolding turn
    turn_sound most s floor from t op at sign z c i e f h =
        elim (choice_ok (is_product op) (product text ts inner most s t at) _ (Ok z) h) [
          | inl y ↦
              let o = product_op op y.0 in
              let kind = product_kind sign.kind (rw o at e) in
              product_sound text ts inner good most s floor from t at z c (sign, i, kind) (rw o at f) y.1
          | inr y ↦
              let n = need_ok (edge_allows t op) _ z y.1 in
              elim (at_op_ok (seen ts s.column at) (Err Refused) _ z n.1) [
                | inl v ↦ absurd (let z : ⊥ = cc in z)
                | inr v ↦
                    let x = bind_ok (inner s (high op) (at + 1)) _ z v.2 in
                    let r = room_ok _ _ z x.3 in
                    let w = good s (high op) (at + 1) (x.0, x.1) x.2 in
                    let same : v.0 ≡ sign = cc in
                    let kind : infix_of v.0.kind ≡ Some op = rw same e in
                    let other = y.0 in
                    ok_to (Binary (place t) op (written text v.0) t x.0, x.1) z r.1 (Good text ts s floor from) ((at, v.0.kind, c, (v.0, v.1, refl, refl), kind, w.0, n.0, w.1, refl, rw other refl), f)
              ]
        ]

    climb_sound : (n most : ℕ) (s : Context) (floor from : ℕ) (t : Tree) (at : ℕ) (z : Tree × ℕ) → Good text ts s floor from (t, at) → climb text ts inner n most s floor t at ≡ Ok z → Good text ts s floor from z
    unfolding climb
    climb_sound zero most s floor from t at z c h = elim (at_op_ok (above floor (infix_at (seen ts s.column at))) (Ok (t, at)) _ z h) [
      | inl w ↦ ok_to (t, at) z w.1 (Good text ts s floor from) c
      | inr w ↦ absurd (let z : ⊥ = cc in z)
    ]
    climb_sound (suc n) most s floor from t at z c h = elim (at_op_ok (above floor (infix_at (seen ts s.column at))) (Ok (t, at)) _ z h) [
      | inl w ↦ ok_to (t, at) z w.1 (Good text ts s floor from) c
      | inr w ↦
          let i = has_infix ts s.column floor at w.0 w.1 in
          let x = bind_ok (turn text ts inner most s t w.0 at) (climb text ts inner n most s floor) z w.2 in
          climb_sound n most s floor from x.0 x.1 z (turn_sound most s floor from t w.0 at i.0 (x.0, x.1) c.0 i.1 i.2 i.3 x.2) x.3
    ]

    level_sound : (n : ℕ) (s : Context) (floor at : ℕ) (z : Tree × ℕ) → level text ts inner n s floor at ≡ Ok z → Good text ts s floor at z
    unfolding level
    level_sound n s floor at z h =
        let x = bind_ok (operand text ts inner (n + 1) s at) (climb text ts inner n (n + 1) s floor) z h in
        climb_sound n (n + 1) s floor at x.0 x.1 z (operand_sound (n + 1) s at (x.0, x.1) x.2 floor) x.3

  -- What is read is spelled so, and its top is above the floor.
  pub expr_sound : (n : ℕ) (s : Context) (floor at : ℕ) (z : Tree × ℕ) → expr text ts n s floor at ≡ Ok z → Good text ts s floor at z
  unfolding expr
  expr_sound zero s floor at z h = absurd (let z : ⊥ = cc in z)
  expr_sound (suc n) s floor at z h = level_sound (expr text ts n) (λ c f a y e. expr_sound n c f a y e) n s floor at z h
