-- Brackets, braces and subscripts that are read are spelled so.
use Rattle.std.proofs.Common.{◌≡◌, ℕ, ◌+◌, true, inl, inr, IsTrue, length, List, [], ◌∷◌, Some, Ok, Err, refl, arith}
use Rattle.std.specs.Prelude.{is_none}
use Rattle.tla_lex.specs.declared.token.Place.{Place}
use Rattle.tla_lex.specs.declared.token.Token.{Token}
use Rattle.tla_lex.specs.declared.token.Kind.{Kind}
use Rattle.tla_lex.specs.declared.token.Kind.TheVariants as k
use Rattle.tla_grammar.specs.declared.context.Context.{Context}
use Rattle.tla_grammar.specs.declared.tokens.Between.TheVariants as between
use Rattle.tla_grammar.specs.declared.ahead.Opened.{Opened}
use Rattle.tla_grammar.specs.declared.ahead.Opened.TheVariants as opened
use Rattle.tla_tree.specs.declared.tree.Brackets.TheVariants as br
use Rattle.tla_tree.specs.declared.tree.Step.{Step}
use Rattle.tla_tree.specs.declared.tree.Step.TheVariants as st
use Rattle.tla_tree.specs.declared.tree.Fairness.{Fairness}
use Rattle.tla_tree.specs.Tree.{Tree, Trees, Group, none, trees, binders, Name, Paren, Listing, Filter, Image, Function, FunctionSet, Action, Fair}
use Rattle.tla_tree.specs.Words.{written}
use Rattle.tla_grammar.specs.Tokens.{seen, Is, Has}
use Rattle.tla_grammar.specs.Kinds.{kind_at, closing, step_opening, step_closing, fairness_word}
use Rattle.tla_grammar.specs.Ahead.{binds, filters, opened_by}
use Rattle.tla_grammar.specs.Grammar.{Spells, Listed, Bound, is_subscript}
use Rattle.tla_grammar.specs.Outcome.{Outcome, Refused, at_op}
use Rattle.tla_grammar.specs.Marks.{following}
use Rattle.tla_expressions.specs.ReadingLists.{exprs, some, listing, group, one_group, groups, paren}
use Rattle.tla_expressions.specs.ReadingBrackets.{others, subscript_by, subscript, action, fair, filter, image, set_of, brace, tuple, mapping, function_set, behind_first, bracket_by, bracket}
use Rattle.tla_grammar.proofs.Inversion.{ok_to, bind_ok, need_ok, room_ok, at_op_ok, choice_ok, has_kind}
use Rattle.tla_expressions.proofs.Tuples.{no_entry}
use Rattle.tla_expressions.proofs.Sequence.{Follows, behind_all, sequence_sound}
use Rattle.tla_expressions.proofs.Lists.{Spelled, GroupAt, listed_of, bound_of}
use Rattle.tla_expressions.proofs.SoundParts.{Closed, Good, group_sound, one_group_sound, listing_sound, paren_sound}
use Rattle.tla_expressions.proofs.SoundRecords.{record_sound, record_set_sound, except_sound}

module _ (text : List ℕ) (ts : List Token) where
  module _ (inner : Context → ℕ → ℕ → Outcome Tree) (good : (s : Context) (floor at : ℕ) (z : Tree × ℕ) → inner s floor at ≡ Ok z → Good text ts s floor at z) where
    -- ---- lists after a first expression

    resumed : (s : Context) (from at : ℕ) (e : Tree) (z : List Tree × ℕ) → Spells text ts s e from at
        → at_op (following ts s.column between.Comma at) (Ok (e ∷ [], at)) (λ next. exprs text ts inner (length ts) (e ∷ []) s between.Comma next) ≡ Ok z
        → Follows (Spelled text ts s) (following ts s.column between.Comma) z.0 from z.1
    resumed s from at e z p h = elim (at_op_ok (following ts s.column between.Comma at) (Ok (e ∷ [], at)) _ z h) [
      | inl w ↦ ok_to (e ∷ [], at) z w.1 (λ v. Follows (Spelled text ts s) (following ts s.column between.Comma) v.0 from v.1) (at, p, (w.0, refl))
      | inr w ↦
          let r = sequence_sound (Spelled text ts s) (following ts s.column between.Comma) (inner s 0) (λ m x after y. (good s 0 m (x, after) y).0) (length ts) (e ∷ []) w.0 z w.2 in
          let b = behind_all (Spelled text ts s) (following ts s.column between.Comma) r.0 at w.0 z.1 w.1 r.2 in
          rw r.1 (at, p, b)
    ]

    others_sound : (s : Context) (close : Kind) (from at : ℕ) (e : Tree) (z : Trees × ℕ) → Spells text ts s e from at → others text ts inner s close e at ≡ Ok z → Listed text ts s close z.0 from z.1
    unfolding others
    others_sound s close from at e z p h =
        let x = bind_ok (at_op (following ts s.column between.Comma at) (Ok (e ∷ [], at)) (λ next. exprs text ts inner (length ts) (e ∷ []) s between.Comma next)) _ z h in
        let n = need_ok (kind_at close (seen ts s.column x.1)) _ z x.3 in
        let f = resumed s from at e (x.0, x.1) p x.2 in
        let l = listed_of text ts x.0 s close from x.1 f (has_kind ts s.column x.1 close n.0) in
        ok_to (trees x.0, x.1 + 1) z n.1 (λ v. Listed text ts s close v.0 from v.1) l.0

    groups_sound : (s : Context) (at : ℕ) (z : List Group × ℕ) → groups text ts inner (length ts) [] s at ≡ Ok z → Bound text ts s (binders z.0) at z.1
    groups_sound s at z h =
        let r = sequence_sound (GroupAt text ts s) (following ts s.column between.Comma) (group text ts inner s) (group_sound text ts inner good s) (length ts) [] at z h in
        let l = bound_of text ts r.0 s at z.1 r.2 in rw r.1 l

    -- ---- subscripts

    abbrev Subscript : Context → ℕ → Tree × ℕ → Type 0
    Subscript s at z = Spells text ts s z.0 at z.1 × IsTrue (is_subscript z.0)

    listing_subscript : (s : Context) (p : Place) (at : ℕ) (z : Tree × ℕ) → listing text ts inner s p br.Tuple at ≡ Ok z → is_subscript z.0 ≡ true
    unfolding listing
    listing_subscript s p at z h = elim (choice_ok (kind_at (closing br.Tuple) (seen ts s.column (at + 1))) (Ok (Listing p br.Tuple none, at + 2)) _ (Ok z) h) [
      | inl w ↦ ok_to (Listing p br.Tuple none, at + 2) z w.1 (λ v. is_subscript v.0 ≡ true) refl
      | inr w ↦ (let x = bind_ok (some text ts inner s (closing br.Tuple) (at + 1)) _ z w.1 in ok_to (Listing p br.Tuple x.0, x.1) z x.3 (λ v. is_subscript v.0 ≡ true) refl)
    ]

    paren_subscript : (s : Context) (p : Place) (at : ℕ) (z : Tree × ℕ) → paren text ts inner s p at ≡ Ok z → is_subscript z.0 ≡ true
    unfolding paren
    paren_subscript s p at z h =
        let x = bind_ok (inner s 0 (at + 1)) _ z h in
        let n = need_ok _ _ z x.3 in
        ok_to (Paren p x.0, x.1 + 1) z n.1 (λ v. is_subscript v.0 ≡ true) refl

    by_subscript : (s : Context) (t : Token) (at : ℕ) (kind : Kind) (z : Tree × ℕ) → seen ts s.column at ≡ Some t → t.kind ≡ kind → subscript_by text ts inner s t at kind ≡ Ok z → Subscript s at z
    by_subscript s t at k.Name z i e h = ok_to (Name (written text t), at + 1) z h (Subscript s at) (((t, i, e, refl), refl), refl)
    by_subscript s t at k.LeftTuple z i e h = ((listing_sound text ts inner good s t br.Tuple at z i e h).0, listing_subscript s t.place at z h)
    by_subscript s t at k.LeftParen z i e h = ((paren_sound text ts inner good s t at z i e h).0, paren_subscript s t.place at z h)
    by_subscript s t at _ z i e h = absurd (let z : ⊥ = cc in z)

    subscript_sound : (s : Context) (at : ℕ) (z : Tree × ℕ) → subscript text ts inner s at ≡ Ok z → Subscript s at z
    unfolding subscript
    subscript_sound s at z h = elim (at_op_ok (seen ts s.column at) (Err Refused) _ z h) [
      | inl w ↦ absurd (let z : ⊥ = cc in z)
      | inr w ↦ by_subscript s w.0 at w.0.kind z w.1 refl w.2
    ]

    action_sound : (most : ℕ) (s : Context) (p : Place) (g : Step) (a : Tree) (from at : ℕ) (z : Tree × ℕ) → Is ts s.column (step_opening g) p from → Spells text ts s a (from + 1) at → Has ts s.column (step_closing g) at
        → action text ts inner most s p g a at ≡ Ok z → Closed text ts s from z
    unfolding action
    action_sound most s p g a from at z i sp e h =
        let x = bind_ok (subscript text ts inner s (at + 1)) _ z h in
        let v = subscript_sound s (at + 1) (x.0, x.1) x.2 in
        let r = room_ok _ _ z x.3 in
        ok_to (Action p g a x.0, x.1) z r.1 (Closed text ts s from) ((at, i, sp, e, v.0, v.1), refl)

    pub fair_sound : (most : ℕ) (s : Context) (t : Token) (f : Fairness) (at : ℕ) (z : Tree × ℕ) → seen ts s.column at ≡ Some t → t.kind ≡ fairness_word f → fair text ts inner most s t.place f at ≡ Ok z → Closed text ts s at z
    unfolding fair
    fair_sound most s t f at z i e h =
        let x = bind_ok (subscript text ts inner s (at + 1)) _ z h in
        let v = subscript_sound s (at + 1) (x.0, x.1) x.2 in
        let n = need_ok (kind_at k.LeftParen (seen ts s.column x.1)) _ z x.3 in
        let y = bind_ok (inner s 0 (x.1 + 1)) _ z n.1 in
        let m = need_ok (kind_at k.RightParen (seen ts s.column y.1)) _ z y.3 in
        let r = room_ok _ _ z m.1 in
        ok_to (Fair t.place f x.0 y.0, y.1 + 1) z r.1 (Closed text ts s at)
        ((x.1, y.1, (t, i, e, refl), v.0, v.1, has_kind ts s.column x.1 k.LeftParen n.0, (good s 0 (x.1 + 1) (y.0, y.1) y.2).0, has_kind ts s.column y.1 k.RightParen m.0, refl), refl)

    -- ---- braces and tuples

    filter_sound : (s : Context) (t : Token) (at : ℕ) (z : Tree × ℕ) → seen ts s.column at ≡ Some t → t.kind ≡ k.LeftBrace → filter text ts inner s t.place at ≡ Ok z → Closed text ts s at z
    unfolding filter
    filter_sound s t at z i e h =
        let x = bind_ok (one_group text ts inner s (at + 1)) _ z h in
        let g = one_group_sound text ts inner good s (at + 1) x.0 x.1 x.2 in
        let n = need_ok (kind_at k.Colon (seen ts s.column x.1)) _ z x.3 in
        let y = bind_ok (inner s 0 (x.1 + 1)) _ z n.1 in
        let m = need_ok (kind_at k.RightBrace (seen ts s.column y.1)) _ z y.3 in
        ok_to (Filter t.place x.0.0 x.0.1 y.0, y.1 + 1) z m.1 (Closed text ts s at)
        ((x.1, y.1, (t, i, e, refl), g.0, g.1, has_kind ts s.column x.1 k.Colon n.0, (good s 0 (x.1 + 1) (y.0, y.1) y.2).0, has_kind ts s.column y.1 k.RightBrace m.0, refl), refl)

    set_sound : (s : Context) (t : Token) (at : ℕ) (e : Tree) (after : ℕ) (z : Tree × ℕ) → seen ts s.column at ≡ Some t → t.kind ≡ k.LeftBrace → Spells text ts s e (at + 1) after → set_of text ts inner s t.place at e after ≡ Ok z → Closed text ts s at z
    unfolding set_of image
    set_sound s t at e after z i b p h = elim (choice_ok (kind_at k.Colon (seen ts s.column after)) _ _ (Ok z) h) [
      | inl w ↦
          let a = need_ok (is_none (binds ts s.column (at + 1))) _ z w.1 in
          let x = bind_ok (groups text ts inner (length ts) [] s (after + 1)) _ z a.1 in
          let n = need_ok (kind_at k.RightBrace (seen ts s.column x.1)) _ z x.3 in
          ok_to (Image t.place e (binders x.0), x.1 + 1) z n.1 (Closed text ts s at)
          ((after, x.1, (t, i, b, refl), no_entry text ts s.column (at + 1) a.0, p, has_kind ts s.column after k.Colon w.0, groups_sound s (after + 1) (x.0, x.1) x.2, has_kind ts s.column x.1 k.RightBrace n.0, refl), refl)
      | inr w ↦
          let x = bind_ok (others text ts inner s k.RightBrace e after) _ z w.1 in
          ok_to (Listing t.place br.Set x.0, x.1) z x.3 (Closed text ts s at) (((t, i, b, refl), others_sound s k.RightBrace (at + 1) after e (x.0, x.1) p x.2), refl)
    ]

    pub brace_sound : (s : Context) (t : Token) (at : ℕ) (z : Tree × ℕ) → seen ts s.column at ≡ Some t → t.kind ≡ k.LeftBrace → brace text ts inner s t.place at ≡ Ok z → Closed text ts s at z
    unfolding brace
    brace_sound s t at z i e h = elim (choice_ok (kind_at k.RightBrace (seen ts s.column (at + 1))) (Ok (Listing t.place br.Set none, at + 2)) _ (Ok z) h) [
      | inl w ↦ ok_to (Listing t.place br.Set none, at + 2) z w.1 (Closed text ts s at) (((t, i, e, refl), (has_kind ts s.column (at + 1) k.RightBrace w.0, omega arith)), refl)
      | inr w ↦ (elim (choice_ok (filters ts s.column (at + 1)) _ _ (Ok z) w.1) [
        | inl v ↦ filter_sound s t at z i e v.1
        | inr v ↦ (let x = bind_ok (inner s 0 (at + 1)) _ z v.1 in set_sound s t at x.0 x.1 z i e (good s 0 (at + 1) (x.0, x.1) x.2).0 x.3)
      ])
    ]

    pub tuple_sound : (most : ℕ) (s : Context) (t : Token) (at : ℕ) (z : Tree × ℕ) → seen ts s.column at ≡ Some t → t.kind ≡ k.LeftTuple → tuple text ts inner most s t.place at ≡ Ok z → Closed text ts s at z
    unfolding tuple
    tuple_sound most s t at z i e h = elim (choice_ok (kind_at k.RightTuple (seen ts s.column (at + 1))) (Ok (Listing t.place br.Tuple none, at + 2)) _ (Ok z) h) [
      | inl w ↦ ok_to (Listing t.place br.Tuple none, at + 2) z w.1 (Closed text ts s at) (((t, i, e, refl), (has_kind ts s.column (at + 1) k.RightTuple w.0, omega arith)), refl)
      | inr w ↦
          let x = bind_ok (inner s 0 (at + 1)) _ z w.1 in
          let p = (good s 0 (at + 1) (x.0, x.1) x.2).0 in
          elim (choice_ok (kind_at k.RightTupleSubscript (seen ts s.column x.1)) _ _ (Ok z) x.3) [
            | inl v ↦ action_sound most s t.place st.Angle x.0 at x.1 z (t, i, e, refl) p (has_kind ts s.column x.1 k.RightTupleSubscript v.0) v.1
            | inr v ↦
                let y = bind_ok (others text ts inner s k.RightTuple x.0 x.1) _ z v.1 in
                ok_to (Listing t.place br.Tuple y.0, y.1) z y.3 (Closed text ts s at) (((t, i, e, refl), others_sound s k.RightTuple (at + 1) x.1 x.0 (y.0, y.1) p y.2), refl)
          ]
    ]

    -- ---- brackets

    mapping_sound : (s : Context) (t : Token) (at : ℕ) (z : Tree × ℕ) → seen ts s.column at ≡ Some t → t.kind ≡ k.LeftBracket → mapping text ts inner s t.place at ≡ Ok z → Closed text ts s at z
    unfolding mapping
    mapping_sound s t at z i e h =
        let x = bind_ok (groups text ts inner (length ts) [] s (at + 1)) _ z h in
        let n = need_ok (kind_at k.MapsTo (seen ts s.column x.1)) _ z x.3 in
        let y = bind_ok (inner s 0 (x.1 + 1)) _ z n.1 in
        let m = need_ok (kind_at k.RightBracket (seen ts s.column y.1)) _ z y.3 in
        ok_to (Function t.place (binders x.0) y.0, y.1 + 1) z m.1 (Closed text ts s at)
        ((x.1, y.1, (t, i, e, refl), groups_sound s (at + 1) (x.0, x.1) x.2, has_kind ts s.column x.1 k.MapsTo n.0, (good s 0 (x.1 + 1) (y.0, y.1) y.2).0, has_kind ts s.column y.1 k.RightBracket m.0, refl), refl)

    function_set_sound : (s : Context) (t : Token) (a : Tree) (from at : ℕ) (z : Tree × ℕ) → seen ts s.column from ≡ Some t → t.kind ≡ k.LeftBracket → Spells text ts s a (from + 1) at → Has ts s.column k.Arrow at
        → function_set text ts inner s t.place a at ≡ Ok z → Closed text ts s from z
    unfolding function_set
    function_set_sound s t a from at z i e p m h =
        let x = bind_ok (inner s 0 (at + 1)) _ z h in
        let n = need_ok (kind_at k.RightBracket (seen ts s.column x.1)) _ z x.3 in
        ok_to (FunctionSet t.place a x.0, x.1 + 1) z n.1 (Closed text ts s from) ((at, x.1, (t, i, e, refl), p, m, (good s 0 (at + 1) (x.0, x.1) x.2).0, has_kind ts s.column x.1 k.RightBracket n.0, refl), refl)

    first_sound : (most : ℕ) (s : Context) (t : Token) (a : Tree) (from at : ℕ) (z : Tree × ℕ) → seen ts s.column from ≡ Some t → t.kind ≡ k.LeftBracket → Spells text ts s a (from + 1) at
        → behind_first text ts inner most s t.place a at ≡ Ok z → Closed text ts s from z
    unfolding behind_first
    first_sound most s t a from at z i e p h = elim (choice_ok (kind_at k.Arrow (seen ts s.column at)) _ _ (Ok z) h) [
      | inl w ↦ function_set_sound s t a from at z i e p (has_kind ts s.column at k.Arrow w.0) w.1
      | inr w ↦ (elim (choice_ok (kind_at k.Except (seen ts s.column at)) _ _ (Ok z) w.1) [
        | inl v ↦ except_sound text ts inner good s t from at a z i e p (has_kind ts s.column at k.Except v.0) v.1
        | inr v ↦ (let n = need_ok (kind_at k.RightBracketSubscript (seen ts s.column at)) _ z v.1 in action_sound most s t.place st.Box a from at z (t, i, e, refl) p (has_kind ts s.column at k.RightBracketSubscript n.0) n.1)
      ])
    ]

    bracket_by_sound : (most : ℕ) (s : Context) (t : Token) (at : ℕ) (o : Opened) (z : Tree × ℕ) → seen ts s.column at ≡ Some t → t.kind ≡ k.LeftBracket → bracket_by text ts inner most s t.place at o ≡ Ok z → Closed text ts s at z
    bracket_by_sound most s t at opened.Record z i e h = record_sound text ts inner good s t at z i e h
    bracket_by_sound most s t at opened.RecordSet z i e h = record_set_sound text ts inner good s t at z i e h
    bracket_by_sound most s t at opened.Binders z i e h = mapping_sound s t at z i e h
    bracket_by_sound most s t at opened.Expression z i e h =
        let x = bind_ok (inner s 0 (at + 1)) (behind_first text ts inner most s t.place) z h in
        first_sound most s t x.0 at x.1 z i e (good s 0 (at + 1) (x.0, x.1) x.2).0 x.3

    pub bracket_sound : (most : ℕ) (s : Context) (t : Token) (at : ℕ) (z : Tree × ℕ) → seen ts s.column at ≡ Some t → t.kind ≡ k.LeftBracket → bracket text ts inner most s t.place at ≡ Ok z → Closed text ts s at z
    unfolding bracket
    bracket_sound most s t at z i e h = bracket_by_sound most s t at (opened_by ts s.column (at + 1)) z i e h
