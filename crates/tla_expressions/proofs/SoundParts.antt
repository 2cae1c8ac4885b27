-- Lists and postfix forms that are read are spelled so.
use Rattle.std.proofs.Common.{◌≡◌, ℕ, zero, suc, ◌+◌, true, inl, inr, IsTrue, length, List, [], Some, Ok, Err, refl, arith}
use Rattle.tla_lex.specs.declared.token.Token.{Token}
use Rattle.tla_lex.specs.declared.token.Kind.{Kind}
use Rattle.tla_lex.specs.declared.token.Kind.TheVariants as k
use Rattle.tla_grammar.specs.declared.context.Context.{Context}
use Rattle.tla_tree.specs.declared.tree.Brackets.{Brackets}
use Rattle.tla_grammar.specs.declared.tokens.Between.TheVariants as between
use Rattle.tla_grammar.specs.declared.tokens.Postfix.{Postfix}
use Rattle.tla_grammar.specs.declared.tokens.Postfix.TheVariants as form
use Rattle.tla_tree.specs.Tree.{Tree, Pattern, Trees, Group, none, trees, Name, Paren, Listing, Call, Prime, Index, Field, Binary, Product}
use Rattle.tla_tree.specs.Places.{place}
use Rattle.tla_grammar.specs.Edges.{top_above, is_closed}
use Rattle.tla_tree.specs.Words.{written}
use Rattle.tla_grammar.specs.Tokens.{seen, Has}
use Rattle.tla_grammar.specs.Kinds.{kind_at, opening, closing}
use Rattle.tla_grammar.specs.Grammar.{Spells, Listed, is_some}
use Rattle.tla_grammar.specs.Outcome.{Outcome, Refused}
use Rattle.tla_grammar.specs.Marks.{name_at, following, postfix_at}
use Rattle.tla_expressions.specs.ReadingLists.{exprs, some, listing, call, pattern, single, set_behind, group, one_group, paren}
use Rattle.tla_expressions.specs.Reading.{indexed, behind, postfix, postfixes, named}
use Rattle.tla_grammar.proofs.Inversion.{ok_to, bind_ok, need_ok, room_ok, at_op_ok, choice_ok, has_kind, has_name, postfix_kind, has_postfix}
use Rattle.tla_grammar.specs.Entries.{is_single, Binds}
use Rattle.tla_expressions.proofs.Tuples.{pattern_sound, single_sound}
use Rattle.tla_expressions.proofs.Sequence.{sequence_sound}
use Rattle.tla_expressions.proofs.Lists.{Spelled, GroupAt, listed_of}

closed_top : (floor : ℕ) (t : Tree) → IsTrue (is_closed t) → IsTrue (top_above floor t)
closed_top floor (Binary at op w l r) h = absurd (let z : ⊥ = cc in z)
closed_top floor (Product at e es) h = absurd (let z : ⊥ = cc in z)
closed_top floor _ h = refl

module _ (text : List ℕ) (ts : List Token) where
  -- a closed form
  abbrev pub Closed : Context → ℕ → Tree × ℕ → Type 0
  Closed s from z = Spells text ts s z.0 from z.1 × IsTrue (is_closed z.0)

  -- an expression whose top is above a floor
  abbrev pub Good : Context → ℕ → ℕ → Tree × ℕ → Type 0
  Good s floor from z = Spells text ts s z.0 from z.1 × IsTrue (top_above floor z.0)

  -- an expression that is no infix form
  abbrev pub Whole : Context → ℕ → Tree × ℕ → Type 0
  Whole s from z = (floor : ℕ) → Good s floor from z

  pub whole : (s : Context) (from : ℕ) (z : Tree × ℕ) → Closed s from z → Whole s from z
  whole s from z h floor = (h.0, closed_top floor z.0 h.1)

  module _ (inner : Context → ℕ → ℕ → Outcome Tree) (good : (s : Context) (floor at : ℕ) (z : Tree × ℕ) → inner s floor at ≡ Ok z → Good s floor at z) where
    -- ---- lists

    pub some_sound : (s : Context) (close : Kind) (at : ℕ) (z : Trees × ℕ) → some text ts inner s close at ≡ Ok z → Listed text ts s close z.0 at z.1 × (is_some z.0 ≡ true)
    unfolding some
    some_sound s close at z h =
        let x = bind_ok (exprs text ts inner (length ts) [] s between.Comma at) _ z h in
        let n = need_ok (kind_at close (seen ts s.column x.1)) _ z x.3 in
        let r = sequence_sound (Spelled text ts s) (following ts s.column between.Comma) (inner s 0) (λ m e after y. (good s 0 m (e, after) y).0) (length ts) [] at (x.0, x.1) x.2 in
        let l = listed_of text ts r.0 s close at x.1 r.2 (has_kind ts s.column x.1 close n.0) in
        ok_to (trees x.0, x.1 + 1) z n.1 (λ v. Listed text ts s close v.0 at v.1 × (is_some v.0 ≡ true)) (rw r.1 l)

    pub listing_sound : (s : Context) (t : Token) (b : Brackets) (at : ℕ) (z : Tree × ℕ) → seen ts s.column at ≡ Some t → t.kind ≡ opening b → listing text ts inner s t.place b at ≡ Ok z → Closed s at z
    unfolding listing
    listing_sound s t b at z i e h = elim (choice_ok (kind_at (closing b) (seen ts s.column (at + 1))) (Ok (Listing t.place b none, at + 2)) _ (Ok z) h) [
      | inl w ↦ ok_to (Listing t.place b none, at + 2) z w.1 (Closed s at) (((t, i, e, refl), (has_kind ts s.column (at + 1) (closing b) w.0, omega arith)), refl)
      | inr w ↦
          let x = bind_ok (some text ts inner s (closing b) (at + 1)) _ z w.1 in
          ok_to (Listing t.place b x.0, x.1) z x.3 (Closed s at) (((t, i, e, refl), (some_sound s (closing b) (at + 1) (x.0, x.1) x.2).0), refl)
    ]

    pub named_sound : (s : Context) (t : Token) (at : ℕ) (z : Tree × ℕ) → seen ts s.column at ≡ Some t → t.kind ≡ k.Name → named text ts inner s t at ≡ Ok z → Closed s at z
    unfolding named call
    named_sound s t at z i e h = elim (choice_ok (kind_at k.LeftParen (seen ts s.column (at + 1))) (call text ts inner s t at) (Ok (Name (written text t), at + 1)) (Ok z) h) [
      | inl w ↦
          let x = bind_ok (some text ts inner s k.RightParen (at + 2)) _ z w.1 in
          let r = some_sound s k.RightParen (at + 2) (x.0, x.1) x.2 in
          ok_to (Call (written text t) x.0, x.1) z x.3 (Closed s at) (((t, i, e, refl), has_kind ts s.column (at + 1) k.LeftParen w.0, r.0, r.1), refl)
      | inr w ↦ ok_to (Name (written text t), at + 1) z w.1 (Closed s at) (((t, i, e, refl), refl), refl)
    ]

    set_sound : (s : Context) (w : Pattern) (from at : ℕ) (g : Group) (to : ℕ) → Binds text ts s.column w from at → set_behind text ts inner s w at ≡ Ok (g, to) → (g.0 ≡ w) × GroupAt text ts s g from to
    unfolding set_behind
    set_sound s w from at g to b h =
        let n = need_ok (kind_at k.Member (seen ts s.column at)) _ (g, to) h in
        let y = bind_ok (inner s 0 (at + 1)) _ (g, to) n.1 in
        ok_to ((w, y.0), y.1) (g, to) y.3 (λ v. (v.0.0 ≡ w) × GroupAt text ts s v.0 from v.1) (refl, (at, b, has_kind ts s.column at k.Member n.0, (good s 0 (at + 1) (y.0, y.1) y.2).0))

    pub group_sound : (s : Context) (at : ℕ) (g : Group) (to : ℕ) → group text ts inner s at ≡ Ok (g, to) → GroupAt text ts s g at to
    unfolding group
    group_sound s at g to h =
        let x = bind_ok (pattern text ts s.column at) (set_behind text ts inner s) (g, to) h in
        (set_sound s x.0 at x.1 g to (pattern_sound text ts s.column at (x.0, x.1) x.2) x.3).1

    pub one_group_sound : (s : Context) (at : ℕ) (g : Group) (to : ℕ) → one_group text ts inner s at ≡ Ok (g, to) → (is_single g.0 ≡ true) × GroupAt text ts s g at to
    unfolding one_group
    one_group_sound s at g to h =
        let x = bind_ok (single text ts s.column at) (set_behind text ts inner s) (g, to) h in
        let y = single_sound text ts s.column at (x.0, x.1) x.2 in
        let r = set_sound s x.0 at x.1 g to y.0 x.3 in
        (rw r.0 y.1, r.1)

    pub paren_sound : (s : Context) (t : Token) (at : ℕ) (z : Tree × ℕ) → seen ts s.column at ≡ Some t → t.kind ≡ k.LeftParen → paren text ts inner s t.place at ≡ Ok z → Closed s at z
    unfolding paren
    paren_sound s t at z i e h =
        let x = bind_ok (inner s 0 (at + 1)) _ z h in
        let n = need_ok _ _ z x.3 in
        ok_to (Paren t.place x.0, x.1 + 1) z n.1 (Closed s at) ((x.1, (t, i, e, refl), (good s 0 (at + 1) (x.0, x.1) x.2).0, has_kind ts s.column x.1 k.RightParen n.0, refl), refl)

    -- ---- postfix forms

    pub behind_sound : (most : ℕ) (s : Context) (from : ℕ) (t : Tree) (f : Postfix) (at : ℕ) (z : Tree × ℕ) → Closed s from (t, at) → Has ts s.column (postfix_kind f) at
        → behind text ts inner most s t f at ≡ Ok z → Closed s from z
    unfolding indexed
    behind_sound most s from t form.Prime at z c i h = ok_to (Prime (place t) t, at + 1) z (room_ok _ _ z h).1 (Closed s from) ((at, c.0, i, c.1, refl, refl), refl)
    behind_sound most s from t form.Index at z c i h =
        let x = bind_ok (some text ts inner s k.RightBracket (at + 1)) _ z h in
        let r = room_ok _ _ z x.3 in
        let l = some_sound s k.RightBracket (at + 1) (x.0, x.1) x.2 in
        ok_to (Index (place t) t x.0, x.1) z r.1 (Closed s from) ((at, c.0, i, l.0, l.1, c.1, refl), refl)
    behind_sound most s from t form.Field at z c i h = elim (at_op_ok (name_at (seen ts s.column (at + 1))) (Err Refused) _ z h) [
      | inl w ↦ absurd (let z : ⊥ = cc in z)
      | inr w ↦ ok_to (Field (place t) t (written text w.0), at + 2) z (room_ok _ _ z w.2).1 (Closed s from) ((at, c.0, i, has_name ts text s.column (at + 1) w.0 w.1, c.1, refl, refl), refl)
    ]

    pub postfix_sound : (n most : ℕ) (s : Context) (from : ℕ) (t : Tree) (at : ℕ) (z : Tree × ℕ) → Closed s from (t, at) → postfix text ts inner n most s t at ≡ Ok z → Closed s from z
    unfolding postfix
    postfix_sound zero most s from t at z c h = elim (at_op_ok (postfix_at (seen ts s.column at)) (Ok (t, at)) _ z h) [
      | inl w ↦ ok_to (t, at) z w.1 (Closed s from) c
      | inr w ↦ absurd (let z : ⊥ = cc in z)
    ]
    postfix_sound (suc n) most s from t at z c h = elim (at_op_ok (postfix_at (seen ts s.column at)) (Ok (t, at)) _ z h) [
      | inl w ↦ ok_to (t, at) z w.1 (Closed s from) c
      | inr w ↦
          let x = bind_ok (behind text ts inner most s t w.0 at) (postfix text ts inner n most s) z w.2 in
          postfix_sound n most s from x.0 x.1 z (behind_sound most s from t w.0 at (x.0, x.1) c (has_postfix ts s.column at w.0 w.1) x.2) x.3
    ]

    pub postfixes_sound : (most : ℕ) (s : Context) (from : ℕ) (t : Tree) (at : ℕ) (z : Tree × ℕ) → Closed s from (t, at) → postfixes text ts inner most s t at ≡ Ok z → Whole s from z
    postfixes_sound most s from t at z c h = whole s from z (postfix_sound most most s from t at z c h)
