-- What a tree spells it spells too where the tokens after it are cut off.
use Rattle.std.proofs.Common.{◌≡◌, ℕ, zero, suc, ◌+◌, ◌<◌, ◌≤◌, Bool, true, false, not, ◌&&◌, IsTrue, nat_lt, slice_get, take, List, [], ◌∷◌, Some, None, refl, ap, sym, ◌∙◌, arith}
use Rattle.std.proofs.lemmas.Bool.{ltb-true, ltb-false}
use Rattle.tla_lex.specs.declared.token.Place.{Place}
use Rattle.tla_lex.specs.declared.token.Token.{Token}
use Rattle.tla_lex.specs.declared.token.Kind.{Kind}
use Rattle.tla_lex.specs.declared.token.Kind.TheVariants as k
use Rattle.tla_grammar.specs.declared.context.Context.{Context}
use Rattle.tla_tree.specs.declared.tree.Bullet.{Bullet}
use Rattle.tla_tree.specs.declared.word.Written.{Written}
use Rattle.tla_tree.specs.Tree.{Tree, Trees, Pattern, Each, Tuple, Binders, Arms, Other, Definition, Definitions, none, more, unbound, bound, no_arms, arm, no_other, other, DefinesOperator, DefinesFunction, undefined, defined, Case, Let, Name, Number, Text, Word, At, Paren, Listing, Call, Prime, Index, Field, Unary, Binary, Quantified, Choose, If, Junction, Filter, Image, Function, FunctionSet, Record, RecordSet, Except, Action, Fair, Product, Fields, Key, Keys, Updates, no_fields, field, AtIndex, AtField, no_keys, key, no_updates, update}
use Rattle.tla_grammar.specs.Kinds.{kind_at, closing, step_opening, step_closing, fairness_word}
use Rattle.tla_grammar.specs.Entries.{Binds, BeginsEntry}
use Rattle.tla_grammar.specs.Tokens.{right_of, seen, is_bullet_at, may_follow, Has, Is, Writes, Names}
use Rattle.tla_grammar.specs.Grammar.{Spells, Items, Listed, Others, Bound, MoreBound, Chosen, MoreChosen, Otherwise, Defines, Defined, Fielded, MoreFields, Leads, Selects, Updated, MoreUpdates, within, updating, Factors}
use Rattle.tla_expressions.proofs.NameLists.{names_fit}
use Rattle.tla_expressions.proofs.Tuples.{pattern_rise}
use Rattle.tla_expressions.proofs.Shapes.{advances, items_rise, listed_advance, others_advance, bound_advance, bound_rise, chosen_advance, chosen_rise, otherwise_rise, defined_rise, fielded_advance, more_fields_rise, leads_rise, updated_advance, more_updates_rise, factors_rise}

cut_within : {X : Type 0} (m : ℕ) (xs : List X) (i : ℕ) → i < m → slice_get (take m xs) i ≡ slice_get xs i
cut_within zero xs i h = absurd (omega (arith, h))
cut_within (suc m) [] i h = refl
cut_within (suc m) (x ∷ xs) zero h = refl
cut_within (suc m) (x ∷ xs) (suc i) h = cut_within m xs i (omega (arith, h))

cut_beyond : {X : Type 0} (m : ℕ) (xs : List X) (i : ℕ) → m ≤ i → slice_get (take m xs) i ≡ None
cut_beyond zero [] i h = refl
cut_beyond zero (x ∷ xs) i h = refl
cut_beyond (suc m) [] i h = refl
cut_beyond (suc m) (x ∷ xs) zero h = absurd (omega (arith, h))
cut_beyond (suc m) (x ∷ xs) (suc i) h = cut_beyond m xs i (omega (arith, h))

-- after the cut no token is left
pub seen_past : (ts : List Token) (m column at : ℕ) → m ≤ at → seen (take m ts) column at ≡ None
seen_past ts m column at l = rw (cut_beyond m ts at l) refl

module _ (text : List ℕ) (ts : List Token) (m : ℕ) where
  seen_cut : (column at : ℕ) → at < m → seen (take m ts) column at ≡ seen ts column at
  seen_cut column at l = ap (λ o. right_of column o) (cut_within m ts at l)

  pub has_cut : (column : ℕ) (kind : Kind) (at : ℕ) → at < m → Has ts column kind at → Has (take m ts) column kind at
  has_cut column kind at l x = (x.0, seen_cut column at l ∙ x.1, x.2)

  pub is_cut : (column : ℕ) (kind : Kind) (p : Place) (at : ℕ) → at < m → Is ts column kind p at → Is (take m ts) column kind p at
  is_cut column kind p at l x = (x.0, seen_cut column at l ∙ x.1, x.2, x.3)

  pub writes_cut : (column : ℕ) (kind : Kind) (w : Written) (at : ℕ) → at < m → Writes ts text column kind w at → Writes (take m ts) text column kind w at
  writes_cut column kind w at l x = (x.0, seen_cut column at l ∙ x.1, x.2, x.3)

  pub names_cut : (ws : List Written) (column from to : ℕ) → to ≤ m → Names ts text column ws from to → Names (take m ts) text column ws from to
  names_cut [] column from to l x = x
  names_cut (w ∷ []) column from to l x = (writes_cut column k.Name w from (omega (arith, l, x.1)) x.0, x.1)
  names_cut (w ∷ v ∷ ws) column from to l x =
      let h = names_fit text ts (v ∷ ws) column (from + 2) to x.2 in
      (writes_cut column k.Name w from (omega (arith, h, l)) x.0, has_cut column k.Comma (from + 1) (omega (arith, h, l)) x.1, names_cut (v ∷ ws) column (from + 2) to l x.2)

  bullet_cut : (column : ℕ) (b : Bullet) (at : ℕ) → at < m → IsTrue (is_bullet_at column b (slice_get ts at)) → IsTrue (is_bullet_at column b (slice_get (take m ts) at))
  bullet_cut column b at l x = rw (cut_within m ts at l) x

  pattern_cut : (w : Pattern) (column from to : ℕ) → to ≤ m → Binds text ts column w from to → Binds text (take m ts) column w from to
  pattern_cut (Each ws) column from to l x = names_cut ws column from to l x
  pattern_cut (Tuple ws) column from to l x =
      let h = names_fit text ts ws column (from + 1) x.0 x.2 in
      (x.0, has_cut column k.LeftTuple from (omega (arith, l, h, x.4)) x.1, names_cut ws column (from + 1) x.0 (omega (arith, l, x.4)) x.2, has_cut column k.RightTuple x.0 (omega (arith, l, x.4)) x.3, x.4)

  -- what the tokens that are left are, they are among all
  seen_back : (column at : ℕ) (t : Token) → seen (take m ts) column at ≡ Some t → seen ts column at ≡ Some t
  seen_back column at t h = by (nat_lt at m) refl
    where
      by : (b : Bool) → nat_lt at m ≡ b → seen ts column at ≡ Some t
      by true e = sym (seen_cut column at (ltb-true at m e)) ∙ h
      by false e = absurd (let n = seen_past ts m column at (ltb-false at m e) in let z : ⊥ = cc in z)

  has_back : (column : ℕ) (kind : Kind) (at : ℕ) → Has (take m ts) column kind at → Has ts column kind at
  has_back column kind at x = (x.0, seen_back column at x.0 x.1, x.2)

  names_back : (ws : List Written) (column from to : ℕ) → Names (take m ts) text column ws from to → Names ts text column ws from to
  names_back [] column from to x = x
  names_back (w ∷ []) column from to x = ((x.0.0, seen_back column from x.0.0 x.0.1, x.0.2, x.0.3), x.1)
  names_back (w ∷ v ∷ ws) column from to x = ((x.0.0, seen_back column from x.0.0 x.0.1, x.0.2, x.0.3), has_back column k.Comma (from + 1) x.1, names_back (v ∷ ws) column (from + 2) to x.2)

  pattern_back : (w : Pattern) (column from to : ℕ) → Binds text (take m ts) column w from to → Binds text ts column w from to
  pattern_back (Each ws) column from to x = names_back ws column from to x
  pattern_back (Tuple ws) column from to x = (x.0, has_back column k.LeftTuple from x.1, names_back ws column (from + 1) x.0 x.2, has_back column k.RightTuple x.0 x.3, x.4)

  no_entry_cut : (column at : ℕ) → (BeginsEntry text ts column at → ⊥) → BeginsEntry text (take m ts) column at → ⊥
  no_entry_cut column at f x = f (x.0, x.1, x.2, pattern_back x.0 column at x.1 x.3, has_back column k.Member x.1 x.4)

  -- what stands after a list, or an arm of CASE
  follow_by : (column : ℕ) (b : Bullet) (to : ℕ) (t : Bool) → nat_lt to m ≡ t → to ≤ m
      → IsTrue (not (is_bullet_at column b (slice_get ts to)) && may_follow column (slice_get ts to)) → IsTrue (not (is_bullet_at column b (slice_get (take m ts) to)) && may_follow column (slice_get (take m ts) to))
  follow_by column b to true e l x = rw (cut_within m ts to (ltb-true to m e)) x
  follow_by column b to false e l x = rw (cut_beyond m ts to (ltb-false to m e)) refl

  last_by : (column to : ℕ) (t : Bool) → nat_lt to m ≡ t → to ≤ m → IsTrue (not (kind_at k.Box (seen ts column to))) → IsTrue (not (kind_at k.Box (seen (take m ts) column to)))
  last_by column to true e l x = rw (cut_within m ts to (ltb-true to m e)) x
  last_by column to false e l x = rw (cut_beyond m ts to (ltb-false to m e)) refl

  mutual
    pub shorter : (t : Tree) (s : Context) (from to : ℕ) → to ≤ m → Spells text ts s t from to → Spells text (take m ts) s t from to
    shorter (Name w) s from to l x = (writes_cut s.column k.Name w from (omega (arith, l, x.1)) x.0, x.1)
    shorter (Number p n) s from to l x = (is_cut s.column (k.Number n) p from (omega (arith, l, x.1)) x.0, x.1)
    shorter (Text p y) s from to l x = (x.0, seen_cut s.column from (omega (arith, l, x.5)) ∙ x.1, x.2, x.3, x.4, x.5)
    shorter (Word p c) s from to l x = (x.0, is_cut s.column x.0 p from (omega (arith, l, x.3)) x.1, x.2, x.3)
    shorter (At p) s from to l x = (is_cut s.column k.At p from (omega (arith, l, x.2)) x.0, x.1, x.2)
    shorter (Paren p e) s from to l x =
        let h = advances text ts e s (from + 1) x.0 x.2 in
        (x.0, is_cut s.column k.LeftParen p from (omega (arith, l, h, x.4)) x.1, shorter e s (from + 1) x.0 (omega (arith, l, x.4)) x.2, has_cut s.column k.RightParen x.0 (omega (arith, l, x.4)) x.3, x.4)
    shorter (Listing p b es) s from to l x =
        let h = listed_advance text ts es s (closing b) (from + 1) to x.1 in
        (is_cut s.column _ p from (omega (arith, l, h)) x.0, listed_cut es s (closing b) (from + 1) to l x.1)
    shorter (Call w es) s from to l x =
        let h = listed_advance text ts es s k.RightParen (from + 2) to x.2 in
        (writes_cut s.column k.Name w from (omega (arith, l, h)) x.0, has_cut s.column k.LeftParen (from + 1) (omega (arith, l, h)) x.1, listed_cut es s k.RightParen (from + 2) to l x.2, x.3)
    shorter (Prime p e) s from to l x = (x.0, shorter e s from x.0 (omega (arith, l, x.5)) x.1, has_cut s.column k.Prime x.0 (omega (arith, l, x.5)) x.2, x.3, x.4, x.5)
    shorter (Index p e es) s from to l x =
        let h = listed_advance text ts es s k.RightBracket (x.0 + 1) to x.3 in
        (x.0, shorter e s from x.0 (omega (arith, l, h)) x.1, has_cut s.column k.LeftBracket x.0 (omega (arith, l, h)) x.2, listed_cut es s k.RightBracket (x.0 + 1) to l x.3, x.4, x.5, x.6)
    shorter (Field p e w) s from to l x =
        (x.0, shorter e s from x.0 (omega (arith, l, x.6)) x.1, has_cut s.column k.Dot x.0 (omega (arith, l, x.6)) x.2, writes_cut s.column k.Name w (x.0 + 1) (omega (arith, l, x.6)) x.3, x.4, x.5, x.6)
    shorter (Unary p op e) s from to l x =
        let h = advances text ts e s (from + 1) to x.3 in
        (x.0, is_cut s.column x.0 p from (omega (arith, l, h)) x.1, x.2, shorter e s (from + 1) to l x.3, x.4)
    shorter (Binary p op w a b) s from to l x =
        let h = advances text ts b s (x.0 + 1) to x.5 in
        (x.0, x.1, shorter a s from x.0 (omega (arith, l, h)) x.2, writes_cut s.column x.1 w x.0 (omega (arith, l, h)) x.3, x.4, shorter b s (x.0 + 1) to l x.5, x.6, x.7, x.8, x.9)
    shorter (Quantified p q bs e) s from to l x =
        let g = bound_advance text ts bs s (from + 1) x.0 x.4 in
        let h = advances text ts e s (x.0 + 1) to x.6 in
        (x.0, x.1, is_cut s.column x.1 p from (omega (arith, l, g, h)) x.2, x.3, bound_cut bs s (from + 1) x.0 (omega (arith, l, h)) x.4, has_cut s.column k.Colon x.0 (omega (arith, l, h)) x.5, shorter e s (x.0 + 1) to l x.6)
    shorter (Choose p w b e) s from to l x =
        let y = x.3 in
        let f = pattern_rise text ts w s.column (from + 1) y.0 y.1 in
        let g = advances text ts b s (y.0 + 1) x.0 y.3 in
        let h = advances text ts e s (x.0 + 1) to x.5 in (
          x.0,
          is_cut s.column k.Choose p from (omega (arith, l, f, g, h)) x.1,
          x.2,
          (y.0, pattern_cut w s.column (from + 1) y.0 (omega (arith, l, g, h)) y.1, has_cut s.column k.Member y.0 (omega (arith, l, g, h)) y.2, shorter b s (y.0 + 1) x.0 (omega (arith, l, h)) y.3),
          has_cut s.column k.Colon x.0 (omega (arith, l, h)) x.4,
          shorter e s (x.0 + 1) to l x.5,
        )
    shorter (If p a b e) s from to l x =
        let f = advances text ts a s (from + 1) x.0 x.3 in
        let g = advances text ts b s (x.0 + 1) x.1 x.5 in
        let h = advances text ts e s (x.1 + 1) to x.7 in (
          x.0,
          x.1,
          is_cut s.column k.If p from (omega (arith, l, f, g, h)) x.2,
          shorter a s (from + 1) x.0 (omega (arith, l, g, h)) x.3,
          has_cut s.column k.Then x.0 (omega (arith, l, g, h)) x.4,
          shorter b s (x.0 + 1) x.1 (omega (arith, l, h)) x.5,
          has_cut s.column k.Else x.1 (omega (arith, l, h)) x.6,
          shorter e s (x.1 + 1) to l x.7,
        )
    shorter (Case p cs o) s from to l x =
        let g = chosen_advance text ts cs s (from + 1) x.0 x.2 in
        let h = otherwise_rise text ts o s x.0 to x.3 in
        (x.0, is_cut s.column k.Case p from (omega (arith, l, g, h)) x.1, chosen_cut cs s (from + 1) x.0 (omega (arith, l, h)) x.2, otherwise_cut o s x.0 to l x.3)
    shorter (Let p ds e) s from to l x =
        let g = defined_rise text ts ds s (from + 1) x.0 x.2 in
        let h = advances text ts e s (x.0 + 1) to x.4 in
        (x.0, is_cut s.column k.Let p from (omega (arith, l, g, h)) x.1, defined_cut ds s (from + 1) x.0 (omega (arith, l, h)) x.2, has_cut s.column k.In x.0 (omega (arith, l, h)) x.3, shorter e s (x.0 + 1) to l x.4, x.5)
    shorter (Junction p b es) s from to l x =
        let h = advances text ts (Junction p b es) s from to x in
        (x.0, is_cut s.column x.0 p from (omega (arith, l, h)) x.1, x.2, items_cut es (within s p.column) b from to l x.3, follow_by p.column b to (nat_lt to m) refl l x.4)
    shorter (Filter p w b e) s from to l x =
        let y = x.4 in
        let f = pattern_rise text ts w s.column (from + 1) y.0 y.1 in
        let g = advances text ts b s (y.0 + 1) x.0 y.3 in
        let h = advances text ts e s (x.0 + 1) x.1 x.6 in
        let r = x.8 in (
          x.0,
          x.1,
          is_cut s.column k.LeftBrace p from (omega (arith, l, f, g, h, r)) x.2,
          x.3,
          (y.0, pattern_cut w s.column (from + 1) y.0 (omega (arith, l, g, h, r)) y.1, has_cut s.column k.Member y.0 (omega (arith, l, g, h, r)) y.2, shorter b s (y.0 + 1) x.0 (omega (arith, l, h, r)) y.3),
          has_cut s.column k.Colon x.0 (omega (arith, l, h, r)) x.5,
          shorter e s (x.0 + 1) x.1 (omega (arith, l, r)) x.6,
          has_cut s.column k.RightBrace x.1 (omega (arith, l, r)) x.7,
          r,
        )
    shorter (Image p e bs) s from to l x =
        let g = advances text ts e s (from + 1) x.0 x.4 in
        let h = bound_advance text ts bs s (x.0 + 1) x.1 x.6 in
        let r = x.8 in (
          x.0,
          x.1,
          is_cut s.column k.LeftBrace p from (omega (arith, l, g, h, r)) x.2,
          no_entry_cut s.column (from + 1) x.3,
          shorter e s (from + 1) x.0 (omega (arith, l, h, r)) x.4,
          has_cut s.column k.Colon x.0 (omega (arith, l, h, r)) x.5,
          bound_cut bs s (x.0 + 1) x.1 (omega (arith, l, r)) x.6,
          has_cut s.column k.RightBrace x.1 (omega (arith, l, r)) x.7,
          r,
        )
    shorter (Function p bs e) s from to l x =
        let g = bound_advance text ts bs s (from + 1) x.0 x.3 in
        let h = advances text ts e s (x.0 + 1) x.1 x.5 in
        let r = x.7 in (
          x.0,
          x.1,
          is_cut s.column k.LeftBracket p from (omega (arith, l, g, h, r)) x.2,
          bound_cut bs s (from + 1) x.0 (omega (arith, l, h, r)) x.3,
          has_cut s.column k.MapsTo x.0 (omega (arith, l, h, r)) x.4,
          shorter e s (x.0 + 1) x.1 (omega (arith, l, r)) x.5,
          has_cut s.column k.RightBracket x.1 (omega (arith, l, r)) x.6,
          r,
        )
    shorter (FunctionSet p a e) s from to l x =
        let g = advances text ts a s (from + 1) x.0 x.3 in
        let h = advances text ts e s (x.0 + 1) x.1 x.5 in
        let r = x.7 in (
          x.0,
          x.1,
          is_cut s.column k.LeftBracket p from (omega (arith, l, g, h, r)) x.2,
          shorter a s (from + 1) x.0 (omega (arith, l, h, r)) x.3,
          has_cut s.column k.Arrow x.0 (omega (arith, l, h, r)) x.4,
          shorter e s (x.0 + 1) x.1 (omega (arith, l, r)) x.5,
          has_cut s.column k.RightBracket x.1 (omega (arith, l, r)) x.6,
          r,
        )
    shorter (Record p fs) s from to l x =
        let g = fielded_advance text ts fs s k.MapsTo (from + 1) x.0 x.2 in
        let r = x.4 in
        (x.0, is_cut s.column k.LeftBracket p from (omega (arith, l, g, r)) x.1, fielded_cut fs s k.MapsTo (from + 1) x.0 (omega (arith, l, r)) x.2, has_cut s.column k.RightBracket x.0 (omega (arith, l, r)) x.3, r)
    shorter (RecordSet p fs) s from to l x =
        let g = fielded_advance text ts fs s k.Colon (from + 1) x.0 x.2 in
        let r = x.4 in
        (x.0, is_cut s.column k.LeftBracket p from (omega (arith, l, g, r)) x.1, fielded_cut fs s k.Colon (from + 1) x.0 (omega (arith, l, r)) x.2, has_cut s.column k.RightBracket x.0 (omega (arith, l, r)) x.3, r)
    shorter (Except p f us) s from to l x =
        let g = advances text ts f s (from + 1) x.0 x.3 in
        let h = updated_advance text ts us s (x.0 + 1) x.1 x.5 in
        let r = x.7 in (
          x.0,
          x.1,
          is_cut s.column k.LeftBracket p from (omega (arith, l, g, h, r)) x.2,
          shorter f s (from + 1) x.0 (omega (arith, l, h, r)) x.3,
          has_cut s.column k.Except x.0 (omega (arith, l, h, r)) x.4,
          updated_cut us s (x.0 + 1) x.1 (omega (arith, l, r)) x.5,
          has_cut s.column k.RightBracket x.1 (omega (arith, l, r)) x.6,
          r,
        )
    shorter (Action p g a v) s from to l x =
        let h = advances text ts a s (from + 1) x.0 x.2 in
        let i = advances text ts v s (x.0 + 1) to x.4 in
        (x.0, is_cut s.column (step_opening g) p from (omega (arith, l, h, i)) x.1, shorter a s (from + 1) x.0 (omega (arith, l, i)) x.2, has_cut s.column (step_closing g) x.0 (omega (arith, l, i)) x.3, shorter v s (x.0 + 1) to l x.4, x.5)
    shorter (Fair p f v a) s from to l x =
        let g = advances text ts v s (from + 1) x.0 x.3 in
        let h = advances text ts a s (x.0 + 1) x.1 x.6 in
        let r = x.8 in (
          x.0,
          x.1,
          is_cut s.column (fairness_word f) p from (omega (arith, l, g, h, r)) x.2,
          shorter v s (from + 1) x.0 (omega (arith, l, h, r)) x.3,
          x.4,
          has_cut s.column k.LeftParen x.0 (omega (arith, l, h, r)) x.5,
          shorter a s (x.0 + 1) x.1 (omega (arith, l, r)) x.6,
          has_cut s.column k.RightParen x.1 (omega (arith, l, r)) x.7,
          r,
        )
    shorter (Product p e es) s from to l x =
        let h = factors_rise text ts es s x.0 to x.2 in
        (x.0, shorter e s from x.0 (omega (arith, l, h)) x.1, factors_cut es s x.0 to l x.2, x.3, x.4, x.5)

    fielded_cut : (fs : Fields) (s : Context) (mark : Kind) (from to : ℕ) → to ≤ m → Fielded text ts s mark fs from to → Fielded text (take m ts) s mark fs from to
    fielded_cut no_fields s mark from to l x = x
    fielded_cut (field w e fs) s mark from to l x =
        let g = advances text ts e s (from + 2) x.0 x.3 in
        let h = more_fields_rise text ts fs s mark x.0 to x.4 in
        (x.0, writes_cut s.column k.Name w from (omega (arith, l, g, h)) x.1, has_cut s.column mark (from + 1) (omega (arith, l, g, h)) x.2, shorter e s (from + 2) x.0 (omega (arith, l, h)) x.3, more_fields_cut fs s mark x.0 to l x.4)

    more_fields_cut : (fs : Fields) (s : Context) (mark : Kind) (from to : ℕ) → to ≤ m → MoreFields text ts s mark fs from to → MoreFields text (take m ts) s mark fs from to
    more_fields_cut no_fields s mark from to l x = x
    more_fields_cut (field w e fs) s mark from to l x =
        let g = advances text ts e s (from + 3) x.0 x.4 in
        let h = more_fields_rise text ts fs s mark x.0 to x.5 in
        (x.0, has_cut s.column k.Comma from (omega (arith, l, g, h)) x.1, writes_cut s.column k.Name w (from + 1) (omega (arith, l, g, h)) x.2, has_cut s.column mark (from + 2) (omega (arith, l, g, h)) x.3, shorter e s (from + 3) x.0 (omega (arith, l, h)) x.4, more_fields_cut fs s mark x.0 to l x.5)

    selects_cut : (y : Key) (s : Context) (from to : ℕ) → to ≤ m → Selects text ts s y from to → Selects text (take m ts) s y from to
    selects_cut (AtIndex es) s from to l x =
        let h = listed_advance text ts es s k.RightBracket (from + 1) to x.1 in
        (has_cut s.column k.LeftBracket from (omega (arith, l, h)) x.0, listed_cut es s k.RightBracket (from + 1) to l x.1, x.2)
    selects_cut (AtField w) s from to l x = let r = x.2 in (has_cut s.column k.Dot from (omega (arith, l, r)) x.0, writes_cut s.column k.Name w (from + 1) (omega (arith, l, r)) x.1, r)

    leads_cut : (ks : Keys) (s : Context) (from to : ℕ) → to ≤ m → Leads text ts s ks from to → Leads text (take m ts) s ks from to
    leads_cut no_keys s from to l x = x
    leads_cut (key y ks) s from to l x = let h = leads_rise text ts ks s x.0 to x.2 in (x.0, selects_cut y s from x.0 (omega (arith, l, h)) x.1, leads_cut ks s x.0 to l x.2)

    updated_cut : (us : Updates) (s : Context) (from to : ℕ) → to ≤ m → Updated text ts s us from to → Updated text (take m ts) s us from to
    updated_cut no_updates s from to l x = x
    updated_cut (update ks e us) s from to l x =
        let f = leads_rise text ts ks s (from + 1) x.0 x.3 in
        let g = advances text ts e (updating s) (x.0 + 1) x.1 x.6 in
        let h = more_updates_rise text ts us s x.1 to x.7 in (
          x.0,
          x.1,
          has_cut s.column k.Bang from (omega (arith, l, f, g, h)) x.2,
          leads_cut ks s (from + 1) x.0 (omega (arith, l, g, h)) x.3,
          x.4,
          has_cut s.column k.Equal x.0 (omega (arith, l, g, h)) x.5,
          shorter e (updating s) (x.0 + 1) x.1 (omega (arith, l, h)) x.6,
          more_updates_cut us s x.1 to l x.7,
        )

    more_updates_cut : (us : Updates) (s : Context) (from to : ℕ) → to ≤ m → MoreUpdates text ts s us from to → MoreUpdates text (take m ts) s us from to
    more_updates_cut no_updates s from to l x = x
    more_updates_cut (update ks e us) s from to l x =
        let f = leads_rise text ts ks s (from + 2) x.0 x.4 in
        let g = advances text ts e (updating s) (x.0 + 1) x.1 x.7 in
        let h = more_updates_rise text ts us s x.1 to x.8 in (
          x.0,
          x.1,
          has_cut s.column k.Comma from (omega (arith, l, f, g, h)) x.2,
          has_cut s.column k.Bang (from + 1) (omega (arith, l, f, g, h)) x.3,
          leads_cut ks s (from + 2) x.0 (omega (arith, l, g, h)) x.4,
          x.5,
          has_cut s.column k.Equal x.0 (omega (arith, l, g, h)) x.6,
          shorter e (updating s) (x.0 + 1) x.1 (omega (arith, l, h)) x.7,
          more_updates_cut us s x.1 to l x.8,
        )

    factors_cut : (es : Trees) (s : Context) (from to : ℕ) → to ≤ m → Factors text ts s es from to → Factors text (take m ts) s es from to
    factors_cut none s from to l x = x
    factors_cut (more e es) s from to l x =
        let g = advances text ts e s (from + 1) x.0 x.2 in
        let h = factors_rise text ts es s x.0 to x.5 in
        (x.0, has_cut s.column k.Product from (omega (arith, l, g, h)) x.1, shorter e s (from + 1) x.0 (omega (arith, l, h)) x.2, x.3, x.4, factors_cut es s x.0 to l x.5)

    items_cut : (es : Trees) (s : Context) (b : Bullet) (from to : ℕ) → to ≤ m → Items text ts s b es from to → Items text (take m ts) s b es from to
    items_cut none s b from to l x = x
    items_cut (more e es) s b from to l x =
        let g = advances text ts e s (from + 1) x.0 x.2 in
        let h = items_rise text ts es s b x.0 to x.3 in
        (x.0, bullet_cut s.column b from (omega (arith, l, g, h)) x.1, shorter e s (from + 1) x.0 (omega (arith, l, h)) x.2, items_cut es s b x.0 to l x.3)

    pub listed_cut : (es : Trees) (s : Context) (close : Kind) (from to : ℕ) → to ≤ m → Listed text ts s close es from to → Listed text (take m ts) s close es from to
    listed_cut none s close from to l x = (has_cut s.column close from (omega (arith, l, x.1)) x.0, x.1)
    listed_cut (more e es) s close from to l x =
        let h = others_advance text ts es s close x.0 to x.2 in
        (x.0, shorter e s from x.0 (omega (arith, l, h)) x.1, others_cut es s close x.0 to l x.2)

    others_cut : (es : Trees) (s : Context) (close : Kind) (from to : ℕ) → to ≤ m → Others text ts s close es from to → Others text (take m ts) s close es from to
    others_cut none s close from to l x = (has_cut s.column close from (omega (arith, l, x.1)) x.0, x.1)
    others_cut (more e es) s close from to l x =
        let g = advances text ts e s (from + 1) x.0 x.2 in
        let h = others_advance text ts es s close x.0 to x.3 in
        (x.0, has_cut s.column k.Comma from (omega (arith, l, g, h)) x.1, shorter e s (from + 1) x.0 (omega (arith, l, h)) x.2, others_cut es s close x.0 to l x.3)

    pub bound_cut : (bs : Binders) (s : Context) (from to : ℕ) → to ≤ m → Bound text ts s bs from to → Bound text (take m ts) s bs from to
    bound_cut unbound s from to l x = x
    bound_cut (bound w e bs) s from to l x =
        let y = x.1 in
        let g = advances text ts e s (y.0 + 1) x.0 y.3 in
        let h = bound_rise text ts bs s x.0 to x.2 in
        (x.0, (y.0, pattern_cut w s.column from y.0 (omega (arith, l, g, h)) y.1, has_cut s.column k.Member y.0 (omega (arith, l, g, h)) y.2, shorter e s (y.0 + 1) x.0 (omega (arith, l, h)) y.3), more_bound_cut bs s x.0 to l x.2)

    more_bound_cut : (bs : Binders) (s : Context) (from to : ℕ) → to ≤ m → MoreBound text ts s bs from to → MoreBound text (take m ts) s bs from to
    more_bound_cut unbound s from to l x = x
    more_bound_cut (bound w e bs) s from to l x =
        let y = x.2 in
        let f = pattern_rise text ts w s.column (from + 1) y.0 y.1 in
        let g = advances text ts e s (y.0 + 1) x.0 y.3 in
        let h = bound_rise text ts bs s x.0 to x.3 in (
          x.0,
          has_cut s.column k.Comma from (omega (arith, l, f, g, h)) x.1,
          (y.0, pattern_cut w s.column (from + 1) y.0 (omega (arith, l, g, h)) y.1, has_cut s.column k.Member y.0 (omega (arith, l, g, h)) y.2, shorter e s (y.0 + 1) x.0 (omega (arith, l, h)) y.3),
          more_bound_cut bs s x.0 to l x.3,
        )

    chosen_cut : (cs : Arms) (s : Context) (from to : ℕ) → to ≤ m → Chosen text ts s cs from to → Chosen text (take m ts) s cs from to
    chosen_cut no_arms s from to l x = x
    chosen_cut (arm a e cs) s from to l x =
        let g = advances text ts e s (x.0 + 1) x.1 x.4 in
        let h = chosen_rise text ts cs s x.1 to x.5 in
        (x.0, x.1, shorter a s from x.0 (omega (arith, l, g, h)) x.2, has_cut s.column k.Arrow x.0 (omega (arith, l, g, h)) x.3, shorter e s (x.0 + 1) x.1 (omega (arith, l, h)) x.4, more_chosen_cut cs s x.1 to l x.5)

    more_chosen_cut : (cs : Arms) (s : Context) (from to : ℕ) → to ≤ m → MoreChosen text ts s cs from to → MoreChosen text (take m ts) s cs from to
    more_chosen_cut no_arms s from to l x = x
    more_chosen_cut (arm a e cs) s from to l x =
        let f = advances text ts a s (from + 1) x.0 x.3 in
        let g = advances text ts e s (x.0 + 1) x.1 x.5 in
        let h = chosen_rise text ts cs s x.1 to x.6 in (
          x.0,
          x.1,
          has_cut s.column k.Box from (omega (arith, l, f, g, h)) x.2,
          shorter a s (from + 1) x.0 (omega (arith, l, g, h)) x.3,
          has_cut s.column k.Arrow x.0 (omega (arith, l, g, h)) x.4,
          shorter e s (x.0 + 1) x.1 (omega (arith, l, h)) x.5,
          more_chosen_cut cs s x.1 to l x.6,
        )

    otherwise_cut : (o : Other) (s : Context) (from to : ℕ) → to ≤ m → Otherwise text ts s o from to → Otherwise text (take m ts) s o from to
    otherwise_cut no_other s from to l x = (last_by s.column to (nat_lt to m) refl l x.0, x.1)
    otherwise_cut (other e) s from to l x =
        let h = advances text ts e s (from + 3) to x.3 in
        (has_cut s.column k.Box from (omega (arith, l, h)) x.0, has_cut s.column k.Other (from + 1) (omega (arith, l, h)) x.1, has_cut s.column k.Arrow (from + 2) (omega (arith, l, h)) x.2, shorter e s (from + 3) to l x.3)

    defines_cut : (d : Definition) (s : Context) (from to : ℕ) → to ≤ m → Defines text ts s d from to → Defines text (take m ts) s d from to
    defines_cut (DefinesOperator w [] e) s from to l x =
        let h = advances text ts e s (from + 2) to x.2 in
        (writes_cut s.column k.Name w from (omega (arith, l, h)) x.0, has_cut s.column k.Define (from + 1) (omega (arith, l, h)) x.1, shorter e s (from + 2) to l x.2)
    defines_cut (DefinesOperator w (v ∷ vs) e) s from to l x =
        let g = names_fit text ts (v ∷ vs) s.column (from + 2) x.0 x.3 in
        let h = advances text ts e s (x.0 + 2) to x.6 in (
          x.0,
          writes_cut s.column k.Name w from (omega (arith, l, g, h)) x.1,
          has_cut s.column k.LeftParen (from + 1) (omega (arith, l, g, h)) x.2,
          names_cut (v ∷ vs) s.column (from + 2) x.0 (omega (arith, l, h)) x.3,
          has_cut s.column k.RightParen x.0 (omega (arith, l, h)) x.4,
          has_cut s.column k.Define (x.0 + 1) (omega (arith, l, h)) x.5,
          shorter e s (x.0 + 2) to l x.6,
        )
    defines_cut (DefinesFunction w bs e) s from to l x =
        let g = bound_advance text ts bs s (from + 2) x.0 x.3 in
        let h = advances text ts e s (x.0 + 2) to x.6 in (
          x.0,
          writes_cut s.column k.Name w from (omega (arith, l, g, h)) x.1,
          has_cut s.column k.LeftBracket (from + 1) (omega (arith, l, g, h)) x.2,
          bound_cut bs s (from + 2) x.0 (omega (arith, l, h)) x.3,
          has_cut s.column k.RightBracket x.0 (omega (arith, l, h)) x.4,
          has_cut s.column k.Define (x.0 + 1) (omega (arith, l, h)) x.5,
          shorter e s (x.0 + 2) to l x.6,
        )

    defined_cut : (ds : Definitions) (s : Context) (from to : ℕ) → to ≤ m → Defined text ts s ds from to → Defined text (take m ts) s ds from to
    defined_cut undefined s from to l x = x
    defined_cut (defined d ds) s from to l x =
        let h = defined_rise text ts ds s x.0 to x.2 in
        (x.0, defines_cut d s from x.0 (omega (arith, l, h)) x.1, defined_cut ds s x.0 to l x.2)
