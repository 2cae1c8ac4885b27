-- What is spelled is read, and so no two trees are spelled alike.
use Rattle.std.proofs.Common.{◌≡◌, ℕ, ◌+◌, ◌-◌, ◌≤◌, true, false, not, nat_lt, nat_le, slice_get, List, Some, Ok, refl, sym, ◌∙◌, arith}
use Rattle.std.proofs.lemmas.Bool.{ltb-true, le-leb}
use Rattle.tla_lex.specs.declared.token.Place.{Place}
use Rattle.tla_lex.specs.declared.token.Token.{Token}
use Rattle.tla_lex.specs.declared.token.Kind.{Kind}
use Rattle.tla_lex.specs.declared.token.Kind.TheVariants as k
use Rattle.tla_grammar.specs.declared.context.Context.{Context}
use Rattle.tla_grammar.specs.declared.tokens.Postfix.TheVariants as form
use Rattle.tla_tree.specs.declared.word.Written.{Written}
use Rattle.tla_tree.specs.declared.tree.Infix.{Infix}
use Rattle.tla_tree.specs.declared.tree.Prefix.{Prefix}
use Rattle.tla_tree.specs.declared.tree.Bullet.{Bullet}
use Rattle.tla_tree.specs.declared.tree.Quantifier.{Quantifier}
use Rattle.tla_tree.specs.declared.tree.Constant.{Constant}
use Rattle.tla_tree.specs.Tree.{Tree, Trees, Pattern, Binders, Arms, Other, Definition, Definitions, none, more, unbound, bound, no_arms, arm, no_other, other, DefinesOperator, DefinesFunction, undefined, defined, Case, Let, Name, Number, Text, Word, At, Paren, Listing, Call, Prime, Index, Field, Unary, Binary, Quantified, Choose, If, Junction, Filter, Image, Function, FunctionSet, Record, RecordSet, Except, Action, Fair, Product, Fields, Key, Keys, Updates, no_fields, field, AtIndex, AtField, no_keys, key, no_updates, update}
use Rattle.tla_grammar.specs.Operators.{low, high, prefix_low, prefix_high, prefix_of, bullet_of, quantifier_of, constant_of, is_product}
use Rattle.tla_tree.specs.Places.{place}
use Rattle.tla_grammar.specs.Edges.{yields, edge_allows, top_above, is_closed, depth, definition_depth}
use Rattle.tla_tree.specs.Words.{word_of, written}
use Rattle.tla_grammar.specs.Tokens.{seen, goes_on, is_bullet_at, may_follow, Has}
use Rattle.tla_grammar.specs.Kinds.{kind_at}
use Rattle.tla_grammar.specs.Grammar.{Spells, Defines, within}
use Rattle.tla_expressions.specs.ReadingLists.{call, paren}
use Rattle.tla_expressions.specs.Reading.{named, indexed, turn, junction, quantified, chosen, cases, lets, choice, prefix, by_class, operand, definition, expr}
use Rattle.tla_lex.proofs.StringTexts.{text_is_read}
use Rattle.tla_grammar.proofs.Inversion.{and_true, ok_to}
use Rattle.tla_expressions.proofs.Steps.{climb_more}
use Rattle.tla_expressions.proofs.Follow.{low_high, prefix_low_high, yields_low, end_mono, stop_by, end_plain, stops_plain, end_infix, sees_infix, not_true}
use Rattle.tla_expressions.proofs.Classes.{prefix_class, bullet_class, quantifier_class, constant_class}
use Rattle.tla_expressions.proofs.Shapes.{spine, spine_depth, left_top, top_zero, starts, opens}
use Rattle.tla_expressions.proofs.Lists.{trees_list, binders_list, arms_list, definitions_list}
use Rattle.tla_expressions.proofs.CompleteBrackets.{PartsCome, listing_opens, fair_opens, filter_opens, image_opens, action_opens, function_opens, function_set_opens, except_opens, record_opens, record_set_opens}
use Rattle.tla_expressions.proofs.Comes.{AllFields, KeyComes, AllKeys, AllUpdates, Fits, Stops, NoCall, Comes, Stands, Opens, Both, AllCome, AllBound, AllArms, OtherComes, DefinitionComes, AllDefined, finish, by_operand, closed_both, opens_both, behind_stands}
use Rattle.tla_expressions.proofs.CompleteCase.{AnyEnds, chosen_complete, definition_read, defined_complete}
use Rattle.tla_expressions.proofs.CompleteProduct.{product_comes}
use Rattle.tla_expressions.proofs.CompleteLists.{paren_ends, bracket_ends, colon_ends, some_complete, one_group_read, bound_complete, items_complete}

module _ (text : List ℕ) (ts : List Token) where
  -- ---- closed forms

  name_opens : (w : Written) → Opens text ts (Name w)
  unfolding operand named
  name_opens w n s from to x d nc = let no : NoCall text ts s (from + 1) = rw (← x.1) (nc refl) in rw (x.0.1, x.0.2, no, x.0.3, x.1) refl

  call_opens : (w : Written) (es : Trees) → AllCome text ts es → Opens text ts (Call w es)
  unfolding operand named call
  call_opens w es h n s from to x d nc =
      let r = some_complete text ts es h n s k.RightParen (from + 2) to paren_ends x.2 x.3 (omega (arith, d)) in
      rw (x.0.1, x.0.2, x.1.1, x.1.2, r, x.0.3) refl

  number_opens : (p : Place) (m : ℕ) → Opens text ts (Number p m)
  unfolding operand
  number_opens p m n s from to x d nc = rw (x.0.1, x.0.2, x.0.3, x.1) refl

  text_opens : (p : Place) (y : List ℕ) → Opens text ts (Text p y)
  unfolding operand
  text_opens p y n s from to x d nc = rw (x.1, x.2, x.3, (text_is_read (word_of text x.0) y).1 x.4, x.5) refl

  at_opens : (p : Place) → Opens text ts (At p)
  unfolding operand
  at_opens p n s from to x d nc = rw (x.0.1, x.0.2, x.0.3, x.1, x.2) refl

  word_opens : (p : Place) (c : Constant) → Opens text ts (Word p c)
  unfolding operand by_class
  word_opens p c n s from to x d nc =
      let t = x.1.0 in
      let e : constant_of t.kind ≡ Some c = rw x.1.2 x.2 in
      let w = constant_class text ts (expr text ts n) (n + 1) s t from t.kind c e in
      rw (x.1.1, w.0, w.1, w.2, w.3, e, x.1.3, x.3) refl

  paren_opens : (p : Place) (e : Tree) → Comes text ts e → Opens text ts (Paren p e)
  unfolding operand paren
  paren_opens p e h n s from to x d nc =
      let fits = end_plain e ts s.column x.0 k.RightParen x.3 refl in
      let r = finish text ts e h n s 0 (from + 1) x.0 x.2 fits (top_zero e) (omega (arith, d)) (stops_plain ts s.column 0 x.0 k.RightParen x.3 refl) in
      rw (x.1.1, x.1.2, x.1.3, r, x.3.1, x.3.2, x.4) refl

  junction_opens : (p : Place) (b : Bullet) (es : Trees) → AllCome text ts es → Opens text ts (Junction p b es)
  unfolding operand by_class junction
  junction_opens p b es h n s from to x d nc =
      let i = within s p.column in
      let w = and_true (not (is_bullet_at p.column b (slice_get ts to))) (may_follow p.column (slice_get ts to)) x.4 in
      let some = starts text ts es i b from to x.3 (opens text ts s p b es from to x) w.0 in
      let r = items_complete text ts es h n i b from to x.3 some (omega (arith, d)) (not_true (is_bullet_at p.column b (slice_get ts to)) w.0) w.1 in
      let t = x.1.0 in
      let is_b : bullet_of t.kind ≡ Some b = rw x.1.2 x.2 in
      let v = bullet_class text ts (expr text ts n) (n + 1) s t from t.kind b is_b in
      rw (x.1.1, v, is_b, x.1.3, r, w.1, trees_list es) refl

  -- ---- postfix forms

  prime_stands : (p : Place) (e : Tree) → Stands text ts e → Stands text ts (Prime p e)
  prime_stands p e h n s from to x c d nc =
      let v = x.2 in
      let room : nat_le (depth (Prime (place e) e)) (n + 1) ≡ true = le-leb _ _ (omega (arith, d)) in
      behind_stands text ts e (Prime p e) h refl n s from x.0 to form.Prime x.1 x.3 (omega (arith, d)) (rw (v.1, v.2) refl) (rw (v.1, v.2) refl) (rw (room, x.4, x.5) refl)

  index_stands : (p : Place) (e : Tree) (es : Trees) → Stands text ts e → AllCome text ts es → Stands text ts (Index p e es)
  unfolding indexed
  index_stands p e es h hs n s from to x c d nc =
      let v = x.2 in
      let r = some_complete text ts es hs n s k.RightBracket (x.0 + 1) to bracket_ends x.3 x.4 (omega (arith, d)) in
      let room : nat_le (depth (Index (place e) e es)) (n + 1) ≡ true = le-leb _ _ (omega (arith, d)) in
      behind_stands text ts e (Index p e es) h refl n s from x.0 to form.Index x.1 x.5 (omega (arith, d)) (rw (v.1, v.2) refl) (rw (v.1, v.2) refl) (rw (r, room, x.6) refl)

  field_stands : (p : Place) (e : Tree) (w : Written) → Stands text ts e → Stands text ts (Field p e w)
  field_stands p e w h n s from to x c d nc =
      let v = x.2 in
      let room : nat_le (depth (Field (place e) e (written text x.3.0))) (n + 1) ≡ true = le-leb _ _ (omega (arith, d)) in
      behind_stands text ts e (Field p e w) h refl n s from x.0 to form.Field x.1 x.4 (omega (arith, d)) (rw (v.1, v.2) refl) (rw (v.1, v.2) refl) (rw (x.3.1, x.3.2, room, x.3.3, x.5, x.6) refl)

  -- ---- the other forms

  unary_comes : (p : Place) (op : Prefix) (e : Tree) → Comes text ts e → Comes text ts (Unary p op e)
  unfolding operand by_class prefix
  unary_comes p op e h n s floor from to x f a d =
      let o = seen ts s.column to in
      let fits = end_mono (Unary p op e) e o (λ y w. (and_true (nat_lt (high y) (prefix_low op)) (edge_allows e y) w).1) f in
      let stops = stop_by (Unary p op e) (prefix_high op) o (λ y w.
      let l = ltb-true (high y) (prefix_low op) (and_true (nat_lt (high y) (prefix_low op)) (edge_allows e y) w).0 in
      let u = low_high y in let z = prefix_low_high op in omega (arith, l, u, z)) f in
      let r = finish text ts e h n s (prefix_high op) (from + 1) to x.3 fits x.4 (omega (arith, d)) stops in
      let t = x.1.0 in
      let is_op : prefix_of t.kind ≡ Some op = rw x.1.2 x.2 in
      let w = prefix_class text ts (expr text ts n) (n + 1) s t from t.kind op is_op in
      by_operand text ts (Unary p op e) n s floor from to refl (rw (x.1.1, w.0, w.1, is_op, r, x.1.3) refl)

  quantified_comes : (p : Place) (q : Quantifier) (bs : Binders) (b : Tree) → AllBound text ts bs → Comes text ts b → Comes text ts (Quantified p q bs b)
  unfolding operand by_class quantified
  quantified_comes p q bs b hs hb n s floor from to x f _ d =
      let o = seen ts s.column to in
      let ra = bound_complete text ts bs hs n s (from + 1) x.0 k.Colon colon_ends x.5 x.4 (omega (arith, d)) in
      let fits_b = end_mono (Quantified p q bs b) b o (λ y w. absurd (let z : ⊥ = cc in z)) f in
      let stops_b = stop_by (Quantified p q bs b) 0 o (λ y w. absurd (let z : ⊥ = cc in z)) f in
      let rb = finish text ts b hb n s 0 (x.0 + 1) to x.6 fits_b (top_zero b) (omega (arith, d)) stops_b in
      let t = x.2.0 in
      let is_q : quantifier_of t.kind ≡ Some q = rw x.2.2 x.3 in
      let w = quantifier_class text ts (expr text ts n) (n + 1) s t from t.kind q is_q in
      by_operand text ts (Quantified p q bs b) n s floor from to refl
      (rw (x.2.1, w.0, w.1, w.2, is_q, ra, x.5.1, x.5.2, rb, binders_list bs, x.2.3) refl)

  chosen_comes : (p : Place) (v : Pattern) (a b : Tree) → Comes text ts a → Comes text ts b → Comes text ts (Choose p v a b)
  unfolding operand chosen
  chosen_comes p v a b ha hb n s floor from to x f _ d =
      let o = seen ts s.column to in
      let ra = one_group_read text ts v a ha n s (from + 1) x.0 k.Colon x.2 x.3 x.4 refl (omega (arith, d)) in
      let fits_b = end_mono (Choose p v a b) b o (λ y w. absurd (let z : ⊥ = cc in z)) f in
      let stops_b = stop_by (Choose p v a b) 0 o (λ y w. absurd (let z : ⊥ = cc in z)) f in
      let rb = finish text ts b hb n s 0 (x.0 + 1) to x.5 fits_b (top_zero b) (omega (arith, d)) stops_b in
      by_operand text ts (Choose p v a b) n s floor from to refl
      (rw (x.1.1, x.1.2, ra, x.4.1, x.4.2, rb, x.1.3) refl)

  choice_comes : (p : Place) (a b e : Tree) → Comes text ts a → Comes text ts b → Comes text ts e → Comes text ts (If p a b e)
  unfolding operand choice
  choice_comes p a b e ha hb he n s floor from to x f _ d =
      let o = seen ts s.column to in
      let ra = finish text ts a ha n s 0 (from + 1) x.0 x.3 (end_plain a ts s.column x.0 k.Then x.4 refl) (top_zero a) (omega (arith, d)) (stops_plain ts s.column 0 x.0 k.Then x.4 refl) in
      let rb = finish text ts b hb n s 0 (x.0 + 1) x.1 x.5 (end_plain b ts s.column x.1 k.Else x.6 refl) (top_zero b) (omega (arith, d)) (stops_plain ts s.column 0 x.1 k.Else x.6 refl) in
      let fits = end_mono (If p a b e) e o (λ y w. absurd (let z : ⊥ = cc in z)) f in
      let stops = stop_by (If p a b e) 0 o (λ y w. absurd (let z : ⊥ = cc in z)) f in
      let re = finish text ts e he n s 0 (x.1 + 1) to x.7 fits (top_zero e) (omega (arith, d)) stops in
      by_operand text ts (If p a b e) n s floor from to refl (rw (x.2.1, x.2.2, ra, x.4.1, x.4.2, rb, x.6.1, x.6.2, re, x.2.3) refl)

  -- an open form ends where any expression may
  any_ends : (t : Tree) → ((y : Infix) → edge_allows t y ≡ true → ⊥) → (s : Context) (to : ℕ) → Fits text ts s t to → AnyEnds text ts s to
  any_ends t h s to f e = (end_mono t e (seen ts s.column to) (λ y w. absurd (h y w)) f, stop_by t 0 (seen ts s.column to) (λ y w. absurd (h y w)) f)

  cases_comes : (p : Place) (cs : Arms) (o : Other) → AllArms text ts cs → OtherComes text ts o → Comes text ts (Case p cs o)
  unfolding operand cases
  cases_comes p cs no_other h ho n s floor from to x f _ d =
      let ends = any_ends (Case p cs no_other) (λ y w. cc) s to f in
      let r = chosen_complete text ts cs h no_other n s (from + 1) x.0 to x.2 x.3 ends (omega (arith, d)) in
      let same = x.3.1 in
      let none : kind_at k.Box (seen ts s.column x.0) ≡ false = rw (← same) (not_true (kind_at k.Box (seen ts s.column to)) x.3.0) in
      by_operand text ts (Case p cs no_other) n s floor from to refl (rw (x.1.1, x.1.2, r, none, arms_list cs, x.1.3, same) refl)
  cases_comes p cs (other e) h ho n s floor from to x f _ d =
      let y = x.3 in
      let ends = any_ends (Case p cs (other e)) (λ y w. cc) s to f in
      let r = chosen_complete text ts cs h (other e) n s (from + 1) x.0 to x.2 x.3 ends (omega (arith, d)) in
      let z = ends e in
      let re = finish text ts e ho n s 0 (x.0 + 3) to y.3 z.0 (top_zero e) (omega (arith, d)) z.1 in
      by_operand text ts (Case p cs (other e)) n s floor from to refl (rw (x.1.1, x.1.2, r, y.0.1, y.0.2, y.1.1, y.1.2, y.2.1, y.2.2, re, arms_list cs, x.1.3) refl)

  lets_comes : (p : Place) (ds : Definitions) (e : Tree) → AllDefined text ts ds → Comes text ts e → Comes text ts (Let p ds e)
  unfolding operand lets
  lets_comes p ds e h he n s floor from to x f _ d =
      let r = defined_complete text ts ds h n s (from + 1) x.0 x.2 x.3 x.5 (omega (arith, d)) in
      let z = any_ends (Let p ds e) (λ y w. cc) s to f e in
      let re = finish text ts e he n s 0 (x.0 + 1) to x.4 z.0 (top_zero e) (omega (arith, d)) z.1 in
      by_operand text ts (Let p ds e) n s floor from to refl (rw (x.1.1, x.1.2, r, x.3.1, x.3.2, re, definitions_list ds, x.1.3) refl)

  binary_comes : (p : Place) (op : Infix) (v : Written) (l r : Tree) → Comes text ts l → Comes text ts r → Comes text ts (Binary p op v l r)
  unfolding turn
  binary_comes p op v l r hl hr n s floor from to x f a d =
      let o = seen ts s.column to in
      let u = x.3.0 in
      let is_op = rw (← x.3.2) at x.4 in
      let above_floor = ltb-true floor (low op) a in
      let rl = hl n s floor from x.0 x.2 (end_infix l ts s.column x.0 u op x.3.1 is_op x.6) (left_top floor l op x.6 above_floor) (omega (arith, d)) in
      let fits_r = end_mono (Binary p op v l r) r o (λ y w. (and_true (yields op y) (edge_allows r y) w).1) f in
      let stops_r = stop_by (Binary p op v l r) (high op) o (λ y w.
      let g = yields_low op y (and_true (yields op y) (edge_allows r y) w).0 in
      let z = low_high op in omega (arith, g, z)) f in
      let rr = finish text ts r hr n s (high op) (x.0 + 1) to x.5 fits_r x.7 (omega (arith, d)) stops_r in
      let room : nat_le (depth (Binary (place l) op (written text u) l r)) (n + 1) ≡ true = le-leb _ _ (omega (arith, d)) in
      let t : turn text ts (expr text ts n) (n + 1) s l op x.0 ≡ Ok (Binary (place l) op (written text u) l r, to) = (let other = not_true (is_product op) x.9 in rw (other, x.6, x.3.1, rr, room) refl) in
      let m : n - spine l ≡ (n - (spine l + 1)) + 1 = (let y = spine_depth l in omega (arith, d, y)) in
      rl ∙ climb_more text ts (expr text ts n) (n - spine l) (n - (spine l + 1)) (n + 1) s floor l x.0 op (Binary (place l) op (written text u) l r) to m (sees_infix ts s.column floor x.0 u op x.3.1 is_op above_floor) t ∙ rw (x.3.3, x.8) refl

  no_stand : (t : Tree) → is_closed t ≡ false → Stands text ts t
  no_stand t h n s from to x c d nc = absurd (let z : ⊥ = cc in z)

  mutual
    pub main : (t : Tree) → Both text ts t
    main (Name w) = opens_both text ts (Name w) refl refl refl (name_opens w)
    main (Number p m) = opens_both text ts (Number p m) refl refl refl (number_opens p m)
    main (Text p y) = opens_both text ts (Text p y) refl refl refl (text_opens p y)
    main (Word p c) = opens_both text ts (Word p c) refl refl refl (word_opens p c)
    main (At p) = opens_both text ts (At p) refl refl refl (at_opens p)
    main (Paren p e) = opens_both text ts (Paren p e) refl refl refl (paren_opens p e (main e).comes)
    main (Listing p b es) = opens_both text ts (Listing p b es) refl refl refl (listing_opens text ts p b es (main_all es))
    main (Call w es) = opens_both text ts (Call w es) refl refl refl (call_opens w es (main_all es))
    main (Prime p e) = closed_both text ts (Prime p e) refl refl (prime_stands p e (main e).stands)
    main (Index p e es) = closed_both text ts (Index p e es) refl refl (index_stands p e es (main e).stands (main_all es))
    main (Field p e w) = closed_both text ts (Field p e w) refl refl (field_stands p e w (main e).stands)
    main (Unary p op e) = record { comes = unary_comes p op e (main e).comes; stands = no_stand (Unary p op e) refl }
    main (Binary p op w l r) = record { comes = binary_comes p op w l r (main l).comes (main r).comes; stands = no_stand (Binary p op w l r) refl }
    main (Quantified p q bs b) = record { comes = quantified_comes p q bs b (main_bound bs) (main b).comes; stands = no_stand (Quantified p q bs b) refl }
    main (Choose p w a b) = record { comes = chosen_comes p w a b (main a).comes (main b).comes; stands = no_stand (Choose p w a b) refl }
    main (If p a b e) = record { comes = choice_comes p a b e (main a).comes (main b).comes (main e).comes; stands = no_stand (If p a b e) refl }
    main (Case p cs o) = record { comes = cases_comes p cs o (main_arms cs) (main_other o); stands = no_stand (Case p cs o) refl }
    main (Let p ds e) = record { comes = lets_comes p ds e (main_defined ds) (main e).comes; stands = no_stand (Let p ds e) refl }
    main (Junction p b es) = opens_both text ts (Junction p b es) refl refl refl (junction_opens p b es (main_all es))
    main (Filter p w a e) = opens_both text ts (Filter p w a e) refl refl refl (filter_opens text ts p w a e (main a).comes (main e).comes)
    main (Image p e bs) = opens_both text ts (Image p e bs) refl refl refl (image_opens text ts p e bs (main e).comes (main_bound bs))
    main (Function p bs e) = opens_both text ts (Function p bs e) refl refl refl (function_opens text ts p bs e (main_bound bs) (main e).comes)
    main (FunctionSet p a e) = opens_both text ts (FunctionSet p a e) refl refl refl (function_set_opens text ts p a e (main a).comes (main e).comes)
    main (Record p fs) = opens_both text ts (Record p fs) refl refl refl (record_opens text ts p fs (main_fields fs))
    main (RecordSet p fs) = opens_both text ts (RecordSet p fs) refl refl refl (record_set_opens text ts p fs (main_fields fs))
    main (Except p f us) = opens_both text ts (Except p f us) refl refl refl (except_opens text ts p f us (main f).comes (main_updates us))
    main (Action p g a v) = opens_both text ts (Action p g a v) refl refl refl (action_opens text ts p g a v (main a).comes (main_parts v))
    main (Fair p f v a) = opens_both text ts (Fair p f v a) refl refl refl (fair_opens text ts p f v a (main_parts v) (main a).comes)
    main (Product p e es) = record { comes = product_comes text ts p e es (main e).comes (main_all es); stands = no_stand (Product p e es) refl }

    main_parts : (t : Tree) → PartsCome text ts t
    main_parts (Paren p e) = (main e).comes
    main_parts (Listing p b es) = main_all es
    main_parts (Name w) = tt
    main_parts _ = tt

    main_fields : (fs : Fields) → AllFields text ts fs
    main_fields no_fields = tt
    main_fields (field w e fs) = ((main e).comes, main_fields fs)

    main_key : (y : Key) → KeyComes text ts y
    main_key (AtIndex es) = main_all es
    main_key (AtField w) = tt

    main_keys : (ks : Keys) → AllKeys text ts ks
    main_keys no_keys = tt
    main_keys (key y ks) = (main_key y, main_keys ks)

    main_updates : (us : Updates) → AllUpdates text ts us
    main_updates no_updates = tt
    main_updates (update ks e us) = (main_keys ks, (main e).comes, main_updates us)

    main_all : (es : Trees) → AllCome text ts es
    main_all none = tt
    main_all (more e es) = ((main e).comes, main_all es)

    main_bound : (bs : Binders) → AllBound text ts bs
    main_bound unbound = tt
    main_bound (bound ws e bs) = ((main e).comes, main_bound bs)

    main_arms : (cs : Arms) → AllArms text ts cs
    main_arms no_arms = tt
    main_arms (arm g e cs) = ((main g).comes, (main e).comes, main_arms cs)

    main_other : (o : Other) → OtherComes text ts o
    main_other no_other = tt
    main_other (other e) = (main e).comes

    main_definition : (d : Definition) → DefinitionComes text ts d
    main_definition (DefinesOperator w ws e) = (main e).comes
    main_definition (DefinesFunction w bs e) = (main_bound bs, (main e).comes)

    main_defined : (ds : Definitions) → AllDefined text ts ds
    main_defined undefined = tt
    main_defined (defined d ds) = (main_definition d, main_defined ds)

  pub definition_complete : (d : Definition) (n : ℕ) (s : Context) (from to : ℕ) (kind : Kind) → Defines text ts s d from to → Has ts s.column kind to → goes_on kind ≡ false → definition_depth d ≤ n
      → definition text ts (expr text ts n) s from ≡ Ok (d, to)
  definition_complete d n s from to kind x has plain l = (definition_read text ts d (main_definition d) n s from to kind x has plain l).0

  -- What is spelled is read.
  pub expr_complete : (t : Tree) (n : ℕ) (s : Context) (floor from to : ℕ) → Spells text ts s t from to → Fits text ts s t to → top_above floor t ≡ true → depth t ≤ n → Stops text ts s floor to
      → expr text ts n s floor from ≡ Ok (t, to)
  expr_complete t n s floor from to x f a d z = finish text ts t (main t).comes n s floor from to x f a d z

  -- No two trees are spelled from one place, where each ends before a token that doesn't go on with it.
  pub one_tree : (t u : Tree) (s : Context) (floor from to end : ℕ) → Spells text ts s t from to → Fits text ts s t to → top_above floor t ≡ true → Stops text ts s floor to
      → Spells text ts s u from end → Fits text ts s u end → top_above floor u ≡ true → Stops text ts s floor end → (t ≡ u) × (to ≡ end)
  one_tree t u s floor from to end x f a z x' f' a' z' =
      let n = depth t + depth u in
      let y = expr_complete t n s floor from to x f a (omega arith) z in
      let w = expr_complete u n s floor from end x' f' a' (omega arith) z' in
      ok_to (t, to) (u, end) (sym y ∙ w) (λ v. (t ≡ v.0) × (to ≡ v.1)) (refl, refl)
