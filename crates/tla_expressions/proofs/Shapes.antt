-- The left edge of a tree, and that what a tree spells goes forward.
use Rattle.std.proofs.Common.{◌≡◌, ℕ, ◌+◌, ◌-◌, ◌<◌, ◌≤◌, true, not, slice_get, length, List, [], ◌∷◌, arith, refl}
use Rattle.std.proofs.lemmas.Bool.{lt-ltb}
use Rattle.tla_lex.specs.declared.token.Token.{Token}
use Rattle.tla_lex.specs.declared.token.Kind.{Kind}
use Rattle.tla_lex.specs.declared.token.Kind.TheVariants as k
use Rattle.tla_grammar.specs.declared.context.Context.{Context}
use Rattle.tla_tree.specs.declared.tree.Infix.{Infix}
use Rattle.tla_tree.specs.declared.tree.Infix.TheVariants as i
use Rattle.tla_tree.specs.declared.tree.Bullet.{Bullet}
use Rattle.tla_tree.specs.Tree.{Tree, Trees, Binders, Arms, Other, Definition, Definitions, none, more, unbound, bound, no_arms, arm, no_other, other, DefinesOperator, DefinesFunction, undefined, defined, Case, Let, Name, Number, Text, Word, At, Paren, Listing, Call, Prime, Index, Field, Unary, Binary, Quantified, Choose, If, Junction, Filter, Image, Function, FunctionSet, Record, RecordSet, Except, Action, Fair, Product, Fields, Key, Keys, Updates, no_fields, field, AtIndex, AtField, no_keys, key, no_updates, update}
use Rattle.tla_grammar.specs.Operators.{low}
use Rattle.tla_grammar.specs.Edges.{yields, edge_allows, last_allows, top_above, depth}
use Rattle.tla_grammar.specs.Kinds.{closing}
use Rattle.tla_grammar.specs.Tokens.{is_bullet_at, may_follow}
use Rattle.tla_grammar.specs.Grammar.{Fielded, MoreFields, Leads, Selects, Updated, MoreUpdates, updating, Spells, Items, Listed, Others, Bound, MoreBound, Chosen, MoreChosen, Otherwise, Defines, Defined, within, Factors}
use Rattle.tla_grammar.proofs.Inversion.{and_true, first_bullet}
use Rattle.tla_expressions.proofs.Steps.{bullet_within}
use Rattle.tla_expressions.proofs.NameLists.{names_fit, seen_within}
use Rattle.tla_expressions.proofs.Tuples.{pattern_rise}
use Rattle.tla_expressions.proofs.Follow.{low_some, yields_low, not_true}

-- how many infix forms lie on the left edge
abbrev pub spine : Tree → ℕ
spine (Binary _ _ _ l _) = spine l + 1
spine (Product _ e _) = spine e + 1
spine _ = 0

pub spine_depth : (t : Tree) → spine t < depth t
spine_depth (Binary at op w l r) = let h = spine_depth l in omega (arith, h)
spine_depth (Product at e es) = let h = spine_depth e in omega (arith, h)
spine_depth (Name _) = omega arith
spine_depth _ = omega arith

-- how many postfix forms
abbrev pub tails : Tree → ℕ
tails (Prime _ e) = tails e + 1
tails (Index _ e _) = tails e + 1
tails (Field _ e _) = tails e + 1
tails _ = 0

pub tails_depth : (t : Tree) → tails t < depth t
tails_depth (Prime at e) = let h = tails_depth e in omega (arith, h)
tails_depth (Index at e es) = let h = tails_depth e in omega (arith, h)
tails_depth (Field at e w) = let h = tails_depth e in omega (arith, h)
tails_depth _ = omega arith

-- the top of a left operand is above what its operator is above
pub left_top : (floor : ℕ) (l : Tree) (op : Infix) → edge_allows l op ≡ true → floor < low op → top_above floor l ≡ true
left_top floor (Binary at first w x y) op h f =
    let w = and_true (yields first op) (edge_allows y op) h in
    let s = yields_low first op w.0 in
    lt-ltb floor (low first) (omega (arith, s, f))
left_top floor (Product at e es) op h f =
    let w = and_true (yields i.Product op) (last_allows es op) h in
    let s = yields_low i.Product op w.0 in
    lt-ltb floor (low i.Product) (omega (arith, s, f))
left_top floor (Name _) op h f = refl
left_top floor _ op h f = refl

pub top_zero : (t : Tree) → top_above 0 t ≡ true
top_zero (Binary at op w l r) = lt-ltb 0 (low op) (low_some op)
top_zero (Name _) = refl
top_zero _ = refl

abbrev pub count : Trees → ℕ
count none = 0
count (more e es) = count es + 1

module _ (text : List ℕ) (ts : List Token) where
  -- a list has an item
  pub starts : (es : Trees) (s : Context) (b : Bullet) (from to : ℕ) → Items text ts s b es from to → is_bullet_at s.column b (slice_get ts from) ≡ true
      → not (is_bullet_at s.column b (slice_get ts to)) ≡ true → 0 < count es
  starts none s b from to i h f = absurd (let x : is_bullet_at s.column b (slice_get ts to) ≡ true = rw i h in let y = not_true (is_bullet_at s.column b (slice_get ts to)) f in let z : ⊥ = cc in z)
  starts (more e es) s b from to i h f = omega arith

  mutual
    pub advances : (t : Tree) (s : Context) (from to : ℕ) → Spells text ts s t from to → from < to
    advances (Name w) s from to x = omega (arith, x.1)
    advances (Number p n) s from to x = omega (arith, x.1)
    advances (Text p y) s from to x = omega (arith, x.5)
    advances (Word p c) s from to x = omega (arith, x.3)
    advances (At p) s from to x = omega (arith, x.2)
    advances (Paren p e) s from to x = let h = advances e s (from + 1) x.0 x.2 in omega (arith, h, x.4)
    advances (Listing p b es) s from to x = let h = listed_advance es s (closing b) (from + 1) to x.1 in omega (arith, h)
    advances (Call w es) s from to x = let h = listed_advance es s k.RightParen (from + 2) to x.2 in omega (arith, h)
    advances (Prime p e) s from to x = let h = advances e s from x.0 x.1 in omega (arith, h, x.5)
    advances (Index p e es) s from to x = let h = advances e s from x.0 x.1 in let g = listed_advance es s k.RightBracket (x.0 + 1) to x.3 in omega (arith, h, g)
    advances (Field p e w) s from to x = let h = advances e s from x.0 x.1 in omega (arith, h, x.6)
    advances (Unary p op e) s from to x = let h = advances e s (from + 1) to x.3 in omega (arith, h)
    advances (Binary p op w l r) s from to x = let h = advances l s from x.0 x.2 in let g = advances r s (x.0 + 1) to x.5 in omega (arith, h, g)
    advances (Quantified p q bs b) s from to x = let h = bound_advance bs s (from + 1) x.0 x.4 in let g = advances b s (x.0 + 1) to x.6 in omega (arith, h, g)
    advances (Choose p w a b) s from to x =
        let y = x.3 in
        let f = pattern_rise text ts w s.column (from + 1) y.0 y.1 in
        let h = advances a s (y.0 + 1) x.0 y.3 in
        let g = advances b s (x.0 + 1) to x.5 in omega (arith, f, h, g)
    advances (If p a b e) s from to x = let h = advances a s (from + 1) x.0 x.3 in let g = advances b s (x.0 + 1) x.1 x.5 in let f = advances e s (x.1 + 1) to x.7 in omega (arith, h, g, f)
    advances (Case p cs o) s from to x = let h = chosen_advance cs s (from + 1) x.0 x.2 in let g = otherwise_rise o s x.0 to x.3 in omega (arith, h, g)
    advances (Let p ds e) s from to x = let h = defined_rise ds s (from + 1) x.0 x.2 in let g = advances e s (x.0 + 1) to x.4 in omega (arith, h, g)
    advances (Junction p b es) s from to x =
        let t = x.1.0 in
        let f = first_bullet ts s.column from t b x.1.1 (rw x.1.2 x.2) in
        let g : is_bullet_at p.column b (slice_get ts from) ≡ true = rw (← x.1.3) f in
        items_advance es (within s p.column) b from to x.3 (starts es (within s p.column) b from to x.3 g (and_true (not (is_bullet_at p.column b (slice_get ts to))) (may_follow p.column (slice_get ts to)) x.4).0)
    advances (Filter p w b e) s from to x =
        let y = x.4 in
        let f = pattern_rise text ts w s.column (from + 1) y.0 y.1 in
        let h = advances b s (y.0 + 1) x.0 y.3 in
        let g = advances e s (x.0 + 1) x.1 x.6 in omega (arith, f, h, g, x.8)
    advances (Image p e bs) s from to x = let h = advances e s (from + 1) x.0 x.4 in let g = bound_advance bs s (x.0 + 1) x.1 x.6 in omega (arith, h, g, x.8)
    advances (Function p bs e) s from to x = let h = bound_advance bs s (from + 1) x.0 x.3 in let g = advances e s (x.0 + 1) x.1 x.5 in omega (arith, h, g, x.7)
    advances (FunctionSet p a b) s from to x = let h = advances a s (from + 1) x.0 x.3 in let g = advances b s (x.0 + 1) x.1 x.5 in omega (arith, h, g, x.7)
    advances (Record p fs) s from to x = let h = fielded_advance fs s k.MapsTo (from + 1) x.0 x.2 in omega (arith, h, x.4)
    advances (RecordSet p fs) s from to x = let h = fielded_advance fs s k.Colon (from + 1) x.0 x.2 in omega (arith, h, x.4)
    advances (Except p f us) s from to x = let h = advances f s (from + 1) x.0 x.3 in let g = updated_advance us s (x.0 + 1) x.1 x.5 in omega (arith, h, g, x.7)
    advances (Action p g a v) s from to x = let h = advances a s (from + 1) x.0 x.2 in let i = advances v s (x.0 + 1) to x.4 in omega (arith, h, i)
    advances (Fair p f v a) s from to x = let h = advances v s (from + 1) x.0 x.3 in let g = advances a s (x.0 + 1) x.1 x.6 in omega (arith, h, g, x.8)
    advances (Product p e es) s from to x = let h = advances e s from x.0 x.1 in let g = factors_rise es s x.0 to x.2 in omega (arith, h, g)

    pub fielded_advance : (fs : Fields) (s : Context) (mark : Kind) (from to : ℕ) → Fielded text ts s mark fs from to → from < to
    fielded_advance no_fields s mark from to x = absurd x
    fielded_advance (field w e fs) s mark from to x = let h = advances e s (from + 2) x.0 x.3 in let g = more_fields_rise fs s mark x.0 to x.4 in omega (arith, h, g)

    pub more_fields_rise : (fs : Fields) (s : Context) (mark : Kind) (from to : ℕ) → MoreFields text ts s mark fs from to → from ≤ to
    more_fields_rise no_fields s mark from to x = omega (arith, x)
    more_fields_rise (field w e fs) s mark from to x = let h = advances e s (from + 3) x.0 x.4 in let g = more_fields_rise fs s mark x.0 to x.5 in omega (arith, h, g)

    pub selects_advance : (x : Key) (s : Context) (from to : ℕ) → Selects text ts s x from to → from < to
    selects_advance (AtIndex es) s from to x = let h = listed_advance es s k.RightBracket (from + 1) to x.1 in omega (arith, h)
    selects_advance (AtField w) s from to x = omega (arith, x.2)

    pub leads_rise : (ks : Keys) (s : Context) (from to : ℕ) → Leads text ts s ks from to → from ≤ to
    leads_rise no_keys s from to x = omega (arith, x)
    leads_rise (key y ks) s from to x = let h = selects_advance y s from x.0 x.1 in let g = leads_rise ks s x.0 to x.2 in omega (arith, h, g)

    pub updated_advance : (us : Updates) (s : Context) (from to : ℕ) → Updated text ts s us from to → from < to
    updated_advance no_updates s from to x = absurd x
    updated_advance (update ks e us) s from to x =
        let h = leads_rise ks s (from + 1) x.0 x.3 in
        let g = advances e (updating s) (x.0 + 1) x.1 x.6 in
        let r = more_updates_rise us s x.1 to x.7 in omega (arith, h, g, r)

    pub more_updates_rise : (us : Updates) (s : Context) (from to : ℕ) → MoreUpdates text ts s us from to → from ≤ to
    more_updates_rise no_updates s from to x = omega (arith, x)
    more_updates_rise (update ks e us) s from to x =
        let h = leads_rise ks s (from + 2) x.0 x.4 in
        let g = advances e (updating s) (x.0 + 1) x.1 x.7 in
        let r = more_updates_rise us s x.1 to x.8 in omega (arith, h, g, r)

    items_advance : (es : Trees) (s : Context) (b : Bullet) (from to : ℕ) → Items text ts s b es from to → 0 < count es → from < to
    items_advance none s b from to x h = absurd (omega (arith, h))
    items_advance (more e es) s b from to x h = let g = advances e s (from + 1) x.0 x.2 in let r = items_rise es s b x.0 to x.3 in omega (arith, g, r)

    pub items_rise : (es : Trees) (s : Context) (b : Bullet) (from to : ℕ) → Items text ts s b es from to → from ≤ to
    items_rise none s b from to x = omega (arith, x)
    items_rise (more e es) s b from to x = let g = advances e s (from + 1) x.0 x.2 in let r = items_rise es s b x.0 to x.3 in omega (arith, g, r)

    pub factors_rise : (es : Trees) (s : Context) (from to : ℕ) → Factors text ts s es from to → from ≤ to
    factors_rise none s from to x = omega (arith, x)
    factors_rise (more e es) s from to x = let g = advances e s (from + 1) x.0 x.2 in let r = factors_rise es s x.0 to x.5 in omega (arith, g, r)

    pub listed_advance : (es : Trees) (s : Context) (close : Kind) (from to : ℕ) → Listed text ts s close es from to → from < to
    listed_advance none s close from to x = omega (arith, x.1)
    listed_advance (more e es) s close from to x = let g = advances e s from x.0 x.1 in let r = others_advance es s close x.0 to x.2 in omega (arith, g, r)

    pub others_advance : (es : Trees) (s : Context) (close : Kind) (from to : ℕ) → Others text ts s close es from to → from < to
    others_advance none s close from to x = omega (arith, x.1)
    others_advance (more e es) s close from to x = let g = advances e s (from + 1) x.0 x.2 in let r = others_advance es s close x.0 to x.3 in omega (arith, g, r)

    pub bound_advance : (bs : Binders) (s : Context) (from to : ℕ) → Bound text ts s bs from to → from < to
    bound_advance unbound s from to x = absurd x
    bound_advance (bound w e bs) s from to x =
        let y = x.1 in
        let n = pattern_rise text ts w s.column from y.0 y.1 in
        let g = advances e s (y.0 + 1) x.0 y.3 in
        let r = bound_rise bs s x.0 to x.2 in omega (arith, n, g, r)

    pub bound_rise : (bs : Binders) (s : Context) (from to : ℕ) → MoreBound text ts s bs from to → from ≤ to
    bound_rise unbound s from to x = omega (arith, x)
    bound_rise (bound w e bs) s from to x =
        let y = x.2 in
        let n = pattern_rise text ts w s.column (from + 1) y.0 y.1 in
        let g = advances e s (y.0 + 1) x.0 y.3 in
        let r = bound_rise bs s x.0 to x.3 in omega (arith, n, g, r)

    pub chosen_advance : (cs : Arms) (s : Context) (from to : ℕ) → Chosen text ts s cs from to → from < to
    chosen_advance no_arms s from to x = absurd x
    chosen_advance (arm g e cs) s from to x =
        let h = advances g s from x.0 x.2 in
        let i = advances e s (x.0 + 1) x.1 x.4 in
        let r = chosen_rise cs s x.1 to x.5 in omega (arith, h, i, r)

    pub chosen_rise : (cs : Arms) (s : Context) (from to : ℕ) → MoreChosen text ts s cs from to → from ≤ to
    chosen_rise no_arms s from to x = omega (arith, x)
    chosen_rise (arm g e cs) s from to x =
        let h = advances g s (from + 1) x.0 x.3 in
        let i = advances e s (x.0 + 1) x.1 x.5 in
        let r = chosen_rise cs s x.1 to x.6 in omega (arith, h, i, r)

    pub otherwise_rise : (o : Other) (s : Context) (from to : ℕ) → Otherwise text ts s o from to → from ≤ to
    otherwise_rise no_other s from to x = omega (arith, x.1)
    otherwise_rise (other e) s from to x = let h = advances e s (from + 3) to x.3 in omega (arith, h)

    pub defines_advance : (d : Definition) (s : Context) (from to : ℕ) → Defines text ts s d from to → from < to
    defines_advance (DefinesOperator w [] e) s from to x = let h = advances e s (from + 2) to x.2 in omega (arith, h)
    defines_advance (DefinesOperator w (v ∷ vs) e) s from to x = let n = names_fit text ts (v ∷ vs) s.column (from + 2) x.0 x.3 in let h = advances e s (x.0 + 2) to x.6 in omega (arith, n, h)
    defines_advance (DefinesFunction w bs e) s from to x = let n = bound_advance bs s (from + 2) x.0 x.3 in let h = advances e s (x.0 + 2) to x.6 in omega (arith, n, h)

    pub defined_rise : (ds : Definitions) (s : Context) (from to : ℕ) → Defined text ts s ds from to → from ≤ to
    defined_rise undefined s from to x = omega (arith, x)
    defined_rise (defined d ds) s from to x = let h = defines_advance d s from x.0 x.1 in let r = defined_rise ds s x.0 to x.2 in omega (arith, h, r)

  pub items_fit : (es : Trees) (s : Context) (b : Bullet) (from to : ℕ) → Items text ts s b es from to → count es ≤ length ts - from
  items_fit none s b from to x = omega arith
  items_fit (more e es) s b from to x =
      let g = advances e s (from + 1) x.0 x.2 in
      let w = bullet_within ts s.column b from x.1 in
      let r = items_fit es s b x.0 to x.3 in omega (arith, g, w, r)

  pub factors_fit : (es : Trees) (s : Context) (from to : ℕ) → Factors text ts s es from to → count es ≤ length ts - from
  factors_fit none s from to x = omega arith
  factors_fit (more e es) s from to x =
      let g = advances e s (from + 1) x.0 x.2 in
      let w = seen_within text ts s.column from x.1.0 x.1.1 in
      let r = factors_fit es s x.0 to x.5 in omega (arith, g, w, r)

  -- the bullet of a list's first token, in the column of the list's place
  pub opens : (s : Context) (p : _) (b : Bullet) (es : Trees) (from to : ℕ) → (x : Spells text ts s (Junction p b es) from to) → is_bullet_at p.column b (slice_get ts from) ≡ true
  opens s p b es from to x =
      let f = first_bullet ts s.column from x.1.0 b x.1.1 (rw x.1.2 x.2) in rw (← x.1.3) f
