-- Products that are spelled are read.
use Rattle.std.proofs.Common.{◌≡◌, ℕ, ◌+◌, ◌-◌, ◌<◌, ◌≤◌, true, false, not, ◌||◌, nat_le, length, List, [], ◌∷◌, Option, Some, None, Ok, refl, ◌∙◌, arith}
use Rattle.std.proofs.lemmas.Bool.{ltb-true, le-leb}
use Rattle.tla_lex.specs.SameKind.{same_kind}
use Rattle.tla_lex.specs.declared.token.Place.{Place}
use Rattle.tla_lex.specs.declared.token.Token.{Token}
use Rattle.tla_lex.specs.declared.token.Kind.{Kind}
use Rattle.tla_lex.specs.declared.token.Kind.TheVariants as k
use Rattle.tla_grammar.specs.declared.context.Context.{Context}
use Rattle.tla_grammar.specs.declared.tokens.Between.TheVariants as between
use Rattle.tla_tree.specs.declared.tree.Infix.TheVariants as i
use Rattle.tla_tree.specs.Tree.{Tree, Trees, none, more, Product}
use Rattle.tla_grammar.specs.Operators.{low, high, infix_of}
use Rattle.tla_tree.specs.Places.{place}
use Rattle.tla_grammar.specs.Edges.{yields, edge_allows, top_above, depth, depths}
use Rattle.tla_grammar.specs.Tokens.{seen, is_suffix, Has}
use Rattle.tla_grammar.specs.Kinds.{kind_at}
use Rattle.tla_grammar.specs.Ending.{allows, may_end}
use Rattle.tla_grammar.specs.Grammar.{Spells, Factors}
use Rattle.tla_grammar.specs.Marks.{following}
use Rattle.tla_expressions.specs.Reading.{factor, factors, product, turn, expr}
use Rattle.tla_grammar.proofs.Inversion.{and_true}
use Rattle.tla_expressions.proofs.Sequence.{Behind, sequence_complete}
use Rattle.tla_expressions.proofs.Steps.{climb_more}
use Rattle.tla_expressions.proofs.Lists.{list, trees_list}
use Rattle.tla_expressions.proofs.Follow.{yields_low, end_mono, stop_by, end_infix, sees_infix}
use Rattle.tla_expressions.proofs.Shapes.{spine, spine_depth, left_top, advances, factors_fit}
use Rattle.tla_expressions.proofs.Comes.{Fits, Stops, Comes, AllCome, finish}
use Rattle.tla_expressions.proofs.CompleteLists.{length_list}

-- a tree that may not stand left of `\X` is followed by none
no_product_by : (t : Tree) (kind : Kind) → edge_allows t i.Product ≡ false → allows t (infix_of kind) ≡ true → same_kind k.Product kind ≡ false
no_product_by t k.Product e h = cc
no_product_by t _ e h = refl

no_product : (t : Tree) (o : Option Token) → edge_allows t i.Product ≡ false → may_end t o ≡ true → kind_at k.Product o ≡ false
no_product t None e h = refl
no_product t (Some u) e h = no_product_by t u.kind e (and_true (not (is_suffix u.kind)) (allows t (infix_of u.kind)) h).1

module _ (text : List ℕ) (ts : List Token) where
  -- what follows is no `\X`, or one that the tree may stand left of
  abbrev Passes : Context → Tree → ℕ → Type 0
  Passes s e at = (not (kind_at k.Product (seen ts s.column at)) || edge_allows e i.Product) ≡ true

  abbrev FactorRead : ℕ → Context → Tree → ℕ → ℕ → Type 0
  FactorRead n s e from to = (factor text ts (expr text ts n) s from ≡ Ok (e, to)) × (from < to)

  factor_read : (e : Tree) → Comes text ts e → (n : ℕ) (s : Context) (from to : ℕ) → Spells text ts s e from to → top_above (high i.Product) e ≡ true → Fits text ts s e to → Stops text ts s (high i.Product) to
      → Passes s e to → depth e ≤ n → FactorRead n s e from to
  unfolding factor
  factor_read e h n s from to x top f z p d =
      let r = finish text ts e h n s (high i.Product) from to x f top d z in
      (rw (r, p) refl, advances text ts e s from to x)

  -- before the next `\X`
  inner_read : (e : Tree) → Comes text ts e → (n : ℕ) (s : Context) (from to : ℕ) → Spells text ts s e from to → top_above (high i.Product) e ≡ true → edge_allows e i.Product ≡ true → Has ts s.column k.Product to → depth e ≤ n
      → FactorRead n s e from to
  inner_read e h n s from to x top edge has d =
      let is_op : infix_of has.0.kind ≡ Some i.Product = rw has.2 refl in
      let f = end_infix e ts s.column to has.0 i.Product has.1 is_op edge in
      let z : Stops text ts s (high i.Product) to = rw (has.1, has.2) refl in
      let p : Passes s e to = rw (has.1, has.2, edge) refl in
      factor_read e h n s from to x top f z p d

  -- the last one, where the whole product may end
  last_read : (p : Place) (first e : Tree) → Comes text ts e → (n : ℕ) (s : Context) (from to : ℕ) → Spells text ts s e from to → top_above (high i.Product) e ≡ true → Fits text ts s (Product p first (more e none)) to → depth e ≤ n
      → FactorRead n s e from to
  last_read p first e h n s from to x top f d =
      let whole = Product p first (more e none) in
      let o = seen ts s.column to in
      let fits = end_mono whole e o (λ y w. (and_true (yields i.Product y) (edge_allows e y) w).1) f in
      let stops = stop_by whole (high i.Product) o (λ y w. let g = yields_low i.Product y (and_true (yields i.Product y) (edge_allows e y) w).0 in omega (arith, g)) f in
      let none_next : kind_at k.Product o ≡ false = no_product whole o refl f in
      let p : Passes s e to = rw none_next refl in
      factor_read e h n s from to x top fits stops p d

  factors_read : (es : Trees) → AllCome text ts es → (p : Place) (first : Tree) (n : ℕ) (s : Context) (from to : ℕ) → Factors text ts s es from to → Fits text ts s (Product p first es) to → depths es ≤ n
      → Behind (FactorRead n s) (following ts s.column between.Product) (list es) from to
  factors_read none h p first n s from to x f d =
      let f' : Fits text ts s (Product p first none) from = rw (← x) f in
      let none_next : kind_at k.Product (seen ts s.column from) ≡ false = no_product (Product p first none) (seen ts s.column from) refl f' in
      (rw none_next refl, x)
  factors_read (more e none) h p first n s from to x f d =
      let f' : Fits text ts s (Product p first (more e none)) x.0 = rw (← x.5) f in
      let r = last_read p first e h.0 n s (from + 1) x.0 x.2 x.3 f' (omega (arith, d)) in
      let g = end_mono (Product p first (more e none)) (Product p first none) (seen ts s.column to) (λ y w. let v = (and_true (yields i.Product y) (edge_allows e y) w).0 in rw v refl) f in
      (from + 1, x.0, rw (x.1.1, x.1.2) refl, r, factors_read none tt p first n s x.0 to x.5 g (omega arith))
  factors_read (more e (more e' es)) h p first n s from to x f d =
      let r = inner_read e h.0 n s (from + 1) x.0 x.2 x.3 x.4 x.5.1 (omega (arith, d)) in
      let g = end_mono (Product p first (more e (more e' es))) (Product p first (more e' es)) (seen ts s.column to) (λ y w. w) f in
      (from + 1, x.0, rw (x.1.1, x.1.2) refl, r, factors_read (more e' es) h.1 p first n s x.0 to x.5 g (omega (arith, d)))

  factors_complete : (e : Tree) (es : Trees) → AllCome text ts (more e es) → (p : Place) (first : Tree) (n : ℕ) (s : Context) (from to : ℕ) → Factors text ts s (more e es) from to
      → Behind (FactorRead n s) (following ts s.column between.Product) (e ∷ list es) from to
      → factors text ts (expr text ts n) (length ts) [] s (from + 1) ≡ Ok (e ∷ list es, to)
  factors_complete e es h p first n s from to x b =
      let here : following ts s.column between.Product from ≡ Some (from + 1) = rw (x.1.1, x.1.2) refl in
      let same : from + 1 ≡ b.0 = cc in
      let fit = factors_fit text ts (more e es) s from to x in
      let l = length_list es in
      let y : FactorRead n s e (from + 1) b.1 = rw same b.3 in
      sequence_complete (FactorRead n s) (following ts s.column between.Product) (factor text ts (expr text ts n) s) (λ u v w z. z.0) (e ∷ list es) (length ts) [] (from + 1) to (b.1, y, b.4) (omega (arith, fit, l))

  pub product_comes : (p : Place) (e : Tree) (es : Trees) → Comes text ts e → AllCome text ts es → Comes text ts (Product p e es)
  unfolding turn product
  product_comes p e none he hes n s floor from to x f a d = absurd (let v = x.4 in let z : ⊥ = cc in z)
  product_comes p e (more e' es) he hes n s floor from to x f a d =
      let has = x.2.1 in
      let is_op : infix_of has.0.kind ≡ Some i.Product = rw has.2 refl in
      let above_floor = ltb-true floor (low i.Product) a in
      let rl = he n s floor from x.0 x.1 (end_infix e ts s.column x.0 has.0 i.Product has.1 is_op x.3) (left_top floor e i.Product x.3 above_floor) (omega (arith, d)) in
      let b = factors_read (more e' es) hes p e n s x.0 to x.2 f (omega (arith, d)) in
      let r = factors_complete e' es hes p e n s x.0 to x.2 b in
      let t = trees_list es in
      let room : nat_le (depth (Product (place e) e (more e' es))) (n + 1) ≡ true = le-leb _ _ (omega (arith, d)) in
      let q : turn text ts (expr text ts n) (n + 1) s e i.Product x.0 ≡ Ok (Product (place e) e (more e' es), to) = rw (x.3, r, t, room) refl in
      let m : n - spine e ≡ (n - (spine e + 1)) + 1 = (let y = spine_depth e in omega (arith, d, y)) in
      rl ∙ climb_more text ts (expr text ts n) (n - spine e) (n - (spine e + 1)) (n + 1) s floor e x.0 i.Product (Product (place e) e (more e' es)) to m (sees_infix ts s.column floor x.0 has.0 i.Product has.1 is_op above_floor) q ∙ rw x.5 refl
