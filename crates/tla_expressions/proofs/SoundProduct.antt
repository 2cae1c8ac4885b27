-- Products that are read are spelled so.
use Rattle.std.proofs.Common.{◌≡◌, ℕ, ◌+◌, true, not, ◌||◌, nat_lt, nat_le, length, List, [], ◌∷◌, Some, Ok, refl}
use Rattle.tla_lex.specs.declared.token.Token.{Token}
use Rattle.tla_lex.specs.declared.token.Kind.{Kind}
use Rattle.tla_lex.specs.declared.token.Kind.TheVariants as k
use Rattle.tla_grammar.specs.declared.context.Context.{Context}
use Rattle.tla_grammar.specs.declared.tokens.Between.TheVariants as between
use Rattle.tla_tree.specs.declared.tree.Infix.{Infix}
use Rattle.tla_tree.specs.declared.tree.Infix.TheVariants as i
use Rattle.tla_tree.specs.Tree.{Tree, trees, Product}
use Rattle.tla_grammar.specs.Operators.{low, high, is_product, infix_of}
use Rattle.tla_tree.specs.Places.{place}
use Rattle.tla_grammar.specs.Edges.{edge_allows, top_above, depth}
use Rattle.tla_grammar.specs.Tokens.{seen, Has}
use Rattle.tla_grammar.specs.Kinds.{kind_at}
use Rattle.tla_grammar.specs.Grammar.{Spells, Factors, is_some}
use Rattle.tla_grammar.specs.Outcome.{Outcome}
use Rattle.tla_grammar.specs.Marks.{following}
use Rattle.tla_expressions.specs.Reading.{factor, factors, product}
use Rattle.tla_grammar.proofs.Inversion.{ok_to, bind_ok, need_ok, room_ok}
use Rattle.tla_expressions.proofs.Sequence.{Behind, Follows, sequence_sound}
use Rattle.tla_expressions.proofs.Lists.{product_is}
use Rattle.tla_expressions.proofs.SoundParts.{Good}

pub product_op : (op : Infix) → is_product op ≡ true → op ≡ i.Product
product_op i.Product h = refl
product_op _ h = cc

pub product_kind : (kind : Kind) → infix_of kind ≡ Some i.Product → kind ≡ k.Product
product_kind k.Product h = refl
product_kind _ h = cc

module _ (text : List ℕ) (ts : List Token) where
  -- an operand after the first, and what may follow it
  abbrev FactorAt : Context → Tree → ℕ → ℕ → Type 0
  FactorAt s e from to = Spells text ts s e from to × (top_above (high i.Product) e ≡ true) × ((not (kind_at k.Product (seen ts s.column to)) || edge_allows e i.Product) ≡ true)

  abbrev Rest : Context → List Tree → ℕ → ℕ → Type 0
  Rest s es from to = Behind (FactorAt s) (following ts s.column between.Product) es from to

  last_ok : (es : List Tree) (e : Tree) (s : Context) (from to : ℕ) → Rest s es from to → (not (kind_at k.Product (seen ts s.column from)) || edge_allows e i.Product) ≡ true → (not (is_some (trees es)) || edge_allows e i.Product) ≡ true
  last_ok [] e s from to x h = refl
  last_ok (f ∷ fs) e s from to x h =
      let c = product_is text ts s.column from x.0 x.2 in
      let here : kind_at k.Product (seen ts s.column from) ≡ true = rw (c.0.1, c.0.2) refl in
      rw here at h

  rest_of : (es : List Tree) (s : Context) (from to : ℕ) → Rest s es from to → Factors text ts s (trees es) from to
  rest_of [] s from to x = x.1
  rest_of (e ∷ es) s from to x =
      let c = product_is text ts s.column from x.0 x.2 in
      let y : FactorAt s e (from + 1) x.1 = rw (← c.1) x.3 in
      (x.1, c.0, y.0, y.1, last_ok es e s x.1 to x.4 y.2, rest_of es s x.1 to x.4)

  factors_of : (es : List Tree) (s : Context) (at to : ℕ) → Has ts s.column k.Product at → Follows (FactorAt s) (following ts s.column between.Product) es (at + 1) to
      → Factors text ts s (trees es) at to × (is_some (trees es) ≡ true)
  factors_of [] s at to h x = absurd x
  factors_of (e ∷ es) s at to h x = let y = x.1 in ((x.0, h, y.0, y.1, last_ok es e s x.0 to x.2 y.2, rest_of es s x.0 to x.2), refl)

  module _ (inner : Context → ℕ → ℕ → Outcome Tree) (good : (s : Context) (floor at : ℕ) (z : Tree × ℕ) → inner s floor at ≡ Ok z → Good text ts s floor at z) where
    factor_sound : (s : Context) (at : ℕ) (e : Tree) (to : ℕ) → factor text ts inner s at ≡ Ok (e, to) → FactorAt s e at to
    unfolding factor
    factor_sound s at e to h =
        let x = bind_ok (inner s (high i.Product) at) _ (e, to) h in
        let n = need_ok (not (kind_at k.Product (seen ts s.column x.1)) || edge_allows x.0 i.Product) _ (e, to) x.3 in
        let g = good s (high i.Product) at (x.0, x.1) x.2 in
        ok_to (x.0, x.1) (e, to) n.1 (λ v. FactorAt s v.0 at v.1) (g.0, g.1, n.0)

    pub product_sound : (most : ℕ) (s : Context) (floor from : ℕ) (t : Tree) (at : ℕ) (z : Tree × ℕ) → Spells text ts s t from at → Has ts s.column k.Product at → nat_lt floor (low i.Product) ≡ true
        → product text ts inner most s t at ≡ Ok z → Good text ts s floor from z
    unfolding product
    product_sound most s floor from t at z c has f h =
        let n = need_ok (edge_allows t i.Product) _ z h in
        let x = bind_ok (factors text ts inner (length ts) [] s (at + 1)) _ z n.1 in
        let r = room_ok (nat_le (depth (Product (place t) t (trees x.0))) most) _ z x.3 in
        let q = sequence_sound (FactorAt s) (following ts s.column between.Product) (factor text ts inner s) (factor_sound s) (length ts) [] (at + 1) (x.0, x.1) x.2 in
        let l = factors_of q.0 s at x.1 has q.2 in
        ok_to (Product (place t) t (trees x.0), x.1) z r.1 (Good text ts s floor from) ((at, c, rw q.1 l.0, n.0, rw q.1 l.1, refl), f)
