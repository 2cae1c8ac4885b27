-- What the token that ends a part says of the form.
use Rattle.std.proofs.Common.{◌≡◌, ℕ, ◌+◌, Bool, true, false, ◌&&◌, ◌||◌, ◌⊎◌, inl, inr, List, [], ◌∷◌, Option, Some, None, drop, refl, sym, ◌∙◌}
use Rattle.tla_lex.specs.SameKind.{same_kind}
use Rattle.tla_lex.specs.declared.token.Token.{Token}
use Rattle.tla_lex.specs.declared.token.Kind.{Kind}
use Rattle.tla_lex.specs.declared.token.Kind.TheVariants as k
use Rattle.tla_grammar.specs.declared.context.Context.{Context}
use Rattle.tla_grammar.specs.declared.ahead.Opened.TheVariants as opened
use Rattle.tla_tree.specs.Tree.{Tree, Pattern, Each, Tuple, Binders, unbound, bound}
use Rattle.tla_grammar.specs.Tokens.{seen, Has}
use Rattle.tla_grammar.specs.Kinds.{kind_at, role_of}
use Rattle.tla_grammar.specs.Entries.{is_single, Binds, Entry}
use Rattle.tla_grammar.specs.Grammar.{Spells, Bound, MoreBound}
use Rattle.tla_grammar.specs.Ahead.{behind, binds, filters, maps, ending, opened_by}
use Rattle.tla_grammar.proofs.Inversion.{seen_is}
use Rattle.tla_expressions.proofs.First.{second_token}
use Rattle.tla_grammar.proofs.Roles.{drop_get}
use Rattle.tla_expressions.proofs.Passes.{passes, plain, single_passes}
use Rattle.tla_expressions.proofs.Tuples.{binds_sound, binds_complete}

no_and : (b c : Bool) → c ≡ false → (b && c) ≡ false
no_and true c h = h
no_and false c h = refl

module _ (text : List ℕ) (ts : List Token) where
  -- a token that ends the part
  stop : (column at : ℕ) (kind : Kind) → (x : Has ts column kind at) → behind 0 0 (role_of kind) ≡ None → ending 0 0 (drop at ts) ≡ Some x.0
  unfolding ending
  stop column at kind x h = let e : behind 0 0 (role_of x.0.kind) ≡ None = rw x.2 h in rw (drop_get ts at x.0 (seen_is ts column at x.0 x.1), e) refl

  -- what ends the part that an expression begins, after an entry of one element and `\in`
  behind_member : (w : Pattern) (column from m : ℕ) → is_single w ≡ true → Binds text ts column w from m → Has ts column k.Member m → ending 0 0 (drop from ts) ≡ ending 0 0 (drop (m + 1) ts)
  behind_member w column from m h x y = single_passes text ts w column from m h x 0 0 ∙ plain text ts column m k.Member y refl 0 0

  -- the part ends with the token that ends the expression
  pub no_filter : (e : Tree) (s : Context) (from to : ℕ) (kind : Kind) → Spells text ts s e from to → Has ts s.column kind to → behind 0 0 (role_of kind) ≡ None → same_kind k.Colon kind ≡ false → filters ts s.column from ≡ false
  no_filter e s from to kind x h r c = by (binds ts s.column from) refl
    where
      by : (o : Option ℕ) → binds ts s.column from ≡ o → filters ts s.column from ≡ false
      by None w = rw w refl
      by (Some m) w =
          let y = binds_sound text ts s.column from m w in
          let a = sym (behind_member y.0 s.column from m y.1 y.2 y.3) ∙ passes text ts e s from to x 0 0 ∙ stop s.column to kind h r in
          let no : kind_at k.Colon (ending 0 0 (drop (m + 1) ts)) ≡ false = rw (a, h.2, c) refl in
          rw (w, no) refl

  pub is_filter : (w : Pattern) (e : Tree) (s : Context) (from to : ℕ) → is_single w ≡ true → Entry text ts s.column w (Spells text ts s e) from to → Has ts s.column k.Colon to → filters ts s.column from ≡ true
  is_filter w e s from to h x c =
      let b = binds_complete text ts w s.column from x.0 h x.1 x.2 in
      let a = passes text ts e s (x.0 + 1) to x.3 0 0 ∙ stop s.column to k.Colon c refl in
      rw (b, a, c.2) refl

  -- no `|->` and no comma ends the part
  pub no_map : (e : Tree) (s : Context) (from to : ℕ) → Spells text ts s e from to → kind_at k.MapsTo (ending 0 0 (drop to ts)) ≡ false → kind_at k.Comma (ending 0 0 (drop to ts)) ≡ false → maps ts s.column from ≡ false
  no_map e s from to x a b = by (binds ts s.column from) refl
    where
      by : (o : Option ℕ) → binds ts s.column from ≡ o → maps ts s.column from ≡ false
      by None w = rw w refl
      by (Some m) w =
          let y = binds_sound text ts s.column from m w in
          let p = sym (behind_member y.0 s.column from m y.1 y.2 y.3) ∙ passes text ts e s from to x 0 0 in
          let u : kind_at k.MapsTo (ending 0 0 (drop (m + 1) ts)) ≡ false = rw p a in
          let v : kind_at k.Comma (ending 0 0 (drop (m + 1) ts)) ≡ false = rw p b in
          rw (w, u, v) refl

  -- before these the part ends, or goes on to the bracket
  pub stopped : (s : Context) (at : ℕ) (kind : Kind) → Has ts s.column kind at → behind 0 0 (role_of kind) ≡ None → same_kind k.MapsTo kind ≡ false → same_kind k.Comma kind ≡ false
      → (kind_at k.MapsTo (ending 0 0 (drop at ts)) ≡ false) × (kind_at k.Comma (ending 0 0 (drop at ts)) ≡ false)
  stopped s at kind h r a b = let e = stop s.column at kind h r in (rw (e, h.2, a) refl, rw (e, h.2, b) refl)

  pub arrow_stopped : (e : Tree) (s : Context) (at to : ℕ) → Has ts s.column k.Arrow at → Spells text ts s e (at + 1) to → Has ts s.column k.RightBracket to
      → (kind_at k.MapsTo (ending 0 0 (drop at ts)) ≡ false) × (kind_at k.Comma (ending 0 0 (drop at ts)) ≡ false)
  arrow_stopped e s at to h x c =
      let p = plain text ts s.column at k.Arrow h refl 0 0 ∙ passes text ts e s (at + 1) to x 0 0 in
      let y = stopped s to k.RightBracket c refl refl refl in
      (rw p y.0, rw p y.1)

  -- ---- what a bracket opens

  no_pair_by : (mark kind : Kind) (s : Context) (from to : ℕ) → Has ts s.column kind to → same_kind mark kind ≡ false
      → (kind_at k.Name (seen ts s.column from) ≡ false) ⊎ ((kind_at mark (seen ts s.column (from + 1)) ≡ false) ⊎ (to ≡ from + 1)) → (kind_at k.Name (seen ts s.column from) && kind_at mark (seen ts s.column (from + 1))) ≡ false
  no_pair_by mark kind s from to h c x = elim x [
    | inl a ↦ rw a refl
    | inr a ↦ (elim a [
      | inl b ↦ no_and (kind_at k.Name (seen ts s.column from)) _ b
      | inr e ↦ (let h' : Has ts s.column kind (from + 1) = rw (← e) h in no_and (kind_at k.Name (seen ts s.column from)) _ (rw (h'.1, h'.2, c) refl))
    ])
  ]

  pub opens_expression : (e : Tree) (s : Context) (from to : ℕ) (kind : Kind) → Spells text ts s e from to → Has ts s.column kind to → same_kind k.MapsTo kind ≡ false → same_kind k.Colon kind ≡ false → same_kind k.Comma kind ≡ false
      → (kind_at k.MapsTo (ending 0 0 (drop to ts)) ≡ false) × (kind_at k.Comma (ending 0 0 (drop to ts)) ≡ false) → opened_by ts s.column from ≡ opened.Expression
  opens_expression e s from to kind x h a b c y =
      let p = no_pair_by k.MapsTo kind s from to h a (second_token text ts k.MapsTo refl e s from to x) in
      let q = no_pair_by k.Colon kind s from to h b (second_token text ts k.Colon refl e s from to x) in
      let r = no_pair_by k.Comma kind s from to h c (second_token text ts k.Comma refl e s from to x) in
      let m = no_map e s from to x y.0 y.1 in
      rw (p, q, r, m) refl

  more_ends : (bs : Binders) (s : Context) (from to : ℕ) → MoreBound text ts s bs from to → Has ts s.column k.MapsTo to → (kind_at k.MapsTo (ending 0 0 (drop from ts)) || kind_at k.Comma (ending 0 0 (drop from ts))) ≡ true
  more_ends unbound s from to x h = let h' : Has ts s.column k.MapsTo from = rw (← x) h in let e = stop s.column from k.MapsTo h' refl in rw (e, h'.2) refl
  more_ends (bound w e bs) s from to x h = let e = stop s.column from k.Comma x.1 refl in rw (e, x.1.2) refl

  -- an entry of one element, and then `|->` or a comma
  maps_here : (w : Pattern) (e : Tree) (bs : Binders) (s : Context) (from to : ℕ) → is_single w ≡ true → Bound text ts s (bound w e bs) from to → Has ts s.column k.MapsTo to → maps ts s.column from ≡ true
  maps_here w e bs s from to i x h =
      let z = x.1 in
      let b = binds_complete text ts w s.column from z.0 i z.1 z.2 in
      let p = passes text ts e s (z.0 + 1) x.0 z.3 0 0 in
      let y = more_ends bs s x.0 to x.2 h in
      let q : (kind_at k.MapsTo (ending 0 0 (drop (z.0 + 1) ts)) || kind_at k.Comma (ending 0 0 (drop (z.0 + 1) ts))) ≡ true = rw p y in
      rw (b, q) refl

  pub opens_binders : (bs : Binders) (s : Context) (from to : ℕ) → Bound text ts s bs from to → Has ts s.column k.MapsTo to → opened_by ts s.column from ≡ opened.Binders
  opens_binders unbound s from to x h = absurd x
  opens_binders (bound (Each []) e bs) s from to x h = absurd x.1.1
  opens_binders (bound (Each (w ∷ [])) e bs) s from to x h =
      let z = x.1 in
      let n = z.1.0 in
      let m : Has ts s.column k.Member (from + 1) = rw (← z.1.1) z.2 in
      let y = maps_here (Each (w ∷ [])) e bs s from to refl x h in
      rw (y, n.1, n.2, m.1, m.2) refl
  opens_binders (bound (Each (w ∷ v ∷ ws)) e bs) s from to x h = let n = x.1.1 in rw (n.0.1, n.0.2, n.1.1, n.1.2) refl
  opens_binders (bound (Tuple ws) e bs) s from to x h =
      let n = x.1.1.1 in
      let y = maps_here (Tuple ws) e bs s from to refl x h in
      rw (y, n.1, n.2) refl
