-- Lists that are spelled are read.
use Rattle.std.proofs.Common.{◌≡◌, ℕ, ◌+◌, ◌<◌, ◌≤◌, true, false, slice_get, length, List, [], ◌∷◌, None, Ok, refl, arith}
use Rattle.tla_lex.specs.SameKind.{same_kind}
use Rattle.tla_lex.specs.declared.token.Place.{Place}
use Rattle.tla_lex.specs.declared.token.Token.{Token}
use Rattle.tla_lex.specs.declared.token.Kind.{Kind}
use Rattle.tla_lex.specs.declared.token.Kind.TheVariants as k
use Rattle.tla_grammar.specs.declared.context.Context.{Context}
use Rattle.tla_grammar.specs.declared.tokens.Between.TheVariants as between
use Rattle.tla_tree.specs.declared.tree.Bullet.{Bullet}
use Rattle.tla_tree.specs.declared.tree.Brackets.{Brackets}
use Rattle.tla_tree.specs.declared.tree.Brackets.TheVariants as br
use Rattle.tla_tree.specs.Tree.{Tree, Trees, Pattern, Binders, Group, none, more, unbound, bound, Listing, If}
use Rattle.tla_tree.specs.Places.{place}
use Rattle.tla_grammar.specs.Edges.{depth, depths, bound_depth}
use Rattle.tla_grammar.specs.Tokens.{seen, goes_on, is_bullet_at, may_follow, Has}
use Rattle.tla_grammar.specs.Entries.{is_single, Entry}
use Rattle.tla_grammar.specs.Kinds.{kind_at, closing}
use Rattle.tla_grammar.specs.Grammar.{Spells, Items, Listed, Others, Bound, MoreBound, is_some}
use Rattle.tla_grammar.specs.Marks.{following}
use Rattle.tla_expressions.specs.ReadingLists.{exprs, some, listing, set_behind, group, one_group, groups}
use Rattle.tla_expressions.specs.Reading.{expr}
use Rattle.tla_expressions.proofs.Sequence.{Behind, Follows, follows_fit, sequence_complete}
use Rattle.tla_expressions.proofs.NameLists.{seen_within}
use Rattle.tla_expressions.proofs.Tuples.{pattern_rise, pattern_complete, single_complete}
use Rattle.tla_expressions.proofs.Lists.{list, trees_list, group_list, comma_here, rises}
use Rattle.tla_expressions.proofs.Follow.{stop_by, end_follow, hidden_bullet}
use Rattle.tla_expressions.proofs.Shapes.{top_zero, advances, count, items_fit}
use Rattle.tla_expressions.proofs.First.{first_token, not_closing}
use Rattle.tla_expressions.proofs.Comes.{Fits, Stops, Comes, AllCome, AllBound, ReadAt, finish, before_plain}

-- a kind that ends a list
pub record Ends (kind : Kind) : Type 0 where
  pub plain : goes_on kind ≡ false
  pub no_comma : same_kind k.Comma kind ≡ false
  pub same : same_kind kind kind ≡ true

pub paren_ends : Ends k.RightParen
paren_ends = record { plain = refl; no_comma = refl; same = refl }

pub bracket_ends : Ends k.RightBracket
bracket_ends = record { plain = refl; no_comma = refl; same = refl }

pub colon_ends : Ends k.Colon
colon_ends = record { plain = refl; no_comma = refl; same = refl }

pub closing_ends : (b : Brackets) → Ends (closing b)
closing_ends br.Set = record { plain = refl; no_comma = refl; same = refl }
closing_ends br.Tuple = record { plain = refl; no_comma = refl; same = refl }

pub length_list : (es : Trees) → length (list es) ≡ count es
length_list none = refl
length_list (more e es) = let h = length_list es in omega (arith, h)

module _ (text : List ℕ) (ts : List Token) where
  pub no_more : (column at : ℕ) (kind : Kind) → Has ts column kind at → Ends kind → following ts column between.Comma at ≡ None
  no_more column at kind h e = let n = e.no_comma in rw (h.1, h.2, n) refl

  -- ---- expressions

  pub others_next : (es : Trees) (s : Context) (close : Kind) (from to : ℕ) → Ends close → Others text ts s close es from to → (kind : Kind) × Has ts s.column kind from × (goes_on kind ≡ false)
  others_next none s close from to p x = (close, x.0, p.plain)
  others_next (more e es) s close from to p x = (k.Comma, x.1, refl)

  pub others_read : (es : Trees) → AllCome text ts es → (n : ℕ) (s : Context) (close : Kind) (from to : ℕ) → Ends close → Others text ts s close es from to → depths es ≤ n
      → (mid : ℕ) × Behind (ReadAt text ts n s) (following ts s.column between.Comma) (list es) from mid × Has ts s.column close mid × (to ≡ mid + 1)
  others_read none h n s close from to p x d = (from, (no_more s.column from close x.0 p, refl), x.0, x.1)
  others_read (more e es) h n s close from to p x d =
      let y = others_next es s close x.0 to p x.3 in
      let r = before_plain text ts e h.0 n s (from + 1) x.0 y.0 x.2 y.1 y.2 (omega (arith, d)) in
      let q = others_read es h.1 n s close x.0 to p x.3 (omega (arith, d)) in
      (q.0, (from + 1, x.0, comma_here text ts s.column from x.1, r, q.1), q.2, q.3)

  some_by : (es : Trees) (n : ℕ) (s : Context) (close : Kind) (from mid to : ℕ) → Ends close → exprs text ts (expr text ts n) (length ts) [] s between.Comma from ≡ Ok (list es, mid) → Has ts s.column close mid → to ≡ mid + 1
      → some text ts (expr text ts n) s close from ≡ Ok (es, to)
  unfolding some
  some_by es n s close from mid to p c h e = let same = p.same in rw (c, h.1, h.2, same, trees_list es, e) refl

  pub some_complete : (es : Trees) → AllCome text ts es → (n : ℕ) (s : Context) (close : Kind) (from to : ℕ) → Ends close → Listed text ts s close es from to → is_some es ≡ true → depths es ≤ n
      → some text ts (expr text ts n) s close from ≡ Ok (es, to)
  some_complete none h n s close from to p x i d = absurd (let z : ⊥ = cc in z)
  some_complete (more e es) h n s close from to p x i d =
      let y = others_next es s close x.0 to p x.2 in
      let r = before_plain text ts e h.0 n s from x.0 y.0 x.1 y.1 y.2 (omega (arith, d)) in
      let q = others_read es h.1 n s close x.0 to p x.2 (omega (arith, d)) in
      let f : Follows (ReadAt text ts n s) (following ts s.column between.Comma) (e ∷ list es) from q.0 = (x.0, r, q.1) in
      let fit = follows_fit (ReadAt text ts n s) (following ts s.column between.Comma) (λ u a b y. y.1) (rises text ts s.column between.Comma) (e ∷ list es) from q.0 f in
      let w = seen_within text ts s.column q.0 q.2.0 q.2.1 in
      let c = sequence_complete (ReadAt text ts n s) (following ts s.column between.Comma) (expr text ts n s 0) (λ u a b y. y.0) (e ∷ list es) (length ts) [] from q.0 f (omega (arith, fit, w)) in
      some_by (more e es) n s close from q.0 to p c q.2 q.3

  pub listing_complete : (es : Trees) → AllCome text ts es → (n : ℕ) (s : Context) (p : Place) (b : Brackets) (from to : ℕ) → Listed text ts s (closing b) es (from + 1) to → depths es ≤ n
      → listing text ts (expr text ts n) s p b from ≡ Ok (Listing p b es, to)
  unfolding listing
  listing_complete none h n s p b from to x d =
      let same = (closing_ends b).same in
      let e : to ≡ from + 2 = omega (arith, x.1) in
      rw (x.0.1, x.0.2, same, e) refl
  listing_complete (more e es) h n s p b from to x d =
      let f = first_token text ts e s (from + 1) x.0 x.1 in
      let c = not_closing b f.0.kind f.2 in
      let r = some_complete (more e es) h n s (closing b) (from + 1) to (closing_ends b) x refl d in
      rw (f.1, c, r) refl

  -- ---- binder lists

  abbrev GroupRead : ℕ → Context → Group → ℕ → ℕ → Type 0
  GroupRead n s g from to = (group text ts (expr text ts n) s from ≡ Ok (g, to)) × (from < to)

  group_read : (w : Pattern) (e : Tree) → Comes text ts e → (n : ℕ) (s : Context) (from to : ℕ) (kind : Kind) → Entry text ts s.column w (Spells text ts s e) from to → Has ts s.column kind to → goes_on kind ≡ false → depth e ≤ n → GroupRead n s (w, e) from to
  unfolding group set_behind
  group_read w e h n s from to kind x has plain d =
      let r = before_plain text ts e h n s (x.0 + 1) to kind x.3 has plain d in
      let no_comma : kind_at k.Comma (seen ts s.column x.0) ≡ false = rw (x.2.1, x.2.2) refl in
      let c = pattern_complete text ts w s.column from x.0 x.1 no_comma in
      let fit = pattern_rise text ts w s.column from x.0 x.1 in
      let up = r.1 in
      (rw (c, x.2.1, x.2.2, r.0) refl, omega (arith, fit, up))

  -- an entry of one element
  pub one_group_read : (w : Pattern) (e : Tree) → Comes text ts e → (n : ℕ) (s : Context) (from to : ℕ) (kind : Kind) → is_single w ≡ true → Entry text ts s.column w (Spells text ts s e) from to → Has ts s.column kind to → goes_on kind ≡ false → depth e ≤ n
      → one_group text ts (expr text ts n) s from ≡ Ok ((w, e), to)
  unfolding one_group set_behind
  one_group_read w e h n s from to kind i x has plain d =
      let r = before_plain text ts e h n s (x.0 + 1) to kind x.3 has plain d in
      let c = single_complete text ts w s.column from x.0 i x.1 in
      rw (c, x.2.1, x.2.2, r.0) refl

  bound_next : (bs : Binders) (s : Context) (from to : ℕ) (kind : Kind) → Ends kind → Has ts s.column kind to → MoreBound text ts s bs from to → (next : Kind) × Has ts s.column next from × (goes_on next ≡ false)
  bound_next unbound s from to kind p h x = (kind, rw (← x) h, p.plain)
  bound_next (bound w e bs) s from to kind p h x = (k.Comma, x.1, refl)

  more_bound_read : (bs : Binders) → AllBound text ts bs → (n : ℕ) (s : Context) (from to : ℕ) (kind : Kind) → Ends kind → Has ts s.column kind to → MoreBound text ts s bs from to → bound_depth bs ≤ n
      → Behind (GroupRead n s) (following ts s.column between.Comma) (group_list bs) from to
  more_bound_read unbound h n s from to kind p has x d = (no_more s.column from kind (rw (← x) has) p, x)
  more_bound_read (bound w e bs) h n s from to kind p has x d =
      let y = bound_next bs s x.0 to kind p has x.3 in
      (from + 1, x.0, comma_here text ts s.column from x.1, group_read w e h.0 n s (from + 1) x.0 y.0 x.2 y.1 y.2 (omega (arith, d)), more_bound_read bs h.1 n s x.0 to kind p has x.3 (omega (arith, d)))

  pub bound_complete : (bs : Binders) → AllBound text ts bs → (n : ℕ) (s : Context) (from to : ℕ) (kind : Kind) → Ends kind → Has ts s.column kind to → Bound text ts s bs from to → bound_depth bs ≤ n
      → groups text ts (expr text ts n) (length ts) [] s from ≡ Ok (group_list bs, to)
  bound_complete unbound h n s from to kind p has x d = absurd x
  bound_complete (bound w e bs) h n s from to kind p has x d =
      let y = bound_next bs s x.0 to kind p has x.2 in
      let r = group_read w e h.0 n s from x.0 y.0 x.1 y.1 y.2 (omega (arith, d)) in
      let f : Follows (GroupRead n s) (following ts s.column between.Comma) ((w, e) ∷ group_list bs) from to = (x.0, r, more_bound_read bs h.1 n s x.0 to kind p has x.2 (omega (arith, d))) in
      let fit = follows_fit (GroupRead n s) (following ts s.column between.Comma) (λ u a b y. y.1) (rises text ts s.column between.Comma) ((w, e) ∷ group_list bs) from to f in
      let up = seen_within text ts s.column to has.0 has.1 in
      sequence_complete (GroupRead n s) (following ts s.column between.Comma) (group text ts (expr text ts n) s) (λ u a b y. y.0) ((w, e) ∷ group_list bs) (length ts) [] from to f (omega (arith, fit, up))

  -- ---- junction lists

  item_fits : (es : Trees) (s : Context) (b : Bullet) (from to : ℕ) → Items text ts s b es from to → may_follow s.column (slice_get ts to) ≡ true → (e : Tree) → Fits text ts s e from × Stops text ts s 0 from
  item_fits none s b from to x f e =
      let f' : may_follow s.column (slice_get ts from) ≡ true = rw (← x) f in
      let open_form = If (place e) e e e in
      (end_follow e s.column (slice_get ts from) f', stop_by open_form 0 (seen ts s.column from) (λ y w. absurd (let z : ⊥ = cc in z)) (end_follow open_form s.column (slice_get ts from) f'))
  item_fits (more e' es) s b from to x f e =
      let hidden = hidden_bullet s.column b (slice_get ts from) x.1 in
      (rw hidden refl, rw hidden refl)

  items_read : (es : Trees) → AllCome text ts es → (n : ℕ) (s : Context) (b : Bullet) (from to : ℕ) → Items text ts s b es from to → depths es ≤ n
      → is_bullet_at s.column b (slice_get ts to) ≡ false → may_follow s.column (slice_get ts to) ≡ true
      → Behind (ReadAt text ts n s) (following ts s.column (between.Bullet b)) (list es) from to
  items_read none h n s b from to x d last f = let last' : is_bullet_at s.column b (slice_get ts from) ≡ false = rw (← x) last in (rw last' refl, x)
  items_read (more e es) h n s b from to x d last f =
      let y = item_fits es s b x.0 to x.3 f e in
      let bullet : is_bullet_at s.column b (slice_get ts from) ≡ true = x.1 in
      let r = finish text ts e h.0 n s 0 (from + 1) x.0 x.2 y.0 (top_zero e) (omega (arith, d)) y.1 in
      (from + 1, x.0, rw bullet refl, (r, advances text ts e s (from + 1) x.0 x.2), items_read es h.1 n s b x.0 to x.3 (omega (arith, d)) last f)

  pub items_complete : (es : Trees) → AllCome text ts es → (n : ℕ) (s : Context) (b : Bullet) (from to : ℕ) → Items text ts s b es from to → 0 < count es → depths es ≤ n
      → is_bullet_at s.column b (slice_get ts to) ≡ false → may_follow s.column (slice_get ts to) ≡ true
      → exprs text ts (expr text ts n) (length ts) [] s (between.Bullet b) (from + 1) ≡ Ok (list es, to)
  items_complete none h n s b from to x c d last f = absurd (omega (arith, c))
  items_complete (more e es) h n s b from to x c d last f =
      let y = item_fits es s b x.0 to x.3 f e in
      let r = finish text ts e h.0 n s 0 (from + 1) x.0 x.2 y.0 (top_zero e) (omega (arith, d)) y.1 in
      let q = items_read es h.1 n s b x.0 to x.3 (omega (arith, d)) last f in
      let fit = items_fit text ts (more e es) s b from to x in
      let l = length_list es in
      sequence_complete (ReadAt text ts n s) (following ts s.column (between.Bullet b)) (expr text ts n s 0) (λ u a b y. y.0) (e ∷ list es) (length ts) [] (from + 1) to (x.0, (r, advances text ts e s (from + 1) x.0 x.2), q) (omega (arith, fit, l))
