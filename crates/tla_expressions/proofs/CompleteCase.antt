-- CASE, LET and definitions that are spelled are read.
use Rattle.std.proofs.Common.{◌≡◌, ℕ, ◌+◌, ◌<◌, ◌≤◌, true, false, length, List, [], ◌∷◌, None, Ok, refl, ◌∙◌, arith}
use Rattle.tla_lex.specs.declared.token.Token.{Token}
use Rattle.tla_lex.specs.declared.token.Kind.{Kind}
use Rattle.tla_lex.specs.declared.token.Kind.TheVariants as k
use Rattle.tla_grammar.specs.declared.context.Context.{Context}
use Rattle.tla_grammar.specs.declared.tokens.Between.TheVariants as between
use Rattle.tla_tree.specs.Tree.{Tree, Arms, Other, Definition, Definitions, Choice, no_arms, arm, no_other, other, DefinesOperator, DefinesFunction, undefined, defined}
use Rattle.tla_grammar.specs.Edges.{depth, arms_depth, definition_depth, definitions_depth}
use Rattle.tla_grammar.specs.Tokens.{seen, goes_on, Has}
use Rattle.tla_grammar.specs.Kinds.{kind_at}
use Rattle.tla_grammar.specs.Grammar.{Spells, Chosen, MoreChosen, Otherwise, Defines, Defined, is_defined}
use Rattle.tla_grammar.specs.Marks.{following}
use Rattle.tla_expressions.specs.Reading.{arm_at, arms_at, operator, function, defined as read_defined, definition, definitions_at, expr}
use Rattle.tla_expressions.proofs.Sequence.{Behind, Follows, follows_fit, sequence_complete}
use Rattle.tla_expressions.proofs.NameLists.{seen_within, named, names_fit, names_within, names_complete}
use Rattle.tla_expressions.proofs.Lists.{arm_list, definition_list, binders_list, rises}
use Rattle.tla_expressions.proofs.Follow.{not_true, end_plain, stops_plain}
use Rattle.tla_expressions.proofs.Shapes.{top_zero, advances, defines_advance}
use Rattle.tla_expressions.proofs.First.{first_token, not_other}
use Rattle.tla_expressions.proofs.Comes.{Fits, Stops, Comes, AllArms, DefinitionComes, AllDefined, finish, before_plain}
use Rattle.tla_expressions.proofs.CompleteLists.{bracket_ends, bound_complete}

module _ (text : List ℕ) (ts : List Token) where
  -- ---- arms

  -- an expression may end here
  abbrev pub AnyEnds : Context → ℕ → Type 0
  AnyEnds s at = (e : Tree) → Fits text ts s e at × Stops text ts s 0 at

  plain_ends : (s : Context) (at : ℕ) (kind : Kind) → Has ts s.column kind at → goes_on kind ≡ false → AnyEnds s at
  plain_ends s at kind h p e = (end_plain e ts s.column at kind h p, stops_plain ts s.column 0 at kind h p)

  arms_end : (cs : Arms) (o : Other) (s : Context) (from mid to : ℕ) → MoreChosen text ts s cs from mid → Otherwise text ts s o mid to → AnyEnds s to → AnyEnds s from
  arms_end no_arms no_other s from mid to x y f = let e : to ≡ from = y.1 ∙ x in rw (← e) f
  arms_end no_arms (other u) s from mid to x y f = plain_ends s from k.Box (rw (← x) y.0) refl
  arms_end (arm g e cs) o s from mid to x y f = plain_ends s from k.Box x.2 refl

  no_arm : (o : Other) (s : Context) (mid to : ℕ) → Otherwise text ts s o mid to → following ts s.column between.Arm mid ≡ None
  no_arm no_other s mid to y =
      let same = y.1 in
      let none : kind_at k.Box (seen ts s.column mid) ≡ false = rw (← same) (not_true (kind_at k.Box (seen ts s.column to)) y.0) in rw none refl
  no_arm (other u) s mid to y = rw (y.0.1, y.0.2, y.1.1, y.1.2) refl

  abbrev ArmRead : ℕ → Context → Choice → ℕ → ℕ → Type 0
  ArmRead n s c from to = (arm_at text ts (expr text ts n) s from ≡ Ok (c, to)) × (from < to)

  arm_read : (g e : Tree) → Comes text ts g → Comes text ts e → (n : ℕ) (s : Context) (from mid to : ℕ) → Spells text ts s g from mid → Has ts s.column k.Arrow mid → Spells text ts s e (mid + 1) to → AnyEnds s to
      → depth g ≤ n → depth e ≤ n → ArmRead n s (g, e) from to
  unfolding arm_at
  arm_read g e hg he n s from mid to x a y f d d' =
      let rg = before_plain text ts g hg n s from mid k.Arrow x a refl d in
      let z = f e in
      let re = finish text ts e he n s 0 (mid + 1) to y z.0 (top_zero e) d' z.1 in
      let l = advances text ts e s (mid + 1) to y in
      let w = rg.1 in
      (rw (rg.0, a.1, a.2, re) refl, omega (arith, w, l))

  more_chosen_read : (cs : Arms) → AllArms text ts cs → (o : Other) (n : ℕ) (s : Context) (from mid to : ℕ) → MoreChosen text ts s cs from mid → Otherwise text ts s o mid to → AnyEnds s to → arms_depth cs ≤ n
      → Behind (ArmRead n s) (following ts s.column between.Arm) (arm_list cs) from mid
  more_chosen_read no_arms h o n s from mid to x y f d = (rw (← x) (no_arm o s mid to y), x)
  more_chosen_read (arm g e cs) h o n s from mid to x y f d =
      let b = x.2 in
      let t = first_token text ts g s (from + 1) x.0 x.3 in
      let no = not_other t.0.kind t.2 in
      let r = arm_read g e h.0 h.1 n s (from + 1) x.0 x.1 x.3 x.4 x.5 (arms_end cs o s x.1 mid to x.6 y f) (omega (arith, d)) (omega (arith, d)) in
      (from + 1, x.1, rw (b.1, b.2, t.1, no) refl, r, more_chosen_read cs h.2 o n s x.1 mid to x.6 y f (omega (arith, d)))

  chosen_fit : (cs : Arms) (s : Context) (from to : ℕ) → Chosen text ts s cs from to → length (arm_list cs) + from ≤ length ts
  chosen_fit no_arms s from to x = absurd x
  chosen_fit (arm g e no_arms) s from to x =
      let w = seen_within text ts s.column x.0 x.3.0 x.3.1 in
      let l = advances text ts g s from x.0 x.2 in omega (arith, w, l)
  chosen_fit (arm g e (arm g' e' cs)) s from to x =
      let y = x.5 in
      let r = chosen_fit (arm g' e' cs) s (x.1 + 1) to (y.0, y.1, y.3, y.4, y.5, y.6) in
      let l = advances text ts g s from x.0 x.2 in
      let i = advances text ts e s (x.0 + 1) x.1 x.4 in omega (arith, r, l, i)

  pub chosen_complete : (cs : Arms) → AllArms text ts cs → (o : Other) (n : ℕ) (s : Context) (from mid to : ℕ) → Chosen text ts s cs from mid → Otherwise text ts s o mid to → AnyEnds s to → arms_depth cs ≤ n
      → arms_at text ts (expr text ts n) (length ts) [] s from ≡ Ok (arm_list cs, mid)
  chosen_complete no_arms h o n s from mid to x y f d = absurd x
  chosen_complete (arm g e cs) h o n s from mid to x y f d =
      let r = arm_read g e h.0 h.1 n s from x.0 x.1 x.2 x.3 x.4 (arms_end cs o s x.1 mid to x.5 y f) (omega (arith, d)) (omega (arith, d)) in
      let q : Follows (ArmRead n s) (following ts s.column between.Arm) ((g, e) ∷ arm_list cs) from mid = (x.1, r, more_chosen_read cs h.2 o n s x.1 mid to x.5 y f (omega (arith, d))) in
      let fit = chosen_fit (arm g e cs) s from mid x in
      sequence_complete (ArmRead n s) (following ts s.column between.Arm) (arm_at text ts (expr text ts n) s) (λ u a b y. y.0) ((g, e) ∷ arm_list cs) (length ts) [] from mid q (omega (arith, fit))

  -- ---- definitions

  abbrev DefinitionRead : ℕ → Context → Definition → ℕ → ℕ → Type 0
  DefinitionRead n s d from to = (definition text ts (expr text ts n) s from ≡ Ok (d, to)) × (from < to)

  pub definition_read : (d : Definition) → DefinitionComes text ts d → (n : ℕ) (s : Context) (from to : ℕ) (kind : Kind) → Defines text ts s d from to → Has ts s.column kind to → goes_on kind ≡ false → definition_depth d ≤ n
      → DefinitionRead n s d from to
  unfolding definition read_defined operator function
  definition_read (DefinesOperator w [] e) h n s from to kind x has plain d =
      let r = before_plain text ts e h n s (from + 2) to kind x.2 has plain d in
      let name = named text ts s.column from w x.0 in
      let l = r.1 in
      (rw (name, x.1.1, x.1.2, r.0, x.0.3) refl, omega (arith, l))
  definition_read (DefinesOperator w (v ∷ vs) e) h n s from to kind x has plain d =
      let m = x.0 in
      let r = before_plain text ts e h n s (m + 2) to kind x.6 has plain d in
      let name = named text ts s.column from w x.1 in
      let no_comma : kind_at k.Comma (seen ts s.column m) ≡ false = rw (x.4.1, x.4.2) refl in
      let fit = names_fit text ts (v ∷ vs) s.column (from + 2) m x.3 in
      let end = names_within text ts (v ∷ vs) s.column (from + 2) m x.3 in
      let c = names_complete text ts (v ∷ vs) [] s.column (from + 2) m (length ts) x.3 no_comma (omega (arith, fit, end)) in
      let l = r.1 in
      (rw (name, x.2.1, x.2.2, c, x.4.1, x.4.2, x.5.1, x.5.2, r.0, x.1.3) refl, omega (arith, l, fit))
  definition_read (DefinesFunction w bs e) h n s from to kind x has plain d =
      let m = x.0 in
      let r = before_plain text ts e h.1 n s (m + 2) to kind x.6 has plain (omega (arith, d)) in
      let name = named text ts s.column from w x.1 in
      let c = bound_complete text ts bs h.0 n s (from + 2) m k.RightBracket bracket_ends x.4 x.3 (omega (arith, d)) in
      let l = defines_advance text ts (DefinesFunction w bs e) s from to x in
      (rw (name, x.2.1, x.2.2, c, x.4.1, x.4.2, x.5.1, x.5.2, r.0, binders_list bs, x.1.3) refl, l)

  pub defines_name : (d : Definition) (s : Context) (from to : ℕ) → Defines text ts s d from to → Has ts s.column k.Name from
  defines_name (DefinesOperator w [] e) s from to x = (x.0.0, x.0.1, x.0.2)
  defines_name (DefinesOperator w (v ∷ vs) e) s from to x = (x.1.0, x.1.1, x.1.2)
  defines_name (DefinesFunction w bs e) s from to x = (x.1.0, x.1.1, x.1.2)

  defined_next : (ds : Definitions) (s : Context) (from to : ℕ) → Defined text ts s ds from to → Has ts s.column k.In to → (kind : Kind) × Has ts s.column kind from × (goes_on kind ≡ false)
  defined_next undefined s from to x h = (k.In, rw (← x) h, refl)
  defined_next (defined d ds) s from to x h = (k.Name, defines_name d s from x.0 x.1, refl)

  more_defined_read : (ds : Definitions) → AllDefined text ts ds → (n : ℕ) (s : Context) (from to : ℕ) → Defined text ts s ds from to → Has ts s.column k.In to → definitions_depth ds ≤ n
      → Behind (DefinitionRead n s) (following ts s.column between.Nothing) (definition_list ds) from to
  more_defined_read undefined h n s from to x has d = let e : Has ts s.column k.In from = rw (← x) has in (rw (e.1, e.2) refl, x)
  more_defined_read (defined d ds) h n s from to x has l =
      let name = defines_name d s from x.0 x.1 in
      let y = defined_next ds s x.0 to x.2 has in
      (from, x.0, rw (name.1, name.2) refl, definition_read d h.0 n s from x.0 y.0 x.1 y.1 y.2 (omega (arith, l)), more_defined_read ds h.1 n s x.0 to x.2 has (omega (arith, l)))

  pub defined_complete : (ds : Definitions) → AllDefined text ts ds → (n : ℕ) (s : Context) (from to : ℕ) → Defined text ts s ds from to → Has ts s.column k.In to → is_defined ds ≡ true → definitions_depth ds ≤ n
      → definitions_at text ts (expr text ts n) (length ts) [] s from ≡ Ok (definition_list ds, to)
  defined_complete undefined h n s from to x has i l = absurd (let z : ⊥ = cc in z)
  defined_complete (defined d ds) h n s from to x has i l =
      let y = defined_next ds s x.0 to x.2 has in
      let r = definition_read d h.0 n s from x.0 y.0 x.1 y.1 y.2 (omega (arith, l)) in
      let q : Follows (DefinitionRead n s) (following ts s.column between.Nothing) (d ∷ definition_list ds) from to = (x.0, r, more_defined_read ds h.1 n s x.0 to x.2 has (omega (arith, l))) in
      let fit = follows_fit (DefinitionRead n s) (following ts s.column between.Nothing) (λ u a b y. y.1) (rises text ts s.column between.Nothing) (d ∷ definition_list ds) from to q in
      let w = seen_within text ts s.column to has.0 has.1 in
      sequence_complete (DefinitionRead n s) (following ts s.column between.Nothing) (definition text ts (expr text ts n) s) (λ u a b y. y.0) (d ∷ definition_list ds) (length ts) [] from to q (omega (arith, fit, w))
