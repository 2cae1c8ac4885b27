-- Units that are spelled are read.
use Rattle.std.proofs.Common.{◌≡◌, ℕ, zero, suc, ◌+◌, ◌-◌, ◌<◌, ◌≤◌, true, false, not, ◌&&◌, ◌||◌, nat_eq, length, List, [], ◌∷◌, ◌++◌, Bool, if◌then◌else◌, inl, inr, Option, Some, None, Ok, refl, ap, ◌∙◌, append_assoc, arith, eq-eqb}
use Rattle.std.specs.List.{list_all}
use Rattle.std.proofs.lemmas.List.{append-nil}
use Rattle.tla_lex.specs.SameKind.{same_kind}
use Rattle.tla_lex.specs.declared.token.Token.{Token}
use Rattle.tla_lex.specs.declared.token.Kind.{Kind}
use Rattle.tla_lex.specs.declared.token.Kind.TheVariants as k
use Rattle.tla_tree.specs.declared.word.Written.{Written}
use Rattle.tla_grammar.specs.Modules.{is_module}
use Rattle.tla_grammar.specs.Edges.{depth}
use Rattle.tla_tree.specs.Words.{word_of, written}
use Rattle.tla_grammar.specs.Tokens.{seen, goes_on, Has, Names}
use Rattle.tla_grammar.specs.Kinds.{kind_at}
use Rattle.tla_tree.specs.Units.{UnitTree, Separator, Extends, Variables, Operator, Defines, Local, Constants, Assume, Theorem, Declared}
use Rattle.tla_parse.specs.Units.{Blanks, Declares, MoreDeclared, AllDeclared, Claims, has_parameters, is_extends, is_separator, unit_depth, units_depth, outermost, SpellsUnit, Units, SpellsModule}
use Rattle.tla_grammar.specs.Marks.{name_at, following}
use Rattle.tla_expressions.specs.Reading.{expr}
use Rattle.tla_parse.specs.Private.UnitsReading.{modules, blanks, declared, constants, claim_name, claim, unit_of, unit, units, whole}
use Rattle.tla_grammar.proofs.Inversion.{and_true}
use Rattle.tla_expressions.proofs.Follow.{end_plain, stops_plain}
use Rattle.tla_expressions.proofs.Shapes.{top_zero, advances, defines_advance}
use Rattle.tla_expressions.proofs.Complete.{definition_complete, expr_complete}
use Rattle.tla_grammar.specs.declared.tokens.Between.TheVariants as between
use Rattle.tla_grammar.specs.Grammar.{Spells}
use Rattle.tla_tree.specs.Tree.{Tree, Definition, DefinesOperator, DefinesFunction}
use Rattle.tla_expressions.proofs.Sequence.{Behind, Follows, follows_fit, sequence_complete}
use Rattle.tla_expressions.proofs.Lists.{comma_here, rises}
use Rattle.tla_expressions.proofs.First.{second_token}
use Rattle.tla_expressions.proofs.CompleteCase.{defines_name}
use Rattle.tla_expressions.proofs.NameLists.{seen_within, named, names_fit, names_within, names_complete}
use Rattle.tla_parse.proofs.UnitsSteps.{modules_more, modules_last, blanks_more, blanks_last}

-- begins a unit, or closes the module
abbrev begins_unit : Kind → Bool
begins_unit k.Separator = true
begins_unit k.Extends = true
begins_unit k.Variable = true
begins_unit k.Name = true
begins_unit k.Closing = true
begins_unit k.Local = true
begins_unit k.Constant = true
begins_unit k.Assume = true
begins_unit k.Theorem = true
begins_unit _ = false

no : false ≡ true → ⊥
no h = cc

-- goes on with nothing before it
record Plain (kind : Kind) : Type 0 where
  plain : goes_on kind ≡ false
  no_comma : same_kind k.Comma kind ≡ false
  no_define : same_kind k.Define kind ≡ false
  no_paren : same_kind k.LeftParen kind ≡ false

plain : (kind : Kind) → begins_unit kind ≡ true → Plain kind
plain k.Separator h = record { plain = refl; no_comma = refl; no_define = refl; no_paren = refl }
plain k.Extends h = record { plain = refl; no_comma = refl; no_define = refl; no_paren = refl }
plain k.Variable h = record { plain = refl; no_comma = refl; no_define = refl; no_paren = refl }
plain k.Name h = record { plain = refl; no_comma = refl; no_define = refl; no_paren = refl }
plain k.Closing h = record { plain = refl; no_comma = refl; no_define = refl; no_paren = refl }
plain k.Local h = record { plain = refl; no_comma = refl; no_define = refl; no_paren = refl }
plain k.Constant h = record { plain = refl; no_comma = refl; no_define = refl; no_paren = refl }
plain k.Assume h = record { plain = refl; no_comma = refl; no_define = refl; no_paren = refl }
plain k.Theorem h = record { plain = refl; no_comma = refl; no_define = refl; no_paren = refl }
plain _ h = absurd (no h)

name_none : (o : Option Token) → kind_at k.Name o ≡ false → name_at o ≡ None
name_none None h = refl
name_none (Some t) h = rw h refl

either_none : (b : Bool) → ◌≡◌ {A = Option Token} (if b then None else None) None
either_none true = refl
either_none false = refl

or_true : (b : Bool) → (b || true) ≡ true
or_true true = refl
or_true false = refl

module _ (text : List ℕ) (ts : List Token) where
  modules_complete : (ws : List Written) (front : List Written) (from to fuel : ℕ) → Names ts text 0 ws from to → list_all (λ w. is_module w.word) ws ≡ true
      → kind_at k.Comma (seen ts 0 to) ≡ false → length ws ≤ fuel → modules text ts fuel front from ≡ Ok (front ++ ws, to)
  modules_complete [] front from to fuel x m c l = absurd x
  modules_complete (w ∷ []) front from to fuel x m c l =
      let after : kind_at k.Comma (seen ts 0 (from + 1)) ≡ false = rw (← x.1) c in
      let known = (and_true (is_module w.word) true m).0 in
      let word : is_module (word_of text x.0.0) ≡ true = rw (ap (λ y. y.word) x.0.3) known in
      modules_last text ts fuel (fuel - 1) front from x.0.0 (omega (arith, l)) (named text ts 0 from w x.0) word after ∙ rw (x.0.3, x.1) refl
  modules_complete (w ∷ v ∷ ws) front from to fuel x m c l =
      let comma : kind_at k.Comma (seen ts 0 (from + 1)) ≡ true = rw (x.1.1, x.1.2) refl in
      let known = and_true (is_module w.word) (list_all (λ w. is_module w.word) (v ∷ ws)) m in
      let word : is_module (word_of text x.0.0) ≡ true = rw (ap (λ y. y.word) x.0.3) known.0 in
      modules_more text ts fuel (fuel - 1) front from x.0.0 (omega (arith, l)) (named text ts 0 from w x.0) word comma
      ∙ modules_complete (v ∷ ws) (front ++ written text x.0.0 ∷ []) (from + 2) to (fuel - 1) x.2 known.1 c (omega (arith, l))
      ∙ rw (append_assoc front (written text x.0.0 ∷ []) (v ∷ ws), x.0.3) refl

  -- ---- units

  -- a token that begins a unit or closes the module
  abbrev Starts : ℕ → Type 0
  Starts at = (t : Token) × (seen ts 0 at ≡ Some t) × (begins_unit t.kind ≡ true)

  no_comma : (at : ℕ) → Starts at → kind_at k.Comma (seen ts 0 at) ≡ false
  no_comma at x = rw x.1 (plain x.0.kind x.2).no_comma

  -- ---- constants

  blanks_rise : (n from to : ℕ) → Blanks text ts n from to → n + from ≤ to
  blanks_rise zero from to x = omega (arith, x)
  blanks_rise (suc n) from to x = let h = blanks_rise n (from + 2) to x.2 in omega (arith, h)

  declares_advance : (w : Written) (n from to : ℕ) → Declares text ts w n from to → from < to
  declares_advance w zero from to x = omega (arith, x.1)
  declares_advance w (suc n) from to x = let h = blanks_rise n (from + 3) x.0 x.4 in omega (arith, h, x.6)

  blanks_complete : (m count fuel from to : ℕ) → Blanks text ts m from to → kind_at k.Comma (seen ts 0 to) ≡ false → m < fuel → ◌≡◌ {A = ℕ × ℕ} (blanks ts fuel count from) (count + m, to)
  blanks_complete zero count fuel from to x c l =
      let c' : (kind_at k.Comma (seen ts 0 from) && kind_at k.Underscore (seen ts 0 (from + 1))) ≡ false = (let e : kind_at k.Comma (seen ts 0 from) ≡ false = rw (← x) c in rw e refl) in
      let z : count + 0 ≡ count = omega arith in
      blanks_last text ts fuel (fuel - 1) count from (omega (arith, l)) c' ∙ rw (z, x) refl
  blanks_complete (suc m) count fuel from to x c l =
      let e : count + suc m ≡ count + 1 + m = omega arith in
      let p : (kind_at k.Comma (seen ts 0 from) && kind_at k.Underscore (seen ts 0 (from + 1))) ≡ true = rw (x.0.1, x.0.2, x.1.1, x.1.2) refl in
      blanks_more text ts fuel (fuel - 1) count from (omega (arith, l)) p
      ∙ blanks_complete m (count + 1) (fuel - 1) (from + 2) to x.2 c (omega (arith, l)) ∙ rw e refl

  -- a token that a list's next constant, or a unit, stands after
  abbrev Ended : ℕ → Type 0
  Ended at = kind_at k.LeftParen (seen ts 0 at) ≡ false

  declared_complete : (w : Written) (n from to : ℕ) → Declares text ts w n from to → Ended to → declared text ts from ≡ Ok ((w, n), to)
  unfolding declared
  declared_complete w zero from to x f =
      let f' : Ended (from + 1) = rw (← x.1) f in
      let name = named text ts 0 from w x.0 in
      rw (name, f', x.0.3, x.1) refl
  declared_complete w (suc n) from to x f =
      let name = named text ts 0 from w x.1 in
      let within = seen_within text ts 0 x.0 x.5.0 x.5.1 in
      let rise = blanks_rise n (from + 3) x.0 x.4 in
      let c = blanks_complete n 1 (length ts) (from + 3) x.0 x.4 (rw (x.5.1, x.5.2) refl) (omega (arith, within, rise)) in
      let e : 1 + n ≡ suc n = omega arith in
      rw (name, x.2.1, x.2.2, x.3.1, x.3.2, c, x.5.1, x.5.2, x.1.3, e, x.6) refl

  abbrev DeclaredAt : Declared → ℕ → ℕ → Type 0
  DeclaredAt d from to = (declared text ts from ≡ Ok (d, to)) × (from < to)

  more_ended : (ds : List Declared) (from to : ℕ) → MoreDeclared text ts ds from to → Ended to → Ended from
  more_ended [] from to x f = rw (← x) f
  more_ended (d ∷ ds) from to x f = rw (x.1.1, x.1.2) refl

  more_declared : (ds : List Declared) (from to : ℕ) → MoreDeclared text ts ds from to → Ended to → kind_at k.Comma (seen ts 0 to) ≡ false → Behind DeclaredAt (following ts 0 between.Comma) ds from to
  more_declared [] from to x f c = let c' : kind_at k.Comma (seen ts 0 from) ≡ false = rw (← x) c in (rw c' refl, x)
  more_declared (d ∷ ds) from to x f c =
      (from + 1, x.0, comma_here text ts 0 from x.1, (declared_complete d.0 d.1 (from + 1) x.0 x.2 (more_ended ds x.0 to x.3 f), declares_advance d.0 d.1 (from + 1) x.0 x.2), more_declared ds x.0 to x.3 f c)

  declares_within : (w : Written) (n from to : ℕ) → Declares text ts w n from to → to ≤ length ts
  declares_within w zero from to x = let h = seen_within text ts 0 from x.0.0 x.0.1 in omega (arith, h, x.1)
  declares_within w (suc n) from to x = let h = seen_within text ts 0 x.0 x.5.0 x.5.1 in omega (arith, h, x.6)

  more_within : (ds : List Declared) (from to : ℕ) → MoreDeclared text ts ds from to → from ≤ length ts → to ≤ length ts
  more_within [] from to x l = omega (arith, x, l)
  more_within (d ∷ ds) from to x l = more_within ds x.0 to x.3 (declares_within d.0 d.1 (from + 1) x.0 x.2)

  more_advance : (ds : List Declared) (from to : ℕ) → MoreDeclared text ts ds from to → from ≤ to
  more_advance [] from to x = omega (arith, x)
  more_advance (d ∷ ds) from to x = let h = declares_advance d.0 d.1 (from + 1) x.0 x.2 in let r = more_advance ds x.0 to x.3 in omega (arith, h, r)

  all_advance : (ds : List Declared) (from to : ℕ) → AllDeclared text ts ds from to → from < to
  all_advance [] from to x = absurd x
  all_advance (d ∷ ds) from to x = let h = declares_advance d.0 d.1 from x.0 x.1 in let r = more_advance ds x.0 to x.2 in omega (arith, h, r)

  constants_complete : (ds : List Declared) (from to : ℕ) → AllDeclared text ts ds from to → Ended to → kind_at k.Comma (seen ts 0 to) ≡ false → constants text ts (length ts) [] from ≡ Ok (ds, to)
  constants_complete [] from to x f c = absurd x
  constants_complete (d ∷ ds) from to x f c =
      let q : Follows DeclaredAt (following ts 0 between.Comma) (d ∷ ds) from to = (x.0, (declared_complete d.0 d.1 from x.0 x.1 (more_ended ds x.0 to x.2 f), declares_advance d.0 d.1 from x.0 x.1), more_declared ds x.0 to x.2 f c) in
      let fit = follows_fit DeclaredAt (following ts 0 between.Comma) (λ u a b y. y.1) (rises text ts 0 between.Comma) (d ∷ ds) from to q in
      let l = more_within ds x.0 to x.2 (declares_within d.0 d.1 from x.0 x.1) in
      sequence_complete DeclaredAt (following ts 0 between.Comma) (declared text ts) (λ u a b y. y.0) (d ∷ ds) (length ts) [] from to q (omega (arith, fit, l))

  -- ---- assumptions and theorems

  claim_advance : (w : Option Written) (e : Tree) (from to : ℕ) → Claims text ts w e from to → from < to
  claim_advance None e from to x = advances text ts e outermost from to x
  claim_advance (Some w) e from to x = let h = advances text ts e outermost (from + 2) to x.2 in omega (arith, h)

  no_claim_name : (e : Tree) (from to : ℕ) → Spells text ts outermost e from to → Starts to → claim_name ts from ≡ None
  no_claim_name e from to x st = elim (second_token text ts k.Define refl e outermost from to x) [
    | inl a ↦ (let n = name_none (seen ts 0 from) a in rw n (either_none (kind_at k.Define (seen ts 0 (from + 1)))))
    | inr a ↦ (elim a [
      | inl b ↦ rw b refl
      | inr b ↦
          let p = (plain st.0.kind st.2).no_define in
          let d : kind_at k.Define (seen ts 0 to) ≡ false = rw (st.1, p) refl in
          let d' : kind_at k.Define (seen ts 0 (from + 1)) ≡ false = rw (← b) d in rw d' refl
    ])
  ]

  body_complete : (e : Tree) (n from to : ℕ) → Spells text ts outermost e from to → depth e ≤ n → Starts to → expr text ts n outermost 0 from ≡ Ok (e, to)
  body_complete e n from to x d st =
      let has : Has ts 0 st.0.kind to = (st.0, st.1, refl) in
      let p = (plain st.0.kind st.2).plain in
      expr_complete text ts e n outermost 0 from to x (end_plain e ts 0 to st.0.kind has p) (top_zero e) d (stops_plain ts 0 0 to st.0.kind has p)

  claim_complete : (w : Option Written) (e : Tree) (n from to : ℕ) → Claims text ts w e from to → depth e ≤ n → Starts to → claim text ts n from ≡ Ok ((w, e), to)
  unfolding claim
  claim_complete None e n from to x d st =
      let r = body_complete e n from to x d st in
      let c = no_claim_name e from to x st in rw (c, r) refl
  claim_complete (Some w) e n from to x d st =
      let r = body_complete e n (from + 2) to x.2 d st in
      let name = named text ts 0 from w x.0 in
      let c : claim_name ts from ≡ Some x.0.0 = rw (x.1.1, x.1.2, name) refl in
      rw (c, r, x.0.3) refl

  unit_advances : (u : UnitTree) (from to : ℕ) → SpellsUnit text ts u from to → from < to
  unit_advances (Separator p) from to x = omega (arith, x.1)
  unit_advances (Extends p ws) from to x = let h = names_fit text ts ws 0 (from + 1) to x.1 in omega (arith, h)
  unit_advances (Variables p ws) from to x = let h = names_fit text ts ws 0 (from + 1) to x.1 in omega (arith, h)
  unit_advances (Defines d) from to x = defines_advance text ts d outermost from to x.0
  unit_advances (Local p d) from to x = let h = defines_advance text ts d outermost (from + 1) to x.1 in omega (arith, h)
  unit_advances (Constants p ds) from to x = let h = all_advance ds (from + 1) to x.1 in omega (arith, h)
  unit_advances (Assume p w e) from to x = let h = claim_advance w e (from + 1) to x.1 in omega (arith, h)
  unit_advances (Theorem p w e) from to x = let h = claim_advance w e (from + 1) to x.1 in omega (arith, h)
  unit_advances (Operator w e) from to x = let h = advances text ts e outermost (from + 2) to x.2 in omega (arith, h)

  abbrev Opens : ℕ → Type 0
  Opens at = Starts at × (kind_at k.Closing (seen ts 0 at) ≡ false)

  unit_opens : (u : UnitTree) (from to : ℕ) → SpellsUnit text ts u from to → Opens from
  unit_opens (Separator p) from to x = ((x.0.0, x.0.1, rw x.0.2 refl), rw (x.0.1, x.0.2) refl)
  unit_opens (Extends p ws) from to x = ((x.0.0, x.0.1, rw x.0.2 refl), rw (x.0.1, x.0.2) refl)
  unit_opens (Variables p ws) from to x = ((x.0.0, x.0.1, rw x.0.2 refl), rw (x.0.1, x.0.2) refl)
  unit_opens (Defines d) from to x = let n = defines_name text ts d outermost from to x.0 in ((n.0, n.1, rw n.2 refl), rw (n.1, n.2) refl)
  unit_opens (Local p d) from to x = ((x.0.0, x.0.1, rw x.0.2 refl), rw (x.0.1, x.0.2) refl)
  unit_opens (Constants p ds) from to x = ((x.0.0, x.0.1, rw x.0.2 refl), rw (x.0.1, x.0.2) refl)
  unit_opens (Assume p w e) from to x = ((x.0.0, x.0.1, rw x.0.2 refl), rw (x.0.1, x.0.2) refl)
  unit_opens (Theorem p w e) from to x = ((x.0.0, x.0.1, rw x.0.2 refl), rw (x.0.1, x.0.2) refl)
  unit_opens (Operator w e) from to x = ((x.0.0, x.0.1, rw x.0.2 refl), rw (x.0.1, x.0.2) refl)

  unit_of_defines : (d : Definition) → has_parameters d ≡ true → unit_of d ≡ Defines d
  unit_of_defines (DefinesOperator w [] e) h = absurd (let z : ⊥ = cc in z)
  unit_of_defines (DefinesOperator w (v ∷ vs) e) h = refl
  unit_of_defines (DefinesFunction w bs e) h = refl

  unit_complete : (u : UnitTree) (n from to : ℕ) → SpellsUnit text ts u from to → unit_depth u ≤ n → Starts to → unit text ts n from ≡ Ok (u, to)
  unfolding unit
  unit_complete (Separator p) n from to x d st = rw (x.0.1, x.0.2, x.0.3, x.1) refl
  unit_complete (Extends p ws) n from to x d st =
      let fit = names_fit text ts ws 0 (from + 1) to x.1 in
      let end = names_within text ts ws 0 (from + 1) to x.1 in
      let r = modules_complete ws [] (from + 1) to (length ts) x.1 x.2 (no_comma to st) (omega (arith, fit, end)) in
      rw (x.0.1, x.0.2, x.0.3, r) refl
  unit_complete (Variables p ws) n from to x d st =
      let fit = names_fit text ts ws 0 (from + 1) to x.1 in
      let end = names_within text ts ws 0 (from + 1) to x.1 in
      let r = names_complete text ts ws [] 0 (from + 1) to (length ts) x.1 (no_comma to st) (omega (arith, fit, end)) in
      rw (x.0.1, x.0.2, x.0.3, r) refl
  unit_complete (Operator w e) n from to x d st =
      let r = definition_complete text ts (DefinesOperator w [] e) n outermost from to st.0.kind x (st.0, st.1, refl) (plain st.0.kind st.2).plain d in
      rw (x.0.1, x.0.2, r) refl
  unit_complete (Defines d) n from to x l st =
      let r = definition_complete text ts d n outermost from to st.0.kind x.0 (st.0, st.1, refl) (plain st.0.kind st.2).plain l in
      let name = defines_name text ts d outermost from to x.0 in
      let u = unit_of_defines d x.1 in
      rw (name.1, name.2, r, u) refl
  unit_complete (Local p d) n from to x l st =
      let r = definition_complete text ts d n outermost (from + 1) to st.0.kind x.1 (st.0, st.1, refl) (plain st.0.kind st.2).plain l in
      rw (x.0.1, x.0.2, x.0.3, r) refl
  unit_complete (Constants p ds) n from to x d st =
      let f = (plain st.0.kind st.2).no_paren in
      let r = constants_complete ds (from + 1) to x.1 (rw (st.1, f) refl) (no_comma to st) in
      rw (x.0.1, x.0.2, x.0.3, r) refl
  unit_complete (Assume p w e) n from to x d st =
      let r = claim_complete w e n (from + 1) to x.1 d st in
      rw (x.0.1, x.0.2, x.0.3, r) refl
  unit_complete (Theorem p w e) n from to x d st =
      let r = claim_complete w e n (from + 1) to x.1 d st in
      rw (x.0.1, x.0.2, x.0.3, r) refl

  next_starts : (us : List UnitTree) (first : Bool) (from to : ℕ) → Units text ts first us from to → Has ts 0 k.Closing to → Starts from
  next_starts [] first from to x h = rw (← x) (h.0, h.1, rw h.2 refl)
  next_starts (u ∷ us) first from to x h = (unit_opens u from x.0 x.1).0

  units_fit : (us : List UnitTree) (first : Bool) (from to : ℕ) → Units text ts first us from to → length us + from ≤ to
  units_fit [] first from to x = omega (arith, x)
  units_fit (u ∷ us) first from to x = let h = unit_advances u from x.0 x.1 in let g = units_fit us (first && is_separator u) x.0 to x.3 in omega (arith, h, g)

  not_extends : (first : Bool) (from : ℕ) (kind : Kind) → Has ts 0 kind from → same_kind k.Extends kind ≡ false → (first || not (kind_at k.Extends (seen ts 0 from))) ≡ true
  not_extends first from kind h s = rw (h.1, h.2, s) (or_true first)

  stands_at : (u : UnitTree) (first : Bool) (from to : ℕ) → SpellsUnit text ts u from to → (first || not (is_extends u)) ≡ true → (first || not (kind_at k.Extends (seen ts 0 from))) ≡ true
  stands_at (Extends p ws) first from to x h = rw (x.0.1, x.0.2) h
  stands_at (Separator p) first from to x h = not_extends first from k.Separator (x.0.0, x.0.1, x.0.2) refl
  stands_at (Variables p ws) first from to x h = not_extends first from k.Variable (x.0.0, x.0.1, x.0.2) refl
  stands_at (Operator w e) first from to x h = not_extends first from k.Name (x.0.0, x.0.1, x.0.2) refl
  stands_at (Defines d) first from to x h = let n = defines_name text ts d outermost from to x.0 in not_extends first from k.Name (n.0, n.1, n.2) refl
  stands_at (Local p d) first from to x h = not_extends first from k.Local (x.0.0, x.0.1, x.0.2) refl
  stands_at (Constants p ds) first from to x h = not_extends first from k.Constant (x.0.0, x.0.1, x.0.2) refl
  stands_at (Assume p w e) first from to x h = not_extends first from k.Assume (x.0.0, x.0.1, x.0.2) refl
  stands_at (Theorem p w e) first from to x h = not_extends first from k.Theorem (x.0.0, x.0.1, x.0.2) refl

  units_complete : (us : List UnitTree) (n m : ℕ) (front : List UnitTree) (first : Bool) (from to : ℕ) → Units text ts first us from to → Has ts 0 k.Closing to → units_depth us ≤ n → length us < m
      → units text ts n m front first from ≡ Ok (front ++ us, to)
  unfolding units
  units_complete us n zero front first from to x h d l = absurd (omega (arith, l))
  units_complete [] n (suc m) front first from to x h d l =
      let closing : kind_at k.Closing (seen ts 0 from) ≡ true = rw (← x, h.1, h.2) refl in
      rw (closing, append-nil front, x) refl
  units_complete (u ∷ us) n (suc m) front first from to x h d l =
      let o = unit_opens u from x.0 x.1 in
      let r = unit_complete u n from x.0 x.1 (omega (arith, d)) (next_starts us (first && is_separator u) x.0 to x.3 h) in
      let rest = units_complete us n m (front ++ u ∷ []) (first && is_separator u) x.0 to x.3 h (omega (arith, d)) (omega (arith, l)) in
      rw (o.1, stands_at u first from x.0 x.1 x.2, r, rest, append_assoc front (u ∷ []) us) refl

  pub module_complete : (n : ℕ) (us : List UnitTree) (x : SpellsModule text ts us) → units_depth us ≤ n → whole text ts n ≡ Ok (us, x.0)
  unfolding whole
  module_complete n us x d =
      let fit = units_fit us true 2 x.0 x.3 in
      let r = units_complete us n (length ts) [] true 2 x.0 x.3 x.4 d (omega (arith, fit, x.5)) in
      let e : nat_eq (length ts) (x.0 + 1) ≡ true = eq-eqb (length ts) (x.0 + 1) x.5 in
      rw (x.1.1, x.1.2, x.2.1, x.2.2, r, e) refl
