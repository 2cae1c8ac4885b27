-- Units that are read are spelled so.
use Rattle.std.proofs.Common.{◌≡◌, ◌<◌, nat_lt, ℕ, zero, suc, ◌+◌, Bool, true, false, not, ◌&&◌, ◌||◌, inl, inr, nat_eq, length, List, [], ◌∷◌, ◌++◌, Some, None, Ok, Err, refl, sym, ◌∙◌, subst, append_assoc, arith}
use Rattle.std.specs.List.{list_all}
use Rattle.std.proofs.lemmas.Bool.{eqb-true, ltb-true, ltb-false}
use Rattle.std.proofs.lemmas.List.{append-nil}
use Rattle.tla_lex.specs.declared.token.Token.{Token}
use Rattle.tla_lex.specs.declared.token.Kind.{Kind}
use Rattle.tla_lex.specs.declared.token.Kind.TheVariants as k
use Rattle.tla_tree.specs.declared.word.Written.{Written}
use Rattle.tla_grammar.specs.LeftOut.{OnlySeparators}
use Rattle.tla_grammar.specs.Modules.{is_module}
use Rattle.tla_tree.specs.Words.{word_of, written}
use Rattle.tla_grammar.specs.Tokens.{seen, Has, Writes, Names, KindAt}
use Rattle.tla_grammar.specs.Kinds.{kind_at}
use Rattle.tla_tree.specs.Units.{UnitTree, Separator, Extends, Variables, Local, Constants, Assume, Theorem, Declared}
use Rattle.tla_parse.specs.Units.{Blanks, Declares, MoreDeclared, AllDeclared, Claims, is_extends, is_separator, outermost, SpellsUnit, Units, SpellsModule}
use Rattle.tla_grammar.specs.Outcome.{Refused}
use Rattle.tla_grammar.specs.Marks.{name_at, following}
use Rattle.tla_expressions.specs.ReadingLists.{names}
use Rattle.tla_expressions.specs.Reading.{definition, expr}
use Rattle.tla_parse.specs.Private.UnitsReading.{Claim, modules, blanks, declared, constants, claim_name, claim, unit_of, unit_by, unit, units, whole}
use Rattle.tla_grammar.proofs.Inversion.{ok_to, bind_ok, need_ok, at_op_ok, choice_ok, and_true, has_kind, has_name, seen_is}
use Rattle.tla_expressions.proofs.NameLists.{names_cons, names_sound}
use Rattle.tla_expressions.proofs.Sequence.{Behind, Follows, sequence_sound}
use Rattle.tla_expressions.proofs.Lists.{comma_is}
use Rattle.tla_expressions.proofs.SoundCase.{definition_sound}
use Rattle.tla_expressions.proofs.Sound.{expr_sound}
use Rattle.tla_grammar.specs.declared.tokens.Between.TheVariants as between
use Rattle.tla_grammar.specs.Grammar as Grammar
use Rattle.tla_tree.specs.Tree.{Definition, DefinesOperator, DefinesFunction}

or_true : (b : Bool) → (b || true) ≡ true
or_true true = refl
or_true false = refl

module _ (text : List ℕ) (ts : List Token) where
  only_by : (at i : ℕ) (b : Bool) → nat_lt i at ≡ b → i < at + 1 → KindAt ts at k.Separator → (i < at → KindAt ts i k.Separator) → KindAt ts i k.Separator
  only_by at i true e l x f = f (ltb-true i at e)
  only_by at i false e l x f = let g = ltb-false i at e in let same : at ≡ i = omega (arith, g, l) in rw (← same) x

  only_more : (at end : ℕ) → end ≡ at + 1 → KindAt ts at k.Separator → OnlySeparators ts at → OnlySeparators ts end
  only_more at end e x o i a b = only_by at i (nat_lt i at) refl (omega (arith, b, e)) x (o i a)

  abbrev Extended : List Written → ℕ → List Written × ℕ → Type 0
  Extended front at z = (ws : List Written) × (z.0 ≡ front ++ ws) × Names ts text 0 ws at z.1 × (list_all (λ w. is_module w.word) ws ≡ true)

  modules_sound : (n : ℕ) (front : List Written) (at : ℕ) (z : List Written × ℕ) → modules text ts n front at ≡ Ok z → Extended front at z
  unfolding modules
  modules_sound zero front at z h = absurd (let z : ⊥ = cc in z)
  modules_sound (suc n) front at z h = elim (at_op_ok (name_at (seen ts 0 at)) (Err Refused) _ z h) [
    | inl w ↦ absurd (let z : ⊥ = cc in z)
    | inr w ↦
        let x = has_name ts text 0 at w.0 w.1 in
        let v = written text w.0 in
        let m = need_ok (is_module (word_of text w.0)) _ z w.2 in
        elim (choice_ok (kind_at k.Comma (seen ts 0 (at + 1))) (modules text ts n (front ++ v ∷ []) (at + 2)) (Ok (front ++ v ∷ [], at + 1)) (Ok z) m.1) [
          | inl c ↦
              let r = modules_sound n (front ++ v ∷ []) (at + 2) z c.1 in
              (v ∷ r.0, r.1 ∙ append_assoc front (v ∷ []) r.0, names_cons text ts 0 v r.0 at z.1 x (has_kind ts 0 (at + 1) k.Comma c.0) r.2, rw (m.0, r.3) refl)
          | inr c ↦ ok_to (front ++ v ∷ [], at + 1) z c.1 (Extended front at) (v ∷ [], refl, (x, refl), rw m.0 refl)
        ]
  ]

  abbrev Spelled : ℕ → UnitTree × ℕ → Type 0
  Spelled at z = SpellsUnit text ts z.0 at z.1

  blanks_sound : (n count at : ℕ) (z : ℕ × ℕ) → blanks ts n count at ≡ z → (m : ℕ) × (z.0 ≡ count + m) × Blanks text ts m at z.1
  unfolding blanks
  blanks_sound zero count at z h = subst (λ (v : ℕ × ℕ). (m : ℕ) × (v.0 ≡ count + m) × Blanks text ts m at v.1) h (0, omega arith, refl)
  blanks_sound (suc n) count at z h = elim (choice_ok (kind_at k.Comma (seen ts 0 at) && kind_at k.Underscore (seen ts 0 (at + 1))) (blanks ts n (count + 1) (at + 2)) (count, at) z h) [
    | inl w ↦
        let a = and_true (kind_at k.Comma (seen ts 0 at)) (kind_at k.Underscore (seen ts 0 (at + 1))) w.0 in
        let r = blanks_sound n (count + 1) (at + 2) z w.1 in
        let e = r.1 in
        (suc r.0, omega (arith, e), (has_kind ts 0 at k.Comma a.0, has_kind ts 0 (at + 1) k.Underscore a.1, r.2))
    | inr w ↦ subst (λ (v : ℕ × ℕ). (m : ℕ) × (v.0 ≡ count + m) × Blanks text ts m at v.1) w.1 (0, omega arith, refl)
  ]

  abbrev Declaring : Declared → ℕ → ℕ → Type 0
  Declaring d from to = Declares text ts d.0 d.1 from to

  declared_by : (w : Written) (count m : ℕ) (from to : ℕ) → count ≡ 1 + m → Declares text ts w (suc m) from to → Declares text ts w count from to
  declared_by w count m from to e x = let e' : count ≡ suc m = omega (arith, e) in rw e' x

  declared_sound : (at : ℕ) (d : Declared) (to : ℕ) → declared text ts at ≡ Ok (d, to) → Declaring d at to
  unfolding declared
  declared_sound at d to h = elim (at_op_ok (name_at (seen ts 0 at)) (Err Refused) _ (d, to) h) [
    | inl w ↦ absurd (let z : ⊥ = cc in z)
    | inr w ↦
        let x = has_name ts text 0 at w.0 w.1 in
        elim (choice_ok (kind_at k.LeftParen (seen ts 0 (at + 1))) _ (Ok ((written text w.0, 0), at + 1)) (Ok (d, to)) w.2) [
          | inl c ↦
              let u = need_ok (kind_at k.Underscore (seen ts 0 (at + 2))) _ (d, to) c.1 in
              let y = blanks ts (length ts) 1 (at + 3) in
              let p = need_ok (kind_at k.RightParen (seen ts 0 y.1)) _ (d, to) u.1 in
              let r = blanks_sound (length ts) 1 (at + 3) y refl in
              ok_to ((written text w.0, y.0), y.1 + 1) (d, to) p.1 (λ v. Declares text ts v.0.0 v.0.1 at v.1)
              (declared_by (written text w.0) y.0 r.0 at (y.1 + 1) r.1 (y.1, x, has_kind ts 0 (at + 1) k.LeftParen c.0, has_kind ts 0 (at + 2) k.Underscore u.0, r.2, has_kind ts 0 y.1 k.RightParen p.0, refl))
          | inr c ↦ ok_to ((written text w.0, 0), at + 1) (d, to) c.1 (λ v. Declares text ts v.0.0 v.0.1 at v.1) (x, refl)
        ]
  ]

  more_declared_of : (ds : List Declared) (from to : ℕ) → Behind Declaring (following ts 0 between.Comma) ds from to → MoreDeclared text ts ds from to
  more_declared_of [] from to x = x.1
  more_declared_of (d ∷ ds) from to x =
      let c = comma_is text ts 0 from x.0 x.2 in
      (x.1, c.0, rw (← c.1) x.3, more_declared_of ds x.1 to x.4)

  declared_of : (ds : List Declared) (from to : ℕ) → Follows Declaring (following ts 0 between.Comma) ds from to → AllDeclared text ts ds from to
  declared_of [] from to x = absurd x
  declared_of (d ∷ ds) from to x = (x.0, x.1, more_declared_of ds x.0 to x.2)

  claim_is : (at : ℕ) (t : Token) → claim_name ts at ≡ Some t → Writes ts text 0 k.Name (written text t) at × Has ts 0 k.Define (at + 1)
  claim_is at t h = elim (choice_ok (kind_at k.Define (seen ts 0 (at + 1))) (name_at (seen ts 0 at)) None (Some t) h) [
    | inl w ↦ (has_name ts text 0 at t w.1, has_kind ts 0 (at + 1) k.Define w.0)
    | inr w ↦ absurd (let z : ⊥ = cc in z)
  ]

  claim_sound : (n at : ℕ) (z : Claim × ℕ) → claim text ts n at ≡ Ok z → Claims text ts z.0.0 z.0.1 at z.1
  unfolding claim
  claim_sound n at z h = elim (at_op_ok (claim_name ts at) _ _ z h) [
    | inl w ↦
        let x = bind_ok (expr text ts n outermost 0 at) _ z w.1 in
        ok_to ((None, x.0), x.1) z x.3 (λ v. Claims text ts v.0.0 v.0.1 at v.1) (expr_sound text ts n outermost 0 at (x.0, x.1) x.2).0
    | inr w ↦
        let x = bind_ok (expr text ts n outermost 0 (at + 2)) _ z w.2 in
        let c = claim_is at w.0 w.1 in
        ok_to ((Some (written text w.0), x.0), x.1) z x.3 (λ v. Claims text ts v.0.0 v.0.1 at v.1) (c.0, c.1, (expr_sound text ts n outermost 0 (at + 2) (x.0, x.1) x.2).0)
  ]

  unit_of_sound : (d : Definition) (from to : ℕ) → Grammar.Defines text ts outermost d from to → SpellsUnit text ts (unit_of d) from to
  unit_of_sound (DefinesOperator w [] e) from to x = x
  unit_of_sound (DefinesOperator w (v ∷ vs) e) from to x = (x, refl)
  unit_of_sound (DefinesFunction w bs e) from to x = (x, refl)

  defines_sound : (n at : ℕ) (d : Definition) (to : ℕ) → definition text ts (expr text ts n) outermost at ≡ Ok (d, to) → Grammar.Defines text ts outermost d at to
  defines_sound n at d to h = definition_sound text ts (expr text ts n) (expr_sound text ts n) outermost at d to h

  by_sound : (n : ℕ) (t : Token) (at : ℕ) (kind : Kind) (z : UnitTree × ℕ) → seen ts 0 at ≡ Some t → t.kind ≡ kind → unit_by text ts n t at kind ≡ Ok z → Spelled at z
  by_sound n t at k.Separator z i e h = ok_to (Separator t.place, at + 1) z h (Spelled at) ((t, i, e, refl), refl)
  by_sound n t at k.Extends z i e h =
      let x = bind_ok (modules text ts (length ts) [] (at + 1)) _ z h in
      let r = modules_sound (length ts) [] (at + 1) (x.0, x.1) x.2 in
      ok_to (Extends t.place x.0, x.1) z x.3 (Spelled at) ((t, i, e, refl), rw r.1 r.2, rw r.1 r.3)
  by_sound n t at k.Variable z i e h =
      let x = bind_ok (names text ts (length ts) [] 0 (at + 1)) _ z h in
      let r = names_sound text ts (length ts) [] 0 (at + 1) (x.0, x.1) x.2 in
      ok_to (Variables t.place x.0, x.1) z x.3 (Spelled at) ((t, i, e, refl), rw r.1 r.2)
  by_sound n t at k.Name z i e h =
      let x = bind_ok (definition text ts (expr text ts n) outermost at) _ z h in
      ok_to (unit_of x.0, x.1) z x.3 (Spelled at) (unit_of_sound x.0 at x.1 (defines_sound n at x.0 x.1 x.2))
  by_sound n t at k.Local z i e h =
      let x = bind_ok (definition text ts (expr text ts n) outermost (at + 1)) _ z h in
      ok_to (Local t.place x.0, x.1) z x.3 (Spelled at) ((t, i, e, refl), defines_sound n (at + 1) x.0 x.1 x.2)
  by_sound n t at k.Constant z i e h =
      let x = bind_ok (constants text ts (length ts) [] (at + 1)) _ z h in
      let r = sequence_sound Declaring (following ts 0 between.Comma) (declared text ts) declared_sound (length ts) [] (at + 1) (x.0, x.1) x.2 in
      ok_to (Constants t.place x.0, x.1) z x.3 (Spelled at) ((t, i, e, refl), rw r.1 (declared_of r.0 (at + 1) x.1 r.2))
  by_sound n t at k.Assume z i e h =
      let x = bind_ok (claim text ts n (at + 1)) _ z h in
      ok_to (Assume t.place x.0.0 x.0.1, x.1) z x.3 (Spelled at) ((t, i, e, refl), claim_sound n (at + 1) (x.0, x.1) x.2)
  by_sound n t at k.Theorem z i e h =
      let x = bind_ok (claim text ts n (at + 1)) _ z h in
      ok_to (Theorem t.place x.0.0 x.0.1, x.1) z x.3 (Spelled at) ((t, i, e, refl), claim_sound n (at + 1) (x.0, x.1) x.2)
  by_sound n t at _ z i e h = absurd (let z : ⊥ = cc in z)

  unit_sound : (n at : ℕ) (z : UnitTree × ℕ) → unit text ts n at ≡ Ok z → Spelled at z
  unfolding unit
  unit_sound n at z h = elim (at_op_ok (seen ts 0 at) (Err Refused) _ z h) [
    | inl w ↦ absurd (let z : ⊥ = cc in z)
    | inr w ↦ by_sound n w.0 at w.0.kind z w.1 refl w.2
  ]

  may_stand : (u : UnitTree) (first : Bool) (at end : ℕ) → SpellsUnit text ts u at end → (first || not (kind_at k.Extends (seen ts 0 at))) ≡ true → (first || not (is_extends u)) ≡ true
  may_stand (Extends p ws) first at end x h = let e : kind_at k.Extends (seen ts 0 at) ≡ true = rw (x.0.1, x.0.2) refl in rw e at h
  may_stand (Separator p) first at end x h = or_true first
  may_stand _ first at end x h = or_true first

  -- one separator more
  pub separators_more : (n at : ℕ) (u : UnitTree) (end : ℕ) (first : Bool) → unit text ts n at ≡ Ok (u, end) → (first ≡ true → OnlySeparators ts at) → (first && is_separator u) ≡ true → OnlySeparators ts end
  separators_more n at (Separator p) end first h o b =
      let s = unit_sound n at (Separator p, end) h in
      let t = s.0 in
      let w = and_true first true b in
      only_more at end s.1 (t.0, seen_is ts 0 at t.0 t.1, t.2) (o w.0)
  separators_more n at u end first h o b = absurd (let w = and_true first (is_separator u) b in let z : ⊥ = cc in z)

  abbrev Listed : List UnitTree → Bool → ℕ → List UnitTree × ℕ → Type 0
  Listed front first at z = (us : List UnitTree) × (z.0 ≡ front ++ us) × Units text ts first us at z.1 × Has ts 0 k.Closing z.1

  units_sound : (n m : ℕ) (front : List UnitTree) (first : Bool) (at : ℕ) (z : List UnitTree × ℕ) → units text ts n m front first at ≡ Ok z → Listed front first at z
  unfolding units
  units_sound n zero front first at z h = absurd (let z : ⊥ = cc in z)
  units_sound n (suc m) front first at z h = elim (choice_ok (kind_at k.Closing (seen ts 0 at)) (Ok (front, at)) _ (Ok z) h) [
    | inl w ↦ ok_to (front, at) z w.1 (Listed front first at) ([], sym (append-nil front), refl, has_kind ts 0 at k.Closing w.0)
    | inr w ↦
        let a = need_ok (first || not (kind_at k.Extends (seen ts 0 at))) _ z w.1 in
        let x = bind_ok (unit text ts n at) _ z a.1 in
        let s = unit_sound n at (x.0, x.1) x.2 in
        let r = units_sound n m (front ++ x.0 ∷ []) (first && is_separator x.0) x.1 z x.3 in
        (x.0 ∷ r.0, r.1 ∙ append_assoc front (x.0 ∷ []) r.0, (x.1, s, may_stand x.0 first at x.1 s a.0, r.2), r.3)
  ]

  pub module_sound : (n : ℕ) (us : List UnitTree) (end : ℕ) → whole text ts n ≡ Ok (us, end) → SpellsModule text ts us
  unfolding whole
  module_sound n us end h =
      let a = need_ok (kind_at k.Name (seen ts 0 0)) _ (us, end) h in
      let b = need_ok (kind_at k.Separator (seen ts 0 1)) _ (us, end) a.1 in
      let x = bind_ok (units text ts n (length ts) [] true 2) _ (us, end) b.1 in
      let e = need_ok (nat_eq (length ts) (x.1 + 1)) _ (us, end) x.3 in
      let r = units_sound n (length ts) [] true 2 (x.0, x.1) x.2 in
      ok_to (x.0, x.1) (us, end) e.1 (λ z. SpellsModule text ts z.0)
      (x.1, has_kind ts 0 0 k.Name a.0, has_kind ts 0 1 k.Separator b.0, rw r.1 r.2, r.3, eqb-true (length ts) (x.1 + 1) e.0)
