-- CASE, LET and definitions that are read are spelled so.
use Rattle.std.proofs.Common.{◌≡◌, ℕ, ◌+◌, true, inl, inr, length, List, [], ◌∷◌, Some, Ok, Err, refl}
use Rattle.tla_lex.specs.declared.token.Token.{Token}
use Rattle.tla_lex.specs.declared.token.Kind.TheVariants as k
use Rattle.tla_grammar.specs.declared.context.Context.{Context}
use Rattle.tla_tree.specs.declared.word.Written.{Written}
use Rattle.tla_grammar.specs.declared.tokens.Between.TheVariants as between
use Rattle.tla_tree.specs.Tree.{Tree, Choice, Definition, binders, arms, definitions, no_other, other, DefinesOperator, DefinesFunction, Case, Let}
use Rattle.tla_tree.specs.Words.{written}
use Rattle.tla_grammar.specs.Tokens.{seen, Has, Writes, Names}
use Rattle.tla_grammar.specs.Kinds.{kind_at}
use Rattle.tla_grammar.specs.Grammar.{Spells, Defines, Defined, Chosen, is_defined}
use Rattle.tla_grammar.specs.Outcome.{Outcome, Refused}
use Rattle.tla_grammar.specs.Marks.{name_at, following}
use Rattle.tla_expressions.specs.ReadingLists.{names, groups, group}
use Rattle.tla_expressions.specs.Reading.{arm_at, arms_at, cases, operator, function, defined, definition, definitions_at, lets}
use Rattle.tla_grammar.proofs.Inversion.{ok_to, bind_ok, need_ok, at_op_ok, choice_ok, has_kind, name_is}
use Rattle.tla_expressions.proofs.NameLists.{names_sound}
use Rattle.tla_expressions.proofs.Sequence.{sequence_sound}
use Rattle.tla_expressions.proofs.Lists.{GroupAt, ArmAt, DefinesAt, bound_of, chosen_of, defined_of}
use Rattle.tla_expressions.proofs.SoundParts.{Good, Whole, group_sound}

module _ (text : List ℕ) (ts : List Token) where
  module _ (inner : Context → ℕ → ℕ → Outcome Tree) (good : (s : Context) (floor at : ℕ) (z : Tree × ℕ) → inner s floor at ≡ Ok z → Good text ts s floor at z) where
    arm_sound : (s : Context) (at : ℕ) (c : Choice) (to : ℕ) → arm_at text ts inner s at ≡ Ok (c, to) → ArmAt text ts s c at to
    unfolding arm_at
    arm_sound s at c to h =
        let x = bind_ok (inner s 0 at) _ (c, to) h in
        let n = need_ok (kind_at k.Arrow (seen ts s.column x.1)) _ (c, to) x.3 in
        let y = bind_ok (inner s 0 (x.1 + 1)) _ (c, to) n.1 in
        ok_to ((x.0, y.0), y.1) (c, to) y.3 (λ v. ArmAt text ts s v.0 at v.1) (x.1, (good s 0 at (x.0, x.1) x.2).0, has_kind ts s.column x.1 k.Arrow n.0, (good s 0 (x.1 + 1) (y.0, y.1) y.2).0)

    pub cases_sound : (s : Context) (t : Token) (at : ℕ) (z : Tree × ℕ) → seen ts s.column at ≡ Some t → t.kind ≡ k.Case → cases text ts inner s t.place at ≡ Ok z → Whole text ts s at z
    unfolding cases
    cases_sound s t at z i e h floor =
        let x = bind_ok (arms_at text ts inner (length ts) [] s (at + 1)) _ z h in
        let r = sequence_sound (ArmAt text ts s) (following ts s.column between.Arm) (arm_at text ts inner s) (arm_sound s) (length ts) [] (at + 1) (x.0, x.1) x.2 in
        let l = chosen_of text ts r.0 s (at + 1) x.1 r.2 in
        let c : Chosen text ts s (arms x.0) (at + 1) x.1 = rw r.1 l.0 in
        elim (choice_ok (kind_at k.Box (seen ts s.column x.1)) _ (Ok (Case t.place (arms x.0) no_other, x.1)) (Ok z) x.3) [
          | inl w ↦
              let a = need_ok (kind_at k.Other (seen ts s.column (x.1 + 1))) _ z w.1 in
              let b = need_ok (kind_at k.Arrow (seen ts s.column (x.1 + 2))) _ z a.1 in
              let y = bind_ok (inner s 0 (x.1 + 3)) _ z b.1 in
              ok_to (Case t.place (arms x.0) (other y.0), y.1) z y.3 (Good text ts s floor at)
              ((x.1, (t, i, e, refl), c, (has_kind ts s.column x.1 k.Box w.0, has_kind ts s.column (x.1 + 1) k.Other a.0, has_kind ts s.column (x.1 + 2) k.Arrow b.0, (good s 0 (x.1 + 3) (y.0, y.1) y.2).0)), refl)
          | inr w ↦ (let last = w.0 in ok_to (Case t.place (arms x.0) no_other, x.1) z w.1 (Good text ts s floor at) ((x.1, (t, i, e, refl), c, (rw last refl, refl)), refl))
        ]

    -- ---- definitions

    names_define : (s : Context) (t : Token) (at : ℕ) (ws : List Written) (m to : ℕ) (u : Tree) → Writes ts text s.column k.Name (written text t) at → Has ts s.column k.LeftParen (at + 1) → Names ts text s.column ws (at + 2) m
        → Has ts s.column k.RightParen m → Has ts s.column k.Define (m + 1) → Spells text ts s u (m + 2) to → Defines text ts s (DefinesOperator (written text t) ws u) at to
    names_define s t at [] m to u w p n a b y = absurd n
    names_define s t at (v ∷ vs) m to u w p n a b y = (m, w, p, n, a, b, y)

    operator_sound : (s : Context) (t : Token) (at : ℕ) (z : Definition × ℕ) → seen ts s.column at ≡ Some t → t.kind ≡ k.Name → Has ts s.column k.LeftParen (at + 1) → operator text ts inner s t (at + 2) ≡ Ok z → Defines text ts s z.0 at z.1
    unfolding operator
    operator_sound s t at z i e p h =
        let x = bind_ok (names text ts (length ts) [] s.column (at + 2)) _ z h in
        let a = need_ok (kind_at k.RightParen (seen ts s.column x.1)) _ z x.3 in
        let b = need_ok (kind_at k.Define (seen ts s.column (x.1 + 1))) _ z a.1 in
        let y = bind_ok (inner s 0 (x.1 + 2)) _ z b.1 in
        let r = names_sound text ts (length ts) [] s.column (at + 2) (x.0, x.1) x.2 in
        let n : Names ts text s.column x.0 (at + 2) x.1 = rw r.1 r.2 in
        ok_to (DefinesOperator (written text t) x.0 y.0, y.1) z y.3 (λ v. Defines text ts s v.0 at v.1)
        (names_define s t at x.0 x.1 y.1 y.0 (t, i, e, refl) p n (has_kind ts s.column x.1 k.RightParen a.0) (has_kind ts s.column (x.1 + 1) k.Define b.0) (good s 0 (x.1 + 2) (y.0, y.1) y.2).0)

    function_sound : (s : Context) (t : Token) (at : ℕ) (z : Definition × ℕ) → seen ts s.column at ≡ Some t → t.kind ≡ k.Name → Has ts s.column k.LeftBracket (at + 1) → function text ts inner s t (at + 2) ≡ Ok z → Defines text ts s z.0 at z.1
    unfolding function
    function_sound s t at z i e p h =
        let x = bind_ok (groups text ts inner (length ts) [] s (at + 2)) _ z h in
        let a = need_ok (kind_at k.RightBracket (seen ts s.column x.1)) _ z x.3 in
        let b = need_ok (kind_at k.Define (seen ts s.column (x.1 + 1))) _ z a.1 in
        let y = bind_ok (inner s 0 (x.1 + 2)) _ z b.1 in
        let r = sequence_sound (GroupAt text ts s) (following ts s.column between.Comma) (group text ts inner s) (group_sound text ts inner good s) (length ts) [] (at + 2) (x.0, x.1) x.2 in
        let l = bound_of text ts r.0 s (at + 2) x.1 r.2 in
        ok_to (DefinesFunction (written text t) (binders x.0) y.0, y.1) z y.3 (λ v. Defines text ts s v.0 at v.1)
        (x.1, (t, i, e, refl), p, rw r.1 l, has_kind ts s.column x.1 k.RightBracket a.0, has_kind ts s.column (x.1 + 1) k.Define b.0, (good s 0 (x.1 + 2) (y.0, y.1) y.2).0)

    pub defined_sound : (s : Context) (t : Token) (at : ℕ) (z : Definition × ℕ) → seen ts s.column at ≡ Some t → t.kind ≡ k.Name → defined text ts inner s t at ≡ Ok z → Defines text ts s z.0 at z.1
    unfolding defined
    defined_sound s t at z i e h = elim (choice_ok (kind_at k.Define (seen ts s.column (at + 1))) _ _ (Ok z) h) [
      | inl w ↦
          let y = bind_ok (inner s 0 (at + 2)) _ z w.1 in
          ok_to (DefinesOperator (written text t) [] y.0, y.1) z y.3 (λ v. Defines text ts s v.0 at v.1) ((t, i, e, refl), has_kind ts s.column (at + 1) k.Define w.0, (good s 0 (at + 2) (y.0, y.1) y.2).0)
      | inr w ↦ (elim (choice_ok (kind_at k.LeftParen (seen ts s.column (at + 1))) _ _ (Ok z) w.1) [
        | inl v ↦ operator_sound s t at z i e (has_kind ts s.column (at + 1) k.LeftParen v.0) v.1
        | inr v ↦ (let n = need_ok (kind_at k.LeftBracket (seen ts s.column (at + 1))) _ z v.1 in function_sound s t at z i e (has_kind ts s.column (at + 1) k.LeftBracket n.0) n.1)
      ])
    ]

    pub definition_sound : (s : Context) (at : ℕ) (d : Definition) (to : ℕ) → definition text ts inner s at ≡ Ok (d, to) → Defines text ts s d at to
    unfolding definition
    definition_sound s at d to h = elim (at_op_ok (name_at (seen ts s.column at)) (Err Refused) _ (d, to) h) [
      | inl w ↦ absurd (let z : ⊥ = cc in z)
      | inr w ↦ (let n = name_is ts (seen ts s.column at) w.0 w.1 in defined_sound s w.0 at (d, to) n.0 n.1 w.2)
    ]

    pub lets_sound : (s : Context) (t : Token) (at : ℕ) (z : Tree × ℕ) → seen ts s.column at ≡ Some t → t.kind ≡ k.Let → lets text ts inner s t.place at ≡ Ok z → Whole text ts s at z
    unfolding lets
    lets_sound s t at z i e h floor =
        let x = bind_ok (definitions_at text ts inner (length ts) [] s (at + 1)) _ z h in
        let n = need_ok (kind_at k.In (seen ts s.column x.1)) _ z x.3 in
        let y = bind_ok (inner s 0 (x.1 + 1)) _ z n.1 in
        let r = sequence_sound (DefinesAt text ts s) (following ts s.column between.Nothing) (definition text ts inner s) (definition_sound s) (length ts) [] (at + 1) (x.0, x.1) x.2 in
        let l = defined_of text ts r.0 s (at + 1) x.1 r.2 in
        let d : Defined text ts s (definitions x.0) (at + 1) x.1 × (is_defined (definitions x.0) ≡ true) = rw r.1 l in
        ok_to (Let t.place (definitions x.0) y.0, y.1) z y.3 (Good text ts s floor at)
        ((x.1, (t, i, e, refl), d.0, has_kind ts s.column x.1 k.In n.0, (good s 0 (x.1 + 1) (y.0, y.1) y.2).0, d.1), refl)
