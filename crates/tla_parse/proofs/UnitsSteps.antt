-- How the readings of units go on, and stop.
use Rattle.std.proofs.Common.{◌≡◌, ℕ, ◌+◌, max, Bool, true, false, not, ◌&&◌, ◌||◌, map, List, [], ◌∷◌, ◌++◌, Some, None, Ok, Err, refl, ap, sym, subst, add-one, arith}
use Rattle.tla_lex.specs.declared.token.Token.{Token}
use Rattle.tla_lex.specs.declared.token.Kind.{Kind}
use Rattle.tla_lex.specs.declared.token.Kind.TheVariants as k
use Rattle.tla_grammar.specs.LeftOut.{IsExtended}
use Rattle.tla_tree.specs.declared.word.Written.{Written}
use Rattle.tla_grammar.specs.declared.refusal.Refusal.{Refusal}
use Rattle.tla_grammar.specs.Refusals.{Fails}
use Rattle.tla_grammar.proofs.Fails.{fails_bind}
use Rattle.tla_tree.specs.declared.unit.Unit.{Unit}
use Rattle.tla_tree.specs.UnitsView.{unit_view}
use Rattle.tla_grammar.specs.Modules.{is_module}
use Rattle.tla_tree.specs.Words.{word_of, written}
use Rattle.tla_grammar.specs.Tokens.{seen, KindAt}
use Rattle.tla_grammar.specs.Kinds.{kind_at}
use Rattle.tla_grammar.specs.Outcome.{Outcome, Refused, ◌>>=◌, need}
use Rattle.tla_grammar.specs.Marks.{name_at}
use Rattle.tla_tree.specs.Units.{UnitTree}
use Rattle.tla_parse.specs.Units.{is_separator, unit_depth, units_depth}
use Rattle.tla_parse.specs.Private.UnitsReading.{modules, blanks, unit_by, unit, units}

-- kinds of tokens that begin a unit
abbrev Not : Kind → Kind → Type 0
Not kind other = kind ≡ other → ⊥

pub record BeginsNone (kind : Kind) : Type 0 where
  pub not_name : Not kind k.Name
  pub not_separator : Not kind k.Separator
  pub not_extends : Not kind k.Extends
  pub not_variable : Not kind k.Variable
  pub not_local : Not kind k.Local
  pub not_constant : Not kind k.Constant
  pub not_assume : Not kind k.Assume
  pub not_theorem : Not kind k.Theorem

module _ (text : List ℕ) (ts : List Token) where
  pub modules_more : (n m : ℕ) (front : List Written) (at : ℕ) (t : Token) → n ≡ m + 1 → name_at (seen ts 0 at) ≡ Some t → is_module (word_of text t) ≡ true
      → kind_at k.Comma (seen ts 0 (at + 1)) ≡ true → modules text ts n front at ≡ modules text ts m (front ++ written text t ∷ []) (at + 2)
  unfolding modules
  modules_more n m front at t h p i q = rw (h, add-one, p, i, q) refl

  pub modules_last : (n m : ℕ) (front : List Written) (at : ℕ) (t : Token) → n ≡ m + 1 → name_at (seen ts 0 at) ≡ Some t → is_module (word_of text t) ≡ true
      → kind_at k.Comma (seen ts 0 (at + 1)) ≡ false → modules text ts n front at ≡ Ok (front ++ written text t ∷ [], at + 1)
  unfolding modules
  modules_last n m front at t h p i q = rw (h, add-one, p, i, q) refl

  pub modules_none : (n m : ℕ) (front : List Written) (at : ℕ) → n ≡ m + 1 → name_at (seen ts 0 at) ≡ None → modules text ts n front at ≡ Err Refused
  unfolding modules
  modules_none n m front at h p = rw (h, add-one, p) refl

  pub modules_unknown : (n m : ℕ) (front : List Written) (at : ℕ) (t : Token) → n ≡ m + 1 → name_at (seen ts 0 at) ≡ Some t → is_module (word_of text t) ≡ false
      → modules text ts n front at ≡ Err Refused
  unfolding modules
  modules_unknown n m front at t h p i = rw (h, add-one, p, i) refl

  pub modules_full : (n : ℕ) (front : List Written) (at : ℕ) → n ≡ 0 → modules text ts n front at ≡ Err Refused
  unfolding modules
  modules_full n front at z = rw z refl

  pub blanks_more : (n m count at : ℕ) → n ≡ m + 1 → (kind_at k.Comma (seen ts 0 at) && kind_at k.Underscore (seen ts 0 (at + 1))) ≡ true → blanks ts n count at ≡ blanks ts m (count + 1) (at + 2)
  unfolding blanks
  blanks_more n m count at h p = rw (h, add-one, p) refl

  pub blanks_last : (n m count at : ℕ) → n ≡ m + 1 → (kind_at k.Comma (seen ts 0 at) && kind_at k.Underscore (seen ts 0 (at + 1))) ≡ false → ◌≡◌ {A = ℕ × ℕ} (blanks ts n count at) (count, at)
  unfolding blanks
  blanks_last n m count at h p = rw (h, add-one, p) refl

  pub blanks_full : (n count at : ℕ) → n ≡ 0 → ◌≡◌ {A = ℕ × ℕ} (blanks ts n count at) (count, at)
  unfolding blanks
  blanks_full n count at z = rw z refl

  other_by : (n : ℕ) (t : Token) (at : ℕ) (kind : Kind) → BeginsNone kind → unit_by text ts n t at kind ≡ Err Refused
  other_by n t at k.Name b = absurd (b.not_name refl)
  other_by n t at k.Separator b = absurd (b.not_separator refl)
  other_by n t at k.Extends b = absurd (b.not_extends refl)
  other_by n t at k.Variable b = absurd (b.not_variable refl)
  other_by n t at k.Local b = absurd (b.not_local refl)
  other_by n t at k.Constant b = absurd (b.not_constant refl)
  other_by n t at k.Assume b = absurd (b.not_assume refl)
  other_by n t at k.Theorem b = absurd (b.not_theorem refl)
  other_by n t at _ b = refl

  -- a token that begins no unit
  pub unit_other : (n : ℕ) (t : Token) (at : ℕ) → seen ts 0 at ≡ Some t → BeginsNone t.kind → unit text ts n at ≡ Err Refused
  unfolding unit
  unit_other n t at h b = rw h (other_by n t at t.kind b)

  -- one name more under EXTENDS
  pub extended_more : (n m at : ℕ) → m ≡ n + 1 → IsExtended ts n at → KindAt ts at k.Name → KindAt ts (at + 1) k.Comma → IsExtended ts m (at + 2)
  extended_more n m at h x y z = rw (h, add-one) (at, x, y, z, refl)

  pub units_done : (n m l : ℕ) (front : List UnitTree) (first : Bool) (at : ℕ) → m ≡ l + 1 → kind_at k.Closing (seen ts 0 at) ≡ true → units text ts n m front first at ≡ Ok (front, at)
  unfolding units
  units_done n m l front first at h p = rw (h, add-one, p) refl

  pub units_is : (n m l : ℕ) (front : List UnitTree) (first : Bool) (at : ℕ) → m ≡ l + 1 → kind_at k.Closing (seen ts 0 at) ≡ false
      → units text ts n m front first at ≡ need (first || not (kind_at k.Extends (seen ts 0 at))) (unit text ts n at >>= λ u end. units text ts n l (front ++ u ∷ []) (first && is_separator u) end)
  unfolding units
  units_is n m l front first at h p = rw (h, add-one, p) refl

  pub units_more : (n m l : ℕ) (front : List UnitTree) (first : Bool) (at : ℕ) (u : UnitTree) (end : ℕ) → m ≡ l + 1 → kind_at k.Closing (seen ts 0 at) ≡ false
      → unit text ts n at ≡ Ok (u, end) → (first || not (kind_at k.Extends (seen ts 0 at))) ≡ true
      → units text ts n m front first at ≡ units text ts n l (front ++ u ∷ []) (first && is_separator u) end
  units_more n m l front first at u end h p q e = rw (units_is n m l front first at h p, q, e) refl

  pub units_late : (n m l : ℕ) (front : List UnitTree) (first : Bool) (at : ℕ) → m ≡ l + 1 → kind_at k.Closing (seen ts 0 at) ≡ false
      → (first || not (kind_at k.Extends (seen ts 0 at))) ≡ false → units text ts n m front first at ≡ Err Refused
  units_late n m l front first at h p e = rw (units_is n m l front first at h p, e) refl

  pub units_fails : (x : Refusal) (n m l : ℕ) (front : List UnitTree) (first : Bool) (at : ℕ) → m ≡ l + 1 → kind_at k.Closing (seen ts 0 at) ≡ false
      → (first || not (kind_at k.Extends (seen ts 0 at))) ≡ true → Fails text ts x (unit text ts n at) → Fails text ts x (units text ts n m front first at)
  units_fails x n m l front first at h p e f =
      let P : Outcome (List UnitTree) → Type 0 = λ y. Fails text ts x y in
      subst P (sym (units_is n m l front first at h p)) (rw e (fails_bind text ts x (unit text ts n at) _ f))

  pub units_full : (n m : ℕ) (front : List UnitTree) (first : Bool) (at : ℕ) → m ≡ 0 → units text ts n m front first at ≡ Err Refused
  unfolding units
  units_full n m front first at z = rw z refl

pub units_depth_snoc : (front : List UnitTree) (u : UnitTree) → units_depth (front ++ u ∷ []) ≡ max (units_depth front) (unit_depth u)
units_depth_snoc [] u = grind arith
units_depth_snoc (v ∷ front) u = let h = units_depth_snoc front u in grind (arith, h)

pub map_snoc : (xs : List Unit) (x : Unit) → map unit_view (xs ++ x ∷ []) ≡ map unit_view xs ++ unit_view x ∷ []
map_snoc [] x = refl
map_snoc (y ∷ xs) x = ap (λ zs. unit_view y ∷ zs) (map_snoc xs x)
