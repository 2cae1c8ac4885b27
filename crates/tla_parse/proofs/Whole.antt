-- The laws of a whole list of tokens.
use Rattle.std.proofs.Common.{◌≡◌, ℕ, zero, suc, ◌+◌, not, ◌&&◌, ◌||◌, Bool, List, [], ◌∷◌, ◌++◌, length, Ok, Err, inl, inr, true, refl, sym, ◌∙◌, arith}
use Rattle.tla_lex.specs.declared.token.Token.{Token}
use Rattle.tla_lex.specs.declared.token.Kind.{Kind}
use Rattle.tla_lex.specs.declared.token.Kind.TheVariants as k
use Rattle.tla_grammar.specs.Tokens.{seen}
use Rattle.tla_grammar.specs.Kinds.{kind_at}
use Rattle.tla_tree.specs.Units.{UnitTree}
use Rattle.tla_parse.specs.Units.{is_separator, units_depth, outermost, SpellsModule}
use Rattle.tla_grammar.specs.Outcome.{Outcome, Refused, Nested}
use Rattle.tla_expressions.specs.Reading.{definition, expr}
use Rattle.tla_parse.specs.Private.UnitsReading.{claim_name, claim, unit_by, unit, units, whole}
use Rattle.tla_parse.specs.Parsing.{NoneSpells, NoneSpellsWithin}
use Rattle.tla_grammar.proofs.Inversion.{ok_to}
use Rattle.tla_expressions.proofs.DeeperLists.{Refines, bind, needs, ops, choices}
use Rattle.tla_expressions.proofs.Deeper.{definition_deeper, deeper}
use Rattle.tla_parse.proofs.UnitsSound.{module_sound}
use Rattle.tla_parse.proofs.UnitsComplete.{module_complete}

-- what is refused stays refused, and what is read stays read, with more levels
refused_steady : {A : Type 0} (f : ℕ → Outcome A) → ((n : ℕ) → Refines (f n) (f (suc n))) → (n m : ℕ) → f n ≡ Err Refused → f (m + n) ≡ Err Refused
refused_steady f d n zero h = let e : 0 + n ≡ n = omega arith in rw e h
refused_steady f d n (suc m) h =
    let e : suc m + n ≡ suc (m + n) = omega arith in
    let i = refused_steady f d n m h in
    rw e (elim (d (m + n)) [ inl w ↦ absurd (let z : ⊥ = cc in z) | inr w ↦ sym w ∙ i ])

module _ (text : List ℕ) (ts : List Token) where
  definitions : (n at : ℕ) → Refines (definition text ts (expr text ts n) outermost at) (definition text ts (expr text ts (suc n)) outermost at)
  definitions n at = definition_deeper text ts (expr text ts n) (expr text ts (suc n)) (deeper text ts n) outermost at

  claims : (n at : ℕ) → Refines (claim text ts n at) (claim text ts (suc n) at)
  unfolding claim
  claims n at = ops (claim_name ts at) _ _ _ _
      (bind (expr text ts n outermost 0 at) (expr text ts (suc n) outermost 0 at) _ _ (deeper text ts n outermost 0 at) (λ e end. inr refl))
      (λ t. bind (expr text ts n outermost 0 (at + 2)) (expr text ts (suc n) outermost 0 (at + 2)) _ _ (deeper text ts n outermost 0 (at + 2)) (λ e end. inr refl))

  kinds : (n : ℕ) (t : Token) (at : ℕ) (kind : Kind) → Refines (unit_by text ts n t at kind) (unit_by text ts (suc n) t at kind)
  kinds n t at k.Name = bind (definition text ts (expr text ts n) outermost at) (definition text ts (expr text ts (suc n)) outermost at) _ _ (definitions n at) (λ d end. inr refl)
  kinds n t at k.Local = bind (definition text ts (expr text ts n) outermost (at + 1)) (definition text ts (expr text ts (suc n)) outermost (at + 1)) _ _ (definitions n (at + 1)) (λ d end. inr refl)
  kinds n t at k.Assume = bind (claim text ts n (at + 1)) (claim text ts (suc n) (at + 1)) _ _ (claims n (at + 1)) (λ c end. inr refl)
  kinds n t at k.Theorem = bind (claim text ts n (at + 1)) (claim text ts (suc n) (at + 1)) _ _ (claims n (at + 1)) (λ c end. inr refl)
  kinds n t at _ = inr refl

  unit_deeper : (n at : ℕ) → Refines (unit text ts n at) (unit text ts (suc n) at)
  unfolding unit
  unit_deeper n at = ops (seen ts 0 at) _ _ _ _ (inr refl) (λ t. kinds n t at t.kind)

  units_deeper : (n m : ℕ) (front : List UnitTree) (first : Bool) (at : ℕ) → Refines (units text ts n m front first at) (units text ts (suc n) m front first at)
  unfolding units
  units_deeper n zero front first at = inr refl
  units_deeper n (suc m) front first at = choices (kind_at k.Closing (seen ts 0 at)) _ _ _ _ (inr refl)
      (needs (first || not (kind_at k.Extends (seen ts 0 at))) _ _
      (bind (unit text ts n at) (unit text ts (suc n) at) _ _ (unit_deeper n at) (λ u end. units_deeper n m (front ++ u ∷ []) (first && is_separator u) end)))

  module_deeper : (n : ℕ) → Refines (whole text ts n) (whole text ts (suc n))
  unfolding whole
  module_deeper n = needs (kind_at k.Name (seen ts 0 0)) _ _ (needs (kind_at k.Separator (seen ts 0 1)) _ _
      (bind (units text ts n (length ts) [] true 2) (units text ts (suc n) (length ts) [] true 2) _ _ (units_deeper n (length ts) [] true 2) (λ us end. inr refl)))

  pub found : (n end : ℕ) (us : List UnitTree) → whole text ts n ≡ Ok (us, end) → SpellsModule text ts us
  found n end us h = module_sound text ts n us end h

  pub only : (n end : ℕ) (us vs : List UnitTree) → whole text ts n ≡ Ok (us, end) → SpellsModule text ts vs → vs ≡ us
  only n end us vs h x =
      let s = found n end us h in
      let y = module_complete text ts (units_depth us + units_depth vs) us s (omega arith) in
      let w = module_complete text ts (units_depth us + units_depth vs) vs x (omega arith) in
      ok_to (vs, x.0) (us, s.0) (sym w ∙ y) (λ z. vs ≡ z.0) refl

  pub refused : (n : ℕ) → whole text ts n ≡ Err Refused → NoneSpells text ts
  refused n h us x =
      let y = refused_steady (whole text ts) module_deeper n (units_depth us) h in
      let w = module_complete text ts (units_depth us + n) us x (omega arith) in
      let z : ⊥ = cc in z

  pub too_deep : (n : ℕ) → whole text ts n ≡ Err Nested → NoneSpellsWithin text ts n
  too_deep n h us d x = let w = module_complete text ts n us x d in let z : ⊥ = cc in z
