-- A module has at most one list of units, and a configuration at most one list of statements.
use Rattle.std.proofs.Common.{◌≡◌, ℕ, ◌+◌, Bool, true, false, List, [], ◌∷◌, ◌++◌, Option, Some, None, ◌⊎◌, inl, inr, length, slice_get, refl, sym, ap, subst, ◌∙◌, append_assoc, arith}
use Rattle.std.proofs.lemmas.Option.{slice_get_past}
use Rattle.tla_lex.specs.declared.lexeme.Source.TheVariants as source
use Rattle.tla_lex.specs.declared.scan.Stop.TheVariants.{End}
use Rattle.tla_lex.specs.declared.token.Kind.TheVariants as k
use Rattle.tla_lex.specs.declared.token.Place.{Place}
use Rattle.tla_lex.specs.declared.token.Token.{Token}
use Rattle.tla_lex.specs.Tokens.{AreTokens}
use Rattle.tla_lex.proofs.Module.{tokens_once}
use Rattle.tla_lex.proofs.SoFar.{reads_once}
use Rattle.tla_tree.specs.Units.{UnitTree}
use Rattle.tla_tree.specs.declared.word.Written.{Written}
use Rattle.tla_config.specs.Configuration.{Has, IsName, Names, SpellsItem, Items, SpellsStatement, SpellsStatements, IsConfiguration, kind_of}
use Rattle.tla_config.specs.Statements.{Item, Value, Replaces, Statement, Specification, Init, Next, Invariants, Constraints, Constants, CheckDeadlock}
use Rattle.tla_config.specs.Private.Fronts.{keyword_of}
use Rattle.tla_config.specs.Private.Gives.{Ends, GoesOn, AreNames}
use Rattle.tla_config.specs.Private.GivesValues.{AreItems}
use Rattle.tla_config.specs.declared.keyword.Keyword.{Keyword}
use Rattle.tla_config.proofs.Arms.{word_for, place_for, spelled_front}
use Rattle.tla_config.proofs.Fronts.{same_pair, one_name, comma_begins_none, name_begins_none, has_within, name_within}
use Rattle.tla_config.proofs.ItemLists.{ItemsSoFar, items_none, items_more, items_last}
use Rattle.tla_config.proofs.Literals.{two_kinds}
use Rattle.tla_config.proofs.NameLists.{NamesSoFar, Between, so_far_none, so_far_more, so_far_last}
use Rattle.tla_parse.specs.Parsing.{Justified}
use Rattle.tla_parse.specs.Units.{units_depth, SpellsModule}
use Rattle.tla_parse.specs.declared.error.ParseCode.{ParseCode}
use Rattle.tla_parse.specs.declared.error.ParseCode.TheVariants as parse
use Rattle.tla_parse.proofs.UnitsComplete.{module_complete}
use Rattle.tla_parse.proofs.Whole.{only}
use Rattle.tla_report.specs.declared.checked.RefusalCode.{RefusalCode}
use Rattle.tla_check.specs.CarriesOver.{parse_code}
use Rattle.tla_check.specs.Checks.{IsTreeOf}

module _ (text : List ℕ) (ts : List Token) where
  -- ---- lists of names and of items
  goes-on : (w : Written) (end next : ℕ) → Between text ts end next → IsName text ts w next → GoesOn text ts end (Some next)
  goes-on w end next (inl e) n = inr ((w, subst (λ m. IsName text ts w m) e n), e)
  goes-on w end next (inr d) n = inl d

  between : (at next : ℕ) → (next ≡ at + 1) ⊎ (Has text ts k.Comma (at + 1) × (next ≡ at + 2)) → Between text ts (at + 1) next
  between at next (inl e) = inl e
  between at next (inr d) = let e : at + 2 ≡ at + 1 + 1 = omega arith in inr (d.0, d.1 ∙ e)

  first-name : (w : Written) (ws : List Written) (at to : ℕ) → Names text ts (w ∷ ws) at to → IsName text ts w at
  first-name w [] at to x = x.0
  first-name w (v ∷ vs) at to x = x.0

  names-only : (front ws : List Written) (from at to : ℕ) → NamesSoFar text ts front from at → Names text ts ws at to → Ends text ts to → AreNames text ts (front ++ ws) from to
  names-only front [] from at to so x e = absurd x
  names-only front (w ∷ []) from at to so x e =
      subst (λ m. AreNames text ts (front ++ w ∷ []) from m) (sym x.1) (so_far_last text ts front from at w so x.0 (subst (λ m. Ends text ts m) x.1 e))
  names-only front (w ∷ v ∷ vs) from at to so x e =
      let more = so_far_more text ts front from at x.1 w so x.0 (goes-on v (at + 1) x.1 (between at x.1 x.2) (first-name v vs x.1 to x.3)) in
      subst (λ ys. AreNames text ts ys from to) (append_assoc front (w ∷ []) (v ∷ vs)) (names-only (front ++ w ∷ []) (v ∷ vs) from x.1 to more x.3 e)

  item-name : (i : Item) (at to : ℕ) → SpellsItem text ts i at to → (w : Written) × IsName text ts w at
  item-name (Value c v) at to x = (c, x.0)
  item-name (Replaces c f) at to x = (c, x.0)

  first-item : (i : Item) (is : List Item) (at to : ℕ) → Items text ts (i ∷ is) at to → (w : Written) × IsName text ts w at
  first-item i [] at to x = item-name i at to x
  first-item i (j ∷ js) at to x = item-name i at x.0 x.1

  items-only : (front is : List Item) (from at to : ℕ) → ItemsSoFar text ts front from at → Items text ts is at to → Ends text ts to → AreItems text ts (front ++ is) from to
  items-only front [] from at to so x e = absurd x
  items-only front (i ∷ []) from at to so x e = items_last text ts front from at to i so x e
  items-only front (i ∷ j ∷ js) from at to so x e =
      let n = first-item j js x.2 to x.4 in
      let more = items_more text ts front from at x.0 x.2 i so x.1 (goes-on n.0 x.0 x.2 x.3 n.1) in
      subst (λ ys. AreItems text ts ys from to) (append_assoc front (i ∷ []) (j ∷ js)) (items-only (front ++ i ∷ []) (j ∷ js) from x.2 to more x.4 e)

  names-once : (vs ws : List Written) (at to end : ℕ) → Names text ts vs at to → Names text ts ws at end → Ends text ts to → Ends text ts end → (ws ≡ vs) × (end ≡ to)
  names-once vs ws at to end x y e f = (names-only [] vs at at to (so_far_none text ts at) x e).only ws end y f

  items-once : (is js : List Item) (at to end : ℕ) → Items text ts is at to → Items text ts js at end → Ends text ts to → Ends text ts end → (js ≡ is) × (end ≡ to)
  items-once is js at to end x y e f = (items-only [] is at at to (items_none text ts at) x e).only js end y f

  -- ---- statements
  same-truth : (a b : Bool) (at : ℕ) → Has text ts (kind_of a) at → Has text ts (kind_of b) at → b ≡ a
  same-truth true true at x y = refl
  same-truth true false at x y = absurd (two_kinds text ts at k.True k.False (λ e. let z : ⊥ = cc in z) x y)
  same-truth false true at x y = absurd (two_kinds text ts at k.False k.True (λ e. let z : ⊥ = cc in z) x y)
  same-truth false false at x y = refl

  by-front : (c d : Statement) (at to end : ℕ) → word_for c ≡ word_for d → place_for d ≡ place_for c → SpellsStatement text ts c at to → SpellsStatement text ts d at end
      → Ends text ts to → Ends text ts end → (d ≡ c) × (end ≡ to)
  by-front (Specification p v) (Specification q w) at to end word place x y e f = let n = one_name text ts (at + 1) w v y.1 x.1 in (λ i. Specification (place i) (n i), y.2 ∙ sym x.2)
  by-front (Init p v) (Init q w) at to end word place x y e f = let n = one_name text ts (at + 1) w v y.1 x.1 in (λ i. Init (place i) (n i), y.2 ∙ sym x.2)
  by-front (Next p v) (Next q w) at to end word place x y e f = let n = one_name text ts (at + 1) w v y.1 x.1 in (λ i. Next (place i) (n i), y.2 ∙ sym x.2)
  by-front (Invariants p vs) (Invariants q ws) at to end word place x y e f =
      let n = names-once vs ws (at + 1) to end x.1 y.1 e f in
      let same = n.0 in
      (λ i. Invariants (place i) (same i), n.1)
  by-front (Constraints p vs) (Constraints q ws) at to end word place x y e f =
      let n = names-once vs ws (at + 1) to end x.1 y.1 e f in
      let same = n.0 in
      (λ i. Constraints (place i) (same i), n.1)
  by-front (Constants p is) (Constants q js) at to end word place x y e f =
      let n = items-once is js (at + 1) to end x.1 y.1 e f in
      let same = n.0 in
      (λ i. Constants (place i) (same i), n.1)
  by-front (CheckDeadlock p a) (CheckDeadlock q b) at to end word place x y e f = let t = same-truth a b (at + 1) x.1 y.1 in (λ i. CheckDeadlock (place i) (t i), y.2 ∙ sym x.2)
  by-front _ _ at to end word place x y e f = (let z : ⊥ = cc in absurd z)

  statement-once : (c d : Statement) (at to end : ℕ) → SpellsStatement text ts c at to → SpellsStatement text ts d at end → Ends text ts to → Ends text ts end → (d ≡ c) × (end ≡ to)
  statement-once c d at to end x y e f =
      let front = same_pair (word_for c, place_for c) (word_for d, place_for d) (sym (spelled_front text ts at c to x) ∙ spelled_front text ts at d end y) in
      by-front c d at to end (ap (λ (z : Keyword × Place). z.0) front) (ap (λ (z : Keyword × Place). z.1) (sym front)) x y e f

  -- no list continues where a statement begins, nor at the end
  front-ends : (c : Statement) (at to : ℕ) → SpellsStatement text ts c at to → Ends text ts at
  front-ends c at to x =
      let front = spelled_front text ts at c to x in
      record {
        no_comma = λ h. let n = comma_begins_none text ts at h in (let z : ⊥ = cc in z);
        no_name = λ w h. let n = name_begins_none text ts w at h in (let z : ⊥ = cc in z);
      }

  ends-last : Ends text ts (length ts)
  ends-last = record {
    no_comma = λ h. let n = has_within text ts k.Comma (length ts) h in absurd (omega arith);
    no_name = λ w h. let n = name_within text ts w (length ts) h in absurd (omega arith);
  }

  statements-end : (cs : List Statement) (at : ℕ) → SpellsStatements text ts cs at → Ends text ts at
  statements-end [] at x = subst (λ m. Ends text ts m) (sym x) ends-last
  statements-end (c ∷ cs) at x = front-ends c at x.0 x.1

  none-begins : (c : Statement) (at to : ℕ) → at ≡ length ts → SpellsStatement text ts c at to → ⊥
  none-begins c at to h x =
      let front = spelled_front text ts at c to x in
      let none : keyword_of text (slice_get ts at) ≡ None = ap (λ o. keyword_of text o) (slice_get_past ts at (omega arith)) in
      (let z : ⊥ = cc in z)

  statements-once : (cs ds : List Statement) (at : ℕ) → SpellsStatements text ts cs at → SpellsStatements text ts ds at → ds ≡ cs
  statements-once [] [] at x y = refl
  statements-once [] (d ∷ ds) at x y = absurd (none-begins d at y.0 x y.1)
  statements-once (c ∷ cs) [] at x y = absurd (none-begins c at x.0 y x.1)
  statements-once (c ∷ cs) (d ∷ ds) at x y =
      let first = statement-once c d at x.0 y.0 x.1 y.1 (statements-end cs x.0 x.2) (statements-end ds y.0 y.2) in
      let rest = statements-once cs ds x.0 x.2 (subst (λ m. SpellsStatements text ts ds m) first.1 y.2) in
      let same = first.0 in
      λ i. same i ∷ rest i

pub configuration-once : (config : List ℕ) (cs ds : List Statement) → IsConfiguration config cs → IsConfiguration config ds → ds ≡ cs
configuration-once config cs ds a b =
    let tokens = (reads_once source.Configuration config 0 b.tokens a.tokens (End b.end) (End a.end) b.reads a.reads).0 in
    statements-once config a.tokens cs ds 0 a.spelled (subst (λ ts. SpellsStatements config ts ds 0) tokens b.spelled)

-- ---- units
module _ (text : List ℕ) (tokens : List Token) (are : AreTokens text tokens) where
  spells-these : (us : List UnitTree) → IsTreeOf text us → SpellsModule text tokens us
  spells-these us tree = subst (λ ts. SpellsModule text ts us) (tokens_once text tree.tokens tokens tree.are are) tree.spelled

  -- where the tokens are refused, no units within the depth spell them
  pub no-tree : (code : ParseCode) (place : Option Place) (name : Option (List ℕ)) (refusal_code : RefusalCode) → Justified text tokens code place name → parse_code code ≡ Some refusal_code
      → (us : List UnitTree) → IsTreeOf text us → ⊥
  no-tree parse.Unexpected place name refusal_code why e us tree = why us (spells-these us tree)
  no-tree parse.Precedence place name refusal_code why e us tree = why us (spells-these us tree)
  no-tree parse.Column place name refusal_code why e us tree = why us (spells-these us tree)
  no-tree parse.Nesting place name refusal_code why e us tree = why us tree.shallow (spells-these us tree)
  no-tree parse.LeftOut place name refusal_code why e us tree = why.1 us (spells-these us tree)
  no-tree parse.NoMemory place name refusal_code why e us tree = let z : ⊥ = cc in z

pub units-once : (text : List ℕ) (us vs : List UnitTree) → IsTreeOf text us → IsTreeOf text vs → vs ≡ us
units-once text us vs a b =
    let read = module_complete text a.tokens (units_depth us) us a.spelled (omega arith) in
    only text a.tokens (units_depth us) a.spelled.0 us vs read (spells-these text a.tokens a.are vs b)
