-- Two results for the same two texts are alike.
use Rattle.std.proofs.Common.{◌≡◌, ℕ, Bool, true, false, not, ◌&&◌, List, [], ◌∷◌, Option, Some, None, Result, Ok, Err, inl, inr, is_some, refl, sym, ap, subst, ◌∙◌}
use Rattle.std.specs.Prelude.{IsTrue, option_map}
use Rattle.tla_lex.specs.Tokens.{NoTokens, IsFirstFault}
use Rattle.tla_lex.specs.declared.error.LexError.{LexError}
use Rattle.tla_lex.specs.declared.token.Place.{Place}
use Rattle.tla_lex.proofs.FaultOnce.{fault_once}
use Rattle.tla_lex.proofs.Module.{fault_means_none}
use Rattle.tla_tree.specs.declared.word.Written.{Written}
use Rattle.tla_tree.specs.Tree.{Tree}
use Rattle.tla_tree.specs.Units.{UnitTree}
use Rattle.tla_parse.specs.declared.error.ParseCode.{ParseCode}
use Rattle.tla_parse.specs.declared.error.ParseCode.TheVariants as parse
use Rattle.tla_config.specs.declared.error.DefsCode.{DefsCode}
use Rattle.tla_config.specs.declared.error.DefsCode.TheVariants as code
use Rattle.tla_config.specs.declared.error.DefsError.{DefsError}
use Rattle.tla_config.specs.declared.error.Source.{Source}
use Rattle.tla_config.specs.declared.error.Source.TheVariants.{Module, Configuration}
use Rattle.tla_config.specs.Refusals.{Explains}
use Rattle.tla_config.specs.Statements.{Item, Statement, items_of}
use Rattle.tla_config.specs.View.{ConfigTree}
use Rattle.tla_items.specs.Cycles.{AreStraight, IsFirstCycle}
use Rattle.tla_items.specs.References.{Reference, IsCircular, references}
use Rattle.tla_names.specs.Refusal.{refusal_of}
use Rattle.tla_defs.specs.Model.{assumptions_of, invariants_named, constraints_named}
use Rattle.tla_defs.specs.Refused as defs
use Rattle.tla_defs.specs.Refused.{Behaviour, Named, Specified, behaviour, refused, IsOfSome, of_assumption, of_initial, of_action, of_invariant, of_constraint}
use Rattle.tla_model.specs.ModelTree.{ModelTree}
use Rattle.tla_search.proofs.OneAnswer.{answered-once}
use Rattle.tla_report.specs.declared.checked.Answered.{Answered as AnsweredCheck}
use Rattle.tla_report.specs.declared.checked.Checked.TheVariants.{Answered, Refused, NoMemory, NoWorker}
use Rattle.tla_report.specs.declared.checked.Refusal.{Refusal}
use Rattle.tla_report.specs.declared.checked.RefusalCode.{RefusalCode}
use Rattle.tla_check.specs.CarriesOver.{CarriesOver, lex_code, parse_code, defs_code, place_of}
use Rattle.tla_report.specs.Codes.{is_named_code, is_first_code}
use Rattle.tla_check.specs.Checks.{IsAnswered, IsRefusal, of_tokens, of_module, of_configuration, of_model}
use Rattle.tla_check.specs.Laws.{ComeOutAlike}
use Rattle.tla_report.specs.Report.{report, refusal_line}
use Rattle.tla_report.specs.Status.{status_of}
use Rattle.tla_check.proofs.Once.{configuration-once, no-tree, units-once}

some-once : {A : Type 0} (o : Option A) (x y : A) → o ≡ Some x → o ≡ Some y → x ≡ y
some-once o x y h k = cc

-- ---- refusals
reported-once : (of : Source) (under : Option RefusalCode) (at : Option Place) (word : Option (List ℕ)) (r s : Refusal) → CarriesOver of under at word r → CarriesOver of under at word s
    → refusal_line r ≡ refusal_line s
reported-once of under at word r s a b =
    let source : r.source ≡ s.source = a.source ∙ sym b.source in
    let code : r.code ≡ s.code = some-once under r.code s.code a.code b.code in
    let place : r.place ≡ s.place = some-once (option_map place_of at) r.place s.place a.place b.place in
    let name : r.name ≡ s.name = a.name ∙ sym b.name in
    cc

-- ---- which codes are reported of what
abbrev is-first : Option RefusalCode → Bool
is-first None = false
is-first (Some refusal_code) = is_first_code refusal_code

-- of these, one without a name
abbrev is-nameless : Option RefusalCode → Bool
is-nameless None = false
is-nameless (Some refusal_code) = is_first_code refusal_code && not (is_named_code refusal_code)

contrary : (b : Bool) → b ≡ true → b ≡ false → ⊥
contrary b h k = cc

both : (a b : Bool) → a ≡ true → b ≡ false → (a && not b) ≡ true
both a b h k = rw (h, k) refl

parse-not-first : (c : ParseCode) → is-first (parse_code c) ≡ false
parse-not-first parse.Unexpected = refl
parse-not-first parse.Precedence = refl
parse-not-first parse.Column = refl
parse-not-first parse.Nesting = refl
parse-not-first parse.LeftOut = refl
parse-not-first parse.NoMemory = refl

explained-not-first : (config : List ℕ) (c : DefsCode) (place : Option Place) (name : Option (List ℕ)) → Explains config c place name → is-first (defs_code c) ≡ false
explained-not-first config code.ConfigurationText place name h = refl
explained-not-first config code.ExpansionTooLarge place name h = refl
explained-not-first config code.StatementLeftOut place name h = refl
explained-not-first config code.Memory place name h = refl
explained-not-first config _ place name h = absurd h

nameless-code : (c : DefsCode) → is-nameless (defs_code c) ≡ true → c ≡ code.BehaviourCount
nameless-code code.BehaviourCount h = refl
nameless-code _ h = (let z : ⊥ = cc in absurd z)

-- ---- the last steps have no name, and are not for the behaviour
abbrev IsLate : DefsError → Type 0
IsLate e = (e.name ≡ None) × (e.code ≡ code.BehaviourCount → ⊥)

not-late : (e : DefsError) (r : Refusal) → IsTrue (is_first_code r.code) → CarriesOver e.source (defs_code e.code) e.place e.name r → IsLate e → ⊥
not-late e r first over late =
    let unnamed : is_named_code r.code ≡ false = sym r.named ∙ ap is_some (over.name ∙ late.0) in
    let nameless : is-nameless (defs_code e.code) ≡ true = ap is-nameless over.code ∙ both (is_first_code r.code) (is_named_code r.code) first unnamed in
    late.1 (nameless-code e.code nameless)

module _ (us : List UnitTree) (cs : List Statement) (e : DefsError) where
  late-assumption : (σ : _) (ts : List Tree) → defs.IsOfAssumption σ ts e → IsLate e
  late-assumption σ [] x = absurd x
  late-assumption σ (t ∷ ts) (inl x) = (x.name, λ k. rw k at x.cause)
  late-assumption σ (t ∷ ts) (inr x) = late-assumption σ ts x

  late-predicate : (σ : _) (ws : List Written) → defs.IsOfPredicate σ ws e → IsLate e
  late-predicate σ [] x = absurd x
  late-predicate σ (w ∷ ws) (inl x) = (x.name, λ k. rw k at x.cause)
  late-predicate σ (w ∷ ws) (inr x) = late-predicate σ ws x

  late-formula : (σ : _) → IsOfSome us cs σ e → IsLate e
  late-formula σ (of_assumption x) = late-assumption σ (assumptions_of us) x
  late-formula σ (of_initial i a is x) = (x.name, λ k. rw k at x.cause)
  late-formula σ (of_action i a is x) = (x.name, λ k. rw k at x.cause)
  late-formula σ (of_invariant x) = late-predicate σ (invariants_named cs) x
  late-formula σ (of_constraint x) = late-predicate σ (constraints_named cs) x

  late-form : (σ : _) (b : Result Behaviour Place) → defs.IsFormRefused us (items_of cs) σ b e → IsLate e
  late-form σ (Ok (Specified p w)) (inl x) =
      (sym (ap (λ (f : DefsError). f.name) x.0), λ k. let same = ap (λ (f : DefsError). f.code) x.0 ∙ k in (let z : ⊥ = cc in z))
  late-form σ (Ok (Specified p w)) (inr x) = (x.0.name, λ k. let same = sym x.0.code ∙ k in (let z : ⊥ = cc in z))
  late-form σ (Ok (Named i n)) x = absurd x
  late-form σ (Err p) x = absurd x

  late-last : (b : Result Behaviour Place) → defs.IsLast us cs b e → IsLate e
  late-last b (σ, at, inl x) = late-form σ b x
  late-last b (σ, at, inr x) = late-formula σ x

-- ---- a refusal of an earlier step is the only one
module _ (ls : List Reference) where
  no-cycle : (is : List Item) (w : Written) → AreStraight ls is → IsFirstCycle ls is w → ⊥
  no-cycle [] w h k = k
  no-cycle (i ∷ is) w h (inl k) = h.0 (subst (λ (v : Written). IsCircular ls v.word) (sym k.0) k.1)
  no-cycle (i ∷ is) w h (inr k) = no-cycle is w h.1 k.1

  cycle-once : (is : List Item) (v w : Written) → IsFirstCycle ls is v → IsFirstCycle ls is w → v ≡ w
  cycle-once [] v w h k = absurd h
  cycle-once (i ∷ is) v w (inl h) (inl k) = sym h.0 ∙ k.0
  cycle-once (i ∷ is) v w (inl h) (inr k) = absurd (k.0 (subst (λ (x : Written). IsCircular ls x.word) (sym h.0) h.1))
  cycle-once (i ∷ is) v w (inr h) (inl k) = absurd (h.0 (subst (λ (x : Written). IsCircular ls x.word) (sym k.0) k.1))
  cycle-once (i ∷ is) v w (inr h) (inr k) = cycle-once is v w h.1 k.1

refused-once : (us : List UnitTree) (cs : List Statement) (o : Option DefsError) (b : Result Behaviour Place) (e f : DefsError) → (IsLate e → ⊥) → defs.refusal_is us cs o b e → defs.refusal_is us cs o b f → e ≡ f
refused-once us cs (Some r) b e f early h k = sym h ∙ k
refused-once us cs None b e f early (inl h) (inl k) =
    let same = cycle-once (references us (items_of cs)) (items_of cs) h.name k.name h.first k.first in
    sym h.refused ∙ ap (λ w. refusal_of code.CircularReplacement Configuration w) same ∙ k.refused
refused-once us cs None b e f early (inl h) (inr k) = absurd (no-cycle (references us (items_of cs)) (items_of cs) h.name k.0 h.first)
refused-once us cs None b e f early (inr h) k = absurd (early (late-last us cs e b h.1))

same-config : (c d : ConfigTree) → c.statements ≡ d.statements → c.end ≡ d.end → c ≡ d
same-config c d statements end = λ i. record { statements = statements i; end = end i }

module _ (text config : List ℕ) where
  -- if the module has no tokens, its first fault is reported
  by-tokens : (r : Refusal) → NoTokens text → IsRefusal text config r → (e : LexError) × IsFirstFault text e × CarriesOver Module (lex_code e.code) e.place None r
  by-tokens r none (of_tokens e first over) = (e, first, over)
  by-tokens r none (of_module tokens e are why over) = absurd (none tokens are)
  by-tokens r none (of_configuration units e tree none_said why over) = absurd (none tree.tokens tree.are)
  by-tokens r none (of_model units c e tree says end why unnamed over) = absurd (none tree.tokens tree.are)

  same-refusals : (r s : Refusal) → NoTokens text → IsRefusal text config r → IsRefusal text config s → refusal_line r ≡ refusal_line s
  same-refusals r s none h k =
      let a = by-tokens r none h in
      let b = by-tokens s none k in
      let same : b.0 ≡ a.0 = fault_once text b.0 a.0 b.1 a.1 in
      reported-once Module (lex_code a.0.code) a.0.place None r s a.2 (subst (λ (e : LexError). CarriesOver Module (lex_code e.code) e.place None s) same b.2)

  -- module and configuration have one tree and one list of statements, so the first refusal is the same
  same-models : (r s : Refusal) (us vs : List UnitTree) (c d : ConfigTree) (e f : DefsError) → IsTrue (is_first_code r.code) → us ≡ vs → c ≡ d
      → defs.IsRefusal us c e → defs.IsRefusal vs d f → CarriesOver e.source (defs_code e.code) e.place e.name r → CarriesOver f.source (defs_code f.code) f.place f.name s
      → refusal_line r ≡ refusal_line s
  same-models r s us vs c d e f first units config h k over past =
      let moved = subst (λ x. defs.IsRefusal vs x e) config (subst (λ x. defs.IsRefusal x c e) units h) in
      let same = refused-once vs d.statements (refused vs d) (behaviour d.statements d.end None None) e f (not-late e r first over) moved k in
      reported-once e.source (defs_code e.code) e.place e.name r s over (subst (λ (x : DefsError). CarriesOver x.source (defs_code x.code) x.place x.name s) (sym same) past)

  -- a refusal under such a code is of no tokens, or of the model
  same-first : (r s : Refusal) → IsTrue (is_first_code r.code) → IsRefusal text config r → IsRefusal text config s → refusal_line r ≡ refusal_line s
  same-first r s first (of_tokens e fault over) k = same-refusals r s (fault_means_none text e fault) (of_tokens e fault over) k
  same-first r s first (of_module tokens e are why over) k = absurd (contrary (is-first (parse_code e.code)) (ap is-first over.code ∙ first) (parse-not-first e.code))
  same-first r s first (of_configuration us e tree none why over) k =
      absurd (contrary (is-first (defs_code e.code)) (ap is-first over.code ∙ first) (explained-not-first config e.code e.place e.name why))
  same-first r s first (of_model us c e tree says end why unnamed over) (of_tokens f fault past) = absurd (fault_means_none text f fault tree.tokens tree.are)
  same-first r s first (of_model us c e tree says end why unnamed over) (of_module tokens f are because past) =
      absurd (no-tree text tokens are f.code f.place f.name s.code because past.code us tree)
  same-first r s first (of_model us c e tree says end why unnamed over) (of_configuration vs f other none because past) = absurd (none c.statements says)
  same-first r s first (of_model us c e tree says end why unnamed over) (of_model vs d f other said ends because nameless past) =
      same-models r s us vs c d e f first (units-once text vs us other tree) (same-config c d (configuration-once config d.statements c.statements said says) (end ∙ sym ends)) why because over past

  -- ---- answers
  same-answers : (m : ModelTree) (limit : ℕ) (a b : AnsweredCheck) → IsAnswered m limit a → IsAnswered m limit b
      → (report (Answered a) ≡ report (Answered b)) × (status_of (Answered a) ≡ status_of (Answered b))
  same-answers m limit a b h k =
      let variables : a.variables ≡ b.variables = h.variables ∙ sym k.variables in
      let invariants : a.invariants ≡ b.invariants = h.invariants ∙ sym k.invariants in
      let constraints : a.constraints ≡ b.constraints = h.constraints ∙ sym k.constraints in
      let most : a.limit ≡ b.limit = h.limit ∙ sym k.limit in
      let answer : a.answer ≡ b.answer = answered-once m limit a.answer b.answer h.answer k.answer in
      (cc, cc)

  pub come-out-alike : ComeOutAlike text config
  come-out-alike limit (Answered a) (Answered b) (m, names, h, exact) (n, only, k, sound) settled ended =
      let same : n ≡ m = names.only n only.named in
      let alike = same-answers m limit a b h (subst (λ (x : ModelTree). IsAnswered x limit b) same k) in
      record { status = alike.1; named = λ _ _. alike.0; no_tokens = λ _. alike.0; first = λ _. alike.0 }
  come-out-alike limit (Answered a) (Refused s) (m, names, h, exact) k settled ended = absurd (k.none m names.named)
  come-out-alike limit (Refused r) (Answered b) h (m, names, k, exact) settled ended = absurd (h.none m names.named)
  come-out-alike limit (Refused r) (Refused s) h k settled ended =
      record {
        status = refl;
        named = λ m named. absurd (h.none m named);
        no_tokens = λ none. same-refusals r s none h.stage k.stage;
        first = λ refusal_code. same-first r s refusal_code h.stage k.stage;
      }
  come-out-alike limit (Answered a) NoMemory h k settled ended = absurd ended
  come-out-alike limit (Answered a) NoWorker h k settled ended = absurd ended
  come-out-alike limit (Refused r) NoMemory h k settled ended = absurd ended
  come-out-alike limit (Refused r) NoWorker h k settled ended = absurd ended
  come-out-alike limit NoMemory b h k settled ended = absurd settled
  come-out-alike limit NoWorker b h k settled ended = absurd settled
