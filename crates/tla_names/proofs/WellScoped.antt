-- What is well scoped has no misuse, and what has no misuse is well scoped.
use Rattle.std.proofs.Common.{◌≡◌, ◌↔◌, refl, ◌++◌, [], ◌∷◌, List, Option, None}
use Rattle.tla_tree.specs.Tree.{Tree, Trees, none, more, Binders, unbound, bound, Arms, no_arms, arm, Other, no_other, other, Definition, DefinesOperator, DefinesFunction, Definitions, undefined, defined, Fields, no_fields, field, Key, AtIndex, AtField, Keys, no_keys, key, Updates, no_updates, update, names_of}
use Rattle.tla_tree.specs.Tree as t
use Rattle.tla_config.specs.Names.{Name, words}
use Rattle.tla_names.specs.Maybe.{or_else}
use Rattle.tla_names.specs.Operators.{infix_known, prefix_known, prefix_word}
use Rattle.tla_names.specs.Scope.{Scope, plain, signature, signatures, bound_names, field_names, count}
use Rattle.tla_names.specs.WellScoped.{AreNew, AreDistinct, IsWellScoped, AreWellScoped, HaveWellScopedSets, AreWellScopedArms, IsWellScopedOther, AreWellScopedFields, IsWellScopedKey, AreWellScopedKeys, AreWellScopedUpdates, IsWellScopedDefinition, AreWellScopedDefinitions}
use Rattle.tla_names.specs.Known.{Misuse, used, brought, new_name, again, if_not, misused, misused_each, misused_sets, misused_arms, misused_other, misused_fields, misused_key, misused_keys, misused_updates, misused_definition, misused_definitions}
use Rattle.tla_names.proofs.NewNames.{both, three, used_none, known_none, new_none, brought_none, brought_first, again_none, AreNewAfter, none_new, new_cons, new_append, after_none, all_unknown}

pub nothing : Unit {0} ↔ ◌≡◌ {A = Option Misuse} None None
nothing = (λ h. refl, λ h. tt)

-- the sets of a binder list, and then what is under its names
over_sets : {S B : Type 0} (σ : Scope) (xs : List Name) (o p : Option Misuse) → (AreNewAfter σ [] xs × S) ↔ (o ≡ None) → B ↔ (p ≡ None) → (AreNew σ xs × S × B) ↔ (or_else o p ≡ None)
over_sets σ xs o p f g =
    let all = both o p f g in
    let first = after_none σ xs in
    (λ h. all.0 ((first.0 h.0, h.1), h.2), λ e. let h = all.1 e in (first.1 h.0.0, h.0.1, h.1))

-- the other way round
under_sets : {S B : Type 0} (σ : Scope) (xs : List Name) (o p : Option Misuse) → (AreNewAfter σ [] xs × S) ↔ (o ≡ None) → B ↔ (p ≡ None) → (AreNew σ xs × S × B) ↔ (or_else p o ≡ None)
under_sets σ xs o p f g =
    let all = both p o g f in
    let first = after_none σ xs in
    (λ h. all.0 (h.2, (first.0 h.0, h.1)), λ e. let h = all.1 e in (first.1 h.1.0, h.1.1, h.0))

-- fields of a record, each name once
of_fields : {F : Type 0} (xs : List Name) (o : Option Misuse) → (AreNewAfter [] [] xs × F) ↔ (o ≡ None) → (AreDistinct xs × F) ↔ (o ≡ None)
of_fields xs o f = (λ h. f.0 ((after_none [] xs).0 ((all_unknown xs).0 h.0), h.1), λ e. let h = f.1 e in ((all_unknown xs).1 ((after_none [] xs).1 h.0), h.1))

mutual
  pub well_scoped : (ms : List Name) (σ : Scope) (e : Tree) → IsWellScoped ms σ e ↔ (misused ms σ e ≡ None)
  well_scoped ms σ (t.Name w) = used_none σ w 0
  well_scoped ms σ (t.Number at n) = nothing
  well_scoped ms σ (t.Text at s) = nothing
  well_scoped ms σ (t.Word at c) = nothing
  well_scoped ms σ (t.At at) = nothing
  well_scoped ms σ (t.Paren at e) = well_scoped ms σ e
  well_scoped ms σ (t.Listing at b es) = each_well_scoped ms σ es
  well_scoped ms σ (t.Call w es) = both (used σ w (count es)) (misused_each ms σ es) (used_none σ w (count es)) (each_well_scoped ms σ es)
  well_scoped ms σ (t.Prime at e) = well_scoped ms σ e
  well_scoped ms σ (t.Index at e es) = both (misused ms σ e) (misused_each ms σ es) (well_scoped ms σ e) (each_well_scoped ms σ es)
  well_scoped ms σ (t.Field at e w) = well_scoped ms σ e
  well_scoped ms σ (t.Unary at op e) = both (if_not (prefix_known ms op) at (prefix_word op)) (misused ms σ e) (known_none (prefix_known ms op) at (prefix_word op)) (well_scoped ms σ e)
  well_scoped ms σ (t.Binary at op w a b) =
      let all = three (misused ms σ a) (if_not (infix_known ms op) w.place w.word) (misused ms σ b) (well_scoped ms σ a) (known_none (infix_known ms op) w.place w.word) (well_scoped ms σ b) in
      (λ h. all.0 (h.1, h.0, h.2), λ e. let h = all.1 e in (h.1, h.0, h.2))
  well_scoped ms σ (t.Quantified at q bs e) = over_sets σ (bound_names bs) (misused_sets ms σ [] bs) (misused ms (σ ++ plain (bound_names bs)) e) (sets_well_scoped ms σ [] bs) (well_scoped ms (σ ++ plain (bound_names bs)) e)
  well_scoped ms σ (t.Choose at w s e) =
      three (brought σ [] (names_of w)) (misused ms σ s) (misused ms (σ ++ plain (words (names_of w))) e)
      (brought_first σ (names_of w)) (well_scoped ms σ s) (well_scoped ms (σ ++ plain (words (names_of w))) e)
  well_scoped ms σ (t.If at a b c) = three (misused ms σ a) (misused ms σ b) (misused ms σ c) (well_scoped ms σ a) (well_scoped ms σ b) (well_scoped ms σ c)
  well_scoped ms σ (t.Case at cs o) = both (misused_arms ms σ cs) (misused_other ms σ o) (arms_well_scoped ms σ cs) (other_well_scoped ms σ o)
  well_scoped ms σ (t.Let at ds e) = both (misused_definitions ms σ ds) (misused ms (σ ++ signatures ds) e) (definitions_well_scoped ms σ ds) (well_scoped ms (σ ++ signatures ds) e)
  well_scoped ms σ (t.Junction at b es) = each_well_scoped ms σ es
  well_scoped ms σ (t.Filter at w s e) =
      three (brought σ [] (names_of w)) (misused ms σ s) (misused ms (σ ++ plain (words (names_of w))) e)
      (brought_first σ (names_of w)) (well_scoped ms σ s) (well_scoped ms (σ ++ plain (words (names_of w))) e)
  well_scoped ms σ (t.Image at e bs) = under_sets σ (bound_names bs) (misused_sets ms σ [] bs) (misused ms (σ ++ plain (bound_names bs)) e) (sets_well_scoped ms σ [] bs) (well_scoped ms (σ ++ plain (bound_names bs)) e)
  well_scoped ms σ (t.Function at bs e) = over_sets σ (bound_names bs) (misused_sets ms σ [] bs) (misused ms (σ ++ plain (bound_names bs)) e) (sets_well_scoped ms σ [] bs) (well_scoped ms (σ ++ plain (bound_names bs)) e)
  well_scoped ms σ (t.FunctionSet at s e) = both (misused ms σ s) (misused ms σ e) (well_scoped ms σ s) (well_scoped ms σ e)
  well_scoped ms σ (t.Record at fs) = of_fields (field_names fs) (misused_fields ms σ [] fs) (fields_well_scoped ms σ [] fs)
  well_scoped ms σ (t.RecordSet at fs) = of_fields (field_names fs) (misused_fields ms σ [] fs) (fields_well_scoped ms σ [] fs)
  well_scoped ms σ (t.Except at e us) = both (misused ms σ e) (misused_updates ms σ us) (well_scoped ms σ e) (updates_well_scoped ms σ us)
  well_scoped ms σ (t.Action at step a v) = both (misused ms σ a) (misused ms σ v) (well_scoped ms σ a) (well_scoped ms σ v)
  well_scoped ms σ (t.Fair at f v a) = both (misused ms σ v) (misused ms σ a) (well_scoped ms σ v) (well_scoped ms σ a)
  well_scoped ms σ (t.Product at e es) = both (misused ms σ e) (misused_each ms σ es) (well_scoped ms σ e) (each_well_scoped ms σ es)

  each_well_scoped : (ms : List Name) (σ : Scope) (es : Trees) → AreWellScoped ms σ es ↔ (misused_each ms σ es ≡ None)
  each_well_scoped ms σ none = nothing
  each_well_scoped ms σ (more e es) = both (misused ms σ e) (misused_each ms σ es) (well_scoped ms σ e) (each_well_scoped ms σ es)

  sets_well_scoped : (ms : List Name) (σ : Scope) (new : List Name) (bs : Binders) → (AreNewAfter σ new (bound_names bs) × HaveWellScopedSets ms σ bs) ↔ (misused_sets ms σ new bs ≡ None)
  sets_well_scoped ms σ new unbound = (λ h. refl, λ e. (none_new σ new, tt))
  sets_well_scoped ms σ new (bound w s bs) =
      let xs = words (names_of w) in
      let names = new_append σ new xs (bound_names bs) in
      let all = three (brought σ new (names_of w)) (misused ms σ s) (misused_sets ms σ (new ++ xs) bs) (brought_none σ new (names_of w)) (well_scoped ms σ s) (sets_well_scoped ms σ (new ++ xs) bs) in
      (λ h. let n = names.0 h.0 in all.0 (n.0, h.1.0, (n.1, h.1.1)), λ e. let h = all.1 e in (names.1 (h.0, h.2.0), (h.1, h.2.1)))

  arms_well_scoped : (ms : List Name) (σ : Scope) (cs : Arms) → AreWellScopedArms ms σ cs ↔ (misused_arms ms σ cs ≡ None)
  arms_well_scoped ms σ no_arms = nothing
  arms_well_scoped ms σ (arm g e cs) = three (misused ms σ g) (misused ms σ e) (misused_arms ms σ cs) (well_scoped ms σ g) (well_scoped ms σ e) (arms_well_scoped ms σ cs)

  other_well_scoped : (ms : List Name) (σ : Scope) (o : Other) → IsWellScopedOther ms σ o ↔ (misused_other ms σ o ≡ None)
  other_well_scoped ms σ no_other = nothing
  other_well_scoped ms σ (other e) = well_scoped ms σ e

  fields_well_scoped : (ms : List Name) (σ : Scope) (before : List Name) (fs : Fields) → (AreNewAfter [] before (field_names fs) × AreWellScopedFields ms σ fs) ↔ (misused_fields ms σ before fs ≡ None)
  fields_well_scoped ms σ before no_fields = (λ h. refl, λ e. (none_new [] before, tt))
  fields_well_scoped ms σ before (field w e fs) =
      let names = new_cons [] before w.word (field_names fs) in
      let all = three (again before w) (misused ms σ e) (misused_fields ms σ (before ++ w.word ∷ []) fs) (again_none before w) (well_scoped ms σ e) (fields_well_scoped ms σ (before ++ w.word ∷ []) fs) in
      (λ h. let n = names.0 h.0 in all.0 (n.0, h.1.0, (n.1, h.1.1)), λ e. let h = all.1 e in (names.1 (h.0, h.2.0), (h.1, h.2.1)))

  key_well_scoped : (ms : List Name) (σ : Scope) (k : Key) → IsWellScopedKey ms σ k ↔ (misused_key ms σ k ≡ None)
  key_well_scoped ms σ (AtIndex es) = each_well_scoped ms σ es
  key_well_scoped ms σ (AtField w) = nothing

  keys_well_scoped : (ms : List Name) (σ : Scope) (ks : Keys) → AreWellScopedKeys ms σ ks ↔ (misused_keys ms σ ks ≡ None)
  keys_well_scoped ms σ no_keys = nothing
  keys_well_scoped ms σ (key k ks) = both (misused_key ms σ k) (misused_keys ms σ ks) (key_well_scoped ms σ k) (keys_well_scoped ms σ ks)

  updates_well_scoped : (ms : List Name) (σ : Scope) (us : Updates) → AreWellScopedUpdates ms σ us ↔ (misused_updates ms σ us ≡ None)
  updates_well_scoped ms σ no_updates = nothing
  updates_well_scoped ms σ (update ks e us) = three (misused_keys ms σ ks) (misused ms σ e) (misused_updates ms σ us) (keys_well_scoped ms σ ks) (well_scoped ms σ e) (updates_well_scoped ms σ us)

  pub definition_well_scoped : (ms : List Name) (σ : Scope) (d : Definition) → IsWellScopedDefinition ms σ d ↔ (misused_definition ms σ d ≡ None)
  definition_well_scoped ms σ (DefinesOperator w ps e) =
      three (new_name σ w) (brought σ [] ps) (misused ms (σ ++ plain (words ps)) e) (new_none σ w) (brought_first σ ps) (well_scoped ms (σ ++ plain (words ps)) e)
  definition_well_scoped ms σ (DefinesFunction w bs e) =
      let rest = over_sets σ (bound_names bs) (misused_sets ms σ [] bs) (misused ms (σ ++ plain (bound_names bs)) e) (sets_well_scoped ms σ [] bs) (well_scoped ms (σ ++ plain (bound_names bs)) e) in
      let all = both (new_name σ w) (or_else (misused_sets ms σ [] bs) (misused ms (σ ++ plain (bound_names bs)) e)) (new_none σ w) rest in
      (λ h. all.0 (h.0, (h.1, h.2, h.3)), λ e. let h = all.1 e in (h.0, h.1.0, h.1.1, h.1.2))

  definitions_well_scoped : (ms : List Name) (σ : Scope) (ds : Definitions) → AreWellScopedDefinitions ms σ ds ↔ (misused_definitions ms σ ds ≡ None)
  definitions_well_scoped ms σ undefined = nothing
  definitions_well_scoped ms σ (defined d ds) = both (misused_definition ms σ d) (misused_definitions ms (σ ++ signature d ∷ []) ds) (definition_well_scoped ms σ d) (definitions_well_scoped ms (σ ++ signature d ∷ []) ds)
