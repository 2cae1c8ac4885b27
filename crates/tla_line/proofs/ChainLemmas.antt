-- Arguments that are added in turn to a new command: which have a value in every parse.
use Rattle.std.proofs.Common.{zero, suc, ◌≡◌, ◌∙◌, ◌++◌, subst, ◌<◌, ap, ap₂, ◌&&◌, ◌||◌, ℕ, Bool, true, false, not, List, [], ◌∷◌, length, map, codes, refl, sym, inl, inr, arith}
use Rattle.std.specs.Prelude.{⊤}
use Rattle.std.specs.List.{All, slice_index_or, list_all}
use Rattle.std.specs.Str.{bytes_eq}
use Rattle.std.proofs.lemmas.List.{append-nil, append_assoc}
use Rattle.std.proofs.lemmas.List.Elements.{All-cons, All-nil, All-tail}
use Rattle.clap.specs.Facts.{args_of, groups_of}
use Rattle.clap.specs.Walk.{Text}
use Rattle.clap.specs.Built.{AddsArg, AddsInTurn, FitsChain, HasDistinctIds, IsParsedFrom, IsPlain, IsPlainArg, KeepsList, SameRules}
use Rattle.clap.proofs.CallerLemmas.{added_plain}
use Rattle.clap.specs.declared.builder.arg.Arg.{Arg}
use Rattle.clap.specs.declared.builder.command.Command.{Command}
use Rattle.clap.specs.declared.builder.command.Command.TheViews.{out-Command}
use Rattle.clap.specs.declared.parser.matches.ArgMatches.{ArgMatches}
use Rattle.tla_line.specs.Private.Parsing.{AlwaysHasValue, HasValue, IsArgument}
use Rattle.tla_line.proofs.EntryLemmas.{IsOwn, own_has_value}

-- two lists with the same rules, index by index, still have them with one more in front
chain_places : (x y : Arg) (xs ys : List Arg) → SameRules x y
    → ((k : ℕ) (e g : Arg) → k < length xs → SameRules (slice_index_or xs k e) (slice_index_or ys k g))
    → (k : ℕ) (e g : Arg) → k < length (x ∷ xs) → SameRules (slice_index_or (x ∷ xs) k e) (slice_index_or (y ∷ ys) k g)
chain_places x y xs ys r rest zero e g lt = r
chain_places x y xs ys r rest (suc n) e g lt = rest n e g (omega arith)

-- the invariant of a chain: the arguments that it adds, index by index, and a command of the same kind
chain_facts : (c d : Command) (xs : List Arg) → AddsInTurn AddsArg c xs d → All FitsChain xs → IsPlain c
    → (out-Command c).has_globals ≡ false → (out-Command c).subcommand_negates_reqs ≡ false
    → (ys : List Arg) × (args_of d ≡ args_of c ++ ys) × KeepsList xs ys × IsPlain d
    × ((out-Command d).has_globals ≡ false) × ((out-Command d).subcommand_negates_reqs ≡ false)
chain_facts c d [] h all plain globals negates =
    ([], rw h (sym (append-nil _)), (refl, (λ k e f lt. absurd (omega arith))), rw (← h) plain, rw (← h) globals, rw (← h) negates)
chain_facts c d (x ∷ xs) h all plain globals negates =
    let added = h.1 in
    let fit = all 0 x (omega arith) in
    let plain2 = added_plain c h.0 x added plain fit.0 in
    let globals2 = added.globals ∙ (ap (λ b. b || x.global) globals ∙ ap (λ b. false || b) fit.1) in
    let f = chain_facts h.0 d xs h.2 (All-tail FitsChain x xs all) plain2 globals2 (added.negates ∙ negates) in (
      added.arg ∷ f.0,
      f.1 ∙ (ap (λ l. l ++ f.0) added.args ∙ append_assoc (args_of c) (added.arg ∷ []) f.0),
      (ap suc f.2.0, chain_places x added.arg xs f.0 added.rules f.2.1),
      f.3,
      f.4,
      f.5,
    )

-- whether an argument always has a value depends only on its rules
same_value : (a b : Arg) → SameRules a b → AlwaysHasValue a → AlwaysHasValue b
same_value a b s v = record {
  used = elim v.used [
    | inl required ↦ inl (s.required ∙ required)
    | inr wants ↦ inr (s.ifs ∙ wants.0, rw (s.defaults wants.1) wants.1)
  ];
  action = s.action _ v.action;
  delimiter = s.val_delim ∙ v.delimiter;
  least = s.least v.action v.least;
}

-- an argument of a chain from a new command has a value in each parse, if it always has one
value_in_chain : (start cmd : Command) (xs : List Arg) (k : ℕ) (d : Arg) (m : ArgMatches) → AddsInTurn AddsArg start xs cmd
    → args_of start ≡ [] → groups_of start ≡ [] → (out-Command start).has_globals ≡ false → (out-Command start).subcommand_negates_reqs ≡ false
    → All FitsChain xs → HasDistinctIds xs → AlwaysHasValue (slice_index_or xs k d) → k < length xs → IsParsedFrom cmd m
    → HasValue m (slice_index_or xs k d).id.now
value_in_chain start cmd xs k d m chain args groups globals negates all distinct value lt p =
    let start-plain : IsPlain start = (subst (All IsPlainArg) (sym args) (All-nil IsPlainArg), groups) in
    let f = chain_facts start cmd xs chain all start-plain globals negates in
    let list : args_of cmd ≡ f.0 = f.1 ∙ ap (λ l. l ++ f.0) args in
    let a = slice_index_or xs k d in
    let b = slice_index_or (args_of cmd) k d in
    let elem : b ≡ slice_index_or f.0 k d = ap (λ l. slice_index_or l k d) list in
    let rules : SameRules a b = subst (SameRules a) (sym elem) (f.2.1 k d d lt) in
    let fit = all k d lt in
    let same-now : b.id.now ≡ a.id.now = ap (λ x. x.now) rules.id in
    let len : length (args_of cmd) ≡ length xs = ap length list ∙ f.2.0 in
    let only : (j : ℕ) (e : Arg) → j < length (args_of cmd) → bytes_eq (slice_index_or (args_of cmd) j e).id.now b.id.now ≡ true → j ≡ k =
    λ j e low same.
    let in-xs : j < length xs = omega arith in
    let there : (slice_index_or (args_of cmd) j e).id ≡ (slice_index_or xs j e).id =
    ap (λ x. x.id) (ap (λ l. slice_index_or l j e) list) ∙ (f.2.1 j e e in-xs).id in
    distinct j k d e in-xs lt (rw (← ap (λ x. x.now) there, ← same-now) same) in
    let own : IsOwn cmd k d = record {
      plain = f.3;
      globals = f.4;
      negates = f.5;
      place = omega arith;
      unique = only;
      named = λ empty. fit.2 (sym same-now ∙ empty);
      own = λ auto. fit.3 (elim auto [ inl h ↦ inl (sym same-now ∙ h) | inr h ↦ inr (sym same-now ∙ h) ]);
    } in
    subst (HasValue m) same-now (own_has_value cmd m p k d own (same_value a b rules value))

-- ---- ids, as tests

-- the id is none of those that `clap` adds
abbrev pub is_own_id : Text → Bool
is_own_id id = not (bytes_eq id []) && (not (bytes_eq id (codes "help")) && not (bytes_eq id (codes "version")))

fits_chain : (a : Arg) (id : Text) → a.id.now ≡ id → IsPlainArg a → a.global ≡ false → is_own_id id ≡ true → FitsChain a
fits_chain a id same plain local own = (
  plain,
  local,
  λ empty. let bad : is_own_id [] ≡ true = subst (λ t. is_own_id t ≡ true) (sym same ∙ empty) own in cc,
  λ auto. elim auto [
    | inl help ↦ let bad : is_own_id (codes "help") ≡ true = subst (λ t. is_own_id t ≡ true) (sym same ∙ help) own in cc
    | inr version ↦ let bad : is_own_id (codes "version") ≡ true = subst (λ t. is_own_id t ≡ true) (sym same ∙ version) own in cc
  ],
)

-- no text occurs twice
abbrev pub has_no_repeat : List Text → Bool
has_no_repeat [] = true
has_no_repeat (x ∷ xs) = list_all (λ y. not (bytes_eq x y) && not (bytes_eq y x)) xs && has_no_repeat xs

abbrev pub ids_of : List Arg → List Text
ids_of = map (λ a. a.id.now)

differs : (x : Arg) (xs : List Arg) (k : ℕ) (d : Arg) → k < length xs
    → list_all (λ y. not (bytes_eq x.id.now y) && not (bytes_eq y x.id.now)) (ids_of xs) ≡ true
    → (bytes_eq x.id.now (slice_index_or xs k d).id.now ≡ false) × (bytes_eq (slice_index_or xs k d).id.now x.id.now ≡ false)
differs x [] k d lt h = absurd (omega arith)
differs x (y ∷ xs) zero d lt h = (grind (arith, h), grind (arith, h))
differs x (y ∷ xs) (suc k) d lt h = differs x xs k d (omega arith) (grind (arith, h))

distinct_ids : (xs : List Arg) → has_no_repeat (ids_of xs) ≡ true → HasDistinctIds xs
distinct_ids [] h j k d e low lt same = absurd (omega arith)
distinct_ids (x ∷ xs) h zero zero d e low lt same = refl
distinct_ids (x ∷ xs) h zero (suc k) d e low lt same =
    let no = differs x xs k d (omega arith) (grind (arith, h)) in
    let bad : true ≡ false = sym same ∙ no.0 in
    cc
distinct_ids (x ∷ xs) h (suc j) zero d e low lt same =
    let no = differs x xs j e (omega arith) (grind (arith, h)) in
    let bad : true ≡ false = sym same ∙ no.1 in
    cc
distinct_ids (x ∷ xs) h (suc j) (suc k) d e low lt same =
    ap suc (distinct_ids xs (grind (arith, h)) j k d e (omega arith) (omega arith) same)

-- ---- a chain of arguments with these ids

abbrev pub AreArguments : List Text → List Arg → Type 0
AreArguments [] [] = ⊤
AreArguments (id ∷ ids) (a ∷ xs) = IsArgument id a × AreArguments ids xs
AreArguments _ _ = ⊥

named_ids : (ids : List Text) (xs : List Arg) → AreArguments ids xs → ids_of xs ≡ ids
named_ids [] [] h = refl
named_ids [] (a ∷ xs) h = absurd h
named_ids (id ∷ ids) [] h = absurd h
named_ids (id ∷ ids) (a ∷ xs) h = ap₂ (λ i is. i ∷ is) h.0.name (named_ids ids xs h.1)

all_fit : (ids : List Text) (xs : List Arg) → AreArguments ids xs → list_all is_own_id ids ≡ true → All FitsChain xs
all_fit [] [] h own = All-nil FitsChain
all_fit [] (a ∷ xs) h own = absurd h
all_fit (id ∷ ids) [] h own = absurd h
all_fit (id ∷ ids) (a ∷ xs) h own =
    All-cons FitsChain a xs (fits_chain a id h.0.name h.0.plain h.0.local (grind (arith, own))) (all_fit ids xs h.1 (grind (arith, own)))

-- in a parse of a new command with the arguments xs, each of them has a value that always has one
pub each_has_value : (start cmd : Command) (ids : List Text) (xs : List Arg) (m : ArgMatches) → AddsInTurn AddsArg start xs cmd
    → args_of start ≡ [] → groups_of start ≡ [] → (out-Command start).has_globals ≡ false → (out-Command start).subcommand_negates_reqs ≡ false
    → AreArguments ids xs → list_all is_own_id ids ≡ true → has_no_repeat ids ≡ true → IsParsedFrom cmd m
    → (k : ℕ) (d : Arg) → k < length xs → AlwaysHasValue (slice_index_or xs k d) → HasValue m (slice_index_or xs k d).id.now
each_has_value start cmd ids xs m chain args groups globals negates named own once p k d lt value =
    value_in_chain start cmd xs k d m chain args groups globals negates (all_fit ids xs named own)
    (distinct_ids xs (ap has_no_repeat (named_ids ids xs named) ∙ once)) value lt p
