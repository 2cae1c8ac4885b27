-- An argument that is required or has a default has a value in each parse that succeeds.
use Rattle.std.proofs.Common.{zero, suc, ◌≡◌, ◌∙◌, ◌<◌, ℕ, Bool, true, false, List, [], ◌∷◌, length, is_some, Option, Some, None, refl, sym, inl, inr, arith}
use Rattle.std.specs.List.{slice_index_or}
use Rattle.std.specs.Str.{bytes_eq}
use Rattle.std.specs.Prelude.{find, option_map, slice_get}
use Rattle.std.specs.Borrow.{Bor}
use Rattle.std.proofs.lemmas.Slice.Eq.{bytes_eq-Decides}
use Rattle.clap.specs.declared.builder.action.ArgAction.TheVariants.{Count, Set}
use Rattle.clap.specs.Facts.{args_of, groups_of, IsParsed, HasIn, Entry, EntryPasses}
use Rattle.clap.specs.Built.{IsPlain, IsParsedFrom, IsAuto}
use Rattle.clap.specs.Matches.{matched_of, found_of, has_subcommand}
use Rattle.clap.proofs.CallerLemmas.{default_present, entry_by_id, present_has_entry, required_present, same_rules_by_id}
use Rattle.clap.specs.declared.parser.matches.MatchedArg.{MatchedArg}
use Rattle.clap.specs.declared.builder.arg.Arg.{Arg}
use Rattle.clap.specs.declared.builder.command.Command.{Command}
use Rattle.clap.specs.declared.builder.command.Command.TheViews.{out-Command}
use Rattle.clap.specs.declared.parser.matches.ArgMatches.{ArgMatches}
use Rattle.tla_line.specs.Private.Parsing.{AlwaysHasValue, HasValue}

-- an id that exists is found
has_entry : (xs : List Entry) (id : List ℕ) → HasIn xs id → is_some (option_map (λ e. e.1) (find (λ e. bytes_eq e.0.now id) xs)) ≡ true
has_entry [] id h = absurd (omega (arith, h.1))
has_entry (x ∷ xs) id h = go (bytes_eq x.0.now id) refl h.0 h.1 h.2 (has_entry xs id)
  where
    go : (t : Bool) → bytes_eq x.0.now id ≡ t → (i : ℕ) → i < length (x ∷ xs)
        → ((d : Entry) → bytes_eq (slice_index_or (x ∷ xs) i d).0.now id ≡ true)
        → (HasIn xs id → is_some (option_map (λ e. e.1) (find (λ e. bytes_eq e.0.now id) xs)) ≡ true)
        → is_some (option_map (λ e. e.1) (find (λ e. bytes_eq e.0.now id) (x ∷ xs))) ≡ true
    go true t i lt hit rest = rw t refl
    go false t zero lt hit rest = let bad : false ≡ true = sym t ∙ hit x in cc
    go false t (suc i) lt hit rest = rw t (rest (i, omega arith, λ d. hit d))

-- what such an argument requires of a command: nothing excludes anything, no other argument has its id,
-- and it is none of those that building adds
pub record IsOwn (old : Command) (k : ℕ) (d : Arg) : Type 0 where
  pub plain : IsPlain old
  pub globals : (out-Command old).has_globals ≡ false
  pub negates : (out-Command old).subcommand_negates_reqs ≡ false
  pub place : k < length (args_of old)
  pub unique : (j : ℕ) (e : Arg) → j < length (args_of old)
      → bytes_eq (slice_index_or (args_of old) j e).id.now (slice_index_or (args_of old) k d).id.now ≡ true → j ≡ k
  pub named : (slice_index_or (args_of old) k d).id.now ≡ [] → ⊥
  pub own : IsAuto (slice_index_or (args_of old) k d) → ⊥

is_found : (old : Command) (m : ArgMatches) → IsParsedFrom old m → (k : ℕ) (d : Arg) → IsOwn old k d
    → AlwaysHasValue (slice_index_or (args_of old) k d)
    → is_some (matched_of (found_of m) (slice_index_or (args_of old) k d).id.now) ≡ true
is_found old m p k d o a = elim a.used [
  | inl required ↦ present_has_entry (found_of m) _ (required_present old m p o.plain o.globals o.negates k d o.place required)
  | inr wants ↦ has_entry (found_of m).entries.items _ (default_present old m p o.globals k d o.place wants)
]

first_some : (xs : List (Bor (List ℕ))) → 0 < length xs → is_some (option_map (λ s. s.now) (slice_get xs 0)) ≡ true
first_some [] lt = absurd (omega arith)
first_some (x ∷ xs) lt = refl

pub own_has_value : (old : Command) (m : ArgMatches) → IsParsedFrom old m → (k : ℕ) (d : Arg) → IsOwn old k d
    → AlwaysHasValue (slice_index_or (args_of old) k d) → HasValue m (slice_index_or (args_of old) k d).id.now
own_has_value old m p k d o a =
    go (matched_of (found_of m) (slice_index_or (args_of old) k d).id.now) refl (is_found old m p k d o a) (p.parsed (p.from.globals ∙ o.globals))
  where
    go : (entry : Option MatchedArg) → matched_of (found_of m) (slice_index_or (args_of old) k d).id.now ≡ entry
        → is_some (matched_of (found_of m) (slice_index_or (args_of old) k d).id.now) ≡ true
        → IsParsed p.built (found_of m) (has_subcommand m) → HasValue m (slice_index_or (args_of old) k d).id.now
    go None e some parsed = cc
    go (Some x) e some parsed =
        let got = entry_by_id (EntryPasses p.built) (found_of m).entries.items (slice_index_or (args_of old) k d).id.now x parsed.values e in
        let same_x : got.0.1 ≡ x = got.1 in
        let key_id : got.0.0.now ≡ (slice_index_or (args_of old) k d).id.now = (bytes_eq-Decides _ _).0 got.2 in
        let no_groups : groups_of p.built ≡ [] = (p.from.plain o.plain).1 in
        elim got.3.1 [
          | inl h ↦ elim h.1 [
            | inl empty ↦ absurd (o.named (sym key_id ∙ empty))
            | inr has ↦
                let bad : 0 < 0 = rw no_groups at has in
                absurd (omega arith)
          ]
          | inr (inl v) ↦ rw e (first_some x.vals.items (rw same_x at v))
          | inr (inr (inl h)) ↦
              let any = h.1 in
              let s = same_rules_by_id old m p k d o.place o.unique o.own any.0 any.1 any.2 any.3 (rw key_id at any.4.0) in
              let is_set : any.1.action ≡ Some Set = s.action Set a.action in
              let bad : Set ≡ Count = rw is_set at any.4.1 in
              cc
          | inr (inr (inr h)) ↦
              let s = same_rules_by_id old m p k d o.place o.unique o.own h.0 h.1 h.2 h.3 (rw key_id at h.4.0) in
              elim h.4.1 [
                | inl none ↦
                    let one = s.least a.action a.least in
                    absurd (omega arith)
                | inr has ↦
                    let bad : false ≡ true = rw (s.val_delim, a.delimiter) at has in
                    cc
              ]
        ]
