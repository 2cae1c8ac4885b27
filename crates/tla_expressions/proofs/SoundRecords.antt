-- Records and updates that are read are spelled so.
use Rattle.std.proofs.Common.{◌≡◌, ℕ, ◌+◌, true, inl, inr, length, List, [], Some, Ok, Err, refl}
use Rattle.tla_lex.specs.declared.token.Token.{Token}
use Rattle.tla_lex.specs.declared.token.Kind.{Kind}
use Rattle.tla_lex.specs.declared.token.Kind.TheVariants as k
use Rattle.tla_grammar.specs.declared.context.Context.{Context}
use Rattle.tla_grammar.specs.declared.tokens.Between.TheVariants as between
use Rattle.tla_tree.specs.Tree.{Tree, Entry, Key, Change, fields, keys, updates, AtIndex, AtField, Record, RecordSet, Except}
use Rattle.tla_tree.specs.Words.{written}
use Rattle.tla_grammar.specs.Tokens.{seen, Has}
use Rattle.tla_grammar.specs.Kinds.{kind_at}
use Rattle.tla_grammar.specs.Grammar.{Spells, Fielded, Leads, Selects, Updated, is_path, updating}
use Rattle.tla_grammar.specs.Outcome.{Outcome, Refused}
use Rattle.tla_grammar.specs.Marks.{name_at, following}
use Rattle.tla_expressions.specs.ReadingLists.{some}
use Rattle.tla_expressions.specs.ReadingBrackets.{entry, entries, record_of, records_of, key_at, path, change, changes, except}
use Rattle.tla_grammar.proofs.Inversion.{ok_to, bind_ok, need_ok, at_op_ok, choice_ok, has_kind, has_name}
use Rattle.tla_expressions.proofs.Sequence.{sequence_sound}
use Rattle.tla_expressions.proofs.ListsRecords.{EntryAt, KeyAt, ChangeAt, fielded_of, leads_of, updated_of}
use Rattle.tla_expressions.proofs.SoundParts.{Closed, Good, some_sound}

module _ (text : List ℕ) (ts : List Token) where
  module _ (inner : Context → ℕ → ℕ → Outcome Tree) (good : (s : Context) (floor at : ℕ) (z : Tree × ℕ) → inner s floor at ≡ Ok z → Good text ts s floor at z) where
    entry_sound : (s : Context) (mark : Kind) (at : ℕ) (c : Entry) (to : ℕ) → entry text ts inner s mark at ≡ Ok (c, to) → EntryAt text ts s mark c at to
    unfolding entry
    entry_sound s mark at c to h = elim (at_op_ok (name_at (seen ts s.column at)) (Err Refused) _ (c, to) h) [
      | inl w ↦ absurd (let z : ⊥ = cc in z)
      | inr w ↦
          let n = need_ok (kind_at mark (seen ts s.column (at + 1))) _ (c, to) w.2 in
          let x = bind_ok (inner s 0 (at + 2)) _ (c, to) n.1 in
          ok_to ((written text w.0, x.0), x.1) (c, to) x.3 (λ v. EntryAt text ts s mark v.0 at v.1) (has_name ts text s.column at w.0 w.1, has_kind ts s.column (at + 1) mark n.0, (good s 0 (at + 2) (x.0, x.1) x.2).0)
    ]

    entries_sound : (s : Context) (mark : Kind) (at : ℕ) (z : List Entry × ℕ) → entries text ts inner (length ts) [] s mark at ≡ Ok z → Fielded text ts s mark (fields z.0) at z.1
    entries_sound s mark at z h =
        let r = sequence_sound (EntryAt text ts s mark) (following ts s.column between.Comma) (entry text ts inner s mark) (entry_sound s mark) (length ts) [] at z h in
        let l = fielded_of text ts r.0 s mark at z.1 r.2 in rw r.1 l

    pub record_sound : (s : Context) (t : Token) (at : ℕ) (z : Tree × ℕ) → seen ts s.column at ≡ Some t → t.kind ≡ k.LeftBracket → record_of text ts inner s t.place at ≡ Ok z → Closed text ts s at z
    unfolding record_of
    record_sound s t at z i e h =
        let x = bind_ok (entries text ts inner (length ts) [] s k.MapsTo (at + 1)) _ z h in
        let n = need_ok (kind_at k.RightBracket (seen ts s.column x.1)) _ z x.3 in
        ok_to (Record t.place (fields x.0), x.1 + 1) z n.1 (Closed text ts s at) ((x.1, (t, i, e, refl), entries_sound s k.MapsTo (at + 1) (x.0, x.1) x.2, has_kind ts s.column x.1 k.RightBracket n.0, refl), refl)

    pub record_set_sound : (s : Context) (t : Token) (at : ℕ) (z : Tree × ℕ) → seen ts s.column at ≡ Some t → t.kind ≡ k.LeftBracket → records_of text ts inner s t.place at ≡ Ok z → Closed text ts s at z
    unfolding records_of
    record_set_sound s t at z i e h =
        let x = bind_ok (entries text ts inner (length ts) [] s k.Colon (at + 1)) _ z h in
        let n = need_ok (kind_at k.RightBracket (seen ts s.column x.1)) _ z x.3 in
        ok_to (RecordSet t.place (fields x.0), x.1 + 1) z n.1 (Closed text ts s at) ((x.1, (t, i, e, refl), entries_sound s k.Colon (at + 1) (x.0, x.1) x.2, has_kind ts s.column x.1 k.RightBracket n.0, refl), refl)

    key_sound : (s : Context) (at : ℕ) (x : Key) (to : ℕ) → key_at text ts inner s at ≡ Ok (x, to) → KeyAt text ts s x at to
    unfolding key_at
    key_sound s at x to h = elim (choice_ok (kind_at k.LeftBracket (seen ts s.column at)) _ _ (Ok (x, to)) h) [
      | inl w ↦
          let y = bind_ok (some text ts inner s k.RightBracket (at + 1)) _ (x, to) w.1 in
          let l = some_sound text ts inner good s k.RightBracket (at + 1) (y.0, y.1) y.2 in
          ok_to (AtIndex y.0, y.1) (x, to) y.3 (λ v. Selects text ts s v.0 at v.1) (has_kind ts s.column at k.LeftBracket w.0, l.0, l.1)
      | inr w ↦
          let n = need_ok (kind_at k.Dot (seen ts s.column at)) _ (x, to) w.1 in
          elim (at_op_ok (name_at (seen ts s.column (at + 1))) (Err Refused) _ (x, to) n.1) [
            | inl v ↦ absurd (let z : ⊥ = cc in z)
            | inr v ↦ ok_to (AtField (written text v.0), at + 2) (x, to) v.2 (λ u. Selects text ts s u.0 at u.1) (has_kind ts s.column at k.Dot n.0, has_name ts text s.column (at + 1) v.0 v.1, refl)
          ]
    ]

    path_sound : (s : Context) (at : ℕ) (z : List Key × ℕ) → path text ts inner (length ts) [] s at ≡ Ok z → Leads text ts s (keys z.0) at z.1 × (is_path (keys z.0) ≡ true)
    path_sound s at z h =
        let r = sequence_sound (KeyAt text ts s) (following ts s.column between.Key) (key_at text ts inner s) (key_sound s) (length ts) [] at z h in
        let l = leads_of text ts r.0 s at z.1 r.2 in rw r.1 l

    change_sound : (s : Context) (at : ℕ) (c : Change) (to : ℕ) → change text ts inner s at ≡ Ok (c, to) → ChangeAt text ts s c at to
    unfolding change
    change_sound s at c to h =
        let a = need_ok (kind_at k.Bang (seen ts s.column at)) _ (c, to) h in
        let x = bind_ok (path text ts inner (length ts) [] s (at + 1)) _ (c, to) a.1 in
        let n = need_ok (kind_at k.Equal (seen ts s.column x.1)) _ (c, to) x.3 in
        let y = bind_ok (inner (updating s) 0 (x.1 + 1)) _ (c, to) n.1 in
        let l = path_sound s (at + 1) (x.0, x.1) x.2 in
        ok_to ((keys x.0, y.0), y.1) (c, to) y.3 (λ v. ChangeAt text ts s v.0 at v.1) (x.1, has_kind ts s.column at k.Bang a.0, l.0, l.1, has_kind ts s.column x.1 k.Equal n.0, (good (updating s) 0 (x.1 + 1) (y.0, y.1) y.2).0)

    pub except_sound : (s : Context) (t : Token) (from at : ℕ) (f : Tree) (z : Tree × ℕ) → seen ts s.column from ≡ Some t → t.kind ≡ k.LeftBracket → Spells text ts s f (from + 1) at → Has ts s.column k.Except at
        → except text ts inner s t.place f at ≡ Ok z → Closed text ts s from z
    unfolding except
    except_sound s t from at f z i e p m h =
        let x = bind_ok (changes text ts inner (length ts) [] s (at + 1)) _ z h in
        let n = need_ok (kind_at k.RightBracket (seen ts s.column x.1)) _ z x.3 in
        let r = sequence_sound (ChangeAt text ts s) (following ts s.column between.Comma) (change text ts inner s) (change_sound s) (length ts) [] (at + 1) (x.0, x.1) x.2 in
        let l = updated_of text ts r.0 s (at + 1) x.1 r.2 in
        let u : Updated text ts s (updates x.0) (at + 1) x.1 = rw r.1 l in
        ok_to (Except t.place f (updates x.0), x.1 + 1) z n.1 (Closed text ts s from) ((at, x.1, (t, i, e, refl), p, m, u, has_kind ts s.column x.1 k.RightBracket n.0, refl), refl)
