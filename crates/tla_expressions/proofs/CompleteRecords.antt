-- Records and updates that are spelled are read.
use Rattle.std.proofs.Common.{◌≡◌, ℕ, ◌+◌, ◌<◌, ◌≤◌, true, false, length, List, [], ◌∷◌, Some, Ok, refl, arith}
use Rattle.tla_lex.specs.SameKind.{same_kind}
use Rattle.tla_lex.specs.declared.token.Place.{Place}
use Rattle.tla_lex.specs.declared.token.Token.{Token}
use Rattle.tla_lex.specs.declared.token.Kind.{Kind}
use Rattle.tla_lex.specs.declared.token.Kind.TheVariants as k
use Rattle.tla_grammar.specs.declared.context.Context.{Context}
use Rattle.tla_grammar.specs.declared.tokens.Between.TheVariants as between
use Rattle.tla_tree.specs.declared.word.Written.{Written}
use Rattle.tla_tree.specs.Tree.{Tree, Fields, Key, Keys, Updates, Entry, Change, no_fields, field, AtIndex, AtField, no_keys, key, no_updates, update, Record, RecordSet, Except}
use Rattle.tla_grammar.specs.Edges.{depth, fields_depth, key_depth, keys_depth, updates_depth}
use Rattle.tla_grammar.specs.Tokens.{goes_on, Has, Writes}
use Rattle.tla_grammar.specs.Grammar.{Spells, Fielded, MoreFields, Leads, Selects, Updated, MoreUpdates, is_path, updating}
use Rattle.tla_expressions.specs.Reading.{expr}
use Rattle.tla_grammar.specs.Marks.{following}
use Rattle.tla_expressions.specs.ReadingBrackets.{entry, entries, record_of, records_of, key_at, path, change, changes, except}
use Rattle.tla_expressions.proofs.Sequence.{Behind, Follows, follows_fit, sequence_complete}
use Rattle.tla_expressions.proofs.NameLists.{seen_within, named}
use Rattle.tla_expressions.proofs.Lists.{comma_here, rises}
use Rattle.tla_expressions.proofs.ListsRecords.{entry_list, key_list, change_list, fields_list, keys_list, updates_list}
use Rattle.tla_expressions.proofs.Shapes.{selects_advance, leads_rise}
use Rattle.tla_expressions.proofs.Comes.{Comes, AllFields, KeyComes, AllKeys, AllUpdates, before_plain}
use Rattle.tla_expressions.proofs.CompleteLists.{bracket_ends, no_more, some_complete}

module _ (text : List ℕ) (ts : List Token) where
  -- ---- fields

  abbrev EntryRead : ℕ → Context → Kind → Entry → ℕ → ℕ → Type 0
  EntryRead n s mark c from to = (entry text ts (expr text ts n) s mark from ≡ Ok (c, to)) × (from < to)

  entry_read : (w : Written) (e : Tree) → Comes text ts e → (n : ℕ) (s : Context) (mark : Kind) (from to : ℕ) (kind : Kind) → same_kind mark mark ≡ true → Writes ts text s.column k.Name w from → Has ts s.column mark (from + 1)
      → Spells text ts s e (from + 2) to → Has ts s.column kind to → goes_on kind ≡ false → depth e ≤ n → EntryRead n s mark (w, e) from to
  unfolding entry
  entry_read w e h n s mark from to kind same x m y has plain d =
      let r = before_plain text ts e h n s (from + 2) to kind y has plain d in
      let name = named text ts s.column from w x in
      let l = r.1 in
      (rw (name, m.1, m.2, same, r.0, x.3) refl, omega (arith, l))

  fields_next : (fs : Fields) (s : Context) (mark : Kind) (from to : ℕ) → MoreFields text ts s mark fs from to → Has ts s.column k.RightBracket to → (kind : Kind) × Has ts s.column kind from × (goes_on kind ≡ false)
  fields_next no_fields s mark from to x h = (k.RightBracket, rw (← x) h, refl)
  fields_next (field w e fs) s mark from to x h = (k.Comma, x.1, refl)

  more_fields_read : (fs : Fields) → AllFields text ts fs → (n : ℕ) (s : Context) (mark : Kind) (from to : ℕ) → same_kind mark mark ≡ true → MoreFields text ts s mark fs from to → Has ts s.column k.RightBracket to → fields_depth fs ≤ n
      → Behind (EntryRead n s mark) (following ts s.column between.Comma) (entry_list fs) from to
  more_fields_read no_fields h n s mark from to same x has d = (no_more text ts s.column from k.RightBracket (rw (← x) has) bracket_ends, x)
  more_fields_read (field w e fs) h n s mark from to same x has d =
      let y = fields_next fs s mark x.0 to x.5 has in
      let p : from + 1 + 1 ≡ from + 2 = omega arith in
      let q : from + 1 + 2 ≡ from + 3 = omega arith in
      let m : Has ts s.column mark (from + 1 + 1) = rw p x.3 in
      let b : Spells text ts s e (from + 1 + 2) x.0 = rw q x.4 in
      (from + 1, x.0, comma_here text ts s.column from x.1, entry_read w e h.0 n s mark (from + 1) x.0 y.0 same x.2 m b y.1 y.2 (omega (arith, d)), more_fields_read fs h.1 n s mark x.0 to same x.5 has (omega (arith, d)))

  entries_complete : (fs : Fields) → AllFields text ts fs → (n : ℕ) (s : Context) (mark : Kind) (from to : ℕ) → same_kind mark mark ≡ true → Fielded text ts s mark fs from to → Has ts s.column k.RightBracket to → fields_depth fs ≤ n
      → entries text ts (expr text ts n) (length ts) [] s mark from ≡ Ok (entry_list fs, to)
  entries_complete no_fields h n s mark from to same x has d = absurd x
  entries_complete (field w e fs) h n s mark from to same x has d =
      let y = fields_next fs s mark x.0 to x.4 has in
      let r = entry_read w e h.0 n s mark from x.0 y.0 same x.1 x.2 x.3 y.1 y.2 (omega (arith, d)) in
      let f : Follows (EntryRead n s mark) (following ts s.column between.Comma) ((w, e) ∷ entry_list fs) from to = (x.0, r, more_fields_read fs h.1 n s mark x.0 to same x.4 has (omega (arith, d))) in
      let fit = follows_fit (EntryRead n s mark) (following ts s.column between.Comma) (λ u a b y. y.1) (rises text ts s.column between.Comma) ((w, e) ∷ entry_list fs) from to f in
      let v = seen_within text ts s.column to has.0 has.1 in
      sequence_complete (EntryRead n s mark) (following ts s.column between.Comma) (entry text ts (expr text ts n) s mark) (λ u a b y. y.0) ((w, e) ∷ entry_list fs) (length ts) [] from to f (omega (arith, fit, v))

  pub record_complete : (fs : Fields) → AllFields text ts fs → (n : ℕ) (s : Context) (p : Place) (from to : ℕ) → Spells text ts s (Record p fs) from to → fields_depth fs ≤ n → record_of text ts (expr text ts n) s p from ≡ Ok (Record p fs, to)
  unfolding record_of
  record_complete fs h n s p from to x d =
      let r = entries_complete fs h n s k.MapsTo (from + 1) x.0 refl x.2 x.3 d in
      rw (r, x.3.1, x.3.2, fields_list fs, x.4) refl

  pub record_set_complete : (fs : Fields) → AllFields text ts fs → (n : ℕ) (s : Context) (p : Place) (from to : ℕ) → Spells text ts s (RecordSet p fs) from to → fields_depth fs ≤ n → records_of text ts (expr text ts n) s p from ≡ Ok (RecordSet p fs, to)
  unfolding records_of
  record_set_complete fs h n s p from to x d =
      let r = entries_complete fs h n s k.Colon (from + 1) x.0 refl x.2 x.3 d in
      rw (r, x.3.1, x.3.2, fields_list fs, x.4) refl

  -- ---- paths

  abbrev KeyRead : ℕ → Context → Key → ℕ → ℕ → Type 0
  KeyRead n s y from to = (key_at text ts (expr text ts n) s from ≡ Ok (y, to)) × (from < to)

  key_read : (y : Key) → KeyComes text ts y → (n : ℕ) (s : Context) (from to : ℕ) → Selects text ts s y from to → key_depth y ≤ n → KeyRead n s y from to
  unfolding key_at
  key_read (AtIndex es) h n s from to x d =
      let r = some_complete text ts es h n s k.RightBracket (from + 1) to bracket_ends x.1 x.2 d in
      (rw (x.0.1, x.0.2, r) refl, selects_advance text ts (AtIndex es) s from to x)
  key_read (AtField w) h n s from to x d =
      let name = named text ts s.column (from + 1) w x.1 in
      (rw (x.0.1, x.0.2, name, x.1.3, x.2) refl, selects_advance text ts (AtField w) s from to x)

  -- a step of a path begins here
  begins_key : (y : Key) (s : Context) (from to : ℕ) → Selects text ts s y from to → following ts s.column between.Key from ≡ Some from
  begins_key (AtIndex es) s from to x = rw (x.0.1, x.0.2) refl
  begins_key (AtField w) s from to x = rw (x.0.1, x.0.2) refl

  leads_read : (ks : Keys) → AllKeys text ts ks → (n : ℕ) (s : Context) (from to : ℕ) → Leads text ts s ks from to → Has ts s.column k.Equal to → keys_depth ks ≤ n → Behind (KeyRead n s) (following ts s.column between.Key) (key_list ks) from to
  leads_read no_keys h n s from to x has d = let e : Has ts s.column k.Equal from = rw (← x) has in (rw (e.1, e.2) refl, x)
  leads_read (key y ks) h n s from to x has d = (from, x.0, begins_key y s from x.0 x.1, key_read y h.0 n s from x.0 x.1 (omega (arith, d)), leads_read ks h.1 n s x.0 to x.2 has (omega (arith, d)))

  path_complete : (ks : Keys) → AllKeys text ts ks → (n : ℕ) (s : Context) (from to : ℕ) → Leads text ts s ks from to → is_path ks ≡ true → Has ts s.column k.Equal to → keys_depth ks ≤ n
      → path text ts (expr text ts n) (length ts) [] s from ≡ Ok (key_list ks, to)
  path_complete no_keys h n s from to x i has d = absurd (let z : ⊥ = cc in z)
  path_complete (key y ks) h n s from to x i has d =
      let f : Follows (KeyRead n s) (following ts s.column between.Key) (y ∷ key_list ks) from to = (x.0, key_read y h.0 n s from x.0 x.1 (omega (arith, d)), leads_read ks h.1 n s x.0 to x.2 has (omega (arith, d))) in
      let fit = follows_fit (KeyRead n s) (following ts s.column between.Key) (λ u a b y. y.1) (rises text ts s.column between.Key) (y ∷ key_list ks) from to f in
      let v = seen_within text ts s.column to has.0 has.1 in
      sequence_complete (KeyRead n s) (following ts s.column between.Key) (key_at text ts (expr text ts n) s) (λ u a b y. y.0) (y ∷ key_list ks) (length ts) [] from to f (omega (arith, fit, v))

  -- ---- updates

  abbrev ChangeRead : ℕ → Context → Change → ℕ → ℕ → Type 0
  ChangeRead n s c from to = (change text ts (expr text ts n) s from ≡ Ok (c, to)) × (from < to)

  change_read : (ks : Keys) (e : Tree) → AllKeys text ts ks → Comes text ts e → (n : ℕ) (s : Context) (from mid to : ℕ) (kind : Kind) → Has ts s.column k.Bang from → Leads text ts s ks (from + 1) mid → is_path ks ≡ true
      → Has ts s.column k.Equal mid → Spells text ts (updating s) e (mid + 1) to → Has ts s.column kind to → goes_on kind ≡ false → keys_depth ks ≤ n → depth e ≤ n → ChangeRead n s (ks, e) from to
  unfolding change
  change_read ks e hk h n s from mid to kind b x i q y has plain d d' =
      let p = path_complete ks hk n s (from + 1) mid x i q d in
      let r = before_plain text ts e h n (updating s) (mid + 1) to kind y has plain d' in
      let u = leads_rise text ts ks s (from + 1) mid x in
      let l = r.1 in
      (rw (b.1, b.2, p, q.1, q.2, r.0, keys_list ks) refl, omega (arith, l, u))

  updates_next : (us : Updates) (s : Context) (from to : ℕ) → MoreUpdates text ts s us from to → Has ts s.column k.RightBracket to → (kind : Kind) × Has ts s.column kind from × (goes_on kind ≡ false)
  updates_next no_updates s from to x h = (k.RightBracket, rw (← x) h, refl)
  updates_next (update ks e us) s from to x h = (k.Comma, x.2, refl)

  more_updates_read : (us : Updates) → AllUpdates text ts us → (n : ℕ) (s : Context) (from to : ℕ) → MoreUpdates text ts s us from to → Has ts s.column k.RightBracket to → updates_depth us ≤ n
      → Behind (ChangeRead n s) (following ts s.column between.Comma) (change_list us) from to
  more_updates_read no_updates h n s from to x has d = (no_more text ts s.column from k.RightBracket (rw (← x) has) bracket_ends, x)
  more_updates_read (update ks e us) h n s from to x has d =
      let y = updates_next us s x.1 to x.8 has in
      let p : from + 1 + 1 ≡ from + 2 = omega arith in
      let a : Leads text ts s ks (from + 1 + 1) x.0 = rw p x.4 in
      (from + 1, x.1, comma_here text ts s.column from x.2, change_read ks e h.0 h.1 n s (from + 1) x.0 x.1 y.0 x.3 a x.5 x.6 x.7 y.1 y.2 (omega (arith, d)) (omega (arith, d)), more_updates_read us h.2 n s x.1 to x.8 has (omega (arith, d)))

  changes_complete : (us : Updates) → AllUpdates text ts us → (n : ℕ) (s : Context) (from to : ℕ) → Updated text ts s us from to → Has ts s.column k.RightBracket to → updates_depth us ≤ n
      → changes text ts (expr text ts n) (length ts) [] s from ≡ Ok (change_list us, to)
  changes_complete no_updates h n s from to x has d = absurd x
  changes_complete (update ks e us) h n s from to x has d =
      let y = updates_next us s x.1 to x.7 has in
      let r = change_read ks e h.0 h.1 n s from x.0 x.1 y.0 x.2 x.3 x.4 x.5 x.6 y.1 y.2 (omega (arith, d)) (omega (arith, d)) in
      let f : Follows (ChangeRead n s) (following ts s.column between.Comma) ((ks, e) ∷ change_list us) from to = (x.1, r, more_updates_read us h.2 n s x.1 to x.7 has (omega (arith, d))) in
      let fit = follows_fit (ChangeRead n s) (following ts s.column between.Comma) (λ u a b y. y.1) (rises text ts s.column between.Comma) ((ks, e) ∷ change_list us) from to f in
      let v = seen_within text ts s.column to has.0 has.1 in
      sequence_complete (ChangeRead n s) (following ts s.column between.Comma) (change text ts (expr text ts n) s) (λ u a b y. y.0) ((ks, e) ∷ change_list us) (length ts) [] from to f (omega (arith, fit, v))

  pub except_complete : (f : Tree) (us : Updates) → AllUpdates text ts us → (n : ℕ) (s : Context) (p : Place) (at to : ℕ) (end : ℕ) → Updated text ts s us (at + 1) end → Has ts s.column k.RightBracket end → to ≡ end + 1 → updates_depth us ≤ n
      → except text ts (expr text ts n) s p f at ≡ Ok (Except p f us, to)
  unfolding except
  except_complete f us h n s p at to end x has e d =
      let r = changes_complete us h n s (at + 1) end x has d in
      rw (r, has.1, has.2, updates_list us, e) refl
