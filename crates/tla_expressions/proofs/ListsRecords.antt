-- Fields, paths and updates, as sequences of what is read.
use Rattle.std.proofs.Common.{◌≡◌, ℕ, ◌+◌, true, List, [], ◌∷◌, refl, ap, arith, IsTrue}
use Rattle.tla_lex.specs.declared.token.Token.{Token}
use Rattle.tla_lex.specs.declared.token.Kind.{Kind}
use Rattle.tla_lex.specs.declared.token.Kind.TheVariants as k
use Rattle.tla_grammar.specs.declared.context.Context.{Context}
use Rattle.tla_grammar.specs.declared.tokens.Between.TheVariants as between
use Rattle.tla_tree.specs.Tree.{Fields, Key, Keys, Updates, Entry, Change, fields, keys, updates, no_fields, field, no_keys, key, no_updates, update}
use Rattle.tla_grammar.specs.Tokens.{Has, Writes}
use Rattle.tla_grammar.specs.Grammar.{Spells, Fielded, MoreFields, Leads, Selects, Updated, MoreUpdates, is_path, updating}
use Rattle.tla_grammar.specs.Marks.{following}
use Rattle.tla_expressions.proofs.Lists.{comma_is, key_here}
use Rattle.tla_expressions.proofs.Sequence.{Behind, Follows}

abbrev pub entry_list : Fields → List Entry
entry_list no_fields = []
entry_list (field w e fs) = (w, e) ∷ entry_list fs

pub fields_list : (fs : Fields) → fields (entry_list fs) ≡ fs
fields_list no_fields = refl
fields_list (field w e fs) = ap (λ x. field w e x) (fields_list fs)

abbrev pub key_list : Keys → List Key
key_list no_keys = []
key_list (key x ks) = x ∷ key_list ks

pub keys_list : (ks : Keys) → keys (key_list ks) ≡ ks
keys_list no_keys = refl
keys_list (key x ks) = ap (λ y. key x y) (keys_list ks)

abbrev pub change_list : Updates → List Change
change_list no_updates = []
change_list (update ks e us) = (ks, e) ∷ change_list us

pub updates_list : (us : Updates) → updates (change_list us) ≡ us
updates_list no_updates = refl
updates_list (update ks e us) = ap (λ x. update ks e x) (updates_list us)

module _ (text : List ℕ) (ts : List Token) where
  abbrev pub EntryAt : Context → Kind → Entry → ℕ → ℕ → Type 0
  EntryAt s mark c from to = Writes ts text s.column k.Name c.0 from × Has ts s.column mark (from + 1) × Spells text ts s c.1 (from + 2) to

  more_fields_of : (es : List Entry) (s : Context) (mark : Kind) (from to : ℕ) → Behind (EntryAt s mark) (following ts s.column between.Comma) es from to → MoreFields text ts s mark (fields es) from to
  more_fields_of [] s mark from to x = x.1
  more_fields_of (e ∷ es) s mark from to x =
      let c = comma_is text ts s.column from x.0 x.2 in
      let p : x.0 + 1 ≡ from + 2 = omega (arith, c.1) in
      let q : x.0 + 2 ≡ from + 3 = omega (arith, c.1) in
      (x.1, c.0, rw (← c.1) x.3.0, rw (← p) x.3.1, rw (← q) x.3.2, more_fields_of es s mark x.1 to x.4)

  pub fielded_of : (es : List Entry) (s : Context) (mark : Kind) (from to : ℕ) → Follows (EntryAt s mark) (following ts s.column between.Comma) es from to → Fielded text ts s mark (fields es) from to
  fielded_of [] s mark from to x = absurd x
  fielded_of (e ∷ es) s mark from to x = (x.0, x.1.0, x.1.1, x.1.2, more_fields_of es s mark x.0 to x.2)

  abbrev pub KeyAt : Context → Key → ℕ → ℕ → Type 0
  KeyAt s x from to = Selects text ts s x from to

  leads_behind : (ks : List Key) (s : Context) (from to : ℕ) → Behind (KeyAt s) (following ts s.column between.Key) ks from to → Leads text ts s (keys ks) from to
  leads_behind [] s from to x = x.1
  leads_behind (y ∷ ks) s from to x =
      let e = key_here text ts s.column from x.0 x.2 in
      (x.1, rw (← e) x.3, leads_behind ks s x.1 to x.4)

  pub leads_of : (ks : List Key) (s : Context) (from to : ℕ) → Follows (KeyAt s) (following ts s.column between.Key) ks from to → Leads text ts s (keys ks) from to × (is_path (keys ks) ≡ true)
  leads_of [] s from to x = absurd x
  leads_of (y ∷ ks) s from to x = ((x.0, x.1, leads_behind ks s x.0 to x.2), refl)

  abbrev pub ChangeAt : Context → Change → ℕ → ℕ → Type 0
  ChangeAt s c from to = (m : ℕ) × Has ts s.column k.Bang from × Leads text ts s c.0 (from + 1) m × IsTrue (is_path c.0) × Has ts s.column k.Equal m × Spells text ts (updating s) c.1 (m + 1) to

  more_updates_of : (cs : List Change) (s : Context) (from to : ℕ) → Behind (ChangeAt s) (following ts s.column between.Comma) cs from to → MoreUpdates text ts s (updates cs) from to
  more_updates_of [] s from to x = x.1
  more_updates_of (c ∷ cs) s from to x =
      let e = comma_is text ts s.column from x.0 x.2 in
      let p : x.0 + 1 ≡ from + 2 = omega (arith, e.1) in
      let y = x.3 in
      (y.0, x.1, e.0, rw (← e.1) y.1, rw (← p) y.2, y.3, y.4, y.5, more_updates_of cs s x.1 to x.4)

  pub updated_of : (cs : List Change) (s : Context) (from to : ℕ) → Follows (ChangeAt s) (following ts s.column between.Comma) cs from to → Updated text ts s (updates cs) from to
  updated_of [] s from to x = absurd x
  updated_of (c ∷ cs) s from to x = let y = x.1 in (y.0, x.0, y.1, y.2, y.3, y.4, y.5, more_updates_of cs s x.0 to x.2)
