-- What the readers of records and updates say of the reading.
use Rattle.std.specs.Prelude.{◌≡◌, ◌≤◌, ℕ, max, map, List, Result, Ok, Err}
use Rattle.tla_lex.specs.declared.token.Token.{Token}
use Rattle.tla_expressions.specs.declared.record_parts.ParsedField.{ParsedField}
use Rattle.tla_expressions.specs.declared.record_parts.ParsedFields.{ParsedFields}
use Rattle.tla_expressions.specs.declared.record_parts.ParsedKey.{ParsedKey}
use Rattle.tla_expressions.specs.declared.record_parts.ParsedKeys.{ParsedKeys}
use Rattle.tla_expressions.specs.declared.record_parts.ParsedUpdate.{ParsedUpdate}
use Rattle.tla_expressions.specs.declared.record_parts.ParsedUpdates.{ParsedUpdates}
use Rattle.tla_grammar.specs.declared.refusal.Refusal.{Refusal}
use Rattle.tla_tree.specs.Tree.{Entry, Key, Change, fields, keys, updates}
use Rattle.tla_tree.specs.View.{view, field_view, key_view, update_view}
use Rattle.tla_grammar.specs.Edges.{depth, fields_depth, key_depth, keys_depth, updates_depth}
use Rattle.tla_grammar.specs.Outcome.{Outcome}
use Rattle.tla_grammar.specs.Refusals.{Fails}

abbrev pub GivesField : List ℕ → List Token → ℕ → Result ParsedField Refusal → Outcome Entry → Type 0
GivesField text ts most (Ok x) read = (read ≡ Ok (field_view x.field, x.end)) × (x.depth ≡ depth (view x.field.value)) × (x.depth ≤ most)
GivesField text ts most (Err e) read = Fails text ts e read

abbrev pub GivesFields : List ℕ → List Token → ℕ → Result ParsedFields Refusal → Outcome (List Entry) → Type 0
GivesFields text ts most (Ok x) read = (read ≡ Ok (map field_view x.fields.items, x.end)) × (x.depth ≡ fields_depth (fields (map field_view x.fields.items))) × (x.depth ≤ most)
GivesFields text ts most (Err e) read = Fails text ts e read

abbrev pub GivesKey : List ℕ → List Token → ℕ → Result ParsedKey Refusal → Outcome Key → Type 0
GivesKey text ts most (Ok x) read = (read ≡ Ok (key_view x.key, x.end)) × (x.depth ≡ key_depth (key_view x.key)) × (x.depth ≤ most)
GivesKey text ts most (Err e) read = Fails text ts e read

abbrev pub GivesKeys : List ℕ → List Token → ℕ → Result ParsedKeys Refusal → Outcome (List Key) → Type 0
GivesKeys text ts most (Ok x) read = (read ≡ Ok (map key_view x.keys.items, x.end)) × (x.depth ≡ keys_depth (keys (map key_view x.keys.items))) × (x.depth ≤ most)
GivesKeys text ts most (Err e) read = Fails text ts e read

abbrev pub GivesUpdate : List ℕ → List Token → ℕ → Result ParsedUpdate Refusal → Outcome Change → Type 0
GivesUpdate text ts most (Ok x) read = (read ≡ Ok (update_view x.update, x.end)) × (x.depth ≡ max (keys_depth (update_view x.update).0) (depth (update_view x.update).1)) × (x.depth ≤ most)
GivesUpdate text ts most (Err e) read = Fails text ts e read

abbrev pub GivesUpdates : List ℕ → List Token → ℕ → Result ParsedUpdates Refusal → Outcome (List Change) → Type 0
GivesUpdates text ts most (Ok x) read = (read ≡ Ok (map update_view x.updates.items, x.end)) × (x.depth ≡ updates_depth (updates (map update_view x.updates.items))) × (x.depth ≤ most)
GivesUpdates text ts most (Err e) read = Fails text ts e read
