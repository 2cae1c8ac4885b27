-- What the items of CONSTANT make of names (book, chapter 14).
use Rattle.std.specs.Prelude.{List, [], ◌∷◌, Some}
use Rattle.tla_value.specs.Tree as value
use Rattle.tla_core.specs.Expr.{constant}
use Rattle.tla_config.specs.Statements.{Item, Value, Replaces}
use Rattle.tla_scopes.specs.Meanings as x
use Rattle.tla_scopes.specs.Meanings.{with_name, alone}

-- a value, at the place of its use
abbrev pub fixed : value.Tree → x.Meaning
fixed v = alone (λ p d. Some (constant p v))

-- what an item makes of its name, where operators mean this
abbrev pub with_item : x.Scope → Item → x.Scope → x.Scope
with_item ρ (Value w v) σ = with_name w.word (fixed v) σ
with_item ρ (Replaces w op) σ = with_name w.word (ρ op.word) σ

abbrev pub with_items : x.Scope → List Item → x.Scope → x.Scope
with_items ρ [] σ = σ
with_items ρ (i ∷ is) σ = with_items ρ is (with_item ρ i σ)
