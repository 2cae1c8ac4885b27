-- The scope of a module as the code finds it. Private contracts alone cite this.
use Rattle.std.specs.Prelude.{List, [], ◌∷◌}
use Rattle.tla_tree.specs.Units.{UnitTree}
use Rattle.tla_config.specs.Statements.{Item, Value, Replaces}
use Rattle.tla_scopes.specs.Meanings.{Scope, standard}
use Rattle.tla_defs.specs.Global.{meant}

-- An operator that replaces a name may be defined after its uses, so for each such item there is one more pass in which
-- all names get their meaning.
abbrev pub raised : List UnitTree → List Item → List Item → Scope → Scope
raised us is [] ρ = ρ
raised us is (Value w v ∷ js) ρ = raised us is js ρ
raised us is (Replaces w op ∷ js) ρ = raised us is js (meant us is ρ)

abbrev pub global : List UnitTree → List Item → Scope
global us is = raised us is is (meant us is standard)
