-- What each word that begins a statement begins. Private contracts alone cite this.
use Rattle.std.specs.Prelude.{List, [], ◌∷◌, Option, Some, None, if◌then◌else◌, codes}
use Rattle.std.specs.Str.{bytes_eq}
use Rattle.tla_config.specs.declared.keyword.Keyword.{Keyword}
use Rattle.tla_config.specs.declared.keyword.Keyword.TheVariants as word
use Rattle.tla_config.specs.Names.{Name}

abbrev pub keywords : List (Name × Keyword)
keywords =
    (codes "SPECIFICATION", word.Specification) ∷ (codes "INIT", word.Init) ∷ (codes "NEXT", word.Next) ∷ (codes "INVARIANT", word.Invariants)
    ∷ (codes "INVARIANTS", word.Invariants) ∷ (codes "CONSTRAINT", word.Constraints) ∷ (codes "CONSTRAINTS", word.Constraints)
    ∷ (codes "CHECK_DEADLOCK", word.CheckDeadlock) ∷ (codes "PROPERTY", word.LeftOut) ∷ (codes "PROPERTIES", word.LeftOut)
    ∷ (codes "SYMMETRY", word.LeftOut) ∷ (codes "VIEW", word.LeftOut) ∷ (codes "ACTION_CONSTRAINT", word.LeftOut) ∷ (codes "ACTION_CONSTRAINTS", word.LeftOut)
    ∷ (codes "ALIAS", word.LeftOut) ∷ (codes "POSTCONDITION", word.LeftOut) ∷ []

abbrev pub lookup : List (Name × Keyword) → Name → Option Keyword
lookup [] w = None
lookup (e ∷ es) w = if bytes_eq w e.0 then Some e.1 else lookup es w
