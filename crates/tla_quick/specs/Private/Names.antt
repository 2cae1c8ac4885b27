-- The names of fields.
use Rattle.std.specs.Prelude.{ℕ, List, [], ◌∷◌}
use Rattle.std.proofs.Common.{Bor}
use Rattle.tla_value.specs.Tree.{Tree, text}
use Rattle.tla_code.specs.declared.code.Code.{Code}

abbrev pub names_in : List (Bor (List ℕ) × Code) → List Tree
names_in [] = []
names_in (f ∷ fs) = text f.0.now ∷ names_in fs
