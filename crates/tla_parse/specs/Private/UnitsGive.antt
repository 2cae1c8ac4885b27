-- What the answer of a reader of units says of the reading.
use Rattle.std.specs.Prelude.{◌≡◌, ◌≤◌, ℕ, map, List, Result, Ok, Err}
use Rattle.tla_lex.specs.declared.token.Token.{Token}
use Rattle.tla_parse.specs.declared.units.ParsedUnit.{ParsedUnit}
use Rattle.tla_parse.specs.declared.units.ParsedUnits.{ParsedUnits}
use Rattle.tla_grammar.specs.declared.refusal.Refusal.{Refusal}
use Rattle.tla_parse.specs.declared.units.ParsedDeclaration.{ParsedDeclaration}
use Rattle.tla_parse.specs.declared.units.ParsedDeclarations.{ParsedDeclarations}
use Rattle.tla_parse.specs.declared.units.ParsedClaim.{ParsedClaim}
use Rattle.tla_grammar.specs.Edges.{depth}
use Rattle.tla_tree.specs.View.{view}
use Rattle.tla_tree.specs.declared.tree.TheConstants.{MAX_DEPTH}
use Rattle.tla_tree.specs.Units.{UnitTree, Declared}
use Rattle.tla_parse.specs.Units.{unit_depth, units_depth}
use Rattle.tla_parse.specs.Private.UnitsReading.{Claim}
use Rattle.tla_tree.specs.UnitsView.{unit_view, declared}
use Rattle.tla_grammar.specs.Outcome.{Outcome}
use Rattle.tla_grammar.specs.Refusals.{Fails}

abbrev pub GivesDeclared : List ℕ → List Token → Result ParsedDeclaration Refusal → Outcome Declared → Type 0
GivesDeclared text ts (Ok x) read = read ≡ Ok (declared x.declaration, x.end)
GivesDeclared text ts (Err e) read = Fails text ts e read

abbrev pub GivesConstants : List ℕ → List Token → Result ParsedDeclarations Refusal → Outcome (List Declared) → Type 0
GivesConstants text ts (Ok x) read = read ≡ Ok (map declared x.declarations.items, x.end)
GivesConstants text ts (Err e) read = Fails text ts e read

abbrev pub GivesClaim : List ℕ → List Token → Result ParsedClaim Refusal → Outcome Claim → Type 0
GivesClaim text ts (Ok x) read = (read ≡ Ok ((x.name, view x.body), x.end)) × (depth (view x.body) ≤ MAX_DEPTH)
GivesClaim text ts (Err e) read = Fails text ts e read

abbrev pub GivesUnit : List ℕ → List Token → Result ParsedUnit Refusal → Outcome UnitTree → Type 0
GivesUnit text ts (Ok x) read = (read ≡ Ok (unit_view x.unit, x.end)) × (unit_depth (unit_view x.unit) ≤ MAX_DEPTH)
GivesUnit text ts (Err e) read = Fails text ts e read

abbrev pub GivesUnits : List ℕ → List Token → Result ParsedUnits Refusal → Outcome (List UnitTree) → Type 0
GivesUnits text ts (Ok x) read = (read ≡ Ok (map unit_view x.units.items, x.end)) × (units_depth (map unit_view x.units.items) ≤ MAX_DEPTH)
GivesUnits text ts (Err e) read = Fails text ts e read
