-- What a reader's answer says of the reading.
use Rattle.std.specs.Prelude.{◌≡◌, ◌≤◌, ℕ, max, map, List, Result, Ok, Err}
use Rattle.tla_lex.specs.declared.token.Token.{Token}
use Rattle.tla_expressions.specs.declared.parts.Parsed.{Parsed}
use Rattle.tla_expressions.specs.declared.parts.ParsedItems.{ParsedItems}
use Rattle.tla_expressions.specs.declared.parts.ParsedBinder.{ParsedBinder}
use Rattle.tla_expressions.specs.declared.parts.ParsedBinders.{ParsedBinders}
use Rattle.tla_expressions.specs.declared.parts.ParsedArm.{ParsedArm}
use Rattle.tla_expressions.specs.declared.parts.ParsedArms.{ParsedArms}
use Rattle.tla_expressions.specs.declared.parts.ParsedDefinition.{ParsedDefinition}
use Rattle.tla_expressions.specs.declared.parts.ParsedDefinitions.{ParsedDefinitions}
use Rattle.tla_expressions.specs.declared.names.ParsedNames.{ParsedNames}
use Rattle.tla_expressions.specs.declared.names.ParsedPattern.{ParsedPattern}
use Rattle.tla_tree.specs.declared.word.Written.{Written}
use Rattle.tla_grammar.specs.declared.refusal.Refusal.{Refusal}
use Rattle.tla_tree.specs.Tree.{Tree, Trees, Pattern, Group, Choice, Definition, trees, binders, arms, definitions}
use Rattle.tla_tree.specs.View.{view, pattern_view, group_view, choice_view, definition_view}
use Rattle.tla_grammar.specs.Edges.{depth, depths, bound_depth, arms_depth, definition_depth, definitions_depth}
use Rattle.tla_grammar.specs.Outcome.{Outcome}
use Rattle.tla_grammar.specs.Refusals.{Fails}

-- so deep at most
abbrev pub Gives : List ℕ → List Token → ℕ → Result Parsed Refusal → Outcome Tree → Type 0
Gives text ts most (Ok x) read = (read ≡ Ok (view x.tree.value, x.end)) × (x.depth ≡ depth (view x.tree.value)) × (x.depth ≤ most)
Gives text ts most (Err e) read = Fails text ts e read

abbrev pub GivesItems : List ℕ → List Token → ℕ → Result ParsedItems Refusal → Outcome (List Tree) → Type 0
GivesItems text ts most (Ok x) read = (read ≡ Ok (map view x.items.items, x.end)) × (x.depth ≡ depths (trees (map view x.items.items))) × (x.depth ≤ most)
GivesItems text ts most (Err e) read = Fails text ts e read

-- the same, between brackets
abbrev pub GivesTrees : List ℕ → List Token → ℕ → Result ParsedItems Refusal → Outcome Trees → Type 0
GivesTrees text ts most (Ok x) read = (read ≡ Ok (trees (map view x.items.items), x.end)) × (x.depth ≡ depths (trees (map view x.items.items))) × (x.depth ≤ most)
GivesTrees text ts most (Err e) read = Fails text ts e read

abbrev pub GivesGroup : List ℕ → List Token → ℕ → Result ParsedBinder Refusal → Outcome Group → Type 0
GivesGroup text ts most (Ok x) read = (read ≡ Ok ((pattern_view x.pattern, view x.set.value), x.end)) × (x.depth ≡ depth (view x.set.value)) × (x.depth ≤ most)
GivesGroup text ts most (Err e) read = Fails text ts e read

abbrev pub GivesGroups : List ℕ → List Token → ℕ → Result ParsedBinders Refusal → Outcome (List Group) → Type 0
GivesGroups text ts most (Ok x) read = (read ≡ Ok (map group_view x.binders.items, x.end)) × (x.depth ≡ bound_depth (binders (map group_view x.binders.items))) × (x.depth ≤ most)
GivesGroups text ts most (Err e) read = Fails text ts e read

abbrev pub GivesArm : List ℕ → List Token → ℕ → Result ParsedArm Refusal → Outcome Choice → Type 0
GivesArm text ts most (Ok x) read = (read ≡ Ok (choice_view x.arm, x.end)) × (x.depth ≡ max (depth (view x.arm.guard)) (depth (view x.arm.value))) × (x.depth ≤ most)
GivesArm text ts most (Err e) read = Fails text ts e read

abbrev pub GivesArms : List ℕ → List Token → ℕ → Result ParsedArms Refusal → Outcome (List Choice) → Type 0
GivesArms text ts most (Ok x) read = (read ≡ Ok (map choice_view x.arms.items, x.end)) × (x.depth ≡ arms_depth (arms (map choice_view x.arms.items))) × (x.depth ≤ most)
GivesArms text ts most (Err e) read = Fails text ts e read

abbrev pub GivesDefinition : List ℕ → List Token → ℕ → Result ParsedDefinition Refusal → Outcome Definition → Type 0
GivesDefinition text ts most (Ok x) read = (read ≡ Ok (definition_view x.definition, x.end)) × (x.depth ≡ definition_depth (definition_view x.definition)) × (x.depth ≤ most)
GivesDefinition text ts most (Err e) read = Fails text ts e read

abbrev pub GivesDefinitions : List ℕ → List Token → ℕ → Result ParsedDefinitions Refusal → Outcome (List Definition) → Type 0
GivesDefinitions text ts most (Ok x) read = (read ≡ Ok (map definition_view x.definitions.items, x.end)) × (x.depth ≡ definitions_depth (definitions (map definition_view x.definitions.items))) × (x.depth ≤ most)
GivesDefinitions text ts most (Err e) read = Fails text ts e read

abbrev pub GivesNames : List ℕ → List Token → Result ParsedNames Refusal → Outcome (List Written) → Type 0
GivesNames text ts (Ok x) read = read ≡ Ok (x.names.items, x.end)
GivesNames text ts (Err e) read = Fails text ts e read

abbrev pub GivesPattern : List ℕ → List Token → Result ParsedPattern Refusal → Outcome Pattern → Type 0
GivesPattern text ts (Ok x) read = read ≡ Ok (pattern_view x.pattern, x.end)
GivesPattern text ts (Err e) read = Fails text ts e read
