-- The units of a module (book, chapter 15).
use Rattle.std.specs.Prelude.{◌≡◌, ℕ, zero, suc, ◌+◌, max, Bool, true, false, not, ◌&&◌, ◌||◌, IsTrue, List, [], ◌∷◌, Option, Some, None, length}
use Rattle.std.specs.List.{list_all}
use Rattle.tla_lex.specs.declared.token.Token.{Token}
use Rattle.tla_lex.specs.declared.token.Kind.TheVariants as k
use Rattle.tla_grammar.specs.declared.context.Context.{Context}
use Rattle.tla_tree.specs.declared.word.Written.{Written}
use Rattle.tla_grammar.specs.Edges.{depth, definition_depth}
use Rattle.tla_grammar.specs.Tokens.{Has, Is, Writes, Names}
use Rattle.tla_tree.specs.Tree.{Tree, Definition, DefinesOperator}
use Rattle.tla_tree.specs.Units.{UnitTree, Separator, Extends, Variables, Operator, Defines, Local, Constants, Assume, Theorem, Declared}
use Rattle.tla_grammar.specs.Modules.{is_module}
use Rattle.tla_grammar.specs.Grammar.{Spells}
use Rattle.tla_grammar.specs.Grammar as Grammar

abbrev pub is_extends : UnitTree → Bool
is_extends (Extends _ _) = true
is_extends _ = false

abbrev pub is_separator : UnitTree → Bool
is_separator (Separator _) = true
is_separator _ = false

-- with parameters, or of a function
abbrev pub has_parameters : Definition → Bool
has_parameters (DefinesOperator w [] e) = false
has_parameters _ = true

-- the greatest depth of an expression
abbrev pub unit_depth : UnitTree → ℕ
unit_depth (Operator _ e) = depth e
unit_depth (Defines d) = definition_depth d
unit_depth (Local _ d) = definition_depth d
unit_depth (Assume _ _ e) = depth e
unit_depth (Theorem _ _ e) = depth e
unit_depth _ = 0

abbrev pub units_depth : List UnitTree → ℕ
units_depth [] = 0
units_depth (u ∷ us) = max (unit_depth u) (units_depth us)

-- outside all lists and updates
abbrev pub outermost : Context
outermost = record { column = 0; updating = false }

module _ (text : List ℕ) (ts : List Token) where
  -- n underscores, each with a comma before it
  abbrev pub Blanks : ℕ → ℕ → ℕ → Type 0
  Blanks zero from to = to ≡ from
  Blanks (suc n) from to = Has ts 0 k.Comma from × Has ts 0 k.Underscore (from + 1) × Blanks n (from + 2) to

  -- c, or F(_, ..) with an underscore for each argument
  abbrev pub Declares : Written → ℕ → ℕ → ℕ → Type 0
  Declares w zero from to = Writes ts text 0 k.Name w from × (to ≡ from + 1)
  Declares w (suc n) from to = (mid : ℕ) × Writes ts text 0 k.Name w from × Has ts 0 k.LeftParen (from + 1) × Has ts 0 k.Underscore (from + 2) × Blanks n (from + 3) mid × Has ts 0 k.RightParen mid × (to ≡ mid + 1)

  abbrev pub MoreDeclared : List Declared → ℕ → ℕ → Type 0
  MoreDeclared [] from to = to ≡ from
  MoreDeclared (d ∷ ds) from to = (mid : ℕ) × Has ts 0 k.Comma from × Declares d.0 d.1 (from + 1) mid × MoreDeclared ds mid to

  abbrev pub AllDeclared : List Declared → ℕ → ℕ → Type 0
  AllDeclared [] from to = ⊥
  AllDeclared (d ∷ ds) from to = (mid : ℕ) × Declares d.0 d.1 from mid × MoreDeclared ds mid to

  -- e, or name == e
  abbrev pub Claims : Option Written → Tree → ℕ → ℕ → Type 0
  Claims None e from to = Spells text ts outermost e from to
  Claims (Some w) e from to = Writes ts text 0 k.Name w from × Has ts 0 k.Define (from + 1) × Spells text ts outermost e (from + 2) to

  abbrev pub SpellsUnit : UnitTree → ℕ → ℕ → Type 0
  SpellsUnit (Separator p) from to = Is ts 0 k.Separator p from × (to ≡ from + 1)
  SpellsUnit (Extends p ws) from to = Is ts 0 k.Extends p from × Names ts text 0 ws (from + 1) to × IsTrue (list_all (λ w. is_module w.word) ws)
  SpellsUnit (Variables p ws) from to = Is ts 0 k.Variable p from × Names ts text 0 ws (from + 1) to
  SpellsUnit (Operator w e) from to = Writes ts text 0 k.Name w from × Has ts 0 k.Define (from + 1) × Spells text ts outermost e (from + 2) to
  SpellsUnit (Defines d) from to = Grammar.Defines text ts outermost d from to × IsTrue (has_parameters d)
  SpellsUnit (Local p d) from to = Is ts 0 k.Local p from × Grammar.Defines text ts outermost d (from + 1) to
  SpellsUnit (Constants p ds) from to = Is ts 0 k.Constant p from × AllDeclared ds (from + 1) to
  SpellsUnit (Assume p w e) from to = Is ts 0 k.Assume p from × Claims w e (from + 1) to
  SpellsUnit (Theorem p w e) from to = Is ts 0 k.Theorem p from × Claims w e (from + 1) to

  -- EXTENDS comes before all units but separators, at most once: `first` says that it may still come
  abbrev pub Units : Bool → List UnitTree → ℕ → ℕ → Type 0
  Units first [] from to = to ≡ from
  Units first (u ∷ us) from to = (mid : ℕ) × SpellsUnit u from mid × IsTrue (first || not (is_extends u)) × Units (first && is_separator u) us mid to

  -- A module's tokens are its name, a separator, its units and the closing line.
  abbrev pub SpellsModule : List UnitTree → Type 0
  SpellsModule us = (to : ℕ) × Has ts 0 k.Name 0 × Has ts 0 k.Separator 1 × Units true us 2 to × Has ts 0 k.Closing to × (length ts ≡ to + 1)
