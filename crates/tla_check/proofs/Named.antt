-- The texts denote at most one model, and none if a stage refuses.
use Rattle.std.proofs.Common.{◌≡◌, ℕ, List, Option, Some, None, subst}
use Rattle.tla_lex.specs.Tokens.{AreTokens}
use Rattle.tla_lex.specs.declared.token.Place.{Place}
use Rattle.tla_lex.specs.declared.token.Token.{Token}
use Rattle.tla_parse.specs.Parsing.{Justified, NoneSpellsWithin}
use Rattle.tla_tree.specs.Units.{UnitTree}
use Rattle.tla_parse.specs.Units.{SpellsModule}
use Rattle.tla_parse.specs.declared.error.ParseCode.{ParseCode}
use Rattle.tla_parse.specs.declared.error.ParseCode.TheVariants as parse
use Rattle.tla_config.specs.Configuration.{IsConfiguration}
use Rattle.tla_config.specs.Statements.{Statement}
use Rattle.tla_defs.specs.Model.{IsModel}
use Rattle.tla_model.specs.ModelTree.{ModelTree}
use Rattle.tla_report.specs.declared.checked.RefusalCode.{RefusalCode}
use Rattle.tla_check.specs.CarriesOver.{parse_code}
use Rattle.tla_check.specs.Checks.{IsTreeOf, NameModel, NameNone, NameOnly}

none-some : (code : RefusalCode) → (let o : Option RefusalCode = None in o ≡ Some code) → ⊥
none-some code e = cc

-- the text has no other tokens than these
module _ (text config : List ℕ) (tokens : List Token) (only-tokens : (ts : List Token) → AreTokens text ts → ts ≡ tokens) where
  spells-these : (units : List UnitTree) → IsTreeOf text units → SpellsModule text tokens units
  spells-these units tree = subst (λ ts. SpellsModule text ts units) (only-tokens tree.tokens tree.are) tree.spelled

  none-by-units : NoneSpellsWithin text tokens 200 → NameNone text config
  none-by-units none m h = none h.units h.tree.shallow (spells-these h.units h.tree)

  pub none-by-module : (code : ParseCode) (place : Option Place) (name : Option (List ℕ)) (refusal_code : RefusalCode) → Justified text tokens code place name
      → parse_code code ≡ Some refusal_code → NameNone text config
  none-by-module parse.Unexpected place name refusal_code why e = none-by-units (λ us shallow. why us)
  none-by-module parse.Precedence place name refusal_code why e = none-by-units (λ us shallow. why us)
  none-by-module parse.Column place name refusal_code why e = none-by-units (λ us shallow. why us)
  none-by-module parse.Nesting place name refusal_code why e = none-by-units why
  none-by-module parse.LeftOut place name refusal_code (left-out, none) e = none-by-units (λ us shallow. none us)
  none-by-module parse.NoMemory place name refusal_code why e = absurd (none-some refusal_code e)

  -- the tokens have no other units, and the configuration no other statements
  module _ (units : List UnitTree) (only-units : (us : List UnitTree) → SpellsModule text tokens us → us ≡ units)
      (statements : List Statement) (only-statements : (cs : List Statement) → IsConfiguration config cs → cs ≡ statements) where
    model-of-these : (m : ModelTree) → NameModel text config m → IsModel units statements m
    model-of-these m h =
        subst (λ us. IsModel us statements m) (only-units h.units (spells-these h.units h.tree))
        (subst (λ cs. IsModel h.units cs m) (only-statements h.statements h.configuration) h.model)

    pub none-by-model : ((m : ModelTree) → IsModel units statements m → ⊥) → NameNone text config
    none-by-model none m h = none m (model-of-these m h)

    pub named-only : (m : ModelTree) → IsTreeOf text units → IsConfiguration config statements → IsModel units statements m
        → ((n : ModelTree) → IsModel units statements n → n ≡ m) → NameOnly text config m
    named-only m tree configuration model only = record {
      named = record { units = units; tree = tree; statements = statements; configuration = configuration; model = model };
      only = λ n h. only n (model-of-these n h);
    }
