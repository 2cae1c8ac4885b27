-- A check ends with the refusal of the first stage that refuses.
use Rattle.std.proofs.Common.{◌≡◌, ◌≢◌, ◌⊎◌, ◌∙◌, ℕ, List, length, Option, Some, None, sym, subst, ap, ⊎_elim}
use Rattle.tla_lex.specs.Places.{place_at}
use Rattle.tla_lex.specs.Tokens.{AreTokens, IsFirstFault, NoTokens, no_memory}
use Rattle.tla_lex.specs.declared.token.Token.{Token}
use Rattle.tla_lex.specs.declared.error.LexCode.{LexCode}
use Rattle.tla_lex.specs.declared.error.LexCode.TheVariants as lex
use Rattle.tla_lex.specs.declared.error.LexError.{LexError}
use Rattle.tla_parse.specs.Parsing.{Justified}
use Rattle.tla_tree.specs.Units.{UnitTree}
use Rattle.tla_parse.specs.declared.error.ParseError.{ParseError}
use Rattle.tla_config.specs.Configuration.{IsConfiguration}
use Rattle.tla_config.specs.Statements.{Statement}
use Rattle.tla_config.specs.Refusals.{Explains}
use Rattle.tla_config.specs.View.{ConfigTree}
use Rattle.tla_config.specs.declared.error.DefsCode.{DefsCode}
use Rattle.tla_config.specs.declared.error.DefsCode.TheVariants.{Memory}
use Rattle.tla_config.specs.declared.error.DefsError.{DefsError}
use Rattle.tla_config.specs.declared.error.Source.{Source}
use Rattle.tla_config.specs.declared.error.Source.TheVariants.{Module, Configuration}
use Rattle.tla_defs.specs.Model.{IsModel}
use Rattle.tla_defs.specs.Refused as defs
use Rattle.tla_model.specs.ModelTree.{ModelTree}
use Rattle.tla_report.specs.declared.checked.RefusalCode.{RefusalCode}
use Rattle.tla_report.specs.declared.checked.Checked.{Checked}
use Rattle.tla_report.specs.declared.checked.Checked.TheVariants.{Answered, Refused, NoMemory, NoWorker}
use Rattle.tla_check.specs.CarriesOver.{CarriesOver, EndsBy, lex_code, parse_code, defs_code}
use Rattle.tla_check.proofs.Reported.{not-lex-memory, not-memory}
use Rattle.tla_check.specs.Checks.{IsTreeOf, of_tokens, of_module, of_configuration, of_model, IsStopped, IsFound, IsChecked, NameNone, NameOnly}

module _ (text config : List ℕ) where
  pub stopped-tokens : (e : LexError) (checked : Checked) → (IsFirstFault text e ⊎ (e ≡ no_memory)) → (e.code ≢ lex.NoMemory → NoTokens text)
      → EndsBy Module (lex_code e.code) e.place None checked → IsStopped text config checked
  stopped-tokens e (Answered a) why none ends = absurd ends
  stopped-tokens e (Refused r) why none ends = record {
    stage = ⊎_elim (λ first. of_tokens e first ends) (λ m. absurd (not-lex-memory e.code r.code ends.code (ap (λ (x : LexError). x.code) m))) why;
    none = λ m named. none (not-lex-memory e.code r.code ends.code) named.tree.tokens named.tree.are;
  }
  stopped-tokens e NoMemory why none ends = tt
  stopped-tokens e NoWorker why none ends = absurd ends

  pub stopped-module : (tokens : List Token) (e : ParseError) (checked : Checked) → AreTokens text tokens → Justified text tokens e.code e.place e.name
      → ((refusal_code : RefusalCode) → parse_code e.code ≡ Some refusal_code → NameNone text config)
      → EndsBy Module (parse_code e.code) e.place e.name checked → IsStopped text config checked
  stopped-module tokens e (Answered a) are why none ends = absurd ends
  stopped-module tokens e (Refused r) are why none ends = record { stage = of_module tokens e are why ends; none = none r.code ends.code }
  stopped-module tokens e NoMemory are why none ends = tt
  stopped-module tokens e NoWorker are why none ends = absurd ends

  pub stopped-configuration : (units : List UnitTree) (e : DefsError) (checked : Checked) → IsTreeOf text units → (e.code ≢ Memory → (cs : List Statement) → IsConfiguration config cs → ⊥)
      → Explains config e.code e.place e.name → e.source ≡ Configuration → EndsBy e.source (defs_code e.code) e.place e.name checked → IsStopped text config checked
  stopped-configuration units e (Answered a) tree none why source ends = absurd ends
  stopped-configuration units e (Refused r) tree none why source ends =
      let says-none = none (not-memory e.code r.code ends.code) in
      record {
        stage = of_configuration units e tree says-none why (subst (λ (x : Source). CarriesOver x (defs_code e.code) e.place e.name r) source ends);
        none = λ m named. says-none named.statements named.configuration;
      }
  stopped-configuration units e NoMemory tree none why source ends = tt
  stopped-configuration units e NoWorker tree none why source ends = absurd ends

  pub stopped-model : (units : List UnitTree) (c : ConfigTree) (e : DefsError) (checked : Checked) → IsTreeOf text units → IsConfiguration config c.statements
      → c.end ≡ place_at config (length config) → (e.code ≢ Memory → defs.IsRefusal units c e) → (e.code ≢ Memory → (m : ModelTree) → IsModel units c.statements m → ⊥)
      → (((m : ModelTree) → IsModel units c.statements m → ⊥) → NameNone text config)
      → EndsBy e.source (defs_code e.code) e.place e.name checked → IsStopped text config checked
  stopped-model units c e (Answered a) tree is end why none names ends = absurd ends
  stopped-model units c e (Refused r) tree is end why none names ends =
      let named = not-memory e.code r.code ends.code in
      record { stage = of_model units c e tree is end (why named) (none named) ends; none = names (none named) }
  stopped-model units c e NoMemory tree is end why none names ends = tt
  stopped-model units c e NoWorker tree is end why none names ends = absurd ends

  pub stopped-checked : (limit : ℕ) (checked : Checked) → IsStopped text config checked → IsChecked text config limit checked
  stopped-checked limit (Answered a) h = absurd h
  stopped-checked limit (Refused r) h = h
  stopped-checked limit NoMemory h = tt
  stopped-checked limit NoWorker h = absurd h

  pub found-checked : (m : ModelTree) (limit : ℕ) (checked : Checked) → NameOnly text config m → IsFound m limit checked → IsChecked text config limit checked
  found-checked m limit (Answered a) named h = (m, named, h.0, h.1)
  found-checked m limit (Refused r) named h = absurd h
  found-checked m limit NoMemory named h = tt
  found-checked m limit NoWorker named h = (m, named)
