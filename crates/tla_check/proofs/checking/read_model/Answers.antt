use Rattle.std.proofs.Common.{◌≡◌, List, map, sym, subst}
use Rattle.tla_lex.specs.Tokens.{AreTokens}
use Rattle.tla_lex.specs.declared.token.Token.{Token}
use Rattle.tla_tree.specs.UnitsView.{unit_view}
use Rattle.tla_model.specs.Models.{model_of}
use Rattle.tla_check.proofs.Named.{none-by-module, none-by-model, named-only}
use Rattle.tla_check.proofs.Stopped.{stopped-tokens, stopped-module, stopped-configuration, stopped-model}
use Rattle.tla_check.proofs.Reported.{lex-reported, parse-reported, defs-reported}
use Rattle.tla_check.proofs.checking.read_model.Goals as goal

pub stopped_by_tokens-requires : goal.stopped_by_tokens-requires
stopped_by_tokens-requires c = lex-reported c.in-Err.error.code c.in-Err.error.place c.in-Err.ensures.placed

pub stopped_by_module-requires : goal.stopped_by_module-requires
stopped_by_module-requires c =
    parse-reported c.in-Err-parse_module.error.code c.in-Err-parse_module.error.place c.in-Err-parse_module.error.name c.in-Err-parse_module.ensures.located

pub stopped_by_definitions-requires : goal.stopped_by_definitions-requires
stopped_by_definitions-requires c =
    defs-reported c.in-Err-parse_config.error.code c.in-Err-parse_config.error.place c.in-Err-parse_config.error.name c.in-Err-parse_config.ensures.located

pub stopped_by_definitions-requires-in-Err-build : goal.stopped_by_definitions-requires-in-Err-build
stopped_by_definitions-requires-in-Err-build c =
    defs-reported c.in-Err-build.error.code c.in-Err-build.error.place c.in-Err-build.error.name c.in-Err-build.ensures.located

pub returns-in-Err-clause-stopped : goal.returns-in-Err-clause-stopped
returns-in-Err-clause-stopped c =
    stopped-tokens c.args.module.now c.args.config.now c.in-Err.error c.stopped_by_tokens.result c.in-Err.ensures.fault c.in-Err.ensures.none c.stopped_by_tokens.ensures

pub returns-in-Err-parse_module-clause-stopped : goal.returns-in-Err-parse_module-clause-stopped
returns-in-Err-parse_module-clause-stopped c =
    stopped-module c.args.module.now c.args.config.now c.deref.result.now c.in-Err-parse_module.error c.stopped_by_module.result
    (subst (λ ts. AreTokens c.args.module.now ts) (sym c.deref.ensures.value) c.in-Ok.ensures.found)
    c.in-Err-parse_module.ensures.justified
    (λ refusal_code. none-by-module c.args.module.now c.args.config.now c.deref.result.now
    (subst (λ ts. (us : List Token) → AreTokens c.args.module.now us → us ≡ ts) (sym c.deref.ensures.value) c.in-Ok.ensures.only)
    c.in-Err-parse_module.error.code c.in-Err-parse_module.error.place c.in-Err-parse_module.error.name refusal_code c.in-Err-parse_module.ensures.justified)
    c.stopped_by_module.ensures

pub returns-in-Err-parse_config-clause-stopped : goal.returns-in-Err-parse_config-clause-stopped
returns-in-Err-parse_config-clause-stopped c =
    stopped-configuration c.args.module.now c.args.config.now (map unit_view c.in-Ok-parse_module.tree.units.items) c.in-Err-parse_config.error c.stopped_by_definitions.result
    (record {
      tokens = c.deref.result.now;
      are = subst (λ ts. AreTokens c.args.module.now ts) (sym c.deref.ensures.value) c.in-Ok.ensures.found;
      spelled = c.in-Ok-parse_module.ensures.found;
      shallow = c.in-Ok-parse_module.ensures.shallow;
    })
    c.in-Err-parse_config.ensures.none c.in-Err-parse_config.ensures.explains c.in-Err-parse_config.ensures.source c.stopped_by_definitions.ensures

pub returns-clause-stopped : goal.returns-clause-stopped
returns-clause-stopped c =
    stopped-model c.args.module.now c.args.config.now (map unit_view c.in-Ok-parse_module.tree.units.items) c.in-Ok-parse_config.config c.in-Err-build.error c.stopped_by_definitions-in-Err-build.result
    (record {
      tokens = c.deref.result.now;
      are = subst (λ ts. AreTokens c.args.module.now ts) (sym c.deref.ensures.value) c.in-Ok.ensures.found;
      spelled = c.in-Ok-parse_module.ensures.found;
      shallow = c.in-Ok-parse_module.ensures.shallow;
    })
    c.in-Ok-parse_config.ensures.found c.in-Ok-parse_config.ensures.end c.in-Err-build.ensures.refused c.in-Err-build.ensures.none
    (none-by-model c.args.module.now c.args.config.now c.deref.result.now
    (subst (λ ts. (us : List Token) → AreTokens c.args.module.now us → us ≡ ts) (sym c.deref.ensures.value) c.in-Ok.ensures.only)
    (map unit_view c.in-Ok-parse_module.tree.units.items) c.in-Ok-parse_module.ensures.only
    c.in-Ok-parse_config.config.statements c.in-Ok-parse_config.ensures.only)
    c.stopped_by_definitions-in-Err-build.ensures

pub returns-in-Ok-build-clause-model : goal.returns-in-Ok-build-clause-model
returns-in-Ok-build-clause-model c =
    named-only c.args.module.now c.args.config.now c.deref.result.now
    (subst (λ ts. (us : List Token) → AreTokens c.args.module.now us → us ≡ ts) (sym c.deref.ensures.value) c.in-Ok.ensures.only)
    (map unit_view c.in-Ok-parse_module.tree.units.items) c.in-Ok-parse_module.ensures.only
    c.in-Ok-parse_config.config.statements c.in-Ok-parse_config.ensures.only
    (model_of c.in-Ok-build.model)
    (record {
      tokens = c.deref.result.now;
      are = subst (λ ts. AreTokens c.args.module.now ts) (sym c.deref.ensures.value) c.in-Ok.ensures.found;
      spelled = c.in-Ok-parse_module.ensures.found;
      shallow = c.in-Ok-parse_module.ensures.shallow;
    })
    c.in-Ok-parse_config.ensures.found c.in-Ok-build.ensures.found c.in-Ok-build.ensures.only
