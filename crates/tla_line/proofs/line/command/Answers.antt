use Rattle.std.proofs.Common.{◌≡◌, ◌∙◌, ap, ap₂, arith, codes, refl, subst, [], ◌∷◌, List}
use Rattle.std.proofs.lemmas.Result.{IfOk-weaker}
use Rattle.clap.specs.Words.{Text, app_of, new_app, with_rule}
use Rattle.clap.specs.Simple.{app_of_fields}
use Rattle.clap.specs.declared.builder.arg.Arg.{Arg}
use Rattle.tla_line.specs.CommandLine.{with_version}
use Rattle.tla_line.specs.Private.Parsing.{HasValue}
use Rattle.tla_line.proofs.ChainLemmas.{each_has_value}
use Rattle.tla_line.proofs.line.command.Goals as goal

pub returns-clause-app : goal.returns-clause-app
returns-clause-app c =
    let new_is : app_of c.version.result ≡ with_version (new_app (codes "tlacheck")) = ap app_of_fields c.version.ensures ∙ ap with_version c.new.ensures.app in
    let zero_is : app_of c.after_help.result ≡ with_version (new_app (codes "tlacheck")) =
    ap app_of_fields c.after_help.ensures ∙ ap app_of_fields c.override_usage.ensures ∙ ap app_of_fields c.about.ensures ∙ new_is in
    let one_is = c.in_ok-arg.ensures.shape c.required_word.ensures.argument.local ∙ ap₂ with_rule zero_is c.required_word.ensures.rule in
    let two_is = c.in_ok-arg-2.ensures.shape c.required_word-2.ensures.argument.local ∙ ap₂ with_rule one_is c.required_word-2.ensures.rule in
    let three_is = c.in_ok-arg-3.ensures.shape c.number_option.ensures.argument.local ∙ ap₂ with_rule two_is c.number_option.ensures.rule in
    let four_is = c.in_ok-arg-4.ensures.shape c.number_option-2.ensures.argument.local ∙ ap₂ with_rule three_is c.number_option-2.ensures.rule in
    let five_is = c.in_ok-arg-5.ensures.shape c.number_option-3.ensures.argument.local ∙ ap₂ with_rule four_is c.number_option-3.ensures.rule in
    let six_is = c.in_ok-arg-6.ensures.shape c.file_option.ensures.argument.local ∙ ap₂ with_rule five_is c.file_option.ensures.rule in
    let seven_is = c.in_ok-arg-7.ensures.shape c.file_option-2.ensures.argument.local ∙ ap₂ with_rule six_is c.file_option-2.ensures.rule in
    let eight_is = c.in_ok-arg-8.ensures.shape c.flag.ensures.argument.local ∙ ap₂ with_rule seven_is c.flag.ensures.rule in
    let nine_is = c.in_ok-arg-9.ensures.shape c.flag-2.ensures.argument.local ∙ ap₂ with_rule eight_is c.flag-2.ensures.rule in
    let ten_is = c.in_ok-arg-10.ensures.shape c.flag-3.ensures.argument.local ∙ ap₂ with_rule nine_is c.flag-3.ensures.rule in
    IfOk-weaker c.arg-11.result _ _
    (λ r added. added.shape c.flag-4.ensures.argument.local ∙ ap₂ with_rule ten_is c.flag-4.ensures.rule)
    c.arg-11.ensures

pub returns-clause-values : goal.returns-clause-values
returns-clause-values c =
    let ids : List Text = codes "MODULE" ∷ codes "CONFIG" ∷ codes "workers" ∷ codes "cut" ∷ codes "max-states" ∷ codes "json" ∷ codes "dot"
    ∷ codes "full" ∷ codes "coverage" ∷ codes "explain" ∷ codes "quiet" ∷ [] in
    let xs : List Arg = c.required_word.result ∷ c.required_word-2.result ∷ c.number_option.result ∷ c.number_option-2.result
    ∷ c.number_option-3.result ∷ c.file_option.result ∷ c.file_option-2.result ∷ c.flag.result ∷ c.flag-2.result ∷ c.flag-3.result
    ∷ c.flag-4.result ∷ [] in
    let d = c.required_word.result in
    let same = ap (λ f. f.args.items) c.after_help.ensures ∙ ap (λ f. f.args.items) c.override_usage.ensures ∙ ap (λ f. f.args.items) c.about.ensures ∙ ap (λ f. f.args.items) c.version.ensures in
    let groups = ap (λ f. f.groups.items) c.after_help.ensures ∙ ap (λ f. f.groups.items) c.override_usage.ensures ∙ ap (λ f. f.groups.items) c.about.ensures ∙ ap (λ f. f.groups.items) c.version.ensures in
    let globals = ap (λ f. f.has_globals) c.after_help.ensures ∙ ap (λ f. f.has_globals) c.override_usage.ensures ∙ ap (λ f. f.has_globals) c.about.ensures ∙ ap (λ f. f.has_globals) c.version.ensures in
    let negates = ap (λ f. f.subcommand_negates_reqs) c.after_help.ensures ∙ ap (λ f. f.subcommand_negates_reqs) c.override_usage.ensures ∙ ap (λ f. f.subcommand_negates_reqs) c.about.ensures ∙ ap (λ f. f.subcommand_negates_reqs) c.version.ensures in
    IfOk-weaker c.arg-11.result _ _ (λ r added m parsed.
    let has = each_has_value c.after_help.result r ids xs m (c.in_ok-arg.field-0, c.in_ok-arg.ensures, (c.in_ok-arg-2.field-0, c.in_ok-arg-2.ensures, (c.in_ok-arg-3.field-0, c.in_ok-arg-3.ensures, (c.in_ok-arg-4.field-0, c.in_ok-arg-4.ensures, (c.in_ok-arg-5.field-0, c.in_ok-arg-5.ensures, (c.in_ok-arg-6.field-0, c.in_ok-arg-6.ensures, (c.in_ok-arg-7.field-0, c.in_ok-arg-7.ensures, (c.in_ok-arg-8.field-0, c.in_ok-arg-8.ensures, (c.in_ok-arg-9.field-0, c.in_ok-arg-9.ensures, (c.in_ok-arg-10.field-0, c.in_ok-arg-10.ensures, (r, added, refl)))))))))))
    (same ∙ c.new.ensures.empty.0)
    (groups ∙ c.new.ensures.empty.1)
    (globals ∙ c.new.ensures.local)
    (negates ∙ c.new.ensures.negates) (c.required_word.ensures.argument, (c.required_word-2.ensures.argument, (c.number_option.ensures.argument, (c.number_option-2.ensures.argument, (c.number_option-3.ensures.argument, (c.file_option.ensures.argument, (c.file_option-2.ensures.argument, (c.flag.ensures.argument, (c.flag-2.ensures.argument, (c.flag-3.ensures.argument, (c.flag-4.ensures.argument, tt)))))))))))
    refl refl parsed in
    record {
      module_file = subst (HasValue m) c.required_word.ensures.argument.name (has 0 d (omega arith) c.required_word.ensures.value);
      config_file = subst (HasValue m) c.required_word-2.ensures.argument.name (has 1 d (omega arith) c.required_word-2.ensures.value);
      workers = subst (HasValue m) c.number_option.ensures.argument.name (has 2 d (omega arith) c.number_option.ensures.value);
      cut = subst (HasValue m) c.number_option-2.ensures.argument.name (has 3 d (omega arith) c.number_option-2.ensures.value);
      limit = subst (HasValue m) c.number_option-3.ensures.argument.name (has 4 d (omega arith) c.number_option-3.ensures.value);
    }) c.arg-11.ensures
