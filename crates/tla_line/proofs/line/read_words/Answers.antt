use Rattle.std.proofs.Common.{◌≡◌, ◌∙◌, ap, codes, sym}
use Rattle.clap.specs.Walk.{Text, first_of, one_of, texts}
use Rattle.tla_line.specs.CommandLine.{flag_of, text_of}
use Rattle.tla_line.proofs.LineLemmas.{bad_named, bad_words, refused_words}
use Rattle.tla_line.proofs.line.read_words.Goals as goal

pub returns-in_err-matches-clause-fault : goal.returns-in_err-matches-clause-fault
returns-in_err-matches-clause-fault c =
    refused_words (texts c.args.words.now) _ c.in_err-matches.field-0.0 c.from_residual.ensures.1 c.in_err-matches.ensures.fault
    c.in_err-matches.ensures.clap

pub returns-in_err-options-clause-fault : goal.returns-in_err-options-clause-fault
returns-in_err-options-clause-fault c =
    let words = texts c.args.words.now in
    let is : (name : Text) → text_of words name ≡ _ = λ name. sym (ap (first_of name) c.in_ok-matches.ensures.matches) in
    bad_words words _ c.in_err-options.field-0.0 c.from_residual-in_err-options.ensures.1 c.in_ok-matches.ensures.taken
    (bad_named words c.in_err-options.field-0.0 c.text.result.now c.text-2.result.now c.text-3.result.now
    (is (codes "workers") ∙ c.text.ensures) (is (codes "cut") ∙ c.text-2.ensures) (is (codes "max-states") ∙ c.text-3.ensures)
    c.in_err-options.ensures.bad)

pub returns-clause-line : goal.returns-clause-line
returns-clause-line c =
    let words = texts c.args.words.now in
    let is : (name : Text) → text_of words name ≡ _ = λ name. sym (ap (first_of name) c.in_ok-matches.ensures.matches) in
    let flag_is : (name : Text) → flag_of words name ≡ _ = λ name. sym (ap (one_of name) c.in_ok-matches.ensures.matches) in
    record {
      taken = c.in_ok-matches.ensures.taken;
      names = record {
        module_file = is (codes "MODULE") ∙ c.text-4.ensures;
        config_file = is (codes "CONFIG") ∙ c.text-5.ensures;
        workers = rw (is (codes "workers") ∙ c.text.ensures) c.in_ok-options.ensures.workers;
        cut = rw (is (codes "cut") ∙ c.text-2.ensures) c.in_ok-options.ensures.cut;
        limit = rw (is (codes "max-states") ∙ c.text-3.ensures) c.in_ok-options.ensures.limit;
        within = c.in_ok-options.ensures.within;
        json = is (codes "json") ∙ c.file.ensures;
        dot = is (codes "dot") ∙ c.file-2.ensures;
        full = rw (flag_is (codes "full")) c.is_set-2.ensures;
        coverage = rw (flag_is (codes "coverage")) c.is_set-3.ensures;
        quiet = rw (flag_is (codes "quiet")) c.is_set.ensures;
      };
    }
