use Rattle.std.proofs.Common.{◌∙◌}
use Rattle.clap.specs.Matches.{found_of}
use Rattle.clap.proofs.WalkLemmas.{one_text-rows}
use Rattle.tla_line.proofs.line.is_set.Goals as goal

pub returns : goal.returns
returns c =
    let rows = one_text-rows (found_of c.args.matches.now) c.args.name.now in
    record { given = λ text. c.get_flag.ensures.value (rows ∙ text); left_out = λ text. c.get_flag.ensures.other (rows ∙ text) }
