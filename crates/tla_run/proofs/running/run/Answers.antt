use Rattle.std.proofs.Common.{refl}
use Rattle.tla_run.proofs.RunLemmas.{runs_line, runs_out, runs_refused}
use Rattle.tla_run.proofs.running.run.Goals as goal

pub returns-in_default : goal.returns-in_default
returns-in_default g c = runs_out _ _ _ _ _ refl c.tell_no_memory.ensures refl

pub returns-in-Ok-read_words : goal.returns-in-Ok-read_words
returns-in-Ok-read_words g c =
    runs_line _ c.as_slice-texts.result.now c.in-Ok.texts.items _ c.in-Ok-read_words.line _ _ _ c.as_slice-texts.ensures.value c.in-Ok.ensures
    c.in-Ok-read_words.ensures.line c.run_line.ensures

pub returns : goal.returns
returns g c =
    runs_refused _ c.as_slice-texts.result.now c.in-Ok.texts.items _ c.in-Err.no_line _ _ _ c.as_slice-texts.ensures.value c.in-Ok.ensures
    c.in-Err.ensures.fault (c.refuse.ensures _)
