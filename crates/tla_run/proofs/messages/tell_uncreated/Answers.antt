use Rattle.std.proofs.Common.{[]}
use Rattle.tla_run.proofs.RunLemmas.{gets_alone, says_openly, says_quietly, says_with}
use Rattle.tla_run.specs.Runs.{cannot_write}
use Rattle.tla_run.proofs.messages.tell_uncreated.Goals as goal

pub returns-then-is_quiet : goal.returns-then-is_quiet
returns-then-is_quiet g c = says_quietly _ _ _ _ c.if-is_quiet.true (gets_alone _ _ _ _ c.put_file.ensures)

pub returns-else-is_quiet : goal.returns-else-is_quiet
returns-else-is_quiet g c = says_openly _ _ _ [] c.if-is_quiet.false (says_with _ _ (cannot_write c.args.file.now.name.now) c.text.result.now _ c.put_file-else-is_quiet.ensures)
