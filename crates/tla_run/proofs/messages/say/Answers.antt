use Rattle.tla_run.proofs.RunLemmas.{gets_put, says_no_more, says_openly, says_quietly}
use Rattle.tla_run.proofs.messages.say.Goals as goal

pub returns-then-is_quiet : goal.returns-then-is_quiet
returns-then-is_quiet g c = says_quietly _ _ _ _ c.if-is_quiet.true
    (gets_put _ _ _ _ (rw (c.as_bytes.ensures.value) at c.put.ensures))

pub returns-else-is_quiet : goal.returns-else-is_quiet
returns-else-is_quiet g c = says_openly _ _ _ _ c.if-is_quiet.false (says_no_more _ _ (gets_put _ _ _ _ c.put_both.ensures))
