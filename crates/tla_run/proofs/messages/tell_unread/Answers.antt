use Rattle.tla_run.proofs.RunLemmas.{gets_alone, gets_more, gets_put, says_no_more, says_openly, says_quietly}
use Rattle.tla_run.proofs.messages.tell_unread.Goals as goal

pub returns-then-is_quiet : goal.returns-then-is_quiet
returns-then-is_quiet g c = says_quietly _ _ _ _ c.if-is_quiet.true (gets_alone _ _ _ _ c.put_file.ensures)

pub returns-in-Ok : goal.returns-in-Ok
returns-in-Ok g c = says_openly _ _ _ _ c.if-is_quiet.false
    (gets_more _ _ _ _ _ (rw (c.text.ensures) at c.in-Ok.ensures) c.hint_at_near_file.ensures)

pub returns-in-Err : goal.returns-in-Err
returns-in-Err g c = says_openly _ _ _ _ c.if-is_quiet.false
    (says_no_more _ _ (gets_put _ _ _ _ (rw (c.text.ensures) at c.in-Err.ensures)))
