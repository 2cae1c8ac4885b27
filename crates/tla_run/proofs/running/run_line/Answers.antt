use Rattle.std.proofs.Common.{refl, inl, inr, ap}
use Rattle.tla_run.specs.Runs.{uncreated, unread}
use Rattle.tla_run.proofs.running.run_line.Goals as goal

pub returns-in-Err : goal.returns-in-Err
returns-in-Err g c = unread c.in-Err.file.name.now c.in-Err.file.cause (inl (ap (λ n. n.now) c.in-Err.ensures.name)) refl c.tell_unread.ensures refl

pub returns-in-Err-read : goal.returns-in-Err-read
returns-in-Err-read g c =
    unread c.in-Err-read.file.name.now c.in-Err-read.file.cause (inr (ap (λ n. n.now) c.in-Err-read.ensures.name)) refl
    c.tell_unread-in-Err-read.ensures refl

pub returns-in-Err-create_files : goal.returns-in-Err-create_files
returns-in-Err-create_files g c =
    uncreated c.in-Err-create_files.file.name.now c.in-Err-create_files.ensures refl c.tell_uncreated.ensures refl

pub returns-then-line : goal.returns-then-line
returns-then-line g c = c.run_quietly.ensures _ refl
