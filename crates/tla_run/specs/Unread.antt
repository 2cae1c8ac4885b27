-- Why a file is not read.
use Rattle.std.specs.Prelude.{ℕ, List, codes}
use Rattle.tla_run.specs.declared.unread.Unread.{Unread}
use Rattle.tla_run.specs.declared.unread.Unread.TheVariants.{Missing, Path, Folder, NotPermitted, Endless, Memory, Failed}

-- the line for the user
abbrev pub cause_text : Unread → List ℕ
cause_text Missing = codes "cause: there is no such file\n"
cause_text Path = codes "cause: a part of its path is no folder\n"
cause_text Folder = codes "cause: it is a folder\n"
cause_text NotPermitted = codes "cause: no permission to read it\n"
cause_text Endless = codes "cause: no end within 1000000 reads\n"
cause_text Memory = codes "cause: out of memory\n"
cause_text Failed = codes "cause: it can't be opened, or a read failed\n"
