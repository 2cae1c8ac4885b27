-- What a run of the program does: what it writes, and its exit status. (This project's own choice.)
use Rattle.std.specs.Prelude.{◌≡◌, ◌⊎◌, ◌++◌, ℕ, Bool, true, false, List, Option, Some, [], codes, take, option_map, IfSome}
use Rattle.std.specs.Io.KnownBytes.{Appends}
use Rattle.counted_writer.specs.Puts.{AddsFirst}
use Rattle.clap.specs.Words.{Text}
use Rattle.tla_line.specs.declared.line.Line.{Line}
use Rattle.tla_line.specs.declared.line.NoLine.{NoLine}
use Rattle.tla_line.specs.CommandLine.{MeanLine, is_quiet}
use Rattle.tla_line.specs.LineFault.{IsHelp, IsNoLine, help_of, text_of_fault}
use Rattle.tla_report.specs.declared.checked.Checked.{Checked}
use Rattle.tla_check.specs.Checks.{IsChecked}
use Rattle.tla_report.specs.Report.{report}
use Rattle.tla_report.specs.Status.{status_of}
use Rattle.tla_run.specs.declared.unread.Unread.{Unread}
use Rattle.tla_run.specs.Unread.{cause_text}

-- ---- what a writer gets

-- the contents of a writer before and after a run, if they are known
pub record Writing : Type 0 where
  pub old : Option (List ℕ)
  pub new : Option (List ℕ)

-- exactly these bytes were written
abbrev pub Gets : Writing → List ℕ → Type 0
Gets w bytes = Appends w.old w.new bytes

-- nothing was written
abbrev pub GetsNothing : Writing → Type 0
GetsNothing w = w.new ≡ w.old

-- the bytes were written, or only the first of them, if a write failed
abbrev pub GetsUpTo : Writing → List ℕ → Type 0
GetsUpTo w bytes = (taken : ℕ) × Gets w (take taken bytes)

-- these bytes, and then hints at what was meant, were written, or only the first of them
abbrev pub SaysMore : Writing → List ℕ → Type 0
SaysMore w bytes = (hints : List ℕ) × GetsUpTo w (bytes ++ hints)

-- A line was written: alone with `--quiet`, else with what helps after it.
pub record Says (quiet : Bool) (err : Writing) (line help : List ℕ) : Type 0 where
  pub quietly : quiet ≡ true → GetsUpTo err line
  pub openly : quiet ≡ false → SaysMore err (line ++ help)

-- ---- the lines that are written

-- `tlacheck: cannot read FILE`
abbrev pub cannot_read : Text → List ℕ
cannot_read name = codes "tlacheck: cannot read " ++ (name ++ codes "\n")

-- `tlacheck: cannot write FILE`
abbrev pub cannot_write : Text → List ℕ
cannot_write name = codes "tlacheck: cannot write " ++ (name ++ codes "\n")

-- the message for a report of which a write failed
abbrev pub unwritten_report : List ℕ
unwritten_report = codes "tlacheck: cannot write the report\n"

-- ---- a run on a line

-- the bytes of files by their names, if they are known
abbrev pub Files : Type 0
Files = Text → Option (List ℕ)

-- if the bytes of the file of this name are known, they are these
abbrev pub Holds : Files → Text → List ℕ → Type 0
Holds files name bytes = IfSome (files name) (λ known. bytes ≡ known)

-- the right result of a check of the two files of a line
pub record IsCheckOf (files : Files) (line : Line) (checked : Checked) : Type 0 where
  pub text : List ℕ
  pub config : List ℕ
  pub reads_text : Holds files line.module.now text
  pub reads_config : Holds files line.config.now config
  pub right : IsChecked text config line.options.limit checked

-- the line has an output file of this name, by `--json` or by `--dot`
abbrev pub AsksFor : Line → Text → Type 0
AsksFor line name = (option_map (λ file. file.now) line.json ≡ Some name) ⊎ (option_map (λ file. file.now) line.dot ≡ Some name)

-- what a run on a line writes, and its status
pub data ComesTo (files : Files) (line : Line) (out err : Writing) (status : ℕ) : Type 0 where
  -- The report of the right result for the two files went to the first writer, and the status is that of this result.
  -- With `--quiet` nothing went to the second writer.
  reported : (checked : Checked) → IsCheckOf files line checked → Gets out (report checked) → (line.quiet ≡ true → GetsNothing err)
      → status ≡ status_of checked → ComesTo files line out err status
  -- a write of the report failed
  cut_short : (checked : Checked) (written : ℕ) → IsCheckOf files line checked → AddsFirst out.old out.new (report checked) written
      → (line.quiet ≡ true → GetsNothing err) → (line.quiet ≡ false → GetsUpTo err unwritten_report) → status ≡ 21
      → ComesTo files line out err status
  -- one of the two files could not be read
  unread : (name : Text) (cause : Unread) → (name ≡ line.module.now) ⊎ (name ≡ line.config.now) → GetsNothing out
      → Says line.quiet err (cannot_read name) (cause_text cause) → status ≡ 21 → ComesTo files line out err status
  -- an output file could not be created
  uncreated : (name : Text) → AsksFor line name → GetsNothing out → Says line.quiet err (cannot_write name) [] → status ≡ 21
      → ComesTo files line out err status

-- ---- a run on words

-- what a run on these words writes, and its status
pub data IsRun (words : List Text) (files : Files) (out err : Writing) (status : ℕ) : Type 0 where
  -- the words mean a line
  on_line : (line : Line) → MeanLine words line → ComesTo files line out err status → IsRun words files out err status
  -- they mean none; the texts of `clap` are left open
  refused : (no_line : NoLine) → IsNoLine words no_line → (IsHelp no_line.fault → ⊥) → GetsNothing out
      → IfSome (text_of_fault no_line.fault) (λ text. Says (is_quiet words) err text (help_of no_line))
      → status ≡ 21 → IsRun words files out err status
  -- they ask for help or for the version; the status is 21 if a write failed
  helped : (no_line : NoLine) → IsNoLine words no_line → IsHelp no_line.fault → GetsNothing err → (status ≡ 0) ⊎ (status ≡ 21)
      → IsRun words files out err status

-- a run on the words of the process, or one whose words aren't text
pub data IsSomeRun (out err : Writing) (status : ℕ) : Type 0 where
  on_words : (words : List Text) (files : Files) → IsRun words files out err status → IsSomeRun out err status
  no_words : GetsNothing out → status ≡ 21 → IsSomeRun out err status
