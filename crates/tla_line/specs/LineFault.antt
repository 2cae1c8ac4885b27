-- When a command line has each fault.
use Rattle.std.specs.Prelude.{◌≡◌, ◌⊎◌, List, [], Option, Some, None, codes, ⊤}
use Rattle.std.specs.Option.{option_map_or}
use Rattle.clap.specs.Words.{IsAmong, Text, kind_of}
use Rattle.clap.specs.declared.error.Error.{Error}
use Rattle.clap.specs.declared.error.kind.ErrorKind.{ErrorKind}
use Rattle.clap.specs.declared.error.kind.ErrorKind.TheVariants.{DisplayHelp, DisplayVersion, OutOfMemory}
use Rattle.tla_line.specs.CommandLine.{NamesBadNumber, faults_of}
use Rattle.tla_line.specs.declared.line.LineFault.{LineFault}
use Rattle.tla_line.specs.declared.line.LineFault.TheVariants.{Refused, Number, Memory}
use Rattle.tla_line.specs.declared.line.NoLine.{NoLine}
use Rattle.tla_line.specs.declared.number.NumberOption.{NumberOption}
use Rattle.tla_line.specs.declared.number.NumberOption.TheVariants.{Workers, Cut, MaxStates}

-- The fault fits the words: `clap` refuses them with an error of this kind; or it accepts them, and the value of an
-- option is no number within its range. For memory nothing is required.
abbrev pub IsFaultOf : List Text → LineFault → Type 0
IsFaultOf words (Refused e) = IsAmong (kind_of e) (faults_of words)
IsFaultOf words Number = (faults_of words ≡ []) × (option : NumberOption) × NamesBadNumber words option
IsFaultOf words Memory = ⊤

-- the option has a bad number, and there is one exactly if the fault is `Number`
abbrev pub FitsOption : List Text → LineFault → Option NumberOption → Type 0
FitsOption words fault (Some option) = (fault ≡ Number) × NamesBadNumber words option
FitsOption words fault None = fault ≡ Number → ⊥

-- the words mean no line, for this reason
pub record IsNoLine (words : List Text) (no_line : NoLine) : Type 0 where
  pub fault : IsFaultOf words no_line.fault
  pub option : FitsOption words no_line.fault no_line.bad_number

-- the fault for an error of `clap`
abbrev pub fault_by_kind : ErrorKind → Error → LineFault
fault_by_kind OutOfMemory e = Memory
fault_by_kind _ e = Refused e

abbrev pub fault_from : Error → LineFault
fault_from e = fault_by_kind (kind_of e) e

-- the words ask for help, or for the version
abbrev pub IsHelp : LineFault → Type 0
IsHelp (Refused e) = (kind_of e ≡ DisplayHelp) ⊎ (kind_of e ≡ DisplayVersion)
IsHelp _ = ⊥

-- the text that the user sees, with its line feeds; the texts of `clap` are left open
abbrev pub text_of_fault : LineFault → Option Text
text_of_fault (Refused e) = None
text_of_fault Number = Some (codes "tlacheck: bad number\n")
text_of_fault Memory = Some (codes "tlacheck: out of memory\n")

-- the hint for a bad number
abbrev pub hint_of : NumberOption → Text
hint_of Workers = codes "hint: --workers takes a number from 1 to 64\n"
hint_of Cut = codes "hint: --cut takes a number from 1 to 65536\n"
hint_of MaxStates = codes "hint: --max-states takes a number from 1 to 16777216\n"

-- the hint: for a bad number the option and its range, else empty
abbrev pub help_of : NoLine → Text
help_of no_line = option_map_or hint_of no_line.bad_number []
