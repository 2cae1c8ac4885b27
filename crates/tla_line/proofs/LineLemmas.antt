-- Lemmas for the functions of the command line.
use Rattle.std.proofs.Common.{◌≡◌, ◌∙◌, ap, List, [], refl, true, codes, sym, subst, inl, inr}
use Rattle.std.specs.Prelude.{None, Some, Result, Ok, Err, IfErr, IsErrAnd}
use Rattle.clap.specs.Words.{App, HasKind, HasMatchesOf, IsAmong, Text, app_of, fault_of, found_of, is_simple, is_simple_and_free, kind_of, matches_of, rows_of}
use Rattle.clap.proofs.OnLiterals.{clap_on_literals}
use Rattle.clap.specs.declared.builder.command.Command.{Command}
use Rattle.clap.specs.declared.parser.matches.ArgMatches.{ArgMatches}
use Rattle.clap.specs.declared.error.Error.{Error}
use Rattle.clap.specs.declared.error.kind.ErrorKind.{ErrorKind}
use Rattle.clap.specs.declared.error.kind.ErrorKind.TheVariants.{OutOfMemory}
use Rattle.tla_line.specs.CommandLine.{NamesBadNumber, WritesNoCount, faults_of, most_of, text_of, tlacheck}
use Rattle.tla_line.specs.LineFault.{IsFaultOf, IsNoLine, fault_by_kind, fault_from}
use Rattle.tla_line.specs.Private.Parsing.{IsOfClap, text_for}
use Rattle.tla_line.specs.declared.line.LineFault.{LineFault}
use Rattle.tla_line.specs.declared.line.LineFault.TheVariants.{Refused, Number, Memory}
use Rattle.tla_line.specs.declared.line.NoLine.{NoLine}
use Rattle.tla_line.specs.declared.number.NumberOption.{NumberOption}
use Rattle.tla_line.specs.declared.number.NumberOption.TheVariants.{Workers, Cut, MaxStates}

-- an error of one of the kinds that fit the words becomes a fault that fits them
pub fault_fits : (words : List Text) (e : Error) → HasKind (faults_of words) e → IsFaultOf words (fault_from e)
fault_fits words e (inl memory) = rw memory tt
fault_fits words e (inr among) = go (kind_of e) among
  where
    go : (k : ErrorKind) → IsAmong (kind_of e) (faults_of words) → IsFaultOf words (fault_by_kind k e)
    go OutOfMemory h = tt
    go _ h = h

-- a result that is a fault with the property P
pub err_is : {T : Type 0} (P : LineFault → Type 0) (r : Result T LineFault) (f : LineFault) → IsErrAnd r (λ x. x ≡ f) → P f → IfErr r P
err_is P (Ok x) f h p = tt
err_is P (Err e) f h p = subst P (sym h) p

-- every argument of the command is simple and has no rule on another, so its matches and its faults are known
pub is_known : is_simple_and_free tlacheck ≡ true
unfolding clap_on_literals
is_known = refl

-- the error of a parse of the command has one of the kinds that fit the words
pub kind_fits : (words : List Text) (c : Command) (e : Error) → app_of c ≡ tlacheck
    → (is_simple_and_free (app_of c) ≡ true → HasKind (fault_of (app_of c) words) e) → HasKind (faults_of words) e
kind_fits words c e app kinds = subst (λ (a : App). HasKind (fault_of a words) e) app (kinds (ap is_simple_and_free app ∙ is_known))

pub is_read : is_simple tlacheck ≡ true
unfolding clap_on_literals
is_read = refl

-- words that a parse of the command accepts have no fault
pub none_faulted : (words : List Text) (c : Command) → app_of c ≡ tlacheck
    → (is_simple_and_free (app_of c) ≡ true → fault_of (app_of c) words ≡ []) → faults_of words ≡ []
none_faulted words c app taken = subst (λ (a : App). fault_of a words ≡ []) app (taken (ap is_simple_and_free app ∙ is_known))

-- the matches of a parse of the command are known
pub rows_known : (words : List Text) (c : Command) (m : ArgMatches) → app_of c ≡ tlacheck → HasMatchesOf (app_of c) words m
    → rows_of (found_of m) ≡ matches_of tlacheck words
rows_known words c m app h = subst (λ (a : App). rows_of (found_of m) ≡ matches_of a words) app (h (ap is_simple app ∙ is_read)).0

-- a fault of `clap` is no number
pub of_clap : (e : Error) → IsOfClap (fault_from e)
of_clap e = go (kind_of e)
  where
    go : (k : ErrorKind) → IsOfClap (fault_by_kind k e)
    go OutOfMemory = tt
    go _ = tt

no_number : (fault : LineFault) → IsOfClap fault → fault ≡ Number → ⊥
no_number (Refused e) of is = cc
no_number Number of is = absurd of
no_number Memory of is = cc

-- words that `clap` refuses mean no line
pub refused_words : {T : Type 0} (words : List Text) (r : Result T NoLine) (fault : LineFault)
    → IsErrAnd r (λ n. n ≡ record { fault = fault; bad_number = None }) → IsFaultOf words fault → IsOfClap fault → IfErr r (IsNoLine words)
refused_words words (Ok x) fault is fits of = tt
refused_words words (Err n) fault is fits of = subst (IsNoLine words) (sym is) (record { fault = fits; option = no_number fault of })

-- words with a bad number for an option mean no line
pub bad_words : {T : Type 0} (words : List Text) (r : Result T NoLine) (option : NumberOption)
    → IsErrAnd r (λ n. n ≡ record { fault = Number; bad_number = Some option }) → faults_of words ≡ [] → NamesBadNumber words option
    → IfErr r (IsNoLine words)
bad_words words (Ok x) option is taken bad = tt
bad_words words (Err n) option is taken bad =
    subst (IsNoLine words) (sym is) (record { fault = (taken, option, bad); option = (refl, bad) })

-- the words have the bad text of the option
pub bad_named : (words : List Text) (option : NumberOption) (workers cut limit : Text) → text_of words (codes "workers") ≡ Some workers
    → text_of words (codes "cut") ≡ Some cut → text_of words (codes "max-states") ≡ Some limit
    → WritesNoCount (most_of option) (text_for option workers cut limit) → NamesBadNumber words option
bad_named words Workers workers cut limit w c l bad = rw w bad
bad_named words Cut workers cut limit w c l bad = rw c bad
bad_named words MaxStates workers cut limit w c l bad = rw l bad
