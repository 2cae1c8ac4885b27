-- Lemmas for the functions of a run.
use Rattle.std.proofs.Common.{◌≡◌, ◌∙◌, ◌+◌, ◌<◌, ◌++◌, ap, sym, subst, codes, append_assoc, append-nil}
use Rattle.std.proofs.Common.{ℕ, Bool, true, false, List, [], ◌∷◌, Option, None, Some, inl, inr, length, map, option_map, take, get_or}
use Rattle.std.specs.Prelude.{Result, Ok, Err, IfErr, OnOk}
use Rattle.std.specs.Result.{is_err}
use Rattle.std.specs.Io.KnownBytes.{Appends}
use Rattle.std.proofs.Math.Seq.{take-length}
use Rattle.std.proofs.lemmas.List.{map-append, take_more}
use Rattle.counted_writer.specs.declared.ShortWrite.{ShortWrite}
use Rattle.counted_writer.specs.Puts.{Puts}
use Rattle.counted_writer.specs.PutsLaws.{appends_nothing, appends_then, puts_all}
use Rattle.std.specs.Borrow.{Bor}
use Rattle.clap.specs.Words.{Text}
use Rattle.clap.specs.Walk.{texts}
use Rattle.tla_line.specs.CommandLine.{MeanLine, is_quiet}
use Rattle.tla_line.specs.declared.line.Line.{Line}
use Rattle.tla_line.specs.declared.line.LineFault.TheVariants.{Memory}
use Rattle.tla_line.specs.declared.line.NoLine.{NoLine}
use Rattle.tla_line.specs.LineFault.{IsNoLine}
use Rattle.tla_report.specs.declared.checked.Checked.{Checked}
use Rattle.tla_check.specs.Checks.{IsChecked}
use Rattle.tla_run.specs.declared.host.Inputs.{Inputs}
use Rattle.tla_run.specs.Private.Growing.{Grows}
use Rattle.tla_run.specs.Private.Reading.{HoldsBoth}
use Rattle.tla_run.specs.Runs.{AsksFor, ComesTo, Files, Gets, GetsNothing, GetsUpTo, Holds, IsCheckOf, IsRun, IsSomeRun, Says, SaysMore, Writing}
use Rattle.tla_run.specs.Runs.{no_words, on_line, on_words, refused}

-- the bytes written are a prefix of the text
pub gets_put : (old new : Option (List ℕ)) (bytes : List ℕ) (r : Result ℕ ShortWrite) → Puts old new 0 bytes r
    → GetsUpTo (record { old = old; new = new }) bytes
gets_put old new bytes r h = (h.taken, h.added)

-- a failed write has its fault, and one that didn't fail wrote all
pub write_failed : {T E : Type 0} (P : E → Type 0) (r : Result T E) (failed : Bool) → failed ≡ is_err r → failed ≡ true → IfErr r P → (e : E) × P e
write_failed P (Ok x) failed same is h = let bad : false ≡ true = sym same ∙ is in cc
write_failed P (Err e) failed same is h = (e, h)

pub write_done : {T E : Type 0} (P : Type 0) (r : Result T E) (failed : Bool) → failed ≡ is_err r → failed ≡ false → OnOk r P → P
write_done P (Ok x) failed same is h = h
write_done P (Err e) failed same is h = let bad : true ≡ false = sym same ∙ is in cc

-- the right result for the texts is right for the files
pub check_of : (files : Files) (inputs : Inputs) (limit : ℕ) (checked : Checked) → HoldsBoth files inputs
    → limit ≡ inputs.line.now.options.limit → IsChecked inputs.module.now inputs.config.now limit checked
    → IsCheckOf files inputs.line.now checked
check_of files inputs limit checked reads same right = record {
  text = inputs.module.now;
  config = inputs.config.now;
  reads_text = reads.text;
  reads_config = reads.config;
  right = subst (λ n. IsChecked inputs.module.now inputs.config.now n checked) same right;
}

-- the texts are those of both files
pub holds_both : (files : Files) (inputs : Inputs) (text config : List ℕ) → inputs.module.now ≡ text → inputs.config.now ≡ config
    → Holds files inputs.line.now.module.now text → Holds files inputs.line.now.config.now config → HoldsBoth files inputs
holds_both files inputs text config same_text same_config reads_text reads_config = record {
  text = subst (Holds files inputs.line.now.module.now) (sym same_text) reads_text;
  config = subst (Holds files inputs.line.now.config.now) (sym same_config) reads_config;
}

-- a file that is named for `--json`, or for `--dot`
pub asks_json : (line : Line) (name : Bor Text) → line.json ≡ Some name → AsksFor line name.now
asks_json line name is = inl (ap (option_map (λ file. file.now)) is)

pub asks_dot : (line : Line) (name : Bor Text) → line.dot ≡ Some name → AsksFor line name.now
asks_dot line name is = inr (ap (option_map (λ file. file.now)) is)

-- ---- messages

-- a line with `--quiet`
pub says_quietly : (quiet : Bool) (err : Writing) (line help : List ℕ) → quiet ≡ true → GetsUpTo err line → Says quiet err line help
says_quietly quiet err line help is says = record {
  quietly = λ _. says;
  openly = λ other. let bad : true ≡ false = sym is ∙ other in cc;
}

-- a line with what helps
pub says_openly : (quiet : Bool) (err : Writing) (line help : List ℕ) → quiet ≡ false → SaysMore err (line ++ help) → Says quiet err line help
says_openly quiet err line help is says = record {
  quietly = λ other. let bad : false ≡ true = sym is ∙ other in cc;
  openly = λ _. says;
}

-- the bytes alone, without a hint
pub says_no_more : (err : Writing) (bytes : List ℕ) → GetsUpTo err bytes → SaysMore err bytes
says_no_more err bytes says = ([], (says.0, subst (λ t. Gets err (take says.0 t)) (sym (append-nil bytes)) says.1))

-- a line without anything that helps
pub says_alone : (quiet : Bool) (err : Writing) (line : List ℕ) → GetsUpTo err line → Says quiet err line []
says_alone quiet err line says = record {
  quietly = λ _. says;
  openly = λ _. says_no_more err (line ++ []) (says.0, subst (λ t. Gets err (take says.0 t)) (sym (append-nil line)) says.1);
}

-- the bytes written, without anything after a line
pub gets_alone : (old new : Option (List ℕ)) (line : List ℕ) (r : Result ℕ ShortWrite) → Puts old new 0 (line ++ []) r
    → GetsUpTo (record { old = old; new = new }) line
gets_alone old new line r h = (h.taken, subst (λ t. Appends old new (take h.taken t)) (append-nil line) h.added)

-- all was written, and then further bytes
pub gets_more : (old middle new : Option (List ℕ)) (bytes : List ℕ) (written : ℕ) → Puts old middle 0 bytes (Ok written) → Grows middle new
    → SaysMore (record { old = old; new = new }) bytes
gets_more old middle new bytes written h more = (
  more.0,
  (
    length (bytes ++ more.0),
    subst (Appends old new) (sym (take-length (bytes ++ more.0)))
        (appends_then old middle new bytes more.0 (puts_all h) more.1),
  ),
)

-- the bytes written, and possible hints after them
pub grows_put : (old new : Option (List ℕ)) (before : ℕ) (bytes : List ℕ) (r : Result ℕ ShortWrite) → Puts old new before bytes r → Grows old new
grows_put old new before bytes r h = (take h.taken bytes, h.added)

pub grows_none : (old : Option (List ℕ)) → Grows old old
grows_none old = ([], appends_nothing old)

-- a line about a file, and the text after it
pub file_line : (start name end more : List ℕ) → start ++ (name ++ (end ++ more)) ≡ (start ++ (name ++ end)) ++ more
file_line start name end more = sym (append_assoc start (name ++ end) more ∙ ap (λ t. start ++ t) (append_assoc name end more))

pub puts_line : (start name end more : List ℕ) {old new : Option (List ℕ)} {before : ℕ} {r : Result ℕ ShortWrite}
    → Puts old new before (start ++ (name ++ (end ++ more))) r → Puts old new before ((start ++ (name ++ end)) ++ more) r
puts_line start name end more {old} {new} {before} {r} h = subst (λ bytes. Puts old new before bytes r) (file_line start name end more) h

-- a line and further bytes, about which nothing is promised
pub says_with : (old new : Option (List ℕ)) (line more : List ℕ) (r : Result ℕ ShortWrite) → Puts old new 0 (line ++ more) r
    → SaysMore (record { old = old; new = new }) (line ++ [])
says_with old new line more r h =
    (more, (h.taken, subst (λ t. Appends old new (take h.taken (t ++ more))) (sym (append-nil line)) h.added))

-- ---- the words

map_more : {A : Type 0} (f : A → List ℕ) (xs : List A) (i : ℕ) (x : A) → i < length xs → x ≡ get_or xs i x
    → map f (take (i + 1) xs) ≡ map f (take i xs) ++ f x ∷ []
map_more f xs i x l is =
    ap (map f) (take_more xs i x l) ∙ map-append f (take i xs) (get_or xs i x ∷ []) ∙ ap (λ y. map f (take i xs) ++ f y ∷ []) (sym is)

-- the texts of one more word
pub texts_more : {A B : Type 0} (f : A → List ℕ) (t : B → List ℕ) (words : List A) (list longer : List B) (i : ℕ) (word : A) (x : B)
    → map t list ≡ map f (take i words) → longer ≡ list ++ x ∷ [] → t x ≡ f word → i < length words → word ≡ get_or words i word
    → map t longer ≡ map f (take (i + 1) words)
texts_more f t words list longer i word x before pushed same l is =
    ap (map t) pushed ∙ map-append t list (x ∷ []) ∙ ap (λ ts. ts ++ t x ∷ []) before ∙ ap (λ y. map f (take i words) ++ y ∷ []) same
    ∙ sym (map_more f words i word l is)

-- the run on a line that the words mean
pub runs_line : (words : List Text) (slice items : List (Bor Text)) (files : Files) (line : Line) (out err : Writing) (status : ℕ) → slice ≡ items
    → texts items ≡ words → MeanLine (texts slice) line → ComesTo files line out err status → IsRun words files out err status
runs_line words slice items files line out err status is same means comes =
    on_line line (subst (λ ws. MeanLine ws line) (ap texts is ∙ same) means) comes

-- the run on words that mean none
pub runs_refused : (words : List Text) (slice items : List (Bor Text)) (files : Files) (no_line : NoLine) (out err : Writing) (status : ℕ)
    → slice ≡ items → texts items ≡ words → IsNoLine (texts slice) no_line
    → (IsNoLine (texts slice) no_line → IsRun (texts slice) files out err status) → IsRun words files out err status
runs_refused words slice items files no_line out err status is same fits runs =
    subst (λ ws. IsRun ws files out err status) (ap texts is ∙ same) (runs fits)

-- a run in which memory ran out before the words were read
pub runs_out : (words : List Text) (files : Files) (out err : Writing) (status : ℕ) → GetsNothing out
    → GetsUpTo err (codes "tlacheck: out of memory\n") → status ≡ 21 → IsRun words files out err status
runs_out words files out err status nothing says ends =
    refused (record { fault = Memory; bad_number = None }) (record { fault = tt; option = λ is. cc }) (λ help. absurd help) nothing
    (says_alone (is_quiet words) err (codes "tlacheck: out of memory\n") says) ends

-- the run of a process
pub runs_some : (words : List Text) (files : Files) (out err : Writing) (status : ℕ) → IsRun words files out err status → IsSomeRun out err status
runs_some words files out err status runs = on_words words files runs

pub runs_none : (out err : Writing) (status : ℕ) → GetsNothing out → status ≡ 21 → IsSomeRun out err status
runs_none out err status nothing ends = no_words nothing ends
