-- What a counted write does to the contents of a writer, where they are known. (This project's own choice.)
use Rattle.std.specs.Prelude.{◌≡◌, ℕ, ◌+◌, ◌-◌, ◌^◌, ◌<◌, min, List, length, take, Option, Result, Ok, Err, MatchResult}
use Rattle.std.specs.Io.KnownBytes.{Appends}
use Rattle.counted_writer.specs.declared.ShortWrite.{ShortWrite}

-- the count after n more bytes; it saturates at u64::MAX
abbrev pub count_after : ℕ → ℕ → ℕ
count_after before n = min (before + n) (2 ^ 64 - 1)

-- the count that a call returns
abbrev pub count_of : Result ℕ ShortWrite → ℕ
count_of (Ok after) = after
count_of (Err fault) = fault.written

-- The first `taken` bytes were added: all at `Ok`, not all at `Err`. The result holds the count after them.
pub record Puts (old new : Option (List ℕ)) (before : ℕ) (bytes : List ℕ) (result : Result ℕ ShortWrite) : Type 0 where
  pub taken : ℕ
  pub ends : MatchResult result (λ _. taken ≡ length bytes) (λ _. taken < length bytes)
  pub added : Appends old new (take taken bytes)
  pub counted : count_of result ≡ count_after before taken

-- exactly the first `written` bytes were added, and not all; `written` = u64::MAX means that many or more
pub record AddsFirst (old new : Option (List ℕ)) (bytes : List ℕ) (written : ℕ) : Type 0 where
  pub taken : ℕ
  pub short : taken < length bytes
  pub added : Appends old new (take taken bytes)
  pub counted : written ≡ min taken (2 ^ 64 - 1)
