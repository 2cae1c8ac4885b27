-- What writing a document through a block did to the inner writer.
use Rattle.std.specs.Prelude.{◌≡◌, ℕ, ◌+◌, ◌<◌, ◌≤◌, List, ◌++◌, length, take, Option, Result, MatchResult, IfSome, OnOk}
use Rattle.std.specs.Io.KnownBytes.{Appends}
use Rattle.counted_writer.specs.declared.ShortWrite.{ShortWrite}
use Rattle.counted_writer.specs.Puts.{count_of}

-- the first `sent` bytes were added and the next ones wait; at `Ok` there are no others
pub record Sends (old new : Option (List ℕ)) (bytes waits : List ℕ) (given : Result ℕ ShortWrite) : Type 0 where
  pub sent : ℕ
  pub counted : count_of given ≡ sent + length waits
  pub ends : MatchResult given (λ count. count ≤ length bytes) (λ short. short.written < length bytes)
  pub added : Appends old new (take sent bytes)
  pub whole : OnOk given (IfSome old (λ _. bytes ≡ take sent bytes ++ waits))
