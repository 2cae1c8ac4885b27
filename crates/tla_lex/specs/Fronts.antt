-- What comes next in a text (book, chapter 15).
use Rattle.std.specs.Prelude.{◌≡◌, ◌≢◌, ◌+◌, ℕ, drop, length}
use Rattle.tla_lex.specs.Bytes.{Bytes}
use Rattle.tla_lex.specs.Comments.{IsLeadingGap, IsOpenComment}
use Rattle.tla_lex.specs.Places.{place_at}
use Rattle.tla_lex.specs.Reads.{begun_at, fault_at}
use Rattle.tla_lex.specs.declared.error.LexCode.TheVariants.{OpenComment}
use Rattle.tla_lex.specs.declared.lexeme.Source.{Source}
use Rattle.tla_lex.specs.declared.scan.Front.{Front}
use Rattle.tla_lex.specs.declared.scan.Front.TheVariants.{Stops}
use Rattle.tla_lex.specs.declared.scan.Stop.TheVariants.{End, Fault}

-- What comes next from a byte on: after blanks and comments, the end of the text, or the longest token, or a fault; or
-- a comment that stays open.
pub data Comes (source : Source) (text : Bytes) (at : ℕ) : Front → Type 0 where
  ends : (n : ℕ) → IsLeadingGap (drop at text) n → at + n ≡ length text → Comes source text at (Stops (End (place_at text (at + n))))
  begins : (n : ℕ) → IsLeadingGap (drop at text) n → at + n ≢ length text → Comes source text at (begun_at source text (at + n))
  stays_open : (n : ℕ) → IsOpenComment (drop at text) n → Comes source text at (Stops (Fault (fault_at text OpenComment (at + n))))
