-- The header of a module (book, chapter 15; that text before it is ignored is this project's own choice).
use Rattle.std.specs.Prelude.{◌≡◌, ◌<◌, ◌+◌, ℕ, false, IsTrue, ◌++◌, length, codes}
use Rattle.std.specs.List.{list_all}
use Rattle.tla_lex.specs.Bytes.{Bytes, first, is_space_or_tab, is_word}

-- A header ends at this byte: a run of four or more dashes, spaces or tabs, and the word MODULE.
pub record EndsHeader (text : Bytes) (end : ℕ) : Type 0 where
  pub before : Bytes
  pub spaces : Bytes
  pub behind : Bytes
  pub whole : text ≡ before ++ (codes "----" ++ (spaces ++ (codes "MODULE" ++ behind)))
  pub here : end + length behind ≡ length text
  pub blank : IsTrue (list_all is_space_or_tab spaces)
  pub some : 0 < length spaces
  pub word : is_word (first behind) ≡ false

-- the first header ends at this byte
pub record IsHeader (text : Bytes) (end : ℕ) : Type 0 where
  pub ends : EndsHeader text end
  pub first : (n : ℕ) → n < end → EndsHeader text n → ⊥

abbrev pub NoHeader : Bytes → Type 0
NoHeader text = (n : ℕ) → EndsHeader text n → ⊥
