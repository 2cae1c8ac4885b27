-- Values as a configuration writes them, and what they are (book, chapters 14 and 16).
use Rattle.std.specs.Prelude.{ℤ, pos, neg_ℤ, Bool, true, false, List, [], ◌∷◌, Option, Some, None, if◌then◌else◌}
use Rattle.tla_lex.specs.Bytes.{Bytes}
use Rattle.tla_lex.specs.StringLoops.{string_text}
use Rattle.tla_lex.specs.Words as digits
use Rattle.tla_lex.specs.declared.token.Kind.{Kind}
use Rattle.tla_lex.specs.declared.token.Kind.TheVariants as k
use Rattle.tla_lex.specs.declared.token.Token.{Token}
use Rattle.tla_tree.specs.Words.{word_of}
use Rattle.tla_value.specs.Sets.{set_of}
use Rattle.tla_value.specs.Tree.{Tree, truth, int, text, model, set, trees}
use Rattle.tla_config.specs.Names.{Name, is_among, statement_words}

mutual
  pub data Literal : Type 0 where
    -- a number, a string, TRUE, FALSE or a name, which is a model value
    atom : Tree → Literal
    -- a set, by its members
    braces : Literals → Literal

  pub data Literals : Type 0 where
    no_literals : Literals
    more_literals : Literal → Literals → Literals

abbrev mutual
  pub value_of : Literal → Tree
  value_of (atom v) = v
  value_of (braces ls) = set (trees (set_of (values_of ls)))

  pub values_of : Literals → List Tree
  values_of no_literals = []
  values_of (more_literals l ls) = value_of l ∷ values_of ls

-- a number's sign and digits
abbrev pub number : Bool → Bytes → ℤ
number false ds = pos (digits.value 0 ds)
number true ds = neg_ℤ (pos (digits.value 0 ds))

abbrev pub model_value : Name → Option Tree
model_value w = if is_among w statement_words then None else Some (model w)

abbrev pub atom_by : Bytes → Token → Kind → Option Tree
atom_by source t k.True = Some (truth true)
atom_by source t k.False = Some (truth false)
atom_by source t k.Digits = Some (int (number false (word_of source t)))
atom_by source t k.Text = Some (text (string_text (word_of source t)))
atom_by source t k.Name = model_value (word_of source t)
atom_by source t _ = None

-- the value that a token writes by itself
abbrev pub atom_of : Bytes → Token → Option Tree
atom_of source t = atom_by source t t.kind
