-- The text of a value, as bytes. (Book, chapter 15; `:>` and `@@` are operators of its module TLC.)
use Rattle.std.specs.Prelude.{ℕ, Bool, true, false, List, [], ◌∷◌, ◌++◌, codes, is_some, if◌then◌else◌, ◌==◌}
use Rattle.std.specs.Fmt.{signed_decimal}
use Rattle.std.specs.List.{list_all, flat_map, join_by}
use Rattle.tla_value.specs.Tree.{Tree, Trees, Pairs, truth, int, text, model, set, fun, no_trees, more_trees, no_pairs, more_pairs, entries}
use Rattle.tla_value.specs.Funs.{arguments, items_of}
use Rattle.tla_value.specs.TextNames.{is_field_name}

abbrev pub truth_text : Bool → List ℕ
truth_text true = codes "TRUE"
truth_text false = codes "FALSE"

-- a byte of a string; `"`, `\`, tab, line feed, form feed and carriage return are `\"`, `\\`, `\t`, `\n`, `\f` and `\r`
abbrev pub escaped : ℕ → List ℕ
escaped b =
    if b == 34 then 92 ∷ 34 ∷ [] else (if b == 92 then 92 ∷ 92 ∷ [] else (if b == 9 then 92 ∷ 116 ∷ [] else
    (if b == 10 then 92 ∷ 110 ∷ [] else (if b == 12 then 92 ∷ 102 ∷ [] else (if b == 13 then 92 ∷ 114 ∷ [] else b ∷ [])))))

-- a string in quotes
abbrev pub quoted : List ℕ → List ℕ
quoted s = codes "\"" ++ (flat_map escaped s ++ codes "\"")

-- some texts with a separator between them
abbrev pub joined : List ℕ → List (List ℕ) → List ℕ
joined separator texts = join_by (λ s. s) separator texts

-- a list of texts: what opens it, what separates two, and what closes it
abbrev pub listed : (opening separator closing : List ℕ) → List (List ℕ) → List ℕ
listed opening separator closing texts = opening ++ (joined separator texts ++ closing)

-- the name of a field: the string without quotes
abbrev pub field_name : Tree → List ℕ
field_name (text s) = s
field_name _ = []

abbrev pub is_field : Tree → Bool
is_field (text s) = is_field_name s
is_field _ = false

abbrev pub has_no_pairs : Pairs → Bool
has_no_pairs no_pairs = true
has_no_pairs (more_pairs a v ps) = false

-- whether the arguments are 1 to n
abbrev pub is_sequence : Pairs → Bool
is_sequence ps = is_some (items_of (entries ps))

-- whether each argument is the name of a field
abbrev pub is_record : Pairs → Bool
is_record ps = list_all is_field (arguments (entries ps))

abbrev mutual
  pub text_of : Tree → List ℕ
  text_of (truth b) = truth_text b
  text_of (int z) = signed_decimal z
  text_of (text s) = quoted s
  text_of (model s) = s
  text_of (set ts) = listed (codes "{") (codes ", ") (codes "}") (member_texts ts)
  text_of (fun ps) =
      if has_no_pairs ps then codes "<< >>" else (
      if is_sequence ps then listed (codes "<<") (codes ", ") (codes ">>") (value_texts ps) else (
      if is_record ps then listed (codes "[") (codes ", ") (codes "]") (field_texts ps)
      else listed (codes "(") (codes " @@ ") (codes ")") (pair_texts ps)))

  pub member_texts : Trees → List (List ℕ)
  member_texts no_trees = []
  member_texts (more_trees t ts) = text_of t ∷ member_texts ts

  pub value_texts : Pairs → List (List ℕ)
  value_texts no_pairs = []
  value_texts (more_pairs a v ps) = text_of v ∷ value_texts ps

  pub field_texts : Pairs → List (List ℕ)
  field_texts no_pairs = []
  field_texts (more_pairs a v ps) = (field_name a ++ (codes " |-> " ++ text_of v)) ∷ field_texts ps

  pub pair_texts : Pairs → List (List ℕ)
  pair_texts no_pairs = []
  pair_texts (more_pairs a v ps) = (text_of a ++ (codes " :> " ++ text_of v)) ∷ pair_texts ps
