-- Which strings are written as a field's name without quotes: identifiers that are not reserved. (Book, chapter 15.)
use Rattle.std.specs.Prelude.{ℕ, Bool, not, ◌&&◌, ◌||◌, ◌==◌, List, [], ◌∷◌, codes, nat_eq}
use Rattle.std.specs.Char.{is_ascii_alphabetic, is_ascii_alphanumeric}
use Rattle.std.specs.List.{list_any, list_all, starts_with}
use Rattle.std.specs.Str.{bytes_eq}

-- a letter, a digit or `_`
abbrev pub is_word_byte : ℕ → Bool
is_word_byte b = is_ascii_alphanumeric b || (b == 95)

-- `WF_` and `SF_` before a word are tokens of their own
abbrev pub begins_fairness : List ℕ → Bool
begins_fairness s = starts_with nat_eq s (codes "WF_") || starts_with nat_eq s (codes "SF_")

-- letters, digits and `_`, with a letter among them
abbrev pub is_identifier : List ℕ → Bool
is_identifier s = list_all is_word_byte s && (list_any is_ascii_alphabetic s && not (begins_fairness s))

-- the reserved words, also those of forms that tlacheck doesn't support
abbrev pub reserved_words : List (List ℕ)
reserved_words =
    codes "ASSUME" ∷ codes "ASSUMPTION" ∷ codes "AXIOM" ∷ codes "BOOLEAN" ∷ codes "CASE" ∷ codes "CHOOSE" ∷
    codes "CONSTANT" ∷ codes "CONSTANTS" ∷ codes "DOMAIN" ∷ codes "ELSE" ∷ codes "EXCEPT" ∷ codes "EXTENDS" ∷
    codes "FALSE" ∷ codes "IF" ∷ codes "IN" ∷ codes "LET" ∷ codes "LOCAL" ∷ codes "MODULE" ∷ codes "OTHER" ∷
    codes "STRING" ∷ codes "SUBSET" ∷ codes "THEN" ∷ codes "THEOREM" ∷ codes "TRUE" ∷ codes "UNCHANGED" ∷
    codes "UNION" ∷ codes "VARIABLE" ∷ codes "VARIABLES" ∷
    codes "ENABLED" ∷ codes "INSTANCE" ∷ codes "LAMBDA" ∷ codes "RECURSIVE" ∷ codes "WITH" ∷ codes "PROOF" ∷
    codes "BY" ∷ codes "OBVIOUS" ∷ codes "OMITTED" ∷ []

abbrev pub is_reserved : List ℕ → Bool
is_reserved s = list_any (bytes_eq s) reserved_words

abbrev pub is_field_name : List ℕ → Bool
is_field_name s = is_identifier s && not (is_reserved s)
