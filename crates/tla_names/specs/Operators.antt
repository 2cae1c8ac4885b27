-- The modules that operators come from (book, chapter 18), and how prefix operators are written.
use Rattle.std.specs.Prelude.{Bool, true, false, ◌||◌, List, if◌then◌else◌, codes}
use Rattle.tla_tree.specs.declared.tree.Infix.{Infix}
use Rattle.tla_tree.specs.declared.tree.Infix.TheVariants as i
use Rattle.tla_tree.specs.declared.tree.Prefix.{Prefix}
use Rattle.tla_tree.specs.declared.tree.Prefix.TheVariants as p
use Rattle.tla_config.specs.Names.{Name, is_among}

-- the operators that the modules Naturals and Integers bring in (book, chapter 18)
abbrev pub is_of_numbers : Infix → Bool
is_of_numbers i.Less = true
is_of_numbers i.Greater = true
is_of_numbers i.AtMost = true
is_of_numbers i.AtLeast = true
is_of_numbers i.Plus = true
is_of_numbers i.Minus = true
is_of_numbers i.Times = true
is_of_numbers i.Quotient = true
is_of_numbers i.Remainder = true
is_of_numbers i.Power = true
is_of_numbers i.Range = true
is_of_numbers _ = false

-- the minus sign before a number is of Integers alone
abbrev pub is_of_integers : Prefix → Bool
is_of_integers p.Negate = true
is_of_integers _ = false

-- the operators of sequences, and those of the module TLC
abbrev pub is_of_sequences : Infix → Bool
is_of_sequences i.Concatenation = true
is_of_sequences _ = false

abbrev pub is_of_tlc : Infix → Bool
is_of_tlc i.Pair = true
is_of_tlc i.Override = true
is_of_tlc _ = false

-- whether the operator may be used where these modules are extended
abbrev pub infix_known : List Name → Infix → Bool
infix_known modules op =
    if is_of_numbers op then is_among (codes "Naturals") modules || is_among (codes "Integers") modules
    else if is_of_sequences op then is_among (codes "Sequences") modules
    else if is_of_tlc op then is_among (codes "TLC") modules
    else true

abbrev pub prefix_known : List Name → Prefix → Bool
prefix_known modules op = if is_of_integers op then is_among (codes "Integers") modules else true

-- how prefix operators are written
abbrev pub prefix_word : Prefix → Name
prefix_word p.Not = codes "~"
prefix_word p.Negate = codes "-"
prefix_word p.Always = codes "[]"
prefix_word p.Eventually = codes "<>"
prefix_word p.Unchanged = codes "UNCHANGED"
prefix_word p.Subset = codes "SUBSET"
prefix_word p.Union = codes "UNION"
prefix_word p.Domain = codes "DOMAIN"
