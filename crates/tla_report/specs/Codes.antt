-- The codes of refusals. (This project's own choice.)
use Rattle.std.specs.Prelude.{ℕ, Bool, true, false, List, codes}
use Rattle.tla_report.specs.declared.checked.RefusalCode.{RefusalCode}
use Rattle.tla_report.specs.declared.checked.RefusalCode.TheVariants as refusal

-- the codes of refusals that contain a name
abbrev pub is_named_code : RefusalCode → Bool
is_named_code refusal.FormLeftOut = true
is_named_code refusal.UnknownName = true
is_named_code refusal.DefinedTwice = true
is_named_code refusal.ArgumentCount = true
is_named_code refusal.ConstantWithoutValue = true
is_named_code refusal.CircularReplacement = true
is_named_code refusal.StatementLeftOut = true
is_named_code _ = false

-- The codes of refusals that are the first in a fixed order of steps: those of tokens and, for module and configuration
-- together, those of names, of the items of CONSTANT and of the behaviour.
abbrev pub is_first_code : RefusalCode → Bool
is_first_code refusal.NotUtf8 = true
is_first_code refusal.UnknownCharacter = true
is_first_code refusal.OpenString = true
is_first_code refusal.OpenComment = true
is_first_code refusal.NumberTooLarge = true
is_first_code refusal.NoHeader = true
is_first_code refusal.NoClosingLine = true
is_first_code refusal.UnknownName = true
is_first_code refusal.DefinedTwice = true
is_first_code refusal.ArgumentCount = true
is_first_code refusal.ConstantWithoutValue = true
is_first_code refusal.CircularReplacement = true
is_first_code refusal.BehaviourCount = true
is_first_code _ = false

abbrev pub refusal_code : RefusalCode → List ℕ
refusal_code refusal.NotUtf8 = codes "L1"
refusal_code refusal.UnknownCharacter = codes "L2"
refusal_code refusal.OpenString = codes "L3"
refusal_code refusal.OpenComment = codes "L4"
refusal_code refusal.NumberTooLarge = codes "L5"
refusal_code refusal.NoHeader = codes "L6"
refusal_code refusal.NoClosingLine = codes "L7"
refusal_code refusal.UnexpectedToken = codes "P1"
refusal_code refusal.PrecedenceConflict = codes "P2"
refusal_code refusal.LeftOfJunction = codes "P3"
refusal_code refusal.NestedTooDeep = codes "P4"
refusal_code refusal.FormLeftOut = codes "P5"
refusal_code refusal.ConfigurationText = codes "C1"
refusal_code refusal.UnknownName = codes "C2"
refusal_code refusal.DefinedTwice = codes "C3"
refusal_code refusal.ArgumentCount = codes "C4"
refusal_code refusal.Level = codes "C5"
refusal_code refusal.ConstantWithoutValue = codes "C6"
refusal_code refusal.CircularReplacement = codes "C7"
refusal_code refusal.SpecificationForm = codes "C8"
refusal_code refusal.BehaviourCount = codes "C9"
refusal_code refusal.StatementLeftOut = codes "C10"
refusal_code refusal.ExpansionTooLarge = codes "C11"
