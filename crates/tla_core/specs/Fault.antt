-- Faults of evaluation, and how they propagate. (Book, chapter 14: the checker stops at a fault; the codes are this
-- project's own.)
use Rattle.std.specs.Prelude.{ℕ, List, Result, Ok, Err, Some, None, codes}
pub use Rattle.tla_core.specs.declared.fault.Place.{Place}
pub use Rattle.tla_core.specs.declared.fault.Fault.{Fault}
pub use Rattle.tla_core.specs.declared.fault.FaultCode.{FaultCode}
pub use Rattle.tla_core.specs.declared.fault.FaultCode.TheVariants.{WrongKind, Overflow, SmallDivisor, NegativeExponent, OutsideDomain, NoField, NoChoice, NoArm, NotEnumerable, TooMany, TooDeep, EmptySequence, NotSet, AssertFalse, Unassigned, Memory}

-- the result of an evaluation: a value, or its first fault
abbrev pub Outcome : Type 0 → Type 0
Outcome A = Result A Fault

infixl 20 ◌>>=◌
-- continues with a value; a fault is the result at once
abbrev pub ◌>>=◌ : {A B : Type 0} → Outcome A → (A → Outcome B) → Outcome B
(Ok x) >>= k = k x
(Err f) >>= k = Err f

-- a fault of the node at this place
abbrev pub fault : {A : Type 0} → FaultCode → Place → Outcome A
fault code p = Err (record { code = code; place = Some p; variable = None })

-- the fault that means that memory ran out; it has no place
abbrev pub out_of_memory : Fault
out_of_memory = record { code = Memory; place = None; variable = None }

-- how a report names a fault
abbrev pub code_text : FaultCode → List ℕ
code_text WrongKind = codes "E1"
code_text Overflow = codes "E2"
code_text SmallDivisor = codes "E3"
code_text NegativeExponent = codes "E4"
code_text OutsideDomain = codes "E5"
code_text NoField = codes "E6"
code_text NoChoice = codes "E7"
code_text NoArm = codes "E8"
code_text NotEnumerable = codes "E9"
code_text TooMany = codes "E10"
code_text TooDeep = codes "E11"
code_text EmptySequence = codes "E12"
code_text NotSet = codes "E13"
code_text AssertFalse = codes "E14"
code_text Unassigned = codes "E15"
code_text Memory = codes "E16"
