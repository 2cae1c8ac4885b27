-- Reports of some answers in full, as a check of the definition.
use Rattle.std.specs.Prelude.{◌≡◌, ℕ, [], ◌∷◌, pos, codes, Some, None, refl}
use Rattle.std.specs.Fmt.{digits}
use Rattle.std.proofs.Common.{lit<}
use Rattle.tla_value.specs.Tree.{int}
use Rattle.tla_core.specs.declared.fault.FaultCode.TheVariants.{Overflow, SmallDivisor, Unassigned, TooMany}
use Rattle.tla_verdict.specs.declared.answer.Answer.{Answer}
use Rattle.tla_verdict.specs.declared.answer.Answer.TheVariants.{NoError, InvariantFalse, Deadlock, Faulted, AssumptionFalse, Limit}
use Rattle.tla_verdict.specs.declared.finding.Part.TheVariants.{Assumption, NextAction, Constraint}
use Rattle.tla_config.specs.declared.error.Source.TheVariants.{Module, Configuration}
use Rattle.tla_report.specs.declared.checked.RefusalCode.TheVariants.{NumberTooLarge, StatementLeftOut}
use Rattle.tla_report.specs.declared.checked.Checked.{Checked}
use Rattle.tla_report.specs.declared.checked.Checked.TheVariants.{Answered, Refused, NoMemory, NoWorker}
use Rattle.tla_verdict.specs.IsNamed.{IsNamed}
use Rattle.tla_report.specs.Report.{report}

-- an answer about the variable x, the invariant Inv and the constraint Con
abbrev about_x : (answer : Answer) (limit : ℕ) → IsNamed 1 1 1 answer → Checked
about_x answer limit named =
    Answered record { answer = answer; variables = codes "x" ∷ []; invariants = codes "Inv" ∷ []; constraints = codes "Con" ∷ []; limit = limit; named = named }

no_error : report (about_x (NoError record { levels = 3; states = 3 }) 16777216 tt) ≡ codes "No error.\nLevels 3, states 3.\n"
unfolding digits
no_error = refl

false_invariant : report (about_x (InvariantFalse 0 ((int (pos 1) ∷ []) ∷ []) record { levels = 1; states = 1 }) 16777216 (lit< tt, (refl, tt)))
    ≡ codes "Invariant Inv is false.\nState 1:\n/\\ x = 1\nLevels 1, states 1.\n"
unfolding digits
false_invariant = refl

deadlock : report (about_x (Deadlock ((int (pos 0) ∷ []) ∷ (int (pos 1) ∷ []) ∷ (int (pos 2) ∷ []) ∷ []) record { levels = 3; states = 3 }) 16777216 (refl, (refl, (refl, tt))))
    ≡ codes "Deadlock.\nState 1:\n/\\ x = 0\nState 2:\n/\\ x = 1\nState 3:\n/\\ x = 2\nLevels 3, states 3.\n"
unfolding digits
deadlock = refl

fault_at_a_place : report (about_x (Faulted record { code = Overflow; place = Some record { line = 5; column = 14 }; variable = None } NextAction ((int (pos 9223372036854775807) ∷ []) ∷ []) record { levels = 1; states = 1 }) 16777216 (tt, tt, (refl, tt)))
    ≡ codes "Fault E2 at line 5, column 14 in the next-state action.\nState 1:\n/\\ x = 9223372036854775807\nLevels 1, states 1.\n"
unfolding digits
fault_at_a_place = refl

fault_of_a_constraint : report (about_x (Faulted record { code = SmallDivisor; place = Some record { line = 7; column = 8 }; variable = None } (Constraint 0) ((int (pos 0) ∷ []) ∷ []) record { levels = 1; states = 1 }) 16777216 (tt, lit< tt, (refl, tt)))
    ≡ codes "Fault E3 at line 7, column 8 in constraint Con.\nState 1:\n/\\ x = 0\nLevels 1, states 1.\n"
unfolding digits
fault_of_a_constraint = refl

fault_of_an_assumption : report (about_x (Faulted record { code = TooMany; place = Some record { line = 4; column = 20 }; variable = None } (Assumption 1) [] record { levels = 0; states = 0 }) 16777216 (tt, tt, tt))
    ≡ codes "Fault E10 at line 4, column 20 in assumption 1.\nLevels 0, states 0.\n"
unfolding digits
fault_of_an_assumption = refl

fault_of_a_variable : report (about_x (Faulted record { code = Unassigned; place = None; variable = Some 0 } NextAction ((int (pos 0) ∷ []) ∷ []) record { levels = 1; states = 1 }) 16777216 (lit< tt, tt, (refl, tt)))
    ≡ codes "Fault E15 for variable x in the next-state action.\nState 1:\n/\\ x = 0\nLevels 1, states 1.\n"
unfolding digits
fault_of_a_variable = refl

false_assumption : report (about_x (AssumptionFalse 1) 16777216 tt) ≡ codes "Assumption 1 is false.\nLevels 0, states 0.\n"
unfolding digits
false_assumption = refl

limit_passed : report (about_x (Limit record { levels = 4; states = 4 }) 4 tt) ≡ codes "State limit 4 passed.\nLevels 4, states 4.\n"
unfolding digits
limit_passed = refl

refused_module : report (Refused record { source = Module; code = NumberTooLarge; place = record { line = 4; column = 13 }; name = None; named = refl })
    ≡ codes "Module refused: L5 at line 4, column 13.\n"
unfolding digits
refused_module = refl

refused_configuration : report (Refused record { source = Configuration; code = StatementLeftOut; place = record { line = 3; column = 1 }; name = Some (codes "PROPERTY"); named = refl })
    ≡ codes "Configuration refused: C10 at line 3, column 1: PROPERTY.\n"
unfolding digits
refused_configuration = refl

no_memory : report NoMemory ≡ codes "Out of memory.\n"
no_memory = refl

no_worker : report NoWorker ≡ codes "A worker could not be started.\n"
no_worker = refl
