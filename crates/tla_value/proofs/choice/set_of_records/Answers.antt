use Rattle.std.proofs.Common.{map, sym, arith}
use Rattle.std.proofs.lemmas.List.{length-map}
use Rattle.tla_value.specs.TreeOf.{tree_of}
use Rattle.tla_value.proofs.FunctionSets.{makes_no_records, too_long_records, too_many_records, makes_functions}
use Rattle.tla_value.proofs.choice.set_of_records.Goals as goal

pub returns-then-has_empty-clause-made : goal.returns-then-has_empty-clause-made
returns-then-has_empty-clause-made c = makes_no_records (map tree_of c.args.names.now) (map (λ s. s.now) c.args.sets.now) _ (sym c.if-has_empty.ensures.empty) c.empty.ensures

pub returns-then-sets-gt-MAX_ELEMENTS-clause-made : goal.returns-then-sets-gt-MAX_ELEMENTS-clause-made
returns-then-sets-gt-MAX_ELEMENTS-clause-made c =
    too_long_records (map tree_of c.args.names.now) (map (λ s. s.now) c.args.sets.now) (omega (arith, length-map c.args.names.now tree_of, length-map c.args.sets.now (λ s. s.now)))
    c.has_empty.ensures.rising (sym c.if-has_empty.ensures.empty) (omega (arith, length-map c.args.sets.now (λ s. s.now)))

pub returns-in-None-clause-made : goal.returns-in-None-clause-made
returns-in-None-clause-made c =
    too_many_records (map tree_of c.args.names.now) (map (λ s. s.now) c.args.sets.now) (omega (arith, length-map c.args.names.now tree_of, length-map c.args.sets.now (λ s. s.now))) c.has_empty.ensures.rising c.in-None.ensures.count

pub returns-in-Some-clause-made : goal.returns-in-Some-clause-made
returns-in-Some-clause-made c =
    makes_functions (map tree_of c.args.names.now) (map (λ s. s.now) c.args.sets.now) _ (omega (arith, length-map c.args.names.now tree_of, length-map c.args.sets.now (λ s. s.now)))
    c.has_empty.ensures.rising (omega (arith, length-map c.args.sets.now (λ s. s.now))) c.set_of_functions.ensures
