use Rattle.std.proofs.Common.{map, ◌∙◌, arith, add-one}
use Rattle.std.proofs.lemmas.List.{length-map, take_all}
use Rattle.tla_value.specs.TreeOf.{tree_of}
use Rattle.tla_value.proofs.FunctionSets.{is-fun_list, function_more, length-functions_by}
use Rattle.tla_value.proofs.choice.functions.Goals as goal

pub fun_within-requires : goal.fun_within-requires
fun_within-requires c =
    is-fun_list (map tree_of c.args.arguments.now) (map (λ s. s.now) c.args.sets.now) c.loop-number.number _
    (omega (arith, length-map c.args.arguments.now tree_of, length-map c.args.sets.now (λ s. s.now))) (omega (arith, length-map c.args.arguments.now tree_of))
    c.requires.rising c.in_ok-pairs.ensures.ok c.in_ok-pairs.ensures.shallow

pub loop-number-preserved : goal.loop-number-preserved
loop-number-preserved c =
    rw add-one (function_more _ _ _ (map tree_of c.args.arguments.now) (map (λ s. s.now) c.args.sets.now) c.loop-number.number (omega arith) c.in_ok-push.ensures.items (c.in_ok-fun_within.ensures.ok ∙ c.in_ok-pairs.ensures.ok) c.loop-number.invariant)

pub returns-clause-ok : goal.returns-clause-ok
returns-clause-ok c =
    c.loop-number.invariant
    ∙ take_all _ _ (omega (arith, length-functions_by (map tree_of c.args.arguments.now) (map (λ s. s.now) c.args.sets.now)))
