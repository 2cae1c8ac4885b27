use Rattle.std.proofs.Common.{◌≡◌, subst, List, OnOk, IfErr}
use Rattle.tla_value.specs.Tree.{Tree}
use Rattle.tla_value.specs.TreeOf.{tree_of}
use Rattle.tla_value.specs.Funs.{RefusesFun}
use Rattle.tla_value.proofs.Places.{except_there, except_absent}
use Rattle.tla_value.proofs.value.FunValue.put.Goals as goal

pub returns-in-Some-clause-ok : goal.returns-in-Some-clause-ok
returns-in-Some-clause-ok c = subst (λ (ps : List (Tree × Tree)). OnOk c.put_at.result (c.put_at.new.self ≡ ps)) (except_there c.args.self.now (tree_of c.args.argument.now) (tree_of c.args.value) c.in-Some.index c.place.ensures.rising c.in-Some.ensures.some) c.put_at.ensures.ok

pub returns-in-Some-clause-refused : goal.returns-in-Some-clause-refused
returns-in-Some-clause-refused c = subst (λ (ps : List (Tree × Tree)). IfErr c.put_at.result (RefusesFun ps)) (except_there c.args.self.now (tree_of c.args.argument.now) (tree_of c.args.value) c.in-Some.index c.place.ensures.rising c.in-Some.ensures.some) c.put_at.ensures.refused

pub returns-in-None-clause-ok : goal.returns-in-None-clause-ok
returns-in-None-clause-ok c = except_absent c.args.self.now (tree_of c.args.argument.now) (tree_of c.args.value) c.in-None.ensures.none
