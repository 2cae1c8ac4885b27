use Rattle.std.proofs.Common.{arith}
use Rattle.std.proofs.lemmas.Result.{err_from_is_err_and}
use Rattle.tla_tree.specs.declared.word.Written.{Written}
use Rattle.tla_config.specs.Configuration.{IsName}
use Rattle.tla_config.specs.Private.Gives.{NoNames}
use Rattle.tla_config.proofs.Arms.{fails_map}
use Rattle.tla_config.proofs.NameLists.{so_far_none, so_far_more, so_far_last, so_far_no_name}
use Rattle.tla_config.proofs.names.names.Goals as goal

pub loop-names-init : goal.loop-names-init
loop-names-init c = record { so_far = rw c.new-names.ensures.items (so_far_none c.args.text.now c.args.tokens.now c.args.from); order = omega arith }

pub returns-in_err-name-clause-gives : goal.returns-in_err-name-clause-gives
returns-in_err-name-clause-gives c =
    let text = c.args.text.now in
    let ts = c.args.tokens.now in
    let e = err_from_is_err_and c.from_residual.result c.from_residual.ensures.1 in
    rw (e.1, e.2) (fails_map text ts c.in_err-name.field-0.0 ((w : Written) → IsName text ts w c.loop-names.at → ⊥) (NoNames text ts c.args.from)
    (so_far_no_name text ts c.loop-names.names.items c.args.from c.loop-names.at c.loop-names.invariant.so_far) c.in_err-name.ensures.gives)

pub loop-names-preserved : goal.loop-names-preserved
loop-names-preserved c = record {
  so_far = rw c.in_ok-push.ensures.ok (so_far_more c.args.text.now c.args.tokens.now c.loop-names.names.items c.args.from c.loop-names.at c.in-Some.next
      c.in_ok-name.name c.loop-names.invariant.so_far c.in_ok-name.ensures.gives c.in-Some.ensures.goes_on);
  order = let a = c.in-Some.ensures.order in let b = c.loop-names.invariant.order in omega arith;
}

pub returns-in-None-clause-gives : goal.returns-in-None-clause-gives
returns-in-None-clause-gives c = rw c.in_ok-push.ensures.ok (so_far_last c.args.text.now c.args.tokens.now c.loop-names.names.items c.args.from c.loop-names.at
    c.in_ok-name.name c.loop-names.invariant.so_far c.in_ok-name.ensures.gives c.in-None.ensures.goes_on)

pub returns-in_err-name-clause-because : goal.returns-in_err-name-clause-because
returns-in_err-name-clause-because c =
    let e = err_from_is_err_and c.from_residual.result c.from_residual.ensures.1 in
    rw (e.1, e.2) c.in_err-name.ensures.because
