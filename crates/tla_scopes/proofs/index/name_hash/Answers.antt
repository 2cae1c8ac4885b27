use Rattle.std.proofs.Common.{◌∙◌, ap, sym, arith}
use Rattle.std.proofs.lemmas.List.{drop_all}
use Rattle.tla_scopes.specs.Places.{Name}
use Rattle.tla_scopes.specs.Private.Index.{hash_from}
use Rattle.tla_scopes.proofs.Hashes.{hash_start, hash_more}
use Rattle.tla_scopes.proofs.index.name_hash.Goals as goal

pub loop-i-init : goal.loop-i-init
loop-i-init c = record { small = omega arith; same = hash_start c.args.name.now }

pub loop-i-preserved : goal.loop-i-preserved
loop-i-preserved c = record {
  small = omega arith;
  same = hash_more c.args.name.now c.loop-i.i c.loop-i.hash (omega arith) ∙ c.loop-i.invariant.same;
}

pub returns : goal.returns
returns c =
    sym (ap (λ (x : Name). hash_from c.loop-i.hash x) (drop_all c.loop-i.i c.args.name.now (omega arith))) ∙ c.loop-i.invariant.same
