use Rattle.std.proofs.Common.{ℕ, length, refl, ◌∙◌, arith}
use Rattle.std.proofs.lemmas.List.{length-replicate, length-set}
use Rattle.tla_scopes.specs.Private.Index.{hash_of}
use Rattle.tla_scopes.specs.Listed.{listed}
use Rattle.tla_scopes.proofs.Hashes.{slot_within}
use Rattle.tla_scopes.proofs.Indexed.{jumps_below, jumps_more, zeros}
use Rattle.tla_scopes.proofs.index.jumps_from.Goals as goal

pub loop-bit-init : goal.loop-bit-init
loop-bit-init c = record {
  all = length-replicate {A = ℕ} 17 0;
  within = c.requires;
  below = λ b. omega (arith, zeros 17 b);
  done = λ x k. absurd (omega arith);
  left = λ x k. refl;
}

pub loop-bit-preserved : goal.loop-bit-preserved
loop-bit-preserved c =
    let i = c.loop-bit.invariant in
    let j = c.jump_at-jump in
    let es = listed c.args.entries.now in
    record {
      all = length-set c.loop-bit.jumps c.loop-bit.bit j.result.to ∙ i.all;
      within = j.ensures.next_within;
      below = jumps_below c.loop-bit.jumps c.loop-bit.bit j.result.to (length es) (omega arith) i.below j.ensures.to_within;
      done = jumps_more es c.args.hash c.args.scope c.loop-bit.bit c.loop-bit.at j.result.to c.loop-bit.jumps (omega arith) i.done i.left j.ensures.to;
      left = λ x k. i.left x (omega arith) ∙ j.ensures.next x (omega arith);
    }

pub returns-clause-same : goal.returns-clause-same
returns-clause-same c = λ x. c.loop-bit.invariant.done x (omega (arith, slot_within c.args.hash (hash_of x)))
