use Rattle.std.proofs.Common.{◌≡◌, ◌≤◌, ◌-◌, length}
use Rattle.tla_lex.specs.Places.{place_at}
use Rattle.tla_lex.specs.Reads.{InOrder}
use Rattle.tla_lex.proofs.SoFar.{SoFar}
use Rattle.tla_lex.proofs.scan.scan_from.Given as goal

abbrev pub invariant-loop-stop : goal.invariant-loop-stop
invariant-loop-stop l = record {
  so_far : SoFar l.source l.text l.from l.tokens.items l.at;
  in_order : InOrder l.from l.at l.tokens.items;
  place : l.place ≡ place_at l.text l.at;
  within : l.at ≤ length l.text;
}

abbrev pub decreases-loop-stop : goal.decreases-loop-stop
decreases-loop-stop l = length l.text - l.at
