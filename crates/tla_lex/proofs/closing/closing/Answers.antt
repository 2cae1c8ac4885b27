use Rattle.std.proofs.Common.{rules, arith, ◌∙◌, ap, drop}
use Rattle.std.proofs.lemmas.Grind.{common_steps}
use Rattle.std.proofs.lemmas.List.{drop-drop}
use Rattle.tla_lex.specs.Module.{closing_from}
use Rattle.tla_lex.proofs.Slices.{rest_slice}
use Rattle.tla_lex.proofs.closing.closing.Goals as goal

pub loop-left-preserved : goal.loop-left-preserved
unfolding closing_from
loop-left-preserved c = record {
  same = first_of (search rules, grind (arith, common_steps));
  at = omega arith;
  from = omega arith;
  depth = omega (arith, c.region_after-region.ensures.rises, c.loop-left.invariant.depth);
  left = rest_slice c.loop-left.left.now 1 ∙ ap (λ xs. drop 1 xs) c.loop-left.invariant.left ∙ drop-drop 1 c.loop-left.at c.args.text.now;
}
