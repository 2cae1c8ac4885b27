use Rattle.std.proofs.Common.{◌≤◌, arith, length}
use Rattle.tla_value.specs.TreeOf.{tree_of}
use Rattle.tla_value.specs.IsValue.{IsFunValue}
use Rattle.tla_value.specs.Private.Held.{held_pairs, fun_nesting}
use Rattle.tla_value.proofs.Made.{too_deep, still_shallow, IsFunValue-with_value_at, IsValue-fun}
use Rattle.tla_value.proofs.Pairs.{ArePairs-put}
use Rattle.tla_value.proofs.value.FunValue.put_at.Goals as goal

pub returns-then-nesting-ge-MAX_NESTING-clause-refused : goal.returns-then-nesting-ge-MAX_NESTING-clause-refused
returns-then-nesting-ge-MAX_NESTING-clause-refused c =
    let few : length c.args.self.now ≤ 1000000 = rw (← c.self.view_is) c.self.invariant.shape.list.few in
    too_deep c.args.self.now c.args.index (tree_of c.args.value) few c.requires (omega (arith, c.nesting.ensures.nesting, c.if-nesting-ge-MAX_NESTING.true))

pub put_held-requires-clause-shallow : goal.put_held-requires-clause-shallow
put_held-requires-clause-shallow c = still_shallow (held_pairs c.self.inside.held) _ c.args.index (tree_of c.args.value) c.self.invariant.shape (omega (arith, c.nesting.ensures.nesting, c.if-nesting-ge-MAX_NESTING.false))

pub invariant_of-self-2 : goal.invariant_of-self-2
invariant_of-self-2 c = record {
  fits = c.in_ok-put_held.ensures.fits;
  shape = rw (c.in_ok-put_held.ensures.pairs, c.in_ok-put_held.ensures.nesting)
      (IsFunValue-with_value_at (held_pairs c.self.inside.held) _ c.args.index (tree_of c.args.value) c.self.invariant.shape
      (omega (arith, c.nesting.ensures.nesting, c.if-nesting-ge-MAX_NESTING.false))
      (ArePairs-put (held_pairs c.self.inside.held) c.args.index (tree_of c.args.value) c.nesting.ensures.value c.self.invariant.shape.values));
  hashed = rw (← c.in_ok-put_held.ensures.pairs) at c.in_ok-put_held.ensures.hash;
}

pub returns-clause-value : goal.returns-clause-value
returns-clause-value c =
    let changed : IsFunValue (held_pairs c.put_held.new.held) (fun_nesting c.put_held.new.held) =
    rw (c.in_ok-put_held.ensures.pairs, c.in_ok-put_held.ensures.nesting)
    (IsFunValue-with_value_at (held_pairs c.self.inside.held) _ c.args.index (tree_of c.args.value) c.self.invariant.shape
    (omega (arith, c.nesting.ensures.nesting, c.if-nesting-ge-MAX_NESTING.false))
    (ArePairs-put (held_pairs c.self.inside.held) c.args.index (tree_of c.args.value) c.nesting.ensures.value c.self.invariant.shape.values)) in
    IsValue-fun _ _ changed
