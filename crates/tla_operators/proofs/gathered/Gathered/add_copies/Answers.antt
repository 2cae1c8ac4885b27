use Rattle.std.proofs.Common.{List, ◌++◌, ◌∷◌, [], map, take, ap, sym, subst, ◌∙◌}
use Rattle.std.proofs.lemmas.List.{take_all}
use Rattle.tla_value.specs.Tree.{Tree}
use Rattle.tla_value.specs.TreeOf.{tree_of}
use Rattle.tla_value.specs.declared.value.Value.{Value}
use Rattle.tla_operators.specs.Gathered.{Adds}
use Rattle.tla_operators.proofs.Different.{adds_none, adds_more, taken}
use Rattle.tla_operators.proofs.gathered.Gathered.add_copies.Goals as goal

pub loop-value-init : goal.loop-value-init
loop-value-init c = adds_none c.args.self.now

pub loop-value-preserved : goal.loop-value-preserved
loop-value-preserved c =
    let old = map tree_of (take c.loop-value.value-index c.args.values.now) in
    let v = c.in_ok-copied.field-0 in
    let e = taken c.args.values.now c.loop-value.value-index c.value-item.result c.value-item.is c.loop-value-test.true ∙ ap (λ (x : Value). old ++ tree_of x ∷ []) (sym c.in_ok-copied.ensures.ok) in
    subst (λ (us : List Tree). Adds us c.args.self.now c.add.new.self) (sym e) (adds_more old (tree_of v ∷ []) c.args.self.now c.loop-value.self c.add.new.self c.loop-value.invariant c.in_ok-add.ensures.ok)

pub returns-clause-ok : goal.returns-clause-ok
returns-clause-ok c = subst (λ (vs : List Value). Adds (map tree_of vs) c.args.self.now c.loop-value.self) (take_all c.loop-value.value-index c.args.values.now c.loop-value-test.false) c.loop-value.invariant
