use Rattle.std.proofs.Common.{◌++◌, ◌-◌, map, take, drop, ap, sym, ◌∙◌, subst, arith}
use Rattle.std.proofs.lemmas.List.{length-map, take-map, drop-map}
use Rattle.tla_value.specs.Tree.{Tree}
use Rattle.tla_value.specs.TreeOf.{tree_of}
use Rattle.tla_core.specs.Fault.{Outcome}
use Rattle.tla_core.specs.Kinds.{make_sequence}
use Rattle.tla_operators.specs.Gives.{Gives}
use Rattle.tla_operators.proofs.Numbered.{part_ok}
use Rattle.tla_operators.proofs.sequences.part.Goals as goal

pub returns : goal.returns
returns c =
    let vs = c.args.items.now in
    let m = c.args.to - c.args.from in
    let all = c.in_ok-add_items.ensures.ok ∙ ap (λ us. map tree_of us ++ map tree_of (take m (drop c.args.from vs))) c.in_ok-values.ensures.items ∙ sym (take-map tree_of m (drop c.args.from vs)) ∙ ap (take m) (sym (drop-map tree_of c.args.from vs)) in
    subst (λ (o : Outcome Tree). Gives c.sequence_of.result o)
    (ap (make_sequence c.args.place.now) all ∙ part_ok c.args.place.now (map tree_of vs) m c.args.from (omega (arith, c.requires.few, length-map vs tree_of)) c.requires.shallow)
    c.sequence_of.ensures
