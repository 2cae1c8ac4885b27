use Rattle.std.proofs.Common.{List, map, option_map, Err, Bor, inr, ap, sym, ◌∙◌, arith}
use Rattle.tla_value.specs.Tree.{Tree}
use Rattle.tla_value.specs.TreeOf.{tree_of}
use Rattle.tla_value.specs.declared.value.Value.{Value}
use Rattle.tla_core.specs.declared.fault.Fault.{Fault}
use Rattle.tla_eval.proofs.Fitting.{fits_pattern, fits_no_pattern, has_no_items}
use Rattle.tla_eval.proofs.patterns.fitting.Goals as goal

abbrev items_of : Bor (List Value) → List Tree
items_of vs = map tree_of vs.now

pub returns-then-items-count : goal.returns-then-items-count
returns-then-items-count c =
    fits_pattern c.args.place.now c.args.count (tree_of c.args.element.now) c.in-Some.items.now (sym c.sequence_items.ensures ∙ ap (option_map items_of) c.in-Some.is) (omega (arith, c.if-items-count.true))

pub returns-else-items-count : goal.returns-else-items-count
returns-else-items-count c =
    inr (fits_no_pattern c.args.place.now c.args.count (tree_of c.args.element.now) c.in-Some.items.now (sym c.sequence_items.ensures ∙ ap (option_map items_of) c.in-Some.is) (λ e. omega (arith, c.if-items-count.false))
    ∙ ap (λ (f : Fault). Err f) (sym c.fault_at.ensures))

pub returns-in-None : goal.returns-in-None
returns-in-None c =
    inr (has_no_items c.args.place.now c.args.count (tree_of c.args.element.now) (sym c.sequence_items.ensures ∙ ap (option_map items_of) c.in-None.is)
    ∙ ap (λ (f : Fault). Err f) (sym c.fault_at-in-None.ensures))
