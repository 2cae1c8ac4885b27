use Rattle.std.proofs.Common.{◌∙◌, Some, sym, ap}
use Rattle.tla_value.specs.Funs.{items_from}
use Rattle.tla_value.specs.Private.Inner.{counts_from}
use Rattle.tla_value.proofs.Sequences.{length-items_from, counts-items, none-mapped}
use Rattle.tla_value.proofs.value.FunValue.as_sequence.Goals as goal

pub returns-then-is_sequence : goal.returns-then-is_sequence
returns-then-is_sequence c =
    let ps = c.args.self.now in
    let is = counts-items 1 ps ∙ sym (ap (counts_from 1) c.arguments.ensures.arguments) ∙ sym (rw c.len.ensures.len at c.is_sequence.ensures) ∙ c.if-is_sequence.true in
    ap Some c.len-then-is_sequence.ensures.len ∙ sym (length-items_from 1 ps is)

pub returns-else-is_sequence : goal.returns-else-is_sequence
returns-else-is_sequence c =
    let ps = c.args.self.now in
    let is = counts-items 1 ps ∙ sym (ap (counts_from 1) c.arguments.ensures.arguments) ∙ sym (rw c.len.ensures.len at c.is_sequence.ensures) ∙ c.if-is_sequence.false in
    sym (none-mapped (items_from 1 ps) is)
