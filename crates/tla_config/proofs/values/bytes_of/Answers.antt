use Rattle.std.proofs.Common.{sym, ◌∙◌}
use Rattle.tla_config.proofs.Atoms.{no_bytes}
use Rattle.tla_config.proofs.values.bytes_of.Goals as goal

pub returns-in_default-clause-ok : goal.returns-in_default-clause-ok
returns-in_default-clause-ok c = c.new.ensures.items ∙ sym (no_bytes c.args.literal.now c.in_default.len_below)
