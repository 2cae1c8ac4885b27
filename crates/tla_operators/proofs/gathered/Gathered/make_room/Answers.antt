use Rattle.std.proofs.Common.{map, max, ap, refl, ◌∙◌}
use Rattle.tla_value.specs.TreeOf.{tree_of}
use Rattle.tla_operators.proofs.Different.{gathered_once}
use Rattle.tla_operators.proofs.gathered.Gathered.make_room.Goals as goal

pub returns : goal.returns
returns c = λ ts h f r.
    gathered_once ts (map tree_of c.args.self.now.values.items) _ c.len-left.result (c.len-left.ensures ∙ c.sort_once.new.values.ok.0) c.sort_once.ensures refl (c.max-self.ensures ∙ ap (max 1024) c.saturating_mul.ensures) h
