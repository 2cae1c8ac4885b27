use Rattle.std.proofs.Common.{◌∙◌, ap}
use Rattle.tla_config.specs.Names.{is_among}
use Rattle.tla_names.proofs.Keys.{among_keys}
use Rattle.tla_items.proofs.name_set.NameSet.contains.Goals as goal

pub returns : goal.returns
returns c = c.contains.ensures ∙ among_keys c.args.name.now c.self.inside.words.keys ∙ ap (λ xs. is_among c.args.name.now xs) c.self.view_is
