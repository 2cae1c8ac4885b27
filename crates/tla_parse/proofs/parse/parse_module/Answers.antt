use Rattle.tla_tree.specs.UnitsView.{unit_view}
use Rattle.tla_tree.specs.declared.tree.TheConstants.{MAX_DEPTH}
use Rattle.std.proofs.Common.{map}
use Rattle.tla_parse.proofs.Whole.{found, only}
use Rattle.tla_parse.proofs.parse.parse_module.Goals as goal

pub returns-in-Ok-clause-found : goal.returns-in-Ok-clause-found
returns-in-Ok-clause-found c = found c.args.text.now c.args.tokens.now MAX_DEPTH c.in-Ok.found.end (map unit_view c.in-Ok.found.units.items) c.in-Ok.ensures.0

pub returns-in-Ok-clause-only : goal.returns-in-Ok-clause-only
returns-in-Ok-clause-only c us x = only c.args.text.now c.args.tokens.now MAX_DEPTH c.in-Ok.found.end (map unit_view c.in-Ok.found.units.items) us c.in-Ok.ensures.0 x
