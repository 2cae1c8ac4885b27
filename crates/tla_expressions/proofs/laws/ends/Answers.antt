use Rattle.tla_expressions.proofs.Complete.{one_tree}
use Rattle.tla_expressions.proofs.Ends.{delimited_end}
use Rattle.tla_expressions.proofs.laws.ends.Goals as goal

pub returns-clause-delimited : goal.returns-clause-delimited
returns-clause-delimited c text ts s from to end t u dt du a b = delimited_end text ts t u s from to end dt du a b

pub returns-clause-whole : goal.returns-clause-whole
returns-clause-whole c text ts s floor from to end t u a b = (one_tree text ts t u s floor from to end a.spells a.fits a.top a.stops b.spells b.fits b.top b.stops).1
