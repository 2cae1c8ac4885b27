use Rattle.std.proofs.Common.{[], refl, false}
use Rattle.tla_value.specs.Tree.{int}
use Rattle.tla_config.specs.Literals.{number}
use Rattle.tla_config.proofs.Atoms.{digits_is_int}
use Rattle.tla_config.proofs.values.atom.Goals as goal

pub returns-in-Text-clause-gives : goal.returns-in-Text-clause-gives
returns-in-Text-clause-gives c = c.string.ensures.gives c.args.tokens.now

pub returns-in-Name-clause-gives : goal.returns-in-Name-clause-gives
returns-in-Name-clause-gives c = c.model.ensures.gives c.args.tokens.now

pub returns-in-None-clause-because : goal.returns-in-None-clause-because
returns-in-None-clause-because c =
    (refl, (int (number false c.slice_of-word.result.now), digits_is_int c.args.text.now [] c.args.token c.slice_of-word.result.now c.in-Digits.is c.slice_of-word.ensures, c.in-None.ensures.none))
