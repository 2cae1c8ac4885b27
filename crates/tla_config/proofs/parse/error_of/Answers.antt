use Rattle.tla_config.proofs.Told.{neither_told, too_large}
use Rattle.tla_config.proofs.parse.error_of.Goals as goal

pub returns-in-Unexpected-clause-explains : goal.returns-in-Unexpected-clause-explains
returns-in-Unexpected-clause-explains c =
    let none = rw c.in-Unexpected.is at c.requires.because in
    rw c.refused.ensures (neither_told c.args.text.now c.args.tokens.now c.requires.only none)

pub returns-in-TooLarge-clause-explains : goal.returns-in-TooLarge-clause-explains
returns-in-TooLarge-clause-explains c =
    let large = rw c.in-TooLarge.is at c.requires.because in
    rw c.at.ensures (too_large c.args.text.now c.args.tokens.now c.in-TooLarge.at c.place_of-in-TooLarge.result c.requires.begins large c.place_of-in-TooLarge.ensures)
