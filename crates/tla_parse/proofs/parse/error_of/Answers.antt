use Rattle.tla_tree.specs.declared.tree.TheConstants.{MAX_DEPTH}
use Rattle.tla_parse.proofs.NoWords.{at_no_word}
use Rattle.tla_parse.proofs.Whole.{refused, too_deep}
use Rattle.tla_parse.proofs.parse.error_of.Goals as goal

pub returns-in-Unexpected-clause-justified : goal.returns-in-Unexpected-clause-justified
returns-in-Unexpected-clause-justified c = rw c.at.ensures (refused c.args.text.now c.args.tokens.now MAX_DEPTH (rw c.in-Unexpected.is at c.requires).0)

pub returns-in-Precedence-clause-justified : goal.returns-in-Precedence-clause-justified
returns-in-Precedence-clause-justified c = rw c.at-in-Precedence.ensures (refused c.args.text.now c.args.tokens.now MAX_DEPTH (rw c.in-Precedence.is at c.requires))

pub returns-in-Column-clause-justified : goal.returns-in-Column-clause-justified
returns-in-Column-clause-justified c = rw c.at-in-Column.ensures (refused c.args.text.now c.args.tokens.now MAX_DEPTH (rw c.in-Column.is at c.requires).0)

pub returns-in-Nesting-clause-justified : goal.returns-in-Nesting-clause-justified
returns-in-Nesting-clause-justified c = rw c.at-in-Nesting.ensures (too_deep c.args.text.now c.args.tokens.now MAX_DEPTH (rw c.in-Nesting.is at c.requires))

pub left_out-requires-clause-none : goal.left_out-requires-clause-none
left_out-requires-clause-none c = refused c.args.text.now c.args.tokens.now MAX_DEPTH (rw c.in-LeftOut.is at c.requires).0

pub left_out-requires-in-UnknownModule-clause-none : goal.left_out-requires-in-UnknownModule-clause-none
left_out-requires-in-UnknownModule-clause-none c = refused c.args.text.now c.args.tokens.now MAX_DEPTH (rw c.in-UnknownModule.is at c.requires).0

pub left_out-requires-in-SecondHeader-clause-none : goal.left_out-requires-in-SecondHeader-clause-none
left_out-requires-in-SecondHeader-clause-none c = refused c.args.text.now c.args.tokens.now MAX_DEPTH (rw c.in-SecondHeader.is at c.requires).0

pub returns-in-Unexpected-clause-no_word : goal.returns-in-Unexpected-clause-no_word
returns-in-Unexpected-clause-no_word c =
    rw c.at.ensures (at_no_word c.args.tokens.now c.in-Unexpected.at c.place_of.result (rw c.in-Unexpected.is at c.requires).1 c.place_of.ensures.here c.place_of.ensures.last)

pub returns-in-Column-clause-no_word : goal.returns-in-Column-clause-no_word
returns-in-Column-clause-no_word c =
    rw c.at-in-Column.ensures (at_no_word c.args.tokens.now c.in-Column.at c.place_of-in-Column.result (rw c.in-Column.is at c.requires).1 c.place_of-in-Column.ensures.here c.place_of-in-Column.ensures.last)
