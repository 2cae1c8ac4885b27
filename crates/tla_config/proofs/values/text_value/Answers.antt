use Rattle.std.proofs.Common.{◌∙◌, []}
use Rattle.tla_value.specs.Tree.{text}
use Rattle.tla_config.proofs.Atoms.{string_is, string_fails, text_because}
use Rattle.tla_config.proofs.values.text_value.Goals as goal

pub returns-in-Ok-clause-gives : goal.returns-in-Ok-clause-gives
returns-in-Ok-clause-gives c = λ ts. (string_is c.args.text.now ts c.args.token c.in-Ok.text c.requires.kind (c.in-Ok.ensures.bytes ∙ c.requires.bytes), rw c.in-Ok.ensures.bytes c.in-Ok.ensures.utf8)

pub returns-in-Err-clause-gives : goal.returns-in-Err-clause-gives
returns-in-Err-clause-gives c = λ ts. string_fails c.args.text.now ts c.in-Err.refusal c.args.item c.args.token c.args.bytes.now c.requires.kind c.requires.bytes c.in-Err.ensures.err

pub returns-in-Err-clause-because : goal.returns-in-Err-clause-because
returns-in-Err-clause-because c =
    text_because c.args.text.now [] c.in-Err.refusal c.args.item c.args.token c.args.bytes.now (text c.args.bytes.now) (string_is c.args.text.now [] c.args.token c.args.bytes.now c.requires.kind c.requires.bytes) (λ x. x) c.in-Err.ensures.err
