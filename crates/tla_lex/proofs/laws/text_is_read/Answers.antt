use Rattle.tla_lex.proofs.StringTexts.{text_is_read}
use Rattle.tla_lex.proofs.laws.text_is_read.Goals as goal

pub returns : goal.returns
returns c literal text = text_is_read literal text
