use Rattle.tla_lex.proofs.LongestTokens.{longest_tokens}
use Rattle.tla_lex.proofs.laws.longest_tokens.Goals as goal

pub returns : goal.returns
returns c source text at ts stop h = longest_tokens source text at ts stop h
