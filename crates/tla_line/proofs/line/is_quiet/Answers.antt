use Rattle.std.proofs.Common.{◌∙◌, codes}
use Rattle.std.specs.Str.{bytes_eq}
use Rattle.clap.proofs.WalkLemmas.{list_any-map}
use Rattle.tla_line.proofs.line.is_quiet.Goals as goal

pub returns : goal.returns
returns c = c.contains.ensures.value ∙ list_any-map (λ word. bytes_eq word (codes "--quiet")) (λ s. s.now) c.args.words.now
