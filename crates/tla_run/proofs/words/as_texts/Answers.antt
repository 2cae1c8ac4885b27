use Rattle.std.proofs.Common.{◌∙◌, ◌≤◌, length, map, ap, arith}
use Rattle.std.specs.Prelude.{string_bytes}
use Rattle.std.proofs.lemmas.List.{take_all}
use Rattle.tla_run.proofs.RunLemmas.{texts_more}
use Rattle.tla_run.proofs.words.as_texts.Goals as goal

pub loop-word-preserved : goal.loop-word-preserved
loop-word-preserved c =
    texts_more string_bytes (λ s. s.now) c.args.words.now c.loop-word.list.items _ c.loop-word.word-index c.word-item.result c.as_str.result
    c.loop-word.invariant c.in_ok-push.ensures.items c.as_str.ensures.value (omega arith) c.word-item.is

pub returns : goal.returns
returns c =
    let all : length c.args.words.now ≤ c.loop-word.word-index = omega arith in
    c.loop-word.invariant ∙ ap (map string_bytes) (take_all c.loop-word.word-index c.args.words.now all)
