use Rattle.std.proofs.Common.{◌≡◌, drop}
use Rattle.std.specs.List.{list_any}
use Rattle.std.specs.Str.{bytes_eq}
use Rattle.tla_value.proofs.show.stands_in.Given as goal

abbrev pub invariant-loop-known : goal.invariant-loop-known
invariant-loop-known l = list_any (λ w. bytes_eq l.word w.now) (drop l.known-index l.words) ≡ list_any (λ w. bytes_eq l.word w.now) l.words
