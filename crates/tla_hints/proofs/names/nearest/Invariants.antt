use Rattle.std.proofs.Common.{◌≡◌, ◌≤◌, ◌<◌, ℕ, List, get_or, MatchOption}
use Rattle.std.specs.Borrow.{Bor}
use Rattle.tla_hints.specs.Names.{distance}
use Rattle.tla_hints.proofs.names.nearest.Given as goal

abbrev pub invariant-loop-index : goal.invariant-loop-index
invariant-loop-index l = record {
  some : MatchOption l.best (l.index ≡ 0) (λ near. near.index < l.index);
  measured : MatchOption l.best (l.index ≡ 0) (λ near. (d : Bor (List ℕ)) → near.distance ≡ distance l.name (get_or l.known near.index d).now);
  nearest : MatchOption l.best (l.index ≡ 0) (λ near. (k : ℕ) (d : Bor (List ℕ)) → k < l.index → near.distance ≤ distance l.name (get_or l.known k d).now);
}
