use Rattle.std.proofs.Common.{◌≡◌, sym, ◌∙◌, rules}
use Rattle.tla_expand.proofs.Visits.{among_found, same_gone}
use Rattle.tla_expand.proofs.cover.is_visited.Goals as goal

pub returns : goal.returns
returns c = λ h. among_found _ c.args.entry
    (λ y q.
    let a : y.entry ≡ c.args.entry.entry = search rules in
    let b : y.primes ≡ c.args.entry.primes = search rules in
    same_gone c.args.entry y a b) c.args.visited.now.keys (sym c.contains.ensures ∙ h)
