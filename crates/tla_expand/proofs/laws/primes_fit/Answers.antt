use Rattle.tla_expand.proofs.PrimesFit.{primes_fit}
use Rattle.tla_expand.proofs.laws.primes_fit.Goals as goal

pub returns : goal.returns
returns c = λ k v n s h t b e q. primes_fit k v n s h t b e q
