use Rattle.std.proofs.Common.{refl, sym, arith}
use Rattle.tla_scopes.specs.declared.projections.Summary.TheVariants.{Gives, Reaches}
use Rattle.tla_scopes.specs.declared.projections.BodyPart.{BodyPart}
use Rattle.tla_scopes.specs.declared.projections.Reached.{Reached}
use Rattle.tla_scopes.specs.Scopes.{scope_at}
use Rattle.tla_scopes.specs.Private.LocalScopes.{IsGiven}
use Rattle.tla_scopes.proofs.GivenWalk.{use_goes, use_ends}
use Rattle.tla_scopes.specs.Listed.{listed}
use Rattle.tla_scopes.proofs.projections.reduce_use.Goals as goal

pub returns-in-Some : goal.returns-in-Some
returns-in-Some c = λ u.
    let a = c.args.part in
    let ρ = scope_at (listed c.args.entries.now) c.args.scope in
    let m = c.in-Gives in
    let i : IsGiven ρ a.known.now c.args.name.now.word (Gives m.count m.given) = rw (sym c.as_bytes.ensures) m.ensures in
    let b : BodyPart = record { known = a.known; tree = c.in-Some.tree; primes = c.under_primes_of-more.result.primes; primed = c.under_primes_of-more.result.primed } in
    use_goes ρ a b c.args.name.now c.args.arguments.now m.count m.given u i c.in-Some.ensures.some refl c.under_primes_of-more.ensures.primes

pub returns-else-count-arguments : goal.returns-else-count-arguments
returns-else-count-arguments c = λ u.
    let a = c.args.part in
    let ρ = scope_at (listed c.args.entries.now) c.args.scope in
    let m = c.in-Reaches in
    let i : IsGiven ρ a.known.now c.args.name.now.word (Reaches m.count m.reached) = rw (sym c.as_bytes.ensures) m.ensures in
    let s : Reached = record { layer = m.reached.layer; given = c.under_primes_of.result } in
    use_ends ρ a c.args.name.now c.args.arguments.now m.count m.reached s u i (omega arith) refl c.under_primes_of.ensures.index c.under_primes_of.ensures.primes
