use Rattle.std.proofs.Common.{◌≡◌, map, sym, subst, IfOk}
use Rattle.tla_value.specs.TreeOf.{pair_of}
use Rattle.tla_value.specs.IsValue.{IsSetList, IsFunValue}
use Rattle.tla_value.specs.Private.Held.{FitsDomain}
use Rattle.tla_value.proofs.Parts.{is-domain}
use Rattle.tla_value.proofs.Pairs.{same-length, split_back}
use Rattle.tla_value.proofs.fun.from_parts.Goals as goal

pub from_rising-requires : goal.from_rising-requires
from_rising-requires c = subst IsSetList (sym c.in_ok-arguments.ensures.arguments) (is-domain _ c.requires.list)

pub from_parts-requires-clause-fits : goal.from_parts-requires-clause-fits
from_parts-requires-clause-fits c =
    subst (λ n. FitsDomain n c.in_ok-domain.domain)
    (same-length c.in_ok-arguments.arguments.items c.in_ok-arguments.values.items (map pair_of c.args.pairs.items) c.in_ok-arguments.ensures.arguments c.in_ok-arguments.ensures.values)
    c.in_ok-domain.ensures.fits

pub from_parts-requires-clause-value : goal.from_parts-requires-clause-value
from_parts-requires-clause-value c =
    subst (λ ps. IsFunValue ps c.args.nesting)
    (sym (split_back c.in_ok-arguments.arguments.items c.in_ok-arguments.values.items (map pair_of c.args.pairs.items) c.in_ok-domain.domain c.in_ok-arguments.ensures.arguments c.in_ok-arguments.ensures.values c.in_ok-domain.ensures.ok))
    c.requires

pub returns-clause-ok : goal.returns-clause-ok
returns-clause-ok c =
    subst (λ ps. IfOk c.from_parts.result (λ f. f ≡ ps))
    (split_back c.in_ok-arguments.arguments.items c.in_ok-arguments.values.items (map pair_of c.args.pairs.items) c.in_ok-domain.domain c.in_ok-arguments.ensures.arguments c.in_ok-arguments.ensures.values c.in_ok-domain.ensures.ok)
    c.from_parts.ensures.ok
