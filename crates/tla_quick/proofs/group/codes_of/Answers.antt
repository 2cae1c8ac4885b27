use Rattle.std.proofs.Common.{◌+◌, List, sym, subst, take}
use Rattle.std.specs.List.{AllZip}
use Rattle.tla_code.specs.declared.code.Code.{Code}
use Rattle.tla_code.specs.Private.Listed.{StandsFor}
use Rattle.tla_quick.specs.Groups.{referred}
use Rattle.tla_quick.proofs.Grouped.{codes_more}
use Rattle.tla_quick.proofs.group.codes_of.Goals as goal

pub loop-core-preserved : goal.loop-core-preserved
loop-core-preserved c =
    subst (λ (us : List Code). AllZip StandsFor (referred (take (c.loop-core.core-index + 1) c.args.cores.now)) us) (sym {A = List Code} c.in_ok-push.ensures.items)
    (codes_more c.args.cores.now c.loop-core.codes.items c.loop-core.core-index c.core-item.result c.in_ok-code_of.field-0 c.loop-core-test.true c.core-item.is c.loop-core.invariant c.in_ok-code_of.ensures)
