use Rattle.std.proofs.Common.{◌∙◌, ap}
use Rattle.tla_code.specs.CodeExpr.{expr_in}
use Rattle.tla_quick.specs.Groups.{referred}
use Rattle.tla_quick.proofs.Grouped.{list_is}
use Rattle.tla_quick.proofs.group.list_code.Goals as goal

pub returns : goal.returns
returns c = λ scope. ap (expr_in scope) c.in_ok-new.ensures.ok ∙ list_is scope c.args.place c.args.form c.in_ok-codes.codes (referred c.args.cores.now) c.in_ok-codes.ensures
