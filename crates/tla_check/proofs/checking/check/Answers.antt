use Rattle.tla_model.specs.Models.{model_of}
use Rattle.tla_check.proofs.Stopped.{stopped-checked, found-checked}
use Rattle.tla_check.proofs.checking.check.Goals as goal

pub returns-in-Ok : goal.returns-in-Ok
returns-in-Ok g c =
    found-checked c.args.«module».now c.args.config.now (model_of c.in-Ok.model) c.args.options.now.limit c.answered-checked.result c.in-Ok.ensures.model c.answered-checked.ensures

pub returns-in-Err : goal.returns-in-Err
returns-in-Err g c = stopped-checked c.args.«module».now c.args.config.now c.args.options.now.limit c.in-Err.stopped c.in-Err.ensures.stopped
