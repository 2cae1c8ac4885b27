use Rattle.std.proofs.Common.{map}
use Rattle.tla_model.specs.Models.{model_of}
use Rattle.tla_tree.specs.UnitsView.{unit_view}
use Rattle.tla_defs.proofs.Locating.{refused_located}
use Rattle.tla_defs.proofs.Unique.{one_model}
use Rattle.tla_defs.proofs.builder.build.Goals as goal

pub returns-in-Ok-clause-only : goal.returns-in-Ok-clause-only
returns-in-Ok-clause-only c = λ n h.
    let m = rw c.as_slice.ensures.value at c.in-Ok.ensures.found in
    one_model (map unit_view c.args.module.now.units.items) c.args.config.now.statements n (model_of c.in-Ok.model) h m

pub returns-in_default : goal.returns-in_default
returns-in_default c =
    let us = map unit_view c.args.module.now.units.items in
    let r = rw c.as_slice.ensures.value at c.in-Err.ensures.refused in
    let none = rw c.as_slice.ensures.value at c.in-Err.ensures.none in
    record {
      found = tt;
      only = tt;
      refused = r;
      none = none;
      located = refused_located us c.args.config.now c.in-Err.e (r c.in_default.not-Memory);
    }
