use Rattle.std.proofs.Common.{◌≡◌, ◌∙◌, sym, refl, true, false, inl, inr}
use Rattle.tla_run.specs.Runs.{helped, refused}
use Rattle.tla_run.proofs.running.refuse.Goals as goal

pub returns-in-Ok : goal.returns-in-Ok
returns-in-Ok g c files fits = helped c.args.no_line.now fits (c.is_help.ensures.0 c.if-is_help.true) refl (inl refl)

pub returns-in-Err : goal.returns-in-Err
returns-in-Err g c files fits = helped c.args.no_line.now fits (c.is_help.ensures.0 c.if-is_help.true) refl (inr refl)

pub returns : goal.returns
returns g c files fits =
    refused c.args.no_line.now fits (λ help. let bad : true ≡ false = sym (c.is_help.ensures.1 help) ∙ c.if-is_help.false in cc) refl
    c.complain.ensures refl
