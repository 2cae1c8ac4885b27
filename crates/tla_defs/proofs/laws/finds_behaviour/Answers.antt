use Rattle.tla_defs.proofs.Behaviours.{named_only, named_exactly, specified_only, specified_exactly}
use Rattle.tla_defs.proofs.laws.finds_behaviour.Goals as goal

pub returns : goal.returns
returns c = λ cs end. (
  λ x y. (named_only cs end x y, named_exactly cs end x y),
  λ v. (λ f. specified_only cs end v f.0 f.1, specified_exactly cs end v),
)
