-- An environment: the values of the bound names and of the variables.
use Rattle.std.specs.Prelude.{[], ◌∷◌, ◌++◌, map, option_map}
use Rattle.tla_value.specs.TreeOf.{tree_of}
use Rattle.tla_core.specs.Meaning.{Bound, Present, Next}
use Rattle.tla_eval.specs.declared.environment.Frame.{Frame}
use Rattle.tla_eval.specs.declared.environment.Frame.TheVariants.{Outer, One', Many'}
use Rattle.tla_eval.specs.declared.environment.Environment.{Environment}

-- the values of the bound names, the outermost first
abbrev pub bound_of : Frame → Bound
bound_of (Outer values) = map tree_of values.now
bound_of (One' _ outer value) = bound_of outer ++ tree_of value.now ∷ []
bound_of (Many' _ outer values) = bound_of outer ++ map tree_of values.now

abbrev pub bound_in : Environment → Bound
bound_in env = bound_of env.frame.now

abbrev pub present_in : Environment → Present
present_in env = option_map (λ s. s.now) env.now

abbrev pub next_in : Environment → Next
next_in env = env.next.now
