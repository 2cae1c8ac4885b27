-- The conjuncts of a specification, as the code sorts them. Private contracts alone cite this.
use Rattle.std.specs.Prelude.{◌≡◌, ◌≤◌, ◌<◌, ◌⊎◌, List, map, length}
use Rattle.tla_lex.specs.declared.token.Place.{Place}
use Rattle.tla_tree.specs.Tree.{Tree}
use Rattle.tla_config.specs.declared.error.DefsCode.TheVariants as c
use Rattle.tla_config.specs.declared.error.DefsError.{DefsError}
use Rattle.tla_config.specs.declared.error.Source.TheVariants as source
use Rattle.tla_model.specs.declared.limits.TheConstants.{MAX_NODES}
use Rattle.tla_names.specs.Refusal.{refusal_at}
use Rattle.tla_defs.specs.declared.parts.Boxed.{Boxed}
use Rattle.tla_defs.specs.declared.parts.Parts.{Parts}
use Rattle.tla_defs.specs.Private.Seen.{tree_at}
use Rattle.tla_defs.specs.Refused.{IsTooLarge}
use Rattle.tla_defs.specs.Specification.{Step}

abbrev pub step_of : Boxed → Step
step_of s = (tree_at s.action, tree_at s.subscript)

abbrev pub steps_in : Parts → List Step
steps_in p = map step_of p.steps.items

-- one step at most, and no more conjuncts than an expression within the limits has nodes
abbrev pub AreFew : Parts → Type 0
AreFew p = (length p.steps.items < 2) × (length p.initial.items ≤ MAX_NODES)

-- the refusal of two steps, or of more conjuncts than an expression within the limits has nodes
abbrev pub IsOfMany : Place → List Step → List Tree → DefsError → Type 0
IsOfMany p ss es e = ((refusal_at c.SpecificationForm source.Configuration p ≡ e) × (2 ≤ length ss)) ⊎ (IsTooLarge e × (MAX_NODES < length es))
