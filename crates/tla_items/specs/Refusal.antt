-- Refusals of the items of CONSTANT (this project's own choice).
use Rattle.std.specs.Prelude.{◌≡◌, List, [], Option}
use Rattle.tla_tree.specs.declared.word.Written.{Written}
use Rattle.tla_tree.specs.Units.{UnitTree}
use Rattle.tla_config.specs.declared.error.DefsCode.TheVariants as c
use Rattle.tla_config.specs.declared.error.DefsError.{DefsError}
use Rattle.tla_config.specs.declared.error.Source.TheVariants as source
use Rattle.tla_config.specs.Statements.{Item}
use Rattle.tla_names.specs.Maybe.{or_else}
use Rattle.tla_names.specs.Constants.{unvalued}
use Rattle.tla_names.specs.Refusal.{constant_refused, refusal_for, refusal_of}
use Rattle.tla_items.specs.Items.{replaceable_of, nameable_of, replaced_names, items_misused}
use Rattle.tla_items.specs.References.{Reference}
use Rattle.tla_items.specs.Cycles.{IsFirstCycle}

-- the items of CONSTANT, then a constant without a value
abbrev pub items_refused : List UnitTree → List Item → Option DefsError
items_refused us is = or_else (refusal_for source.Configuration (items_misused (replaceable_of us) (nameable_of us) [] is)) (constant_refused (unvalued (replaced_names is) us))

-- the first item that leads back to its name
pub record IsOfCycle (ls : List Reference) (is : List Item) (e : DefsError) : Type 0 where
  pub name : Written
  pub first : IsFirstCycle ls is name
  pub refused : refusal_of c.CircularReplacement source.Configuration name ≡ e
