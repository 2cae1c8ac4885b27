use Rattle.std.proofs.Common.{◌≡◌, ◌≢◌, List, Result, Ok, Err, map}
use Rattle.std.specs.Prelude.{OnOk, IfErr}
use Rattle.tla_tree.specs.UnitsView.{unit_view}
use Rattle.tla_config.specs.declared.error.DefsCode.TheVariants.{Memory}
use Rattle.tla_config.specs.declared.error.DefsError.{DefsError}
use Rattle.tla_config.specs.Names.{Name}
use Rattle.tla_config.specs.Statements.{Item}
use Rattle.tla_items.specs.Cycles.{AreStraight}
use Rattle.tla_items.specs.References.{Reference, references, next_names}
use Rattle.tla_items.specs.Refusal.{IsOfCycle}
use Rattle.tla_items.proofs.Walks.{straight_same, first_same}
use Rattle.tla_items.proofs.cycle.straight.Goals as goal

module _ (ks ls : List Reference) (is : List Item) (same : (x : Name) → next_names ks x ≡ next_names ls x) where
  on_ok : (r : Result (Unit {0}) DefsError) → OnOk r (AreStraight ks is) → OnOk r (AreStraight ls is)
  on_ok (Ok u) h = straight_same ks ls same is h
  on_ok (Err e) h = tt

  on_err : (r : Result (Unit {0}) DefsError) → IfErr r (λ e. e.code ≢ Memory → IsOfCycle ks is e) → IfErr r (λ e. e.code ≢ Memory → IsOfCycle ls is e)
  on_err (Ok u) h = tt
  on_err (Err e) h = λ n. let c = h n in record { name = c.name; first = first_same ks ls same is c.name c.first; refused = c.refused }

pub returns-clause-ok : goal.returns-clause-ok
returns-clause-ok c = on_ok c.in_ok-references.references (references (map unit_view c.args.units.now) c.args.items.now) c.args.items.now c.in_ok-references.ensures.ok c.each_straight.result c.each_straight.ensures.ok

pub returns-clause-err : goal.returns-clause-err
returns-clause-err c = on_err c.in_ok-references.references (references (map unit_view c.args.units.now) c.args.items.now) c.args.items.now c.in_ok-references.ensures.ok c.each_straight.result c.each_straight.ensures.err
