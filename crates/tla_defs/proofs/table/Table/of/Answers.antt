use Rattle.std.proofs.Common.{ap, sym, ◌∙◌, length, map}
use Rattle.tla_tree.specs.UnitsView.{unit_view}
use Rattle.tla_defs.specs.Bodies.{Bodies, names_with}
use Rattle.tla_defs.specs.Private.Table.{found_count, property}
use Rattle.tla_defs.proofs.Tabled.{bodies_are, all_found, smaller, few}
use Rattle.tla_defs.proofs.Temporals.{property_grows}
use Rattle.tla_defs.proofs.table.Table.of.Goals as goal

pub loop-changes-smaller : goal.loop-changes-smaller
loop-changes-smaller c =
    let es = c.loop-changes.table.definitions.entries in
    let fs = c.find_each.new.self.definitions.entries in
    let told = c.in_ok-changes.ensures in
    let less = smaller (length fs) (found_count es) (found_count fs) c.in_ok-changes.changes told.one told.same (few fs) in
    rw (c.loop-changes-test.true, sym told.more.many) less

pub returns-clause-found : goal.returns-clause-found
returns-clause-found c =
    let f = property c.args.class in
    let es = c.loop-changes.table.definitions.entries in
    let is = c.args.items.now in
    let n = length c.args.units.now in
    let i = c.loop-changes.invariant in
    all_found f (property_grows c.args.class) es is (i.passed c.loop-changes-test.false) i.sound n i.many
    ∙ ap (λ (b : Bodies). names_with f n b) (bodies_are es (map unit_view c.args.units.now) is i.bodies)
