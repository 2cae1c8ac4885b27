use Rattle.std.proofs.Common.{◌≡◌, ◌∙◌, sym, ap, List, [], Option, Some, None, map}
use Rattle.std.specs.Prelude.{IfSome, IfNone}
use Rattle.std.specs.Option.{option_copied}
use Rattle.std.specs.Borrow.{Bor}
use Rattle.tla_config.specs.Names.{Name}
use Rattle.tla_items.specs.References.{Reference, next_names}
use Rattle.tla_items.proofs.Tables.{Row, row, named, some_next, none_next}
use Rattle.std.specs.Map.{lookup}
use Rattle.tla_items.proofs.references.References.next.Goals as goal

found : (o : Option (Bor (List Name))) (x : Name) (es : List Row) (ls : List Reference) → ls ≡ map row es → option_copied o ≡ lookup (named x) es → IfSome o (λ ns. ns.now ≡ next_names ls x)
found None x es ls s h = tt
found (Some v) x es ls s h = some_next x es v.now h ∙ ap (λ ks. next_names ks x) (sym s)

lost : (o : Option (Bor (List Name))) (x : Name) (es : List Row) (ls : List Reference) → ls ≡ map row es → option_copied o ≡ lookup (named x) es → IfNone o (next_names ls x ≡ [])
lost None x es ls s h = ap (λ ks. next_names ks x) s ∙ none_next x es h
lost (Some v) x es ls s h = tt

pub returns-clause-some : goal.returns-clause-some
returns-clause-some c = found c.get.result c.args.name.now c.self.inside.next.entries c.args.self.now (sym c.self.view_is) c.get.ensures.value

pub returns-clause-none : goal.returns-clause-none
returns-clause-none c = lost c.get.result c.args.name.now c.self.inside.next.entries c.args.self.now (sym c.self.view_is) c.get.ensures.value
