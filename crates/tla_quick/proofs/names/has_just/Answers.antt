use Rattle.std.proofs.Common.{sym, ap, ◌∙◌, List}
use Rattle.tla_value.specs.Tree.{Tree, set, trees}
use Rattle.tla_value.specs.Order.{tree_eq}
use Rattle.tla_value.specs.Funs.{arguments}
use Rattle.tla_value.specs.Sets.{set_of}
use Rattle.tla_quick.proofs.FieldNames.{names_are}
use Rattle.tla_quick.proofs.names.has_just.Goals as goal

pub returns : goal.returns
returns c scope =
    c.has_names.ensures ∙ ap (λ (ks : List Tree). tree_eq (set (trees (arguments c.args.function.now))) (set (trees (set_of ks)))) (sym (names_are scope c.args.fields.now))
