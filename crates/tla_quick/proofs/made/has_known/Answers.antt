use Rattle.std.proofs.Common.{Ok, Bool, List, ap, sym, ◌∙◌}
use Rattle.tla_value.specs.Tree.{Tree, trees, members-trees}
use Rattle.tla_value.specs.TreeOf.{tree_of}
use Rattle.tla_value.specs.Sets.{is_member}
use Rattle.tla_quick.proofs.made.has_known.Goals as goal

pub returns-in-Set : goal.returns-in-Set
returns-in-Set c e b s t h =
    let v = tree_of c.args.value.now in
    let ts = c.in-Set.set in
    c.sets.ensures v c.nesting-depth.ensures.value e b s t (trees ts) (h ∙ ap (λ u. Ok (tree_of u)) c.in-Set.is)
    ∙ ap (λ (us : List Tree). Ok (is_member v us)) (members-trees ts)
    ∙ ap (λ (x : Bool). Ok x) (sym c.contains.ensures)
