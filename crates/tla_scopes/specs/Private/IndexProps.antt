-- There is one proof at most that nodes are an index. Private contracts alone cite this.
use Rattle.std.specs.Prelude.{ℕ, List, [], ◌∷◌, ◌++◌, length}
use Rattle.std.proofs.Props.{props}
use Rattle.tla_scopes.specs.declared.entries.Node.{Node}
use Rattle.tla_scopes.specs.Private.Index.{Found, nowhere, found_of, entry_found, IsNode, AreNodes, AreIndexed}

pub IsNode-prop : (at : ℕ → Found) (scope : ℕ) (n : Node) → IsProp (IsNode at scope n)
IsNode-prop at scope n = hlevel props

pub AreNodes-prop : (ρs : List Found) (ns : List Node) → IsProp (AreNodes ρs ns)
AreNodes-prop ρs [] = hlevel props
AreNodes-prop ρs (n ∷ ns) =
    let first = IsNode-prop (found_of ρs) (length ρs) n in
    let others = AreNodes-prop (ρs ++ entry_found ρs n.entry ∷ []) ns in
    hlevel (props, first, others)

pub AreIndexed-prop : (ns : List Node) → IsProp (AreIndexed ns)
AreIndexed-prop ns =
    let indexed = AreNodes-prop (nowhere ∷ []) ns in
    hlevel (props, indexed)
