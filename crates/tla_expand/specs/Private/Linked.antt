-- There is one proof at most that entries speak of earlier ones. Private contracts alone cite this.
use Rattle.std.specs.Prelude.{ℕ, ◌+◌, List, [], ◌∷◌}
use Rattle.std.proofs.Props.{props}
use Rattle.tla_scopes.specs.declared.arena.Entry.{Entry}
use Rattle.tla_scopes.specs.declared.arena.What.{What}
use Rattle.tla_scopes.specs.declared.arena.What.TheVariants.{Bound, Variable, Value, Argument, Definition, Function, Gives, Module, Unknown}
use Rattle.tla_scopes.specs.Scopes.{IsBelow, LinkedFrom, AreLinked}

pub IsBelow-prop : (k : ℕ) (w : What) (rest : ℕ) → IsProp (IsBelow k w rest)
IsBelow-prop k (Bound i) rest = hlevel props
IsBelow-prop k (Variable i) rest = hlevel props
IsBelow-prop k (Value v) rest = hlevel props
IsBelow-prop k (Argument t s) rest = hlevel props
IsBelow-prop k (Definition ws body home) rest = hlevel props
IsBelow-prop k (Function p bs body home) rest = hlevel props
IsBelow-prop k (Gives n g) rest = hlevel props
IsBelow-prop k (Module b) rest = hlevel props
IsBelow-prop k Unknown rest = hlevel props

pub LinkedFrom-prop : (n : ℕ) (es : List Entry) → IsProp (LinkedFrom n es)
LinkedFrom-prop n [] = hlevel props
LinkedFrom-prop n (e ∷ es) =
    let first = IsBelow-prop n e.what e.rest in
    let others = LinkedFrom-prop (n + 1) es in
    hlevel (props, first, others)

pub AreLinked-prop : (es : List Entry) → IsProp (AreLinked es)
AreLinked-prop es =
    let linked = LinkedFrom-prop 0 es in
    hlevel (props, linked)
