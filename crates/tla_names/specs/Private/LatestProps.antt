-- There is one proof at most of what a scope keeps. Private contracts alone cite this.
use Rattle.std.specs.Prelude.{ℕ, List, [], ◌∷◌, ◌++◌, Option}
use Rattle.std.specs.Borrow.{Bor}
use Rattle.std.proofs.Props.{props}
use Rattle.tla_config.specs.Names.{Name}
use Rattle.tla_names.specs.declared.scope.Signature.{Signature}
use Rattle.tla_names.specs.Private.Latest.{IsTable, KeepBefore, KeepBeforeFrom}

pub IsTable-prop : (es : List (Bor Name × Option ℕ)) (ks : List Signature) → IsProp (IsTable es ks)
IsTable-prop es ks = hlevel props

pub KeepBeforeFrom-prop : (before ks : List Signature) → IsProp (KeepBeforeFrom before ks)
KeepBeforeFrom-prop before [] = hlevel props
KeepBeforeFrom-prop before (k ∷ ks) =
    let others = KeepBeforeFrom-prop (before ++ k ∷ []) ks in
    hlevel (props, others)

pub KeepBefore-prop : (ks : List Signature) → IsProp (KeepBefore ks)
KeepBefore-prop ks =
    let each = KeepBeforeFrom-prop [] ks in
    hlevel (props, each)
