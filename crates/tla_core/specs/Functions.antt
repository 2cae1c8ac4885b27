-- Forms that bind several names, and EXCEPT. (Book, chapter 16; what EXCEPT leaves unevaluated is this project's own
-- choice.)
use Rattle.std.specs.Prelude.{ℕ, max, Bool, ◌||◌, List, [], ◌∷◌, ◌++◌, map, length, zip, Option, Some, None, Ok}
use Rattle.std.specs.List.{list_any}
use Rattle.tla_value.specs.Tree.{Tree, fun, pairs, deepest_pair}
use Rattle.tla_value.specs.Funs.{value_at, fun_of, except_of}
use Rattle.tla_value.specs.Choices.{choices, sequence}
use Rattle.tla_core.specs.Fault.{Place, Outcome, ◌>>=◌}
use Rattle.tla_core.specs.Kinds.{as_set, as_fun, within, make_set, rising_fun}
use Rattle.tla_core.specs.Lists.{each}
use Rattle.tla_core.specs.Meaning.{Meaning, Bound, Present, Next, any_primed, by_value}

-- the sets, evaluated from left to right
abbrev pub sets_of : Place → List Meaning → Bound → Present → Next → Outcome (List (List Tree))
sets_of p ms b s t = do
  vs ← each (λ (m : Meaning). m.value b s t) ms
  each (as_set p) vs

abbrev pub means-image : Place → List Meaning → Meaning → Meaning
means-image p ms e = by_value p (any_primed ms || e.primed) (λ b s t. do
  sets ← sets_of p ms b s t
  vs ← each (λ c. e.value (b ++ c) s t) (choices sets)
  make_set p vs)

-- the argument for one choice: a tuple if there are several names
abbrev pub argument_of : List Tree → Tree
argument_of (v ∷ []) = v
argument_of vs = sequence vs

-- the length of each choice; 0 if there are no choices
abbrev pub names_in : List (List Tree) → ℕ
names_in [] = 0
names_in (c ∷ cs) = length c

-- the function with these values; too many pairs, or too many items in an argument, is the fault TooMany
abbrev pub function_on : Place → List (List Tree) → List Tree → Outcome Tree
function_on p cs vs =
    let ps = fun_of (zip (map argument_of cs) vs) in
    within p (max (length ps) (names_in cs)) (deepest_pair (pairs ps)) (fun (pairs ps))

abbrev pub means-function : Place → List Meaning → Meaning → Meaning
means-function p ms e = by_value p (any_primed ms || e.primed) (λ b s t. do
  sets ← sets_of p ms b s t
  vs ← each (λ c. e.value (b ++ c) s t) (choices sets)
  function_on p (choices sets) vs)

-- replaces the value at a key by the result of `go`; a key outside the domain changes nothing
abbrev pub replaced : Place → List (Tree × Tree) → Tree → Option Tree → (Tree → Outcome Tree) → Outcome Tree
replaced p ps key None go = Ok (fun (pairs ps))
replaced p ps key (Some old) go = do
  new ← go old
  rising_fun p (except_of key new ps)

-- one update along a path
abbrev pub update : Place → List Meaning → Meaning → Bound → Present → Next → Tree → Outcome Tree
update p [] e b s t x = e.value (b ++ x ∷ []) s t
update p (k ∷ ks) e b s t x = do
  ps ← as_fun p x
  key ← k.value b s t
  replaced p ps key (value_at key ps) (update p ks e b s t)

-- each update on the result of the one before
abbrev pub update_all : Place → List (List Meaning × Meaning) → Bound → Present → Next → Tree → Outcome Tree
update_all p [] b s t x = Ok x
update_all p (u ∷ us) b s t x = do
  y ← update p u.0 u.1 b s t x
  update_all p us b s t y

abbrev pub updates_primed : List (List Meaning × Meaning) → Bool
updates_primed us = list_any (λ (u : List Meaning × Meaning). any_primed u.0 || u.1.primed) us

abbrev pub means-except : Place → Meaning → List (List Meaning × Meaning) → Meaning
means-except p a us = by_value p (a.primed || updates_primed us) (λ b s t. do
  x ← a.value b s t
  update_all p us b s t x)
