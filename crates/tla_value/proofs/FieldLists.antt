-- The names and the sets of fields, as lists of the code.
use Rattle.std.proofs.Common.{◌≡◌, ℕ, ◌<◌, List, [], ◌∷◌, map, refl, sym, ap, subst, ◌∙◌, arith, Less, Equal, Greater}
use Rattle.std.specs.BTreeSet.{insert_key}
use Rattle.std.specs.Ordering.{match_ordering}
use Rattle.tla_value.specs.TreeOf.{tree_of}
use Rattle.tla_value.specs.declared.value.Value.{Value}
use Rattle.tla_value.specs.Tree.{Tree, text, set, trees, depth, deepest}
use Rattle.tla_value.specs.Order.{tree_cmp}
use Rattle.tla_value.specs.Sets.{set_of}
use Rattle.tla_value.specs.Funs.{arguments, fun_of}
use Rattle.tla_value.specs.FunLaws.{arguments-fun_of}
use Rattle.tla_value.specs.Choices.{keys_of}
use Rattle.tla_value.specs.Private.Inner.{keyed, field_of}
use Rattle.tla_value.proofs.Fields.{arguments-keyed, as_sets}
use Rattle.tla_value.proofs.FunctionMembers.{images}

flat-insert_key : (ts : List Tree) (t : Tree) → depth t ≡ 0 → deepest (trees ts) ≡ 0 → deepest (trees (insert_key tree_cmp ts t)) ≡ 0
flat-insert_key [] t h j = omega arith
flat-insert_key (u ∷ ts) t h j =
    elim (tree_cmp t u) as (λ r. deepest (trees (match_ordering r (t ∷ u ∷ ts) (u ∷ ts) (u ∷ insert_key tree_cmp ts t))) ≡ 0) [
      | Less ↦ omega arith
      | Equal ↦ j
      | Greater ↦ omega (arith, flat-insert_key ts t h (omega arith))
    ]

flat-names : (fs : List (List ℕ × List Tree)) → deepest (trees (set_of (keys_of fs))) ≡ 0
flat-names [] = refl
flat-names (f ∷ fs) = flat-insert_key (set_of (keys_of fs)) (text f.0) refl (flat-names fs)

pub shallow-names : (fs : List (List ℕ × List Tree)) (ps : List (Tree × Tree)) (ks : List Tree) → ps ≡ fun_of (keyed fs) → ks ≡ arguments ps → deepest (trees ks) < 64
shallow-names fs ps ks e f =
    let names : ks ≡ set_of (keys_of fs) = f ∙ ap arguments e ∙ arguments-fun_of (keyed fs) ∙ ap set_of (arguments-keyed fs) in
    subst (λ (us : List Tree). deepest (trees us) < 64) (sym names) (let flat = flat-names fs in omega arith)

-- the names and the sets of fields, from the list of the code
pub names-fields : {S : Type 0} (now : S → List Tree) (fs : List (Value × S)) → arguments (map (field_of now) fs) ≡ map (λ (f : Value × S). tree_of f.0) fs
names-fields now [] = refl
names-fields now (f ∷ fs) = ap (λ ts. tree_of f.0 ∷ ts) (names-fields now fs)

pub sets-fields : {S : Type 0} (now : S → List Tree) (fs : List (Value × S)) → images (map (field_of now) fs) ≡ as_sets (map (λ (f : Value × S). now f.1) fs)
sets-fields now [] = refl
sets-fields now (f ∷ fs) = ap (λ ts. set (trees (now f.1)) ∷ ts) (sets-fields now fs)
