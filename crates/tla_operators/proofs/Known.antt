-- Values whose kind is known.
use Rattle.std.proofs.Common.{◌≡◌, List, ◌++◌, Bool, filter, ◌∙◌, ap, Ok, Some}
use Rattle.std.specs.List.Sorted.{IsStrictlySortedBy}
use Rattle.std.proofs.lemmas.List.Kept.{IsStrictlySortedBy-filter}
use Rattle.tla_value.specs.Order.{tree_cmp}
use Rattle.tla_value.specs.SetLaws.{set_of-rising}
use Rattle.tla_value.specs.Tree.{Tree, members-trees, entries-pairs}
use Rattle.tla_value.specs.TreeOf.{tree_of}
use Rattle.tla_value.specs.declared.value.Value.{Value}
use Rattle.tla_value.specs.declared.value.Value.TheVariants.{Set, Fun}
use Rattle.tla_core.specs.declared.fault.Place.{Place}
use Rattle.tla_core.specs.Fault.{Outcome, ◌>>=◌}
use Rattle.tla_core.specs.Expr.{Override}
use Rattle.tla_core.specs.Kinds.{as_set, as_fun, members_of, pairs_of, make_set, make_fun, rising_set}
use Rattle.tla_core.specs.Operators.{binary_rule}
use Rattle.tla_core.specs.SetForms.{on_sets}
use Rattle.tla_operators.specs.Gives.{subsets_rule}
use Rattle.tla_value.specs.Choices.{subsets_of}

pub as_set_known : (p : Place) (v : Value) (ts : List Tree) → v ≡ Set ts → as_set p (tree_of v) ≡ Ok ts
as_set_known p v ts e = ap (λ u. as_set p (tree_of u)) e ∙ ap (λ us. Ok us) (members-trees ts)

pub as_fun_known : (p : Place) (v : Value) (ps : List (Tree × Tree)) → v ≡ Fun ps → as_fun p (tree_of v) ≡ Ok ps
as_fun_known p v ps e = ap (λ u. as_fun p (tree_of u)) e ∙ ap (λ qs. Ok qs) (entries-pairs ps)

pub pairs_known : (v : Value) (ps : List (Tree × Tree)) → v ≡ Fun ps → pairs_of (tree_of v) ≡ Some ps
pairs_known v ps e = ap (λ u. pairs_of (tree_of u)) e ∙ ap (λ qs. Some qs) (entries-pairs ps)

pub members_known : (v : Value) (ts : List Tree) → v ≡ Set ts → members_of (tree_of v) ≡ Some ts
members_known v ts e = ap (λ u. members_of (tree_of u)) e ∙ ap (λ us. Some us) (members-trees ts)

pub subsets_known : (p : Place) (v : Value) (ts : List Tree) → v ≡ Set ts → subsets_rule p (tree_of v) ≡ make_set p (subsets_of ts)
subsets_known p v ts e = ap (λ (o : Outcome (List Tree)). o >>= λ us. make_set p (subsets_of us)) (as_set_known p v ts e)

pub on_sets_known : (p : Place) (rule : List Tree → List Tree → List Tree) (x y : Value) (xs ys : List Tree) → x ≡ Set xs → y ≡ Set ys → on_sets p rule (tree_of x) (tree_of y) ≡ make_set p (rule xs ys)
on_sets_known p rule x y xs ys e f =
    ap (λ (o : Outcome (List Tree)). o >>= λ us. as_set p (tree_of y) >>= λ vs. make_set p (rule us vs)) (as_set_known p x xs e)
    ∙ ap (λ (o : Outcome (List Tree)). o >>= λ vs. make_set p (rule xs vs)) (as_set_known p y ys f)

-- a filtered rising list rises
pub set_of_kept : (p : Place) (keep : Tree → Bool) (ts : List Tree) → IsStrictlySortedBy tree_cmp ts → make_set p (filter keep ts) ≡ rising_set p (filter keep ts)
set_of_kept p keep ts h = ap (rising_set p) (set_of-rising (filter keep ts) (IsStrictlySortedBy-filter tree_cmp keep ts h))

pub override_known : (p : Place) (x y : Value) (ps qs : List (Tree × Tree)) → x ≡ Fun ps → y ≡ Fun qs → binary_rule Override p (tree_of x) (tree_of y) ≡ make_fun p (ps ++ qs)
override_known p x y ps qs e f =
    ap (λ (o : Outcome (List (Tree × Tree))). o >>= λ us. as_fun p (tree_of y) >>= λ vs. make_fun p (us ++ vs)) (as_fun_known p x ps e)
    ∙ ap (λ (o : Outcome (List (Tree × Tree))). o >>= λ vs. make_fun p (ps ++ vs)) (as_fun_known p y qs f)
