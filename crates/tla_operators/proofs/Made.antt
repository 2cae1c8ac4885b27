-- The result of a call that builds a set or a function, as the value of an expression.
use Rattle.std.proofs.Common.{◌≡◌, ◌⊎◌, ℕ, ◌<◌, ◌≤◌, suc, max, List, length, Ok, Err, arith, inl, inr, refl, ap, subst}
use Rattle.std.proofs.lemmas.Bool.Decides.{nat_tests}
use Rattle.tla_value.specs.Tree.{Tree, Trees, Pairs, truth, int, text, model, set, fun, no_trees, more_trees, no_pairs, more_pairs, trees, pairs, members, entries, pair_count, deepest, deepest_pair, members-trees, entries-pairs}
use Rattle.tla_value.specs.IsValue.{IsValue, AreValues, IsSetList, IsFunList}
use Rattle.tla_value.specs.Sets.{RefusesSet, RefusesSetOfSize, most_pairs}
use Rattle.tla_value.specs.Funs.{RefusesFun}
use Rattle.tla_value.specs.declared.error.ValueError.{ValueError}
use Rattle.tla_value.specs.declared.error.ValueError.TheVariants.{TooMany, TooDeep, Memory}
use Rattle.tla_core.specs.declared.fault.Place.{Place}
use Rattle.tla_core.specs.declared.fault.Fault.{Fault}
use Rattle.tla_core.specs.declared.fault.FaultCode.{FaultCode}
use Rattle.tla_core.specs.Fault.{fault, out_of_memory}
use Rattle.tla_core.specs.Kinds.{within, rising_set, rising_fun, sized_set, size_of_functions}
use Rattle.tla_operators.specs.Gives.{IsRefusal}

pub within_many : (p : Place) (n d : ℕ) (t : Tree) → 1000000 < n → within p n d t ≡ fault FaultCode.TooMany p
within_many p n d t many = grind (arith, nat_tests)

pub within_deep : (p : Place) (n d : ℕ) (t : Tree) → n ≤ 1000000 → 64 ≤ d → within p n d t ≡ fault FaultCode.TooDeep p
within_deep p n d t few deep = grind (arith, nat_tests)

pub within_ok : (p : Place) (n d : ℕ) (t : Tree) → n ≤ 1000000 → d < 64 → within p n d t ≡ Ok t
within_ok p n d t few shallow = grind (arith, nat_tests)

pub set_made : (p : Place) (ts : List Tree) → IsValue (set (trees ts)) → rising_set p ts ≡ Ok (set (trees ts))
set_made p ts h = let list : IsSetList ts = rw members-trees at h.1 in within_ok p (length ts) (deepest (trees ts)) (set (trees ts)) list.few list.shallow

pub set_refused : (e : ValueError) (p : Place) (f : Fault) (ts : List Tree) → IsRefusal e p f → RefusesSet ts e → (f ≡ out_of_memory) ⊎ (rising_set p ts ≡ Err f)
set_refused TooMany p f ts h r = inr (rw h (within_many p (length ts) (deepest (trees ts)) (set (trees ts)) r))
set_refused TooDeep p f ts h r = inr (rw h (within_deep p (length ts) (deepest (trees ts)) (set (trees ts)) r.0 r.1))
set_refused Memory p f ts h r = inl h

count-entries : (ps : Pairs) → pair_count ps ≡ length (entries ps)
count-entries no_pairs = refl
count-entries (more_pairs a v ps) = ap suc (count-entries ps)

most_few : (us : Trees) → AreValues us → most_pairs (members us) ≤ 1000000
most_few no_trees h = omega arith
most_few (more_trees (truth b) us) h = most_few us h.1
most_few (more_trees (int z) us) h = most_few us h.1
most_few (more_trees (text s) us) h = most_few us h.1
most_few (more_trees (model s) us) h = most_few us h.1
most_few (more_trees (set ts) us) h = most_few us h.1
most_few (more_trees (fun ps) us) h = let few = h.0.1.few in let rest = most_few us h.1 in omega (arith, count-entries ps)

pub functions_made : (p : Place) (ts : List Tree) → IsValue (set (trees ts)) → sized_set p (size_of_functions ts) ts ≡ Ok (set (trees ts))
functions_made p ts h =
    let list : IsSetList ts = rw members-trees at h.1 in
    let few = list.few in
    let most : most_pairs ts ≤ 1000000 = subst (λ us. most_pairs us ≤ 1000000) (members-trees ts) (most_few (trees ts) h.0) in
    within_ok p (size_of_functions ts) (deepest (trees ts)) (set (trees ts)) (omega arith) list.shallow

pub functions_refused : (e : ValueError) (p : Place) (f : Fault) (ts : List Tree) → IsRefusal e p f → RefusesSetOfSize (max (length ts) (most_pairs ts)) ts e → (f ≡ out_of_memory) ⊎ (sized_set p (size_of_functions ts) ts ≡ Err f)
functions_refused TooMany p f ts h r = inr (rw h (within_many p (size_of_functions ts) (deepest (trees ts)) (set (trees ts)) r))
functions_refused TooDeep p f ts h r = inr (rw h (within_deep p (size_of_functions ts) (deepest (trees ts)) (set (trees ts)) r.0 r.1))
functions_refused Memory p f ts h r = inl h

pub fun_made : (p : Place) (ps : List (Tree × Tree)) → IsValue (fun (pairs ps)) → rising_fun p ps ≡ Ok (fun (pairs ps))
fun_made p ps h = let list : IsFunList ps = rw entries-pairs at h.1 in within_ok p (length ps) (deepest_pair (pairs ps)) (fun (pairs ps)) list.few list.shallow

pub fun_refused : (e : ValueError) (p : Place) (f : Fault) (ps : List (Tree × Tree)) → IsRefusal e p f → RefusesFun ps e → (f ≡ out_of_memory) ⊎ (rising_fun p ps ≡ Err f)
fun_refused TooMany p f ps h r = inr (rw h (within_many p (length ps) (deepest_pair (pairs ps)) (fun (pairs ps)) r))
fun_refused TooDeep p f ps h r = inr (rw h (within_deep p (length ps) (deepest_pair (pairs ps)) (fun (pairs ps)) r.0 r.1))
fun_refused Memory p f ps h r = inl h
