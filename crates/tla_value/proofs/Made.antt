-- The results of constructors that fail only if memory runs out, and lists of pairs with one value replaced.
use Rattle.std.proofs.Common.{◌≡◌, ℕ, zero, suc, ◌<◌, ◌≤◌, max, List, [], ◌∷◌, length, map, refl, sym, ap, subst, arith, Result, Ok, Err, IfOk, IfErr}
use Rattle.tla_value.specs.declared.error.ValueError.{ValueError}
use Rattle.tla_value.specs.declared.error.ValueError.TheVariants.{Memory, TooDeep}
use Rattle.tla_value.specs.Tree.{Tree, trees, pairs, set, fun, depth, deepest_pair, entries-pairs}
use Rattle.tla_value.specs.IsValue.{IsValue, ArePairs, IsFunValue}
use Rattle.tla_value.specs.Sets.{MakesSet, RefusesSet}
use Rattle.tla_value.specs.Funs.{MakesFun, RefusesFun}
use Rattle.tla_value.specs.Private.Inner.{with_value_at}

pub makes_set : (ts : List Tree) (r : Result (List Tree) ValueError) → IfOk r (λ s. s ≡ ts) → IfErr r (λ e. e ≡ Memory) → IsValue (set (trees ts)) → MakesSet ts r
makes_set ts (Ok s) ok err h = (ok, h)
makes_set ts (Err e) ok err h = subst (RefusesSet ts) (sym err) tt

pub makes_fun : (ps : List (Tree × Tree)) (r : Result (List (Tree × Tree)) ValueError) → IfOk r (λ f. f ≡ ps) → IfErr r (λ e. e ≡ Memory) → IsValue (fun (pairs ps)) → MakesFun ps r
makes_fun ps (Ok f) ok err h = (ok, h)
makes_fun ps (Err e) ok err h = subst (RefusesFun ps) (sym err) tt

pub length-with_value_at : (ps : List (Tree × Tree)) (i : ℕ) (v : Tree) → length (with_value_at ps i v) ≡ length ps
length-with_value_at [] i v = refl
length-with_value_at (p ∷ ps) zero v = refl
length-with_value_at (p ∷ ps) (suc i) v = ap suc (length-with_value_at ps i v)

pub arguments-with_value_at : (ps : List (Tree × Tree)) (i : ℕ) (v : Tree) → map (λ (p : Tree × Tree). p.0) (with_value_at ps i v) ≡ map (λ (p : Tree × Tree). p.0) ps
arguments-with_value_at [] i v = refl
arguments-with_value_at (p ∷ ps) zero v = refl
arguments-with_value_at (p ∷ ps) (suc i) v = ap (λ ts. p.0 ∷ ts) (arguments-with_value_at ps i v)

pub deepest-with_value_at : (ps : List (Tree × Tree)) (i : ℕ) (v : Tree) → deepest_pair (pairs (with_value_at ps i v)) ≤ max (deepest_pair (pairs ps)) (depth v)
deepest-with_value_at [] i v = omega arith
deepest-with_value_at (p ∷ ps) zero v = omega arith
deepest-with_value_at (p ∷ ps) (suc i) v = omega (arith, deepest-with_value_at ps i v)

pub deepest-there : (ps : List (Tree × Tree)) (i : ℕ) (v : Tree) → i < length ps → depth v ≤ deepest_pair (pairs (with_value_at ps i v))
deepest-there [] i v l = absurd (omega arith)
deepest-there (p ∷ ps) zero v l = omega arith
deepest-there (p ∷ ps) (suc i) v l = let rest : depth v ≤ deepest_pair (pairs (with_value_at ps i v)) = deepest-there ps i v (omega arith) in omega arith

-- the refusal of a value that is nested too deep
pub too_deep : (ps : List (Tree × Tree)) (i : ℕ) (v : Tree) → length ps ≤ 1000000 → i < length ps → 64 ≤ depth v → RefusesFun (with_value_at ps i v) TooDeep
too_deep ps i v few l h = (omega (arith, length-with_value_at ps i v), omega (arith, deepest-there ps i v l))

pub still_shallow : (ps : List (Tree × Tree)) (n i : ℕ) (v : Tree) → IsFunValue ps n → depth v < 64 → deepest_pair (pairs (with_value_at ps i v)) < 64
still_shallow ps n i v h l = omega (arith, h.list.shallow, deepest-with_value_at ps i v)

pub IsFunValue-with_value_at : (ps : List (Tree × Tree)) (n i : ℕ) (v : Tree) → IsFunValue ps n → depth v < 64 → ArePairs (pairs (with_value_at ps i v)) → IsFunValue (with_value_at ps i v) (suc (deepest_pair (pairs (with_value_at ps i v))))
IsFunValue-with_value_at ps n i v h l values = record {
  values = values;
  list = record {
    rising = rw (arguments-with_value_at ps i v) h.list.rising;
    few = omega (arith, h.list.few, length-with_value_at ps i v);
    shallow = still_shallow ps n i v h l;
  };
  nested = refl;
}

pub IsValue-fun : (ps : List (Tree × Tree)) (n : ℕ) → IsFunValue ps n → IsValue (fun (pairs ps))
IsValue-fun ps n h = rw entries-pairs (h.values, h.list)
