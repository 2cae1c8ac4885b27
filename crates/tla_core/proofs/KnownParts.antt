-- Parts whose values are known: one more, and nodes of such parts.
use Rattle.std.proofs.Common.{◌≡◌, ℕ, ◌+◌, ◌<◌, ◌≤◌, List, [], ◌∷◌, ◌++◌, length, take, get_or, zip, map, Option, Some, None, Result, Ok, Err, IfOk, IfSome, refl, ap, sym, subst, ◌∙◌, arith, Vec, Global}
use Rattle.std.specs.List.{AllZip, AllByRecursion}
use Rattle.std.proofs.lemmas.List.{take_more}
use Rattle.std.proofs.lemmas.Slice.Zip.{all_zipped_more}
use Rattle.std.proofs.lemmas.Bool.Decides.{nat_tests}
use Rattle.tla_value.specs.Tree.{Tree, set, fun, trees, pairs, deepest, deepest_pair, members-trees, entries-pairs}
use Rattle.tla_value.specs.TreeOf.{tree_of, pair_of}
use Rattle.tla_value.specs.IsValue.{IsValue, IsSetList, IsFunList}
use Rattle.tla_value.specs.Choices.{keys_of, parts_of}
use Rattle.tla_value.specs.declared.value.Value.{Value}
use Rattle.tla_core.specs.declared.fault.Place.{Place}
use Rattle.tla_core.specs.declared.expression.Core.{Core}
use Rattle.tla_core.specs.Fault.{Outcome, ◌>>=◌}
use Rattle.tla_core.specs.Kinds.{within, rising_set, rising_fun, make_set, make_fun, make_sequence}
use Rattle.tla_core.specs.Lists.{each}
use Rattle.tla_core.specs.Meaning.{Meaning, Bound, Present, Next, means-enumerated, means-tuple, means-record_of}
use Rattle.tla_core.specs.Value.{means}
use Rattle.tla_core.specs.ExprOf.{expr_of, parts_of_cores, fields_of_cores}
use Rattle.tla_core.specs.Always.{IsAlways}
use Rattle.tla_core.specs.Private.Known.{IsKnown, IsKnownField, HasValue, HasField, named_core, named_fixed}
use Rattle.tla_core.specs.Expr.{Expr}
use Rattle.tla_core.specs.FixedOf.{fixed_of}
use Rattle.tla_core.specs.declared.fixed.Fixed.{Fixed}
use Rattle.tla_core.specs.declared.fixed.Fixed.TheViews as fixed_views
use Rattle.tla_core.specs.declared.expression.Core.TheViews as views
use Rattle.tla_core.proofs.Parts.{enumerated_parts, tuple_parts, record_parts}
use Rattle.tla_core.proofs.FixedTrees.{same_enumerated, same_tuple, same_record}

-- one more iteration of a loop
pub zip_more : {A B : Type 0} (R : A → B → Type 0) (xs : List A) (ys : List B) (i : ℕ) (x : A) (y : B) → i < length xs → x ≡ get_or xs i x → AllZip R (take i xs) ys → R x y → AllZip R (take (i + 1) xs) (ys ++ y ∷ [])
zip_more R xs ys i x y l is h r =
    subst (λ us. AllZip R us (ys ++ y ∷ [])) (sym (take_more xs i x l ∙ ap (λ z. take i xs ++ z ∷ []) (sym is))) (all_zipped_more R (take i xs) ys x y h r)

-- ---- limits
within_ok : (p : Place) (n d : ℕ) (t : Tree) → n ≤ 1000000 → d < 64 → within p n d t ≡ Ok t
within_ok p n d t few shallow = grind (arith, nat_tests)

pub set_made : (p : Place) (ts : List Tree) → IsValue (set (trees ts)) → rising_set p ts ≡ Ok (set (trees ts))
set_made p ts h =
    let list : IsSetList ts = rw members-trees at h.1 in
    within_ok p (length ts) (deepest (trees ts)) (set (trees ts)) list.few list.shallow

pub fun_made : (p : Place) (ps : List (Tree × Tree)) → IsValue (fun (pairs ps)) → rising_fun p ps ≡ Ok (fun (pairs ps))
fun_made p ps h =
    let list : IsFunList ps = rw entries-pairs at h.1 in
    within_ok p (length ps) (deepest_pair (pairs ps)) (fun (pairs ps)) list.few list.shallow

-- ---- nodes of known parts
each_known : (cores : List Core) (vs : List Value) → AllZip HasValue cores vs → (b : Bound) (s : Present) (t : Next) → each (λ (m : Meaning). m.value b s t) (parts_of_cores cores) ≡ Ok (map tree_of vs)
each_known [] [] h b s t = refl
each_known [] (v ∷ vs) h b s t = absurd h
each_known (c ∷ cs) [] h b s t = absurd h
each_known (c ∷ cs) (v ∷ vs) h b s t =
    ap (λ (o : Outcome Tree). o >>= λ y. each (λ (m : Meaning). m.value b s t) (parts_of_cores cs) >>= λ ys. Ok (y ∷ ys)) (h.0.1 b s t)
    ∙ ap (λ (o : Outcome (List Tree)). o >>= λ ys. Ok (tree_of v ∷ ys)) (each_known cs vs h.1 b s t)

pub enumerated_known : (p : Place) (cores : List Core) (vs : List Value) (x : Tree) → AllZip HasValue cores vs → make_set p (map tree_of vs) ≡ Ok x → IsAlways (means-enumerated p (parts_of_cores cores)) x
enumerated_known p cores vs x h e = λ b s t. ap (λ (o : Outcome (List Tree)). o >>= make_set p) (each_known cores vs h b s t) ∙ e

pub tuple_known : (p : Place) (cores : List Core) (vs : List Value) (x : Tree) → AllZip HasValue cores vs → make_sequence p (map tree_of vs) ≡ Ok x → IsAlways (means-tuple p (parts_of_cores cores)) x
tuple_known p cores vs x h e = λ b s t. ap (λ (o : Outcome (List Tree)). o >>= make_sequence p) (each_known cores vs h b s t) ∙ e

abbrev values_beside : List (Value × Value) → List Tree
values_beside ps = map (λ (p : Value × Value). tree_of p.1) ps

each_field : (fields : List (List ℕ × Core)) (ps : List (Value × Value)) → AllZip HasField fields ps → (b : Bound) (s : Present) (t : Next) → each (λ (m : Meaning). m.value b s t) (parts_of (fields_of_cores fields)) ≡ Ok (values_beside ps)
each_field [] [] h b s t = refl
each_field [] (p ∷ ps) h b s t = absurd h
each_field (f ∷ fs) [] h b s t = absurd h
each_field (f ∷ fs) (p ∷ ps) h b s t =
    ap (λ (o : Outcome Tree). o >>= λ y. each (λ (m : Meaning). m.value b s t) (parts_of (fields_of_cores fs)) >>= λ ys. Ok (y ∷ ys)) (h.0.1.1 b s t)
    ∙ ap (λ (o : Outcome (List Tree)). o >>= λ ys. Ok (tree_of p.1 ∷ ys)) (each_field fs ps h.1 b s t)

keys_beside : (fields : List (List ℕ × Core)) (ps : List (Value × Value)) → AllZip HasField fields ps → zip (keys_of (fields_of_cores fields)) (values_beside ps) ≡ map pair_of ps
keys_beside [] [] h = refl
keys_beside [] (p ∷ ps) h = absurd h
keys_beside (f ∷ fs) [] h = absurd h
keys_beside (f ∷ fs) (p ∷ ps) h =
    ap (λ (k : Tree). (k, tree_of p.1) ∷ zip (keys_of (fields_of_cores fs)) (values_beside ps)) (sym h.0.0)
    ∙ ap (λ (us : List (Tree × Tree)). pair_of p ∷ us) (keys_beside fs ps h.1)

pub record_known : (p : Place) (fields : List (List ℕ × Core)) (ps : List (Value × Value)) (x : Tree) → AllZip HasField fields ps → make_fun p (map pair_of ps) ≡ Ok x → IsAlways (means-record_of p (fields_of_cores fields)) x
record_known p fields ps x h e = λ b s t.
    ap (λ (o : Outcome (List Tree)). o >>= λ vs. make_fun p (zip (keys_of (fields_of_cores fields)) vs)) (each_field fields ps h b s t)
    ∙ ap (make_fun p) (keys_beside fields ps h)
    ∙ e

-- ---- parts with values are known
pub parts_known : (cores : List Core) (vs : List Value) → AllZip HasValue cores vs → AllByRecursion IsKnown cores
parts_known [] [] h = tt
parts_known [] (v ∷ vs) h = absurd h
parts_known (c ∷ cs) [] h = absurd h
parts_known (c ∷ cs) (v ∷ vs) h = (h.0.0, parts_known cs vs h.1)

pub fields_known : (fields : List (List ℕ × Core)) (ps : List (Value × Value)) → AllZip HasField fields ps → AllByRecursion IsKnownField fields
fields_known [] [] h = tt
fields_known [] (p ∷ ps) h = absurd h
fields_known (f ∷ fs) [] h = absurd h
fields_known (f ∷ fs) (p ∷ ps) h = (h.0.1.0, fields_known fs ps h.1)

-- a property that holds for every stored value
pub in_any : {E : Type 0} (P : Type 0) (r : Result (Option Value) E) → P → IfOk r (λ o. IfSome o (λ (v : Value). P))
in_any P (Ok (Some v)) h = h
in_any P (Ok None) h = tt
in_any P (Err e) h = tt

-- the stored value, if there is one
pub if_kept : {E : Type 0} (P Q : Value → Type 0) (r : Result (Option Value) E) → ((v : Value) → P v → Q v) → IfOk r (λ o. IfSome o P) → IfOk r (λ o. IfSome o Q)
if_kept P Q (Ok (Some v)) f h = f v h
if_kept P Q (Ok None) f h = h
if_kept P Q (Err e) f h = h

-- ---- nodes with a stored value
always_of : {x : Tree} (e f : Expr) (m : Meaning) → e ≡ f → means f ≡ m → IsAlways m x → IsAlways (means e) x
always_of {x} e f m same is h = λ b s t. ap (λ (k : Meaning). k.value b s t) (ap means same ∙ is) ∙ h b s t

pub enumerated_kept : (at : Place) (parts : Vec Core Global) (trees : Vec Fixed Global) (x : Tree) → map fixed_of trees.items ≡ map expr_of parts.items → IsAlways (means-enumerated at (parts_of_cores parts.items)) x → IsAlways (means (fixed_of (fixed_views.Enumerated at trees))) x
enumerated_kept at parts trees x h k = always_of (fixed_of (fixed_views.Enumerated at trees)) (expr_of (views.Enumerated at parts)) (means-enumerated at (parts_of_cores parts.items)) (same_enumerated at parts trees h) (enumerated_parts at parts) k

pub tuple_kept : (at : Place) (parts : Vec Core Global) (trees : Vec Fixed Global) (x : Tree) → map fixed_of trees.items ≡ map expr_of parts.items → IsAlways (means-tuple at (parts_of_cores parts.items)) x → IsAlways (means (fixed_of (fixed_views.Tuple at trees))) x
tuple_kept at parts trees x h k = always_of (fixed_of (fixed_views.Tuple at trees)) (expr_of (views.Tuple at parts)) (means-tuple at (parts_of_cores parts.items)) (same_tuple at parts trees h) (tuple_parts at parts) k

pub record_kept : (at : Place) (fields : Vec (List ℕ × Core) Global) (trees : Vec (List ℕ × Fixed) Global) (x : Tree) → map named_fixed trees.items ≡ map named_core fields.items → IsAlways (means-record_of at (fields_of_cores fields.items)) x → IsAlways (means (fixed_of (fixed_views.Record at trees))) x
record_kept at fields trees x h k = always_of (fixed_of (fixed_views.Record at trees)) (expr_of (views.Record at fields)) (means-record_of at (fields_of_cores fields.items)) (same_record at fields trees h) (record_parts at fields) k
