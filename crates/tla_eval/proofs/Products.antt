-- Membership in products: sequences of one member of each set.
use Rattle.std.proofs.Common.{◌≡◌, ℕ, suc, ◌+◌, Bool, true, false, cond, ◌&&◌, ◌==◌, List, [], ◌∷◌, map, length, refl, sym, ap, subst, ◌∙◌, Option, Some, None, Ok, true≢false, pos, eq-eqb}
use Rattle.std.specs.List.{AllByRecursion}
use Rattle.tla_value.specs.Tree.{Tree, truth, int, text, model, set, fun, pairs, entries, entries-pairs}
use Rattle.tla_value.specs.Sets.{is_member, set_of}
use Rattle.tla_value.specs.IsValue.{IsValue, ArePairs}
use Rattle.tla_value.specs.Order.{tree_eq}
use Rattle.tla_core.specs.Kinds.{size_of_functions, as_set, make_function_set, items}
use Rattle.tla_value.specs.Funs.{items_from, with_item}
use Rattle.tla_value.specs.Choices.{tuples_of, numbered, sequence, choices}
use Rattle.tla_core.specs.Meaning.{Meaning, Bound, Present, Next, elements}
use Rattle.tla_core.specs.Lists.{each}
use Rattle.tla_core.specs.Functions.{sets_of}
use Rattle.tla_core.specs.Membership.{if_some}
use Rattle.tla_core.specs.SetForms.{parts_have, means-product}
use Rattle.tla_core.specs.Laws.{KnowsItsMembers}
use Rattle.tla_core.specs.declared.fault.Place.{Place}
use Rattle.tla_core.specs.Fault.{Outcome, ◌>>=◌}
use Rattle.tla_value.specs.Rising.{any-map}
use Rattle.tla_value.specs.ValueOrder.{pairs-entries}
use Rattle.tla_value.proofs.FunctionMembers.{stand_in}
use Rattle.tla_value.proofs.TreeTests.{bool-iff, and-both, eq-true, eq-refl, eq-same}
use Rattle.tla_operators.proofs.Members.{bind-ok, made-sized, choices-any, choices-found}
use Rattle.tla_eval.proofs.TwoSets.{then-ok, not-there, cond-and, has-elements}

-- ---- sets of sequences and of records
-- the value of each part is a set
abbrev pub Gives : Place → List Meaning → Bound → Present → Next → List (List Tree) → Type 0
Gives at [] b s p [] = Unit {0}
Gives at [] b s p (xs ∷ rest) = ⊥
Gives at (m ∷ ms) b s p [] = ⊥
Gives at (m ∷ ms) b s p (xs ∷ rest) = (elements at m b s p ≡ Ok xs) × Gives at ms b s p rest

pub cons-ok : {A : Type 0} (x : A) (xs ys : List A) → (let r : Outcome (List A) = Ok (x ∷ xs) in r ≡ Ok ys) → x ∷ xs ≡ ys
cons-ok x xs ys h = cc

pub gives-each : (at : Place) (b : Bound) (s : Present) (p : Next) (ms : List Meaning) (vs : List Tree) (lists : List (List Tree)) → each (λ (m : Meaning). m.value b s p) ms ≡ Ok vs → each (as_set at) vs ≡ Ok lists → Gives at ms b s p lists
gives-each at b s p [] [] [] h j = tt
gives-each at b s p [] [] (l ∷ ls) h j = cc
gives-each at b s p [] (v ∷ vs) ls h j = cc
gives-each at b s p (m ∷ ms) vs lists h j =
    let v = bind-ok (m.value b s p) (λ y. each (λ (n : Meaning). n.value b s p) ms >>= λ ys. Ok (y ∷ ys)) vs h in
    let us = bind-ok (each (λ (n : Meaning). n.value b s p) ms) (λ ys. Ok (v.0 ∷ ys)) vs v.2 in
    let k = subst (λ ws. each (as_set at) ws ≡ Ok lists) (sym (cons-ok v.0 us.0 vs us.2)) j in
    let l = bind-ok (as_set at v.0) (λ y. each (as_set at) us.0 >>= λ ys. Ok (y ∷ ys)) lists k in
    let ls = bind-ok (each (as_set at) us.0) (λ ys. Ok (l.0 ∷ ys)) lists l.2 in
    subst (Gives at (m ∷ ms) b s p) (cons-ok l.0 ls.0 lists ls.2) (then-ok (m.value b s p) v.0 (as_set at) (Ok l.0) v.1 l.1, gives-each at b s p ms us.0 ls.0 us.1 ls.1)

pub gives-sets : (at : Place) (b : Bound) (s : Present) (p : Next) (ms : List Meaning) (lists : List (List Tree)) → sets_of at ms b s p ≡ Ok lists → Gives at ms b s p lists
gives-sets at b s p ms lists h =
    let vs = bind-ok (each (λ (m : Meaning). m.value b s p) ms) (each (as_set at)) lists h in
    gives-each at b s p ms vs.0 lists vs.1 vs.2

abbrev pub AllKnow : List Meaning → Type 0
AllKnow ms = AllByRecursion KnowsItsMembers ms

pub parts-known : (at : Place) (b : Bound) (s : Present) (p : Next) (ms : List Meaning) → AllKnow ms → (lists : List (List Tree)) → Gives at ms b s p lists → (vs : List Tree) → AllByRecursion IsValue vs → parts_have ms vs b s p ≡ Ok (stand_in vs lists)
parts-known at b s p [] hs [] g [] ivs = refl
parts-known at b s p [] hs [] g (v ∷ vs) ivs = refl
parts-known at b s p [] hs (l ∷ ls) g vs ivs = absurd g
parts-known at b s p (m ∷ ms) hs [] g vs ivs = absurd g
parts-known at b s p (m ∷ ms) hs (l ∷ ls) g [] ivs = refl
parts-known at b s p (m ∷ ms) hs (l ∷ ls) g (v ∷ vs) ivs =
    then-ok (m.has v b s p) (is_member v l) (λ holds. cond holds (parts_have ms vs b s p) (Ok false)) (Ok (is_member v l && stand_in vs ls))
    (has-elements hs.0 v ivs.0 b s p at l g.0)
    (cond-and (is_member v l) (stand_in vs ls) _ (parts-known at b s p ms hs.1 ls g.1 vs ivs.1))

pub gives-length : (at : Place) (b : Bound) (s : Present) (p : Next) (ms : List Meaning) (lists : List (List Tree)) → Gives at ms b s p lists → length lists ≡ length ms
gives-length at b s p [] [] g = refl
gives-length at b s p [] (l ∷ ls) g = absurd g
gives-length at b s p (m ∷ ms) [] g = absurd g
gives-length at b s p (m ∷ ms) (l ∷ ls) g = ap suc (gives-length at b s p ms ls g.1)

pub stand-length : (vs : List Tree) (lists : List (List Tree)) → stand_in vs lists ≡ true → length vs ≡ length lists
stand-length [] [] h = refl
stand-length [] (l ∷ ls) h = cc
stand-length (v ∷ vs) [] h = cc
stand-length (v ∷ vs) (l ∷ ls) h = ap suc (stand-length vs ls (and-both (is_member v l) _ h).1)

-- ---- sequences
pub items_from-numbered : (k : ℕ) (vs : List Tree) → items_from k (numbered k vs) ≡ Some vs
items_from-numbered k [] = refl
items_from-numbered k (v ∷ vs) = rw (eq-refl (int (pos k)), items_from-numbered (k + 1) vs)

pub items-sequence : (vs : List Tree) → items (sequence vs) ≡ Some vs
items-sequence vs = ap (items_from 1) (entries-pairs (numbered 1 vs)) ∙ items_from-numbered 1 vs

pub with_item-some : (b : Bool) (t : Tree) (o : Option (List Tree)) (vs : List Tree) → with_item b t o ≡ Some vs → (us : List Tree) × (b ≡ true) × (o ≡ Some us) × (t ∷ us ≡ vs)
with_item-some true t (Some us) vs h = (us, refl, refl, cc)
with_item-some true t None vs h = cc
with_item-some false t o vs h = cc

pub numbered-items_from : (k : ℕ) (ps : List (Tree × Tree)) (vs : List Tree) → items_from k ps ≡ Some vs → ps ≡ numbered k vs
numbered-items_from k [] vs h = ap (numbered k) (go vs h)
  where
    go : (vs : List Tree) → (let o : Option (List Tree) = Some [] in o ≡ Some vs) → [] ≡ vs
    go vs h = cc
numbered-items_from k (q ∷ qs) vs h =
    let r = with_item-some (tree_eq q.0 (int (pos k))) q.1 (items_from (k + 1) qs) vs h in
    let e : q.0 ≡ int (pos k) = eq-true q.0 (int (pos k)) r.1 in
    (λ i. (e i, q.1) ∷ numbered-items_from (k + 1) qs r.0 r.2 i) ∙ ap (numbered k) r.3

pub sequence-items : (v : Tree) (vs : List Tree) → items v ≡ Some vs → v ≡ sequence vs
sequence-items (fun ps) vs h = ap fun (sym (pairs-entries ps) ∙ ap pairs (numbered-items_from 1 (entries ps) vs h))
sequence-items (truth x) vs h = cc
sequence-items (int x) vs h = cc
sequence-items (text x) vs h = cc
sequence-items (model x) vs h = cc
sequence-items (set x) vs h = cc

pub some-same : (a b : List Tree) (o : Option (List Tree)) → o ≡ Some a → o ≡ Some b → a ≡ b
some-same a b o h j = cc

-- the sequences of one member of each set
pub member-product : (v : Tree) (vs : List Tree) (lists : List (List Tree)) → items v ≡ Some vs → stand_in vs lists ≡ is_member v (map sequence (choices lists))
member-product v vs lists h =
    bool-iff _ _
    (λ j. any-map sequence (tree_eq v) (choices lists) ∙ choices-any lists vs (λ c. tree_eq v (sequence c)) j (eq-same v (sequence vs) (sequence-items v vs h)))
    (λ j.
    let r = choices-found lists (λ c. tree_eq v (sequence c)) (sym (any-map sequence (tree_eq v) (choices lists)) ∙ j) in
    let e : vs ≡ r.0 = some-same vs r.0 (items v) h (ap items (eq-true v (sequence r.0) r.1) ∙ items-sequence r.0) in
    ap (λ us. stand_in us lists) e ∙ r.2)

pub no-product : (v : Tree) (lists : List (List Tree)) → items v ≡ None → is_member v (map sequence (choices lists)) ≡ false
no-product v lists h = not-there v sequence (choices lists) λ c. go c (tree_eq v (sequence c)) refl
  where
    none-some : (c : List Tree) (o : Option (List Tree)) → o ≡ None → o ≡ Some c → ⊥
    none-some c o e f = cc

    go : (c : List Tree) (x : Bool) → tree_eq v (sequence c) ≡ x → x ≡ false
    go c false e = refl
    go c true e = absurd (none-some c (items v) h (ap items (eq-true v (sequence c) e) ∙ items-sequence c))

pub items-values : (v : Tree) (vs : List Tree) → IsValue v → items v ≡ Some vs → AllByRecursion IsValue vs
items-values v vs iv h = go 1 vs (subst IsValue (sequence-items v vs h) iv).0
  where
    go : (k : ℕ) (us : List Tree) → ArePairs (pairs (numbered k us)) → AllByRecursion IsValue us
    go k [] i = tt
    go k (u ∷ us) i = (i.1, go (k + 1) us i.2)

pub knows-product : (at : Place) (ms : List Meaning) → AllKnow ms → KnowsItsMembers (means-product at ms)
knows-product at ms hs = record {
  by = λ v iv b s p ts e.
      let lists = bind-ok (sets_of at ms b s p) (λ sets. make_function_set at (tuples_of sets)) (set ts) e in
      in_product b s p lists.0 (gives-sets at b s p ms lists.0 lists.1) v iv (items v) refl ∙ ap (λ (x : Bool). Ok x) (sym (made-sized at (size_of_functions (set_of (tuples_of lists.0))) (tuples_of lists.0) ts lists.2 v));
}
  where
    check : (l : Bool) (x : Bool) (o : Outcome Bool) → (x ≡ true → l ≡ true) → o ≡ Ok x → cond l o (Ok false) ≡ Ok x
    check true x o h e = e
    check false false o h e = refl
    check false true o h e = absurd (true≢false (sym (h refl)))

    in_product : (b : Bound) (s : Present) (p : Next) (lists : List (List Tree)) → Gives at ms b s p lists → (v : Tree) → IsValue v → (o : Option (List Tree)) → items v ≡ o → if_some o (λ vs. cond (length vs == length ms) (parts_have ms vs b s p) (Ok false)) ≡ Ok (is_member v (map sequence (choices lists)))
    in_product b s p lists g v iv None h = ap (λ (x : Bool). Ok x) (sym (no-product v lists h))
    in_product b s p lists g v iv (Some vs) h =
        check (length vs == length ms) (stand_in vs lists) (parts_have ms vs b s p) (λ j. eq-eqb (length vs) (length ms) (stand-length vs lists j ∙ gives-length at b s p ms lists g)) (parts-known at b s p ms hs lists g vs (items-values v vs iv h))
        ∙ ap (λ (x : Bool). Ok x) (member-product v vs lists h)
