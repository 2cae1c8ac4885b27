-- Lists of texts, written in turn.
use Rattle.std.proofs.Common.{◌≡◌, ◌==◌, codes, Bool, true, false, is_some, ℤ, pos, ℕ, zero, suc, zip, ◌<◌, ◌≤◌, Option, Result, Ok, Err, List, [], ◌∷◌, ◌++◌, append_assoc, append-nil, length, map, get_or, take, drop, refl, ap, sym, ◌∙◌, arith}
use Rattle.std.proofs.lemmas.List.{length-map, take_all}
use Rattle.std.specs.List.{flat_map, list_all}
use Rattle.counted_writer.specs.declared.ShortWrite.{ShortWrite}
use Rattle.counted_writer.specs.Puts.{Puts}
use Rattle.counted_writer.specs.PutsLaws.{puts_then, puts_short}
use Rattle.tla_value.specs.Funs.{arguments, items_of}
use Rattle.tla_value.specs.Tree.{fun, trees, pairs, entries-pairs}
use Rattle.tla_value.specs.TreeOf.{tree_of, pair_of}
use Rattle.tla_value.specs.Text.{text_of, escaped, quoted, field_name, is_field, joined, listed, member_texts, value_texts, field_texts, pair_texts}
use Rattle.tla_value.specs.Private.Inner.{separator_before, counts_from}
use Rattle.tla_value.specs.Arguments.{numbers_from}
use Rattle.tla_value.specs.Choices.{counted_up}
use Rattle.tla_value.proofs.Pairs.{length-zip, map-zip, arguments-zip, length-numbers, trees_numbers}
use Rattle.tla_value.proofs.Sequences.{counts-items, counts-up, counts-not}
use Rattle.tla_value.specs.declared.value.Value.{Value}

flat_more : {X : Type 0} (f : X → List ℕ) (xs : List X) (i : ℕ) (d : X) → i < length xs → flat_map f (take (suc i) xs) ≡ flat_map f (take i xs) ++ f (get_or xs i d)
flat_more f [] i d l = absurd (omega arith)
flat_more f (x ∷ xs) zero d l = append-nil (f x)
flat_more f (x ∷ xs) (suc i) d l = rw (flat_more f xs i d (omega arith)) (sym (append_assoc (f x) (flat_map f (take i xs)) (f (get_or xs i d))))

flat_split : {X : Type 0} (f : X → List ℕ) (xs : List X) (i : ℕ) → flat_map f xs ≡ flat_map f (take i xs) ++ flat_map f (drop i xs)
flat_split f xs zero = refl
flat_split f [] (suc i) = refl
flat_split f (x ∷ xs) (suc i) = ap (λ ys. f x ++ ys) (flat_split f xs i) ∙ sym (append_assoc (f x) (flat_map f (take i xs)) (flat_map f (drop i xs)))

joined_more : (separator : List ℕ) (ts : List (List ℕ)) (i : ℕ) (d : List ℕ) → i < length ts
    → joined separator (take (suc i) ts) ≡ joined separator (take i ts) ++ (separator_before i separator ++ get_or ts i d)
joined_more separator [] i d l = absurd (omega arith)
joined_more separator (t ∷ ts) zero d l = append-nil t
joined_more separator (t ∷ ts) (suc i) d l =
    ap (λ ys. t ++ ys) (flat_more (λ y. separator ++ y) ts i d (omega arith)) ∙ sym (append_assoc t (flat_map (λ y. separator ++ y) (take i ts)) (separator ++ get_or ts i d))

joined_split : (separator : List ℕ) (ts : List (List ℕ)) (i : ℕ) → joined separator ts ≡ joined separator (take (suc i) ts) ++ flat_map (λ y. separator ++ y) (drop (suc i) ts)
joined_split separator [] i = refl
joined_split separator (t ∷ ts) i =
    ap (λ ys. t ++ ys) (flat_split (λ y. separator ++ y) ts i) ∙ sym (append_assoc t (flat_map (λ y. separator ++ y) (take i ts)) (flat_map (λ y. separator ++ y) (drop i ts)))

-- this piece comes next, after the first i texts
pub record IsNext (separator : List ℕ) (ts : List (List ℕ)) (i : ℕ) (piece : List ℕ) : Type 0 where
  pub rest : List ℕ
  pub more : joined separator (take (suc i) ts) ≡ joined separator (take i ts) ++ piece
  pub whole : joined separator ts ≡ joined separator (take (suc i) ts) ++ rest

at-map : {X : Type 0} (f : X → List ℕ) (xs : List X) (i : ℕ) (d : X) → i < length xs → get_or (map f xs) i (f d) ≡ f (get_or xs i d)
at-map f [] i d l = absurd (omega arith)
at-map f (x ∷ xs) zero d l = refl
at-map f (x ∷ xs) (suc i) d l = at-map f xs i d (omega arith)

next : {X : Type 0} (f : X → List ℕ) (separator : List ℕ) (xs : List X) (i : ℕ) (x : X) → i < length xs → x ≡ get_or xs i x → IsNext separator (map f xs) i (separator_before i separator ++ f x)
next f separator xs i x l is = record {
  rest = flat_map (λ y. separator ++ y) (drop (suc i) (map f xs));
  more = joined_more separator (map f xs) i (f x) (omega (arith, length-map xs f)) ∙ ap (λ t. joined separator (take i (map f xs)) ++ (separator_before i separator ++ t)) (at-map f xs i x l ∙ ap f (sym is));
  whole = joined_split separator (map f xs) i;
}

-- ---- the texts of parts, one by one
pub member_texts-map : (vs : List Value) → member_texts (trees (map tree_of vs)) ≡ map (λ v. text_of (tree_of v)) vs
member_texts-map [] = refl
member_texts-map (v ∷ vs) = ap (λ ts. text_of (tree_of v) ∷ ts) (member_texts-map vs)

pub field_texts-map : (ps : List (Value × Value)) → field_texts (pairs (map pair_of ps)) ≡ map (λ (p : Value × Value). field_name (tree_of p.0) ++ (codes " |-> " ++ text_of (tree_of p.1))) ps
field_texts-map [] = refl
field_texts-map (p ∷ ps) = ap (λ ts. (field_name (tree_of p.0) ++ (codes " |-> " ++ text_of (tree_of p.1))) ∷ ts) (field_texts-map ps)

pub pair_texts-map : (ps : List (Value × Value)) → pair_texts (pairs (map pair_of ps)) ≡ map (λ (p : Value × Value). text_of (tree_of p.0) ++ (codes " :> " ++ text_of (tree_of p.1))) ps
pair_texts-map [] = refl
pair_texts-map (p ∷ ps) = ap (λ ts. (text_of (tree_of p.0) ++ (codes " :> " ++ text_of (tree_of p.1))) ∷ ts) (pair_texts-map ps)

pub next_member : (separator : List ℕ) (vs : List Value) (i : ℕ) (v : Value) → i < length vs → v ≡ get_or vs i v
    → IsNext separator (member_texts (trees (map tree_of vs))) i (separator_before i separator ++ text_of (tree_of v))
next_member separator vs i v l is = rw (member_texts-map vs) (next (λ v. text_of (tree_of v)) separator vs i v l is)

pub next_field : (separator : List ℕ) (ps : List (Value × Value)) (i : ℕ) (p : Value × Value) → i < length ps → p ≡ get_or ps i p
    → IsNext separator (field_texts (pairs (map pair_of ps))) i (separator_before i separator ++ (field_name (tree_of p.0) ++ (codes " |-> " ++ text_of (tree_of p.1))))
next_field separator ps i p l is = rw (field_texts-map ps) (next (λ (p : Value × Value). field_name (tree_of p.0) ++ (codes " |-> " ++ text_of (tree_of p.1))) separator ps i p l is)

pub next_pair : (separator : List ℕ) (ps : List (Value × Value)) (i : ℕ) (p : Value × Value) → i < length ps → p ≡ get_or ps i p
    → IsNext separator (pair_texts (pairs (map pair_of ps))) i (separator_before i separator ++ (text_of (tree_of p.0) ++ (codes " :> " ++ text_of (tree_of p.1))))
next_pair separator ps i p l is = rw (pair_texts-map ps) (next (λ (p : Value × Value). text_of (tree_of p.0) ++ (codes " :> " ++ text_of (tree_of p.1))) separator ps i p l is)

-- ---- how many texts there are
pub length-member_texts : (vs : List Value) → length (member_texts (trees (map tree_of vs))) ≡ length vs
length-member_texts vs = rw (member_texts-map vs) (length-map vs (λ v. text_of (tree_of v)))

pub length-field_texts : (ps : List (Value × Value)) → length (field_texts (pairs (map pair_of ps))) ≡ length ps
length-field_texts ps = rw (field_texts-map ps) (length-map ps (λ (p : Value × Value). field_name (tree_of p.0) ++ (codes " |-> " ++ text_of (tree_of p.1))))

pub length-pair_texts : (ps : List (Value × Value)) → length (pair_texts (pairs (map pair_of ps))) ≡ length ps
length-pair_texts ps = rw (pair_texts-map ps) (length-map ps (λ (p : Value × Value). text_of (tree_of p.0) ++ (codes " :> " ++ text_of (tree_of p.1))))

-- ---- written in turn
-- the next text was written
pub puts_more : {a b c : Option (List ℕ)} {before middle after : ℕ} {separator piece : List ℕ} {ts : List (List ℕ)} {i : ℕ}
    → IsNext separator ts i piece → Puts a b before (joined separator (take i ts)) (Ok middle) → Puts b c middle piece (Ok after) → Puts a c before (joined separator (take (suc i) ts)) (Ok after)
puts_more step p q = rw step.more (puts_then p q)

-- only a part of the next text was written
pub puts_cut : {a b c : Option (List ℕ)} {before middle : ℕ} {separator piece : List ℕ} {ts : List (List ℕ)} {i : ℕ} {fault : ShortWrite}
    → IsNext separator ts i piece → Puts a b before (joined separator (take i ts)) (Ok middle) → Puts b c middle piece (Err fault) → Puts a c before (joined separator ts) (Err fault)
puts_cut step p q = rw (step.whole, step.more) (puts_short step.rest (puts_then p q))

-- all were written
pub puts_joined : {a b : Option (List ℕ)} {before after : ℕ} (separator : List ℕ) (ts : List (List ℕ)) (i : ℕ)
    → length ts ≤ i → Puts a b before (joined separator (take i ts)) (Ok after) → Puts a b before (joined separator ts) (Ok after)
puts_joined separator ts i within p = rw (take_all i ts within) at p

-- only a part of the next text of an opened list was written
pub puts_stopped : {a b c d : Option (List ℕ)} {before start middle : ℕ} {opening separator piece : List ℕ} {ts : List (List ℕ)} {i : ℕ} {fault : ShortWrite} (closing : List ℕ)
    → IsNext separator ts i piece → Puts a b before opening (Ok start) → Puts b c start (joined separator (take i ts)) (Ok middle) → Puts c d middle piece (Err fault)
    → Puts a d before (listed opening separator closing ts) (Err fault)
puts_stopped closing step o p q = puts_then o (puts_short closing (puts_cut step p q))

-- all were written, and then the closing text or a part of it
pub puts_listed : {a b c d : Option (List ℕ)} {before start middle : ℕ} {opening closing : List ℕ} {r : Result ℕ ShortWrite} (separator : List ℕ) (ts : List (List ℕ)) (i : ℕ)
    → length ts ≤ i → Puts a b before opening (Ok start) → Puts b c start (joined separator (take i ts)) (Ok middle) → Puts c d middle closing r
    → Puts a d before (listed opening separator closing ts) r
puts_listed separator ts i within o p q = puts_then o (puts_then (puts_joined separator ts i within p) q)

-- a string in quotes: only a part of a byte's text was written, and all were written
pub quoted_stopped : {a b c d : Option (List ℕ)} {before start middle : ℕ} {fault : ShortWrite} (s : List ℕ) (i : ℕ) (e : ℕ) → i < length s
    → Puts a b before (codes "\"") (Ok start) → Puts b c start (flat_map escaped (take i s)) (Ok middle) → Puts c d middle (escaped (get_or s i e)) (Err fault) → Puts a d before (quoted s) (Err fault)
quoted_stopped s i e l o p q =
    puts_then o (puts_short (codes "\"") (rw (whole escaped s i e l) (puts_short (flat_map escaped (drop (suc i) s)) (puts_then p q))))
  where
    whole : (f : ℕ → List ℕ) (s : List ℕ) (i : ℕ) (d : ℕ) → i < length s → flat_map f s ≡ (flat_map f (take i s) ++ f (get_or s i d)) ++ flat_map f (drop (suc i) s)
    whole f s i d l = flat_split f s (suc i) ∙ ap (λ ys. ys ++ flat_map f (drop (suc i) s)) (flat_more f s i d l)

pub quoted_all : {a b c d : Option (List ℕ)} {before start middle : ℕ} {r : Result ℕ ShortWrite} (s : List ℕ) (i : ℕ) → length s ≤ i
    → Puts a b before (codes "\"") (Ok start) → Puts b c start (flat_map escaped (take i s)) (Ok middle) → Puts c d middle (codes "\"") r → Puts a d before (quoted s) r
quoted_all s i within o p q = puts_then o (puts_then (rw (take_all i s within) at p) q)

-- ---- the three notations of functions
pub text-sequence : (vs : List (Value × Value)) → (length vs == 0) ≡ false → is_some (items_of (map pair_of vs)) ≡ true
    → text_of (fun (pairs (map pair_of vs))) ≡ listed (codes "<<") (codes ", ") (codes ">>") (value_texts (pairs (map pair_of vs)))
text-sequence [] l h = cc
text-sequence (v ∷ vs) l h = rw (entries-pairs (map pair_of vs), h)

pub text-record : (vs : List (Value × Value)) → (length vs == 0) ≡ false → is_some (items_of (map pair_of vs)) ≡ false → list_all is_field (arguments (map pair_of vs)) ≡ true
    → text_of (fun (pairs (map pair_of vs))) ≡ listed (codes "[") (codes ", ") (codes "]") (field_texts (pairs (map pair_of vs)))
text-record [] l h k = cc
text-record (v ∷ vs) l h k = rw (entries-pairs (map pair_of vs), h, k)

pub text-pairs : (vs : List (Value × Value)) → (length vs == 0) ≡ false → is_some (items_of (map pair_of vs)) ≡ false → list_all is_field (arguments (map pair_of vs)) ≡ false
    → text_of (fun (pairs (map pair_of vs))) ≡ listed (codes "(") (codes " @@ ") (codes ")") (pair_texts (pairs (map pair_of vs)))
text-pairs [] l h k = cc
text-pairs (v ∷ vs) l h k = rw (entries-pairs (map pair_of vs), h, k)

-- ---- the notations, for arguments and values in two lists
values-texts : (ks vs : List Value) → length ks ≡ length vs → value_texts (pairs (map pair_of (zip ks vs))) ≡ member_texts (trees (map tree_of vs))
values-texts [] [] e = refl
values-texts [] (v ∷ vs) e = absurd (omega arith)
values-texts (k ∷ ks) [] e = absurd (omega arith)
values-texts (k ∷ ks) (v ∷ vs) e = ap (λ ts. text_of (tree_of v) ∷ ts) (values-texts ks vs (omega arith))

arguments-of : (ks vs : List Value) → length ks ≡ length vs → arguments (map pair_of (zip ks vs)) ≡ map tree_of ks
arguments-of ks vs e = ap arguments (map-zip ks vs) ∙ arguments-zip (map tree_of ks) (map tree_of vs) (omega (arith, length-map ks tree_of, length-map vs tree_of, e))

sequence-of : (ks vs : List Value) (b : Bool) → length ks ≡ length vs → counts_from 1 (map tree_of ks) ≡ b → is_some (items_of (map pair_of (zip ks vs))) ≡ b
sequence-of ks vs b e h = counts-items 1 (map pair_of (zip ks vs)) ∙ ap (counts_from 1) (arguments-of ks vs e) ∙ h

some-pair : (ps : List (Value × Value)) → 0 < length ps → (length ps == 0) ≡ false
some-pair [] l = absurd (omega arith)
some-pair (p ∷ ps) l = grind arith

pub text-of-sequence : (ks vs : List Value) → length ks ≡ length vs → 0 < length vs → counts_from 1 (map tree_of ks) ≡ true
    → text_of (fun (pairs (map pair_of (zip ks vs)))) ≡ listed (codes "<<") (codes ", ") (codes ">>") (member_texts (trees (map tree_of vs)))
text-of-sequence ks vs e l h =
    text-sequence (zip ks vs) (some-pair (zip ks vs) (omega (arith, length-zip ks vs e, l))) (sequence-of ks vs true e h)
    ∙ ap (λ ts. listed (codes "<<") (codes ", ") (codes ">>") ts) (values-texts ks vs e)

pub text-of-record : (ks vs : List Value) → length ks ≡ length vs → 0 < length vs → counts_from 1 (map tree_of ks) ≡ false → list_all is_field (map tree_of ks) ≡ true
    → text_of (fun (pairs (map pair_of (zip ks vs)))) ≡ listed (codes "[") (codes ", ") (codes "]") (field_texts (pairs (map pair_of (zip ks vs))))
text-of-record ks vs e l h f =
    text-record (zip ks vs) (some-pair (zip ks vs) (omega (arith, length-zip ks vs e, l))) (sequence-of ks vs false e h) (ap (list_all is_field) (arguments-of ks vs e) ∙ f)

pub text-of-pairs : (ks vs : List Value) → length ks ≡ length vs → 0 < length vs → counts_from 1 (map tree_of ks) ≡ false → list_all is_field (map tree_of ks) ≡ false
    → text_of (fun (pairs (map pair_of (zip ks vs)))) ≡ listed (codes "(") (codes " @@ ") (codes ")") (pair_texts (pairs (map pair_of (zip ks vs))))
text-of-pairs ks vs e l h f =
    text-pairs (zip ks vs) (some-pair (zip ks vs) (omega (arith, length-zip ks vs e, l))) (sequence-of ks vs false e h) (ap (list_all is_field) (arguments-of ks vs e) ∙ f)

no-field : (n : ℕ) (z : ℤ) → 0 < n → list_all is_field (map tree_of (numbers_from n z)) ≡ false
no-field zero z l = absurd (omega arith)
no-field (suc n) z l = refl

pub text-of-numbers : (vs : List Value) (z : ℤ) → 0 < length vs → (z ≡ pos 1 → ⊥)
    → text_of (fun (pairs (map pair_of (zip (numbers_from (length vs) z) vs)))) ≡ listed (codes "(") (codes " @@ ") (codes ")") (pair_texts (pairs (map pair_of (zip (numbers_from (length vs) z) vs))))
text-of-numbers vs z l h =
    text-of-pairs (numbers_from (length vs) z) vs (length-numbers (length vs) z) l
    (ap (counts_from 1) (trees_numbers (length vs) z) ∙ counts-not (length vs) z l h)
    (no-field (length vs) z l)

pub text-of-counted : (vs : List Value) (z : ℤ) → 0 < length vs → z ≡ pos 1
    → text_of (fun (pairs (map pair_of (zip (numbers_from (length vs) z) vs)))) ≡ listed (codes "<<") (codes ", ") (codes ">>") (member_texts (trees (map tree_of vs)))
text-of-counted vs z l h =
    text-of-sequence (numbers_from (length vs) z) vs (length-numbers (length vs) z) l
    (ap (counts_from 1) (trees_numbers (length vs) z) ∙ ap (λ y. counts_from 1 (counted_up (length vs) y)) h ∙ counts-up (length vs) 1)
