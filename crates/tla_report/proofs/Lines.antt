-- The texts of pieces, values and states, one more at a time.
use Rattle.std.proofs.Common.{◌≡◌, ℕ, zero, suc, ◌+◌, ◌<◌, List, [], ◌∷◌, ◌++◌, append_assoc, append-nil, length, map, get_or, take, sym, ◌∙◌, ap, refl, arith, flat_map}
use Rattle.tla_value.specs.Tree.{Tree}
use Rattle.tla_value.specs.TreeOf.{tree_of}
use Rattle.tla_value.specs.declared.value.Value.{Value}
use Rattle.tla_verdict.specs.IsNamed.{AreWhole}
use Rattle.tla_report.specs.Report.{value_line, value_lines, state_lines, trace_lines}

pub pieces_more : {A : Type 0} (f : A → List ℕ) (xs : List A) (i : ℕ) (d : A) → i < length xs
    → flat_map f (take (suc i) xs) ≡ flat_map f (take i xs) ++ f (get_or xs i d)
pieces_more f [] i d l = absurd (omega arith)
pieces_more f (x ∷ xs) zero d l = append-nil (f x)
pieces_more f (x ∷ xs) (suc i) d l =
    ap (λ t. f x ++ t) (pieces_more f xs i d (omega arith)) ∙ sym (append_assoc (f x) (flat_map f (take i xs)) (f (get_or xs i d)))

-- the rest after the first i
pub pieces_rest : {A : Type 0} (f : A → List ℕ) (xs : List A) (i : ℕ) → (after : List ℕ) × (flat_map f xs ≡ flat_map f (take i xs) ++ after)
pieces_rest f xs zero = (flat_map f xs, refl)
pieces_rest f [] (suc i) = ([], refl)
pieces_rest f (x ∷ xs) (suc i) = let h = pieces_rest f xs i in
    (h.0, ap (λ t. f x ++ t) h.1 ∙ sym (append_assoc (f x) (flat_map f (take i xs)) h.0))

pub values_more : (ns : List (List ℕ)) (vs : List Value) (i : ℕ) (e : List ℕ) (d : Value) → i < length ns → i < length vs
    → value_lines (take (suc i) ns) (map tree_of (take (suc i) vs))
    ≡ value_lines (take i ns) (map tree_of (take i vs)) ++ value_line (get_or ns i e) (tree_of (get_or vs i d))
values_more [] vs i e d l k = absurd (omega arith)
values_more (n ∷ ns) [] i e d l k = absurd (omega arith)
values_more (n ∷ ns) (v ∷ vs) zero e d l k = append-nil (value_line n (tree_of v))
values_more (n ∷ ns) (v ∷ vs) (suc i) e d l k =
    ap (λ t. value_line n (tree_of v) ++ t) (values_more ns vs i e d (omega arith) (omega arith))
    ∙ sym (append_assoc (value_line n (tree_of v)) (value_lines (take i ns) (map tree_of (take i vs))) (value_line (get_or ns i e) (tree_of (get_or vs i d))))

pub values_rest : (ns : List (List ℕ)) (vs : List Value) (i : ℕ)
    → (after : List ℕ) × (value_lines ns (map tree_of vs) ≡ value_lines (take i ns) (map tree_of (take i vs)) ++ after)
values_rest ns vs zero = (value_lines ns (map tree_of vs), refl)
values_rest [] vs (suc i) = ([], refl)
values_rest (n ∷ ns) [] (suc i) = ([], refl)
values_rest (n ∷ ns) (v ∷ vs) (suc i) = let h = values_rest ns vs i in
    (h.0, ap (λ t. value_line n (tree_of v) ++ t) h.1 ∙ sym (append_assoc (value_line n (tree_of v)) (value_lines (take i ns) (map tree_of (take i vs))) h.0))

pub trace_more : (ns : List (List ℕ)) (first : ℕ) (ss : List (List Tree)) (i number : ℕ) (d : List Tree) → i < length ss → first + i ≡ number
    → trace_lines ns first (take (suc i) ss) ≡ trace_lines ns first (take i ss) ++ state_lines ns number (get_or ss i d)
trace_more ns first [] i number d l e = absurd (omega arith)
trace_more ns first (s ∷ ss) zero number d l e =
    let same : first ≡ number = omega arith in append-nil (state_lines ns first s) ∙ ap (λ n. state_lines ns n s) same
trace_more ns first (s ∷ ss) (suc i) number d l e =
    ap (λ t. state_lines ns first s ++ t) (trace_more ns (first + 1) ss i number d (omega arith) (omega arith))
    ∙ sym (append_assoc (state_lines ns first s) (trace_lines ns (first + 1) (take i ss)) (state_lines ns number (get_or ss i d)))

pub trace_rest : (ns : List (List ℕ)) (first : ℕ) (ss : List (List Tree)) (i : ℕ)
    → (after : List ℕ) × (trace_lines ns first ss ≡ trace_lines ns first (take i ss) ++ after)
trace_rest ns first ss zero = (trace_lines ns first ss, refl)
trace_rest ns first [] (suc i) = ([], refl)
trace_rest ns first (s ∷ ss) (suc i) = let h = trace_rest ns (first + 1) ss i in
    (h.0, ap (λ t. state_lines ns first s ++ t) h.1 ∙ sym (append_assoc (state_lines ns first s) (trace_lines ns (first + 1) (take i ss)) h.0))

-- a state of a trace whose states are complete
pub whole_at : (variables : ℕ) (ss : List (List Tree)) (i : ℕ) (d : List Tree) → AreWhole variables ss → i < length ss → length (get_or ss i d) ≡ variables
whole_at variables [] i d whole l = absurd (omega arith)
whole_at variables (s ∷ ss) zero d whole l = whole.0
whole_at variables (s ∷ ss) (suc i) d whole l = whole_at variables ss i d whole.1 (omega arith)
