-- The loop that looks for the header finds it.
use Rattle.std.proofs.Common.{◌≡◌, ◌≤◌, ◌<◌, ◌+◌, ◌-◌, ℕ, suc, Bool, true, false, not, ◌&&◌, if◌then◌else◌, cond, Option, Some, None, [], ◌∷◌, ◌++◌, take, drop, replicate, length, length-append, take-append-drop, codes, append_assoc, refl, sym, ap, ◌∙◌, subst, arith}
use Rattle.std.specs.Prelude.{IsTrue, nat_le, nat_lt, nat_eq}
use Rattle.std.specs.List.{list_all, prefix_len, starts_with}
use Rattle.std.proofs.lemmas.Bool.Decides.{Decides-eqb, nat_tests}
use Rattle.std.proofs.lemmas.List.{drop_at, replicate-append-replicate}
use Rattle.std.proofs.lemmas.List.Folds.{length-prefix_len}
use Rattle.tla_lex.specs.Bytes.{Bytes, first, is_dash, is_space_or_tab, is_word}
use Rattle.tla_lex.specs.Header.{EndsHeader}
use Rattle.tla_lex.specs.Module.{header_from, header_end, module_len, begins_module, on_module}
use Rattle.tla_lex.specs.ScannerLaws.{HeaderIsFound}
use Rattle.tla_lex.proofs.Firsts.{found_first, first_found, none_found, found_none}
use Rattle.tla_lex.proofs.Plain.{apart}
use Rattle.tla_lex.proofs.Runs.{clash, both, run_passes, starts_is}
use Rattle.tla_lex.proofs.Shapes.{negates}

below : (a b : ℕ) → nat_lt a b ≡ true → a < b
below a b h = grind (arith, nat_tests)

at_most : (a b : ℕ) → nat_le a b ≡ true → a ≤ b
at_most a b h = grind (arith, nat_tests)

is_most : (a b : ℕ) → a ≤ b → nat_le a b ≡ true
is_most a b h = grind (arith, nat_tests)

is_below : (a b : ℕ) → a < b → nat_lt a b ≡ true
is_below a b h = grind (arith, nat_tests)

-- what stands after the dashes of a header
record Named (text : Bytes) (n : ℕ) : Type 0 where
  spaces : Bytes
  behind : Bytes
  whole : text ≡ spaces ++ (codes "MODULE" ++ behind)
  size : n ≡ length spaces + 6
  blank : IsTrue (list_all is_space_or_tab spaces)
  some : 0 < length spaces
  word : is_word (first behind) ≡ false

module_named : (text : Bytes) (m : ℕ) → module_len text ≡ Some m → Named text m
module_named text m h = by (nat_lt 0 n) (begins_module (drop n text)) refl refl h
  where
    n : ℕ
    n = prefix_len is_space_or_tab text

    by : (c d : Bool) → nat_lt 0 (prefix_len is_space_or_tab text) ≡ c → begins_module (drop (prefix_len is_space_or_tab text) text) ≡ d → (if c && d then Some (prefix_len is_space_or_tab text + 6) else None) ≡ Some m → Named text m
    by false d e f g = absurd (let z : ⊥ = cc in z)
    by true false e f g = absurd (let z : ⊥ = cc in z)
    by true true e f g =
        let k = prefix_len is_space_or_tab text in
        let rest = drop k text in
        let same : k + 6 ≡ m = cc in
        let size : length (take k text) ≡ k = length-prefix_len is_space_or_tab text in
        let s = both (starts_with nat_eq rest (codes "MODULE")) (not (is_word (first (drop 6 rest)))) f in
        let some : 0 < k = below 0 k e in
        record {
          spaces = take k text;
          behind = drop 6 rest;
          whole = sym (take-append-drop k text) ∙ ap (λ x. take k text ++ x) (sym (take-append-drop 6 rest) ∙ ap (λ x. x ++ drop 6 rest) (sym (starts_is rest (codes "MODULE") s.0)));
          size = omega (arith, same, size);
          blank = run_passes is_space_or_tab text;
          some = omega (arith, some, size);
          word = negates (is_word (first (drop 6 rest))) s.1;
        }

spaces_len : (spaces rest : Bytes) → IsTrue (list_all is_space_or_tab spaces) → prefix_len is_space_or_tab (spaces ++ (77 ∷ rest)) ≡ length spaces
spaces_len [] rest h = refl
spaces_len (b ∷ spaces) rest h =
    let s = both (is_space_or_tab b) (list_all is_space_or_tab spaces) h in
    let less : prefix_len is_space_or_tab (spaces ++ (77 ∷ rest)) ≡ length spaces = spaces_len spaces rest s.1 in
    subst (λ c. cond c (1 + prefix_len is_space_or_tab (spaces ++ (77 ∷ rest))) 0 ≡ suc (length spaces)) (sym s.0) (omega (arith, less))

named_module : (text : Bytes) (m : ℕ) → Named text m → module_len text ≡ Some m
named_module text m h = ap module_len h.whole ∙ by
  where
    rest : Bytes
    rest = codes "MODULE" ++ h.behind

    by : module_len (h.spaces ++ (codes "MODULE" ++ h.behind)) ≡ Some m
    by =
        let size : prefix_len is_space_or_tab (h.spaces ++ (codes "MODULE" ++ h.behind)) ≡ length h.spaces = spaces_len h.spaces (codes "ODULE" ++ h.behind) h.blank in
        let begins : begins_module (codes "MODULE" ++ h.behind) ≡ true = ap not h.word in
        let is = h.size in
        subst (λ k. (if nat_lt 0 k && begins_module (drop k (h.spaces ++ (codes "MODULE" ++ h.behind))) then Some (k + 6) else None) ≡ Some m) (sym size)
        (subst (λ x. (if nat_lt 0 (length h.spaces) && begins_module x then Some (length h.spaces + 6) else None) ≡ Some m) (sym (drop_at h.spaces (codes "MODULE" ++ h.behind) (length h.spaces) refl))
        (subst (λ c. (if c && begins_module (codes "MODULE" ++ h.behind) then Some (length h.spaces + 6) else None) ≡ Some m) (sym (is_below 0 (length h.spaces) h.some))
        (subst (λ c. (if true && c then Some (length h.spaces + 6) else None) ≡ Some m) (sym begins) (ap Some (sym is)))))

-- ---- what the loop finds
record Found (dashes at : ℕ) (text : Bytes) (end : ℕ) : Type 0 where
  before : Bytes
  spaces : Bytes
  behind : Bytes
  whole : replicate dashes 45 ++ text ≡ before ++ (codes "----" ++ (spaces ++ (codes "MODULE" ++ behind)))
  size : end + length behind ≡ at + length text
  blank : IsTrue (list_all is_space_or_tab spaces)
  some : 0 < length spaces
  word : is_word (first behind) ≡ false

one_dash_more : (dashes : ℕ) (rest : Bytes) → replicate (dashes + 1) 45 ++ rest ≡ replicate dashes 45 ++ (45 ∷ rest)
one_dash_more dashes rest =
    let many : replicate dashes 45 ++ replicate 1 45 ≡ replicate (dashes + 1) 45 = replicate-append-replicate dashes 1 45 in
    ap (λ x. x ++ rest) (sym many) ∙ append_assoc (replicate dashes 45) (45 ∷ []) rest

four_dashes : (dashes : ℕ) (rest : Bytes) → 4 ≤ dashes → replicate dashes 45 ++ rest ≡ replicate (dashes - 4) 45 ++ (codes "----" ++ rest)
four_dashes dashes rest h =
    let many : replicate (dashes - 4) 45 ++ replicate 4 45 ≡ replicate (dashes - 4 + 4) 45 = replicate-append-replicate (dashes - 4) 4 45 in
    let same : dashes - 4 + 4 ≡ dashes = omega (arith, h) in
    ap (λ n. replicate n 45 ++ rest) (sym same) ∙ ap (λ x. x ++ rest) (sym many) ∙ append_assoc (replicate (dashes - 4) 45) (codes "----") rest

found : (dashes at : ℕ) (text : Bytes) (end : ℕ) → header_from dashes at text ≡ Some end → Found dashes at text end
unfolding header_from
found dashes at [] end h = absurd (let z : ⊥ = cc in z)
found dashes at (b ∷ rest) end h = by (found (dashes + 1) (at + 1) rest end) (found 0 (at + 1) rest end) (is_dash b) (nat_le 4 dashes) (module_len (b ∷ rest)) refl refl refl h
  where
    later : Found 0 (at + 1) rest end → Found dashes at (b ∷ rest) end
    later f =
        let size = f.size in
        record {
          before = replicate dashes 45 ++ (b ∷ f.before);
          spaces = f.spaces;
          behind = f.behind;
          whole = ap (λ x. replicate dashes 45 ++ (b ∷ x)) f.whole ∙ sym (append_assoc (replicate dashes 45) (b ∷ f.before) (codes "----" ++ (f.spaces ++ (codes "MODULE" ++ f.behind))));
          size = omega (arith, size);
          blank = f.blank;
          some = f.some;
          word = f.word;
        }

    by : (header_from (dashes + 1) (at + 1) rest ≡ Some end → Found (dashes + 1) (at + 1) rest end) → (header_from 0 (at + 1) rest ≡ Some end → Found 0 (at + 1) rest end)
        → (c d : Bool) (o : Option ℕ) → is_dash b ≡ c → nat_le 4 dashes ≡ d → module_len (b ∷ rest) ≡ o
        → (if c then header_from (dashes + 1) (at + 1) rest else on_module (if d then o else None) at (header_from 0 (at + 1) rest)) ≡ Some end → Found dashes at (b ∷ rest) end
    by more none true d o e f g k =
        let r = more k in
        let size = r.size in
        record {
          before = r.before;
          spaces = r.spaces;
          behind = r.behind;
          whole = ap (λ x. replicate dashes 45 ++ (x ∷ rest)) ((Decides-eqb b 45).0 e) ∙ sym (one_dash_more dashes rest) ∙ r.whole;
          size = omega (arith, size);
          blank = r.blank;
          some = r.some;
          word = r.word;
        }
    by more none false true (Some n) e f g k =
        let four : 4 ≤ dashes = at_most 4 dashes f in
        let m = module_named (b ∷ rest) n g in
        let end_is : at + n ≡ end = cc in
        let size = m.size in
        let lengths : suc (length rest) ≡ length m.spaces + suc (suc (suc (suc (suc (suc (length m.behind)))))) = ap length m.whole ∙ length-append m.spaces (codes "MODULE" ++ m.behind) in
        record {
          before = replicate (dashes - 4) 45;
          spaces = m.spaces;
          behind = m.behind;
          whole = four_dashes dashes (b ∷ rest) four ∙ ap (λ x. replicate (dashes - 4) 45 ++ (codes "----" ++ x)) m.whole;
          size = omega (arith, end_is, size, lengths);
          blank = m.blank;
          some = m.some;
          word = m.word;
        }
    by more none false true None e f g k = later (none k)
    by more none false false o e f g k = later (none k)

-- ---- a header is found, and no later than this one
header_here : (dashes at : ℕ) (text : Bytes) (n : ℕ) → 4 ≤ dashes → Named text n → header_from dashes at text ≡ Some (at + n)
unfolding header_from
header_here dashes at [] n h m = absurd (nothing m.spaces m.whole)
  where
    nothing : (s : Bytes) → [] ≡ s ++ (codes "MODULE" ++ m.behind) → ⊥
    nothing [] e = cc
    nothing (c ∷ s) e = cc
header_here dashes at (b ∷ rest) n h m =
    subst (λ c. (if c then header_from (dashes + 1) (at + 1) rest else on_module (if nat_le 4 dashes then module_len (b ∷ rest) else None) at (header_from 0 (at + 1) rest)) ≡ Some (at + n)) (sym no_dash)
    (subst (λ c. on_module (if c then module_len (b ∷ rest) else None) at (header_from 0 (at + 1) rest) ≡ Some (at + n)) (sym (is_most 4 dashes h))
    (ap (λ o. on_module o at (header_from 0 (at + 1) rest)) (named_module (b ∷ rest) n m)))
  where
    by : (s : Bytes) → 0 < length s → IsTrue (list_all is_space_or_tab s) → b ∷ rest ≡ s ++ (codes "MODULE" ++ m.behind) → is_dash b ≡ false
    by [] some all e = absurd (omega (arith, some))
    by (c ∷ s) some all e =
        let same : b ≡ c = cc in
        subst (λ x. is_dash x ≡ false) (sym same) (apart is_space_or_tab c 45 (both (is_space_or_tab c) (list_all is_space_or_tab s) all).0 refl)

    no_dash : is_dash b ≡ false
    no_dash = by m.spaces m.some m.blank m.whole

-- bytes without a dash end before one
abbrev no_dash : ℕ → Bool
no_dash b = not (is_dash b)

before_dash : (u t y z : Bytes) → IsTrue (list_all no_dash u) → u ++ t ≡ y ++ (45 ∷ z) → length u ≤ length y
before_dash [] t y z h e = omega arith
before_dash (b ∷ u) t [] z h e = let same : b ≡ 45 = cc in clash (subst (λ x. IsTrue (no_dash x)) same (both (no_dash b) (list_all no_dash u) h).0) refl
before_dash (b ∷ u) t (c ∷ y) z h e =
    let less : length u ≤ length y = before_dash u t y z (both (no_dash b) (list_all no_dash u) h).1 (let tails : u ++ t ≡ y ++ (45 ∷ z) = cc in tails) in
    omega (arith, less)

spaces_no_dash : (s t : Bytes) → IsTrue (list_all is_space_or_tab s) → IsTrue (list_all no_dash t) → IsTrue (list_all no_dash (s ++ t))
spaces_no_dash [] t h k = k
spaces_no_dash (b ∷ s) t h k =
    let p = both (is_space_or_tab b) (list_all is_space_or_tab s) h in
    subst (λ c. IsTrue (not c && list_all no_dash (s ++ t))) (sym (apart is_space_or_tab b 45 p.0 refl)) (spaces_no_dash s t p.1 k)

named_before : (text : Bytes) (n : ℕ) (y z : Bytes) → Named text n → text ≡ y ++ (45 ∷ z) → n ≤ length y
named_before text n y z m e =
    let whole : (m.spaces ++ codes "MODULE") ++ m.behind ≡ y ++ (45 ∷ z) = append_assoc m.spaces (codes "MODULE") m.behind ∙ sym m.whole ∙ e in
    let less : length (m.spaces ++ codes "MODULE") ≤ length y = before_dash (m.spaces ++ codes "MODULE") m.behind y z (spaces_no_dash m.spaces (codes "MODULE") m.blank refl) whole in
    let parts : length (m.spaces ++ codes "MODULE") ≡ length m.spaces + 6 = length-append m.spaces (codes "MODULE") in
    let size = m.size in
    omega (arith, less, parts, size)

least : (before text : Bytes) (n : ℕ) → Named text n → (dashes at : ℕ) → (m : ℕ) × (header_from dashes at (before ++ (codes "----" ++ text)) ≡ Some m) × (m ≤ at + length before + 4 + n)
unfolding header_from
least [] text n h dashes at =
    (at + 1 + 1 + 1 + 1 + n, header_here (dashes + 1 + 1 + 1 + 1) (at + 1 + 1 + 1 + 1) text n (omega arith) h, omega arith)
least (b ∷ before) text n h dashes at = by (least before text n h (dashes + 1) (at + 1)) (least before text n h 0 (at + 1)) (is_dash b) (nat_le 4 dashes) (module_len (b ∷ (before ++ (codes "----" ++ text)))) refl
  where
    whole : Bytes
    whole = before ++ (codes "----" ++ text)

    by : (m : ℕ) × (header_from (dashes + 1) (at + 1) (before ++ (codes "----" ++ text)) ≡ Some m) × (m ≤ at + 1 + length before + 4 + n)
        → (m : ℕ) × (header_from 0 (at + 1) (before ++ (codes "----" ++ text)) ≡ Some m) × (m ≤ at + 1 + length before + 4 + n)
        → (c d : Bool) (o : Option ℕ) → module_len (b ∷ (before ++ (codes "----" ++ text))) ≡ o
        → (m : ℕ) × ((if c then header_from (dashes + 1) (at + 1) (before ++ (codes "----" ++ text)) else on_module (if d then o else None) at (header_from 0 (at + 1) (before ++ (codes "----" ++ text)))) ≡ Some m) × (m ≤ at + suc (length before) + 4 + n)
    by (m, e, l) none true d o f = (m, e, omega (arith, l))
    by more none false true (Some k) f =
        let early : k ≤ suc (length before) = named_before (b ∷ (before ++ (codes "----" ++ text))) k (b ∷ before) (codes "---" ++ text) (module_named (b ∷ (before ++ (codes "----" ++ text))) k f) refl in
        (at + k, refl, omega (arith, early))
    by more (m, e, l) false true None f = (m, e, omega (arith, l))
    by more (m, e, l) false false o f = (m, e, omega (arith, l))

module _ (text : Bytes) where
  ends : (end : ℕ) → header_end text ≡ Some end → EndsHeader text end
  ends end h =
      let f = found 0 0 text end h in
      let size = f.size in
      record { before = f.before; spaces = f.spaces; behind = f.behind; whole = f.whole; here = omega (arith, size); blank = f.blank; some = f.some; word = f.word }

  least_end : (end : ℕ) → EndsHeader text end → (m : ℕ) × (header_end text ≡ Some m) × (m ≤ end)
  least_end end h =
      let l = least h.before (h.spaces ++ (codes "MODULE" ++ h.behind)) (length h.spaces + 6) (record { spaces = h.spaces; behind = h.behind; whole = refl; size = refl; blank = h.blank; some = h.some; word = h.word }) 0 0 in
      let most = l.2 in
      let here = h.here in
      let sizes : length text ≡ length h.before + suc (suc (suc (suc (length (h.spaces ++ (codes "MODULE" ++ h.behind)))))) = ap length h.whole ∙ length-append h.before (codes "----" ++ (h.spaces ++ (codes "MODULE" ++ h.behind))) in
      let parts : length (h.spaces ++ (codes "MODULE" ++ h.behind)) ≡ length h.spaces + suc (suc (suc (suc (suc (suc (length h.behind)))))) = length-append h.spaces (codes "MODULE" ++ h.behind) in
      (l.0, ap header_end h.whole ∙ l.1, omega (arith, most, here, sizes, parts))

pub header_is_found : HeaderIsFound
header_is_found text = (
  λ end. (
    λ h. record { ends = ends text end h; first = found_first (EndsHeader text) (header_end text) (least_end text) end h },
    λ h. first_found (EndsHeader text) (header_end text) (ends text) (least_end text) end h.ends h.first,
  ),
  (none_found (EndsHeader text) (header_end text) (least_end text), found_none (EndsHeader text) (header_end text) (ends text)),
)
