-- What a word begins, by the table.
use Rattle.std.proofs.Common.{◌≡◌, ℕ, suc, leb, arith, Bool, true, false, ◌&&◌, ◌||◌, if◌then◌else◌, map, List, [], ◌∷◌, Option, Some, None, refl, sym, subst}
use Rattle.std.specs.List.{list_any}
use Rattle.std.specs.Str.{bytes_eq, IsUtf8, IsAscii}
use Rattle.std.proofs.lemmas.Bool.{leb-true, and_parts}
use Rattle.std.proofs.lemmas.Slice.Eq.{bytes_eq-Decides}
use Rattle.std.proofs.lemmas.Str.{IsUtf8-from_ascii}
use Rattle.std.proofs.lemmas.Str.Ascii.{IsAscii-nil, IsAscii-cons}
use Rattle.tla_config.specs.declared.keyword.Keyword.{Keyword}
use Rattle.tla_config.specs.declared.keyword.Keyword.TheVariants as word
use Rattle.tla_config.specs.Private.Keywords.{keywords, lookup}
use Rattle.tla_config.specs.Names.{Name, is_among, statement_words}
use Rattle.tla_config.specs.Refusals.{left_out_words}

abbrev pub is_same : Keyword → Keyword → Bool
is_same word.Specification word.Specification = true
is_same word.Init word.Init = true
is_same word.Next word.Next = true
is_same word.Invariants word.Invariants = true
is_same word.Constraints word.Constraints = true
is_same word.Constants word.Constants = true
is_same word.CheckDeadlock word.CheckDeadlock = true
is_same word.LeftOut word.LeftOut = true
is_same _ _ = false

is_same_self : (k : Keyword) → is_same k k ≡ true
is_same_self word.Specification = refl
is_same_self word.Init = refl
is_same_self word.Next = refl
is_same_self word.Invariants = refl
is_same_self word.Constraints = refl
is_same_self word.Constants = refl
is_same_self word.CheckDeadlock = refl
is_same_self word.LeftOut = refl

abbrev Entries : Type 0
Entries = List (Name × Keyword)

-- one of the table's words for this keyword is the word
abbrev pub spells : Entries → Keyword → Name → Bool
spells es k w = list_any (λ e. is_same k e.1 && bytes_eq w e.0) es

or_true : (b : Bool) → (b || true) ≡ true
or_true true = refl
or_true false = refl

spells_step : (es : Entries) (w : Name) (k j : Keyword) (b : Bool) (o : Option Keyword) → (o ≡ Some k → spells es k w ≡ true)
    → (if b then Some j else o) ≡ Some k → ((is_same k j && b) || spells es k w) ≡ true
spells_step es w k j true o go h = let e : j ≡ k = cc in rw (e, is_same_self k) refl
spells_step es w k j false o go h = rw (go h) (or_true (is_same k j && false))

pub spells_found : (es : Entries) (w : Name) (k : Keyword) → lookup es w ≡ Some k → spells es k w ≡ true
spells_found [] w k h = (let z : ⊥ = cc in absurd z)
spells_found (e ∷ es) w k h = spells_step es w k e.1 (bytes_eq w e.0) (lookup es w) (λ g. spells_found es w k g) h

pub same_bytes : (v w : Name) → bytes_eq v w ≡ true → v ≡ w
same_bytes v w h = (bytes_eq-Decides v w).0 h

pub left_out_word : (w : Name) → lookup keywords w ≡ Some word.LeftOut → is_among w left_out_words ≡ true
left_out_word w h = spells_found keywords w word.LeftOut h

-- CONSTANT is a token of its own
pub constants_no_word : (w : Name) → lookup keywords w ≡ Some word.Constants → ⊥
constants_no_word w h = let e : false ≡ true = spells_found keywords w word.Constants h in (let z : ⊥ = cc in z)

abbrev Hold : (Name → Type 0) → List Name → Type 0
Hold P [] = Unit {0}
Hold P (x ∷ xs) = P x × Hold P xs

among_step : (P : Name → Type 0) (w x : Name) (xs : List Name) (b : Bool) → bytes_eq w x ≡ b → P x → (is_among w xs ≡ true → P w) → (b || is_among w xs) ≡ true → P w
among_step P w x xs true e p go h = subst P (sym (same_bytes w x e)) p
among_step P w x xs false e p go h = go h

-- what is right of each of some words is right of one among them
among : (P : Name → Type 0) (w : Name) (xs : List Name) → Hold P xs → is_among w xs ≡ true → P w
among P w [] p h = (let z : ⊥ = cc in absurd z)
among P w (x ∷ xs) p h = among_step P w x xs (bytes_eq w x) refl p.0 (λ g. among P w xs p.1 g) h

pub left_out_is : (w : Name) → is_among w left_out_words ≡ true → lookup keywords w ≡ Some word.LeftOut
left_out_is w h = among (λ x. lookup keywords x ≡ Some word.LeftOut) w left_out_words (refl, (refl, (refl, (refl, (refl, (refl, (refl, (refl, tt)))))))) h

abbrev are_ascii : List ℕ → Bool
are_ascii [] = true
are_ascii (b ∷ bs) = leb (suc b) 128 && are_ascii bs

ascii_bytes : (bs : List ℕ) → are_ascii bs ≡ true → IsAscii bs
ascii_bytes [] h = IsAscii-nil
ascii_bytes (b ∷ bs) h =
    let k = and_parts (leb (suc b) 128) (are_ascii bs) h in
    let l = leb-true (suc b) 128 k.0 in
    IsAscii-cons b bs (omega (arith, l)) (ascii_bytes bs k.1)

pub left_out_utf8 : (w : Name) → is_among w left_out_words ≡ true → IsUtf8 w
left_out_utf8 w h = IsUtf8-from_ascii w (ascii_bytes w (among (λ x. are_ascii x ≡ true) w left_out_words (refl, (refl, (refl, (refl, (refl, (refl, (refl, (refl, tt)))))))) h))

none_step : (es : Entries) (w : Name) (k : Keyword) (b : Bool) (o : Option Keyword) → (o ≡ None → list_any (bytes_eq w) (map (λ e. e.0) es) ≡ false)
    → (if b then Some k else o) ≡ None → (b || list_any (bytes_eq w) (map (λ e. e.0) es)) ≡ false
none_step es w k true o go h = (let z : ⊥ = cc in absurd z)
none_step es w k false o go h = go h

none_found : (es : Entries) (w : Name) → lookup es w ≡ None → list_any (bytes_eq w) (map (λ e. e.0) es) ≡ false
none_found [] w h = refl
none_found (e ∷ es) w h = none_step es w e.1 (bytes_eq w e.0) (lookup es w) (λ g. none_found es w g) h

pub name_word : (w : Name) → lookup keywords w ≡ None → is_among w statement_words ≡ false
name_word w h = none_found keywords w h

is_none_step : (es : Entries) (w : Name) (k : Keyword) (b : Bool) (o : Option Keyword) → (list_any (bytes_eq w) (map (λ e. e.0) es) ≡ false → o ≡ None)
    → (b || list_any (bytes_eq w) (map (λ e. e.0) es)) ≡ false → (if b then Some k else o) ≡ None
is_none_step es w k true o go h = (let z : ⊥ = cc in absurd z)
is_none_step es w k false o go h = go h

is_none : (es : Entries) (w : Name) → list_any (bytes_eq w) (map (λ e. e.0) es) ≡ false → lookup es w ≡ None
is_none [] w h = refl
is_none (e ∷ es) w h = is_none_step es w e.1 (bytes_eq w e.0) (lookup es w) (λ g. is_none es w g) h

-- a name is no word of the table
pub name_is_none : (w : Name) → is_among w statement_words ≡ false → lookup keywords w ≡ None
name_is_none w h = is_none keywords w h
