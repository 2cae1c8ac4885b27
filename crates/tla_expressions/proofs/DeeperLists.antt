-- With more levels lists are read the same, or were nested too deep.
use Rattle.std.proofs.Common.{◌≡◌, ℕ, zero, suc, ◌+◌, Bool, true, false, ◌⊎◌, inl, inr, nat_le, length, List, [], ◌∷◌, ◌++◌, if◌then◌else◌, Option, Some, None, Ok, Err, refl, ap, arith}
use Rattle.std.proofs.lemmas.Bool.{leb-true, le-leb}
use Rattle.tla_lex.specs.declared.token.Place.{Place}
use Rattle.tla_lex.specs.declared.token.Token.{Token}
use Rattle.tla_lex.specs.declared.token.Kind.{Kind}
use Rattle.tla_lex.specs.declared.token.Kind.TheVariants as k
use Rattle.tla_grammar.specs.declared.context.Context.{Context}
use Rattle.tla_tree.specs.declared.tree.Brackets.{Brackets}
use Rattle.tla_grammar.specs.declared.tokens.Between.TheVariants as between
use Rattle.tla_tree.specs.Tree.{Tree, Pattern}
use Rattle.tla_grammar.specs.Tokens.{seen}
use Rattle.tla_grammar.specs.Kinds.{kind_at, closing}
use Rattle.tla_grammar.specs.Outcome.{Outcome, Nested, ◌>>=◌, need, room, at_op, sequence}
use Rattle.tla_grammar.specs.Marks.{following}
use Rattle.tla_expressions.specs.ReadingLists.{exprs, some, listing, call, pattern, single, set_behind, group, one_group, paren}
use Rattle.tla_expressions.specs.Reading.{named}

-- the first was nested too deep, or the second is the same
abbrev pub Refines : {A : Type 0} → Outcome A → Outcome A → Type 0
Refines r s = (r ≡ Err Nested) ⊎ (r ≡ s)

bind_same : {A B : Type 0} (r s : Outcome A) (f g : A → ℕ → Outcome B) → r ≡ s → ((x : A) (m : ℕ) → Refines (f x m) (g x m)) → Refines (r >>= f) (s >>= g)
bind_same (Ok p) s f g e h = rw (← e) (h p.0 p.1)
bind_same (Err x) s f g e h = rw (← e) (inr refl)

pub bind : {A B : Type 0} (r s : Outcome A) (f g : A → ℕ → Outcome B) → Refines r s → ((x : A) (m : ℕ) → Refines (f x m) (g x m)) → Refines (r >>= f) (s >>= g)
bind r s f g e h = elim e [ inl w ↦ inl (ap (λ x. x >>= f) w) | inr w ↦ bind_same r s f g w h ]

pub needs : {A : Type 0} (t : Bool) (x y : Outcome A) → Refines x y → Refines (need t x) (need t y)
needs true x y h = h
needs false x y h = inr refl

rooms : {A : Type 0} (t u : Bool) (x : Outcome A) → (t ≡ true → u ≡ true) → Refines (room t x) (room u x)
rooms true u x h = rw (h refl) (inr refl)
rooms false u x h = inl refl

pub more_room : {A : Type 0} (d most : ℕ) (x : Outcome A) → Refines (room (nat_le d most) x) (room (nat_le d (most + 1)) x)
more_room d most x = rooms (nat_le d most) (nat_le d (most + 1)) x (λ h. let l = leb-true d most h in le-leb d (most + 1) (omega (arith, l)))

pub ops : {A X : Type 0} (o : Option X) (x y : Outcome A) (f g : X → Outcome A) → Refines x y → ((op : X) → Refines (f op) (g op)) → Refines (at_op o x f) (at_op o y g)
ops None x y f g h k = h
ops (Some op) x y f g h k = k op

pub choices : {A : Type 0} (t : Bool) (x y u v : Outcome A) → Refines x u → Refines y v → Refines (if t then x else y) (if t then u else v)
choices true x y u v h k = h
choices false x y u v h k = k

pub sequences : {A : Type 0} (f g : ℕ → Outcome A) (next : ℕ → Option ℕ) → ((at : ℕ) → Refines (f at) (g at)) → (n : ℕ) (front : List A) (at : ℕ) → Refines (sequence f next n front at) (sequence g next n front at)
unfolding sequence
sequences f g next d zero front at = inr refl
sequences f g next d (suc n) front at = bind (f at) (g at) _ _ (d at) (λ x after. ops (next after) _ _ _ _ (inr refl) (λ start. sequences f g next d n (front ++ x ∷ []) start))

module _ (text : List ℕ) (ts : List Token) where
  module _ (inner outer : Context → ℕ → ℕ → Outcome Tree) (deeper : (s : Context) (floor at : ℕ) → Refines (inner s floor at) (outer s floor at)) where
    pub somes : (s : Context) (close : Kind) (at : ℕ) → Refines (some text ts inner s close at) (some text ts outer s close at)
    unfolding some
    somes s close at = bind (exprs text ts inner (length ts) [] s between.Comma at) (exprs text ts outer (length ts) [] s between.Comma at) _ _
        (sequences (inner s 0) (outer s 0) (following ts s.column between.Comma) (deeper s 0) (length ts) [] at) (λ es after. inr refl)

    pub listings : (s : Context) (p : Place) (b : Brackets) (at : ℕ) → Refines (listing text ts inner s p b at) (listing text ts outer s p b at)
    unfolding listing
    listings s p b at = choices (kind_at (closing b) (seen ts s.column (at + 1))) _ _ _ _ (inr refl)
        (bind (some text ts inner s (closing b) (at + 1)) (some text ts outer s (closing b) (at + 1)) _ _ (somes s (closing b) (at + 1)) (λ es end. inr refl))

    pub calls : (s : Context) (t : Token) (at : ℕ) → Refines (call text ts inner s t at) (call text ts outer s t at)
    unfolding call
    calls s t at = bind (some text ts inner s k.RightParen (at + 2)) (some text ts outer s k.RightParen (at + 2)) _ _ (somes s k.RightParen (at + 2)) (λ es end. inr refl)

    pub nameds : (s : Context) (t : Token) (at : ℕ) → Refines (named text ts inner s t at) (named text ts outer s t at)
    unfolding named
    nameds s t at = choices (kind_at k.LeftParen (seen ts s.column (at + 1))) _ _ _ _ (calls s t at) (inr refl)

    sets_behind : (s : Context) (w : Pattern) (at : ℕ) → Refines (set_behind text ts inner s w at) (set_behind text ts outer s w at)
    unfolding set_behind
    sets_behind s w at = needs (kind_at k.Member (seen ts s.column at)) _ _ (bind (inner s 0 (at + 1)) (outer s 0 (at + 1)) _ _ (deeper s 0 (at + 1)) (λ e end. inr refl))

    pub group_deeper : (s : Context) (at : ℕ) → Refines (group text ts inner s at) (group text ts outer s at)
    unfolding group
    group_deeper s at = bind (pattern text ts s.column at) (pattern text ts s.column at) (set_behind text ts inner s) (set_behind text ts outer s) (inr refl) (λ w after. sets_behind s w after)

    pub one_group_deeper : (s : Context) (at : ℕ) → Refines (one_group text ts inner s at) (one_group text ts outer s at)
    unfolding one_group
    one_group_deeper s at = bind (single text ts s.column at) (single text ts s.column at) (set_behind text ts inner s) (set_behind text ts outer s) (inr refl) (λ w after. sets_behind s w after)

    pub parens : (s : Context) (p : Place) (at : ℕ) → Refines (paren text ts inner s p at) (paren text ts outer s p at)
    unfolding paren
    parens s p at = bind (inner s 0 (at + 1)) (outer s 0 (at + 1)) _ _ (deeper s 0 (at + 1)) (λ e after. inr refl)
