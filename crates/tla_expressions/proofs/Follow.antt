-- What may follow a tree, and where a reading stops.
use Rattle.std.proofs.Common.{◌≡◌, ℕ, ◌<◌, ◌≤◌, Bool, true, false, not, ◌&&◌, ◌||◌, ◌⊎◌, inl, inr, nat_lt, nat_eq, if◌then◌else◌, List, Option, Some, None, refl, arith}
use Rattle.std.proofs.lemmas.Bool.{ltb-true, lt-ltb, le-ltb, eqb-true}
use Rattle.tla_lex.specs.SameKind.{same_kind}
use Rattle.tla_lex.specs.declared.token.Token.{Token}
use Rattle.tla_lex.specs.declared.token.Kind.{Kind}
use Rattle.tla_lex.specs.declared.token.Kind.TheVariants as k
use Rattle.tla_tree.specs.declared.tree.Infix.{Infix}
use Rattle.tla_tree.specs.declared.tree.Infix.TheVariants as i
use Rattle.tla_tree.specs.declared.tree.Prefix.{Prefix}
use Rattle.tla_tree.specs.declared.tree.Prefix.TheVariants as p
use Rattle.tla_tree.specs.declared.tree.Bullet.{Bullet}
use Rattle.tla_tree.specs.Tree.{Tree}
use Rattle.tla_grammar.specs.Operators.{low, high, left_group, prefix_low, prefix_high, infix_of, bullet_of}
use Rattle.tla_grammar.specs.Edges.{yields, edge_allows}
use Rattle.tla_grammar.specs.Tokens.{is_suffix, right_of, seen, goes_on, is_some_infix, is_bullet, is_bullet_at, may_follow, Has}
use Rattle.tla_grammar.specs.Kinds.{kind_at}
use Rattle.tla_grammar.specs.Ending.{above, infix_at, allows, may_end}
use Rattle.tla_grammar.specs.Marks.{postfix_of, postfix_at}
use Rattle.tla_grammar.proofs.Inversion.{and_true}

-- ---- numbers of the table

pub low_high : (op : Infix) → low op ≤ high op
low_high i.Remainder = omega arith
low_high _ = omega arith

pub low_some : (op : Infix) → 0 < low op
low_some i.Remainder = omega arith
low_some _ = omega arith

pub prefix_low_high : (op : Prefix) → prefix_low op ≤ prefix_high op
prefix_low_high p.Not = omega arith
prefix_low_high _ = omega arith

group_low : (a b : Infix) → 0 < left_group a → left_group a ≡ left_group b → low b ≤ low a
group_low i.And i.And h e = omega arith
group_low i.Or i.Or h e = omega arith
group_low i.Cup i.Cup h e = omega arith
group_low i.Cap i.Cap h e = omega arith
group_low i.Override i.Override h e = omega arith
group_low i.Plus i.Plus h e = omega arith
group_low i.Minus i.Minus h e = omega arith
group_low i.Times i.Times h e = omega arith
group_low i.Concatenation i.Concatenation h e = omega arith
group_low i.Remainder i.Remainder h e = omega arith
group_low _ _ h e = absurd (omega (arith, h, e))

or_true : (s t : Bool) → (s || t) ≡ true → (s ≡ true) ⊎ (t ≡ true)
or_true true t h = inl refl
or_true false t h = inr h

-- what an operator yields to begins no higher
pub yields_low : (a b : Infix) → yields a b ≡ true → low b ≤ low a
yields_low a b h = elim (or_true (nat_lt (high b) (low a)) _ h) [
  | inl w ↦ (let x = ltb-true (high b) (low a) w in let y = low_high b in omega (arith, x, y))
  | inr w ↦
      let x = and_true (nat_lt 0 (left_group a)) (nat_eq (left_group a) (left_group b)) w in
      group_low a b (ltb-true 0 (left_group a) x.0) (eqb-true (left_group a) (left_group b) x.1)
]

-- ---- what may follow

allows_mono : (s t : Tree) (o : Option Infix) → ((op : Infix) → edge_allows s op ≡ true → edge_allows t op ≡ true) → allows s o ≡ true → allows t o ≡ true
allows_mono s t None f h = refl
allows_mono s t (Some op) f h = f op h

pub end_mono : (s t : Tree) (o : Option Token) → ((op : Infix) → edge_allows s op ≡ true → edge_allows t op ≡ true) → may_end s o ≡ true → may_end t o ≡ true
end_mono s t None f h = refl
end_mono s t (Some u) f h =
    let w = and_true (not (is_suffix u.kind)) (allows s (infix_of u.kind)) h in
    let x = allows_mono s t (infix_of u.kind) f w.1 in
    rw (w.0, x) refl

stop_op : (s : Tree) (floor : ℕ) (o : Option Infix) → ((op : Infix) → edge_allows s op ≡ true → low op ≤ floor) → allows s o ≡ true → above floor o ≡ None
stop_op s floor None f h = refl
stop_op s floor (Some op) f h = rw (le-ltb floor (low op) (f op h)) refl

pub stop_by : (s : Tree) (floor : ℕ) (o : Option Token) → ((op : Infix) → edge_allows s op ≡ true → low op ≤ floor) → may_end s o ≡ true → above floor (infix_at o) ≡ None
stop_by s floor None f h = refl
stop_by s floor (Some u) f h =
    let w = and_true (not (is_suffix u.kind)) (allows s (infix_of u.kind)) h in
    stop_op s floor (infix_of u.kind) f w.1

pub not_true : (b : Bool) → not b ≡ true → b ≡ false
not_true true h = cc
not_true false h = refl

no_postfix : (kind : Kind) → is_suffix kind ≡ false → postfix_of kind ≡ None
no_postfix k.Prime h = cc
no_postfix k.LeftBracket h = cc
no_postfix k.Dot h = cc
no_postfix _ h = refl

no_call : (kind : Kind) → is_suffix kind ≡ false → same_kind k.LeftParen kind ≡ false
no_call k.LeftParen h = h
no_call _ h = refl

suffix_no : (s : Tree) (u : Token) → may_end s (Some u) ≡ true → is_suffix u.kind ≡ false
suffix_no s u h = not_true (is_suffix u.kind) (and_true (not (is_suffix u.kind)) (allows s (infix_of u.kind)) h).0

-- no postfix form and no arguments come next
pub end_postfix : (s : Tree) (o : Option Token) → may_end s o ≡ true → postfix_at o ≡ None
end_postfix s None h = refl
end_postfix s (Some u) h = no_postfix u.kind (suffix_no s u h)

pub end_call : (s : Tree) (o : Option Token) → may_end s o ≡ true → kind_at k.LeftParen o ≡ false
end_call s None h = refl
end_call s (Some u) h = no_call u.kind (suffix_no s u h)

pub infix_no_suffix : (kind : Kind) (op : Infix) → infix_of kind ≡ Some op → is_suffix kind ≡ false
infix_no_suffix k.Prime op h = cc
infix_no_suffix k.LeftBracket op h = cc
infix_no_suffix k.Dot op h = cc
infix_no_suffix k.LeftParen op h = cc
infix_no_suffix _ op h = refl

or_false : (s t : Bool) → not (s || t) ≡ true → (s ≡ false) × (t ≡ false)
or_false true t h = absurd (let z : ⊥ = cc in z)
or_false false t h = (refl, not_true t h)

no_op : (t : Tree) (o : Option Infix) → is_some_infix o ≡ false → allows t o ≡ true
no_op t None h = refl
no_op t (Some op) h = absurd (let z : ⊥ = cc in z)

follow_by : (t : Tree) (u : Token) (b : Bool) → not (b && goes_on u.kind) ≡ true → may_end t (if b then Some u else None) ≡ true
follow_by t u false h = refl
follow_by t u true h =
    let w = or_false (is_suffix u.kind) (is_some_infix (infix_of u.kind)) h in
    rw (w.0, no_op t (infix_of u.kind) w.1) refl

-- after a list
pub end_follow : (t : Tree) (column : ℕ) (o : Option Token) → may_follow column o ≡ true → may_end t (right_of column o) ≡ true
end_follow t column None h = refl
end_follow t column (Some u) h = follow_by t u (nat_lt column u.place.column) h

-- before a bullet in its column nothing is seen
pub hidden_bullet : (column : ℕ) (b : Bullet) (o : Option Token) → is_bullet_at column b o ≡ true → right_of column o ≡ None
hidden_bullet column b None h = refl
hidden_bullet column b (Some u) h =
    let w = and_true (nat_eq u.place.column column) (is_bullet b (bullet_of u.kind)) h in
    let e = eqb-true u.place.column column w.0 in
    let l : u.place.column ≤ column = omega (arith, e) in
    rw (le-ltb column u.place.column l) refl

-- before a token that goes on with nothing
pub end_plain : (t : Tree) (ts : List Token) (column at : ℕ) (kind : Kind) → Has ts column kind at → goes_on kind ≡ false → may_end t (seen ts column at) ≡ true
end_plain t ts column at kind h g =
    let w = or_false (is_suffix kind) (is_some_infix (infix_of kind)) (rw g refl) in
    rw (h.1, h.2, w.0, no_op t (infix_of kind) w.1) refl

none_op : (floor : ℕ) (o : Option Infix) → is_some_infix o ≡ false → above floor o ≡ None
none_op floor None h = refl
none_op floor (Some op) h = absurd (let z : ⊥ = cc in z)

pub stops_plain : (ts : List Token) (column floor at : ℕ) (kind : Kind) → Has ts column kind at → goes_on kind ≡ false → above floor (infix_at (seen ts column at)) ≡ None
stops_plain ts column floor at kind h g =
    let w = or_false (is_suffix kind) (is_some_infix (infix_of kind)) (rw g refl) in
    rw (h.1, h.2) (none_op floor (infix_of kind) w.1)

-- before an operator that the tree's right edge allows
pub end_infix : (t : Tree) (ts : List Token) (column at : ℕ) (u : Token) (op : Infix) → seen ts column at ≡ Some u → infix_of u.kind ≡ Some op → edge_allows t op ≡ true → may_end t (seen ts column at) ≡ true
end_infix t ts column at u op h i e = let p = infix_no_suffix u.kind op i in rw (h, p, i, e) refl

pub sees_infix : (ts : List Token) (column floor at : ℕ) (u : Token) (op : Infix) → seen ts column at ≡ Some u → infix_of u.kind ≡ Some op → floor < low op → above floor (infix_at (seen ts column at)) ≡ Some op
sees_infix ts column floor at u op h i f = rw (h, i, lt-ltb floor (low op) f) refl
