-- The roles of kinds of tokens.
use Rattle.std.proofs.Common.{◌≡◌, ℕ, zero, suc, ◌+◌, true, nat_eq, List, [], ◌∷◌, Option, Some, None, drop, slice_get, length, ◌≤◌, refl, ap, add-one}
use Rattle.tla_lex.specs.declared.token.Token.{Token}
use Rattle.tla_lex.specs.declared.token.Kind.{Kind}
use Rattle.tla_lex.specs.declared.token.Kind.TheVariants as k
use Rattle.tla_grammar.specs.declared.ahead.Role.TheVariants as role
use Rattle.tla_tree.specs.declared.tree.Infix.{Infix}
use Rattle.tla_tree.specs.declared.tree.Prefix.{Prefix}
use Rattle.tla_tree.specs.declared.tree.Bullet.{Bullet}
use Rattle.tla_tree.specs.declared.tree.Quantifier.{Quantifier}
use Rattle.tla_tree.specs.declared.tree.Constant.{Constant}
use Rattle.tla_tree.specs.declared.tree.Brackets.{Brackets}
use Rattle.tla_tree.specs.declared.tree.Brackets.TheVariants as br
use Rattle.tla_tree.specs.declared.tree.Step.{Step}
use Rattle.tla_tree.specs.declared.tree.Step.TheVariants as st
use Rattle.tla_tree.specs.declared.tree.Fairness.{Fairness}
use Rattle.tla_tree.specs.declared.tree.Fairness.TheVariants as fa
use Rattle.tla_grammar.specs.Operators.{infix_of, prefix_of, bullet_of, quantifier_of, constant_of}
use Rattle.tla_grammar.specs.Tokens.{is_bullet, is_bullet_at}
use Rattle.tla_grammar.specs.Kinds.{opening, closing, step_opening, step_closing, fairness_word, role_of}
use Rattle.std.proofs.Math.ListN.{drop_of_length-le}
use Rattle.tla_grammar.specs.Ahead.{behind, ending}
use Rattle.tla_grammar.proofs.Inversion.{and_true}

pub infix_role : (kind : Kind) (op : Infix) → infix_of kind ≡ Some op → role_of kind ≡ role.Plain
infix_role k.LeftParen op h = cc
infix_role k.LeftBracket op h = cc
infix_role k.LeftBrace op h = cc
infix_role k.LeftTuple op h = cc
infix_role k.RightParen op h = cc
infix_role k.RightBracket op h = cc
infix_role k.RightBracketSubscript op h = cc
infix_role k.RightBrace op h = cc
infix_role k.RightTuple op h = cc
infix_role k.RightTupleSubscript op h = cc
infix_role k.ForAll op h = cc
infix_role k.Exists op h = cc
infix_role k.Choose op h = cc
infix_role k.Colon op h = cc
infix_role k.Comma op h = cc
infix_role k.MapsTo op h = cc
infix_role k.Except op h = cc
infix_role _ op h = refl

pub prefix_role : (kind : Kind) (op : Prefix) → prefix_of kind ≡ Some op → role_of kind ≡ role.Plain
prefix_role k.Not op h = refl
prefix_role k.Minus op h = refl
prefix_role k.Box op h = refl
prefix_role k.Diamond op h = refl
prefix_role k.Unchanged op h = refl
prefix_role k.Subset op h = refl
prefix_role k.Union op h = refl
prefix_role k.Domain op h = refl
prefix_role _ op h = absurd (let z : ⊥ = cc in z)

pub bullet_role : (kind : Kind) (b : Bullet) → bullet_of kind ≡ Some b → role_of kind ≡ role.Plain
bullet_role k.And b h = refl
bullet_role k.Or b h = refl
bullet_role _ b h = absurd (let z : ⊥ = cc in z)

pub quantifier_role : (kind : Kind) (q : Quantifier) → quantifier_of kind ≡ Some q → role_of kind ≡ role.Binds
quantifier_role k.ForAll q h = refl
quantifier_role k.Exists q h = refl
quantifier_role _ q h = absurd (let z : ⊥ = cc in z)

pub constant_role : (kind : Kind) (c : Constant) → constant_of kind ≡ Some c → role_of kind ≡ role.Plain
constant_role k.True c h = refl
constant_role k.False c h = refl
constant_role k.Boolean c h = refl
constant_role k.String c h = refl
constant_role _ c h = absurd (let z : ⊥ = cc in z)

pub opening_role : (b : Brackets) → role_of (opening b) ≡ role.Opens
opening_role br.Set = refl
opening_role br.Tuple = refl

pub closing_role : (b : Brackets) → role_of (closing b) ≡ role.Closes
closing_role br.Set = refl
closing_role br.Tuple = refl

pub step_opens : (g : Step) → role_of (step_opening g) ≡ role.Opens
step_opens st.Box = refl
step_opens st.Angle = refl

pub step_closes : (g : Step) → role_of (step_closing g) ≡ role.Closes
step_closes st.Box = refl
step_closes st.Angle = refl

pub fairness_role : (f : Fairness) → role_of (fairness_word f) ≡ role.Plain
fairness_role fa.Weak = refl
fairness_role fa.Strong = refl

-- a bullet's token
some_bullet : (b : Bullet) (kind : Kind) (o : Option Bullet) → bullet_of kind ≡ o → is_bullet b o ≡ true → role_of kind ≡ role.Plain
some_bullet b kind None e h = absurd (let z : ⊥ = cc in z)
some_bullet b kind (Some c) e h = bullet_role kind c e

bullet_by : (ts : List Token) (column : ℕ) (b : Bullet) (at : ℕ) (o : Option Token) → slice_get ts at ≡ o → is_bullet_at column b o ≡ true → (t : Token) × (slice_get ts at ≡ Some t) × (role_of t.kind ≡ role.Plain)
bullet_by ts column b at None e h = absurd (let z : ⊥ = cc in z)
bullet_by ts column b at (Some t) e h =
    let w = and_true (nat_eq t.place.column column) (is_bullet b (bullet_of t.kind)) h in
    (t, e, some_bullet b t.kind (bullet_of t.kind) refl w.1)

pub bullet_token : (ts : List Token) (column : ℕ) (b : Bullet) (at : ℕ) → is_bullet_at column b (slice_get ts at) ≡ true → (t : Token) × (slice_get ts at ≡ Some t) × (role_of t.kind ≡ role.Plain)
bullet_token ts column b at h = bullet_by ts column b at (slice_get ts at) refl h

pub drop_get : (ts : List Token) (at : ℕ) (t : Token) → slice_get ts at ≡ Some t → drop at ts ≡ t ∷ drop (at + 1) ts
drop_get [] at t h = absurd (let z : ⊥ = cc in z)
drop_get (u ∷ ts) zero t h = let e : u ≡ t = cc in ap (λ v. v ∷ ts) e
drop_get (u ∷ ts) (suc at) t h = rw add-one (let r = drop_get ts at t h in rw r (rw add-one refl))

-- ---- the search for the end of a part

pub ending_more : (ts : List Token) (at d b e c : ℕ) (t : Token) → slice_get ts at ≡ Some t → behind d b (role_of t.kind) ≡ Some (e, c) → ending d b (drop at ts) ≡ ending e c (drop (at + 1) ts)
unfolding ending
ending_more ts at d b e c t i h = rw (drop_get ts at t i, h) refl

pub ending_stop : (ts : List Token) (at d b : ℕ) (t : Token) → slice_get ts at ≡ Some t → behind d b (role_of t.kind) ≡ None → ending d b (drop at ts) ≡ Some t
unfolding ending
ending_stop ts at d b t i h = rw (drop_get ts at t i, h) refl

pub ending_past : (ts : List Token) (at d b : ℕ) → length ts ≤ at → ending d b (drop at ts) ≡ None
unfolding ending
ending_past ts at d b h = rw (drop_of_length-le ts h) refl
