-- The first token of an expression.
use Rattle.std.proofs.Common.{◌≡◌, ℕ, ◌+◌, Bool, true, false, ◌⊎◌, inl, inr, List, Some, refl}
use Rattle.tla_lex.specs.SameKind.{same_kind}
use Rattle.tla_lex.proofs.SameKind.{same_is}
use Rattle.tla_lex.specs.declared.token.Token.{Token}
use Rattle.tla_lex.specs.declared.token.Kind.{Kind}
use Rattle.tla_lex.specs.declared.token.Kind.TheVariants as k
use Rattle.tla_grammar.specs.declared.context.Context.{Context}
use Rattle.tla_tree.specs.declared.tree.Infix.{Infix}
use Rattle.tla_tree.specs.declared.tree.Prefix.{Prefix}
use Rattle.tla_tree.specs.declared.tree.Bullet.{Bullet}
use Rattle.tla_tree.specs.declared.tree.Quantifier.{Quantifier}
use Rattle.tla_tree.specs.declared.tree.Constant.{Constant}
use Rattle.tla_tree.specs.declared.tree.Brackets.{Brackets}
use Rattle.tla_tree.specs.declared.tree.Brackets.TheVariants as br
use Rattle.tla_tree.specs.Tree.{Tree, Name, Number, Text, Word, At, Paren, Listing, Call, Prime, Index, Field, Unary, Binary, Quantified, Choose, If, Case, Let, Junction, Filter, Image, Function, FunctionSet, Record, RecordSet, Except, Action, Fair, Product, none, more}
use Rattle.tla_grammar.specs.Operators.{infix_of, prefix_of, bullet_of, quantifier_of, constant_of}
use Rattle.tla_grammar.specs.Tokens.{seen, Has, goes_on}
use Rattle.tla_tree.specs.declared.tree.Step.{Step}
use Rattle.tla_tree.specs.declared.tree.Step.TheVariants as st
use Rattle.tla_tree.specs.declared.tree.Fairness.{Fairness}
use Rattle.tla_tree.specs.declared.tree.Fairness.TheVariants as fa
use Rattle.tla_grammar.specs.Kinds.{kind_at, opening, closing, step_opening, fairness_word}
use Rattle.tla_grammar.specs.Grammar.{Spells}
use Rattle.tla_expressions.proofs.Follow.{infix_no_suffix}

-- kinds of tokens that end something, and begin no expression
abbrev pub never_begins : Kind → Bool
never_begins k.RightBrace = true
never_begins k.RightTuple = true
never_begins k.Other = true
never_begins k.In = true
never_begins _ = false

prefix_begins : (kind : Kind) (op : Prefix) → prefix_of kind ≡ Some op → never_begins kind ≡ false
prefix_begins k.RightBrace op h = cc
prefix_begins k.RightTuple op h = cc
prefix_begins k.Other op h = cc
prefix_begins k.In op h = cc
prefix_begins _ op h = refl

bullet_begins : (kind : Kind) (b : Bullet) → bullet_of kind ≡ Some b → never_begins kind ≡ false
bullet_begins k.RightBrace op h = cc
bullet_begins k.RightTuple op h = cc
bullet_begins k.Other op h = cc
bullet_begins k.In op h = cc
bullet_begins _ op h = refl

quantifier_begins : (kind : Kind) (q : Quantifier) → quantifier_of kind ≡ Some q → never_begins kind ≡ false
quantifier_begins k.RightBrace op h = cc
quantifier_begins k.RightTuple op h = cc
quantifier_begins k.Other op h = cc
quantifier_begins k.In op h = cc
quantifier_begins _ op h = refl

constant_begins : (kind : Kind) (c : Constant) → constant_of kind ≡ Some c → never_begins kind ≡ false
constant_begins k.RightBrace op h = cc
constant_begins k.RightTuple op h = cc
constant_begins k.Other op h = cc
constant_begins k.In op h = cc
constant_begins _ op h = refl

opening_begins : (b : Brackets) → never_begins (opening b) ≡ false
opening_begins br.Set = refl
opening_begins br.Tuple = refl

pub not_closing : (b : Brackets) (kind : Kind) → never_begins kind ≡ false → same_kind (closing b) kind ≡ false
not_closing br.Set k.RightBrace h = cc
not_closing br.Set _ h = refl
not_closing br.Tuple k.RightTuple h = cc
not_closing br.Tuple _ h = refl

pub not_other : (kind : Kind) → never_begins kind ≡ false → same_kind k.Other kind ≡ false
not_other k.Other h = cc
not_other _ h = refl

-- a token of a class is no name, and an operator is no `==`
prefix_no_name : (kind : Kind) (op : Prefix) → prefix_of kind ≡ Some op → same_kind k.Name kind ≡ false
prefix_no_name k.Name op h = cc
prefix_no_name _ op h = refl

bullet_no_name : (kind : Kind) (b : Bullet) → bullet_of kind ≡ Some b → same_kind k.Name kind ≡ false
bullet_no_name k.Name op h = cc
bullet_no_name _ op h = refl

quantifier_no_name : (kind : Kind) (q : Quantifier) → quantifier_of kind ≡ Some q → same_kind k.Name kind ≡ false
quantifier_no_name k.Name op h = cc
quantifier_no_name _ op h = refl

constant_no_name : (kind : Kind) (c : Constant) → constant_of kind ≡ Some c → same_kind k.Name kind ≡ false
constant_no_name k.Name op h = cc
constant_no_name _ op h = refl

opening_no_name : (b : Brackets) → same_kind k.Name (opening b) ≡ false
opening_no_name br.Set = refl
opening_no_name br.Tuple = refl

step_no_name : (g : Step) → same_kind k.Name (step_opening g) ≡ false
step_no_name st.Box = refl
step_no_name st.Angle = refl

fairness_no_name : (f : Fairness) → same_kind k.Name (fairness_word f) ≡ false
fairness_no_name fa.Weak = refl
fairness_no_name fa.Strong = refl

step_begins : (g : Step) → never_begins (step_opening g) ≡ false
step_begins st.Box = refl
step_begins st.Angle = refl

fairness_begins : (f : Fairness) → never_begins (fairness_word f) ≡ false
fairness_begins fa.Weak = refl
fairness_begins fa.Strong = refl

-- a token that goes on with an expression is no mark that doesn't
no_mark_by : (mark kind : Kind) → goes_on mark ≡ false → goes_on kind ≡ true → (b : Bool) → same_kind mark kind ≡ b → same_kind mark kind ≡ false
no_mark_by mark kind p g true e = absurd (let i = same_is mark kind e in let h : goes_on mark ≡ true = rw (← i) g in let z : ⊥ = cc in z)
no_mark_by mark kind p g false e = e

no_mark : (mark kind : Kind) → goes_on mark ≡ false → goes_on kind ≡ true → same_kind mark kind ≡ false
no_mark mark kind p g = no_mark_by mark kind p g (same_kind mark kind) refl

infix_goes : (kind : Kind) (op : Infix) → infix_of kind ≡ Some op → goes_on kind ≡ true
infix_goes kind op h = let n = infix_no_suffix kind op h in rw (n, h) refl

module _ (text : List ℕ) (ts : List Token) where
  abbrev Begins : Context → ℕ → Type 0
  Begins s at = (t : Token) × (seen ts s.column at ≡ Some t) × (never_begins t.kind ≡ false)

  pub first_token : (t : Tree) (s : Context) (from to : ℕ) → Spells text ts s t from to → Begins s from
  first_token (Name w) s from to x = (x.0.0, x.0.1, rw x.0.2 refl)
  first_token (Number p n) s from to x = (x.0.0, x.0.1, rw x.0.2 refl)
  first_token (Text p y) s from to x = (x.0, x.1, rw x.2 refl)
  first_token (Word p c) s from to x = (x.1.0, x.1.1, rw x.1.2 (constant_begins x.0 c x.2))
  first_token (At p) s from to x = (x.0.0, x.0.1, rw x.0.2 refl)
  first_token (Paren p e) s from to x = (x.1.0, x.1.1, rw x.1.2 refl)
  first_token (Listing p b es) s from to x = (x.0.0, x.0.1, rw x.0.2 (opening_begins b))
  first_token (Call w es) s from to x = (x.0.0, x.0.1, rw x.0.2 refl)
  first_token (Prime p e) s from to x = first_token e s from x.0 x.1
  first_token (Index p e es) s from to x = first_token e s from x.0 x.1
  first_token (Field p e w) s from to x = first_token e s from x.0 x.1
  first_token (Unary p op e) s from to x = (x.1.0, x.1.1, rw x.1.2 (prefix_begins x.0 op x.2))
  first_token (Binary p op w l r) s from to x = first_token l s from x.0 x.2
  first_token (Quantified p q bs e) s from to x = (x.2.0, x.2.1, rw x.2.2 (quantifier_begins x.1 q x.3))
  first_token (Choose p w b e) s from to x = (x.1.0, x.1.1, rw x.1.2 refl)
  first_token (If p a b e) s from to x = (x.2.0, x.2.1, rw x.2.2 refl)
  first_token (Case p cs o) s from to x = (x.1.0, x.1.1, rw x.1.2 refl)
  first_token (Let p ds e) s from to x = (x.1.0, x.1.1, rw x.1.2 refl)
  first_token (Junction p b es) s from to x = (x.1.0, x.1.1, rw x.1.2 (bullet_begins x.0 b x.2))
  first_token (Filter p w b e) s from to x = (x.2.0, x.2.1, rw x.2.2 refl)
  first_token (Image p e bs) s from to x = (x.2.0, x.2.1, rw x.2.2 refl)
  first_token (Function p bs e) s from to x = (x.2.0, x.2.1, rw x.2.2 refl)
  first_token (FunctionSet p a b) s from to x = (x.2.0, x.2.1, rw x.2.2 refl)
  first_token (Record p fs) s from to x = (x.1.0, x.1.1, rw x.1.2 refl)
  first_token (RecordSet p fs) s from to x = (x.1.0, x.1.1, rw x.1.2 refl)
  first_token (Except p f us) s from to x = (x.2.0, x.2.1, rw x.2.2 refl)
  first_token (Action p g a v) s from to x = (x.1.0, x.1.1, rw x.1.2 (step_begins g))
  first_token (Fair p f v a) s from to x = (x.2.0, x.2.1, rw x.2.2 (fairness_begins f))
  first_token (Product p e es) s from to x = first_token e s from x.0 x.1

  -- it begins with no name, or no such mark is its second token, or it is one token
  module _ (mark : Kind) (plain : goes_on mark ≡ false) where
    abbrev Second : Context → ℕ → ℕ → Type 0
    Second s from to = (kind_at k.Name (seen ts s.column from) ≡ false) ⊎ ((kind_at mark (seen ts s.column (from + 1)) ≡ false) ⊎ (to ≡ from + 1))

    longer : (s : Context) (from mid to : ℕ) (kind : Kind) → same_kind mark kind ≡ false → Second s from mid → Has ts s.column kind mid → Second s from to
    longer s from mid to kind p x h = elim x [
      | inl a ↦ inl a
      | inr a ↦ (elim a [
        | inl b ↦ inr (inl b)
        | inr e ↦ (let h' : Has ts s.column kind (from + 1) = rw (← e) h in inr (inl (rw (h'.1, h'.2, p) refl)))
      ])
    ]

    pub second_token : (t : Tree) (s : Context) (from to : ℕ) → Spells text ts s t from to → Second s from to
    second_token (Name w) s from to x = inr (inr x.1)
    second_token (Number p n) s from to x = inl (rw (x.0.1, x.0.2) refl)
    second_token (Text p y) s from to x = inl (rw (x.1, x.2) refl)
    second_token (Word p c) s from to x = inl (let n = constant_no_name x.0 c x.2 in rw (x.1.1, x.1.2, n) refl)
    second_token (At p) s from to x = inl (rw (x.0.1, x.0.2) refl)
    second_token (Paren p e) s from to x = inl (rw (x.1.1, x.1.2) refl)
    second_token (Listing p b es) s from to x = inl (let n = opening_no_name b in rw (x.0.1, x.0.2, n) refl)
    second_token (Call w es) s from to x = inr (inl (let n = no_mark mark k.LeftParen plain refl in rw (x.1.1, x.1.2, n) refl))
    second_token (Prime p e) s from to x = longer s from x.0 to k.Prime (no_mark mark k.Prime plain refl) (second_token e s from x.0 x.1) x.2
    second_token (Index p e es) s from to x = longer s from x.0 to k.LeftBracket (no_mark mark k.LeftBracket plain refl) (second_token e s from x.0 x.1) x.2
    second_token (Field p e w) s from to x = longer s from x.0 to k.Dot (no_mark mark k.Dot plain refl) (second_token e s from x.0 x.1) x.2
    second_token (Unary p op e) s from to x = inl (let n = prefix_no_name x.0 op x.2 in rw (x.1.1, x.1.2, n) refl)
    second_token (Binary p op w l r) s from to x = longer s from x.0 to x.1 (no_mark mark x.1 plain (infix_goes x.1 op x.4)) (second_token l s from x.0 x.2) (x.3.0, x.3.1, x.3.2)
    second_token (Quantified p q bs e) s from to x = inl (let n = quantifier_no_name x.1 q x.3 in rw (x.2.1, x.2.2, n) refl)
    second_token (Choose p w b e) s from to x = inl (rw (x.1.1, x.1.2) refl)
    second_token (If p a b e) s from to x = inl (rw (x.2.1, x.2.2) refl)
    second_token (Case p cs o) s from to x = inl (rw (x.1.1, x.1.2) refl)
    second_token (Let p ds e) s from to x = inl (rw (x.1.1, x.1.2) refl)
    second_token (Junction p b es) s from to x = inl (let n = bullet_no_name x.0 b x.2 in rw (x.1.1, x.1.2, n) refl)
    second_token (Filter p w b e) s from to x = inl (rw (x.2.1, x.2.2) refl)
    second_token (Image p e bs) s from to x = inl (rw (x.2.1, x.2.2) refl)
    second_token (Function p bs e) s from to x = inl (rw (x.2.1, x.2.2) refl)
    second_token (FunctionSet p a b) s from to x = inl (rw (x.2.1, x.2.2) refl)
    second_token (Record p fs) s from to x = inl (rw (x.1.1, x.1.2) refl)
    second_token (RecordSet p fs) s from to x = inl (rw (x.1.1, x.1.2) refl)
    second_token (Except p f us) s from to x = inl (rw (x.2.1, x.2.2) refl)
    second_token (Action p g a v) s from to x = inl (let n = step_no_name g in rw (x.1.1, x.1.2, n) refl)
    second_token (Fair p f v a) s from to x = inl (let n = fairness_no_name f in rw (x.2.1, x.2.2, n) refl)
    second_token (Product p e none) s from to x = absurd (let v = x.4 in let z : ⊥ = cc in z)
    second_token (Product p e (more f fs)) s from to x = longer s from x.0 to k.Product (no_mark mark k.Product plain refl) (second_token e s from x.0 x.1) x.2.1
