-- Which forms begin with which kinds of token.
use Rattle.std.proofs.Common.{◌≡◌, ℕ, List, Some, None, refl}
use Rattle.tla_lex.specs.declared.token.Token.{Token}
use Rattle.tla_lex.specs.declared.token.Kind.{Kind}
use Rattle.tla_lex.specs.declared.token.Kind.TheVariants as k
use Rattle.tla_grammar.specs.declared.context.Context.{Context}
use Rattle.tla_tree.specs.declared.tree.Prefix.{Prefix}
use Rattle.tla_tree.specs.declared.tree.Bullet.{Bullet}
use Rattle.tla_tree.specs.declared.tree.Quantifier.{Quantifier}
use Rattle.tla_tree.specs.declared.tree.Constant.{Constant}
use Rattle.tla_tree.specs.Tree.{Tree}
use Rattle.tla_grammar.specs.Operators.{prefix_of, bullet_of, quantifier_of, constant_of}
use Rattle.tla_grammar.specs.Outcome.{Outcome}
use Rattle.tla_expressions.specs.Reading.{by_class, operand_by}

module _ (text : List ℕ) (ts : List Token) (inner : Context → ℕ → ℕ → Outcome Tree) (most : ℕ) (s : Context) (t : Token) (at : ℕ) where
  abbrev ByClass : Kind → Type 0
  ByClass kind = operand_by text ts inner most s t at kind ≡ by_class text ts inner most s t at

  pub prefix_class : (kind : Kind) (op : Prefix) → prefix_of kind ≡ Some op → ByClass kind × (bullet_of kind ≡ None)
  prefix_class k.Not op h = (refl, refl)
  prefix_class k.Minus op h = (refl, refl)
  prefix_class k.Box op h = (refl, refl)
  prefix_class k.Diamond op h = (refl, refl)
  prefix_class k.Unchanged op h = (refl, refl)
  prefix_class k.Subset op h = (refl, refl)
  prefix_class k.Union op h = (refl, refl)
  prefix_class k.Domain op h = (refl, refl)
  prefix_class _ op h = absurd (let z : ⊥ = cc in z)

  pub bullet_class : (kind : Kind) (b : Bullet) → bullet_of kind ≡ Some b → ByClass kind
  bullet_class k.And b h = refl
  bullet_class k.Or b h = refl
  bullet_class _ b h = absurd (let z : ⊥ = cc in z)

  pub quantifier_class : (kind : Kind) (q : Quantifier) → quantifier_of kind ≡ Some q → ByClass kind × (bullet_of kind ≡ None) × (prefix_of kind ≡ None)
  quantifier_class k.ForAll q h = (refl, refl, refl)
  quantifier_class k.Exists q h = (refl, refl, refl)
  quantifier_class _ q h = absurd (let z : ⊥ = cc in z)

  pub constant_class : (kind : Kind) (c : Constant) → constant_of kind ≡ Some c → ByClass kind × (bullet_of kind ≡ None) × (prefix_of kind ≡ None) × (quantifier_of kind ≡ None)
  constant_class k.True c h = (refl, refl, refl, refl)
  constant_class k.False c h = (refl, refl, refl, refl)
  constant_class k.Boolean c h = (refl, refl, refl, refl)
  constant_class k.String c h = (refl, refl, refl, refl)
  constant_class _ c h = absurd (let z : ⊥ = cc in z)
