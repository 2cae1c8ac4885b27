-- The lists of the grammar, as sequences of what is read.
use Rattle.std.proofs.Common.{◌≡◌, ℕ, ◌+◌, ◌≤◌, true, false, inl, inr, not, ◌&&◌, ◌||◌, slice_get, length, List, [], ◌∷◌, Some, None, refl, ap, arith}
use Rattle.tla_lex.specs.declared.token.Token.{Token}
use Rattle.tla_lex.specs.declared.token.Kind.{Kind}
use Rattle.tla_lex.specs.declared.token.Kind.TheVariants as k
use Rattle.tla_grammar.specs.declared.context.Context.{Context}
use Rattle.tla_grammar.specs.declared.tokens.Between.{Between}
use Rattle.tla_grammar.specs.declared.tokens.Between.TheVariants as between
use Rattle.tla_tree.specs.declared.tree.Bullet.{Bullet}
use Rattle.tla_tree.specs.Tree.{Tree, Trees, Binders, Arms, Definition, Definitions, Group, Choice, trees, binders, arms, definitions, none, more, unbound, bound, no_arms, arm, undefined, defined}
use Rattle.tla_grammar.specs.Tokens.{seen, is_bullet_at, Has}
use Rattle.tla_grammar.specs.Entries.{Entry}
use Rattle.tla_grammar.specs.Kinds.{kind_at}
use Rattle.tla_grammar.specs.Grammar.{Spells, Items, Listed, Others, Bound, MoreBound, Chosen, MoreChosen, Defines, Defined, is_some, is_defined}
use Rattle.tla_grammar.specs.Marks.{following}
use Rattle.tla_grammar.proofs.Inversion.{choice_ok, has_kind, and_true}
use Rattle.tla_expressions.proofs.NameLists.{seen_within}
use Rattle.tla_expressions.proofs.Sequence.{Behind, Follows}

abbrev pub list : Trees → List Tree
list none = []
list (more e es) = e ∷ list es

pub trees_list : (es : Trees) → trees (list es) ≡ es
trees_list none = refl
trees_list (more e es) = ap (λ x. more e x) (trees_list es)

abbrev pub group_list : Binders → List Group
group_list unbound = []
group_list (bound w e bs) = (w, e) ∷ group_list bs

pub binders_list : (bs : Binders) → binders (group_list bs) ≡ bs
binders_list unbound = refl
binders_list (bound w e bs) = ap (λ x. bound w e x) (binders_list bs)

abbrev pub arm_list : Arms → List Choice
arm_list no_arms = []
arm_list (arm g e cs) = (g, e) ∷ arm_list cs

pub arms_list : (cs : Arms) → arms (arm_list cs) ≡ cs
arms_list no_arms = refl
arms_list (arm g e cs) = ap (λ x. arm g e x) (arms_list cs)

abbrev pub definition_list : Definitions → List Definition
definition_list undefined = []
definition_list (defined d ds) = d ∷ definition_list ds

pub definitions_list : (ds : Definitions) → definitions (definition_list ds) ≡ ds
definitions_list undefined = refl
definitions_list (defined d ds) = ap (λ x. defined d x) (definitions_list ds)

module _ (text : List ℕ) (ts : List Token) where
  -- a comma or a bullet, and the token after it
  pub comma_is : (column at start : ℕ) → following ts column between.Comma at ≡ Some start → Has ts column k.Comma at × (start ≡ at + 1)
  comma_is column at start h = elim (choice_ok (kind_at k.Comma (seen ts column at)) (Some (at + 1)) None (Some start) h) [
    | inl w ↦ (let e : start ≡ at + 1 = cc in (has_kind ts column at k.Comma w.0, e))
    | inr w ↦ absurd (let z : ⊥ = cc in z)
  ]

  pub comma_within : (column at start : ℕ) → following ts column between.Comma at ≡ Some start → start ≤ length ts
  comma_within column at start h =
      let w = comma_is column at start h in
      let l = seen_within text ts column at w.0.0 w.0.1 in
      let e = w.1 in omega (arith, l, e)

  pub comma_here : (column at : ℕ) → Has ts column k.Comma at → following ts column between.Comma at ≡ Some (at + 1)
  comma_here column at h = rw (h.1, h.2) refl

  pub bullet_is : (column : ℕ) (b : Bullet) (at start : ℕ) → following ts column (between.Bullet b) at ≡ Some start → (is_bullet_at column b (slice_get ts at) ≡ true) × (start ≡ at + 1)
  bullet_is column b at start h = elim (choice_ok (is_bullet_at column b (slice_get ts at)) (Some (at + 1)) None (Some start) h) [
    | inl w ↦ (let e : start ≡ at + 1 = cc in (w.0, e))
    | inr w ↦ absurd (let z : ⊥ = cc in z)
  ]

  pub no_bullet : (column : ℕ) (b : Bullet) (at : ℕ) → following ts column (between.Bullet b) at ≡ None → is_bullet_at column b (slice_get ts at) ≡ false
  no_bullet column b at h = elim (choice_ok (is_bullet_at column b (slice_get ts at)) (Some (at + 1)) None None h) [ inl w ↦ absurd (let z : ⊥ = cc in z) | inr w ↦ w.0 ]

  -- `[]`, and no OTHER after it
  pub arm_is : (column at start : ℕ) → following ts column between.Arm at ≡ Some start → Has ts column k.Box at × (start ≡ at + 1)
  arm_is column at start h = elim (choice_ok (kind_at k.Box (seen ts column at) && not (kind_at k.Other (seen ts column (at + 1)))) (Some (at + 1)) None (Some start) h) [
    | inl w ↦ (let e : start ≡ at + 1 = cc in (has_kind ts column at k.Box (and_true (kind_at k.Box (seen ts column at)) (not (kind_at k.Other (seen ts column (at + 1)))) w.0).0, e))
    | inr w ↦ absurd (let z : ⊥ = cc in z)
  ]

  -- a name, where a definition begins
  pub name_here : (column at start : ℕ) → following ts column between.Nothing at ≡ Some start → start ≡ at
  name_here column at start h = elim (choice_ok (kind_at k.Name (seen ts column at)) (Some at) None (Some start) h) [
    | inl w ↦ cc
    | inr w ↦ absurd (let z : ⊥ = cc in z)
  ]

  -- `[` or `.`, where a step of a path begins
  pub key_here : (column at start : ℕ) → following ts column between.Key at ≡ Some start → start ≡ at
  key_here column at start h = elim (choice_ok (kind_at k.LeftBracket (seen ts column at) || kind_at k.Dot (seen ts column at)) (Some at) None (Some start) h) [
    | inl w ↦ cc
    | inr w ↦ absurd (let z : ⊥ = cc in z)
  ]

  -- `\X`, and the token after it
  pub product_is : (column at start : ℕ) → following ts column between.Product at ≡ Some start → Has ts column k.Product at × (start ≡ at + 1)
  product_is column at start h = elim (choice_ok (kind_at k.Product (seen ts column at)) (Some (at + 1)) None (Some start) h) [
    | inl w ↦ (let e : start ≡ at + 1 = cc in (has_kind ts column at k.Product w.0, e))
    | inr w ↦ absurd (let z : ⊥ = cc in z)
  ]

  pub rises : (column : ℕ) (m : Between) (from start : ℕ) → following ts column m from ≡ Some start → from ≤ start
  rises column between.Comma from start h = let w = comma_is column from start h in omega (arith, w)
  rises column (between.Bullet b) from start h = let w = bullet_is column b from start h in omega (arith, w)
  rises column between.Arm from start h = let w = arm_is column from start h in omega (arith, w)
  rises column between.Key from start h = let w = key_here column from start h in omega (arith, w)
  rises column between.Product from start h = let w = product_is column from start h in omega (arith, w)
  rises column between.Nothing from start h = let w = name_here column from start h in omega (arith, w)

  -- ---- from what was read

  abbrev pub Spelled : Context → Tree → ℕ → ℕ → Type 0
  Spelled s e from to = Spells text ts s e from to

  abbrev pub GroupAt : Context → Group → ℕ → ℕ → Type 0
  GroupAt s g from to = Entry text ts s.column g.0 (Spells text ts s g.1) from to

  pub others_of : (xs : List Tree) (s : Context) (close : Kind) (from to : ℕ) → Behind (Spelled s) (following ts s.column between.Comma) xs from to → Has ts s.column close to
      → Others text ts s close (trees xs) from (to + 1)
  others_of [] s close from to x h = rw (← x.1) (h, refl)
  others_of (e ∷ es) s close from to x h =
      let c = comma_is s.column from x.0 x.2 in
      (x.1, c.0, rw (← c.1) x.3, others_of es s close x.1 to x.4 h)

  pub listed_of : (xs : List Tree) (s : Context) (close : Kind) (from to : ℕ) → Follows (Spelled s) (following ts s.column between.Comma) xs from to → Has ts s.column close to
      → Listed text ts s close (trees xs) from (to + 1) × (is_some (trees xs) ≡ true)
  listed_of [] s close from to x h = absurd x
  listed_of (e ∷ es) s close from to x h = ((x.0, x.1, others_of es s close x.0 to x.2 h), refl)

  pub more_bound_of : (gs : List Group) (s : Context) (from to : ℕ) → Behind (GroupAt s) (following ts s.column between.Comma) gs from to → MoreBound text ts s (binders gs) from to
  more_bound_of [] s from to x = x.1
  more_bound_of (g ∷ gs) s from to x =
      let c = comma_is s.column from x.0 x.2 in
      (x.1, c.0, rw (← c.1) x.3, more_bound_of gs s x.1 to x.4)

  pub bound_of : (gs : List Group) (s : Context) (from to : ℕ) → Follows (GroupAt s) (following ts s.column between.Comma) gs from to → Bound text ts s (binders gs) from to
  bound_of [] s from to x = absurd x
  bound_of (g ∷ gs) s from to x = (x.0, x.1, more_bound_of gs s x.0 to x.2)

  items_behind : (xs : List Tree) (s : Context) (b : Bullet) (from to : ℕ) → Behind (Spelled s) (following ts s.column (between.Bullet b)) xs from to
      → Items text ts s b (trees xs) from to × (is_bullet_at s.column b (slice_get ts to) ≡ false)
  items_behind [] s b from to x = (x.1, rw x.1 (no_bullet s.column b from x.0))
  items_behind (e ∷ es) s b from to x =
      let c = bullet_is s.column b from x.0 x.2 in
      let r = items_behind es s b x.1 to x.4 in
      ((x.1, c.0, rw (← c.1) x.3, r.0), r.1)

  pub items_of : (xs : List Tree) (s : Context) (b : Bullet) (at to : ℕ) → is_bullet_at s.column b (slice_get ts at) ≡ true
      → Follows (Spelled s) (following ts s.column (between.Bullet b)) xs (at + 1) to → Items text ts s b (trees xs) at to × (is_bullet_at s.column b (slice_get ts to) ≡ false)
  items_of [] s b at to i x = absurd x
  items_of (e ∷ es) s b at to i x = let r = items_behind es s b x.0 to x.2 in ((x.0, i, x.1, r.0), r.1)

  abbrev pub ArmAt : Context → Choice → ℕ → ℕ → Type 0
  ArmAt s c from to = (m : ℕ) × Spells text ts s c.0 from m × Has ts s.column k.Arrow m × Spells text ts s c.1 (m + 1) to

  abbrev pub DefinesAt : Context → Definition → ℕ → ℕ → Type 0
  DefinesAt s d from to = Defines text ts s d from to

  more_chosen_of : (cs : List Choice) (s : Context) (from to : ℕ) → Behind (ArmAt s) (following ts s.column between.Arm) cs from to → MoreChosen text ts s (arms cs) from to × (following ts s.column between.Arm to ≡ None)
  more_chosen_of [] s from to x = (x.1, rw x.1 x.0)
  more_chosen_of (c ∷ cs) s from to x =
      let b = arm_is s.column from x.0 x.2 in
      let r = more_chosen_of cs s x.1 to x.4 in
      ((x.3.0, x.1, b.0, rw (← b.1) x.3.1, x.3.2, x.3.3, r.0), r.1)

  pub chosen_of : (cs : List Choice) (s : Context) (from to : ℕ) → Follows (ArmAt s) (following ts s.column between.Arm) cs from to → Chosen text ts s (arms cs) from to × (following ts s.column between.Arm to ≡ None)
  chosen_of [] s from to x = absurd x
  chosen_of (c ∷ cs) s from to x = let r = more_chosen_of cs s x.0 to x.2 in ((x.1.0, x.0, x.1.1, x.1.2, x.1.3, r.0), r.1)

  more_defined_of : (ds : List Definition) (s : Context) (from to : ℕ) → Behind (DefinesAt s) (following ts s.column between.Nothing) ds from to → Defined text ts s (definitions ds) from to
  more_defined_of [] s from to x = x.1
  more_defined_of (d ∷ ds) s from to x =
      let e = name_here s.column from x.0 x.2 in
      (x.1, rw (← e) x.3, more_defined_of ds s x.1 to x.4)

  pub defined_of : (ds : List Definition) (s : Context) (from to : ℕ) → Follows (DefinesAt s) (following ts s.column between.Nothing) ds from to → Defined text ts s (definitions ds) from to × (is_defined (definitions ds) ≡ true)
  defined_of [] s from to x = absurd x
  defined_of (d ∷ ds) s from to x = ((x.0, x.1, more_defined_of ds s x.0 to x.2), refl)
