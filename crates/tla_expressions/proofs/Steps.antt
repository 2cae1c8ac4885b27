-- How the readings of operators and postfix forms go on, and stop.
use Rattle.std.proofs.Common.{◌≡◌, ℕ, zero, suc, ◌+◌, ◌<◌, max, true, slice_get, length, map, List, [], ◌∷◌, ◌++◌, Option, Some, None, Ok, Err, refl, ap, sym, ◌∙◌, arith, add-one, subst}
use Rattle.std.proofs.lemmas.Option.{slice_get_within}
use Rattle.tla_lex.specs.declared.token.Token.{Token}
use Rattle.tla_grammar.specs.declared.context.Context.{Context}
use Rattle.tla_grammar.specs.declared.tokens.Postfix.{Postfix}
use Rattle.tla_grammar.specs.declared.refusal.Refusal.{Refusal}
use Rattle.tla_tree.specs.declared.tree.Infix.{Infix}
use Rattle.tla_tree.specs.declared.tree.Bullet.{Bullet}
use Rattle.tla_tree.specs.Tree.{Tree, Group, Choice, Definition, trees, binders, arms, definitions}
use Rattle.tla_grammar.specs.Edges.{depth, depths, bound_depth, arms_depth, definition_depth, definitions_depth}
use Rattle.tla_grammar.specs.Tokens.{seen, is_bullet_at}
use Rattle.tla_grammar.specs.Ending.{above, infix_at}
use Rattle.tla_grammar.specs.Outcome.{Outcome, Nested, ◌>>=◌}
use Rattle.tla_grammar.specs.Marks.{postfix_at}
use Rattle.tla_expressions.specs.Reading.{behind, postfix, climb, turn}
use Rattle.tla_grammar.specs.Refusals.{Fails}
use Rattle.tla_grammar.proofs.Fails.{fails_bind}

module _ (text : List ℕ) (ts : List Token) (inner : Context → ℕ → ℕ → Outcome Tree) where
  pub postfix_done : (n most : ℕ) (s : Context) (t : Tree) (at : ℕ) → postfix_at (seen ts s.column at) ≡ None → postfix text ts inner n most s t at ≡ Ok (t, at)
  unfolding postfix
  postfix_done zero most s t at p = rw p refl
  postfix_done (suc n) most s t at p = rw p refl

  pub postfix_is : (n m most : ℕ) (s : Context) (t : Tree) (at : ℕ) (u : Postfix) → n ≡ m + 1 → postfix_at (seen ts s.column at) ≡ Some u
      → postfix text ts inner n most s t at ≡ (behind text ts inner most s t u at >>= postfix text ts inner m most s)
  unfolding postfix
  postfix_is n m most s t at u h p = rw (h, add-one, p) refl

  pub postfix_more : (n m most : ℕ) (s : Context) (t : Tree) (at : ℕ) (u : Postfix) (r : Tree) (after : ℕ) → n ≡ m + 1
      → postfix_at (seen ts s.column at) ≡ Some u → behind text ts inner most s t u at ≡ Ok (r, after)
      → postfix text ts inner n most s t at ≡ postfix text ts inner m most s r after
  postfix_more n m most s t at u r after h p q = postfix_is n m most s t at u h p ∙ ap (λ x. x >>= postfix text ts inner m most s) q

  pub postfix_full : (n most : ℕ) (s : Context) (t : Tree) (at : ℕ) (u : Postfix) → n ≡ 0 → postfix_at (seen ts s.column at) ≡ Some u → postfix text ts inner n most s t at ≡ Err Nested
  unfolding postfix
  postfix_full n most s t at u z p = rw (z, p) refl

  pub postfix_fails : (e : Refusal) (n m most : ℕ) (s : Context) (t : Tree) (at : ℕ) (u : Postfix) → n ≡ m + 1
      → postfix_at (seen ts s.column at) ≡ Some u → Fails text ts e (behind text ts inner most s t u at) → Fails text ts e (postfix text ts inner n most s t at)
  postfix_fails e n m most s t at u h p f =
      let P : Outcome Tree → Type 0 = λ x. Fails text ts e x in
      subst P (sym (postfix_is n m most s t at u h p)) (fails_bind text ts e (behind text ts inner most s t u at) (postfix text ts inner m most s) f)

  pub climb_done : (n most : ℕ) (s : Context) (floor : ℕ) (t : Tree) (at : ℕ) → above floor (infix_at (seen ts s.column at)) ≡ None
      → climb text ts inner n most s floor t at ≡ Ok (t, at)
  unfolding climb
  climb_done zero most s floor t at p = rw p refl
  climb_done (suc n) most s floor t at p = rw p refl

  pub climb_is : (n m most : ℕ) (s : Context) (floor : ℕ) (t : Tree) (at : ℕ) (op : Infix) → n ≡ m + 1 → above floor (infix_at (seen ts s.column at)) ≡ Some op
      → climb text ts inner n most s floor t at ≡ (turn text ts inner most s t op at >>= climb text ts inner m most s floor)
  unfolding climb
  climb_is n m most s floor t at op h p = rw (h, add-one, p) refl

  pub climb_more : (n m most : ℕ) (s : Context) (floor : ℕ) (t : Tree) (at : ℕ) (op : Infix) (r : Tree) (after : ℕ) → n ≡ m + 1
      → above floor (infix_at (seen ts s.column at)) ≡ Some op → turn text ts inner most s t op at ≡ Ok (r, after)
      → climb text ts inner n most s floor t at ≡ climb text ts inner m most s floor r after
  climb_more n m most s floor t at op r after h p q = climb_is n m most s floor t at op h p ∙ ap (λ x. x >>= climb text ts inner m most s floor) q

  pub climb_full : (n most : ℕ) (s : Context) (floor : ℕ) (t : Tree) (at : ℕ) (op : Infix) → n ≡ 0 → above floor (infix_at (seen ts s.column at)) ≡ Some op
      → climb text ts inner n most s floor t at ≡ Err Nested
  unfolding climb
  climb_full n most s floor t at op z p = rw (z, p) refl

  pub climb_fails : (e : Refusal) (n m most : ℕ) (s : Context) (floor : ℕ) (t : Tree) (at : ℕ) (op : Infix) → n ≡ m + 1
      → above floor (infix_at (seen ts s.column at)) ≡ Some op → Fails text ts e (turn text ts inner most s t op at)
      → Fails text ts e (climb text ts inner n most s floor t at)
  climb_fails e n m most s floor t at op h p f =
      let P : Outcome Tree → Type 0 = λ x. Fails text ts e x in
      subst P (sym (climb_is n m most s floor t at op h p)) (fails_bind text ts e (turn text ts inner most s t op at) (climb text ts inner m most s floor) f)

pub depths_snoc : (front : List Tree) (e : Tree) → depths (trees (front ++ e ∷ [])) ≡ max (depths (trees front)) (depth e)
depths_snoc [] e = grind arith
depths_snoc (t ∷ front) e = let h = depths_snoc front e in grind (arith, h)

pub bound_depth_snoc : (front : List Group) (g : Group) → bound_depth (binders (front ++ g ∷ [])) ≡ max (bound_depth (binders front)) (depth g.1)
bound_depth_snoc [] g = grind arith
bound_depth_snoc (h ∷ front) g = let i = bound_depth_snoc front g in grind (arith, i)

pub arms_depth_snoc : (front : List Choice) (c : Choice) → arms_depth (arms (front ++ c ∷ [])) ≡ max (arms_depth (arms front)) (max (depth c.0) (depth c.1))
arms_depth_snoc [] c = grind arith
arms_depth_snoc (d ∷ front) c = let i = arms_depth_snoc front c in grind (arith, i)

pub definitions_depth_snoc : (front : List Definition) (d : Definition) → definitions_depth (definitions (front ++ d ∷ [])) ≡ max (definitions_depth (definitions front)) (definition_depth d)
definitions_depth_snoc [] d = grind arith
definitions_depth_snoc (e ∷ front) d = let i = definitions_depth_snoc front d in grind (arith, i)

pub map_append : {A B : Type 0} (f : A → B) (xs : List A) (x : A) → map f (xs ++ x ∷ []) ≡ map f xs ++ f x ∷ []
map_append f [] x = refl
map_append f (y ∷ xs) x = ap (λ zs. f y ∷ zs) (map_append f xs x)

bullet_by : (ts : List Token) (column : ℕ) (b : Bullet) (at : ℕ) (o : Option Token) → slice_get ts at ≡ o → is_bullet_at column b o ≡ true → at < length ts
bullet_by ts column b at None e h = cc
bullet_by ts column b at (Some t) e h = slice_get_within ts at t e

pub bullet_within : (ts : List Token) (column : ℕ) (b : Bullet) (at : ℕ) → is_bullet_at column b (slice_get ts at) ≡ true → at < length ts
bullet_within ts column b at h = bullet_by ts column b at (slice_get ts at) refl h
