-- A tree's tokens leave the search for the end of a part as it was.
use Rattle.std.proofs.Common.{◌≡◌, ℕ, zero, suc, ◌+◌, true, List, [], ◌∷◌, Some, drop, slice_get, refl, ◌∙◌, add-one, arith}
use Rattle.tla_lex.specs.declared.token.Token.{Token}
use Rattle.tla_lex.specs.declared.token.Kind.{Kind}
use Rattle.tla_lex.specs.declared.token.Kind.TheVariants as k
use Rattle.tla_grammar.specs.declared.context.Context.{Context}
use Rattle.tla_grammar.specs.declared.ahead.Role.{Role}
use Rattle.tla_grammar.specs.declared.ahead.Role.TheVariants as role
use Rattle.tla_tree.specs.declared.word.Written.{Written}
use Rattle.tla_tree.specs.declared.tree.Bullet.{Bullet}
use Rattle.tla_tree.specs.Tree.{Tree, Trees, Pattern, Each, Tuple, Binders, Arms, Other, Definition, Definitions, none, more, unbound, bound, no_arms, arm, no_other, other, DefinesOperator, DefinesFunction, undefined, defined, Case, Let, Name, Number, Text, Word, At, Paren, Listing, Call, Prime, Index, Field, Unary, Binary, Quantified, Choose, If, Junction, Filter, Image, Function, FunctionSet, Record, RecordSet, Except, Action, Fair, Product, Fields, Key, Keys, Updates, no_fields, field, AtIndex, AtField, no_keys, key, no_updates, update}
use Rattle.tla_grammar.specs.Tokens.{Has, Writes, Names}
use Rattle.tla_grammar.specs.Entries.{is_single, Binds}
use Rattle.tla_grammar.specs.Kinds.{opening, closing, step_opening, step_closing, fairness_word, role_of}
use Rattle.tla_grammar.specs.Grammar.{Spells, Items, Factors, Listed, Others, Bound, MoreBound, Chosen, MoreChosen, Otherwise, Defines, Defined, Fielded, MoreFields, Leads, Selects, Updated, MoreUpdates, within, updating}
use Rattle.tla_grammar.specs.Ahead.{behind, ending}
use Rattle.tla_grammar.proofs.Inversion.{seen_is}
use Rattle.tla_grammar.proofs.Roles.{infix_role, prefix_role, quantifier_role, constant_role, opening_role, closing_role, step_opens, step_closes, fairness_role, bullet_token, drop_get}

module _ (text : List ℕ) (ts : List Token) where
  -- ---- one token

  token_moves : (at : ℕ) (t : Token) (r : Role) (d b e c : ℕ) → slice_get ts at ≡ Some t → role_of t.kind ≡ r → behind d b r ≡ Some (e, c) → ending d b (drop at ts) ≡ ending e c (drop (at + 1) ts)
  unfolding ending
  token_moves at t r d b e c i h m = rw (drop_get ts at t i, h, m) refl

  pub moves : (column at : ℕ) (kind : Kind) (r : Role) (d b e c : ℕ) → Has ts column kind at → role_of kind ≡ r → behind d b r ≡ Some (e, c) → ending d b (drop at ts) ≡ ending e c (drop (at + 1) ts)
  moves column at kind r d b e c x h m = token_moves at x.0 r d b e c (seen_is ts column at x.0 x.1) (rw x.2 h) m

  pub plain : (column at : ℕ) (kind : Kind) → Has ts column kind at → role_of kind ≡ role.Plain → (d b : ℕ) → ending d b (drop at ts) ≡ ending d b (drop (at + 1) ts)
  plain column at kind x h d b = moves column at kind role.Plain d b d b x h refl

  opens : (column at : ℕ) (kind : Kind) → Has ts column kind at → role_of kind ≡ role.Opens → (d b : ℕ) → ending d b (drop at ts) ≡ ending (suc d) b (drop (at + 1) ts)
  opens column at kind x h d b = moves column at kind role.Opens d b (suc d) b x h (rw add-one refl)

  closes : (column at : ℕ) (kind : Kind) → Has ts column kind at → role_of kind ≡ role.Closes → (d b : ℕ) → ending (suc d) b (drop at ts) ≡ ending d b (drop (at + 1) ts)
  closes column at kind x h d b = moves column at kind role.Closes (suc d) b d b x h refl

  -- inside a bracket, or after a quantifier, a comma ends no part
  abbrev Open : ℕ → ℕ → Type 0
  Open d b = behind d b role.Separates ≡ Some (d, b)

  separates : (column at : ℕ) (kind : Kind) → Has ts column kind at → role_of kind ≡ role.Separates → (d b : ℕ) → Open d b → ending d b (drop at ts) ≡ ending d b (drop (at + 1) ts)
  separates column at kind x h d b o = moves column at kind role.Separates d b d b x h o

  colon : (column at : ℕ) → Has ts column k.Colon at → (d b : ℕ) → ending (suc d) b (drop at ts) ≡ ending (suc d) b (drop (at + 1) ts)
  colon column at x d b = moves column at k.Colon role.Colon (suc d) b (suc d) b x refl refl

  name : (column at : ℕ) (w : Written) → Writes ts text column k.Name w at → (d b : ℕ) → ending d b (drop at ts) ≡ ending d b (drop (at + 1) ts)
  name column at w x d b = plain column at k.Name (x.0, x.1, x.2) refl d b

  stay : (d b m n : ℕ) → m ≡ n → ending d b (drop m ts) ≡ ending d b (drop n ts)
  stay d b m n e = rw e refl

  names : (ws : List Written) (column from to : ℕ) → Names ts text column ws from to → (d b : ℕ) → Open d b → ending d b (drop from ts) ≡ ending d b (drop to ts)
  names [] column from to x d b o = absurd x
  names (w ∷ []) column from to x d b o = rw x.1 (name column from w x.0 d b)
  names (w ∷ v ∷ ws) column from to x d b o =
      let p : from + 1 + 1 ≡ from + 2 = omega arith in
      name column from w x.0 d b ∙ separates column (from + 1) k.Comma x.1 refl d b o ∙ stay _ _ _ _ p ∙ (names (v ∷ ws) column (from + 2) to x.2 d b o)

  pattern : (w : Pattern) (column from to : ℕ) → Binds text ts column w from to → (d b : ℕ) → Open d b → ending d b (drop from ts) ≡ ending d b (drop to ts)
  pattern (Each ws) column from to x d b o = names ws column from to x d b o
  pattern (Tuple ws) column from to x d b o =
      rw x.4 (opens column from k.LeftTuple x.1 refl d b ∙ names ws column (from + 1) x.0 x.2 (suc d) b refl ∙ closes column x.0 k.RightTuple x.3 refl d b)

  -- one name or a tuple of names holds no comma of its own part
  pub single_passes : (w : Pattern) (column from to : ℕ) → is_single w ≡ true → Binds text ts column w from to → (d b : ℕ) → ending d b (drop from ts) ≡ ending d b (drop to ts)
  single_passes (Each []) column from to h x d b = absurd x
  single_passes (Each (w ∷ [])) column from to h x d b = rw x.1 (name column from w x.0 d b)
  single_passes (Each (w ∷ v ∷ ws)) column from to h x d b = absurd (let z : ⊥ = cc in z)
  single_passes (Tuple ws) column from to h x d b =
      rw x.4 (opens column from k.LeftTuple x.1 refl d b ∙ names ws column (from + 1) x.0 x.2 (suc d) b refl ∙ closes column x.0 k.RightTuple x.3 refl d b)

  -- ---- trees

  mutual
    pub passes : (t : Tree) (s : Context) (from to : ℕ) → Spells text ts s t from to → (d b : ℕ) → ending d b (drop from ts) ≡ ending d b (drop to ts)
    passes (Name w) s from to x d b = rw x.1 (name s.column from w x.0 d b)
    passes (Number p n) s from to x d b = rw x.1 (plain s.column from (k.Number n) (x.0.0, x.0.1, x.0.2) refl d b)
    passes (Text p y) s from to x d b = rw x.5 (plain s.column from k.Text (x.0, x.1, x.2) refl d b)
    passes (Word p c) s from to x d b = rw x.3 (plain s.column from x.0 (x.1.0, x.1.1, x.1.2) (constant_role x.0 c x.2) d b)
    passes (At p) s from to x d b = rw x.2 (plain s.column from k.At (x.0.0, x.0.1, x.0.2) refl d b)
    passes (Paren p e) s from to x d b =
        rw x.4 (opens s.column from k.LeftParen (x.1.0, x.1.1, x.1.2) refl d b ∙ passes e s (from + 1) x.0 x.2 (suc d) b ∙ closes s.column x.0 k.RightParen x.3 refl d b)
    passes (Listing p g es) s from to x d b =
        opens s.column from (opening g) (x.0.0, x.0.1, x.0.2) (opening_role g) d b ∙ listed es s (closing g) (from + 1) to (closing_role g) x.1 d b
    passes (Call w es) s from to x d b =
        let p : from + 1 + 1 ≡ from + 2 = omega arith in
        name s.column from w x.0 d b ∙ opens s.column (from + 1) k.LeftParen x.1 refl d b ∙ stay _ _ _ _ p ∙ (listed es s k.RightParen (from + 2) to refl x.2 d b)
    passes (Prime p e) s from to x d b = rw x.5 (passes e s from x.0 x.1 d b ∙ plain s.column x.0 k.Prime x.2 refl d b)
    passes (Index p e es) s from to x d b = passes e s from x.0 x.1 d b ∙ opens s.column x.0 k.LeftBracket x.2 refl d b ∙ listed es s k.RightBracket (x.0 + 1) to refl x.3 d b
    passes (Field p e w) s from to x d b =
        let q : x.0 + 1 + 1 ≡ to = omega (arith, x.6) in
        passes e s from x.0 x.1 d b ∙ plain s.column x.0 k.Dot x.2 refl d b ∙ name s.column (x.0 + 1) w x.3 d b ∙ stay _ _ _ _ q
    passes (Unary p op e) s from to x d b = plain s.column from x.0 (x.1.0, x.1.1, x.1.2) (prefix_role x.0 op x.2) d b ∙ passes e s (from + 1) to x.3 d b
    passes (Binary p op w l r) s from to x d b =
        passes l s from x.0 x.2 d b ∙ plain s.column x.0 x.1 (x.3.0, x.3.1, x.3.2) (infix_role x.1 op x.4) d b ∙ passes r s (x.0 + 1) to x.5 d b
    passes (Quantified p q bs e) s from to x zero b =
        moves s.column from x.1 role.Binds 0 b 0 (suc b) (x.2.0, x.2.1, x.2.2) (quantifier_role x.1 q x.3) (rw add-one refl)
        ∙ bound_passes bs s (from + 1) x.0 x.4 0 (suc b) refl ∙ moves s.column x.0 k.Colon role.Colon 0 (suc b) 0 b x.5 refl refl ∙ passes e s (x.0 + 1) to x.6 0 b
    passes (Quantified p q bs e) s from to x (suc d) b =
        moves s.column from x.1 role.Binds (suc d) b (suc d) b (x.2.0, x.2.1, x.2.2) (quantifier_role x.1 q x.3) refl
        ∙ bound_passes bs s (from + 1) x.0 x.4 (suc d) b refl ∙ colon s.column x.0 x.5 d b ∙ passes e s (x.0 + 1) to x.6 (suc d) b
    passes (Choose p w a e) s from to x zero b =
        let y = x.3 in
        moves s.column from k.Choose role.Binds 0 b 0 (suc b) (x.1.0, x.1.1, x.1.2) refl (rw add-one refl)
        ∙ pattern w s.column (from + 1) y.0 y.1 0 (suc b) refl ∙ plain s.column y.0 k.Member y.2 refl 0 (suc b) ∙ passes a s (y.0 + 1) x.0 y.3 0 (suc b)
        ∙ moves s.column x.0 k.Colon role.Colon 0 (suc b) 0 b x.4 refl refl ∙ passes e s (x.0 + 1) to x.5 0 b
    passes (Choose p w a e) s from to x (suc d) b =
        let y = x.3 in
        moves s.column from k.Choose role.Binds (suc d) b (suc d) b (x.1.0, x.1.1, x.1.2) refl refl
        ∙ pattern w s.column (from + 1) y.0 y.1 (suc d) b refl ∙ plain s.column y.0 k.Member y.2 refl (suc d) b ∙ passes a s (y.0 + 1) x.0 y.3 (suc d) b
        ∙ colon s.column x.0 x.4 d b ∙ passes e s (x.0 + 1) to x.5 (suc d) b
    passes (If p a e f) s from to x d b =
        plain s.column from k.If (x.2.0, x.2.1, x.2.2) refl d b ∙ passes a s (from + 1) x.0 x.3 d b ∙ plain s.column x.0 k.Then x.4 refl d b ∙ passes e s (x.0 + 1) x.1 x.5 d b
        ∙ plain s.column x.1 k.Else x.6 refl d b ∙ passes f s (x.1 + 1) to x.7 d b
    passes (Case p cs o) s from to x d b = plain s.column from k.Case (x.1.0, x.1.1, x.1.2) refl d b ∙ chosen cs s (from + 1) x.0 x.2 d b ∙ otherwise o s x.0 to x.3 d b
    passes (Let p ds e) s from to x d b =
        plain s.column from k.Let (x.1.0, x.1.1, x.1.2) refl d b ∙ all_defined ds s (from + 1) x.0 x.2 d b ∙ plain s.column x.0 k.In x.3 refl d b ∙ passes e s (x.0 + 1) to x.4 d b
    passes (Junction p g es) s from to x d b = items es (within s p.column) g from to x.3 d b
    passes (Filter p w a e) s from to x d b =
        let y = x.4 in
        rw x.8 (opens s.column from k.LeftBrace (x.2.0, x.2.1, x.2.2) refl d b ∙ pattern w s.column (from + 1) y.0 y.1 (suc d) b refl ∙ plain s.column y.0 k.Member y.2 refl (suc d) b
        ∙ passes a s (y.0 + 1) x.0 y.3 (suc d) b ∙ colon s.column x.0 x.5 d b ∙ passes e s (x.0 + 1) x.1 x.6 (suc d) b ∙ closes s.column x.1 k.RightBrace x.7 refl d b)
    passes (Image p e bs) s from to x d b =
        rw x.8 (opens s.column from k.LeftBrace (x.2.0, x.2.1, x.2.2) refl d b ∙ passes e s (from + 1) x.0 x.4 (suc d) b ∙ colon s.column x.0 x.5 d b
        ∙ bound_passes bs s (x.0 + 1) x.1 x.6 (suc d) b refl ∙ closes s.column x.1 k.RightBrace x.7 refl d b)
    passes (Function p bs e) s from to x d b =
        rw x.7 (opens s.column from k.LeftBracket (x.2.0, x.2.1, x.2.2) refl d b ∙ bound_passes bs s (from + 1) x.0 x.3 (suc d) b refl ∙ separates s.column x.0 k.MapsTo x.4 refl (suc d) b refl
        ∙ passes e s (x.0 + 1) x.1 x.5 (suc d) b ∙ closes s.column x.1 k.RightBracket x.6 refl d b)
    passes (FunctionSet p a e) s from to x d b =
        rw x.7 (opens s.column from k.LeftBracket (x.2.0, x.2.1, x.2.2) refl d b ∙ passes a s (from + 1) x.0 x.3 (suc d) b ∙ plain s.column x.0 k.Arrow x.4 refl (suc d) b
        ∙ passes e s (x.0 + 1) x.1 x.5 (suc d) b ∙ closes s.column x.1 k.RightBracket x.6 refl d b)
    passes (Record p fs) s from to x d b =
        rw x.4 (opens s.column from k.LeftBracket (x.1.0, x.1.1, x.1.2) refl d b ∙ fielded fs s k.MapsTo (from + 1) x.0 (λ d b. refl) x.2 d b ∙ closes s.column x.0 k.RightBracket x.3 refl d b)
    passes (RecordSet p fs) s from to x d b =
        rw x.4 (opens s.column from k.LeftBracket (x.1.0, x.1.1, x.1.2) refl d b ∙ fielded fs s k.Colon (from + 1) x.0 (λ d b. refl) x.2 d b ∙ closes s.column x.0 k.RightBracket x.3 refl d b)
    passes (Except p f us) s from to x d b =
        rw x.7 (opens s.column from k.LeftBracket (x.2.0, x.2.1, x.2.2) refl d b ∙ passes f s (from + 1) x.0 x.3 (suc d) b ∙ separates s.column x.0 k.Except x.4 refl (suc d) b refl
        ∙ updated us s (x.0 + 1) x.1 x.5 d b ∙ closes s.column x.1 k.RightBracket x.6 refl d b)
    passes (Action p g a v) s from to x d b =
        opens s.column from (step_opening g) (x.1.0, x.1.1, x.1.2) (step_opens g) d b ∙ passes a s (from + 1) x.0 x.2 (suc d) b ∙ closes s.column x.0 (step_closing g) x.3 (step_closes g) d b ∙ passes v s (x.0 + 1) to x.4 d b
    passes (Fair p f v a) s from to x d b =
        rw x.8 (plain s.column from (fairness_word f) (x.2.0, x.2.1, x.2.2) (fairness_role f) d b ∙ passes v s (from + 1) x.0 x.3 d b ∙ opens s.column x.0 k.LeftParen x.5 refl d b
        ∙ passes a s (x.0 + 1) x.1 x.6 (suc d) b ∙ closes s.column x.1 k.RightParen x.7 refl d b)
    passes (Product p e es) s from to x d b = passes e s from x.0 x.1 d b ∙ factors es s x.0 to x.2 d b

    factors : (es : Trees) (s : Context) (from to : ℕ) → Factors text ts s es from to → (d b : ℕ) → ending d b (drop from ts) ≡ ending d b (drop to ts)
    factors none s from to x d b = rw x refl
    factors (more e es) s from to x d b =
        plain s.column from k.Product x.1 refl d b ∙ passes e s (from + 1) x.0 x.2 d b ∙ factors es s x.0 to x.5 d b

    -- inside the bracket, and past its end
    listed : (es : Trees) (s : Context) (close : Kind) (from to : ℕ) → role_of close ≡ role.Closes → Listed text ts s close es from to → (d b : ℕ) → ending (suc d) b (drop from ts) ≡ ending d b (drop to ts)
    listed none s close from to r x d b = rw x.1 (closes s.column from close x.0 r d b)
    listed (more e es) s close from to r x d b = passes e s from x.0 x.1 (suc d) b ∙ others es s close x.0 to r x.2 d b

    others : (es : Trees) (s : Context) (close : Kind) (from to : ℕ) → role_of close ≡ role.Closes → Others text ts s close es from to → (d b : ℕ) → ending (suc d) b (drop from ts) ≡ ending d b (drop to ts)
    others none s close from to r x d b = rw x.1 (closes s.column from close x.0 r d b)
    others (more e es) s close from to r x d b =
        separates s.column from k.Comma x.1 refl (suc d) b refl ∙ passes e s (from + 1) x.0 x.2 (suc d) b ∙ others es s close x.0 to r x.3 d b

    bound_passes : (bs : Binders) (s : Context) (from to : ℕ) → Bound text ts s bs from to → (d b : ℕ) → Open d b → ending d b (drop from ts) ≡ ending d b (drop to ts)
    bound_passes unbound s from to x d b o = absurd x
    bound_passes (bound w e bs) s from to x d b o =
        let y = x.1 in
        pattern w s.column from y.0 y.1 d b o ∙ plain s.column y.0 k.Member y.2 refl d b ∙ passes e s (y.0 + 1) x.0 y.3 d b ∙ more_bound bs s x.0 to x.2 d b o

    more_bound : (bs : Binders) (s : Context) (from to : ℕ) → MoreBound text ts s bs from to → (d b : ℕ) → Open d b → ending d b (drop from ts) ≡ ending d b (drop to ts)
    more_bound unbound s from to x d b o = rw x refl
    more_bound (bound w e bs) s from to x d b o =
        let y = x.2 in
        separates s.column from k.Comma x.1 refl d b o ∙ pattern w s.column (from + 1) y.0 y.1 d b o ∙ plain s.column y.0 k.Member y.2 refl d b ∙ passes e s (y.0 + 1) x.0 y.3 d b ∙ more_bound bs s x.0 to x.3 d b o

    chosen : (cs : Arms) (s : Context) (from to : ℕ) → Chosen text ts s cs from to → (d b : ℕ) → ending d b (drop from ts) ≡ ending d b (drop to ts)
    chosen no_arms s from to x d b = absurd x
    chosen (arm g e cs) s from to x d b =
        passes g s from x.0 x.2 d b ∙ plain s.column x.0 k.Arrow x.3 refl d b ∙ passes e s (x.0 + 1) x.1 x.4 d b ∙ more_chosen cs s x.1 to x.5 d b

    more_chosen : (cs : Arms) (s : Context) (from to : ℕ) → MoreChosen text ts s cs from to → (d b : ℕ) → ending d b (drop from ts) ≡ ending d b (drop to ts)
    more_chosen no_arms s from to x d b = rw x refl
    more_chosen (arm g e cs) s from to x d b =
        plain s.column from k.Box x.2 refl d b ∙ passes g s (from + 1) x.0 x.3 d b ∙ plain s.column x.0 k.Arrow x.4 refl d b ∙ passes e s (x.0 + 1) x.1 x.5 d b ∙ more_chosen cs s x.1 to x.6 d b

    otherwise : (o : Other) (s : Context) (from to : ℕ) → Otherwise text ts s o from to → (d b : ℕ) → ending d b (drop from ts) ≡ ending d b (drop to ts)
    otherwise no_other s from to x d b = rw x.1 refl
    otherwise (other e) s from to x d b =
        let q : from + 1 + 1 ≡ from + 2 = omega arith in
        let r : from + 2 + 1 ≡ from + 3 = omega arith in
        plain s.column from k.Box x.0 refl d b ∙ plain s.column (from + 1) k.Other x.1 refl d b ∙ stay _ _ _ _ q ∙ (plain s.column (from + 2) k.Arrow x.2 refl d b) ∙ stay _ _ _ _ r ∙ (passes e s (from + 3) to x.3 d b)

    defines : (y : Definition) (s : Context) (from to : ℕ) → Defines text ts s y from to → (d b : ℕ) → ending d b (drop from ts) ≡ ending d b (drop to ts)
    defines (DefinesOperator w [] e) s from to x d b =
        let q : from + 1 + 1 ≡ from + 2 = omega arith in
        name s.column from w x.0 d b ∙ plain s.column (from + 1) k.Define x.1 refl d b ∙ stay _ _ _ _ q ∙ (passes e s (from + 2) to x.2 d b)
    defines (DefinesOperator w (v ∷ vs) e) s from to x d b =
        let q : from + 1 + 1 ≡ from + 2 = omega arith in
        let r : x.0 + 1 + 1 ≡ x.0 + 2 = omega arith in
        name s.column from w x.1 d b ∙ opens s.column (from + 1) k.LeftParen x.2 refl d b ∙ stay _ _ _ _ q ∙ (names (v ∷ vs) s.column (from + 2) x.0 x.3 (suc d) b refl) ∙ closes s.column x.0 k.RightParen x.4 refl d b
        ∙ plain s.column (x.0 + 1) k.Define x.5 refl d b ∙ stay _ _ _ _ r ∙ (passes e s (x.0 + 2) to x.6 d b)
    defines (DefinesFunction w bs e) s from to x d b =
        let q : from + 1 + 1 ≡ from + 2 = omega arith in
        let r : x.0 + 1 + 1 ≡ x.0 + 2 = omega arith in
        name s.column from w x.1 d b ∙ opens s.column (from + 1) k.LeftBracket x.2 refl d b ∙ stay _ _ _ _ q ∙ (bound_passes bs s (from + 2) x.0 x.3 (suc d) b refl) ∙ closes s.column x.0 k.RightBracket x.4 refl d b
        ∙ plain s.column (x.0 + 1) k.Define x.5 refl d b ∙ stay _ _ _ _ r ∙ (passes e s (x.0 + 2) to x.6 d b)

    all_defined : (ds : Definitions) (s : Context) (from to : ℕ) → Defined text ts s ds from to → (d b : ℕ) → ending d b (drop from ts) ≡ ending d b (drop to ts)
    all_defined undefined s from to x d b = rw x refl
    all_defined (defined y ds) s from to x d b = defines y s from x.0 x.1 d b ∙ all_defined ds s x.0 to x.2 d b

    items : (es : Trees) (s : Context) (g : Bullet) (from to : ℕ) → Items text ts s g es from to → (d b : ℕ) → ending d b (drop from ts) ≡ ending d b (drop to ts)
    items none s g from to x d b = rw x refl
    items (more e es) s g from to x d b =
        let t = bullet_token ts s.column g from x.1 in
        token_moves from t.0 role.Plain d b d b t.1 t.2 refl ∙ passes e s (from + 1) x.0 x.2 d b ∙ items es s g x.0 to x.3 d b

    -- inside the bracket
    fielded : (fs : Fields) (s : Context) (mark : Kind) (from to : ℕ) → ((d b : ℕ) → behind (suc d) b (role_of mark) ≡ Some (suc d, b)) → Fielded text ts s mark fs from to → (d b : ℕ) → ending (suc d) b (drop from ts) ≡ ending (suc d) b (drop to ts)
    fielded no_fields s mark from to r x d b = absurd x
    fielded (field w e fs) s mark from to r x d b =
        let q : from + 1 + 1 ≡ from + 2 = omega arith in
        name s.column from w x.1 (suc d) b ∙ moves s.column (from + 1) mark (role_of mark) (suc d) b (suc d) b x.2 refl (r d b) ∙ stay _ _ _ _ q ∙ (passes e s (from + 2) x.0 x.3 (suc d) b) ∙ more_fields fs s mark x.0 to r x.4 d b

    more_fields : (fs : Fields) (s : Context) (mark : Kind) (from to : ℕ) → ((d b : ℕ) → behind (suc d) b (role_of mark) ≡ Some (suc d, b)) → MoreFields text ts s mark fs from to → (d b : ℕ) → ending (suc d) b (drop from ts) ≡ ending (suc d) b (drop to ts)
    more_fields no_fields s mark from to r x d b = rw x refl
    more_fields (field w e fs) s mark from to r x d b =
        let q : from + 1 + 1 ≡ from + 2 = omega arith in
        let u : from + 2 + 1 ≡ from + 3 = omega arith in
        separates s.column from k.Comma x.1 refl (suc d) b refl ∙ name s.column (from + 1) w x.2 (suc d) b ∙ stay _ _ _ _ q ∙ (moves s.column (from + 2) mark (role_of mark) (suc d) b (suc d) b x.3 refl (r d b))
        ∙ stay _ _ _ _ u ∙ (passes e s (from + 3) x.0 x.4 (suc d) b) ∙ more_fields fs s mark x.0 to r x.5 d b

    selects : (y : Key) (s : Context) (from to : ℕ) → Selects text ts s y from to → (d b : ℕ) → ending d b (drop from ts) ≡ ending d b (drop to ts)
    selects (AtIndex es) s from to x d b = opens s.column from k.LeftBracket x.0 refl d b ∙ listed es s k.RightBracket (from + 1) to refl x.1 d b
    selects (AtField w) s from to x d b =
        let q : from + 1 + 1 ≡ to = omega (arith, x.2) in
        plain s.column from k.Dot x.0 refl d b ∙ name s.column (from + 1) w x.1 d b ∙ stay _ _ _ _ q

    leads : (ks : Keys) (s : Context) (from to : ℕ) → Leads text ts s ks from to → (d b : ℕ) → ending d b (drop from ts) ≡ ending d b (drop to ts)
    leads no_keys s from to x d b = rw x refl
    leads (key y ks) s from to x d b = selects y s from x.0 x.1 d b ∙ leads ks s x.0 to x.2 d b

    updated : (us : Updates) (s : Context) (from to : ℕ) → Updated text ts s us from to → (d b : ℕ) → ending (suc d) b (drop from ts) ≡ ending (suc d) b (drop to ts)
    updated no_updates s from to x d b = absurd x
    updated (update ks e us) s from to x d b =
        plain s.column from k.Bang x.2 refl (suc d) b ∙ leads ks s (from + 1) x.0 x.3 (suc d) b ∙ plain s.column x.0 k.Equal x.5 refl (suc d) b ∙ passes e (updating s) (x.0 + 1) x.1 x.6 (suc d) b ∙ more_updates us s x.1 to x.7 d b

    more_updates : (us : Updates) (s : Context) (from to : ℕ) → MoreUpdates text ts s us from to → (d b : ℕ) → ending (suc d) b (drop from ts) ≡ ending (suc d) b (drop to ts)
    more_updates no_updates s from to x d b = rw x refl
    more_updates (update ks e us) s from to x d b =
        let q : from + 1 + 1 ≡ from + 2 = omega arith in
        separates s.column from k.Comma x.2 refl (suc d) b refl ∙ plain s.column (from + 1) k.Bang x.3 refl (suc d) b ∙ stay _ _ _ _ q ∙ (leads ks s (from + 2) x.0 x.4 (suc d) b) ∙ plain s.column x.0 k.Equal x.6 refl (suc d) b
        ∙ passes e (updating s) (x.0 + 1) x.1 x.7 (suc d) b ∙ more_updates us s x.1 to x.8 d b
