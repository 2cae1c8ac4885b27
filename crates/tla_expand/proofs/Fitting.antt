-- What is expanded in a scope whose meanings name what exists names what exists.
use Rattle.std.proofs.Common.{◌≡◌, ℕ, ◌+◌, true, [], refl, ◌∙◌, arith, Option, Some}
use Rattle.std.specs.Prelude.{nat_le}
use Rattle.tla_value.specs.Tree as value
use Rattle.tla_core.specs.Expr as x
use Rattle.tla_core.specs.Expr.{Expr, Exprs, constant, unary, binary, enumerated, tuple, conjunction, disjunction, conditional, cases, functions, record_of, records, product, except, no_exprs, more_exprs}
use Rattle.tla_core.specs.Fits.{fits, fits_all, fits_fields, fits_arms, fits_updates}
use Rattle.tla_tree.specs.declared.tree.Bullet.TheVariants as bullet
use Rattle.tla_tree.specs.declared.tree.Brackets.TheVariants as brackets
use Rattle.tla_tree.specs.declared.tree.Step.TheVariants as steps
use Rattle.tla_tree.specs.Tree.{Tree, Trees, Binders, Definition, Definitions, none, more, unbound, undefined, defined, DefinesOperator, DefinesFunction, Name, Number, Text, Word, At, Paren, Listing, Call, Prime, Index, Field, Unary, Binary, Quantified, Choose, If, Case, Let, Junction, Filter, Image, Function, FunctionSet, Record, RecordSet, Except, Action, Fair, Product}
use Rattle.tla_tree.specs.Places.{place}
use Rattle.tla_tree.specs.Tree as t
use Rattle.tla_scopes.specs.declared.nodes.Binding.TheVariants as binds
use Rattle.tla_scopes.specs.declared.nodes.Gather.TheVariants as gathers
use Rattle.tla_scopes.specs.declared.nodes.BinaryNode.TheVariants as w
use Rattle.tla_scopes.specs.declared.nodes.TernaryNode.TheVariants as h
use Rattle.tla_scopes.specs.declared.primes.Primes.TheVariants.{Once}
use Rattle.tla_scopes.specs.Maybe.{◌>>=◌}
use Rattle.tla_scopes.specs.Places.{place_of, at_name}
use Rattle.tla_scopes.specs.Primes.{primes}
use Rattle.tla_scopes.specs.Unchanged.{unchanged, changed}
use Rattle.tla_scopes.specs.Nodes.{constant_of, largest, two}
use Rattle.tla_scopes.specs.Operators.{infix_for}
use Rattle.tla_scopes.specs.Meanings.{Scope, with_name, bound_name, parameter, operator}
use Rattle.tla_scopes.specs.Bound.{bind_entry, gathered}
use Rattle.tla_scopes.specs.Expand.{of_quantifier, prefixed, expand, expand_each, expand_key, expand_arms, expand_other, expand_fields, expand_step, expand_path, expand_updates, arguments, binds_of, definitions_in, definition_in}
use Rattle.tla_expand.specs.Fits.{FitsArgument, FitArguments, FitsScope}
use Rattle.tla_expand.proofs.PrimesFit.{inv, primes_fit}
use Rattle.tla_expand.proofs.UnchangedFits.{unchanged_fits}
use Rattle.tla_expand.proofs.MeaningsFit.{some, some_each, two_fits, three_fits, later, name_fits, alone_fits, operator_fits, FitBinds, later_binds, under_name, nested_fits, number_fits, word_fits, prefixed_fits, some_fields, some_updates, changed_fits, gathered_fits, FitLast, some_arms, entry_fits}

mutual
  pub expand_fits : (t : Tree) (σ : Scope) (v d : ℕ) → FitsScope v d σ → (e : Expr) → expand t σ d ≡ Some e → fits e d v true ≡ true
  expand_fits (Name w) σ v d g e q = g w.word (place_of w.place) [] d (omega arith) tt e q
  expand_fits (Call w es) σ v d g e q = g w.word (place_of w.place) (arguments es σ) d (omega arith) (arguments_fit es σ v d g) e q
  expand_fits (Number p n) σ v d g e q = number_fits (place_of p) n d v (nat_le n largest) e q
  expand_fits (Text p cs) σ v d g e q = some d v (constant (place_of p) (value.text cs)) e q refl
  expand_fits (Word p c) σ v d g e q = some d v (constant_of (place_of p) c) e q (word_fits (place_of p) c d v)
  expand_fits (At p) σ v d g e q = g at_name (place_of p) [] d (omega arith) tt e q
  expand_fits (Paren p a) σ v d g e q = expand_fits a σ v d g e q
  expand_fits (Prime p a) σ v d g e q = let i = inv (expand a σ d) (primes Once) e q in primes_fit Once v v true refl i.0 d e i.2 ∙ expand_fits a σ v d g i.0 i.1
  expand_fits (Listing p brackets.Set es) σ v d g e q =
      let i = inv (expand_each es σ d) (λ xs. Some (enumerated (place_of p) xs)) e q in
      some d v (enumerated (place_of p) i.0) e i.2 (each_fit es σ v d g i.0 i.1)
  expand_fits (Listing p brackets.Tuple es) σ v d g e q =
      let i = inv (expand_each es σ d) (λ xs. Some (tuple (place_of p) xs)) e q in
      some d v (tuple (place_of p) i.0) e i.2 (each_fit es σ v d g i.0 i.1)
  expand_fits (Index p f es) σ v d g e q =
      let i = inv (expand f σ d) (λ y. expand_key es σ d >>= λ z. Some (binary (place_of p) x.Apply y z)) e q in
      let j = inv (expand_key es σ d) (λ z. Some (binary (place_of p) x.Apply i.0 z)) e i.2 in
      some d v (binary (place_of p) x.Apply i.0 j.0) e j.2 (rw (expand_fits f σ v d g i.0 i.1, key_fits es σ v d g j.0 j.1) refl)
  expand_fits (Field p a w) σ v d g e q =
      let i = inv (expand a σ d) (λ u. Some (unary (place_of p) (x.Field w.word) u)) e q in
      some d v (unary (place_of p) (x.Field w.word) i.0) e i.2 (expand_fits a σ v d g i.0 i.1)
  expand_fits (Unary p op a) σ v d g e q =
      let i = inv (expand a σ d) (prefixed op (place_of p)) e q in
      prefixed_fits op (place_of p) i.0 d v (expand_fits a σ v d g i.0 i.1) e i.2
  expand_fits (Binary p op w a b) σ v d g e q =
      let f = inv (infix_for op) (λ f. expand a σ d >>= λ x. expand b σ d >>= λ y. Some (two f (place_of p) x y)) e q in
      let i = inv (expand a σ d) (λ x. expand b σ d >>= λ y. Some (two f.0 (place_of p) x y)) e f.2 in
      let j = inv (expand b σ d) (λ y. Some (two f.0 (place_of p) i.0 y)) e i.2 in
      some d v (two f.0 (place_of p) i.0 j.0) e j.2 (two_fits f.0 (place_of p) i.0 j.0 d v (expand_fits a σ v d g i.0 i.1) (expand_fits b σ v d g j.0 j.1))
  expand_fits (Quantified p q bs a) σ v d g e r =
      nested_fits (of_quantifier q) (place_of p) (binds_of bs σ) (expand a) v (λ τ c. expand_fits a τ v c) d (binds_fit bs σ v d g) σ d g (omega arith) e r
  expand_fits (Choose p w s a) σ v d g e q = nested_fits binds.Choose (place_of p) (bind_entry w (expand s σ) []) (expand a) v (λ τ c. expand_fits a τ v c) d (entry_fits w (expand s σ) [] v d (λ c l. expand_fits s σ v c (later v d c σ l g)) tt) σ d g (omega arith) e q
  expand_fits (Filter p w s a) σ v d g e q = nested_fits binds.Filter (place_of p) (bind_entry w (expand s σ) []) (expand a) v (λ τ c. expand_fits a τ v c) d (entry_fits w (expand s σ) [] v d (λ c l. expand_fits s σ v c (later v d c σ l g)) tt) σ d g (omega arith) e q
  expand_fits (Image p a bs) σ v d g e q = gathered_fits gathers.Image (place_of p) (binds_of bs σ) (expand a) v (λ τ c. expand_fits a τ v c) σ d g (binds_fit bs σ v d g) e q
  expand_fits (Function p bs a) σ v d g e q = gathered_fits gathers.Function (place_of p) (binds_of bs σ) (expand a) v (λ τ c. expand_fits a τ v c) σ d g (binds_fit bs σ v d g) e q
  expand_fits (FunctionSet p a b) σ v d g e q =
      let i = inv (expand a σ d) (λ x. expand b σ d >>= λ y. Some (functions (place_of p) x y)) e q in
      let j = inv (expand b σ d) (λ y. Some (functions (place_of p) i.0 y)) e i.2 in
      some d v (functions (place_of p) i.0 j.0) e j.2 (two_fits w.Functions (place_of p) i.0 j.0 d v (expand_fits a σ v d g i.0 i.1) (expand_fits b σ v d g j.0 j.1))
  expand_fits (Record p fs) σ v d g e q =
      let i = inv (expand_fields fs σ d) (λ xs. Some (record_of (place_of p) xs)) e q in
      some d v (record_of (place_of p) i.0) e i.2 (fields_fit fs σ v d g i.0 i.1)
  expand_fits (RecordSet p fs) σ v d g e q =
      let i = inv (expand_fields fs σ d) (λ xs. Some (records (place_of p) xs)) e q in
      some d v (records (place_of p) i.0) e i.2 (fields_fit fs σ v d g i.0 i.1)
  expand_fits (Product p a es) σ v d g e q =
      let i = inv (expand a σ d) (λ x. expand_each es σ d >>= λ xs. Some (product (place_of p) (more_exprs x xs))) e q in
      let j = inv (expand_each es σ d) (λ xs. Some (product (place_of p) (more_exprs i.0 xs))) e i.2 in
      some d v (product (place_of p) (more_exprs i.0 j.0)) e j.2 (rw (expand_fits a σ v d g i.0 i.1) (each_fit es σ v d g j.0 j.1))
  expand_fits (Except p f us) σ v d g e q =
      let i = inv (expand f σ d) (λ x. expand_updates us σ d >>= λ ys. Some (except (place_of p) x ys)) e q in
      let j = inv (expand_updates us σ d) (λ ys. Some (except (place_of p) i.0 ys)) e i.2 in
      some d v (except (place_of p) i.0 j.0) e j.2 (rw (expand_fits f σ v d g i.0 i.1) (updates_fit us σ v d g j.0 j.1))
  expand_fits (Action p steps.Box a u) σ v d g e q =
      let i = inv (expand a σ d) (λ x. (expand u σ d >>= unchanged (place_of (place u))) >>= λ y. Some (two w.Or (place_of p) x y)) e q in
      let j = inv (expand u σ d >>= unchanged (place_of (place u))) (λ y. Some (two w.Or (place_of p) i.0 y)) e i.2 in
      let m = inv (expand u σ d) (unchanged (place_of (place u))) j.0 j.1 in
      let kept = unchanged_fits (place_of (place u)) m.0 d v j.0 m.2 ∙ expand_fits u σ v d g m.0 m.1 in
      some d v (two w.Or (place_of p) i.0 j.0) e j.2 (two_fits w.Or (place_of p) i.0 j.0 d v (expand_fits a σ v d g i.0 i.1) kept)
  expand_fits (Action p steps.Angle a u) σ v d g e q =
      let i = inv (expand a σ d) (λ x. (expand u σ d >>= changed (place_of (place u))) >>= λ y. Some (two w.And (place_of p) x y)) e q in
      let j = inv (expand u σ d >>= changed (place_of (place u))) (λ y. Some (two w.And (place_of p) i.0 y)) e i.2 in
      let m = inv (expand u σ d) (changed (place_of (place u))) j.0 j.1 in
      some d v (two w.And (place_of p) i.0 j.0) e j.2 (two_fits w.And (place_of p) i.0 j.0 d v (expand_fits a σ v d g i.0 i.1) (changed_fits (place_of (place u)) m.0 d v (expand_fits u σ v d g m.0 m.1) j.0 m.2))
  expand_fits (Fair p f u a) σ v d g e q = cc
  expand_fits (If p a b c) σ v d g e q =
      let i = inv (expand a σ d) (λ x. expand b σ d >>= λ y. expand c σ d >>= λ z. Some (conditional (place_of p) x y z)) e q in
      let j = inv (expand b σ d) (λ y. expand c σ d >>= λ z. Some (conditional (place_of p) i.0 y z)) e i.2 in
      let k = inv (expand c σ d) (λ z. Some (conditional (place_of p) i.0 j.0 z)) e j.2 in
      some d v (conditional (place_of p) i.0 j.0 k.0) e k.2
      (three_fits h.If (place_of p) i.0 j.0 k.0 d v (expand_fits a σ v d g i.0 i.1) (expand_fits b σ v d g j.0 j.1) (expand_fits c σ v d g k.0 k.1))
  expand_fits (Case p arms o) σ v d g e q =
      let i = inv (expand_arms arms (expand_other o σ d) σ d) (λ xs. Some (cases (place_of p) xs)) e q in
      some d v (cases (place_of p) i.0) e i.2 (arms_fit arms (expand_other o σ d) σ v d (other_fits o σ v d g) g i.0 i.1)
  expand_fits (Let p ds a) σ v d g e q = expand_fits a (definitions_in ds σ) v d (definitions_fit ds σ v d g) e q
  expand_fits (Junction p bullet.And es) σ v d g e q =
      let i = inv (expand_each es σ d) (λ xs. Some (conjunction (place_of p) xs)) e q in
      some d v (conjunction (place_of p) i.0) e i.2 (each_fit es σ v d g i.0 i.1)
  expand_fits (Junction p bullet.Or es) σ v d g e q =
      let i = inv (expand_each es σ d) (λ xs. Some (disjunction (place_of p) xs)) e q in
      some d v (disjunction (place_of p) i.0) e i.2 (each_fit es σ v d g i.0 i.1)

  pub each_fit : (ts : Trees) (σ : Scope) (v d : ℕ) → FitsScope v d σ → (es : Exprs) → expand_each ts σ d ≡ Some es → fits_all es d v true ≡ true
  each_fit none σ v d g es q = some_each d v no_exprs es q refl
  each_fit (more t ts) σ v d g es q =
      let i = inv (expand t σ d) (λ x. expand_each ts σ d >>= λ y. Some (more_exprs x y)) es q in
      let j = inv (expand_each ts σ d) (λ y. Some (more_exprs i.0 y)) es i.2 in
      some_each d v (more_exprs i.0 j.0) es j.2 (rw (expand_fits t σ v d g i.0 i.1) (each_fit ts σ v d g j.0 j.1))

  key_fits : (ts : Trees) (σ : Scope) (v d : ℕ) → FitsScope v d σ → (e : Expr) → expand_key ts σ d ≡ Some e → fits e d v true ≡ true
  key_fits none σ v d g e q = cc
  key_fits (more a none) σ v d g e q = expand_fits a σ v d g e q
  key_fits (more a (more b es)) σ v d g e q =
      let p = place_of (place a) in
      let i = inv (expand a σ d) (λ x. expand b σ d >>= λ y. expand_each es σ d >>= λ xs. Some (tuple p (more_exprs x (more_exprs y xs)))) e q in
      let j = inv (expand b σ d) (λ y. expand_each es σ d >>= λ xs. Some (tuple p (more_exprs i.0 (more_exprs y xs)))) e i.2 in
      let k = inv (expand_each es σ d) (λ xs. Some (tuple p (more_exprs i.0 (more_exprs j.0 xs)))) e j.2 in
      some d v (tuple p (more_exprs i.0 (more_exprs j.0 k.0))) e k.2 (rw (expand_fits a σ v d g i.0 i.1, expand_fits b σ v d g j.0 j.1) (each_fit es σ v d g k.0 k.1))

  fields_fit : (fs : t.Fields) (σ : Scope) (v d : ℕ) → FitsScope v d σ → (xs : x.Fields) → expand_fields fs σ d ≡ Some xs → fits_fields xs d v true ≡ true
  fields_fit t.no_fields σ v d g xs q = some_fields d v x.no_fields xs q refl
  fields_fit (t.field w a fs) σ v d g xs q =
      let i = inv (expand a σ d) (λ y. expand_fields fs σ d >>= λ ys. Some (x.more_fields w.word y ys)) xs q in
      let j = inv (expand_fields fs σ d) (λ ys. Some (x.more_fields w.word i.0 ys)) xs i.2 in
      some_fields d v (x.more_fields w.word i.0 j.0) xs j.2 (rw (expand_fits a σ v d g i.0 i.1) (fields_fit fs σ v d g j.0 j.1))

  step_fits : (s : t.Key) (σ : Scope) (v d : ℕ) → FitsScope v d σ → (e : Expr) → expand_step s σ d ≡ Some e → fits e d v true ≡ true
  step_fits (t.AtIndex es) σ v d g e q = key_fits es σ v d g e q
  step_fits (t.AtField w) σ v d g e q = some d v (constant (place_of w.place) (value.text w.word)) e q refl

  path_fits : (ks : t.Keys) (σ : Scope) (v d : ℕ) → FitsScope v d σ → (es : Exprs) → expand_path ks σ d ≡ Some es → fits_all es d v true ≡ true
  path_fits t.no_keys σ v d g es q = some_each d v no_exprs es q refl
  path_fits (t.key s ks) σ v d g es q =
      let i = inv (expand_step s σ d) (λ y. expand_path ks σ d >>= λ ys. Some (more_exprs y ys)) es q in
      let j = inv (expand_path ks σ d) (λ ys. Some (more_exprs i.0 ys)) es i.2 in
      some_each d v (more_exprs i.0 j.0) es j.2 (rw (step_fits s σ v d g i.0 i.1) (path_fits ks σ v d g j.0 j.1))

  updates_fit : (us : t.Updates) (σ : Scope) (v d : ℕ) → FitsScope v d σ → (xs : x.Updates) → expand_updates us σ d ≡ Some xs → fits_updates xs d v true ≡ true
  updates_fit t.no_updates σ v d g xs q = some_updates d v x.no_updates xs q refl
  updates_fit (t.update ks a us) σ v d g xs q =
      let τ = with_name at_name (bound_name d) σ in
      let i = inv (expand_path ks σ d) (λ ys. expand a τ (d + 1) >>= λ z. expand_updates us σ d >>= λ zs. Some (x.more_updates ys z zs)) xs q in
      let j = inv (expand a τ (d + 1)) (λ z. expand_updates us σ d >>= λ zs. Some (x.more_updates i.0 z zs)) xs i.2 in
      let k = inv (expand_updates us σ d) (λ zs. Some (x.more_updates i.0 j.0 zs)) xs j.2 in
      some_updates d v (x.more_updates i.0 j.0 k.0) xs k.2
      (rw (path_fits ks σ v d g i.0 i.1, expand_fits a τ v (d + 1) (under_name v d at_name σ g) j.0 j.1) (updates_fit us σ v d g k.0 k.1))

  arms_fit : (arms : t.Arms) (last : Option x.Arms) (σ : Scope) (v d : ℕ) → FitLast v d last → FitsScope v d σ → (xs : x.Arms) → expand_arms arms last σ d ≡ Some xs → fits_arms xs d v true ≡ true
  arms_fit t.no_arms last σ v d l g xs q = l xs q
  arms_fit (t.arm a b arms) last σ v d l g xs q =
      let i = inv (expand a σ d) (λ y. expand b σ d >>= λ z. expand_arms arms last σ d >>= λ zs. Some (x.more_arms y z zs)) xs q in
      let j = inv (expand b σ d) (λ z. expand_arms arms last σ d >>= λ zs. Some (x.more_arms i.0 z zs)) xs i.2 in
      let k = inv (expand_arms arms last σ d) (λ zs. Some (x.more_arms i.0 j.0 zs)) xs j.2 in
      some_arms d v (x.more_arms i.0 j.0 k.0) xs k.2 (rw (expand_fits a σ v d g i.0 i.1, expand_fits b σ v d g j.0 j.1) (arms_fit arms last σ v d l g k.0 k.1))

  other_fits : (o : t.Other) (σ : Scope) (v d : ℕ) → FitsScope v d σ → FitLast v d (expand_other o σ d)
  other_fits t.no_other σ v d g xs q = some_arms d v x.no_arms xs q refl
  other_fits (t.other a) σ v d g xs q =
      let i = inv (expand a σ d) (λ y. Some (x.other y)) xs q in
      some_arms d v (x.other i.0) xs i.2 (expand_fits a σ v d g i.0 i.1)

  pub arguments_fit : (ts : Trees) (σ : Scope) (v d : ℕ) → FitsScope v d σ → FitArguments v d (arguments ts σ)
  arguments_fit none σ v d g = tt
  arguments_fit (more t ts) σ v d g = ((λ c k. expand_fits t σ v c (later v d c σ k g)), arguments_fit ts σ v d g)

  pub binds_fit : (bs : Binders) (σ : Scope) (v d : ℕ) → FitsScope v d σ → FitBinds v d (binds_of bs σ)
  binds_fit unbound σ v d g = tt
  binds_fit (t.bound w s bs) σ v d g = entry_fits w (expand s σ) (binds_of bs σ) v d (λ c k. expand_fits s σ v c (later v d c σ k g)) (binds_fit bs σ v d g)

  pub definitions_fit : (ds : Definitions) (σ : Scope) (v d : ℕ) → FitsScope v d σ → FitsScope v d (definitions_in ds σ)
  definitions_fit undefined σ v d g = g
  definitions_fit (defined def ds) σ v d g = definitions_fit ds (definition_in def σ) v d (definition_fits def σ v d g)

  pub definition_fits : (def : Definition) (σ : Scope) (v d : ℕ) → FitsScope v d σ → FitsScope v d (definition_in def σ)
  definition_fits (DefinesOperator w ws a) σ v d g =
      name_fits v d w.word (operator ws (expand a) σ) σ (operator_fits v d ws (expand a) σ g (λ τ c. expand_fits a τ v c)) g
  definition_fits (DefinesFunction w bs a) σ v d g =
      let f = gathered gathers.Function (place_of w.place) (binds_of bs σ) (expand a) σ in
      let fit : FitsArgument v d f = λ c l. gathered_fits gathers.Function (place_of w.place) (binds_of bs σ) (expand a) v (λ τ b. expand_fits a τ v b) σ c (later v d c σ l g) (later_binds v d c (binds_of bs σ) l (binds_fit bs σ v d g)) in
      name_fits v d w.word (parameter f) σ (alone_fits v d (λ p c. f c) (λ p c. fit c)) g
