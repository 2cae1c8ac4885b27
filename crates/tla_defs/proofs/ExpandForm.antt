-- What a well-scoped expression expands to is well-formed, in a scope of such meanings.
use Rattle.std.proofs.Common.{◌≡◌, ◌≢◌, ℕ, ◌+◌, suc, ◌<◌, ◌++◌, List, Bool, true, false, [], ◌∷◌, length, get_or, refl, sym, ◌∙◌, ◌&&◌, arith, Option, Some}
use Rattle.std.proofs.lemmas.Slice.Eq.{bytes_eq-Decides}
use Rattle.std.specs.Prelude.{nat_le}
use Rattle.std.specs.Str.{bytes_eq}
use Rattle.std.specs.List.{list_any}
use Rattle.tla_value.specs.Tree as value
use Rattle.tla_core.specs.Expr as x
use Rattle.tla_core.specs.Expr.{Expr, Exprs, constant, unary, binary, enumerated, tuple, conjunction, disjunction, conditional, cases, functions, record_of, records, product, except, no_exprs, more_exprs}
use Rattle.tla_model.specs.WellFormed.{are_distinct, field_names, are_well_formed, fields_well_formed, arms_well_formed, updates_well_formed}
use Rattle.tla_tree.specs.declared.tree.Bullet.TheVariants as bullet
use Rattle.tla_tree.specs.declared.tree.Brackets.TheVariants as brackets
use Rattle.tla_tree.specs.declared.tree.Step.TheVariants as steps
use Rattle.tla_tree.specs.Tree.{Tree, Trees, Binders, Definition, Definitions, none, more, unbound, undefined, defined, DefinesOperator, DefinesFunction, Name, Number, Text, Word, At, Paren, Listing, Call, Prime, Index, Field, Unary, Binary, Quantified, Choose, If, Case, Let, Junction, Filter, Image, Function, FunctionSet, Record, RecordSet, Except, Action, Fair, Product, names_of}
use Rattle.tla_tree.specs.Places.{place}
use Rattle.tla_tree.specs.Tree as t
use Rattle.tla_config.specs.Names as words
use Rattle.tla_names.specs.Scope as scopes
use Rattle.tla_names.specs.Scope.{plain, signature, signatures, bound_names}
use Rattle.tla_names.specs.WellScoped.{AreDistinct, IsWellScoped, AreWellScoped, HaveWellScopedSets, AreWellScopedArms, IsWellScopedOther, AreWellScopedFields, IsWellScopedKey, AreWellScopedKeys, AreWellScopedUpdates, IsWellScopedDefinition, AreWellScopedDefinitions}
use Rattle.tla_scopes.specs.declared.nodes.Binding.TheVariants as binds
use Rattle.tla_scopes.specs.declared.nodes.Gather.TheVariants as gathers
use Rattle.tla_scopes.specs.declared.nodes.BinaryNode.TheVariants as w
use Rattle.tla_scopes.specs.declared.nodes.TernaryNode.TheVariants as h
use Rattle.tla_scopes.specs.declared.primes.Primes.TheVariants.{Once}
use Rattle.tla_scopes.specs.Maybe.{◌>>=◌}
use Rattle.tla_scopes.specs.Places.{place_of, at_name}
use Rattle.tla_scopes.specs.Primes.{primes}
use Rattle.tla_scopes.specs.Unchanged.{unchanged, changed}
use Rattle.tla_scopes.specs.Nodes.{constant_of, largest, two}
use Rattle.tla_scopes.specs.Operators.{infix_for}
use Rattle.tla_scopes.specs.Meanings.{Scope, with_name, bound_name, parameter, operator}
use Rattle.tla_scopes.specs.Bound.{bind_entry, gathered}
use Rattle.tla_scopes.specs.Expand.{of_quantifier, prefixed, expand, expand_each, expand_key, expand_arms, expand_other, expand_fields, expand_step, expand_path, expand_updates, arguments, binds_of, definitions_in, definition_in}
use Rattle.tla_expand.proofs.PrimesFit.{inv}
use Rattle.tla_defs.proofs.PrimesForm.{primes_form}
use Rattle.tla_defs.proofs.UnchangedForm.{IsForm, some, unchanged_form}
use Rattle.tla_defs.proofs.MeaningsForm.{IsFormArgument, AreFormArguments, IsFormScope, AreFormBinds, two_form, three_form, name_form, alone_form, operator_form, under_name, nested_form, number_form, word_form, prefixed_form, changed_form, gathered_form, entry_form}

-- a name that is none of these
apart : (x y : words.Name) (b : Bool) → bytes_eq x y ≡ b → x ≢ y → bytes_eq x y ≡ false
apart x y true e n = absurd (n ((bytes_eq-Decides x y).0 e))
apart x y false e n = e

none_of : (x : words.Name) (ys : List words.Name) → ((j : ℕ) (d : words.Name) → j < length ys → x ≢ get_or ys j d) → list_any (bytes_eq x) ys ≡ false
none_of x [] h = refl
none_of x (y ∷ ys) h = rw (apart x y (bytes_eq x y) refl (h 0 x (omega arith)), none_of x ys (λ j d l. h (suc j) d (omega (arith, l)))) refl

distinct : (xs : List words.Name) → AreDistinct xs → are_distinct xs ≡ true
distinct [] h = refl
distinct (x ∷ xs) h =
    rw (none_of x xs (λ j d l. h 0 (suc j) d (omega arith) (omega (arith, l))), distinct xs (λ i j d l m. h (suc i) (suc j) d (omega (arith, l)) (omega (arith, m)))) refl

some_each : (x e : Exprs) → Some x ≡ Some e → are_well_formed x ≡ true → are_well_formed e ≡ true
some_each x e q k = let same : x ≡ e = cc in rw (sym same) k

some_arms : (x e : x.Arms) → Some x ≡ Some e → arms_well_formed x ≡ true → arms_well_formed e ≡ true
some_arms x e q k = let same : x ≡ e = cc in rw (sym same) k

some_updates : (x e : x.Updates) → Some x ≡ Some e → updates_well_formed x ≡ true → updates_well_formed e ≡ true
some_updates x e q k = let same : x ≡ e = cc in rw (sym same) k

-- fields under the same names
abbrev pub AreFormFields : List words.Name → x.Fields → Type 0
AreFormFields ns xs = (fields_well_formed xs ≡ true) × (field_names xs ≡ ns)

-- the arms that end a CASE
abbrev pub AreFormLast : Option x.Arms → Type 0
AreFormLast last = (xs : x.Arms) → last ≡ Some xs → arms_well_formed xs ≡ true

record_form : (ns : List words.Name) (xs : x.Fields) → AreDistinct ns → AreFormFields ns xs → (are_distinct (field_names xs) && fields_well_formed xs) ≡ true
record_form ns xs h f = rw (f.1, distinct ns h, f.0) refl

mutual
  pub expand_form : (t : Tree) (ms : List words.Name) (s : scopes.Scope) → IsWellScoped ms s t → (σ : Scope) (d : ℕ) → IsFormScope σ → (e : Expr) → expand t σ d ≡ Some e → IsForm e
  expand_form (Name w) ms s h σ d g e q = g w.word (place_of w.place) [] d tt e q
  expand_form (Call w es) ms s h σ d g e q = g w.word (place_of w.place) (arguments es σ) d (arguments_form es ms s h.1 σ g) e q
  expand_form (Number p n) ms s h σ d g e q = number_form (place_of p) n (nat_le n largest) e q
  expand_form (Text p cs) ms s h σ d g e q = some (constant (place_of p) (value.text cs)) e q (refl, refl)
  expand_form (Word p c) ms s h σ d g e q = some (constant_of (place_of p) c) e q (word_form (place_of p) c)
  expand_form (At p) ms s h σ d g e q = g at_name (place_of p) [] d tt e q
  expand_form (Paren p a) ms s h σ d g e q = expand_form a ms s h σ d g e q
  expand_form (Prime p a) ms s h σ d g e q =
      let i = inv (expand a σ d) (primes Once) e q in
      let like = primes_form Once i.0 e i.2 in
      let f = expand_form a ms s h σ d g i.0 i.1 in
      (like.0 ∙ f.0, like.1 ∙ f.1)
  expand_form (Listing p brackets.Set es) ms s h σ d g e q =
      let i = inv (expand_each es σ d) (λ xs. Some (enumerated (place_of p) xs)) e q in
      some (enumerated (place_of p) i.0) e i.2 (refl, each_form es ms s h σ d g i.0 i.1)
  expand_form (Listing p brackets.Tuple es) ms s h σ d g e q =
      let i = inv (expand_each es σ d) (λ xs. Some (tuple (place_of p) xs)) e q in
      some (tuple (place_of p) i.0) e i.2 (refl, each_form es ms s h σ d g i.0 i.1)
  expand_form (Index p f es) ms s h σ d g e q =
      let i = inv (expand f σ d) (λ y. expand_key es σ d >>= λ z. Some (binary (place_of p) x.Apply y z)) e q in
      let j = inv (expand_key es σ d) (λ z. Some (binary (place_of p) x.Apply i.0 z)) e i.2 in
      some (binary (place_of p) x.Apply i.0 j.0) e j.2 (two_form w.Apply (place_of p) i.0 j.0 (expand_form f ms s h.0 σ d g i.0 i.1) (key_form es ms s h.1 σ d g j.0 j.1))
  expand_form (Field p a w) ms s h σ d g e q =
      let i = inv (expand a σ d) (λ u. Some (unary (place_of p) (x.Field w.word) u)) e q in
      some (unary (place_of p) (x.Field w.word) i.0) e i.2 (refl, (expand_form a ms s h σ d g i.0 i.1).1)
  expand_form (Unary p op a) ms s h σ d g e q =
      let i = inv (expand a σ d) (prefixed op (place_of p)) e q in
      prefixed_form op (place_of p) i.0 (expand_form a ms s h.1 σ d g i.0 i.1) e i.2
  expand_form (Binary p op w a b) ms s h σ d g e q =
      let f = inv (infix_for op) (λ f. expand a σ d >>= λ x. expand b σ d >>= λ y. Some (two f (place_of p) x y)) e q in
      let i = inv (expand a σ d) (λ x. expand b σ d >>= λ y. Some (two f.0 (place_of p) x y)) e f.2 in
      let j = inv (expand b σ d) (λ y. Some (two f.0 (place_of p) i.0 y)) e i.2 in
      some (two f.0 (place_of p) i.0 j.0) e j.2 (two_form f.0 (place_of p) i.0 j.0 (expand_form a ms s h.1 σ d g i.0 i.1) (expand_form b ms s h.2 σ d g j.0 j.1))
  expand_form (Quantified p q bs a) ms s h σ d g e r =
      nested_form (of_quantifier q) (place_of p) (binds_of bs σ) (expand a) (λ τ c. expand_form a ms (s ++ plain (bound_names bs)) h.2 τ c) (binds_form bs ms s h.1 σ g) σ d g e r
  expand_form (Choose p v b a) ms s h σ d g e q =
      nested_form binds.Choose (place_of p) (bind_entry v (expand b σ) []) (expand a) (λ τ c. expand_form a ms (s ++ plain (words.words (names_of v))) h.2 τ c) (entry_form v (expand b σ) [] (λ c. expand_form b ms s h.1 σ c g) tt) σ d g e q
  expand_form (Filter p v b a) ms s h σ d g e q =
      nested_form binds.Filter (place_of p) (bind_entry v (expand b σ) []) (expand a) (λ τ c. expand_form a ms (s ++ plain (words.words (names_of v))) h.2 τ c) (entry_form v (expand b σ) [] (λ c. expand_form b ms s h.1 σ c g) tt) σ d g e q
  expand_form (Image p a bs) ms s h σ d g e q =
      gathered_form gathers.Image (place_of p) (binds_of bs σ) (expand a) (λ τ c. expand_form a ms (s ++ plain (bound_names bs)) h.2 τ c) σ d g (binds_form bs ms s h.1 σ g) e q
  expand_form (Function p bs a) ms s h σ d g e q =
      gathered_form gathers.Function (place_of p) (binds_of bs σ) (expand a) (λ τ c. expand_form a ms (s ++ plain (bound_names bs)) h.2 τ c) σ d g (binds_form bs ms s h.1 σ g) e q
  expand_form (FunctionSet p a b) ms s h σ d g e q =
      let i = inv (expand a σ d) (λ x. expand b σ d >>= λ y. Some (functions (place_of p) x y)) e q in
      let j = inv (expand b σ d) (λ y. Some (functions (place_of p) i.0 y)) e i.2 in
      some (functions (place_of p) i.0 j.0) e j.2 (two_form w.Functions (place_of p) i.0 j.0 (expand_form a ms s h.0 σ d g i.0 i.1) (expand_form b ms s h.1 σ d g j.0 j.1))
  expand_form (Record p fs) ms s h σ d g e q =
      let i = inv (expand_fields fs σ d) (λ xs. Some (record_of (place_of p) xs)) e q in
      some (record_of (place_of p) i.0) e i.2 (refl, record_form (scopes.field_names fs) i.0 h.0 (fields_form fs ms s h.1 σ d g i.0 i.1))
  expand_form (RecordSet p fs) ms s h σ d g e q =
      let i = inv (expand_fields fs σ d) (λ xs. Some (records (place_of p) xs)) e q in
      some (records (place_of p) i.0) e i.2 (refl, record_form (scopes.field_names fs) i.0 h.0 (fields_form fs ms s h.1 σ d g i.0 i.1))
  expand_form (Product p a es) ms s h σ d g e q =
      let i = inv (expand a σ d) (λ x. expand_each es σ d >>= λ xs. Some (product (place_of p) (more_exprs x xs))) e q in
      let j = inv (expand_each es σ d) (λ xs. Some (product (place_of p) (more_exprs i.0 xs))) e i.2 in
      some (product (place_of p) (more_exprs i.0 j.0)) e j.2 (refl, rw ((expand_form a ms s h.0 σ d g i.0 i.1).1) (each_form es ms s h.1 σ d g j.0 j.1))
  expand_form (Except p f us) ms s h σ d g e q =
      let i = inv (expand f σ d) (λ x. expand_updates us σ d >>= λ ys. Some (except (place_of p) x ys)) e q in
      let j = inv (expand_updates us σ d) (λ ys. Some (except (place_of p) i.0 ys)) e i.2 in
      some (except (place_of p) i.0 j.0) e j.2 (refl, rw ((expand_form f ms s h.0 σ d g i.0 i.1).1) (updates_form us ms s h.1 σ d g j.0 j.1))
  expand_form (Action p steps.Box a u) ms s h σ d g e q =
      let i = inv (expand a σ d) (λ x. (expand u σ d >>= unchanged (place_of (place u))) >>= λ y. Some (two w.Or (place_of p) x y)) e q in
      let j = inv (expand u σ d >>= unchanged (place_of (place u))) (λ y. Some (two w.Or (place_of p) i.0 y)) e i.2 in
      let m = inv (expand u σ d) (unchanged (place_of (place u))) j.0 j.1 in
      let kept = unchanged_form (place_of (place u)) m.0 j.0 (expand_form u ms s h.1 σ d g m.0 m.1).1 m.2 in
      some (two w.Or (place_of p) i.0 j.0) e j.2 (two_form w.Or (place_of p) i.0 j.0 (expand_form a ms s h.0 σ d g i.0 i.1) kept)
  expand_form (Action p steps.Angle a u) ms s h σ d g e q =
      let i = inv (expand a σ d) (λ x. (expand u σ d >>= changed (place_of (place u))) >>= λ y. Some (two w.And (place_of p) x y)) e q in
      let j = inv (expand u σ d >>= changed (place_of (place u))) (λ y. Some (two w.And (place_of p) i.0 y)) e i.2 in
      let m = inv (expand u σ d) (changed (place_of (place u))) j.0 j.1 in
      let moved = changed_form (place_of (place u)) m.0 (expand_form u ms s h.1 σ d g m.0 m.1) j.0 m.2 in
      some (two w.And (place_of p) i.0 j.0) e j.2 (two_form w.And (place_of p) i.0 j.0 (expand_form a ms s h.0 σ d g i.0 i.1) moved)
  expand_form (Fair p f u a) ms s h σ d g e q = cc
  expand_form (If p a b c) ms s k σ d g e q =
      let i = inv (expand a σ d) (λ x. expand b σ d >>= λ y. expand c σ d >>= λ z. Some (conditional (place_of p) x y z)) e q in
      let j = inv (expand b σ d) (λ y. expand c σ d >>= λ z. Some (conditional (place_of p) i.0 y z)) e i.2 in
      let l = inv (expand c σ d) (λ z. Some (conditional (place_of p) i.0 j.0 z)) e j.2 in
      some (conditional (place_of p) i.0 j.0 l.0) e l.2
      (three_form h.If (place_of p) i.0 j.0 l.0 (expand_form a ms s k.0 σ d g i.0 i.1) (expand_form b ms s k.1 σ d g j.0 j.1) (expand_form c ms s k.2 σ d g l.0 l.1))
  expand_form (Case p arms o) ms s h σ d g e q =
      let i = inv (expand_arms arms (expand_other o σ d) σ d) (λ xs. Some (cases (place_of p) xs)) e q in
      some (cases (place_of p) i.0) e i.2 (refl, arms_form arms ms s h.0 (expand_other o σ d) σ d (other_form o ms s h.1 σ d g) g i.0 i.1)
  expand_form (Let p ds a) ms s h σ d g e q = expand_form a ms (s ++ signatures ds) h.1 (definitions_in ds σ) d (definitions_form ds ms s h.0 σ g) e q
  expand_form (Junction p bullet.And es) ms s h σ d g e q =
      let i = inv (expand_each es σ d) (λ xs. Some (conjunction (place_of p) xs)) e q in
      some (conjunction (place_of p) i.0) e i.2 (refl, each_form es ms s h σ d g i.0 i.1)
  expand_form (Junction p bullet.Or es) ms s h σ d g e q =
      let i = inv (expand_each es σ d) (λ xs. Some (disjunction (place_of p) xs)) e q in
      some (disjunction (place_of p) i.0) e i.2 (refl, each_form es ms s h σ d g i.0 i.1)

  each_form : (ts : Trees) (ms : List words.Name) (s : scopes.Scope) → AreWellScoped ms s ts → (σ : Scope) (d : ℕ) → IsFormScope σ → (es : Exprs) → expand_each ts σ d ≡ Some es → are_well_formed es ≡ true
  each_form none ms s h σ d g es q = some_each no_exprs es q refl
  each_form (more t ts) ms s h σ d g es q =
      let i = inv (expand t σ d) (λ x. expand_each ts σ d >>= λ y. Some (more_exprs x y)) es q in
      let j = inv (expand_each ts σ d) (λ y. Some (more_exprs i.0 y)) es i.2 in
      some_each (more_exprs i.0 j.0) es j.2 (rw ((expand_form t ms s h.0 σ d g i.0 i.1).1) (each_form ts ms s h.1 σ d g j.0 j.1))

  key_form : (ts : Trees) (ms : List words.Name) (s : scopes.Scope) → AreWellScoped ms s ts → (σ : Scope) (d : ℕ) → IsFormScope σ → (e : Expr) → expand_key ts σ d ≡ Some e → IsForm e
  key_form none ms s h σ d g e q = cc
  key_form (more a none) ms s h σ d g e q = expand_form a ms s h.0 σ d g e q
  key_form (more a (more b es)) ms s h σ d g e q =
      let p = place_of (place a) in
      let i = inv (expand a σ d) (λ x. expand b σ d >>= λ y. expand_each es σ d >>= λ xs. Some (tuple p (more_exprs x (more_exprs y xs)))) e q in
      let j = inv (expand b σ d) (λ y. expand_each es σ d >>= λ xs. Some (tuple p (more_exprs i.0 (more_exprs y xs)))) e i.2 in
      let k = inv (expand_each es σ d) (λ xs. Some (tuple p (more_exprs i.0 (more_exprs j.0 xs)))) e j.2 in
      some (tuple p (more_exprs i.0 (more_exprs j.0 k.0))) e k.2
      (refl, rw ((expand_form a ms s h.0 σ d g i.0 i.1).1, (expand_form b ms s h.1.0 σ d g j.0 j.1).1) (each_form es ms s h.1.1 σ d g k.0 k.1))

  fields_form : (fs : t.Fields) (ms : List words.Name) (s : scopes.Scope) → AreWellScopedFields ms s fs → (σ : Scope) (d : ℕ) → IsFormScope σ → (xs : x.Fields) → expand_fields fs σ d ≡ Some xs → AreFormFields (scopes.field_names fs) xs
  fields_form t.no_fields ms s h σ d g xs q = let same : x.no_fields ≡ xs = cc in rw (sym same) (refl, refl)
  fields_form (t.field w a fs) ms s h σ d g xs q =
      let i = inv (expand a σ d) (λ y. expand_fields fs σ d >>= λ ys. Some (x.more_fields w.word y ys)) xs q in
      let j = inv (expand_fields fs σ d) (λ ys. Some (x.more_fields w.word i.0 ys)) xs i.2 in
      let same : x.more_fields w.word i.0 j.0 ≡ xs = cc in
      let rest = fields_form fs ms s h.1 σ d g j.0 j.1 in
      rw (sym same, (expand_form a ms s h.0 σ d g i.0 i.1).1, rest.0, rest.1) (refl, refl)

  step_form : (k : t.Key) (ms : List words.Name) (s : scopes.Scope) → IsWellScopedKey ms s k → (σ : Scope) (d : ℕ) → IsFormScope σ → (e : Expr) → expand_step k σ d ≡ Some e → IsForm e
  step_form (t.AtIndex es) ms s h σ d g e q = key_form es ms s h σ d g e q
  step_form (t.AtField w) ms s h σ d g e q = some (constant (place_of w.place) (value.text w.word)) e q (refl, refl)

  path_form : (ks : t.Keys) (ms : List words.Name) (s : scopes.Scope) → AreWellScopedKeys ms s ks → (σ : Scope) (d : ℕ) → IsFormScope σ → (es : Exprs) → expand_path ks σ d ≡ Some es → are_well_formed es ≡ true
  path_form t.no_keys ms s h σ d g es q = some_each no_exprs es q refl
  path_form (t.key k ks) ms s h σ d g es q =
      let i = inv (expand_step k σ d) (λ y. expand_path ks σ d >>= λ ys. Some (more_exprs y ys)) es q in
      let j = inv (expand_path ks σ d) (λ ys. Some (more_exprs i.0 ys)) es i.2 in
      some_each (more_exprs i.0 j.0) es j.2 (rw ((step_form k ms s h.0 σ d g i.0 i.1).1) (path_form ks ms s h.1 σ d g j.0 j.1))

  updates_form : (us : t.Updates) (ms : List words.Name) (s : scopes.Scope) → AreWellScopedUpdates ms s us → (σ : Scope) (d : ℕ) → IsFormScope σ → (xs : x.Updates) → expand_updates us σ d ≡ Some xs → updates_well_formed xs ≡ true
  updates_form t.no_updates ms s h σ d g xs q = some_updates x.no_updates xs q refl
  updates_form (t.update ks a us) ms s h σ d g xs q =
      let τ = with_name at_name (bound_name d) σ in
      let i = inv (expand_path ks σ d) (λ ys. expand a τ (d + 1) >>= λ z. expand_updates us σ d >>= λ zs. Some (x.more_updates ys z zs)) xs q in
      let j = inv (expand a τ (d + 1)) (λ z. expand_updates us σ d >>= λ zs. Some (x.more_updates i.0 z zs)) xs i.2 in
      let k = inv (expand_updates us σ d) (λ zs. Some (x.more_updates i.0 j.0 zs)) xs j.2 in
      some_updates (x.more_updates i.0 j.0 k.0) xs k.2
      (rw (path_form ks ms s h.0 σ d g i.0 i.1, (expand_form a ms s h.1 τ (d + 1) (under_name d at_name σ g) j.0 j.1).1) (updates_form us ms s h.2 σ d g k.0 k.1))

  arms_form : (arms : t.Arms) (ms : List words.Name) (s : scopes.Scope) → AreWellScopedArms ms s arms → (last : Option x.Arms) (σ : Scope) (d : ℕ) → AreFormLast last → IsFormScope σ → (xs : x.Arms) → expand_arms arms last σ d ≡ Some xs → arms_well_formed xs ≡ true
  arms_form t.no_arms ms s h last σ d l g xs q = l xs q
  arms_form (t.arm a b arms) ms s h last σ d l g xs q =
      let i = inv (expand a σ d) (λ y. expand b σ d >>= λ z. expand_arms arms last σ d >>= λ zs. Some (x.more_arms y z zs)) xs q in
      let j = inv (expand b σ d) (λ z. expand_arms arms last σ d >>= λ zs. Some (x.more_arms i.0 z zs)) xs i.2 in
      let k = inv (expand_arms arms last σ d) (λ zs. Some (x.more_arms i.0 j.0 zs)) xs j.2 in
      some_arms (x.more_arms i.0 j.0 k.0) xs k.2
      (rw ((expand_form a ms s h.0 σ d g i.0 i.1).1, (expand_form b ms s h.1 σ d g j.0 j.1).1) (arms_form arms ms s h.2 last σ d l g k.0 k.1))

  other_form : (o : t.Other) (ms : List words.Name) (s : scopes.Scope) → IsWellScopedOther ms s o → (σ : Scope) (d : ℕ) → IsFormScope σ → AreFormLast (expand_other o σ d)
  other_form t.no_other ms s h σ d g xs q = some_arms x.no_arms xs q refl
  other_form (t.other a) ms s h σ d g xs q =
      let i = inv (expand a σ d) (λ y. Some (x.other y)) xs q in
      some_arms (x.other i.0) xs i.2 (expand_form a ms s h σ d g i.0 i.1).1

  arguments_form : (ts : Trees) (ms : List words.Name) (s : scopes.Scope) → AreWellScoped ms s ts → (σ : Scope) → IsFormScope σ → AreFormArguments (arguments ts σ)
  arguments_form none ms s h σ g = tt
  arguments_form (more t ts) ms s h σ g = ((λ c. expand_form t ms s h.0 σ c g), arguments_form ts ms s h.1 σ g)

  binds_form : (bs : Binders) (ms : List words.Name) (s : scopes.Scope) → HaveWellScopedSets ms s bs → (σ : Scope) → IsFormScope σ → AreFormBinds (binds_of bs σ)
  binds_form unbound ms s h σ g = tt
  binds_form (t.bound w a bs) ms s h σ g = entry_form w (expand a σ) (binds_of bs σ) (λ c. expand_form a ms s h.0 σ c g) (binds_form bs ms s h.1 σ g)

  definitions_form : (ds : Definitions) (ms : List words.Name) (s : scopes.Scope) → AreWellScopedDefinitions ms s ds → (σ : Scope) → IsFormScope σ → IsFormScope (definitions_in ds σ)
  definitions_form undefined ms s h σ g = g
  definitions_form (defined def ds) ms s h σ g = definitions_form ds ms (s ++ signature def ∷ []) h.1 (definition_in def σ) (definition_form def ms s h.0 σ g)

  pub definition_form : (def : Definition) (ms : List words.Name) (s : scopes.Scope) → IsWellScopedDefinition ms s def → (σ : Scope) → IsFormScope σ → IsFormScope (definition_in def σ)
  definition_form (DefinesOperator w ps a) ms s h σ g =
      name_form w.word (operator ps (expand a) σ) σ (operator_form ps (expand a) σ g (λ τ c. expand_form a ms (s ++ plain (words.words ps)) h.2 τ c)) g
  definition_form (DefinesFunction w bs a) ms s h σ g =
      let f = gathered gathers.Function (place_of w.place) (binds_of bs σ) (expand a) σ in
      let form : IsFormArgument f = λ c. gathered_form gathers.Function (place_of w.place) (binds_of bs σ) (expand a) (λ τ b. expand_form a ms (s ++ plain (bound_names bs)) h.3 τ b) σ c g (binds_form bs ms s h.2 σ g) in
      name_form w.word (parameter f) σ (alone_form (λ p c. f c) (λ p c. form c)) g
