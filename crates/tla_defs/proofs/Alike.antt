-- An expression says the same under scopes that say the same of the names in it.
use Rattle.std.proofs.Common.{◌≡◌, ◌∙◌, ℕ, ◌+◌, List, [], ◌∷◌, ◌++◌, length, refl, Option, Some}
use Rattle.std.specs.Prelude.{if◌then◌else◌}
use Rattle.std.specs.Str.{bytes_eq}
use Rattle.tla_lex.specs.declared.token.Place as text
use Rattle.tla_core.specs.declared.fault.Place.{Place}
use Rattle.tla_core.specs.Expr as e
use Rattle.tla_core.specs.Expr.{Expr, unary, binary, enumerated, tuple, conjunction, disjunction, conditional, cases, functions, record_of, records, product, except, image, function, no_exprs, more_exprs}
use Rattle.tla_core.specs.Patterns.{items_in}
use Rattle.tla_tree.specs.declared.word.Written.{Written}
use Rattle.tla_tree.specs.declared.tree.Bullet.TheVariants as bullet
use Rattle.tla_tree.specs.declared.tree.Brackets.TheVariants as brackets
use Rattle.tla_tree.specs.declared.tree.Step.TheVariants as steps
use Rattle.tla_tree.specs.Places.{place}
use Rattle.tla_tree.specs.Tree as t
use Rattle.tla_tree.specs.Tree.{Tree, Trees, none, more, Binders, unbound, Arms, no_arms, arm, Other, no_other, other, Definition, DefinesOperator, DefinesFunction, Definitions, undefined, defined, Fields, no_fields, field, Key, AtIndex, AtField, Keys, no_keys, key, Updates, no_updates, update, Pattern}
use Rattle.tla_items.specs.References.{names_in, names_each, names_sets, names_arms, names_other, names_fields, names_key, names_keys, names_updates, names_definition, names_definitions}
use Rattle.tla_scopes.specs.declared.primes.Primes.TheVariants.{Once}
use Rattle.tla_scopes.specs.Lists.{exprs}
use Rattle.tla_scopes.specs.Maybe.{◌>>=◌, each_of}
use Rattle.tla_scopes.specs.Places.{Name, place_of, at_name}
use Rattle.tla_scopes.specs.Primes.{primes}
use Rattle.tla_scopes.specs.Unchanged.{unchanged, changed}
use Rattle.tla_scopes.specs.Nodes.{two, binding}
use Rattle.tla_scopes.specs.Operators.{infix_for}
use Rattle.tla_scopes.specs.Meanings.{Argument, Meaning, Scope, with_name, bound_name, parameter, with_parameters, operator}
use Rattle.tla_scopes.specs.Bound.{Names, named, tupled, Bind, bind_entry, last_or, with_each, opening, under_openings, under, nested, with_elements, with_items, openings, set_for}
use Rattle.tla_scopes.specs.Expand.{expand, expand_each, expand_key, expand_arms, expand_other, expand_fields, expand_step, expand_path, expand_updates, arguments, binds_of, definitions_in, definition_in, of_quantifier, prefixed}

-- scopes that say the same of these names, and of `@`
abbrev pub Alike : List Name → Scope → Scope → Type 0
Alike [] σ τ = σ at_name ≡ τ at_name
Alike (x ∷ xs) σ τ = (σ x ≡ τ x) × Alike xs σ τ

at_alike : (xs : List Name) (σ τ : Scope) → Alike xs σ τ → σ at_name ≡ τ at_name
at_alike [] σ τ h = h
at_alike (x ∷ xs) σ τ h = at_alike xs σ τ h.1

left : (xs ys : List Name) (σ τ : Scope) → Alike (xs ++ ys) σ τ → Alike xs σ τ
left [] ys σ τ h = at_alike ys σ τ h
left (x ∷ xs) ys σ τ h = (h.0, left xs ys σ τ h.1)

right : (xs ys : List Name) (σ τ : Scope) → Alike (xs ++ ys) σ τ → Alike ys σ τ
right [] ys σ τ h = h
right (x ∷ xs) ys σ τ h = right xs ys σ τ h.1

-- with a name more of one meaning
pub more_alike : (xs : List Name) (x : Name) (m n : Meaning) (σ τ : Scope) → m ≡ n → Alike xs σ τ → Alike xs (with_name x m σ) (with_name x n τ)
more_alike [] x m n σ τ e h = λ i. if bytes_eq x at_name then e i else h i
more_alike (y ∷ ys) x m n σ τ e h = ((λ i. if bytes_eq x y then e i else h.0 i), more_alike ys x m n σ τ e h.1)

-- an argument that says the same under scopes that are alike of these names
abbrev IsSame : List Name → (Scope → Argument) → Type 0
IsSame xs body = (σ τ : Scope) → Alike xs σ τ → body σ ≡ body τ

-- ---- forms that bind names
each_alike : (xs : List Name) (ws : List Written) (d : ℕ) (σ τ : Scope) → Alike xs σ τ → Alike xs (with_each ws d σ) (with_each ws d τ)
each_alike xs [] d σ τ h = h
each_alike xs (w ∷ ws) d σ τ h = each_alike xs ws (d + 1) (with_name w.word (bound_name d) σ) (with_name w.word (bound_name d) τ) (more_alike xs w.word (bound_name d) (bound_name d) σ τ refl h)

under_same : (xs : List Name) (p : Place) (ns : Names) (body : Scope → Argument) → IsSame xs body → IsSame xs (under p ns body)
under_same xs p (named x) body h σ τ a = λ i d. h (with_name x (bound_name d) σ) (with_name x (bound_name d) τ) (more_alike xs x (bound_name d) (bound_name d) σ τ refl a) i (d + 1)
under_same xs p (tupled ws) body h σ τ a = λ i d. under_openings p (opening d ws ∷ []) (h (with_each ws (d + 1) σ) (with_each ws (d + 1) τ) (each_alike xs ws (d + 1) σ τ a) i (d + 1 + length ws))

last_same : (xs : List Name) (bs : List Bind) (body next : Scope → Argument) → IsSame xs body → IsSame xs next → IsSame xs (last_or bs body next)
last_same xs [] body next h k = h
last_same xs (b ∷ bs) body next h k = k

nested_same : (xs : List Name) (f : _) (p : Place) (bs : List Bind) (body : Scope → Argument) → IsSame xs body → IsSame xs (nested f p bs body)
nested_same xs f p [] body h σ τ a = refl
nested_same xs f p (b ∷ bs) body h σ τ a =
    let inner : IsSame xs (last_or bs body (nested f p bs body)) = last_same xs bs body (nested f p bs body) h (nested_same xs f p bs body h) in
    let same : under p b.0 (last_or bs body (nested f p bs body)) σ ≡ under p b.0 (last_or bs body (nested f p bs body)) τ = under_same xs p b.0 (last_or bs body (nested f p bs body)) inner σ τ a in
    λ i d. b.1 d >>= λ x. same i d >>= λ y. Some (binding f p x y)

nested_alike : (xs : List Name) (f : _) (p : Place) (bs cs : List Bind) (body : Scope → Argument) → bs ≡ cs → IsSame xs body → (σ τ : Scope) → Alike xs σ τ → nested f p bs body σ ≡ nested f p cs body τ
nested_alike xs f p bs cs body e h σ τ a = (λ i. nested f p (e i) body σ) ∙ nested_same xs f p cs body h σ τ a

elements_alike : (xs : List Name) (bs : List Bind) (d : ℕ) (σ τ : Scope) → Alike xs σ τ → Alike xs (with_elements bs d σ) (with_elements bs d τ)
elements_alike xs [] d σ τ h = h
elements_alike xs ((named x, s) ∷ bs) d σ τ h = elements_alike xs bs (d + 1) (with_name x (bound_name d) σ) (with_name x (bound_name d) τ) (more_alike xs x (bound_name d) (bound_name d) σ τ refl h)
elements_alike xs ((tupled ws, s) ∷ bs) d σ τ h = elements_alike xs bs (d + 1) σ τ h

items_alike : (xs : List Name) (bs : List Bind) (d : ℕ) (σ τ : Scope) → Alike xs σ τ → Alike xs (with_items bs d σ) (with_items bs d τ)
items_alike xs [] d σ τ h = h
items_alike xs ((named x, s) ∷ bs) d σ τ h = items_alike xs bs d σ τ h
items_alike xs ((tupled ws, s) ∷ bs) d σ τ h = items_alike xs bs (d + length ws) (with_each ws d σ) (with_each ws d τ) (each_alike xs ws d σ τ h)

-- what is made of the sets of all elements, and of a body under them
abbrev over : (List Expr → Expr → Expr) → Place → List Bind → (Scope → Argument) → Scope → Argument
over make p bs body σ d = each_of (λ (b : Bind). set_for p b.0 (b.1 d)) bs >>= λ ss.
    under_openings p (openings bs d) (body (with_items bs (d + length bs) (with_elements bs d σ)) (d + length bs + items_in (openings bs d))) >>= λ y. Some (make ss y)

over_same : (xs : List Name) (make : List Expr → Expr → Expr) (p : Place) (bs : List Bind) (body : Scope → Argument) → IsSame xs body → IsSame xs (over make p bs body)
over_same xs make p bs body h σ τ a =
    let inner = λ (d : ℕ). items_alike xs bs (d + length bs) (with_elements bs d σ) (with_elements bs d τ) (elements_alike xs bs d σ τ a) in
    λ i d. each_of (λ (b : Bind). set_for p b.0 (b.1 d)) bs >>= λ ss.
    under_openings p (openings bs d) (h (with_items bs (d + length bs) (with_elements bs d σ)) (with_items bs (d + length bs) (with_elements bs d τ)) (inner d) i (d + length bs + items_in (openings bs d))) >>= λ y. Some (make ss y)

over_alike : (xs : List Name) (make : List Expr → Expr → Expr) (p : Place) (bs cs : List Bind) (body : Scope → Argument) → bs ≡ cs → IsSame xs body → (σ τ : Scope) → Alike xs σ τ → over make p bs body σ ≡ over make p cs body τ
over_alike xs make p bs cs body e h σ τ a = (λ i. over make p (e i) body σ) ∙ over_same xs make p cs body h σ τ a

-- ---- definitions
parameters_same : (xs : List Name) (ws : List Written) (args : List Argument) (body : Scope → Argument) → IsSame xs body → (d : ℕ) (σ τ : Scope) → Alike xs σ τ
    → (with_parameters ws args σ >>= λ ρ. body ρ d) ≡ (with_parameters ws args τ >>= λ ρ. body ρ d)
parameters_same xs [] [] body h d σ τ a = λ i. h σ τ a i d
parameters_same xs [] (b ∷ args) body h d σ τ a = refl
parameters_same xs (w ∷ ws) [] body h d σ τ a = refl
parameters_same xs (w ∷ ws) (b ∷ args) body h d σ τ a = parameters_same xs ws args body h d (with_name w.word (parameter b) σ) (with_name w.word (parameter b) τ) (more_alike xs w.word (parameter b) (parameter b) σ τ refl a)

pub operator_alike : (xs : List Name) (ws : List Written) (body : Scope → Argument) → IsSame xs body → (σ τ : Scope) → Alike xs σ τ → operator ws body σ ≡ operator ws body τ
operator_alike xs ws body h σ τ a = λ i p args d. parameters_same xs ws args body h d σ τ a i

-- ---- expressions
function_same : (p : text.Place) (bs : Binders) (a : Tree) (σ τ : Scope) → binds_of bs σ ≡ binds_of bs τ → IsSame (names_in a) (expand a) → Alike (names_in a) σ τ → expand (t.Function p bs a) σ ≡ expand (t.Function p bs a) τ
function_same p bs a σ τ e h k =
    over_alike (names_in a) (λ ss y. function (place_of p) (exprs ss) y) (place_of p) (binds_of bs σ) (binds_of bs τ) (expand a) e h σ τ k

image_same : (p : text.Place) (bs : Binders) (a : Tree) (σ τ : Scope) → binds_of bs σ ≡ binds_of bs τ → IsSame (names_in a) (expand a) → Alike (names_in a) σ τ → expand (t.Image p a bs) σ ≡ expand (t.Image p a bs) τ
image_same p bs a σ τ e h k =
    over_alike (names_in a) (λ ss y. image (place_of p) (exprs ss) y) (place_of p) (binds_of bs σ) (binds_of bs τ) (expand a) e h σ τ k

choose_same : (p : text.Place) (w : Pattern) (s a : Tree) (σ τ : Scope) → expand s σ ≡ expand s τ → IsSame (names_in a) (expand a) → Alike (names_in a) σ τ → expand (t.Choose p w s a) σ ≡ expand (t.Choose p w s a) τ
choose_same p w s a σ τ e h k =
    let each : (f : _) → nested f (place_of p) (bind_entry w (expand s σ) []) (expand a) σ ≡ nested f (place_of p) (bind_entry w (expand s τ) []) (expand a) τ =
    λ f. nested_alike (names_in a) f (place_of p) (bind_entry w (expand s σ) []) (bind_entry w (expand s τ) []) (expand a) (λ i. bind_entry w (e i) []) h σ τ k in
    search each

filter_same : (p : text.Place) (w : Pattern) (s a : Tree) (σ τ : Scope) → expand s σ ≡ expand s τ → IsSame (names_in a) (expand a) → Alike (names_in a) σ τ → expand (t.Filter p w s a) σ ≡ expand (t.Filter p w s a) τ
filter_same p w s a σ τ e h k =
    let each : (f : _) → nested f (place_of p) (bind_entry w (expand s σ) []) (expand a) σ ≡ nested f (place_of p) (bind_entry w (expand s τ) []) (expand a) τ =
    λ f. nested_alike (names_in a) f (place_of p) (bind_entry w (expand s σ) []) (bind_entry w (expand s τ) []) (expand a) (λ i. bind_entry w (e i) []) h σ τ k in
    search each

-- arms before the last ones
abbrev arms_before : Arms → Scope → Option e.Arms → ℕ → Option e.Arms
arms_before as' σ last d = expand_arms as' last σ d

mutual
  pub expand_alike : (t : Tree) (σ τ : Scope) → Alike (names_in t) σ τ → expand t σ ≡ expand t τ
  expand_alike (t.Name w) σ τ h = λ i d. h.0 i (place_of w.place) [] d
  expand_alike (t.Call w es) σ τ h = let as' = arguments_alike es σ τ h.1 in λ i d. h.0 i (place_of w.place) (as' i) d
  expand_alike (t.Number p n) σ τ h = refl
  expand_alike (t.Text p s) σ τ h = refl
  expand_alike (t.Word p c) σ τ h = refl
  expand_alike (t.At p) σ τ h = λ i d. h i (place_of p) [] d
  expand_alike (t.Paren p a) σ τ h = expand_alike a σ τ h
  expand_alike (t.Prime p a) σ τ h = let s = expand_alike a σ τ h in λ i d. s i d >>= primes Once
  expand_alike (t.Listing p brackets.Set es) σ τ h = let s = each_alike_in es σ τ h in λ i d. s i d >>= λ xs. Some (enumerated (place_of p) xs)
  expand_alike (t.Listing p brackets.Tuple es) σ τ h = let s = each_alike_in es σ τ h in λ i d. s i d >>= λ xs. Some (tuple (place_of p) xs)
  expand_alike (t.Index p f es) σ τ h =
      let s = expand_alike f σ τ (left (names_in f) (names_each es) σ τ h) in
      let k = key_alike es σ τ (right (names_in f) (names_each es) σ τ h) in
      λ i d. s i d >>= λ x. k i d >>= λ y. Some (binary (place_of p) e.Apply x y)
  expand_alike (t.Field p a w) σ τ h = let s = expand_alike a σ τ h in λ i d. s i d >>= λ x. Some (unary (place_of p) (e.Field w.word) x)
  expand_alike (t.Unary p op a) σ τ h = let s = expand_alike a σ τ h in λ i d. s i d >>= prefixed op (place_of p)
  expand_alike (t.Binary p op w a b) σ τ h =
      let l = expand_alike a σ τ (left (names_in a) (names_in b) σ τ h) in
      let r = expand_alike b σ τ (right (names_in a) (names_in b) σ τ h) in
      λ i d. infix_for op >>= λ f. l i d >>= λ x. r i d >>= λ y. Some (two f (place_of p) x y)
  expand_alike (t.Quantified p q bs a) σ τ h =
      let b = binds_alike bs σ τ (left (names_sets bs) (names_in a) σ τ h) in
      nested_alike (names_in a) (of_quantifier q) (place_of p) (binds_of bs σ) (binds_of bs τ) (expand a) b (expand_alike a) σ τ (right (names_sets bs) (names_in a) σ τ h)
  expand_alike (t.Choose p w s a) σ τ h = choose_same p w s a σ τ (expand_alike s σ τ (left (names_in s) (names_in a) σ τ h)) (expand_alike a) (right (names_in s) (names_in a) σ τ h)
  expand_alike (t.Filter p w s a) σ τ h = filter_same p w s a σ τ (expand_alike s σ τ (left (names_in s) (names_in a) σ τ h)) (expand_alike a) (right (names_in s) (names_in a) σ τ h)
  expand_alike (t.Image p a bs) σ τ h = image_same p bs a σ τ (binds_alike bs σ τ (left (names_sets bs) (names_in a) σ τ h)) (expand_alike a) (right (names_sets bs) (names_in a) σ τ h)
  expand_alike (t.Function p bs a) σ τ h = function_same p bs a σ τ (binds_alike bs σ τ (left (names_sets bs) (names_in a) σ τ h)) (expand_alike a) (right (names_sets bs) (names_in a) σ τ h)
  expand_alike (t.FunctionSet p s a) σ τ h =
      let l = expand_alike s σ τ (left (names_in s) (names_in a) σ τ h) in
      let r = expand_alike a σ τ (right (names_in s) (names_in a) σ τ h) in
      λ i d. l i d >>= λ x. r i d >>= λ y. Some (functions (place_of p) x y)
  expand_alike (t.Record p fs) σ τ h = let s = fields_alike fs σ τ h in λ i d. s i d >>= λ xs. Some (record_of (place_of p) xs)
  expand_alike (t.RecordSet p fs) σ τ h = let s = fields_alike fs σ τ h in λ i d. s i d >>= λ xs. Some (records (place_of p) xs)
  expand_alike (t.Product p a es) σ τ h =
      let l = expand_alike a σ τ (left (names_in a) (names_each es) σ τ h) in
      let r = each_alike_in es σ τ (right (names_in a) (names_each es) σ τ h) in
      λ i d. l i d >>= λ x. r i d >>= λ xs. Some (product (place_of p) (more_exprs x xs))
  expand_alike (t.Except p f us) σ τ h =
      let l = expand_alike f σ τ (left (names_in f) (names_updates us) σ τ h) in
      let r = updates_alike us σ τ (right (names_in f) (names_updates us) σ τ h) in
      λ i d. l i d >>= λ x. r i d >>= λ ys. Some (except (place_of p) x ys)
  expand_alike (t.Action p steps.Box a v) σ τ h =
      let l = expand_alike a σ τ (left (names_in a) (names_in v) σ τ h) in
      let r = expand_alike v σ τ (right (names_in a) (names_in v) σ τ h) in
      λ i d. l i d >>= λ x. (r i d >>= unchanged (place_of (place v))) >>= λ y. Some (disjunction (place_of p) (more_exprs x (more_exprs y no_exprs)))
  expand_alike (t.Action p steps.Angle a v) σ τ h =
      let l = expand_alike a σ τ (left (names_in a) (names_in v) σ τ h) in
      let r = expand_alike v σ τ (right (names_in a) (names_in v) σ τ h) in
      λ i d. l i d >>= λ x. (r i d >>= changed (place_of (place v))) >>= λ y. Some (conjunction (place_of p) (more_exprs x (more_exprs y no_exprs)))
  expand_alike (t.Fair p f v a) σ τ h = refl
  expand_alike (t.If p a b c) σ τ h =
      let k = left (names_in a ++ names_in b) (names_in c) σ τ h in
      let l = expand_alike a σ τ (left (names_in a) (names_in b) σ τ k) in
      let m = expand_alike b σ τ (right (names_in a) (names_in b) σ τ k) in
      let r = expand_alike c σ τ (right (names_in a ++ names_in b) (names_in c) σ τ h) in
      λ i d. l i d >>= λ x. m i d >>= λ y. r i d >>= λ z. Some (conditional (place_of p) x y z)
  expand_alike (t.Case p as' o) σ τ h =
      let l = arms_alike as' σ τ (left (names_arms as') (names_other o) σ τ h) in
      let r = other_alike o σ τ (right (names_arms as') (names_other o) σ τ h) in
      λ i d. l i (r i d) d >>= λ xs. Some (cases (place_of p) xs)
  expand_alike (t.Let p ds a) σ τ h =
      expand_alike a (definitions_in ds σ) (definitions_in ds τ) (definitions_alike ds (names_in a) σ τ (left (names_definitions ds) (names_in a) σ τ h) (right (names_definitions ds) (names_in a) σ τ h))
  expand_alike (t.Junction p bullet.And es) σ τ h = let s = each_alike_in es σ τ h in λ i d. s i d >>= λ xs. Some (conjunction (place_of p) xs)
  expand_alike (t.Junction p bullet.Or es) σ τ h = let s = each_alike_in es σ τ h in λ i d. s i d >>= λ xs. Some (disjunction (place_of p) xs)

  each_alike_in : (es : Trees) (σ τ : Scope) → Alike (names_each es) σ τ → expand_each es σ ≡ expand_each es τ
  each_alike_in none σ τ h = refl
  each_alike_in (more a es) σ τ h =
      let l = expand_alike a σ τ (left (names_in a) (names_each es) σ τ h) in
      let r = each_alike_in es σ τ (right (names_in a) (names_each es) σ τ h) in
      λ i d. l i d >>= λ x. r i d >>= λ xs. Some (more_exprs x xs)

  key_alike : (es : Trees) (σ τ : Scope) → Alike (names_each es) σ τ → expand_key es σ ≡ expand_key es τ
  key_alike none σ τ h = refl
  key_alike (more a none) σ τ h = expand_alike a σ τ (left (names_in a) [] σ τ h)
  key_alike (more a (more b es)) σ τ h =
      let k = right (names_in a) (names_in b ++ names_each es) σ τ h in
      let l = expand_alike a σ τ (left (names_in a) (names_in b ++ names_each es) σ τ h) in
      let m = expand_alike b σ τ (left (names_in b) (names_each es) σ τ k) in
      let r = each_alike_in es σ τ (right (names_in b) (names_each es) σ τ k) in
      λ i d. l i d >>= λ x. m i d >>= λ y. r i d >>= λ xs. Some (tuple (place_of (place a)) (more_exprs x (more_exprs y xs)))

  arms_alike : (as' : Arms) (σ τ : Scope) → Alike (names_arms as') σ τ → arms_before as' σ ≡ arms_before as' τ
  arms_alike no_arms σ τ h = refl
  arms_alike (arm g a as') σ τ h =
      let k = left (names_in g ++ names_in a) (names_arms as') σ τ h in
      let l = expand_alike g σ τ (left (names_in g) (names_in a) σ τ k) in
      let m = expand_alike a σ τ (right (names_in g) (names_in a) σ τ k) in
      let r = arms_alike as' σ τ (right (names_in g ++ names_in a) (names_arms as') σ τ h) in
      λ i o d. l i d >>= λ x. m i d >>= λ y. r i o d >>= λ xs. Some (e.more_arms x y xs)

  other_alike : (o : Other) (σ τ : Scope) → Alike (names_other o) σ τ → expand_other o σ ≡ expand_other o τ
  other_alike no_other σ τ h = refl
  other_alike (other a) σ τ h = let s = expand_alike a σ τ h in λ i d. s i d >>= λ x. Some (e.other x)

  fields_alike : (fs : Fields) (σ τ : Scope) → Alike (names_fields fs) σ τ → expand_fields fs σ ≡ expand_fields fs τ
  fields_alike no_fields σ τ h = refl
  fields_alike (field w a fs) σ τ h =
      let l = expand_alike a σ τ (left (names_in a) (names_fields fs) σ τ h) in
      let r = fields_alike fs σ τ (right (names_in a) (names_fields fs) σ τ h) in
      λ i d. l i d >>= λ x. r i d >>= λ xs. Some (e.more_fields w.word x xs)

  step_alike : (k : Key) (σ τ : Scope) → Alike (names_key k) σ τ → expand_step k σ ≡ expand_step k τ
  step_alike (AtIndex es) σ τ h = key_alike es σ τ h
  step_alike (AtField w) σ τ h = refl

  path_alike : (ks : Keys) (σ τ : Scope) → Alike (names_keys ks) σ τ → expand_path ks σ ≡ expand_path ks τ
  path_alike no_keys σ τ h = refl
  path_alike (key k ks) σ τ h =
      let l = step_alike k σ τ (left (names_key k) (names_keys ks) σ τ h) in
      let r = path_alike ks σ τ (right (names_key k) (names_keys ks) σ τ h) in
      λ i d. l i d >>= λ x. r i d >>= λ xs. Some (more_exprs x xs)

  updates_alike : (us : Updates) (σ τ : Scope) → Alike (names_updates us) σ τ → expand_updates us σ ≡ expand_updates us τ
  updates_alike no_updates σ τ h = refl
  updates_alike (update ks a us) σ τ h =
      let k = left (names_keys ks ++ names_in a) (names_updates us) σ τ h in
      let l = path_alike ks σ τ (left (names_keys ks) (names_in a) σ τ k) in
      let inner = right (names_keys ks) (names_in a) σ τ k in
      let m = λ (d : ℕ). expand_alike a (with_name at_name (bound_name d) σ) (with_name at_name (bound_name d) τ) (more_alike (names_in a) at_name (bound_name d) (bound_name d) σ τ refl inner) in
      let r = updates_alike us σ τ (right (names_keys ks ++ names_in a) (names_updates us) σ τ h) in
      λ i d. l i d >>= λ xs. m d i (d + 1) >>= λ y. r i d >>= λ ys. Some (e.more_updates xs y ys)

  arguments_alike : (es : Trees) (σ τ : Scope) → Alike (names_each es) σ τ → arguments es σ ≡ arguments es τ
  arguments_alike none σ τ h = refl
  arguments_alike (more a es) σ τ h =
      let l = expand_alike a σ τ (left (names_in a) (names_each es) σ τ h) in
      let r = arguments_alike es σ τ (right (names_in a) (names_each es) σ τ h) in
      λ i. l i ∷ r i

  binds_alike : (bs : Binders) (σ τ : Scope) → Alike (names_sets bs) σ τ → binds_of bs σ ≡ binds_of bs τ
  binds_alike unbound σ τ h = refl
  binds_alike (t.bound w s bs) σ τ h =
      let l = expand_alike s σ τ (left (names_in s) (names_sets bs) σ τ h) in
      let r = binds_alike bs σ τ (right (names_in s) (names_sets bs) σ τ h) in
      λ i. bind_entry w (l i) (r i)

  definitions_alike : (ds : Definitions) (xs : List Name) (σ τ : Scope) → Alike (names_definitions ds) σ τ → Alike xs σ τ → Alike xs (definitions_in ds σ) (definitions_in ds τ)
  definitions_alike undefined xs σ τ h a = a
  definitions_alike (defined d ds) xs σ τ h a =
      let l = left (names_definition d) (names_definitions ds) σ τ h in
      let r = right (names_definition d) (names_definitions ds) σ τ h in
      definitions_alike ds xs (definition_in d σ) (definition_in d τ) (definition_alike d (names_definitions ds) σ τ l r) (definition_alike d xs σ τ l a)

  definition_alike : (d : Definition) (xs : List Name) (σ τ : Scope) → Alike (names_definition d) σ τ → Alike xs σ τ → Alike xs (definition_in d σ) (definition_in d τ)
  definition_alike (DefinesOperator w ws a) xs σ τ h k =
      more_alike xs w.word (operator ws (expand a) σ) (operator ws (expand a) τ) σ τ (operator_alike (names_in a) ws (expand a) (expand_alike a) σ τ h) k
  definition_alike (DefinesFunction w bs a) xs σ τ h k =
      let s = function_same w.place bs a σ τ (binds_alike bs σ τ (left (names_sets bs) (names_in a) σ τ h)) (expand_alike a) (right (names_sets bs) (names_in a) σ τ h) in
      more_alike xs w.word (parameter (expand (t.Function w.place bs a) σ)) (parameter (expand (t.Function w.place bs a) τ)) σ τ (λ i. parameter (s i)) k

pub function_alike : (p : text.Place) (bs : Binders) (a : Tree) (σ τ : Scope) → Alike (names_sets bs ++ names_in a) σ τ → expand (t.Function p bs a) σ ≡ expand (t.Function p bs a) τ
function_alike p bs a σ τ h = expand_alike (t.Function p bs a) σ τ h
