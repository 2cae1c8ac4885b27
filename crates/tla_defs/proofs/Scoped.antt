-- An expression whose names are in scope says the same in scopes that say the same of the names in scope.
use Rattle.std.proofs.Common.{◌≡◌, ◌∙◌, ℕ, ◌+◌, true, List, [], ◌∷◌, ◌++◌, length, refl, sym, subst, Option, Some, None, append-nil, append_assoc}
use Rattle.std.specs.Str.{bytes_eq}
use Rattle.tla_lex.specs.declared.token.Place as text
use Rattle.tla_core.specs.Expr as e
use Rattle.tla_core.specs.Expr.{Expr, unary, binary, enumerated, tuple, conjunction, disjunction, conditional, cases, functions, record_of, records, product, except, image, function, no_exprs, more_exprs}
use Rattle.tla_tree.specs.declared.word.Written.{Written}
use Rattle.tla_tree.specs.declared.tree.Bullet.TheVariants as bullet
use Rattle.tla_tree.specs.declared.tree.Brackets.TheVariants as brackets
use Rattle.tla_tree.specs.declared.tree.Step.TheVariants as steps
use Rattle.tla_tree.specs.Places.{place}
use Rattle.tla_tree.specs.Tree as t
use Rattle.tla_tree.specs.Tree.{Tree, Trees, none, more, Binders, unbound, Arms, no_arms, arm, Other, no_other, other, Definition, DefinesOperator, DefinesFunction, Definitions, undefined, defined, Fields, no_fields, field, Key, AtIndex, AtField, Keys, no_keys, key, Updates, no_updates, update, Pattern, Each, Tuple, names_of}
use Rattle.tla_config.specs.Names.{words}
use Rattle.tla_names.specs.Maybe.{or_else}
use Rattle.tla_names.specs.Operators.{infix_known, prefix_known, prefix_word}
use Rattle.tla_names.specs.Scope as names
use Rattle.tla_names.specs.Scope.{arity, plain, signature, signatures, bound_names, count}
use Rattle.tla_names.specs.Known.{used, brought, new_name, again, if_not, misused, misused_each, misused_sets, misused_arms, misused_other, misused_fields, misused_key, misused_keys, misused_updates, misused_definition, misused_definitions}
use Rattle.tla_scopes.specs.declared.primes.Primes.TheVariants.{Once}
use Rattle.tla_scopes.specs.Lists.{exprs}
use Rattle.tla_scopes.specs.Maybe.{◌>>=◌}
use Rattle.tla_scopes.specs.Places.{Name, place_of, at_name}
use Rattle.tla_scopes.specs.Primes.{primes}
use Rattle.tla_scopes.specs.Unchanged.{unchanged, changed}
use Rattle.tla_scopes.specs.Nodes.{two}
use Rattle.tla_scopes.specs.Operators.{infix_for}
use Rattle.tla_scopes.specs.Meanings.{Scope, with_name, bound_name, parameter, operator}
use Rattle.tla_scopes.specs.Bound.{bind_entry, nested}
use Rattle.tla_scopes.specs.Expand.{expand, expand_each, expand_key, expand_arms, expand_other, expand_fields, expand_step, expand_path, expand_updates, arguments, binds_of, definitions_in, definition_in, of_quantifier, prefixed}
use Rattle.tla_defs.proofs.Agreeing.{knows, at, is_some_or, if_second, Agree, named_at, agree_name, IsSame, all_names, nested_agree, over_agree, operator_agree, one_entry, bound_all, none_first, none_second, used_known}

-- ---- expressions
function_same : (δ : names.Scope) (p : text.Place) (bs : Binders) (a : Tree) (σ τ : Scope) → binds_of bs σ ≡ binds_of bs τ → IsSame (δ ++ plain (bound_names bs)) (expand a) → Agree δ σ τ → expand (t.Function p bs a) σ ≡ expand (t.Function p bs a) τ
function_same δ p bs a σ τ e h k =
    let body : IsSame (δ ++ plain (all_names (binds_of bs τ))) (expand a) = subst (λ xs. IsSame (δ ++ plain xs) (expand a)) (sym (bound_all bs τ)) h in
    over_agree δ (λ ss y. function (place_of p) (exprs ss) y) (place_of p) (binds_of bs σ) (binds_of bs τ) (expand a) e body σ τ k

image_same : (δ : names.Scope) (p : text.Place) (bs : Binders) (a : Tree) (σ τ : Scope) → binds_of bs σ ≡ binds_of bs τ → IsSame (δ ++ plain (bound_names bs)) (expand a) → Agree δ σ τ → expand (t.Image p a bs) σ ≡ expand (t.Image p a bs) τ
image_same δ p bs a σ τ e h k =
    let body : IsSame (δ ++ plain (all_names (binds_of bs τ))) (expand a) = subst (λ xs. IsSame (δ ++ plain xs) (expand a)) (sym (bound_all bs τ)) h in
    over_agree δ (λ ss y. image (place_of p) (exprs ss) y) (place_of p) (binds_of bs σ) (binds_of bs τ) (expand a) e body σ τ k

entry_same : (δ : names.Scope) (f : _) (p : text.Place) (w : Pattern) (s a : Tree) (σ τ : Scope) → expand s σ ≡ expand s τ → IsSame (δ ++ plain (words (names_of w))) (expand a) → Agree δ σ τ
    → nested f (place_of p) (bind_entry w (expand s σ) []) (expand a) σ ≡ nested f (place_of p) (bind_entry w (expand s τ) []) (expand a) τ
entry_same δ f p w s a σ τ e h k =
    let body : IsSame (δ ++ plain (all_names (bind_entry w (expand s τ) []))) (expand a) = subst (λ xs. IsSame (δ ++ plain xs) (expand a)) (sym (one_entry w (expand s τ))) h in
    nested_agree δ f (place_of p) (bind_entry w (expand s σ) []) (bind_entry w (expand s τ) []) (expand a) (λ i. bind_entry w (e i) []) body σ τ k

-- arms before the last ones
abbrev arms_before : Arms → Scope → Option e.Arms → ℕ → Option e.Arms
arms_before as' σ last d = expand_arms as' last σ d

-- in an update `@` is bound, which was in scope before
at_agree : (δ : names.Scope) (d : ℕ) (σ τ : Scope) → Agree (at δ) σ τ → Agree (at δ) (with_name at_name (bound_name d) σ) (with_name at_name (bound_name d) τ)
at_agree δ d σ τ h = λ y g. named_at (bytes_eq at_name y) (bound_name d) (bound_name d) (σ y) (τ y) refl (λ r. h y g)

pub knows_at : (δ : names.Scope) → knows (at δ) at_name ≡ true
knows_at δ = is_some_or (arity δ at_name) (Some 0) ∙ if_second (knows δ at_name) true refl

module _ (ms : List Name) where
  mutual
    pub scoped : (t : Tree) (δ : names.Scope) → misused ms δ t ≡ None → IsSame (at δ) (expand t)
    scoped (t.Name w) δ m σ τ h = let s = h w.word (used_known δ w 0 m) in λ i d. s i (place_of w.place) [] d
    scoped (t.Call w es) δ m σ τ h =
        let s = h w.word (used_known δ w (count es) (none_first (used δ w (count es)) (misused_each ms δ es) m)) in
        let as' = arguments_scoped es δ (none_second (used δ w (count es)) (misused_each ms δ es) m) σ τ h in
        λ i d. s i (place_of w.place) (as' i) d
    scoped (t.Number p n) δ m σ τ h = refl
    scoped (t.Text p s) δ m σ τ h = refl
    scoped (t.Word p c) δ m σ τ h = refl
    scoped (t.At p) δ m σ τ h = let s = h at_name (knows_at δ) in λ i d. s i (place_of p) [] d
    scoped (t.Paren p a) δ m σ τ h = scoped a δ m σ τ h
    scoped (t.Prime p a) δ m σ τ h = let s = scoped a δ m σ τ h in λ i d. s i d >>= primes Once
    scoped (t.Listing p brackets.Set es) δ m σ τ h = let s = each_scoped es δ m σ τ h in λ i d. s i d >>= λ xs. Some (enumerated (place_of p) xs)
    scoped (t.Listing p brackets.Tuple es) δ m σ τ h = let s = each_scoped es δ m σ τ h in λ i d. s i d >>= λ xs. Some (tuple (place_of p) xs)
    scoped (t.Index p f es) δ m σ τ h =
        let s = scoped f δ (none_first (misused ms δ f) (misused_each ms δ es) m) σ τ h in
        let k = key_scoped es δ (none_second (misused ms δ f) (misused_each ms δ es) m) σ τ h in
        λ i d. s i d >>= λ x. k i d >>= λ y. Some (binary (place_of p) e.Apply x y)
    scoped (t.Field p a w) δ m σ τ h = let s = scoped a δ m σ τ h in λ i d. s i d >>= λ x. Some (unary (place_of p) (e.Field w.word) x)
    scoped (t.Unary p op a) δ m σ τ h =
        let s = scoped a δ (none_second (if_not (prefix_known ms op) p (prefix_word op)) (misused ms δ a) m) σ τ h in
        λ i d. s i d >>= prefixed op (place_of p)
    scoped (t.Binary p op w a b) δ m σ τ h =
        let n = none_second (misused ms δ a) (or_else (if_not (infix_known ms op) w.place w.word) (misused ms δ b)) m in
        let l = scoped a δ (none_first (misused ms δ a) (or_else (if_not (infix_known ms op) w.place w.word) (misused ms δ b)) m) σ τ h in
        let r = scoped b δ (none_second (if_not (infix_known ms op) w.place w.word) (misused ms δ b) n) σ τ h in
        λ i d. infix_for op >>= λ f. l i d >>= λ x. r i d >>= λ y. Some (two f (place_of p) x y)
    scoped (t.Quantified p q bs a) δ m σ τ h =
        let inner = misused ms (δ ++ plain (bound_names bs)) a in
        let b = binds_scoped bs δ [] (none_first (misused_sets ms δ [] bs) inner m) σ τ h in
        let body : IsSame (at δ ++ plain (all_names (binds_of bs τ))) (expand a) =
        subst (λ xs. IsSame (at δ ++ plain xs) (expand a)) (sym (bound_all bs τ)) (scoped a (δ ++ plain (bound_names bs)) (none_second (misused_sets ms δ [] bs) inner m)) in
        nested_agree (at δ) (of_quantifier q) (place_of p) (binds_of bs σ) (binds_of bs τ) (expand a) b body σ τ h
    scoped (t.Choose p w s a) δ m σ τ h =
        let inner = misused ms (δ ++ plain (words (names_of w))) a in
        let n = none_second (brought δ [] (names_of w)) (or_else (misused ms δ s) inner) m in
        let l = scoped s δ (none_first (misused ms δ s) inner n) σ τ h in
        let r = scoped a (δ ++ plain (words (names_of w))) (none_second (misused ms δ s) inner n) in
        let each = λ (f : _). entry_same (at δ) f p w s a σ τ l r h in
        search each
    scoped (t.Filter p w s a) δ m σ τ h =
        let inner = misused ms (δ ++ plain (words (names_of w))) a in
        let n = none_second (brought δ [] (names_of w)) (or_else (misused ms δ s) inner) m in
        let l = scoped s δ (none_first (misused ms δ s) inner n) σ τ h in
        let r = scoped a (δ ++ plain (words (names_of w))) (none_second (misused ms δ s) inner n) in
        let each = λ (f : _). entry_same (at δ) f p w s a σ τ l r h in
        search each
    scoped (t.Image p a bs) δ m σ τ h =
        let inner = misused ms (δ ++ plain (bound_names bs)) a in
        let b = binds_scoped bs δ [] (none_second inner (misused_sets ms δ [] bs) m) σ τ h in
        image_same (at δ) p bs a σ τ b (scoped a (δ ++ plain (bound_names bs)) (none_first inner (misused_sets ms δ [] bs) m)) h
    scoped (t.Function p bs a) δ m σ τ h =
        let inner = misused ms (δ ++ plain (bound_names bs)) a in
        let b = binds_scoped bs δ [] (none_first (misused_sets ms δ [] bs) inner m) σ τ h in
        function_same (at δ) p bs a σ τ b (scoped a (δ ++ plain (bound_names bs)) (none_second (misused_sets ms δ [] bs) inner m)) h
    scoped (t.FunctionSet p s a) δ m σ τ h =
        let l = scoped s δ (none_first (misused ms δ s) (misused ms δ a) m) σ τ h in
        let r = scoped a δ (none_second (misused ms δ s) (misused ms δ a) m) σ τ h in
        λ i d. l i d >>= λ x. r i d >>= λ y. Some (functions (place_of p) x y)
    scoped (t.Record p fs) δ m σ τ h = let s = fields_scoped fs δ [] m σ τ h in λ i d. s i d >>= λ xs. Some (record_of (place_of p) xs)
    scoped (t.RecordSet p fs) δ m σ τ h = let s = fields_scoped fs δ [] m σ τ h in λ i d. s i d >>= λ xs. Some (records (place_of p) xs)
    scoped (t.Product p a es) δ m σ τ h =
        let l = scoped a δ (none_first (misused ms δ a) (misused_each ms δ es) m) σ τ h in
        let r = each_scoped es δ (none_second (misused ms δ a) (misused_each ms δ es) m) σ τ h in
        λ i d. l i d >>= λ x. r i d >>= λ xs. Some (product (place_of p) (more_exprs x xs))
    scoped (t.Except p f us) δ m σ τ h =
        let l = scoped f δ (none_first (misused ms δ f) (misused_updates ms δ us) m) σ τ h in
        let r = updates_scoped us δ (none_second (misused ms δ f) (misused_updates ms δ us) m) σ τ h in
        λ i d. l i d >>= λ x. r i d >>= λ ys. Some (except (place_of p) x ys)
    scoped (t.Action p steps.Box a v) δ m σ τ h =
        let l = scoped a δ (none_first (misused ms δ a) (misused ms δ v) m) σ τ h in
        let r = scoped v δ (none_second (misused ms δ a) (misused ms δ v) m) σ τ h in
        λ i d. l i d >>= λ x. (r i d >>= unchanged (place_of (place v))) >>= λ y. Some (disjunction (place_of p) (more_exprs x (more_exprs y no_exprs)))
    scoped (t.Action p steps.Angle a v) δ m σ τ h =
        let l = scoped a δ (none_first (misused ms δ a) (misused ms δ v) m) σ τ h in
        let r = scoped v δ (none_second (misused ms δ a) (misused ms δ v) m) σ τ h in
        λ i d. l i d >>= λ x. (r i d >>= changed (place_of (place v))) >>= λ y. Some (conjunction (place_of p) (more_exprs x (more_exprs y no_exprs)))
    scoped (t.Fair p f v a) δ m σ τ h = refl
    scoped (t.If p a b c) δ m σ τ h =
        let n = none_second (misused ms δ a) (or_else (misused ms δ b) (misused ms δ c)) m in
        let l = scoped a δ (none_first (misused ms δ a) (or_else (misused ms δ b) (misused ms δ c)) m) σ τ h in
        let k = scoped b δ (none_first (misused ms δ b) (misused ms δ c) n) σ τ h in
        let r = scoped c δ (none_second (misused ms δ b) (misused ms δ c) n) σ τ h in
        λ i d. l i d >>= λ x. k i d >>= λ y. r i d >>= λ z. Some (conditional (place_of p) x y z)
    scoped (t.Case p as' o) δ m σ τ h =
        let l = arms_scoped as' δ (none_first (misused_arms ms δ as') (misused_other ms δ o) m) σ τ h in
        let r = other_scoped o δ (none_second (misused_arms ms δ as') (misused_other ms δ o) m) σ τ h in
        λ i d. l i (r i d) d >>= λ xs. Some (cases (place_of p) xs)
    scoped (t.Let p ds a) δ m σ τ h =
        let inner = misused ms (δ ++ signatures ds) a in
        scoped a (δ ++ signatures ds) (none_second (misused_definitions ms δ ds) inner m) (definitions_in ds σ) (definitions_in ds τ) (definitions_scoped ds δ (none_first (misused_definitions ms δ ds) inner m) σ τ h)
    scoped (t.Junction p bullet.And es) δ m σ τ h = let s = each_scoped es δ m σ τ h in λ i d. s i d >>= λ xs. Some (conjunction (place_of p) xs)
    scoped (t.Junction p bullet.Or es) δ m σ τ h = let s = each_scoped es δ m σ τ h in λ i d. s i d >>= λ xs. Some (disjunction (place_of p) xs)

    each_scoped : (es : Trees) (δ : names.Scope) → misused_each ms δ es ≡ None → (σ τ : Scope) → Agree (at δ) σ τ → expand_each es σ ≡ expand_each es τ
    each_scoped none δ m σ τ h = refl
    each_scoped (more a es) δ m σ τ h =
        let l = scoped a δ (none_first (misused ms δ a) (misused_each ms δ es) m) σ τ h in
        let r = each_scoped es δ (none_second (misused ms δ a) (misused_each ms δ es) m) σ τ h in
        λ i d. l i d >>= λ x. r i d >>= λ xs. Some (more_exprs x xs)

    key_scoped : (es : Trees) (δ : names.Scope) → misused_each ms δ es ≡ None → (σ τ : Scope) → Agree (at δ) σ τ → expand_key es σ ≡ expand_key es τ
    key_scoped none δ m σ τ h = refl
    key_scoped (more a none) δ m σ τ h = scoped a δ (none_first (misused ms δ a) None m) σ τ h
    key_scoped (more a (more b es)) δ m σ τ h =
        let n = none_second (misused ms δ a) (or_else (misused ms δ b) (misused_each ms δ es)) m in
        let l = scoped a δ (none_first (misused ms δ a) (or_else (misused ms δ b) (misused_each ms δ es)) m) σ τ h in
        let k = scoped b δ (none_first (misused ms δ b) (misused_each ms δ es) n) σ τ h in
        let r = each_scoped es δ (none_second (misused ms δ b) (misused_each ms δ es) n) σ τ h in
        λ i d. l i d >>= λ x. k i d >>= λ y. r i d >>= λ xs. Some (tuple (place_of (place a)) (more_exprs x (more_exprs y xs)))

    arms_scoped : (as' : Arms) (δ : names.Scope) → misused_arms ms δ as' ≡ None → (σ τ : Scope) → Agree (at δ) σ τ → arms_before as' σ ≡ arms_before as' τ
    arms_scoped no_arms δ m σ τ h = refl
    arms_scoped (arm g a as') δ m σ τ h =
        let n = none_second (misused ms δ g) (or_else (misused ms δ a) (misused_arms ms δ as')) m in
        let l = scoped g δ (none_first (misused ms δ g) (or_else (misused ms δ a) (misused_arms ms δ as')) m) σ τ h in
        let k = scoped a δ (none_first (misused ms δ a) (misused_arms ms δ as') n) σ τ h in
        let r = arms_scoped as' δ (none_second (misused ms δ a) (misused_arms ms δ as') n) σ τ h in
        λ i o d. l i d >>= λ x. k i d >>= λ y. r i o d >>= λ xs. Some (e.more_arms x y xs)

    other_scoped : (o : Other) (δ : names.Scope) → misused_other ms δ o ≡ None → (σ τ : Scope) → Agree (at δ) σ τ → expand_other o σ ≡ expand_other o τ
    other_scoped no_other δ m σ τ h = refl
    other_scoped (other a) δ m σ τ h = let s = scoped a δ m σ τ h in λ i d. s i d >>= λ x. Some (e.other x)

    fields_scoped : (fs : Fields) (δ : names.Scope) (before : List Name) → misused_fields ms δ before fs ≡ None → (σ τ : Scope) → Agree (at δ) σ τ → expand_fields fs σ ≡ expand_fields fs τ
    fields_scoped no_fields δ before m σ τ h = refl
    fields_scoped (field w a fs) δ before m σ τ h =
        let rest = misused_fields ms δ (before ++ w.word ∷ []) fs in
        let n = none_second (again before w) (or_else (misused ms δ a) rest) m in
        let l = scoped a δ (none_first (misused ms δ a) rest n) σ τ h in
        let r = fields_scoped fs δ (before ++ w.word ∷ []) (none_second (misused ms δ a) rest n) σ τ h in
        λ i d. l i d >>= λ x. r i d >>= λ xs. Some (e.more_fields w.word x xs)

    step_scoped : (k : Key) (δ : names.Scope) → misused_key ms δ k ≡ None → (σ τ : Scope) → Agree (at δ) σ τ → expand_step k σ ≡ expand_step k τ
    step_scoped (AtIndex es) δ m σ τ h = key_scoped es δ m σ τ h
    step_scoped (AtField w) δ m σ τ h = refl

    path_scoped : (ks : Keys) (δ : names.Scope) → misused_keys ms δ ks ≡ None → (σ τ : Scope) → Agree (at δ) σ τ → expand_path ks σ ≡ expand_path ks τ
    path_scoped no_keys δ m σ τ h = refl
    path_scoped (key k ks) δ m σ τ h =
        let l = step_scoped k δ (none_first (misused_key ms δ k) (misused_keys ms δ ks) m) σ τ h in
        let r = path_scoped ks δ (none_second (misused_key ms δ k) (misused_keys ms δ ks) m) σ τ h in
        λ i d. l i d >>= λ x. r i d >>= λ xs. Some (more_exprs x xs)

    updates_scoped : (us : Updates) (δ : names.Scope) → misused_updates ms δ us ≡ None → (σ τ : Scope) → Agree (at δ) σ τ → expand_updates us σ ≡ expand_updates us τ
    updates_scoped no_updates δ m σ τ h = refl
    updates_scoped (update ks a us) δ m σ τ h =
        let n = none_second (misused_keys ms δ ks) (or_else (misused ms δ a) (misused_updates ms δ us)) m in
        let l = path_scoped ks δ (none_first (misused_keys ms δ ks) (or_else (misused ms δ a) (misused_updates ms δ us)) m) σ τ h in
        let inner = scoped a δ (none_first (misused ms δ a) (misused_updates ms δ us) n) in
        let k = λ (d : ℕ). inner (with_name at_name (bound_name d) σ) (with_name at_name (bound_name d) τ) (at_agree δ d σ τ h) in
        let r = updates_scoped us δ (none_second (misused ms δ a) (misused_updates ms δ us) n) σ τ h in
        λ i d. l i d >>= λ xs. k d i (d + 1) >>= λ y. r i d >>= λ ys. Some (e.more_updates xs y ys)

    arguments_scoped : (es : Trees) (δ : names.Scope) → misused_each ms δ es ≡ None → (σ τ : Scope) → Agree (at δ) σ τ → arguments es σ ≡ arguments es τ
    arguments_scoped none δ m σ τ h = refl
    arguments_scoped (more a es) δ m σ τ h =
        let l = scoped a δ (none_first (misused ms δ a) (misused_each ms δ es) m) σ τ h in
        let r = arguments_scoped es δ (none_second (misused ms δ a) (misused_each ms δ es) m) σ τ h in
        λ i. l i ∷ r i

    binds_scoped : (bs : Binders) (δ : names.Scope) (new : List Name) → misused_sets ms δ new bs ≡ None → (σ τ : Scope) → Agree (at δ) σ τ → binds_of bs σ ≡ binds_of bs τ
    binds_scoped unbound δ new m σ τ h = refl
    binds_scoped (t.bound w s bs) δ new m σ τ h =
        let rest = misused_sets ms δ (new ++ words (names_of w)) bs in
        let n = none_second (brought δ new (names_of w)) (or_else (misused ms δ s) rest) m in
        let l = scoped s δ (none_first (misused ms δ s) rest n) σ τ h in
        let r = binds_scoped bs δ (new ++ words (names_of w)) (none_second (misused ms δ s) rest n) σ τ h in
        λ i. bind_entry w (l i) (r i)

    definitions_scoped : (ds : Definitions) (δ : names.Scope) → misused_definitions ms δ ds ≡ None → (σ τ : Scope) → Agree (at δ) σ τ → Agree (at (δ ++ signatures ds)) (definitions_in ds σ) (definitions_in ds τ)
    definitions_scoped undefined δ m σ τ h = subst (λ γ. Agree (at γ) σ τ) (sym (append-nil δ)) h
    definitions_scoped (defined d ds) δ m σ τ h =
        let rest = misused_definitions ms (δ ++ signature d ∷ []) ds in
        let l = definition_scoped d δ (none_first (misused_definition ms δ d) rest m) σ τ h in
        let r = definitions_scoped ds (δ ++ signature d ∷ []) (none_second (misused_definition ms δ d) rest m) (definition_in d σ) (definition_in d τ) l in
        subst (λ γ. Agree (at γ) (definitions_in ds (definition_in d σ)) (definitions_in ds (definition_in d τ))) (append_assoc δ (signature d ∷ []) (signatures ds)) r

    definition_scoped : (d : Definition) (δ : names.Scope) → misused_definition ms δ d ≡ None → (σ τ : Scope) → Agree (at δ) σ τ → Agree (at (δ ++ signature d ∷ [])) (definition_in d σ) (definition_in d τ)
    definition_scoped (DefinesOperator w ws a) δ m σ τ h =
        let inner = misused ms (δ ++ plain (words ws)) a in
        let n = none_second (new_name δ w) (or_else (brought δ [] ws) inner) m in
        let s = operator_agree (at δ) ws (expand a) (scoped a (δ ++ plain (words ws)) (none_second (brought δ [] ws) inner n)) σ τ h in
        agree_name (at δ) w.word (length ws) (operator ws (expand a) σ) (operator ws (expand a) τ) σ τ s h
    definition_scoped (DefinesFunction w bs a) δ m σ τ h =
        let inner = misused ms (δ ++ plain (bound_names bs)) a in
        let n = none_second (new_name δ w) (or_else (misused_sets ms δ [] bs) inner) m in
        let b = binds_scoped bs δ [] (none_first (misused_sets ms δ [] bs) inner n) σ τ h in
        let s = function_same (at δ) w.place bs a σ τ b (scoped a (δ ++ plain (bound_names bs)) (none_second (misused_sets ms δ [] bs) inner n)) h in
        agree_name (at δ) w.word 0 (parameter (expand (t.Function w.place bs a) σ)) (parameter (expand (t.Function w.place bs a) τ)) σ τ (λ i. parameter (s i)) h

  pub operator_scoped : (w : Written) (ws : List Written) (a : Tree) (δ : names.Scope) → misused_definition ms δ (DefinesOperator w ws a) ≡ None → (σ τ : Scope) → Agree (at δ) σ τ
      → operator ws (expand a) σ ≡ operator ws (expand a) τ
  operator_scoped w ws a δ m σ τ h =
      let inner = misused ms (δ ++ plain (words ws)) a in
      let n = none_second (new_name δ w) (or_else (brought δ [] ws) inner) m in
      operator_agree (at δ) ws (expand a) (scoped a (δ ++ plain (words ws)) (none_second (brought δ [] ws) inner n)) σ τ h

  pub function_scoped : (w : Written) (bs : Binders) (a : Tree) (δ : names.Scope) → misused_definition ms δ (DefinesFunction w bs a) ≡ None → (σ τ : Scope) → Agree (at δ) σ τ
      → expand (t.Function w.place bs a) σ ≡ expand (t.Function w.place bs a) τ
  function_scoped w bs a δ m σ τ h = scoped (t.Function w.place bs a) δ (none_second (new_name δ w) (or_else (misused_sets ms δ [] bs) (misused ms (δ ++ plain (bound_names bs)) a)) m) σ τ h

  -- a body without parameters
  pub body_scoped : (a : Tree) (δ : names.Scope) → misused ms δ a ≡ None → (σ τ : Scope) → Agree (at δ) σ τ → operator [] (expand a) σ ≡ operator [] (expand a) τ
  body_scoped a δ m σ τ h = operator_agree (at δ) [] (expand a) (subst (λ γ. IsSame (at γ) (expand a)) (sym (append-nil δ)) (scoped a δ m)) σ τ h
