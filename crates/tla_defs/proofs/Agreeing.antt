-- Scopes that say the same of the names in scope, and forms that bind names under them.
use Rattle.std.proofs.Common.{◌≡◌, ◌∙◌, ℕ, ◌+◌, Bool, true, false, ◌||◌, List, [], ◌∷◌, ◌++◌, length, refl, sym, ap, subst, Option, Some, None, append-nil, append_assoc}
use Rattle.std.specs.Prelude.{if◌then◌else◌, is_some}
use Rattle.std.proofs.lemmas.List.{map-append}
use Rattle.std.specs.Str.{bytes_eq}
use Rattle.std.proofs.lemmas.Slice.Eq.{bytes_eq-Decides}
use Rattle.tla_core.specs.declared.fault.Place.{Place}
use Rattle.tla_core.specs.Expr.{Expr}
use Rattle.tla_core.specs.Patterns.{items_in}
use Rattle.tla_tree.specs.declared.word.Written.{Written}
use Rattle.tla_tree.specs.Tree as t
use Rattle.tla_tree.specs.Tree.{Tree, Trees, none, more, Binders, unbound, Arms, no_arms, arm, Other, no_other, other, Definition, DefinesOperator, DefinesFunction, Definitions, undefined, defined, Fields, no_fields, field, Key, AtIndex, AtField, Keys, no_keys, key, Updates, no_updates, update, Pattern, Each, Tuple, names_of}
use Rattle.tla_config.specs.Names.{words}
use Rattle.tla_names.specs.Maybe.{or_else}
use Rattle.tla_names.specs.Scope as names
use Rattle.tla_names.specs.Scope.{arity, plain, signature, signatures, bound_names, count}
use Rattle.tla_names.specs.Known.{Misuse, applied, used}
use Rattle.tla_scopes.specs.Maybe.{◌>>=◌, each_of}
use Rattle.tla_scopes.specs.Places.{Name, at_name}
use Rattle.tla_scopes.specs.Nodes.{binding}
use Rattle.tla_scopes.specs.Meanings.{Argument, Meaning, Scope, with_name, bound_name, parameter, with_parameters, operator}
use Rattle.tla_scopes.specs.Bound.{Names, named, tupled, Bind, bind_each, bind_entry, last_or, with_each, opening, under_openings, under, nested, with_elements, with_items, openings, set_for}
use Rattle.tla_scopes.specs.Expand.{expand, binds_of}

-- ---- names in scope
abbrev pub knows : names.Scope → Name → Bool
knows δ x = is_some (arity δ x)

-- the names in scope, and `@`
abbrev pub at : names.Scope → names.Scope
at δ = (at_name, 0) ∷ δ

pub is_some_or : (a b : Option ℕ) → is_some (or_else a b) ≡ (is_some a || is_some b)
is_some_or None b = refl
is_some_or (Some n) b = refl

last_two : (a b c : Bool) → ((a || b) || c) ≡ ((a || c) || b)
last_two true b c = refl
last_two false true true = refl
last_two false true false = refl
last_two false false true = refl
last_two false false false = refl

first_two : (a b c : Bool) → (a || (b || c)) ≡ (b || (a || c))
first_two true true c = refl
first_two true false c = refl
first_two false b c = refl

or_both : (a b c : Bool) → (a || (b || c)) ≡ ((a || b) || c)
or_both true b c = refl
or_both false b c = refl

pub if_first : (a b : Bool) → a ≡ true → (a || b) ≡ true
if_first a b h = rw h refl

pub if_second : (a b : Bool) → b ≡ true → (a || b) ≡ true
if_second true b h = refl
if_second false b h = h

pub not_first : (a b : Bool) → (a || b) ≡ false → a ≡ false
not_first false b h = refl
not_first true b h = let z : ⊥ = cc in absurd z

pub not_second : (a b : Bool) → (a || b) ≡ false → b ≡ false
not_second false b h = h
not_second true b h = let z : ⊥ = cc in absurd z

pub knows_append : (δ γ : names.Scope) (x : Name) → knows (δ ++ γ) x ≡ (knows δ x || knows γ x)
knows_append [] γ x = refl
knows_append (s ∷ δ) γ x =
    let r = if bytes_eq x s.0 then Some s.1 else None in
    is_some_or (arity (δ ++ γ) x) r ∙ ap (λ b. b || is_some r) (knows_append δ γ x) ∙ last_two (knows δ x) (knows γ x) (is_some r) ∙ ap (λ b. b || knows γ x) (sym (is_some_or (arity δ x) r))

pub knows_here : (δ : names.Scope) (x : Name) → knows δ x ≡ true → knows (at δ) x ≡ true
knows_here δ x h = is_some_or (arity δ x) (if bytes_eq x at_name then Some 0 else None) ∙ if_first (knows δ x) (is_some (if bytes_eq x at_name then Some 0 else None)) h

in_turn : (δ : names.Scope) (xs ys : List Name) → δ ++ plain (xs ++ ys) ≡ (δ ++ plain xs) ++ plain ys
in_turn δ xs ys = ap (λ γ. δ ++ γ) (map-append (λ (x : Name). (x, 0)) xs ys) ∙ sym (append_assoc δ (plain xs) (plain ys))

-- scopes that say the same of these names
abbrev pub Agree : names.Scope → Scope → Scope → Type 0
Agree δ σ τ = (x : Name) → knows δ x ≡ true → σ x ≡ τ x

pub named_at : (b : Bool) (m n l r : Meaning) → m ≡ n → (b ≡ false → l ≡ r) → (if b then m else l) ≡ (if b then n else r)
named_at true m n l r e h = e
named_at false m n l r e h = h refl

pub turned : (x y : Name) (b : Bool) → bytes_eq y x ≡ b → bytes_eq x y ≡ false → bytes_eq y x ≡ false
turned x y false e h = e
turned x y true e h =
    let s : y ≡ x = (bytes_eq-Decides y x).0 e in
    let z : bytes_eq x y ≡ true = rw s ((bytes_eq-Decides x x).1 refl) in
    let n : ⊥ = cc in absurd n

known_before : (δ : names.Scope) (x y : Name) (k : ℕ) → bytes_eq x y ≡ false → knows (δ ++ (x, k) ∷ []) y ≡ true → knows δ y ≡ true
known_before δ x y k h g = by (knows δ y) refl
  where
    by : (b : Bool) → knows δ y ≡ b → knows δ y ≡ true
    by true r = r
    by false r =
        let other : bytes_eq y x ≡ false = turned x y (bytes_eq y x) refl h in
        let one : knows ((x, k) ∷ []) y ≡ false = rw other refl in
        let all : knows (δ ++ (x, k) ∷ []) y ≡ false = knows_append δ ((x, k) ∷ []) y ∙ ap (λ b. b || knows ((x, k) ∷ []) y) r ∙ one in
        let n : ⊥ = cc in absurd n

pub agree_name : (δ : names.Scope) (x : Name) (k : ℕ) (m n : Meaning) (σ τ : Scope) → m ≡ n → Agree δ σ τ → Agree (δ ++ (x, k) ∷ []) (with_name x m σ) (with_name x n τ)
agree_name δ x k m n σ τ e h = λ y g. named_at (bytes_eq x y) m n (σ y) (τ y) e (λ r. h y (known_before δ x y k r g))

-- a part that says the same in scopes that say the same of these names
abbrev pub IsSame : names.Scope → (Scope → Argument) → Type 0
IsSame δ body = (σ τ : Scope) → Agree δ σ τ → body σ ≡ body τ

-- ---- forms that bind names
each_agree : (ws : List Written) (d : ℕ) (δ : names.Scope) (σ τ : Scope) → Agree δ σ τ → Agree (δ ++ plain (words ws)) (with_each ws d σ) (with_each ws d τ)
each_agree [] d δ σ τ h = subst (λ γ. Agree γ σ τ) (sym (append-nil δ)) h
each_agree (w ∷ ws) d δ σ τ h =
    let σ' = with_name w.word (bound_name d) σ in
    let τ' = with_name w.word (bound_name d) τ in
    subst (λ γ. Agree γ (with_each ws (d + 1) σ') (with_each ws (d + 1) τ')) (append_assoc δ ((w.word, 0) ∷ []) (plain (words ws)))
    (each_agree ws (d + 1) (δ ++ (w.word, 0) ∷ []) σ' τ' (agree_name δ w.word 0 (bound_name d) (bound_name d) σ τ refl h))

abbrev bind_names : Names → List Name
bind_names (named x) = x ∷ []
bind_names (tupled ws) = words ws

abbrev pub all_names : List Bind → List Name
all_names [] = []
all_names (b ∷ bs) = bind_names b.0 ++ all_names bs

under_same : (δ : names.Scope) (p : Place) (ns : Names) (body : Scope → Argument) → IsSame (δ ++ plain (bind_names ns)) body → IsSame δ (under p ns body)
under_same δ p (named x) body h σ τ a = λ i d. h (with_name x (bound_name d) σ) (with_name x (bound_name d) τ) (agree_name δ x 0 (bound_name d) (bound_name d) σ τ refl a) i (d + 1)
under_same δ p (tupled ws) body h σ τ a = λ i d. under_openings p (opening d ws ∷ []) (h (with_each ws (d + 1) σ) (with_each ws (d + 1) τ) (each_agree ws (d + 1) δ σ τ a) i (d + 1 + length ws))

inner_same : (δ : names.Scope) (b : Names) (bs : List Bind) (body next : Scope → Argument) → (IsSame ((δ ++ plain (bind_names b)) ++ plain (all_names bs)) body → IsSame (δ ++ plain (bind_names b)) next)
    → IsSame (δ ++ plain (bind_names b ++ all_names bs)) body → IsSame (δ ++ plain (bind_names b)) (last_or bs body next)
inner_same δ b [] body next k h = subst (λ xs. IsSame (δ ++ plain xs) body) (append-nil (bind_names b)) h
inner_same δ b (c ∷ bs) body next k h = k (subst (λ γ. IsSame γ body) (in_turn δ (bind_names b) (all_names (c ∷ bs))) h)

nested_same : (δ : names.Scope) (f : _) (p : Place) (bs : List Bind) (body : Scope → Argument) → IsSame (δ ++ plain (all_names bs)) body → IsSame δ (nested f p bs body)
nested_same δ f p [] body h σ τ a = refl
nested_same δ f p (b ∷ bs) body h σ τ a =
    let inner : IsSame (δ ++ plain (bind_names b.0)) (last_or bs body (nested f p bs body)) =
    inner_same δ b.0 bs body (nested f p bs body) (nested_same (δ ++ plain (bind_names b.0)) f p bs body) h in
    let same : under p b.0 (last_or bs body (nested f p bs body)) σ ≡ under p b.0 (last_or bs body (nested f p bs body)) τ = under_same δ p b.0 (last_or bs body (nested f p bs body)) inner σ τ a in
    λ i d. b.1 d >>= λ x. same i d >>= λ y. Some (binding f p x y)

pub nested_agree : (δ : names.Scope) (f : _) (p : Place) (bs cs : List Bind) (body : Scope → Argument) → bs ≡ cs → IsSame (δ ++ plain (all_names cs)) body → (σ τ : Scope) → Agree δ σ τ → nested f p bs body σ ≡ nested f p cs body τ
nested_agree δ f p bs cs body e h σ τ a = (λ i. nested f p (e i) body σ) ∙ nested_same δ f p cs body h σ τ a

abbrev elements : List Bind → List Name
elements [] = []
elements ((named x, s) ∷ bs) = x ∷ elements bs
elements ((tupled ws, s) ∷ bs) = elements bs

abbrev items : List Bind → List Name
items [] = []
items ((named x, s) ∷ bs) = items bs
items ((tupled ws, s) ∷ bs) = words ws ++ items bs

elements_agree : (bs : List Bind) (d : ℕ) (δ : names.Scope) (σ τ : Scope) → Agree δ σ τ → Agree (δ ++ plain (elements bs)) (with_elements bs d σ) (with_elements bs d τ)
elements_agree [] d δ σ τ h = subst (λ γ. Agree γ σ τ) (sym (append-nil δ)) h
elements_agree ((named x, s) ∷ bs) d δ σ τ h =
    let σ' = with_name x (bound_name d) σ in
    let τ' = with_name x (bound_name d) τ in
    subst (λ γ. Agree γ (with_elements bs (d + 1) σ') (with_elements bs (d + 1) τ')) (append_assoc δ ((x, 0) ∷ []) (plain (elements bs)))
    (elements_agree bs (d + 1) (δ ++ (x, 0) ∷ []) σ' τ' (agree_name δ x 0 (bound_name d) (bound_name d) σ τ refl h))
elements_agree ((tupled ws, s) ∷ bs) d δ σ τ h = elements_agree bs (d + 1) δ σ τ h

items_agree : (bs : List Bind) (d : ℕ) (δ : names.Scope) (σ τ : Scope) → Agree δ σ τ → Agree (δ ++ plain (items bs)) (with_items bs d σ) (with_items bs d τ)
items_agree [] d δ σ τ h = subst (λ γ. Agree γ σ τ) (sym (append-nil δ)) h
items_agree ((named x, s) ∷ bs) d δ σ τ h = items_agree bs d δ σ τ h
items_agree ((tupled ws, s) ∷ bs) d δ σ τ h =
    subst (λ γ. Agree γ (with_items bs (d + length ws) (with_each ws d σ)) (with_items bs (d + length ws) (with_each ws d τ))) (sym (in_turn δ (words ws) (items bs)))
    (items_agree bs (d + length ws) (δ ++ plain (words ws)) (with_each ws d σ) (with_each ws d τ) (each_agree ws d δ σ τ h))

knows_plain : (xs ys : List Name) (x : Name) → knows (plain (xs ++ ys)) x ≡ (knows (plain xs) x || knows (plain ys) x)
knows_plain xs ys x = ap (λ γ. knows γ x) (map-append (λ (x : Name). (x, 0)) xs ys) ∙ knows_append (plain xs) (plain ys) x

all_known : (bs : List Bind) (x : Name) → knows (plain (all_names bs)) x ≡ (knows (plain (elements bs)) x || knows (plain (items bs)) x)
all_known [] x = refl
all_known ((named y, s) ∷ bs) x =
    let r = if bytes_eq x y then Some 0 else None in
    is_some_or (arity (plain (all_names bs)) x) r ∙ ap (λ b. b || is_some r) (all_known bs x) ∙ last_two (knows (plain (elements bs)) x) (knows (plain (items bs)) x) (is_some r)
    ∙ ap (λ b. b || knows (plain (items bs)) x) (sym (is_some_or (arity (plain (elements bs)) x) r))
all_known ((tupled ws, s) ∷ bs) x =
    knows_plain (words ws) (all_names bs) x ∙ ap (λ b. knows (plain (words ws)) x || b) (all_known bs x) ∙ first_two (knows (plain (words ws)) x) (knows (plain (elements bs)) x) (knows (plain (items bs)) x)
    ∙ ap (λ b. knows (plain (elements bs)) x || b) (sym (knows_plain (words ws) (items bs) x))

all_within : (bs : List Bind) (δ : names.Scope) (x : Name) → knows (δ ++ plain (all_names bs)) x ≡ knows ((δ ++ plain (elements bs)) ++ plain (items bs)) x
all_within bs δ x =
    knows_append δ (plain (all_names bs)) x ∙ ap (λ b. knows δ x || b) (all_known bs x) ∙ or_both (knows δ x) (knows (plain (elements bs)) x) (knows (plain (items bs)) x)
    ∙ ap (λ b. b || knows (plain (items bs)) x) (sym (knows_append δ (plain (elements bs)) x)) ∙ sym (knows_append (δ ++ plain (elements bs)) (plain (items bs)) x)

-- what is made of the sets of all elements, and of a body under them
abbrev over : (List Expr → Expr → Expr) → Place → List Bind → (Scope → Argument) → Scope → Argument
over make p bs body σ d = each_of (λ (b : Bind). set_for p b.0 (b.1 d)) bs >>= λ ss.
    under_openings p (openings bs d) (body (with_items bs (d + length bs) (with_elements bs d σ)) (d + length bs + items_in (openings bs d))) >>= λ y. Some (make ss y)

over_same : (δ : names.Scope) (make : List Expr → Expr → Expr) (p : Place) (bs : List Bind) (body : Scope → Argument) → IsSame (δ ++ plain (all_names bs)) body → IsSame δ (over make p bs body)
over_same δ make p bs body h σ τ a =
    let inner = λ (d : ℕ). items_agree bs (d + length bs) (δ ++ plain (elements bs)) (with_elements bs d σ) (with_elements bs d τ) (elements_agree bs d δ σ τ a) in
    let all = λ (d : ℕ) (x : Name) (k : knows (δ ++ plain (all_names bs)) x ≡ true). inner d x (sym (all_within bs δ x) ∙ k) in
    λ i d. each_of (λ (b : Bind). set_for p b.0 (b.1 d)) bs >>= λ ss.
    under_openings p (openings bs d) (h (with_items bs (d + length bs) (with_elements bs d σ)) (with_items bs (d + length bs) (with_elements bs d τ)) (all d) i (d + length bs + items_in (openings bs d))) >>= λ y. Some (make ss y)

pub over_agree : (δ : names.Scope) (make : List Expr → Expr → Expr) (p : Place) (bs cs : List Bind) (body : Scope → Argument) → bs ≡ cs → IsSame (δ ++ plain (all_names cs)) body → (σ τ : Scope) → Agree δ σ τ → over make p bs body σ ≡ over make p cs body τ
over_agree δ make p bs cs body e h σ τ a = (λ i. over make p (e i) body σ) ∙ over_same δ make p cs body h σ τ a

-- ---- definitions
parameters_same : (ws : List Written) (args : List Argument) (δ : names.Scope) (body : Scope → Argument) → IsSame (δ ++ plain (words ws)) body → (d : ℕ) (σ τ : Scope) → Agree δ σ τ
    → (with_parameters ws args σ >>= λ ρ. body ρ d) ≡ (with_parameters ws args τ >>= λ ρ. body ρ d)
parameters_same [] [] δ body h d σ τ a = λ i. h σ τ (subst (λ γ. Agree γ σ τ) (sym (append-nil δ)) a) i d
parameters_same [] (b ∷ args) δ body h d σ τ a = refl
parameters_same (w ∷ ws) [] δ body h d σ τ a = refl
parameters_same (w ∷ ws) (b ∷ args) δ body h d σ τ a =
    parameters_same ws args (δ ++ (w.word, 0) ∷ []) body (subst (λ γ. IsSame γ body) (sym (append_assoc δ ((w.word, 0) ∷ []) (plain (words ws)))) h) d
    (with_name w.word (parameter b) σ) (with_name w.word (parameter b) τ) (agree_name δ w.word 0 (parameter b) (parameter b) σ τ refl a)

pub operator_agree : (δ : names.Scope) (ws : List Written) (body : Scope → Argument) → IsSame (δ ++ plain (words ws)) body → (σ τ : Scope) → Agree δ σ τ → operator ws body σ ≡ operator ws body τ
operator_agree δ ws body h σ τ a = λ i p args d. parameters_same ws args δ body h d σ τ a i

-- ---- the names of binders
each_names : (ws : List Written) (s : Argument) (bs : List Bind) → all_names (bind_each ws s bs) ≡ words ws ++ all_names bs
each_names [] s bs = refl
each_names (w ∷ ws) s bs = ap (λ xs. w.word ∷ xs) (each_names ws s bs)

entry_names : (w : Pattern) (s : Argument) (bs : List Bind) → all_names (bind_entry w s bs) ≡ words (names_of w) ++ all_names bs
entry_names (Each ws) s bs = each_names ws s bs
entry_names (Tuple ws) s bs = refl

pub one_entry : (w : Pattern) (s : Argument) → all_names (bind_entry w s []) ≡ words (names_of w)
one_entry w s = entry_names w s [] ∙ append-nil (words (names_of w))

pub bound_all : (bs : Binders) (σ : Scope) → all_names (binds_of bs σ) ≡ bound_names bs
bound_all unbound σ = refl
bound_all (t.bound w s bs) σ = entry_names w (expand s σ) (binds_of bs σ) ∙ ap (λ xs. words (names_of w) ++ xs) (bound_all bs σ)

-- ---- no misuse
pub none_first : (a b : Option Misuse) → or_else a b ≡ None → a ≡ None
none_first None b h = refl
none_first (Some x) b h = h

pub none_second : (a b : Option Misuse) → or_else a b ≡ None → b ≡ None
none_second None b h = h
none_second (Some x) b h = let z : ⊥ = cc in absurd z

applied_known : (w : Written) (n : ℕ) (o : Option ℕ) → applied w n o ≡ None → is_some o ≡ true
applied_known w n None h = let z : ⊥ = cc in absurd z
applied_known w n (Some m) h = refl

pub used_known : (δ : names.Scope) (w : Written) (n : ℕ) → used δ w n ≡ None → knows (at δ) w.word ≡ true
used_known δ w n h = knows_here δ w.word (applied_known w n (arity δ w.word) h)
