-- The walk to the argument that a body gives back.
use Rattle.std.proofs.Common.{◌≡◌, ℕ, suc, ◌+◌, ◌<◌, ◌≤◌, true, false, List, [], ◌∷◌, length, get_or, drop, map, refl, ap, sym, subst, ◌∙◌, arith, add-one, drop-cons, eq-eqb, ne_eqb, Option, Some, None, if◌then◌else◌, Bor}
use Rattle.std.specs.Str.{bytes_eq}
use Rattle.std.proofs.lemmas.List.{drop_all}
use Rattle.tla_core.specs.declared.fault.Place.{Place}
use Rattle.tla_core.specs.Expr.{Expr}
use Rattle.tla_lex.specs.declared.token.Place as text
use Rattle.tla_tree.specs.declared.tree.Expr as syntax
use Rattle.tla_tree.specs.declared.tree.Definition as defining
use Rattle.tla_tree.specs.declared.word.Written.{Written}
use Rattle.tla_tree.specs.Tree as t
use Rattle.tla_tree.specs.Tree.{Tree, DefinesOperator, DefinesFunction}
use Rattle.tla_tree.specs.View.{view, definition_view}
use Rattle.tla_scopes.specs.declared.arena.Projection.{Projection}
use Rattle.tla_scopes.specs.declared.projections.LocalScope.{LocalScope, Outside, Parameters', Named'}
use Rattle.tla_scopes.specs.declared.projections.LocalScope.TheViews as views
use Rattle.tla_scopes.specs.declared.projections.Summary.{Summary}
use Rattle.tla_scopes.specs.declared.projections.Summary.TheVariants.{Gives, Reaches, Other}
use Rattle.tla_scopes.specs.declared.projections.BodyPart.{BodyPart}
use Rattle.tla_scopes.specs.declared.projections.Reached.{Reached}
use Rattle.tla_scopes.specs.declared.primes.Primes.TheVariants.{Never}
use Rattle.tla_scopes.specs.declared.nodes.Gather.TheVariants as gathers
use Rattle.tla_scopes.specs.Places.{Name, place_of}
use Rattle.tla_scopes.specs.Primes.{with_primes}
use Rattle.tla_scopes.specs.Meanings.{Scope, Argument, Meaning, with_name, parameter, operator}
use Rattle.tla_scopes.specs.Bound.{gathered}
use Rattle.tla_scopes.specs.Expand.{expand, definition_in, definitions_in, binds_of}
use Rattle.tla_scopes.specs.Arguments.{with_more, has_count, argument_at, argument_of, given}
use Rattle.tla_scopes.specs.Private.LocalScopes.{Layers, Means, IsRound, Holds, IsFound, IsGiven, IsUse, IsSummary, IsOperator, ComesTo, GivesBack, depth, with_layer, with_count, reached_in, defined_name}
use Rattle.tla_scopes.specs.Private.Parameters.{IsAbsent, IsLast}
use Rattle.tla_scopes.specs.Scopes.{arguments_in}
use Rattle.tla_scopes.proofs.Shorter.{absent_same}
use Rattle.tla_scopes.proofs.Steps.{expand_call}
use Rattle.tla_scopes.proofs.GivenBack.{shown_never, shown_more, count_row, operator_counted, last_argument}

-- the arguments of a layer
layer_own : (k : ℕ) (args : List Argument) (f : Layers) → with_layer k args f k ≡ args
layer_own k args f = rw (eq-eqb k k refl) refl

layer_round : (k : ℕ) (args : List Argument) (f : Layers) (i : ℕ) → i < k → with_layer k args f i ≡ f i
layer_round k args f i l = rw (ne_eqb i k (λ e. omega arith)) refl

means_layers : (f g : Layers) (k : ℕ) (w : Summary) (m : Meaning) → ((i : ℕ) → i < k → f i ≡ g i) → IsRound k w → Means f w m → Means g w m
means_layers f g k (Gives n given) m e l h = h
means_layers f g k (Reaches n r) m e l h = rw (sym (e r.layer l)) h
means_layers f g k Other m e l h = tt

-- names that are known say nothing of the layers inside them
holds_layers : (ρ : Scope) (known : LocalScope) (f g : Layers) (τ : Scope) → ((i : ℕ) → i < depth known → f i ≡ g i) → Holds ρ known f τ → Holds ρ known g τ
holds_layers ρ Outside f g τ e h = h
holds_layers ρ (Parameters' ws _ rest) f g τ e h = (h.0, holds_layers ρ rest f g h.0 (λ i l. e i (omega arith)) h.1, rw (sym (e (depth rest) (omega arith))) h.2)
holds_layers ρ (Named' x w _ rest) f g τ e h = (h.0, h.1, holds_layers ρ rest f g h.0 (λ i l. e i (omega arith)) h.2, means_layers f g (depth rest) w h.1 (λ i l. e i (omega arith)) h.4 h.3, h.4, h.5)

passed : (m : Meaning) (y x : Name) (σ τ : Scope) → τ ≡ with_name y m σ → bytes_eq y x ≡ false → τ x ≡ σ x
passed m y x σ τ e q = ap (λ (ρ : Scope). ρ x) e ∙ rw q refl

hit : (m : Meaning) (y x : Name) (σ τ : Scope) → τ ≡ with_name y m σ → bytes_eq y x ≡ true → τ x ≡ m
hit m y x σ τ e q = ap (λ (ρ : Scope). ρ x) e ∙ rw q refl

-- a name means the same further out
abbrev pub IsSought : Name → LocalScope → LocalScope → Type 0
IsSought x from to = (ρ : Scope) (f : Layers) (τ : Scope) → Holds ρ from f τ → (σ : Scope) × Holds ρ to f σ × (τ x ≡ σ x)

pub sought_here : (x : Name) (known : LocalScope) → IsSought x known known
sought_here x known = λ ρ f τ h. (τ, h, refl)

pub sought_named : (x : Name) (known at : LocalScope) (y : Bor (List ℕ)) (w : Summary) (rest : Bor LocalScope) → at ≡ views.Named y w rest → bytes_eq y.now x ≡ false → IsSought x known at → IsSought x known rest.now
sought_named x known at y w rest e q s = λ ρ f τ h.
    let u = s ρ f τ h in
    let v = rw e at u.1 in
    (v.0, v.2, u.2 ∙ passed v.1 y.now x v.0 u.0 v.5 q)

pub sought_parameters : (x : Name) (known at : LocalScope) (ws : Bor (List Written)) (rest : Bor LocalScope) → at ≡ views.Parameters ws rest → IsAbsent x ws.now → IsSought x known at → IsSought x known rest.now
sought_parameters x known at ws rest e a s = λ ρ f τ h.
    let u = s ρ f τ h in
    let v = rw e at u.1 in
    (v.0, v.1, u.2 ∙ absent_same ws.now (f (depth rest.now)) v.0 u.0 x a v.2)

-- what is found
pub found_outside : (x : Name) (known at : LocalScope) → at ≡ Outside → IsSought x known at → IsFound x known None
found_outside x known at e s = λ ρ f τ h.
    let u = s ρ f τ h in
    let v = rw e at u.1 in
    u.2 ∙ ap (λ (σ : Scope). σ x) v

pub found_parameter : (x : Name) (known at : LocalScope) (ws : Bor (List Written)) (rest : Bor LocalScope) (i : ℕ) (w : Summary) → at ≡ views.Parameters ws rest → IsLast x ws.now i → IsSought x known at
    → ((f : Layers) → Means f w (parameter (argument_at i (f (depth rest.now))))) → IsFound x known (Some w)
found_parameter x known at ws rest i w e l s k = λ ρ f τ h.
    let u = s ρ f τ h in
    let v = rw e at u.1 in
    let m : τ x ≡ parameter (argument_at i (f (depth rest.now))) = u.2 ∙ last_argument ws.now (f (depth rest.now)) v.0 u.0 x i l v.2 in
    subst (λ (n : Meaning). Means f w n) (sym m) (k f)

pub found_named : (x : Name) (known at : LocalScope) (y : Bor (List ℕ)) (w : Summary) (rest : Bor LocalScope) → at ≡ views.Named y w rest → bytes_eq y.now x ≡ true → IsSought x known at → IsFound x known (Some w)
found_named x known at y w rest e q s = λ ρ f τ h.
    let u = s ρ f τ h in
    let v = rw e at u.1 in
    let m : τ x ≡ v.1 = u.2 ∙ hit v.1 y.now x v.0 u.0 v.5 q in
    subst (λ (n : Meaning). Means f w n) (sym m) v.3

-- a parameter, as an operator of no parameters
alone_same : (a : Argument) (p : Place) (args : List Argument) (d : ℕ) → parameter a p args d ≡ (if has_count 0 args then with_primes Never (a d) else None)
alone_same a p [] d = sym (shown_never (a d))
alone_same a p (b ∷ args) d = refl

pub parameter_reached : (i k : ℕ) (r : Reached) (f : Layers) → r.layer ≡ k → r.given.index ≡ i → r.given.primes ≡ Never → parameter (argument_at i (f k)) ≡ with_count 0 (λ args. reached_in r f)
parameter_reached i k r f e q n = rw (sym e, sym q, n) (λ j p args d. alone_same (argument_at r.given.index (f r.layer)) p args d j)

pub call_used : (tree : Tree) (w : Written) (es : List syntax.Expr) → tree ≡ t.Call w (t.trees (map view es)) → IsUse tree w es
call_used tree w es e = λ τ d. rw e (ap (λ (f : Argument). f d) (expand_call w es τ))

-- the use of a name that comes to an argument
pub use_ends : (ρ : Scope) (a : BodyPart) (w : Written) (es : List syntax.Expr) (n : ℕ) (r s : Reached) → IsUse (view a.tree.now) w es → IsGiven ρ a.known.now w.word (Reaches n r) → n ≡ length es
    → s.layer ≡ r.layer → s.given.index ≡ r.given.index → s.given.primes ≡ with_more a.primes r.given.primes → GivesBack ρ a [] s
use_ends ρ a w es n r s u i c layer index more = λ f τ h d.
    let o = argument_at r.given.index (f r.layer) d in
    let means = ap (λ (m : Meaning). m (place_of w.place) (arguments_in es τ) d) (i f τ h) in
    let counted : with_count n (λ args. reached_in r f) (place_of w.place) (arguments_in es τ) d ≡ with_primes r.given.primes o = rw (c, count_row es τ) refl in
    rw (layer, index, more) (ap (λ (x : Option Expr). with_primes a.primes x) (u τ d ∙ means ∙ counted) ∙ shown_more a.primes r.given.primes o)

-- a part that means the same under the same names
pub comes_here : (ρ : Scope) (a b : BodyPart) → b.known ≡ a.known → ((f : Layers) (τ : Scope) (d : ℕ) → Holds ρ a.known.now f τ → with_primes a.primes (expand (view a.tree.now) τ d) ≡ with_primes b.primes (expand (view b.tree.now) τ d)) → ComesTo ρ a b
comes_here ρ a b k g = λ f τ h. (rw k h, λ d. g f τ d h)

pub use_goes : (ρ : Scope) (a b : BodyPart) (w : Written) (es : List syntax.Expr) (n : ℕ) (g : Projection) → IsUse (view a.tree.now) w es → IsGiven ρ a.known.now w.word (Gives n g)
    → ((σ : Scope) (p : Place) (d : ℕ) → given n g p (arguments_in es σ) d ≡ with_primes g.primes (expand (view b.tree.now) σ d)) → b.known ≡ a.known → b.primes ≡ with_more a.primes g.primes → ComesTo ρ a b
use_goes ρ a b w es n g u i c known k = comes_here ρ a b known (λ f τ d h.
    let means = ap (λ (m : Meaning). m (place_of w.place) (arguments_in es τ) d) (i f τ h) in
    rw k (ap (λ (o : Option Expr). with_primes a.primes o) (u τ d ∙ means ∙ c τ (place_of w.place) d) ∙ shown_more a.primes g.primes (expand (view b.tree.now) τ d)))

pub comes_self : (ρ : Scope) (a : BodyPart) → ComesTo ρ a a
comes_self ρ a = λ f τ h. (h, λ d. refl)

pub comes_trans : (ρ : Scope) (a b c : BodyPart) → ComesTo ρ a b → ComesTo ρ b c → ComesTo ρ a c
comes_trans ρ a b c g k = λ f τ h.
    let u = g f τ h in
    let v = k f τ u.0 in
    (v.0, λ d. u.1 d ∙ v.1 d)

pub comes_back : (ρ : Scope) (a b : BodyPart) (r : Reached) → ComesTo ρ a b → GivesBack ρ b [] r → GivesBack ρ a [] r
comes_back ρ a b r g k = λ f τ h d.
    let u = g f τ h in
    u.1 d ∙ k f τ u.0 d

-- a part inside one definition more
pub back_more : (ρ : Scope) (a : BodyPart) (def : defining.Definition) (defs : List defining.Definition) (i : ℕ) (x : Bor (List ℕ)) (w : Summary) (r : Reached) → i < length defs → def ≡ get_or defs i def → x.now ≡ defined_name (definition_view def)
    → IsSummary ρ a.known.now (definition_view def) w
    → ((f : Layers) (τ : Scope) → Holds ρ (views.Named x w a.known) f τ → (d : ℕ) → with_primes a.primes (expand (view a.tree.now) (definitions_in (t.definitions (map definition_view (drop (i + 1) defs))) τ) d) ≡ reached_in r f d)
    → GivesBack ρ a (drop i defs) r
back_more ρ a def defs i x w r l q n m g = λ f τ h d.
    let u = m.1 f τ h in
    let e : definition_in (definition_view def) τ ≡ with_name x.now u.0 τ = rw n u.2 in
    let p : drop i defs ≡ def ∷ drop (i + 1) defs = rw (add-one i) (drop-cons defs i def l ∙ ap (λ (y : defining.Definition). y ∷ drop (suc i) defs) (sym q)) in
    rw p (g f (definition_in (definition_view def) τ) (τ, u.0, h, u.1, m.0, e) d)

pub back_none : (ρ : Scope) (a : BodyPart) (defs : List defining.Definition) (i : ℕ) (r : Reached) → length defs ≤ i → GivesBack ρ a [] r → GivesBack ρ a (drop i defs) r
back_none ρ a defs i r h g = rw (drop_all i defs h) g

-- a LET
pub back_let : (ρ : Scope) (a b : BodyPart) (p : text.Place) (defs : List defining.Definition) (r : Reached) → view a.tree.now ≡ t.Let p (t.definitions (map definition_view defs)) (view b.tree.now) → b.known ≡ a.known → b.primes ≡ a.primes
    → GivesBack ρ b defs r → GivesBack ρ a [] r
back_let ρ a b p defs r v known k g = λ f τ h d. let u = g f τ (rw known h) d in rw v (rw k at u)

-- an argument of an operator's own, or of a layer round it
pub own_means : (n k : ℕ) (r : Reached) (f : Layers) → r.layer ≡ k → with_count n (λ args. reached_in r (with_layer k args f)) ≡ given n r.given
own_means n k r f e =
    let same : (args : List Argument) → with_layer k args f r.layer ≡ args = λ args. rw e (layer_own k args f) in
    (λ j p args d. if has_count n args then argument_of r.given (same args j) d else None)

pub round_means : (n k : ℕ) (r : Reached) (f : Layers) → r.layer < k → with_count n (λ args. reached_in r (with_layer k args f)) ≡ with_count n (λ args. reached_in r f)
round_means n k r f l =
    let same : (args : List Argument) → with_layer k args f r.layer ≡ f r.layer = λ args. layer_round k args f r.layer l in
    (λ j p args d. if has_count n args then argument_of r.given (same args j) d else None)

-- what is known of a definition
pub operator_summarized : (ρ : Scope) (known : LocalScope) (def : t.Definition) (w : Written) (ws : List Written) (body : Tree) (n : ℕ) (r : Reached) (v : Summary) → def ≡ DefinesOperator w ws body → n ≡ length ws → IsOperator ρ known ws body r
    → ((f : Layers) → Means f v (with_count n (λ args. reached_in r (with_layer (depth known) args f)))) → IsRound (depth known) v → IsSummary ρ known def v
operator_summarized ρ known def w ws body n r v q c i k l = (
  l,
  λ f τ h.
      let m : operator ws (expand body) τ ≡ with_count n (λ args. reached_in r (with_layer (depth known) args f)) = rw c (i f τ h) in
      (operator ws (expand body) τ, subst (λ (x : Meaning). Means f v x) (sym m) (k f), rw q refl),
)

pub other_summarized : (ρ : Scope) (known : LocalScope) (def : t.Definition) → IsSummary ρ known def Other
other_summarized ρ known (DefinesOperator w ws a) = (tt, λ f τ h. (operator ws (expand a) τ, tt, refl))
other_summarized ρ known (DefinesFunction w bs a) = (tt, λ f τ h. (parameter (gathered gathers.Function (place_of w.place) (binds_of bs τ) (expand a) τ), tt, refl))

-- the body of an operator
pub operator_back : (ρ : Scope) (known : Bor LocalScope) (ws : Bor (List Written)) (body : syntax.Expr) (r : Reached)
    → ((f : Layers) (τ : Scope) → Holds ρ (views.Parameters ws known) f τ → (d : ℕ) → with_primes Never (expand (view body) τ d) ≡ reached_in r f d) → IsOperator ρ known.now ws.now (view body) r
operator_back ρ known ws body r g = λ f σ h.
    let k = depth known.now in
    let inside : (args : List Argument) → Holds ρ known.now (with_layer k args f) σ = λ args. holds_layers ρ known.now f (with_layer k args f) σ (λ i l. sym (layer_round k args f i l)) h in
    operator_counted ws.now (expand (view body)) σ (λ args. reached_in r (with_layer k args f)) (λ args τ d e.
    sym (shown_never (expand (view body) τ d)) ∙ g (with_layer k args f) τ (σ, inside args, rw (layer_own k args f) e) d)
