-- What costs no more.
use Rattle.std.proofs.Common.{◌≡◌, ℕ, suc, zero, Bool, true, false, ◌+◌, ◌≤◌, ◌<◌, List, [], ◌∷◌, length, get_or, drop, drop-cons, add-one, map, refl, ap, sym, ◌∙◌, arith, if◌then◌else◌}
use Rattle.std.specs.Str.{bytes_eq}
use Rattle.std.proofs.lemmas.List.{drop_all}
use Rattle.tla_tree.specs.declared.tree.Expr as syntax
use Rattle.tla_tree.specs.declared.word.Written.{Written}
use Rattle.tla_tree.specs.Tree as t
use Rattle.tla_tree.specs.Tree.{Tree, Trees, Definition, Definitions, none, more, undefined, defined, DefinesOperator, DefinesFunction}
use Rattle.tla_tree.specs.declared.tree.Definition as defining
use Rattle.tla_tree.specs.View.{view, definition_view}
use Rattle.tla_scopes.specs.Places.{Name, at_name}
use Rattle.tla_scopes.specs.declared.arena.Entry.{Entry}
use Rattle.tla_scopes.specs.declared.arena.What.{What}
use Rattle.tla_scopes.specs.declared.arena.What.TheVariants as what
use Rattle.tla_scopes.specs.declared.nodes.OwnForm.{OwnForm}
use Rattle.tla_scopes.specs.declared.nodes.OwnForm.TheVariants as own_form
use Rattle.tla_scopes.specs.Costs.{Cost, Costs, total, weigh, IsFormCost, HasNoCost, with_cost, with_costs, cost, costs_of, costs_after, cost_after, costs_in, cost_by, costs_at, AreAtMost, IsCheaper}
use Rattle.tla_scopes.specs.Scopes.{IsBelow, AreLinked}
use Rattle.tla_scopes.proofs.Links.{below_rest, below_at}
use Rattle.tla_scopes.proofs.Indexed.{entry_there}
use Rattle.tla_scopes.proofs.EntryCosts.{costs_entry, costs_zero}

pub total_at_most : (ns ms : List ℕ) → AreAtMost ns ms → total ns ≤ total ms
total_at_most [] [] a = omega arith
total_at_most [] (m ∷ ms) a = absurd a
total_at_most (n ∷ ns) [] a = absurd a
total_at_most (n ∷ ns) (m ∷ ms) a = let r = total_at_most ns ms a.1 in omega (arith, r, a.0)

weigh_at_most : (ns ms : List ℕ) → AreAtMost ns ms → weigh ns ≤ weigh ms
weigh_at_most [] [] a = omega arith
weigh_at_most [] (m ∷ ms) a = absurd a
weigh_at_most (n ∷ ns) [] a = absurd a
weigh_at_most (n ∷ ns) (m ∷ ms) a = let r = weigh_at_most ns ms a.1 in omega (arith, r, a.0)

either_at_most : (b : Bool) (c k d e : Cost) (ns ms : List ℕ) → c ns ≤ k ms → d ns ≤ e ms → (if b then c else d) ns ≤ (if b then k else e) ms
either_at_most true c k d e ns ms f h = f
either_at_most false c k d e ns ms f h = h

pub with_cheaper : (x : Name) (c k : Cost) (σ τ : Costs) → ((ns ms : List ℕ) → AreAtMost ns ms → c ns ≤ k ms) → IsCheaper σ τ → IsCheaper (with_cost x c σ) (with_cost x k τ)
with_cheaper x c k σ τ f h y ns ms a = either_at_most (bytes_eq x y) c k (σ y) (τ y) ns ms (f ns ms a) (h y ns ms a)

pub with_costs_cheaper : (ws : List Written) (ns ms : List ℕ) (σ τ : Costs) → AreAtMost ns ms → IsCheaper σ τ → IsCheaper (with_costs ws ns σ) (with_costs ws ms τ)
with_costs_cheaper [] ns ms σ τ a h = h
with_costs_cheaper (w ∷ ws) [] [] σ τ a h = h
with_costs_cheaper (w ∷ ws) [] (m ∷ ms) σ τ a h = absurd a
with_costs_cheaper (w ∷ ws) (n ∷ ns) [] σ τ a h = absurd a
with_costs_cheaper (w ∷ ws) (n ∷ ns) (m ∷ ms) σ τ a h =
    with_costs_cheaper ws ns ms (with_cost w.word (λ xs. n) σ) (with_cost w.word (λ xs. m) τ) a.1 (with_cheaper w.word (λ xs. n) (λ xs. m) σ τ (λ xs ys b. a.0) h)

mutual
  pub cost_cheaper : (a : Tree) (σ τ : Costs) → IsCheaper σ τ → cost a σ ≤ cost a τ
  cost_cheaper (t.Name w) σ τ h = let r = h w.word [] [] tt in omega (arith, r)
  cost_cheaper (t.Call w es) σ τ h =
      let a = costs_cheaper es σ τ h in
      let r = h w.word (costs_of es σ) (costs_of es τ) a in
      omega (arith, r, total_at_most (costs_of es σ) (costs_of es τ) a)
  cost_cheaper (t.At p) σ τ h = let r = h at_name [] [] tt in omega (arith, r)
  cost_cheaper (t.Paren p a) σ τ h = let r = cost_cheaper a σ τ h in omega (arith, r)
  cost_cheaper (t.Prime p a) σ τ h = let r = cost_cheaper a σ τ h in omega (arith, r)
  cost_cheaper (t.Let p ds a) σ τ h = let r = cost_cheaper a (costs_after ds σ) (costs_after ds τ) (after_cheaper ds σ τ h) in omega (arith, r)
  cost_cheaper (t.Number p n) σ τ h = omega arith
  cost_cheaper (t.Text p cs) σ τ h = omega arith
  cost_cheaper (t.Word p c) σ τ h = omega arith
  cost_cheaper (t.Listing p b es) σ τ h = weigh_at_most (costs_of es σ) (costs_of es τ) (costs_cheaper es σ τ h)
  cost_cheaper (t.Index p f es) σ τ h = omega arith
  cost_cheaper (t.Field p a w) σ τ h = omega arith
  cost_cheaper (t.Unary p op a) σ τ h = omega arith
  cost_cheaper (t.Binary p op w a b) σ τ h = omega arith
  cost_cheaper (t.Quantified p q bs a) σ τ h = omega arith
  cost_cheaper (t.Choose p w s a) σ τ h = omega arith
  cost_cheaper (t.If p a b c) σ τ h = omega arith
  cost_cheaper (t.Case p as' o) σ τ h = omega arith
  cost_cheaper (t.Junction p b es) σ τ h = weigh_at_most (costs_of es σ) (costs_of es τ) (costs_cheaper es σ τ h)
  cost_cheaper (t.Filter p w s a) σ τ h = omega arith
  cost_cheaper (t.Image p a bs) σ τ h = omega arith
  cost_cheaper (t.Function p bs a) σ τ h = omega arith
  cost_cheaper (t.FunctionSet p s a) σ τ h = omega arith
  cost_cheaper (t.Record p fs) σ τ h = omega arith
  cost_cheaper (t.RecordSet p fs) σ τ h = omega arith
  cost_cheaper (t.Except p f us) σ τ h = omega arith
  cost_cheaper (t.Action p s a v) σ τ h = omega arith
  cost_cheaper (t.Fair p f v a) σ τ h = omega arith
  cost_cheaper (t.Product p a es) σ τ h = omega arith

  pub costs_cheaper : (es : Trees) (σ τ : Costs) → IsCheaper σ τ → AreAtMost (costs_of es σ) (costs_of es τ)
  costs_cheaper none σ τ h = tt
  costs_cheaper (more a es) σ τ h = (cost_cheaper a σ τ h, costs_cheaper es σ τ h)

  pub after_cheaper : (ds : Definitions) (σ τ : Costs) → IsCheaper σ τ → IsCheaper (costs_after ds σ) (costs_after ds τ)
  after_cheaper undefined σ τ h = h
  after_cheaper (defined def ds) σ τ h = after_cheaper ds (cost_after def σ) (cost_after def τ) (one_after_cheaper def σ τ h)

  pub one_after_cheaper : (def : Definition) (σ τ : Costs) → IsCheaper σ τ → IsCheaper (cost_after def σ) (cost_after def τ)
  one_after_cheaper (DefinesOperator w ws a) σ τ h =
      with_cheaper w.word (λ ns. total ns + cost a (with_costs ws ns σ)) (λ ns. total ns + cost a (with_costs ws ns τ)) σ τ
      (λ ns ms b. let r = cost_cheaper a (with_costs ws ns σ) (with_costs ws ms τ) (with_costs_cheaper ws ns ms σ τ b h) in omega (arith, r, total_at_most ns ms b)) h
  one_after_cheaper (DefinesFunction w bs a) σ τ h = with_cheaper w.word (λ ns. 0) (λ ns. 0) σ τ (λ ns ms b. omega arith) h

by_cheaper : (at : ℕ → Costs) (n : ℕ) (w : What) (rest : ℕ) → IsBelow n w rest → ((r : ℕ) → r ≤ n → IsCheaper (at r) (at r)) → (ns ms : List ℕ) → AreAtMost ns ms → cost_by at w ns ≤ cost_by at w ms
by_cheaper at n (what.Bound i) rest b f ns ms a = omega arith
by_cheaper at n (what.Variable i) rest b f ns ms a = omega arith
by_cheaper at n (what.Value v) rest b f ns ms a = omega arith
by_cheaper at n (what.Argument u s) rest b f ns ms a = omega arith
by_cheaper at n (what.Definition ws body home) rest b f ns ms a =
    let r = cost_cheaper (view body.now) (with_costs ws.now ns (at home)) (with_costs ws.now ms (at home)) (with_costs_cheaper ws.now ns ms (at home) (at home) a (f home b.0)) in
    omega (arith, r, total_at_most ns ms a)
by_cheaper at n (what.Function p bs body home) rest b f ns ms a = omega arith
by_cheaper at n (what.Gives k g) rest b f ns ms a = total_at_most ns ms a
by_cheaper at n (what.Module m) rest b f ns ms a = omega arith
by_cheaper at n what.Unknown rest b f ns ms a = omega arith

pub self_cheaper : (es : List Entry) (n s : ℕ) → AreLinked es → s ≤ n → s ≤ length es → IsCheaper (costs_at es s) (costs_at es s)
self_cheaper es n zero l h b = rw (costs_zero es) (λ x ns ms a. omega arith)
self_cheaper es zero (suc k) l h b = absurd (omega arith)
self_cheaper es (suc n) (suc k) l h b =
    let u = entry_there es k (omega arith) in
    let e = u.0 in
    let below = below_at es k e l (omega arith) u.1 in
    let r : e.rest ≤ k = below_rest k e.what e.rest below in
    let p : suc k ≡ k + 1 = omega arith in
    rw (p, costs_entry es k e l (omega arith) u.1)
    (with_cheaper e.name.now (cost_by (costs_at es) e.what) (cost_by (costs_at es) e.what) (costs_at es e.rest) (costs_at es e.rest)
    (by_cheaper (costs_at es) k e.what e.rest below (λ i j. self_cheaper es n i l (omega arith) (omega arith))) (self_cheaper es n e.rest l (omega arith) (omega arith)))

-- an argument costs no more than all
pub item_at_most : (es : List syntax.Expr) (i : ℕ) (e : syntax.Expr) (σ : Costs) → i < length es → e ≡ get_or es i e → cost (view e) σ ≤ total (costs_in es σ)
item_at_most [] i e σ h g = absurd (omega arith)
item_at_most (x ∷ es) zero e σ h g = rw g (omega arith)
item_at_most (x ∷ es) (suc i) e σ h g = let r = item_at_most es i e σ (omega arith) g in omega (arith, r)

pub arguments_cost : (es : List syntax.Expr) (σ : Costs) → costs_of (t.trees (map view es)) σ ≡ costs_in es σ
arguments_cost [] σ = refl
arguments_cost (e ∷ es) σ = ap (λ (ns : List ℕ). cost (view e) σ ∷ ns) (arguments_cost es σ)

pub call_cost : (w : Written) (es : List syntax.Expr) (σ : Costs) → cost (t.Call w (t.trees (map view es))) σ ≡ total (costs_in es σ) + σ w.word (costs_in es σ) + 1
call_cost w es σ = rw (arguments_cost es σ) (omega arith)

-- a call costs more than each of its arguments
pub call_at_most : (b : syntax.Expr) (w : Written) (es : List syntax.Expr) (e : syntax.Expr) (σ : Costs) → view b ≡ t.Call w (t.trees (map view es)) → cost (view e) σ ≤ total (costs_in es σ) → cost (view e) σ ≤ cost (view b) σ
call_at_most b w es e σ v h = rw v (omega (arith, h, call_cost w es σ))

-- one definition more
pub more_cheaper : (upper : Costs) (ds : List defining.Definition) (i : ℕ) (def : defining.Definition) (all new entry : Costs) → i < length ds → def ≡ get_or ds i def → new ≡ entry → IsCheaper entry (cost_after (definition_view def) upper)
    → all ≡ costs_after (t.definitions (map definition_view (drop i ds))) upper
    → (next : Costs) × IsCheaper new next × (all ≡ costs_after (t.definitions (map definition_view (drop (i + 1) ds))) next)
more_cheaper upper ds i def all new entry h g e c k =
    let p : drop i ds ≡ def ∷ drop (suc i) ds = drop-cons ds i def h ∙ ap (λ (y : defining.Definition). y ∷ drop (suc i) ds) (sym g) in
    let q : i + 1 ≡ suc i = add-one i in
    (cost_after (definition_view def) upper, rw e c, k ∙ rw (p, q) refl)

pub all_cheaper : (ds : List defining.Definition) (i : ℕ) (all upper new : Costs) → length ds ≤ i → IsCheaper new upper → all ≡ costs_after (t.definitions (map definition_view (drop i ds))) upper → IsCheaper new all
all_cheaper ds i all upper new h c k = rw (k, drop_all i ds h) c

pub listing_cost : (es : List syntax.Expr) (σ : Costs) → weigh (costs_in es σ) ≤ weigh (costs_of (t.trees (map view es)) σ)
listing_cost es σ = rw (arguments_cost es σ) (omega arith)

pub no_cost : (own : OwnForm) (e : Tree) → HasNoCost own → IsFormCost own e
no_cost (own_form.Form f) e h = λ σ. let z = h σ in omega (arith, z)
no_cost (own_form.Nothing p) e h = tt
no_cost own_form.Goes e h = tt
