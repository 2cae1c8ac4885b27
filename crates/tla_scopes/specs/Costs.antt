-- How many reductions are left at most until the form of an expression is found.
use Rattle.std.specs.Prelude.{◌≡◌, ◌≤◌, ◌<◌, ◌+◌, ℕ, suc, List, [], ◌∷◌, ◌++◌, map, get_or, if◌then◌else◌}
use Rattle.std.specs.Str.{bytes_eq}
use Rattle.tla_tree.specs.declared.word.Written.{Written}
use Rattle.tla_tree.specs.declared.tree.Expr as s
use Rattle.tla_tree.specs.Tree.{Tree, Trees, Definition, Definitions, Listing, Junction, Name, Call, At, Paren, Prime, Let, none, more, undefined, defined, DefinesOperator, DefinesFunction}
use Rattle.tla_tree.specs.View.{view}
use Rattle.tla_scopes.specs.declared.arena.Entry.{Entry}
use Rattle.tla_scopes.specs.declared.arena.What.{What}
use Rattle.tla_scopes.specs.declared.arena.What.TheVariants as what
use Rattle.tla_scopes.specs.declared.nodes.Form.{Form}
use Rattle.tla_scopes.specs.declared.nodes.Form.TheVariants as form
use Rattle.tla_scopes.specs.declared.nodes.OwnForm.{OwnForm}
use Rattle.tla_scopes.specs.declared.nodes.OwnForm.TheVariants as own_form
use Rattle.tla_scopes.specs.declared.uses.Head.{Head}
use Rattle.tla_scopes.specs.declared.uses.Reduction.{Reduction}
use Rattle.tla_scopes.specs.declared.uses.Reduction.TheVariants as reduction
use Rattle.tla_scopes.specs.Places as names
use Rattle.tla_scopes.specs.Places.{at_name}

-- the cost of a use of a name, given those of its arguments
abbrev pub Cost : Type 0
Cost = List ℕ → ℕ

-- what the uses of names cost
abbrev pub Costs : Type 0
Costs = names.Name → Cost

abbrev pub total : List ℕ → ℕ
total [] = 0
total (n ∷ ns) = n + total ns

-- each and one more
abbrev pub weigh : List ℕ → ℕ
weigh [] = 0
weigh (n ∷ ns) = n + 1 + weigh ns

abbrev pub with_cost : names.Name → Cost → Costs → Costs
with_cost x c σ y = if bytes_eq x y then c else σ y

abbrev pub with_costs : List Written → List ℕ → Costs → Costs
with_costs [] ns σ = σ
with_costs (w ∷ ws) [] σ = σ
with_costs (w ∷ ws) (n ∷ ns) σ = with_costs ws ns (with_cost w.word (λ ms. n) σ)

-- An operator may lead to each of its arguments, and each argument may be looked at before the use. The items of a list
-- may be reduced after it.
abbrev mutual
  pub cost : Tree → Costs → ℕ
  cost (Name w) σ = suc (σ w.word [])
  cost (Call w es) σ = suc (total (costs_of es σ) + σ w.word (costs_of es σ))
  cost (At p) σ = suc (σ at_name [])
  cost (Paren p a) σ = suc (cost a σ)
  cost (Prime p a) σ = suc (cost a σ)
  cost (Let p ds a) σ = suc (cost a (costs_after ds σ))
  cost (Listing p b es) σ = weigh (costs_of es σ)
  cost (Junction p b es) σ = weigh (costs_of es σ)
  cost a σ = 0

  pub costs_of : Trees → Costs → List ℕ
  costs_of none σ = []
  costs_of (more a es) σ = cost a σ ∷ costs_of es σ

  pub costs_after : Definitions → Costs → Costs
  costs_after undefined σ = σ
  costs_after (defined def ds) σ = costs_after ds (cost_after def σ)

  pub cost_after : Definition → Costs → Costs
  cost_after (DefinesOperator w ws a) σ = with_cost w.word (λ ns. total ns + cost a (with_costs ws ns σ)) σ
  cost_after (DefinesFunction w bs a) σ = with_cost w.word (λ ns. 0) σ

-- the costs of arguments
abbrev pub costs_in : List s.Expr → Costs → List ℕ
costs_in es σ = map (λ (e : s.Expr). cost (view e) σ) es

abbrev pub cost_by : (ℕ → Costs) → What → Cost
cost_by at (what.Argument t k) = λ ns. cost (view t.now) (at k)
cost_by at (what.Definition ws body home) = λ ns. total ns + cost (view body.now) (with_costs ws.now ns (at home))
cost_by at (what.Gives n g) = λ ns. total ns
cost_by at w = λ ns. 0

-- the costs in the scopes that entries make
abbrev pub free : Costs
free x ns = 0

abbrev pub costs_among : List Costs → ℕ → Costs
costs_among σs i = get_or σs i free

abbrev pub entry_costs : (ℕ → Costs) → Entry → Costs
entry_costs at e = with_cost e.name.now (cost_by at e.what) (at e.rest)

abbrev pub grow_costs : List Costs → List Entry → List Costs
grow_costs σs [] = σs
grow_costs σs (e ∷ es) = grow_costs (σs ++ entry_costs (costs_among σs) e ∷ []) es

unfoldable pub costs_at : List Entry → ℕ → Costs
costs_at es i = costs_among (grow_costs (free ∷ []) es) i

abbrev pub AreAtMost : List ℕ → List ℕ → Type 0
AreAtMost [] [] = Unit {0}
AreAtMost [] (m ∷ ms) = ⊥
AreAtMost (n ∷ ns) [] = ⊥
AreAtMost (n ∷ ns) (m ∷ ms) = (n ≤ m) × AreAtMost ns ms

-- no use costs more, of arguments that cost no more
abbrev pub IsCheaper : Costs → Costs → Type 0
IsCheaper σ τ = (x : names.Name) (ns ms : List ℕ) → AreAtMost ns ms → σ x ns ≤ τ x ms

-- the items of a list that is a form
abbrev pub form_cost : Form → Costs → ℕ
form_cost (form.Many p f ts) σ = weigh (costs_in ts.now.items σ)
form_cost fm σ = 0

abbrev pub head_cost : List Entry → Head → ℕ
head_cost es h = form_cost h.form (costs_at es h.scope)

-- a form of an expression that costs no more than it
abbrev pub IsFormCost : OwnForm → Tree → Type 0
IsFormCost (own_form.Form f) e = (σ : Costs) → form_cost f σ ≤ cost e σ
IsFormCost own e = Unit {0}

abbrev pub HasNoCost : OwnForm → Type 0
HasNoCost (own_form.Form f) = (σ : Costs) → form_cost f σ ≡ 0
HasNoCost own = Unit {0}

-- a reduction after which fewer than n are left, or a form that costs n at most
abbrev pub IsShorter : List Entry → Reduction → ℕ → Type 0
IsShorter es (reduction.Goes t k p) n = cost (view t.now) (costs_at es k) < n
IsShorter es (reduction.Ends h) n = head_cost es h ≤ n
