-- What remains of a walk over a nested tuple.
use Rattle.std.proofs.Common.{◌≡◌, ◌≤◌, ◌<◌, ◌+◌, ◌*◌, ℕ, Bool, true, false, List, [], ◌∷◌, ◌++◌, refl, ap, arith}
use Rattle.std.specs.Prelude.{Result, Ok, Err, IfOk, Vec}
use Rattle.std.specs.declared.alloc.Global.{Global}
use Rattle.std.specs.Borrow.{Bor}
use Rattle.tla_tree.specs.declared.tree.Expr as syntax
use Rattle.tla_tree.specs.View.{view}
use Rattle.tla_scopes.specs.declared.arena.Entry.{Entry}
use Rattle.tla_scopes.specs.declared.failure.Failure.{Failure}
use Rattle.tla_scopes.specs.declared.nodes.Form.{Form}
use Rattle.tla_scopes.specs.declared.nodes.Form.TheVariants as form
use Rattle.tla_scopes.specs.declared.nodes.ListNode.TheVariants as manies
use Rattle.tla_scopes.specs.declared.uses.Head.{Head}
use Rattle.tla_scopes.specs.declared.primes.Primes.{Primes}
use Rattle.tla_scopes.specs.declared.primes.Primes.TheVariants.{Never, Once, Twice}
use Rattle.tla_expand.specs.declared.cover.Piece.TheVariants as piece
use Rattle.tla_expand.specs.declared.cover.Visit.{Visit}
use Rattle.tla_expand.specs.declared.cover.Visit.TheVariants.{Part, End}
use Rattle.tla_scopes.specs.Costs.{Costs, cost, costs_at, costs_in, weigh, form_cost, head_cost}
use Rattle.tla_scopes.specs.Scopes.{Extends}
use Rattle.tla_expand.specs.Private.Gives.{pointed}
use Rattle.tla_expand.specs.Private.Walks.{EachIs, IsInside, parts_at, ArePushed, piece_of, weight, weights, IsLeft}
use Rattle.tla_scopes.proofs.EntryCosts.{costs_extends}

pub weights_append : (es : List Entry) (vs ws : List Visit) → weights es (vs ++ ws) ≡ weights es vs + weights es ws
weights_append es [] ws = omega arith
weights_append es (v ∷ vs) ws = let r = weights_append es vs ws in omega (arith, r)

weight_grown : (es new : List Entry) (v : Visit) → Extends new es → IsInside es v → weight new v ≡ weight es v
weight_grown es new (Part t s k) x h = ap (λ (σ : Costs). 3 * cost (view t.now) σ + 2) (costs_extends es new s x h)
weight_grown es new (End g) x h = refl

pub weights_grown : (es new : List Entry) (vs : List Visit) → Extends new es → EachIs (IsInside es) vs → weights new vs ≡ weights es vs
weights_grown es new [] x h = refl
weights_grown es new (v ∷ vs) x h = let r = weights_grown es new vs x h.1 in omega (arith, r, weight_grown es new v x h.0)

parts_weigh : (es : List Entry) (bs : List (Bor syntax.Expr)) (s : ℕ) (k : Primes) → weights es (parts_at bs s k) ≤ 3 * weigh (costs_in (pointed bs) (costs_at es s))
parts_weigh es [] s k = omega arith
parts_weigh es (b ∷ bs) s k = let r = parts_weigh es bs s k in omega (arith, r)

pub pushed_weigh : (es : List Entry) (old : List Visit) (ts : List syntax.Expr) (s : ℕ) (k : Primes) (new : List Visit) → ArePushed old ts s k new → weights es new ≤ weights es old + 3 * weigh (costs_in ts (costs_at es s))
pushed_weigh es old ts s k new p =
    let r = parts_weigh es p.0 s k in
    let q : weigh (costs_in (pointed p.0) (costs_at es s)) ≡ weigh (costs_in ts (costs_at es s)) = ap (λ (us : List syntax.Expr). weigh (costs_in us (costs_at es s))) p.1 in
    rw p.2 (omega (arith, r, q, weights_append es old (parts_at p.0 s k)))

pub left_more : (es : List Entry) (vs : List Visit) (n m : ℕ) (b : Bool) → n ≤ m → IsLeft es vs n b → IsLeft es vs m b
left_more es vs n m true h l = omega (arith, h, l)
left_more es vs n m false h l = tt

pub left_by : (r : Result Bool Failure) (P Q : Bool → Type 0) → ((b : Bool) → P b → Q b) → IfOk r P → IfOk r Q
left_by (Ok b) P Q f h = f b h
left_by (Err e) P Q f h = tt

-- the items of a tuple
tuple_cost : (k : Primes) (fm : Form) (ts : Bor (Vec syntax.Expr Global)) (σ : Costs) → piece_of k fm ≡ piece.Tuple ts → form_cost fm σ ≡ weigh (costs_in ts.now.items σ)
tuple_cost k (form.Many q manies.Tuple us) ts σ h = let w : us ≡ ts = cc in rw w refl
tuple_cost k (form.Many q manies.Set us) ts σ h = cc
tuple_cost k (form.Many q manies.And us) ts σ h = cc
tuple_cost k (form.Many q manies.Or us) ts σ h = cc
tuple_cost k (form.Many q manies.Product us) ts σ h = cc
tuple_cost Never (form.Variable p j) ts σ h = cc
tuple_cost Once (form.Variable p j) ts σ h = cc
tuple_cost Twice (form.Variable p j) ts σ h = cc
tuple_cost k (form.Leaf q l) ts σ h = cc
tuple_cost k (form.One q f a) ts σ h = cc
tuple_cost k (form.Two q f a b) ts σ h = cc
tuple_cost k (form.Three q f a b c) ts σ h = cc
tuple_cost k (form.Use q u a) ts σ h = cc
tuple_cost k (form.Headed q f a b) ts σ h = cc
tuple_cost k (form.Cases q a b) ts σ h = cc
tuple_cost k (form.Fields q f fs) ts σ h = cc
tuple_cost k (form.Except q a b) ts σ h = cc
tuple_cost k (form.Action q f a b c) ts σ h = cc
tuple_cost k (form.Unchanged q a) ts σ h = cc
tuple_cost k (form.Binders q f bs a) ts σ h = cc
tuple_cost k (form.Binds q f w a b) ts σ h = cc

pub tuple_weigh : (es : List Entry) (h : Head) (ts : Bor (Vec syntax.Expr Global)) → piece_of h.primes h.form ≡ piece.Tuple ts → head_cost es h ≡ weigh (costs_in ts.now.items (costs_at es h.scope))
tuple_weigh es h ts q = tuple_cost h.primes h.form ts (costs_at es h.scope) q

weight_more : (es : List Entry) (v : Visit) → (n : ℕ) × (weight es v ≡ n + 1)
weight_more es (Part t s k) = (3 * cost (view t.now) (costs_at es s) + 1, omega arith)
weight_more es (End g) = (0, omega arith)

-- after a visit that was removed from the list
pub popped : (es now : List Entry) (new all rest : List Visit) (v : Visit) → all ≡ rest ++ v ∷ [] → ((n : ℕ) → weights es rest + weight es v ≤ n + 1 → weights now new ≤ n) → weights now new < weights es all
popped es now new all rest v q f =
    let w = weights_append es rest (v ∷ []) in
    let p = weight_more es v in
    let k = f (weights es rest + p.0) (omega (arith, p.1)) in
    rw q (omega (arith, w, k, p.1))
