use Rattle.std.proofs.Common.{rules, ◌≡◌, ◌+◌, ◌-◌, ℕ, true, false, get_or, arith, sym, ◌∙◌, ap}
use Rattle.std.specs.Str.{bytes_eq}
use Rattle.tla_scopes.specs.Meanings.{Scope}
use Rattle.tla_scopes.specs.Private.Index.{found_at, hash_of, slot_of}
use Rattle.tla_scopes.specs.Listed.{listed}
use Rattle.tla_scopes.proofs.Indexed.{jump_from, scope_same}
use Rattle.tla_scopes.proofs.Links.{find_hit, same_entry, scope_zero}
use Rattle.tla_scopes.proofs.EntryCosts.{costs_same, costs_hit}
use Rattle.tla_scopes.proofs.arena.position.Goals as goal

pub returns-then-eq-clause-found : goal.returns-then-eq-clause-found
returns-then-eq-clause-found c = λ e h.
    let es = listed c.args.entries.now in
    let n = c.node-node.result.now in
    let at = c.loop-at.at in
    let p : at ≡ (at - 1) + 1 = omega arith in
    let q : bytes_eq n.entry.name.now c.args.name.now ≡ true = search rules in
    let same : e ≡ n.entry = same_entry es (at - 1) e n.entry (omega arith) h c.node-node.ensures.entry in
    rw same (scope_same es c.args.scope at c.args.name.now c.requires.linked c.requires.within c.loop-at.invariant.within (sym c.loop-at.invariant.same)
    ∙ find_hit es at (at - 1) c.args.name.now n.entry c.requires.linked p (omega arith) c.node-node.ensures.entry q)

pub loop-at-smaller : goal.loop-at-smaller
loop-at-smaller c =
    let n = c.node-node.result.now in
    let below = c.node-node.ensures.node.below c.slot.result in
    omega (arith, below)

pub loop-at-preserved : goal.loop-at-preserved
loop-at-preserved c =
    let es = listed c.args.entries.now in
    let n = c.node-node.result.now in
    let x = c.args.name.now in
    let at = c.loop-at.at in
    let p : (at - 1) + 1 ≡ at = omega arith in
    let q : bytes_eq n.entry.name.now x ≡ false = search rules in
    let s : c.slot.result ≡ slot_of n.hash (hash_of x) = c.slot.ensures.same ∙ ap (λ (h : ℕ). slot_of n.hash h) c.name_hash-hash.ensures in
    let jumps = jump_from es (at - 1) n x (omega arith) c.node-node.ensures.entry c.node-node.ensures.node q in
    record {
      within = omega (arith, c.node-node.ensures.node.below c.slot.result);
      same = ap (λ (k : ℕ). found_at es (get_or n.jumps k 0) x) s ∙ sym (rw p at jumps) ∙ c.loop-at.invariant.same;
    }

pub returns-clause-none : goal.returns-clause-none
returns-clause-none c =
    let es = listed c.args.entries.now in
    let x = c.args.name.now in
    let z : c.loop-at.at ≡ 0 = omega arith in
    scope_same es c.args.scope c.loop-at.at x c.requires.linked c.requires.within c.loop-at.invariant.within (sym c.loop-at.invariant.same) ∙ rw z (ap (λ (σ : Scope). σ x) (scope_zero es))

pub returns-then-eq-clause-costs : goal.returns-then-eq-clause-costs
returns-then-eq-clause-costs c = λ e h.
    let es = listed c.args.entries.now in
    let n = c.node-node.result.now in
    let at = c.loop-at.at in
    let p : at ≡ (at - 1) + 1 = omega arith in
    let q : bytes_eq n.entry.name.now c.args.name.now ≡ true = search rules in
    let same : e ≡ n.entry = same_entry es (at - 1) e n.entry (omega arith) h c.node-node.ensures.entry in
    rw same (costs_same es c.args.scope at c.args.name.now c.requires.linked c.requires.within c.loop-at.invariant.within (sym c.loop-at.invariant.same)
    ∙ costs_hit es at (at - 1) c.args.name.now n.entry c.requires.linked p (omega arith) c.node-node.ensures.entry q)
