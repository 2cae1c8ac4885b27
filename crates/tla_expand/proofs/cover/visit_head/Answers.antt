use Rattle.std.proofs.Common.{◌∙◌, sym}
use Rattle.tla_scopes.specs.Reductions.{head_gives}
use Rattle.tla_scopes.specs.Scopes.{scope_at}
use Rattle.tla_expand.proofs.Nameless.{form_nameless}
use Rattle.tla_expand.proofs.Walking.{variable_piece, tuple_piece, put_variable, put_tuple, put_other}
use Rattle.tla_scopes.specs.Listed.{listed}
use Rattle.std.proofs.Common.{arith}
use Rattle.tla_expand.proofs.Weights.{pushed_weigh, tuple_weigh}
use Rattle.tla_expand.proofs.cover.visit_head.Goals as goal

pub returns-in_ok-record_variable-in-Variable-clause-goes : goal.returns-in_ok-record_variable-in-Variable-clause-goes
returns-in_ok-record_variable-in-Variable-clause-goes c = λ whole w.
    let h = c.args.head in
    let walk = c.args.walk.now in
    let es = listed walk.entries in
    let v = variable_piece h.primes h.form c.in-Variable.variable (sym c.piece_of.ensures ∙ c.in-Variable.is) (scope_at es h.scope) 0 in
    put_variable whole es walk.remaining.items walk.visited.keys walk.found.keys (head_gives es h 0) w v.0 c.in-Variable.variable c.record_variable.new.found.keys v.1 c.in_ok-record_variable-in-Variable.ensures.ok

pub returns-in_ok-push_parts-in-Tuple-clause-goes : goal.returns-in_ok-push_parts-in-Tuple-clause-goes
returns-in_ok-push_parts-in-Tuple-clause-goes c = λ whole w.
    let h = c.args.head in
    let walk = c.args.walk.now in
    let es = listed walk.entries in
    let v = tuple_piece h.primes h.form c.in-Tuple.items (sym c.piece_of.ensures ∙ c.in-Tuple.is) (scope_at es h.scope) 0 in
    put_tuple es h.scope h.primes whole (head_gives es h 0) walk.remaining.items c.push_parts.new.remaining.items walk.visited.keys walk.found.keys v.0 c.in-Tuple.items.now.items v.1 (rw c.as_slice.ensures.value at c.in_ok-push_parts-in-Tuple.ensures.ok) c.requires.within w

pub returns-in-Other-clause-goes : goal.returns-in-Other-clause-goes
returns-in-Other-clause-goes c = λ whole w.
    let h = c.args.head in
    let walk = c.args.walk.now in
    let es = listed walk.entries in
    put_other whole es walk.remaining.items walk.visited.keys walk.found.keys (head_gives es h 0) w (form_nameless h.form (scope_at es h.scope) 0 h.primes (sym c.piece_of.ensures ∙ c.in-Other.is))

pub returns-in_ok-push_parts-in-Tuple-clause-left : goal.returns-in_ok-push_parts-in-Tuple-clause-left
returns-in_ok-push_parts-in-Tuple-clause-left c = λ n k.
    let h = c.args.head in
    let es = listed c.args.walk.now.entries in
    let w = pushed_weigh es c.args.walk.now.remaining.items c.in-Tuple.items.now.items h.scope h.primes c.push_parts.new.remaining.items (rw c.as_slice.ensures.value at c.in_ok-push_parts-in-Tuple.ensures.ok) in
    let q = tuple_weigh es h c.in-Tuple.items (sym c.piece_of.ensures ∙ c.in-Tuple.is) in
    omega (arith, w, q, k)
