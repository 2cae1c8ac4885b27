use Rattle.std.proofs.Common.{rules, ◌≡◌, ◌∙◌, ◌+◌, ◌-◌, true, ap, sym, arith}
use Rattle.std.specs.Str.{bytes_eq}
use Rattle.tla_tree.specs.declared.word.Written.{Written}
use Rattle.tla_scopes.specs.Places.{Name}
use Rattle.tla_scopes.proofs.Shorter.{last_at}
use Rattle.tla_scopes.proofs.shortened.last_of.Goals as goal

pub returns-then-eq-clause-some : goal.returns-then-eq-clause-some
returns-then-eq-clause-some c =
    let w = c.index-parameters-at.result in
    let p : c.loop-at.at - 1 + 1 ≡ c.loop-at.at = omega arith in
    let q : bytes_eq c.as_bytes.result.now c.args.name.now ≡ true = search rules in
    let word : c.as_bytes.result.now ≡ w.word = c.as_bytes.ensures ∙ ap (λ (y : Written). y.word) (sym c.index-parameters-at.is) in
    last_at c.args.parameters.now (c.loop-at.at - 1) w c.args.name.now (omega arith) c.index-parameters-at.is (ap (λ (x : Name). bytes_eq x c.args.name.now) (sym word) ∙ q) (rw p c.loop-at.invariant.absent)
