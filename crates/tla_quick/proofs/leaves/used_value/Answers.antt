use Rattle.std.proofs.Common.{◌≡◌, ◌+◌, OnOk, subst}
use Rattle.tla_quick.specs.Private.Environment.{present_in, next_in}
use Rattle.tla_quick.proofs.Used.{used_ok}
use Rattle.tla_quick.proofs.leaves.used_value.Goals as goal

pub returns-in-Some : goal.returns-in-Some
returns-in-Some c p =
    let env = c.args.env.now in
    let found = c.in-Some.found in
    used_ok env.frame.now (present_in env) (next_in env) c.args.number c.args.by found.names p c.known_value.result found.value c.known_value.ensures.value
    (subst (λ n. OnOk c.known_value.result (found.names + c.args.by ≡ n)) env.named c.known_value.ensures.names)
    (c.in-Some.ensures (present_in env) (next_in env) env.knows)
