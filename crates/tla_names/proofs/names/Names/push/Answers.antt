use Rattle.tla_names.proofs.Tabling.{tabled_more}
use Rattle.tla_names.proofs.names.Names.push.Goals as goal

pub invariant_of-self-inside-in-Ok : goal.invariant_of-self-inside-in-Ok
invariant_of-self-inside-in-Ok c =
    (rw (c.in-Ok.ensures.keys, c.in_ok-push.ensures.items) (tabled_more c.self.inside.table.keys c.self.inside.words.items c.as_bytes.result c.args.word c.as_bytes.ensures c.self.inside.tabled), tt)
