use Rattle.std.proofs.Common.{◌++◌, ◌∷◌, []}
use Rattle.tla_value.specs.TreeOf.{tree_of}
use Rattle.tla_operators.proofs.Different.{still_gathered, held_more, room_more}
use Rattle.tla_operators.proofs.gathered.Gathered.add.Goals as goal

pub returns-then-self-clause-ok : goal.returns-then-self-clause-ok
returns-then-self-clause-ok c = λ ts h. still_gathered ts (tree_of c.args.value) c.args.self.now c.if-self.true h

pub returns-clause-ok : goal.returns-clause-ok
returns-clause-ok c = λ ts h.
    let t = tree_of c.args.value in
    c.make_room.ensures (ts ++ t ∷ []) (held_more ts c.args.value c.args.self.now c.push.new.self.items c.if-self.false c.in_ok-push.ensures.items h) c.if-self.false (room_more ts t c.args.self.now c.if-self.false h)
