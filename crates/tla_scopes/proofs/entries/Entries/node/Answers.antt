use Rattle.std.proofs.Common.{rules, ◌≡◌, ◌++◌, length, get_or, vec_len, subst, arith, length-append}
use Rattle.tla_scopes.specs.declared.entries.Node.{Node}
use Rattle.tla_scopes.specs.Listed.{listed}
use Rattle.tla_scopes.proofs.Indexed.{among_known, among_made, entries_length, entry_is, node_at}
use Rattle.tla_scopes.proofs.entries.Entries.node.Goals as goal

pub index-requires : goal.index-requires
unfolding listed
index-requires c =
    let s = c.args.self.now in
    let n : length s.made.items ≡ vec_len s.made = search rules in
    omega (arith, entries_length (s.known.now ++ s.made.items), length-append s.known.now s.made.items)

pub returns-then-at-lent-clause-entry : goal.returns-then-at-lent-clause-entry
unfolding listed
returns-then-at-lent-clause-entry c =
    let s = c.args.self.now in
    let at = c.args.at in
    let i = c.index-self-at in
    let g = subst (λ (x : Node). x ≡ get_or s.known.now at x) i.is i.is in
    entry_is (s.known.now ++ s.made.items) at (get_or s.known.now at i.result) (among_known s.known.now s.made.items at (get_or s.known.now at i.result) (omega arith) g)

pub returns-then-at-lent-clause-node : goal.returns-then-at-lent-clause-node
unfolding listed
returns-then-at-lent-clause-node c =
    let s = c.args.self.now in
    let at = c.args.at in
    let i = c.index-self-at in
    let g = subst (λ (x : Node). x ≡ get_or s.known.now at x) i.is i.is in
    node_at (s.known.now ++ s.made.items) at (get_or s.known.now at i.result) s.indexed (omega (arith, length-append s.known.now s.made.items)) (among_known s.known.now s.made.items at (get_or s.known.now at i.result) (omega arith) g)

pub returns-else-at-lent-clause-entry : goal.returns-else-at-lent-clause-entry
unfolding listed
returns-else-at-lent-clause-entry c =
    let s = c.args.self.now in
    entry_is (s.known.now ++ s.made.items) c.args.at c.index.result.now (among_made s.known.now s.made.items c.args.at c.index.result.now (omega arith) c.index.ensures)

pub returns-else-at-lent-clause-node : goal.returns-else-at-lent-clause-node
unfolding listed
returns-else-at-lent-clause-node c =
    let s = c.args.self.now in
    node_at (s.known.now ++ s.made.items) c.args.at c.index.result.now s.indexed (omega (arith, entries_length (s.known.now ++ s.made.items)))
    (among_made s.known.now s.made.items c.args.at c.index.result.now (omega arith) c.index.ensures)
