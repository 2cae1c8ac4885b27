use Rattle.std.proofs.Common.{◌≡◌, cond, map, drop, List, [], Some, sym, ap, ◌∙◌}
use Rattle.std.specs.Prelude.{slice_get}
use Rattle.tla_value.specs.Tree.{Tree}
use Rattle.tla_value.specs.TreeOf.{tree_of}
use Rattle.tla_eval.specs.Private.Wheels.{heads, left_in, left_of, wheel_trees}
use Rattle.tla_eval.proofs.Wheels.{turned_full, turned_left, first_choice}
use Rattle.tla_eval.proofs.odometer.Odometer.next.Goals as goal

pub returns-clause-ready : goal.returns-clause-ready
returns-clause-ready c h = turned_full (wheel_trees c.args.self.now.wheels.items) (wheel_trees c.turn.new.wheels.items) (c.requires c.if-self.false) c.turn.result c.turn.ensures.turned h

pub returns-clause-choice : goal.returns-clause-choice
returns-clause-choice c =
    let o = c.args.self.now in
    let ws = wheel_trees o.wheels.items in
    let full = c.requires c.if-self.false in
    let same : left_of o ≡ left_in ws = ap (λ b. cond b [] (left_in ws)) c.if-self.false in
    let heads_are : map tree_of c.in_ok-choice.choice.items ≡ heads ws = c.in_ok-choice.ensures.ok ∙ ap (λ us. heads (wheel_trees us)) c.as_slice.ensures.value in
    ap (λ (us : List Tree). Some us) heads_are ∙ ap (λ (cs : List (List Tree)). slice_get cs 0) (sym (same ∙ first_choice ws full))

pub returns-clause-rest : goal.returns-clause-rest
returns-clause-rest c =
    let o = c.args.self.now in
    let ws = wheel_trees o.wheels.items in
    let same : left_of o ≡ left_in ws = ap (λ b. cond b [] (left_in ws)) c.if-self.false in
    turned_left ws (wheel_trees c.turn.new.wheels.items) (c.requires c.if-self.false) c.turn.result c.turn.ensures.turned c.turn.ensures.last ∙ ap (λ cs. drop 1 cs) (sym same)
