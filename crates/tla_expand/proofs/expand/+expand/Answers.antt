use Rattle.std.proofs.Common.{rules, ◌≡◌, ◌-◌, ◌+◌, ℕ, length, List, sym, ◌∙◌, ap, subst, map, drop, [], ◌∷◌, ◌++◌, arith, refl}
use Rattle.std.proofs.lemmas.Result.{err_from_is_err_and}
use Rattle.std.proofs.lemmas.List.{map-append, drop_all}
use Rattle.tla_model.specs.Size.{nodes, depth}
use Rattle.tla_core.specs.declared.expression.Binary.TheVariants.{Unequal}
use Rattle.tla_core.specs.Expr as e
use Rattle.tla_core.specs.Expr.{Expr, tuple, cases, product, except}
use Rattle.tla_core.specs.ExprOf.{expr_of, exprs_of_arm}
use Rattle.tla_tree.specs.View.{view, group_view, key_view, views_items}
use Rattle.tla_tree.specs.Tree as tree
use Rattle.tla_tree.specs.Tree.{binders}
use Rattle.tla_scopes.specs.declared.nodes.BinaryNode.TheVariants as twos
use Rattle.tla_scopes.specs.declared.nodes.ListNode.TheVariants as manies
use Rattle.tla_scopes.specs.Lists.{exprs, arms_with, fields_of, updates_of, named_part, changed_part}
use Rattle.tla_scopes.specs.Maybe.{each_of}
use Rattle.tla_scopes.specs.Nodes.{two, three, many, fielded}
use Rattle.tla_scopes.specs.Primes.{one_more, settled_primes, with_primes}
use Rattle.tla_scopes.specs.Expand.{expand, expand_step, binds_of}
use Rattle.tla_scopes.specs.Scopes.{scope_at}
use Rattle.tla_core.specs.Patterns.{items_in}
use Rattle.tla_scopes.specs.declared.failure.Failure.TheVariants.{NoExpansion, TooLarge}
use Rattle.tla_expand.specs.Private.Binders.{names_of, binds_in}
use Rattle.tla_scopes.specs.Bound.{last_or, nested, with_each, opening, openings, under_openings, with_elements, with_items}
use Rattle.tla_scopes.specs.Places.{place_of}
use Rattle.tla_expand.specs.Private.Gives.{Gives, Fails, part_in, arm_in, field_in, set_in, step_in, value_in, update_in, kept_part, changed_in, both, total, highest, sum_of, larger_of, field_nodes, field_depth, update_nodes, update_depth, parts_of}
use Rattle.tla_scopes.specs.Forms.{form_in}
use Rattle.tla_expand.proofs.Levels.{look_fails, unchanged_fails, explains_none, tuple_operand_fails, plain_operand_fails, changed_fails, tuple_looked}
use Rattle.tla_scopes.proofs.Steps.{if_fails}
use Rattle.tla_expand.proofs.Sizes.{Given, first_fails, second_fails, two_give, node_fails, node_gives, openings_primed, opened_gives, opened_fails}
use Rattle.tla_expand.proofs.Lists.{part_done, part_fails, all_done, total_more, highest_more}
use Rattle.tla_expand.proofs.Made.{two_larger, three_larger, many_larger, cases_larger, cases_or_larger, fielded_larger, product_larger, except_larger, Triple}
use Rattle.tla_scopes.proofs.Links.{cut_back, home_keep, bind_scope}
use Rattle.tla_scopes.proofs.Binds.{scope_extends, extends_length}
use Rattle.tla_expand.proofs.Plain.{plain_head, tuple_fails, tuple_gives, equal_fails, equal_gives}
use Rattle.tla_expand.proofs.Nested.{inner_fails, nested_gives}
use Rattle.tla_expand.proofs.NamedParts.{field_some, field_fails}
use Rattle.tla_expand.proofs.Gathered.{names_small, sets_fail, body_fails, gather_gives}
use Rattle.tla_expand.proofs.Keys.{one_key, several_keys}
use Rattle.tla_expand.proofs.Arms.{one_form, two_form, three_form, two_use, many_form, index_form, cases_form, cases_or_form, unchanged_form, fields_form, product_form, except_form, square_form, angle_form}
use Rattle.tla_scopes.specs.Listed.{listed}
use Rattle.tla_expand.proofs.expand.+expand.Goals as goal

pub node_of-returns-in-One-clause-same : goal.node_of-returns-in-One-clause-same
node_of-returns-in-One-clause-same t c =
    let m = c.in-One in
    rw (one_form c.args.form (scope_at (listed c.args.entries.now) c.args.at.scope) c.args.at.bound c.args.at.primes m.place m.node m.part m.is) (rw c.deref.ensures at c.one_node.ensures.same)

pub node_of-returns-in-Three-clause-same : goal.node_of-returns-in-Three-clause-same
node_of-returns-in-Three-clause-same t c =
    let m = c.in-Three in
    rw (three_form c.args.form (scope_at (listed c.args.entries.now) c.args.at.scope) c.args.at.bound c.args.at.primes m.place m.node m.first m.second m.third m.is) (rw (c.deref-in-Three.ensures, c.deref-in-Three-2.ensures, c.deref-in-Three-3.ensures) at c.three_node.ensures.same)

pub node_of-returns-in-Two-clause-same : goal.node_of-returns-in-Two-clause-same
node_of-returns-in-Two-clause-same t c =
    let m = c.in-Two in
    rw (two_form c.args.form (scope_at (listed c.args.entries.now) c.args.at.scope) c.args.at.bound c.args.at.primes m.place m.node m.a m.b m.is) (rw (c.deref-in-Two.ensures, c.deref-in-Two-2.ensures) at c.two_node.ensures.same)

pub node_of-returns-in-Many-clause-same : goal.node_of-returns-in-Many-clause-same
node_of-returns-in-Many-clause-same t c =
    let m = c.in-Many in
    rw (many_form c.args.form (scope_at (listed c.args.entries.now) c.args.at.scope) c.args.at.bound c.args.at.primes m.place m.node m.items m.is) (rw c.as_slice.ensures.value at c.many_node.ensures.same)

pub node_of-returns-in-Unchanged-clause-same : goal.node_of-returns-in-Unchanged-clause-same
node_of-returns-in-Unchanged-clause-same t c =
    let m = c.in-Unchanged in
    rw (unchanged_form c.args.form (scope_at (listed c.args.entries.now) c.args.at.scope) c.args.at.bound c.args.at.primes m.place m.operand m.is) (rw c.deref-in-Unchanged.ensures at c.unchanged_node.ensures.same)

pub use_node-returns-in-len2-clause-same : goal.use_node-returns-in-len2-clause-same
use_node-returns-in-len2-clause-same t c =
    let m = c.in-Two in
    let σ = scope_at (listed c.args.entries.now) c.args.at.scope in
    rw (m.is, two_use m.node c.args.place c.args.arguments.now c.one-item.result c.other-item.result σ c.args.at.bound c.args.at.primes (omega arith) (omega arith) c.one-item.is c.other-item.is) c.two_node.ensures.same

pub two_node-returns-in_err-two-clause-same : goal.two_node-returns-in_err-two-clause-same
two_node-returns-in_err-two-clause-same t c =
    let r = err_from_is_err_and c.from_residual.result c.from_residual.ensures.1 in
    let σ = scope_at (listed c.args.entries.now) c.args.at.scope in
    rw (r.1, r.2) (node_fails (sum_of nodes nodes) (larger_of depth depth) (λ (xy : Expr × Expr). two c.args.node c.args.place xy.0 xy.1) c.in_err-two.field-0.0
    (both (part_in c.args.at.primes σ c.args.at.bound c.args.first.now) (part_in c.args.at.primes σ c.args.at.bound c.args.second.now)) c.args.at.depth_left c.args.at.nodes_left (two_larger c.args.node c.args.place) c.in_err-two.ensures.same)

pub three_node-returns-in_err-two-clause-same : goal.three_node-returns-in_err-two-clause-same
three_node-returns-in_err-two-clause-same t c =
    let r = err_from_is_err_and c.from_residual.result c.from_residual.ensures.1 in
    let σ = scope_at (listed c.args.entries.now) c.args.at.scope in
    let ab = both (part_in c.args.at.primes σ c.args.at.bound c.args.operands.first.now) (part_in c.args.at.primes σ c.args.at.bound c.args.operands.second.now) in
    let last = part_in c.args.at.primes σ c.args.at.bound c.args.operands.third.now in
    rw (r.1, r.2) (node_fails (sum_of (sum_of nodes nodes) nodes) (larger_of (larger_of depth depth) depth) (λ (x : Triple). three c.args.node c.args.place x.0.0 x.0.1 x.1) c.in_err-two.field-0.0
    (both ab last) c.args.at.depth_left c.args.at.nodes_left (three_larger c.args.node c.args.place)
    (first_fails (sum_of nodes nodes) (larger_of depth depth) nodes depth c.in_err-two.field-0.0 ab last c.args.at.depth_left c.args.at.nodes_left c.in_err-two.ensures.same))

pub three_node-returns-in_err-third-clause-same : goal.three_node-returns-in_err-third-clause-same
three_node-returns-in_err-third-clause-same t c =
    let r = err_from_is_err_and c.from_residual-in_err-third.result c.from_residual-in_err-third.ensures.1 in
    let σ = scope_at (listed c.args.entries.now) c.args.at.scope in
    let ab = both (part_in c.args.at.primes σ c.args.at.bound c.args.operands.first.now) (part_in c.args.at.primes σ c.args.at.bound c.args.operands.second.now) in
    let last = part_in c.args.at.primes σ c.args.at.bound c.args.operands.third.now in
    let g = c.in_ok-two.ensures.same in
    let f = rw c.in_ok-two.ensures.kept at c.in_err-third.ensures.same in
    rw (r.1, r.2) (node_fails (sum_of (sum_of nodes nodes) nodes) (larger_of (larger_of depth depth) depth) (λ (x : Triple). three c.args.node c.args.place x.0.0 x.0.1 x.1) c.in_err-third.field-0.0
    (both ab last) c.args.at.depth_left c.args.at.nodes_left (three_larger c.args.node c.args.place)
    (second_fails (sum_of nodes nodes) (larger_of depth depth) nodes depth c.in_err-third.field-0.0 ab last (parts_of c.in_ok-two.two) c.args.at.depth_left c.args.at.nodes_left c.in_ok-two.two.nodes_left g.0 g.1 f))

pub many_node-returns-in_err-many-clause-same : goal.many_node-returns-in_err-many-clause-same
many_node-returns-in_err-many-clause-same t c =
    let r = err_from_is_err_and c.from_residual.result c.from_residual.ensures.1 in
    let σ = scope_at (listed c.args.entries.now) c.args.at.scope in
    rw (r.1, r.2) (node_fails (total nodes) (highest depth) (λ xs. many c.args.node c.args.place (exprs xs)) c.in_err-many.field-0.0
    (each_of (part_in c.args.at.primes σ c.args.at.bound) c.args.items.now) c.args.at.depth_left c.args.at.nodes_left (many_larger c.args.node c.args.place) c.in_err-many.ensures.same)

pub many_node-returns-clause-same : goal.many_node-returns-clause-same
many_node-returns-clause-same t c =
    let σ = scope_at (listed c.args.entries.now) c.args.at.scope in
    node_gives (total nodes) (highest depth) (λ xs. many c.args.node c.args.place (exprs xs)) (each_of (part_in c.args.at.primes σ c.args.at.bound) c.args.items.now)
    (map expr_of c.in_ok-many.many.parts.items) (expr_of c.in_ok-core.core) c.args.at.depth_left c.args.at.nodes_left c.in_ok-many.many.nodes_left (many_larger c.args.node c.args.place) c.in_ok-many.ensures.same c.in_ok-core.ensures.ok

pub cases_node-returns-in_err-made-clause-same : goal.cases_node-returns-in_err-made-clause-same
cases_node-returns-in_err-made-clause-same t c =
    let r = err_from_is_err_and c.from_residual.result c.from_residual.ensures.1 in
    let σ = scope_at (listed c.args.entries.now) c.args.at.scope in
    rw (r.1, r.2) (node_fails (total (sum_of nodes nodes)) (highest (larger_of depth depth)) (λ xs. cases c.args.place (arms_with xs e.no_arms)) c.in_err-made.field-0.0
    (each_of (arm_in c.args.at.primes σ c.args.at.bound) c.args.arms.now) c.args.at.depth_left c.args.at.nodes_left (cases_larger c.args.place) c.in_err-made.ensures.same)

pub cases_node-returns-clause-same : goal.cases_node-returns-clause-same
cases_node-returns-clause-same t c =
    let σ = scope_at (listed c.args.entries.now) c.args.at.scope in
    node_gives (total (sum_of nodes nodes)) (highest (larger_of depth depth)) (λ xs. cases c.args.place (arms_with xs e.no_arms)) (each_of (arm_in c.args.at.primes σ c.args.at.bound) c.args.arms.now)
    (map exprs_of_arm c.in_ok-made.made.arms.items) (expr_of c.cases_core.result) c.args.at.depth_left c.args.at.nodes_left c.in_ok-made.made.nodes_left (cases_larger c.args.place) c.in_ok-made.ensures.same c.cases_core.ensures

pub cases_or_node-returns-in_err-made-clause-same : goal.cases_or_node-returns-in_err-made-clause-same
cases_or_node-returns-in_err-made-clause-same t c =
    let r = err_from_is_err_and c.from_residual.result c.from_residual.ensures.1 in
    let σ = scope_at (listed c.args.entries.now) c.args.at.scope in
    let arms = each_of (arm_in c.args.at.primes σ c.args.at.bound) c.args.arms.now in
    let last = part_in c.args.at.primes σ c.args.at.bound c.args.last.now in
    rw (r.1, r.2) (node_fails (sum_of (total (sum_of nodes nodes)) nodes) (larger_of (highest (larger_of depth depth)) depth) (λ (xs : List (Expr × Expr) × Expr). cases c.args.place (arms_with xs.0 (e.other xs.1))) c.in_err-made.field-0.0
    (both arms last) c.args.at.depth_left c.args.at.nodes_left (cases_or_larger c.args.place)
    (first_fails (total (sum_of nodes nodes)) (highest (larger_of depth depth)) nodes depth c.in_err-made.field-0.0 arms last c.args.at.depth_left c.args.at.nodes_left c.in_err-made.ensures.same))

pub cases_or_node-returns-in_err-last-clause-same : goal.cases_or_node-returns-in_err-last-clause-same
cases_or_node-returns-in_err-last-clause-same t c =
    let r = err_from_is_err_and c.from_residual-in_err-last.result c.from_residual-in_err-last.ensures.1 in
    let σ = scope_at (listed c.args.entries.now) c.args.at.scope in
    let arms = each_of (arm_in c.args.at.primes σ c.args.at.bound) c.args.arms.now in
    let last = part_in c.args.at.primes σ c.args.at.bound c.args.last.now in
    let g = c.in_ok-made.ensures.same in
    let f = rw c.in_ok-made.ensures.kept at c.in_err-last.ensures.same in
    rw (r.1, r.2) (node_fails (sum_of (total (sum_of nodes nodes)) nodes) (larger_of (highest (larger_of depth depth)) depth) (λ (xs : List (Expr × Expr) × Expr). cases c.args.place (arms_with xs.0 (e.other xs.1))) c.in_err-last.field-0.0
    (both arms last) c.args.at.depth_left c.args.at.nodes_left (cases_or_larger c.args.place)
    (second_fails (total (sum_of nodes nodes)) (highest (larger_of depth depth)) nodes depth c.in_err-last.field-0.0 arms last (map exprs_of_arm c.in_ok-made.made.arms.items) c.args.at.depth_left c.args.at.nodes_left c.in_ok-made.made.nodes_left g.0 g.1 f))

pub cases_or_node-returns-clause-same : goal.cases_or_node-returns-clause-same
cases_or_node-returns-clause-same t c =
    let σ = scope_at (listed c.args.entries.now) c.args.at.scope in
    let arms = each_of (arm_in c.args.at.primes σ c.args.at.bound) c.args.arms.now in
    let last = part_in c.args.at.primes σ c.args.at.bound c.args.last.now in
    let h = rw c.in_ok-made.ensures.kept at c.in_ok-last.ensures.same in
    node_gives (sum_of (total (sum_of nodes nodes)) nodes) (larger_of (highest (larger_of depth depth)) depth) (λ (xs : List (Expr × Expr) × Expr). cases c.args.place (arms_with xs.0 (e.other xs.1))) (both arms last)
    (map exprs_of_arm c.in_ok-made.made.arms.items, expr_of c.in_ok-last.last.core) (expr_of c.in_ok-core.core) c.args.at.depth_left c.args.at.nodes_left c.in_ok-last.last.nodes_left (cases_or_larger c.args.place)
    (two_give (total (sum_of nodes nodes)) (highest (larger_of depth depth)) nodes depth arms last (map exprs_of_arm c.in_ok-made.made.arms.items) (expr_of c.in_ok-last.last.core) c.args.at.depth_left c.args.at.nodes_left c.in_ok-made.made.nodes_left c.in_ok-last.last.nodes_left c.in_ok-made.ensures.same h)
    c.in_ok-core.ensures.ok

pub lists::expand_all-returns-in_err-part-clause-same : goal.lists::expand_all-returns-in_err-part-clause-same
lists::expand_all-returns-in_err-part-clause-same t c =
    let r = err_from_is_err_and c.from_residual.result c.from_residual.ensures.1 in
    let f = rw c.loop-i.invariant.kept at c.in_err-part.ensures.same in
    rw (r.1, r.2) (part_fails (part_in c.args.at.primes (scope_at (listed c.args.entries.now) c.args.at.scope) c.args.at.bound) c.args.trees.now nodes depth c.in_err-part.field-0.0
    (map expr_of c.loop-i.parts.items) c.loop-i.i c.index-trees-i.result c.args.at.depth_left c.args.at.nodes_left c.loop-i.nodes_left
    c.loop-i.invariant.so_far (omega arith) c.index-trees-i.is c.loop-i.invariant.nodes_left f)

pub lists::expand_all-loop-i-preserved : goal.lists::expand_all-loop-i-preserved
lists::expand_all-loop-i-preserved t c =
    let f = rw c.loop-i.invariant.kept at c.in_ok-part.ensures.same in
    let old = map expr_of c.loop-i.parts.items in
    let x = expr_of c.in_ok-part.part.core in
    let p : map expr_of c.push.new.items.items ≡ old ++ x ∷ [] = ap (λ ps. map expr_of ps) c.in_ok-push.ensures.ok ∙ map-append expr_of c.loop-i.parts.items (c.in_ok-part.part.core ∷ []) in
    let n = total_more nodes old (map expr_of c.push.new.items.items) x p in
    record {
      kept = c.in_ok-part.ensures.kept ∙ c.loop-i.invariant.kept;
      so_far = part_done (part_in c.args.at.primes (scope_at (listed c.args.entries.now) c.args.at.scope) c.args.at.bound) c.args.trees.now
          old (map expr_of c.push.new.items.items) c.loop-i.i c.index-trees-i.result x c.loop-i.invariant.so_far (omega arith) c.index-trees-i.is f.0 p;
      nodes_left = omega (arith, f.1, c.loop-i.invariant.nodes_left, n);
      depth = highest_more depth old (map expr_of c.push.new.items.items) x c.args.at.depth_left p c.loop-i.invariant.depth f.2;
    }

pub lists::expand_all-returns-clause-same : goal.lists::expand_all-returns-clause-same
lists::expand_all-returns-clause-same t c =
    let z : drop c.loop-i.i c.args.trees.now ≡ [] = drop_all c.loop-i.i c.args.trees.now (omega arith) in (
      all_done (part_in c.args.at.primes (scope_at (listed c.args.entries.now) c.args.at.scope) c.args.at.bound) c.args.trees.now (map expr_of c.loop-i.parts.items) c.loop-i.i z c.loop-i.invariant.so_far,
      c.loop-i.invariant.nodes_left,
      c.loop-i.invariant.depth,
    )

pub lists::arms_of-returns-in_err-two-clause-same : goal.lists::arms_of-returns-in_err-two-clause-same
lists::arms_of-returns-in_err-two-clause-same t c =
    let r = err_from_is_err_and c.from_residual.result c.from_residual.ensures.1 in
    let f = rw c.loop-i.invariant.kept at c.in_err-two.ensures.same in
    rw (r.1, r.2) (part_fails (arm_in c.args.at.primes (scope_at (listed c.args.entries.now) c.args.at.scope) c.args.at.bound) c.args.arms.now (sum_of nodes nodes) (larger_of depth depth) c.in_err-two.field-0.0
    (map exprs_of_arm c.loop-i.made.items) c.loop-i.i c.index-arms-i.result c.args.at.depth_left c.args.at.nodes_left c.loop-i.nodes_left
    c.loop-i.invariant.so_far (omega arith) c.index-arms-i.is c.loop-i.invariant.nodes_left f)

pub lists::arms_of-loop-i-preserved : goal.lists::arms_of-loop-i-preserved
lists::arms_of-loop-i-preserved t c =
    let f = rw c.loop-i.invariant.kept at c.in_ok-two.ensures.same in
    let old = map exprs_of_arm c.loop-i.made.items in
    let x = parts_of c.in_ok-two.two in
    let new = map exprs_of_arm c.push.new.items.items in
    let pushed = rw c.into_inner.ensures at c.in_ok-push.ensures.ok in
    let p : new ≡ old ++ x ∷ [] = ap (λ ps. map exprs_of_arm ps) pushed ∙ map-append exprs_of_arm c.loop-i.made.items ((c.in_ok-two.two.first.value, c.in_ok-two.two.second) ∷ []) in
    let n = total_more (sum_of nodes nodes) old new x p in
    record {
      kept = c.in_ok-two.ensures.kept ∙ c.loop-i.invariant.kept;
      so_far = part_done (arm_in c.args.at.primes (scope_at (listed c.args.entries.now) c.args.at.scope) c.args.at.bound) c.args.arms.now
          old new c.loop-i.i c.index-arms-i.result x c.loop-i.invariant.so_far (omega arith) c.index-arms-i.is f.0 p;
      nodes_left = omega (arith, f.1, c.loop-i.invariant.nodes_left, n);
      depth = highest_more (larger_of depth depth) old new x c.args.at.depth_left p c.loop-i.invariant.depth f.2;
    }

pub lists::arms_of-returns-clause-same : goal.lists::arms_of-returns-clause-same
lists::arms_of-returns-clause-same t c =
    let z : drop c.loop-i.i c.args.arms.now ≡ [] = drop_all c.loop-i.i c.args.arms.now (omega arith) in (
      all_done (arm_in c.args.at.primes (scope_at (listed c.args.entries.now) c.args.at.scope) c.args.at.bound) c.args.arms.now (map exprs_of_arm c.loop-i.made.items) c.loop-i.i z c.loop-i.invariant.so_far,
      c.loop-i.invariant.nodes_left,
      c.loop-i.invariant.depth,
    )

pub lists::tuple_of-returns-in_err-many-clause-same : goal.lists::tuple_of-returns-in_err-many-clause-same
lists::tuple_of-returns-in_err-many-clause-same t c =
    let r = err_from_is_err_and c.from_residual-in_err-many.result c.from_residual-in_err-many.ensures.1 in
    let inside = c.in_ok-inside.inside in
    let e = c.in_ok-inside.ensures in
    let o = each_of (part_in inside.primes (scope_at (listed c.args.entries.now) inside.scope) inside.bound) c.args.items.now in
    let f = node_fails (total nodes) (highest depth) (λ xs. tuple c.args.place (exprs xs)) c.in_err-many.field-0.0 o inside.depth_left inside.nodes_left (many_larger manies.Tuple c.args.place) c.in_err-many.ensures.same in
    rw (r.1, r.2) (rw (e.depth_left, e.nodes_left, e.primes, e.scope, e.bound) at f)

pub lists::tuple_of-returns-clause-same : goal.lists::tuple_of-returns-clause-same
lists::tuple_of-returns-clause-same t c =
    let inside = c.in_ok-inside.inside in
    let e = c.in_ok-inside.ensures in
    let o = each_of (part_in inside.primes (scope_at (listed c.args.entries.now) inside.scope) inside.bound) c.args.items.now in
    let g = node_gives (total nodes) (highest depth) (λ xs. tuple c.args.place (exprs xs)) o (map expr_of c.in_ok-many.many.parts.items) (expr_of c.in_ok-core.core) inside.depth_left inside.nodes_left c.in_ok-many.many.nodes_left
    (many_larger manies.Tuple c.args.place) c.in_ok-many.ensures.same c.in_ok-core.ensures.ok in
    rw (e.depth_left, e.nodes_left, e.primes, e.scope, e.bound) at g

pub levels::node_of_head-returns-in_err-check_form-clause-same : goal.levels::node_of_head-returns-in_err-check_form-clause-same
levels::node_of_head-returns-in_err-check_form-clause-same t c =
    let r = err_from_is_err_and c.from_residual.result c.from_residual.ensures.1 in
    let o = form_in c.args.head.form (scope_at (listed c.args.entries.now) c.args.at.scope) c.args.at.bound in
    rw (r.1, r.2) (look_fails c.args.outer c.args.at.primes c.in_err-check_form.field-0.0 o (c.args.at.depth_left + 1) (c.args.at.nodes_left + 1) (sym c.are_fewer.ensures ∙ c.if-not-are_fewer.false) c.in_err-check_form.ensures.fails)

pub levels::check_tuple-returns-then-not-are_fewer-clause-fails : goal.levels::check_tuple-returns-then-not-are_fewer-clause-fails
levels::check_tuple-returns-then-not-are_fewer-clause-fails t c =
    let σ = scope_at (listed c.args.entries.now) c.args.at.scope in
    if_fails c.check_each.result (rw c.as_slice-trees.ensures.value at c.check_each.ensures.fails) (λ f h. tuple_looked c.args.head.form c.args.items σ c.args.at.bound c.args.at.primes f c.args.at.depth_left c.args.at.nodes_left c.requires.tuple h)

pub levels::check_tuple-returns-in_err-check_each-clause-fails : goal.levels::check_tuple-returns-in_err-check_each-clause-fails
levels::check_tuple-returns-in_err-check_each-clause-fails t c =
    let r = err_from_is_err_and c.from_residual.result c.from_residual.ensures.1 in
    let σ = scope_at (listed c.args.entries.now) c.args.at.scope in
    let f = c.in_err-check_each.field-0.0 in
    rw (r.1, r.2) (look_fails c.args.outer c.args.at.primes f (form_in c.args.head.form σ c.args.at.bound) (c.args.at.depth_left + 1) (c.args.at.nodes_left + 1) (sym c.are_fewer.ensures ∙ c.if-not-are_fewer.false)
    (tuple_looked c.args.head.form c.args.items σ c.args.at.bound c.args.outer f c.args.at.depth_left c.args.at.nodes_left c.requires.tuple (rw c.as_slice-trees.ensures.value at c.in_err-check_each.ensures.fails)))

pub levels::check_tuple-returns-in-Err-NoExpansion-clause-fails : goal.levels::check_tuple-returns-in-Err-NoExpansion-clause-fails
levels::check_tuple-returns-in-Err-NoExpansion-clause-fails t c =
    let m = c.in-Err-NoExpansion in
    tuple_looked c.args.head.form c.args.items (scope_at (listed c.args.entries.now) c.args.at.scope) c.args.at.bound c.args.at.primes (NoExpansion c.primed_place.result) c.args.at.depth_left c.args.at.nodes_left c.requires.tuple
    (rw (c.in_ok-check_each.ensures.kept, c.as_slice-trees.ensures.value) at (rw m.field-0-is at m.ensures.fails))

pub levels::check_tuple-returns-in-Err-clause-fails : goal.levels::check_tuple-returns-in-Err-clause-fails
levels::check_tuple-returns-in-Err-clause-fails t c =
    tuple_looked c.args.head.form c.args.items (scope_at (listed c.args.entries.now) c.args.at.scope) c.args.at.bound c.args.at.primes c.in-Err.failure c.args.at.depth_left c.args.at.nodes_left c.requires.tuple
    (rw (c.in_ok-check_each.ensures.kept, c.as_slice-trees.ensures.value) at c.in-Err.ensures.fails)

pub levels::check_operand-returns-in_err-found-clause-fails : goal.levels::check_operand-returns-in_err-found-clause-fails
levels::check_operand-returns-in_err-found-clause-fails t c =
    let r = err_from_is_err_and c.from_residual.result c.from_residual.ensures.1 in
    let k = c.args.at.primes in
    let e = expand (view c.args.tree.now) (scope_at (listed c.args.entries.now) c.args.at.scope) in
    let f = c.in_err-found.field-0.0 in
    rw (r.1, r.2) (λ p. unchanged_fails k f p (e c.args.at.bound) (c.args.at.depth_left + 1) (c.args.at.nodes_left + 1) (explains_none f (λ d. with_primes k (e d)) c.args.at.bound c.in_err-found.ensures.err))

pub levels::check_operand-returns-in_err-check_tuple-in-Some-clause-fails : goal.levels::check_operand-returns-in_err-check_tuple-in-Some-clause-fails
levels::check_operand-returns-in_err-check_tuple-in-Some-clause-fails t c =
    let r = err_from_is_err_and c.from_residual-in_err-check_tuple-in-Some.result c.from_residual-in_err-check_tuple-in-Some.ensures.1 in
    let k = c.args.at.primes in
    let o = expand (view c.args.tree.now) (scope_at (listed c.args.entries.now) c.args.at.scope) c.args.at.bound in
    let f = c.in_err-check_tuple-in-Some.field-0.0 in
    rw (r.1, r.2) (λ p. tuple_operand_fails k f p o (c.args.at.depth_left + 1) (c.args.at.nodes_left + 1)
    (subst (λ x. Fails (c.args.at.depth_left + 1) (c.args.at.nodes_left + 1) f x) (sym (c.in_ok-found.ensures.same c.args.at.bound)) c.in_err-check_tuple-in-Some.ensures.fails))

pub levels::check_operand-returns-in-None-clause-fails : goal.levels::check_operand-returns-in-None-clause-fails
levels::check_operand-returns-in-None-clause-fails t c =
    let old = listed c.args.entries.now in
    let m : c.len-mark.result ≡ length old = search rules in
    let q : listed c.truncate-in-None.new.self ≡ old = cut_back old (listed c.find_head.new.entries) (listed c.truncate-in-None.new.self) c.len-mark.result c.in_ok-found.ensures.extends m c.truncate-in-None.ensures.items in
    let k = c.args.at.primes in
    let o = expand (view c.args.tree.now) (scope_at old c.args.at.scope) c.args.at.bound in
    let plain = plain_head (with_primes k o) c.in_ok-found.found.form (scope_at (listed c.find_head.new.entries) c.in_ok-found.found.scope) c.args.at.bound c.in_ok-found.found.primes (c.in_ok-found.ensures.same c.args.at.bound) (sym c.tuple_items.ensures ∙ c.in-None.is) in
    if_fails c.check_part.result (rw q at c.check_part.ensures.fails) (λ f h p. plain_operand_fails k f p o c.args.at.depth_left c.args.at.nodes_left plain h)

pub levels::unchanged_node-returns-in_err-check_operand-clause-same : goal.levels::unchanged_node-returns-in_err-check_operand-clause-same
levels::unchanged_node-returns-in_err-check_operand-clause-same t c =
    let r = err_from_is_err_and c.from_residual.result c.from_residual.ensures.1 in
    rw (r.1, r.2) (c.in_err-check_operand.ensures.fails c.args.place)

pub levels::changed_subscript-returns-in_err-check_part-clause-same : goal.levels::changed_subscript-returns-in_err-check_part-clause-same
levels::changed_subscript-returns-in_err-check_part-clause-same t c =
    let r = err_from_is_err_and c.from_residual.result c.from_residual.ensures.1 in
    let o = expand (view c.args.tree.now) (scope_at (listed c.args.entries.now) c.args.at.scope) c.args.at.bound in
    rw (r.1, r.2) (changed_fails c.args.at.primes c.in_err-check_part.field-0.0 c.args.place o c.args.at.depth_left c.args.at.nodes_left c.in_err-check_part.ensures.fails)

pub unchanged::expand_each_unchanged-returns-in_err-part-clause-same : goal.unchanged::expand_each_unchanged-returns-in_err-part-clause-same
unchanged::expand_each_unchanged-returns-in_err-part-clause-same t c =
    let r = err_from_is_err_and c.from_residual.result c.from_residual.ensures.1 in
    let f = rw c.loop-i.invariant.kept at c.in_err-part.ensures.same in
    rw (r.1, r.2) (part_fails (kept_part c.args.at.primes c.args.place (scope_at (listed c.args.entries.now) c.args.at.scope) c.args.at.bound) c.args.trees.now nodes depth c.in_err-part.field-0.0
    (map expr_of c.loop-i.parts.items) c.loop-i.i c.index-trees-i.result c.args.at.depth_left c.args.at.nodes_left c.loop-i.nodes_left
    c.loop-i.invariant.so_far (omega arith) c.index-trees-i.is c.loop-i.invariant.nodes_left f)

pub unchanged::expand_each_unchanged-loop-i-preserved : goal.unchanged::expand_each_unchanged-loop-i-preserved
unchanged::expand_each_unchanged-loop-i-preserved t c =
    let f = rw c.loop-i.invariant.kept at c.in_ok-part.ensures.same in
    let old = map expr_of c.loop-i.parts.items in
    let x = expr_of c.in_ok-part.part.core in
    let p : map expr_of c.push.new.items.items ≡ old ++ x ∷ [] = ap (λ ps. map expr_of ps) c.in_ok-push.ensures.ok ∙ map-append expr_of c.loop-i.parts.items (c.in_ok-part.part.core ∷ []) in
    let n = total_more nodes old (map expr_of c.push.new.items.items) x p in
    record {
      kept = c.in_ok-part.ensures.kept ∙ c.loop-i.invariant.kept;
      so_far = part_done (kept_part c.args.at.primes c.args.place (scope_at (listed c.args.entries.now) c.args.at.scope) c.args.at.bound) c.args.trees.now
          old (map expr_of c.push.new.items.items) c.loop-i.i c.index-trees-i.result x c.loop-i.invariant.so_far (omega arith) c.index-trees-i.is f.0 p;
      nodes_left = omega (arith, f.1, c.loop-i.invariant.nodes_left, n);
      depth = highest_more depth old (map expr_of c.push.new.items.items) x c.args.at.depth_left p c.loop-i.invariant.depth f.2;
    }

pub unchanged::expand_each_unchanged-returns-clause-same : goal.unchanged::expand_each_unchanged-returns-clause-same
unchanged::expand_each_unchanged-returns-clause-same t c =
    let z : drop c.loop-i.i c.args.trees.now ≡ [] = drop_all c.loop-i.i c.args.trees.now (omega arith) in (
      all_done (kept_part c.args.at.primes c.args.place (scope_at (listed c.args.entries.now) c.args.at.scope) c.args.at.bound) c.args.trees.now (map expr_of c.loop-i.parts.items) c.loop-i.i z c.loop-i.invariant.so_far,
      c.loop-i.invariant.nodes_left,
      c.loop-i.invariant.depth,
    )

pub unchanged::expand_unchanged-returns-in_err-two-in-None-clause-same : goal.unchanged::expand_unchanged-returns-in_err-two-in-None-clause-same
unchanged::expand_unchanged-returns-in_err-two-in-None-clause-same t c =
    let old = listed c.args.entries.now in
    let m : c.len-mark.result ≡ length old = search rules in
    let p : listed c.truncate-in-None.new.self ≡ old = cut_back old (listed c.find_head.new.entries) (listed c.truncate-in-None.new.self) c.len-mark.result c.in_ok-found.ensures.extends m c.truncate-in-None.ensures.items in
    let o = expand (view c.args.tree.now) (scope_at old c.args.at.scope) c.args.at.bound in
    let h = plain_head (with_primes c.args.at.primes o) c.in_ok-found.found.form (scope_at (listed c.find_head.new.entries) c.in_ok-found.found.scope) c.args.at.bound c.in_ok-found.found.primes (c.in_ok-found.ensures.same c.args.at.bound) (sym c.tuple_items.ensures ∙ c.in-None.is) in
    let r = err_from_is_err_and c.from_residual-in_err-two-in-None.result c.from_residual-in_err-two-in-None.ensures.1 in
    let f = rw p at c.in_err-two-in-None.ensures.same in
    rw (r.1, r.2) (equal_fails o c.args.at.primes c.one_more-more.result c.args.place c.in_err-two-in-None.field-0.0 c.args.at.depth_left c.args.at.nodes_left h c.one_more-more.ensures f)

pub unchanged::expand_unchanged-returns-in_ok-core-in-None-clause-same : goal.unchanged::expand_unchanged-returns-in_ok-core-in-None-clause-same
unchanged::expand_unchanged-returns-in_ok-core-in-None-clause-same t c =
    let old = listed c.args.entries.now in
    let m : c.len-mark.result ≡ length old = search rules in
    let p : listed c.truncate-in-None.new.self ≡ old = cut_back old (listed c.find_head.new.entries) (listed c.truncate-in-None.new.self) c.len-mark.result c.in_ok-found.ensures.extends m c.truncate-in-None.ensures.items in
    let o = expand (view c.args.tree.now) (scope_at old c.args.at.scope) c.args.at.bound in
    let h = plain_head (with_primes c.args.at.primes o) c.in_ok-found.found.form (scope_at (listed c.find_head.new.entries) c.in_ok-found.found.scope) c.args.at.bound c.in_ok-found.found.primes (c.in_ok-found.ensures.same c.args.at.bound) (sym c.tuple_items.ensures ∙ c.in-None.is) in
    let g = rw p at c.in_ok-two-in-None.ensures.same in
    equal_gives o c.args.at.primes c.one_more-more.result c.args.place (parts_of c.in_ok-two-in-None.two) (expr_of c.in_ok-core-in-None.core)
    c.in_ok-two-in-None.two.nodes_left c.args.at.depth_left c.args.at.nodes_left h c.one_more-more.ensures g c.in_ok-core-in-None.ensures.ok

pub unchanged::expand_unchanged-returns-in_err-many-in-Some-clause-same : goal.unchanged::expand_unchanged-returns-in_err-many-in-Some-clause-same
unchanged::expand_unchanged-returns-in_err-many-in-Some-clause-same t c =
    let r = err_from_is_err_and c.from_residual-in_err-many-in-Some.result c.from_residual-in_err-many-in-Some.ensures.1 in
    rw (r.1, r.2) (tuple_fails (part_in c.args.at.primes (scope_at (listed c.args.entries.now) c.args.at.scope) c.args.at.bound c.args.tree.now) c.in_ok-found.found.form c.in-Some.items
    (scope_at (listed c.find_head.new.entries) c.in_ok-found.found.scope) c.args.at.bound c.in_ok-found.found.primes c.args.place c.in_err-many-in-Some.field-0.0 c.args.at.depth_left c.args.at.nodes_left
    (c.in_ok-found.ensures.same c.args.at.bound) (sym c.tuple_items.ensures ∙ c.in-Some.is) (rw c.as_slice.ensures.value at c.in_err-many-in-Some.ensures.same))

pub unchanged::expand_unchanged-returns-in_ok-many-in-Some-clause-same : goal.unchanged::expand_unchanged-returns-in_ok-many-in-Some-clause-same
unchanged::expand_unchanged-returns-in_ok-many-in-Some-clause-same t c =
    tuple_gives (part_in c.args.at.primes (scope_at (listed c.args.entries.now) c.args.at.scope) c.args.at.bound c.args.tree.now) c.in_ok-found.found.form c.in-Some.items
    (scope_at (listed c.find_head.new.entries) c.in_ok-found.found.scope) c.args.at.bound c.in_ok-found.found.primes c.args.place (map expr_of c.in_ok-many-in-Some.many.parts.items) (expr_of c.unchanged_core.result) c.in_ok-many-in-Some.many.nodes_left c.args.at.depth_left c.args.at.nodes_left
    (c.in_ok-found.ensures.same c.args.at.bound) (sym c.tuple_items.ensures ∙ c.in-Some.is) (rw c.as_slice.ensures.value at c.in_ok-many-in-Some.ensures.same) c.unchanged_core.ensures

pub binding::expand_nested-returns-in_err-inner-clause-same : goal.binding::expand_nested-returns-in_err-inner-clause-same
binding::expand_nested-returns-in_err-inner-clause-same t c =
    let u = c.args.under in
    let b = c.args.first in
    let σ = scope_at (listed c.args.entries.now) u.home in
    let r = err_from_is_err_and c.from_residual-in_err-inner.result c.from_residual-in_err-inner.ensures.1 in
    let f = rw c.in_ok-set.ensures.kept at c.in_err-inner.ensures.same in
    rw (r.1, r.2) (inner_fails u.node u.place (binds_in (b ∷ c.args.rest.now) σ) (names_of b.names, expand (view b.set.now) σ) (binds_in c.args.rest.now σ) (expand (view u.body.now))
    (scope_at (listed c.args.entries.now) c.args.at.scope) c.args.at.bound c.args.at.primes refl
    c.in_err-inner.field-0.0 c.args.at.depth_left c.args.at.nodes_left c.in_ok-set.set.nodes_left (expr_of c.in_ok-set.set.core) c.in_ok-set.ensures.same.0 c.in_ok-set.ensures.same.1 f)

pub binding::expand_nested-returns-clause-same : goal.binding::expand_nested-returns-clause-same
binding::expand_nested-returns-clause-same t c =
    let u = c.args.under in
    let b = c.args.first in
    let σ = scope_at (listed c.args.entries.now) u.home in
    let g = rw c.in_ok-set.ensures.kept at c.in_ok-inner.ensures.same in
    nested_gives u.node u.place (binds_in (b ∷ c.args.rest.now) σ) (names_of b.names, expand (view b.set.now) σ) (binds_in c.args.rest.now σ) (expand (view u.body.now))
    (scope_at (listed c.args.entries.now) c.args.at.scope) c.args.at.bound c.args.at.primes refl
    c.args.at.depth_left c.args.at.nodes_left c.in_ok-set.set.nodes_left c.in_ok-inner.inner.nodes_left (expr_of c.in_ok-set.set.core) (expr_of c.in_ok-inner.inner.core) (expr_of c.in_ok-core.core) c.in_ok-set.ensures.same g (rw c.in_ok-set-2.ensures.ok at c.in_ok-core.ensures.ok)

pub binding::under_name-returns-in_err-inner-clause-same : goal.binding::under_name-returns-in_err-inner-clause-same
binding::under_name-returns-in_err-inner-clause-same t c =
    let old = listed c.args.entries.now in
    let new = listed c.enter.new.entries in
    let r = err_from_is_err_and c.from_residual-in_err-inner.result c.from_residual-in_err-inner.ensures.1 in
    let h : scope_at new c.args.under.home ≡ scope_at old c.args.under.home = home_keep old old new _ c.args.under.home c.in_ok-scope.ensures.added refl c.requires.home in
    let s = bind_scope old old (scope_at new c.in_ok-scope.scope) c.args.at.scope c.as_bytes.result.now c.args.name.now.word c.args.at.bound c.in_ok-scope.ensures.scope refl c.as_bytes.ensures in
    rw (r.1, r.2) (rw (h, s) at c.in_err-inner.ensures.same)

pub binding::under_name-returns-clause-same : goal.binding::under_name-returns-clause-same
binding::under_name-returns-clause-same t c =
    let old = listed c.args.entries.now in
    let new = listed c.enter.new.entries in
    let h : scope_at new c.args.under.home ≡ scope_at old c.args.under.home = home_keep old old new _ c.args.under.home c.in_ok-scope.ensures.added refl c.requires.home in
    let s = bind_scope old old (scope_at new c.in_ok-scope.scope) c.args.at.scope c.as_bytes.result.now c.args.name.now.word c.args.at.bound c.in_ok-scope.ensures.scope refl c.as_bytes.ensures in
    rw (h, s) at c.in_ok-inner.ensures.same

pub binding::under_tuple-expand_within-requires : goal.binding::under_tuple-expand_within-requires
binding::under_tuple-expand_within-requires t c =
    let e = c.in_ok-scope.ensures in
    let longer = extends_length (listed c.args.entries.now) (listed c.name_each.new.entries) e.extends in
    (omega arith, (e.linked, (omega (arith, longer, c.requires.home), (e.within, omega arith))))

pub binding::under_tuple-returns-in_err-inner-clause-same : goal.binding::under_tuple-returns-in_err-inner-clause-same
binding::under_tuple-returns-in_err-inner-clause-same t c =
    let old = listed c.args.entries.now in
    let new = listed c.name_each.new.entries in
    let u = c.args.under in
    let ws = c.args.names.now in
    let r = err_from_is_err_and c.from_residual-in_err-inner.result c.from_residual-in_err-inner.ensures.1 in
    let h : scope_at new u.home ≡ scope_at old u.home = scope_extends old new u.home c.in_ok-scope.ensures.extends c.requires.home in
    let σ = scope_at old u.home in
    let bs = binds_in c.args.rest.now σ in
    let os = opening c.args.at.bound ws ∷ [] in
    let o = last_or bs (expand (view u.body.now)) (nested u.node u.place bs (expand (view u.body.now))) (with_each ws (c.args.at.bound + 1) (scope_at old c.args.at.scope)) (c.args.at.bound + 1 + length ws) in
    let f = rw (h, ← c.in_ok-scope.ensures.same) at c.in_err-inner.ensures.same in
    rw (r.1, r.2, openings_primed c.args.at.primes u.place os o) (opened_fails u.place os c.in_err-inner.field-0.0 (with_primes c.args.at.primes o) c.args.at.depth_left c.args.at.nodes_left f)

pub binding::under_tuple-returns-clause-same : goal.binding::under_tuple-returns-clause-same
binding::under_tuple-returns-clause-same t c =
    let old = listed c.args.entries.now in
    let new = listed c.name_each.new.entries in
    let u = c.args.under in
    let ws = c.args.names.now in
    let h : scope_at new u.home ≡ scope_at old u.home = scope_extends old new u.home c.in_ok-scope.ensures.extends c.requires.home in
    let σ = scope_at old u.home in
    let bs = binds_in c.args.rest.now σ in
    let os = opening c.args.at.bound ws ∷ [] in
    let o = last_or bs (expand (view u.body.now)) (nested u.node u.place bs (expand (view u.body.now))) (with_each ws (c.args.at.bound + 1) (scope_at old c.args.at.scope)) (c.args.at.bound + 1 + length ws) in
    let g = rw (h, ← c.in_ok-scope.ensures.same) at c.in_ok-inner.ensures.same in
    rw (openings_primed c.args.at.primes u.place os o) (opened_gives u.place os (with_primes c.args.at.primes o) (expr_of c.in_ok-inner.inner.core) (expr_of c.in_ok-core.core) c.args.at.depth_left c.args.at.nodes_left c.in_ok-inner.inner.nodes_left g (rw c.in_ok-openings.ensures.ok at (sym c.in_ok-core.ensures.ok)))

pub binding::set_for-returns-in-Name-clause-same : goal.binding::set_for-returns-in-Name-clause-same
binding::set_for-returns-in-Name-clause-same t c = rw c.in-Name.is c.in_ok-set.ensures.same

pub fields_node-returns-in_err-made-clause-same : goal.fields_node-returns-in_err-made-clause-same
fields_node-returns-in_err-made-clause-same t c =
    let r = err_from_is_err_and c.from_residual.result c.from_residual.ensures.1 in
    rw (r.1, r.2) (node_fails (total field_nodes) (highest field_depth) (λ xs. fielded c.args.node c.args.place (fields_of xs)) c.in_err-made.field-0.0 (each_of (field_in c.args.at.primes (scope_at (listed c.args.entries.now) c.args.at.scope) c.args.at.bound) c.args.fields.now) c.args.at.depth_left c.args.at.nodes_left (fielded_larger c.args.node c.args.place) c.in_err-made.ensures.same)

pub fields_node-returns-clause-same : goal.fields_node-returns-clause-same
fields_node-returns-clause-same t c =
    node_gives (total field_nodes) (highest field_depth) (λ xs. fielded c.args.node c.args.place (fields_of xs)) (each_of (field_in c.args.at.primes (scope_at (listed c.args.entries.now) c.args.at.scope) c.args.at.bound) c.args.fields.now) (map named_part c.in_ok-made.made.fields.items) (expr_of c.in_ok-core.core) c.args.at.depth_left c.args.at.nodes_left c.in_ok-made.made.nodes_left (fielded_larger c.args.node c.args.place) c.in_ok-made.ensures.same c.in_ok-core.ensures.ok

pub product_node-returns-in_err-first-clause-same : goal.product_node-returns-in_err-first-clause-same
product_node-returns-in_err-first-clause-same t c =
    let r = err_from_is_err_and c.from_residual.result c.from_residual.ensures.1 in
    let a = (part_in c.args.at.primes (scope_at (listed c.args.entries.now) c.args.at.scope) c.args.at.bound c.args.first.now) in
    let b = each_of (part_in c.args.at.primes (scope_at (listed c.args.entries.now) c.args.at.scope) c.args.at.bound) c.args.others.now in
    rw (r.1, r.2) (node_fails (sum_of nodes (total nodes)) (larger_of depth (highest depth)) (λ (xs : Expr × List Expr). product c.args.place (exprs (xs.0 ∷ xs.1))) c.in_err-first.field-0.0 (both a b) c.args.at.depth_left c.args.at.nodes_left (product_larger c.args.place)
    (first_fails nodes depth (total nodes) (highest depth) c.in_err-first.field-0.0 a b c.args.at.depth_left c.args.at.nodes_left c.in_err-first.ensures.same))

pub product_node-returns-in_err-others-clause-same : goal.product_node-returns-in_err-others-clause-same
product_node-returns-in_err-others-clause-same t c =
    let r = err_from_is_err_and c.from_residual-in_err-others.result c.from_residual-in_err-others.ensures.1 in
    let a = (part_in c.args.at.primes (scope_at (listed c.args.entries.now) c.args.at.scope) c.args.at.bound c.args.first.now) in
    let b = each_of (part_in c.args.at.primes (scope_at (listed c.args.entries.now) c.args.at.scope) c.args.at.bound) c.args.others.now in
    let g = c.in_ok-first.ensures.same in
    let f = rw c.in_ok-first.ensures.kept at c.in_err-others.ensures.same in
    rw (r.1, r.2) (node_fails (sum_of nodes (total nodes)) (larger_of depth (highest depth)) (λ (xs : Expr × List Expr). product c.args.place (exprs (xs.0 ∷ xs.1))) c.in_err-others.field-0.0 (both a b) c.args.at.depth_left c.args.at.nodes_left (product_larger c.args.place)
    (second_fails nodes depth (total nodes) (highest depth) c.in_err-others.field-0.0 a b (expr_of c.in_ok-first.first.core) c.args.at.depth_left c.args.at.nodes_left c.in_ok-first.first.nodes_left g.0 g.1 f))

pub product_node-returns-clause-same : goal.product_node-returns-clause-same
product_node-returns-clause-same t c =
    let a = (part_in c.args.at.primes (scope_at (listed c.args.entries.now) c.args.at.scope) c.args.at.bound c.args.first.now) in
    let b = each_of (part_in c.args.at.primes (scope_at (listed c.args.entries.now) c.args.at.scope) c.args.at.bound) c.args.others.now in
    let h = rw c.in_ok-first.ensures.kept at c.in_ok-others.ensures.same in
    node_gives (sum_of nodes (total nodes)) (larger_of depth (highest depth)) (λ (xs : Expr × List Expr). product c.args.place (exprs (xs.0 ∷ xs.1))) (both a b) ((expr_of c.in_ok-first.first.core), (map expr_of c.in_ok-others.others.parts.items)) (expr_of c.in_ok-core.core) c.args.at.depth_left c.args.at.nodes_left c.in_ok-others.others.nodes_left (product_larger c.args.place)
    (two_give nodes depth (total nodes) (highest depth) a b (expr_of c.in_ok-first.first.core) (map expr_of c.in_ok-others.others.parts.items) c.args.at.depth_left c.args.at.nodes_left c.in_ok-first.first.nodes_left c.in_ok-others.others.nodes_left c.in_ok-first.ensures.same h) (rw c.in_ok-first-2.ensures.ok at c.in_ok-core.ensures.ok)

pub updates::except_node-returns-in_err-function-clause-same : goal.updates::except_node-returns-in_err-function-clause-same
updates::except_node-returns-in_err-function-clause-same t c =
    let r = err_from_is_err_and c.from_residual.result c.from_residual.ensures.1 in
    let a = (part_in c.args.at.primes (scope_at (listed c.args.entries.now) c.args.at.scope) c.args.at.bound c.args.function.now) in
    let b = each_of (update_in c.args.at.primes (scope_at (listed c.args.entries.now) c.args.at.scope) c.args.at.bound) c.args.updates.now in
    rw (r.1, r.2) (node_fails (sum_of nodes (total update_nodes)) (larger_of depth (highest update_depth)) (λ (xs : Expr × List (List Expr × Expr)). except c.args.place xs.0 (updates_of xs.1)) c.in_err-function.field-0.0 (both a b) c.args.at.depth_left c.args.at.nodes_left (except_larger c.args.place)
    (first_fails nodes depth (total update_nodes) (highest update_depth) c.in_err-function.field-0.0 a b c.args.at.depth_left c.args.at.nodes_left c.in_err-function.ensures.same))

pub updates::except_node-returns-in_err-made-clause-same : goal.updates::except_node-returns-in_err-made-clause-same
updates::except_node-returns-in_err-made-clause-same t c =
    let r = err_from_is_err_and c.from_residual-in_err-made.result c.from_residual-in_err-made.ensures.1 in
    let a = (part_in c.args.at.primes (scope_at (listed c.args.entries.now) c.args.at.scope) c.args.at.bound c.args.function.now) in
    let b = each_of (update_in c.args.at.primes (scope_at (listed c.args.entries.now) c.args.at.scope) c.args.at.bound) c.args.updates.now in
    let g = c.in_ok-function.ensures.same in
    let f = rw c.in_ok-function.ensures.kept at c.in_err-made.ensures.same in
    rw (r.1, r.2) (node_fails (sum_of nodes (total update_nodes)) (larger_of depth (highest update_depth)) (λ (xs : Expr × List (List Expr × Expr)). except c.args.place xs.0 (updates_of xs.1)) c.in_err-made.field-0.0 (both a b) c.args.at.depth_left c.args.at.nodes_left (except_larger c.args.place)
    (second_fails nodes depth (total update_nodes) (highest update_depth) c.in_err-made.field-0.0 a b (expr_of c.in_ok-function.function.core) c.args.at.depth_left c.args.at.nodes_left c.in_ok-function.function.nodes_left g.0 g.1 f))

pub updates::except_node-returns-clause-same : goal.updates::except_node-returns-clause-same
updates::except_node-returns-clause-same t c =
    let a = (part_in c.args.at.primes (scope_at (listed c.args.entries.now) c.args.at.scope) c.args.at.bound c.args.function.now) in
    let b = each_of (update_in c.args.at.primes (scope_at (listed c.args.entries.now) c.args.at.scope) c.args.at.bound) c.args.updates.now in
    let h = rw c.in_ok-function.ensures.kept at c.in_ok-made.ensures.same in
    node_gives (sum_of nodes (total update_nodes)) (larger_of depth (highest update_depth)) (λ (xs : Expr × List (List Expr × Expr)). except c.args.place xs.0 (updates_of xs.1)) (both a b) ((expr_of c.in_ok-function.function.core), (map changed_part c.in_ok-made.made.updates.items)) (expr_of c.except.result) c.args.at.depth_left c.args.at.nodes_left c.in_ok-made.made.nodes_left (except_larger c.args.place)
    (two_give nodes depth (total update_nodes) (highest update_depth) a b (expr_of c.in_ok-function.function.core) (map changed_part c.in_ok-made.made.updates.items) c.args.at.depth_left c.args.at.nodes_left c.in_ok-function.function.nodes_left c.in_ok-made.made.nodes_left c.in_ok-function.ensures.same h) (rw c.in_ok-function-2.ensures.ok at c.except.ensures)

pub binding::sets_of-returns-in_err-part-clause-same : goal.binding::sets_of-returns-in_err-part-clause-same
binding::sets_of-returns-in_err-part-clause-same t c =
    let r = err_from_is_err_and c.from_residual.result c.from_residual.ensures.1 in
    let f = rw c.loop-i.invariant.kept at c.in_err-part.ensures.same in
    rw (r.1, r.2) (part_fails (set_in c.args.place c.args.at.primes (scope_at (listed c.args.entries.now) c.args.at.scope) c.args.at.bound) c.args.binds.now nodes depth c.in_err-part.field-0.0
    (map expr_of c.loop-i.parts.items) c.loop-i.i c.index-binds-i.result c.args.at.depth_left c.args.at.nodes_left c.loop-i.nodes_left
    c.loop-i.invariant.so_far (omega arith) c.index-binds-i.is c.loop-i.invariant.nodes_left f)

pub binding::sets_of-loop-i-preserved : goal.binding::sets_of-loop-i-preserved
binding::sets_of-loop-i-preserved t c =
    let f = rw c.loop-i.invariant.kept at c.in_ok-part.ensures.same in
    let old = map expr_of c.loop-i.parts.items in
    let x = expr_of c.in_ok-part.part.core in
    let new = map expr_of c.push.new.items.items in
    let p : new ≡ old ++ x ∷ [] = ap (λ ps. map expr_of ps) c.in_ok-push.ensures.ok ∙ map-append expr_of c.loop-i.parts.items (c.in_ok-part.part.core ∷ []) in
    let n = total_more nodes old new x p in
    record {
      kept = c.in_ok-part.ensures.kept ∙ c.loop-i.invariant.kept;
      so_far = part_done (set_in c.args.place c.args.at.primes (scope_at (listed c.args.entries.now) c.args.at.scope) c.args.at.bound) c.args.binds.now old new c.loop-i.i c.index-binds-i.result x c.loop-i.invariant.so_far (omega arith) c.index-binds-i.is f.0 p;
      nodes_left = omega (arith, f.1, c.loop-i.invariant.nodes_left, n);
      depth = highest_more depth old new x c.args.at.depth_left p c.loop-i.invariant.depth f.2;
    }

pub binding::sets_of-returns-clause-same : goal.binding::sets_of-returns-clause-same
binding::sets_of-returns-clause-same t c =
    let z : drop c.loop-i.i c.args.binds.now ≡ [] = drop_all c.loop-i.i c.args.binds.now (omega arith) in (
      all_done (set_in c.args.place c.args.at.primes (scope_at (listed c.args.entries.now) c.args.at.scope) c.args.at.bound) c.args.binds.now (map expr_of c.loop-i.parts.items) c.loop-i.i z c.loop-i.invariant.so_far,
      c.loop-i.invariant.nodes_left,
      c.loop-i.invariant.depth,
    )

pub updates::path_of-returns-in_err-part-clause-same : goal.updates::path_of-returns-in_err-part-clause-same
updates::path_of-returns-in_err-part-clause-same t c =
    let r = err_from_is_err_and c.from_residual.result c.from_residual.ensures.1 in
    let f = rw c.loop-i.invariant.kept at c.in_err-part.ensures.same in
    rw (r.1, r.2) (part_fails (step_in c.args.at.primes (scope_at (listed c.args.entries.now) c.args.at.scope) c.args.at.bound) c.args.keys.now nodes depth c.in_err-part.field-0.0
    (map expr_of c.loop-i.parts.items) c.loop-i.i c.index-keys-i.result c.args.at.depth_left c.args.at.nodes_left c.loop-i.nodes_left
    c.loop-i.invariant.so_far (omega arith) c.index-keys-i.is c.loop-i.invariant.nodes_left f)

pub updates::path_of-loop-i-preserved : goal.updates::path_of-loop-i-preserved
updates::path_of-loop-i-preserved t c =
    let f = rw c.loop-i.invariant.kept at c.in_ok-part.ensures.same in
    let old = map expr_of c.loop-i.parts.items in
    let x = expr_of c.in_ok-part.part.core in
    let new = map expr_of c.push.new.items.items in
    let p : new ≡ old ++ x ∷ [] = ap (λ ps. map expr_of ps) c.in_ok-push.ensures.ok ∙ map-append expr_of c.loop-i.parts.items (c.in_ok-part.part.core ∷ []) in
    let n = total_more nodes old new x p in
    record {
      kept = c.in_ok-part.ensures.kept ∙ c.loop-i.invariant.kept;
      so_far = part_done (step_in c.args.at.primes (scope_at (listed c.args.entries.now) c.args.at.scope) c.args.at.bound) c.args.keys.now old new c.loop-i.i c.index-keys-i.result x c.loop-i.invariant.so_far (omega arith) c.index-keys-i.is f.0 p;
      nodes_left = omega (arith, f.1, c.loop-i.invariant.nodes_left, n);
      depth = highest_more depth old new x c.args.at.depth_left p c.loop-i.invariant.depth f.2;
    }

pub updates::path_of-returns-clause-same : goal.updates::path_of-returns-clause-same
updates::path_of-returns-clause-same t c =
    let z : drop c.loop-i.i c.args.keys.now ≡ [] = drop_all c.loop-i.i c.args.keys.now (omega arith) in (
      all_done (step_in c.args.at.primes (scope_at (listed c.args.entries.now) c.args.at.scope) c.args.at.bound) c.args.keys.now (map expr_of c.loop-i.parts.items) c.loop-i.i z c.loop-i.invariant.so_far,
      c.loop-i.invariant.nodes_left,
      c.loop-i.invariant.depth,
    )

pub updates::changes-returns-in_err-change-clause-same : goal.updates::changes-returns-in_err-change-clause-same
updates::changes-returns-in_err-change-clause-same t c =
    let r = err_from_is_err_and c.from_residual.result c.from_residual.ensures.1 in
    let f = rw c.loop-i.invariant.kept at c.in_err-change.ensures.same in
    rw (r.1, r.2) (part_fails (update_in c.args.at.primes (scope_at (listed c.args.entries.now) c.args.at.scope) c.args.at.bound) c.args.updates.now update_nodes update_depth c.in_err-change.field-0.0
    (map changed_part c.loop-i.made.items) c.loop-i.i c.index-updates-i.result c.args.at.depth_left c.args.at.nodes_left c.loop-i.nodes_left
    c.loop-i.invariant.so_far (omega arith) c.index-updates-i.is c.loop-i.invariant.nodes_left f)

pub updates::changes-loop-i-preserved : goal.updates::changes-loop-i-preserved
updates::changes-loop-i-preserved t c =
    let f = rw c.loop-i.invariant.kept at c.in_ok-change.ensures.same in
    let old = map changed_part c.loop-i.made.items in
    let x : List Expr × Expr = (map expr_of c.in_ok-change.change.path.items, expr_of c.in_ok-change.change.value) in
    let new = map changed_part c.push.new.items.items in
    let p : new ≡ old ++ x ∷ [] = ap (λ ps. map changed_part ps) c.in_ok-push.ensures.ok ∙ map-append changed_part c.loop-i.made.items ((c.in_ok-change.change.path, c.in_ok-change.change.value) ∷ []) in
    let n = total_more update_nodes old new x p in
    record {
      kept = c.in_ok-change.ensures.kept ∙ c.loop-i.invariant.kept;
      so_far = part_done (update_in c.args.at.primes (scope_at (listed c.args.entries.now) c.args.at.scope) c.args.at.bound) c.args.updates.now old new c.loop-i.i c.index-updates-i.result x c.loop-i.invariant.so_far (omega arith) c.index-updates-i.is f.0 p;
      nodes_left = omega (arith, f.1, c.loop-i.invariant.nodes_left, n);
      depth = highest_more update_depth old new x c.args.at.depth_left p c.loop-i.invariant.depth f.2;
    }

pub updates::changes-returns-clause-same : goal.updates::changes-returns-clause-same
updates::changes-returns-clause-same t c =
    let z : drop c.loop-i.i c.args.updates.now ≡ [] = drop_all c.loop-i.i c.args.updates.now (omega arith) in (
      all_done (update_in c.args.at.primes (scope_at (listed c.args.entries.now) c.args.at.scope) c.args.at.bound) c.args.updates.now (map changed_part c.loop-i.made.items) c.loop-i.i z c.loop-i.invariant.so_far,
      c.loop-i.invariant.nodes_left,
      c.loop-i.invariant.depth,
    )

pub lists::named_parts-returns-in_err-part-clause-same : goal.lists::named_parts-returns-in_err-part-clause-same
lists::named_parts-returns-in_err-part-clause-same t c =
    let r = err_from_is_err_and c.from_residual-in_err-part.result c.from_residual-in_err-part.ensures.1 in
    let f = rw c.loop-i.invariant.kept at c.in_err-part.ensures.same in
    rw (r.1, r.2) (part_fails (field_in c.args.at.primes (scope_at (listed c.args.entries.now) c.args.at.scope) c.args.at.bound) c.args.fields.now field_nodes field_depth c.in_err-part.field-0.0
    (map named_part c.loop-i.made.items) c.loop-i.i c.index-fields-i.result c.args.at.depth_left c.args.at.nodes_left c.loop-i.nodes_left
    c.loop-i.invariant.so_far (omega arith) c.index-fields-i.is c.loop-i.invariant.nodes_left (field_fails c.in_err-part.field-0.0 (part_in c.args.at.primes (scope_at (listed c.args.entries.now) c.args.at.scope) c.args.at.bound c.index-fields-i.result.value) c.index-fields-i.result.name.word c.args.at.depth_left c.loop-i.nodes_left f))

pub lists::named_parts-loop-i-preserved : goal.lists::named_parts-loop-i-preserved
lists::named_parts-loop-i-preserved t c =
    let f = rw c.loop-i.invariant.kept at c.in_ok-part.ensures.same in
    let old = map named_part c.loop-i.made.items in
    let x : List ℕ × Expr = (c.in_ok-name.name, expr_of c.in_ok-part.part.core) in
    let new = map named_part c.push.new.items.items in
    let p : new ≡ old ++ x ∷ [] = ap (λ ps. map named_part ps) c.in_ok-push.ensures.ok ∙ map-append named_part c.loop-i.made.items ((c.in_ok-name.name, c.in_ok-part.part.core) ∷ []) in
    let n = total_more field_nodes old new x p in
    record {
      kept = c.in_ok-part.ensures.kept ∙ c.loop-i.invariant.kept;
      so_far = part_done (field_in c.args.at.primes (scope_at (listed c.args.entries.now) c.args.at.scope) c.args.at.bound) c.args.fields.now old new c.loop-i.i c.index-fields-i.result x c.loop-i.invariant.so_far (omega arith) c.index-fields-i.is (field_some c.args.at.primes (scope_at (listed c.args.entries.now) c.args.at.scope) c.args.at.bound c.index-fields-i.result (expr_of c.in_ok-part.part.core) c.in_ok-name.name f.0 c.in_ok-name.ensures.ok) p;
      nodes_left = omega (arith, f.1, c.loop-i.invariant.nodes_left, n);
      depth = highest_more field_depth old new x c.args.at.depth_left p c.loop-i.invariant.depth f.2;
    }

pub lists::named_parts-returns-clause-same : goal.lists::named_parts-returns-clause-same
lists::named_parts-returns-clause-same t c =
    let z : drop c.loop-i.i c.args.fields.now ≡ [] = drop_all c.loop-i.i c.args.fields.now (omega arith) in (
      all_done (field_in c.args.at.primes (scope_at (listed c.args.entries.now) c.args.at.scope) c.args.at.bound) c.args.fields.now (map named_part c.loop-i.made.items) c.loop-i.i z c.loop-i.invariant.so_far,
      c.loop-i.invariant.nodes_left,
      c.loop-i.invariant.depth,
    )

pub updates::change-returns-in_err-path-clause-same : goal.updates::change-returns-in_err-path-clause-same
updates::change-returns-in_err-path-clause-same t c =
    let r = err_from_is_err_and c.from_residual.result c.from_residual.ensures.1 in
    let a = each_of (step_in c.args.at.primes (scope_at (listed c.args.entries.now) c.args.at.scope) c.args.at.bound) c.args.update.now.path.items in
    let b = value_in c.args.at.primes (scope_at (listed c.args.entries.now) c.args.at.scope) c.args.at.bound c.args.update.now.value in
    let f = rw c.as_slice.ensures.value at c.in_err-path.ensures.same in
    rw (r.1, r.2) (first_fails (total nodes) (highest depth) nodes depth c.in_err-path.field-0.0 a b c.args.at.depth_left c.args.at.nodes_left f)

pub updates::change-returns-in_err-value-clause-same : goal.updates::change-returns-in_err-value-clause-same
updates::change-returns-in_err-value-clause-same t c =
    let r = err_from_is_err_and c.from_residual-in_err-value.result c.from_residual-in_err-value.ensures.1 in
    let a = each_of (step_in c.args.at.primes (scope_at (listed c.args.entries.now) c.args.at.scope) c.args.at.bound) c.args.update.now.path.items in
    let b = value_in c.args.at.primes (scope_at (listed c.args.entries.now) c.args.at.scope) c.args.at.bound c.args.update.now.value in
    let g = rw c.as_slice.ensures.value at c.in_ok-path.ensures.same in
    let f = rw c.in_ok-path.ensures.kept at c.in_err-value.ensures.same in
    rw (r.1, r.2) (second_fails (total nodes) (highest depth) nodes depth c.in_err-value.field-0.0 a b (map expr_of c.in_ok-path.path.parts.items) c.args.at.depth_left c.args.at.nodes_left c.in_ok-path.path.nodes_left g.0 g.1 f)

pub updates::change-returns-clause-same : goal.updates::change-returns-clause-same
updates::change-returns-clause-same t c =
    let a = each_of (step_in c.args.at.primes (scope_at (listed c.args.entries.now) c.args.at.scope) c.args.at.bound) c.args.update.now.path.items in
    let b = value_in c.args.at.primes (scope_at (listed c.args.entries.now) c.args.at.scope) c.args.at.bound c.args.update.now.value in
    let g = rw c.as_slice.ensures.value at c.in_ok-path.ensures.same in
    let h = rw c.in_ok-path.ensures.kept at c.in_ok-value.ensures.same in
    two_give (total nodes) (highest depth) nodes depth a b (map expr_of c.in_ok-path.path.parts.items) (expr_of c.in_ok-value.value.core) c.args.at.depth_left c.args.at.nodes_left c.in_ok-path.path.nodes_left c.in_ok-value.value.nodes_left g h

pub unchanged::expand_changed-returns-in_err-two-clause-same : goal.unchanged::expand_changed-returns-in_err-two-clause-same
unchanged::expand_changed-returns-in_err-two-clause-same t c =
    let r = err_from_is_err_and c.from_residual-in_err-two.result c.from_residual-in_err-two.ensures.1 in
    let inside = c.in_ok-inside.inside in
    let e = c.in_ok-inside.ensures in
    let σ = scope_at (listed c.args.entries.now) inside.scope in
    let o = both (part_in (one_more c.args.at.primes) σ inside.bound c.args.tree.now) (part_in inside.primes σ inside.bound c.args.tree.now) in
    let h = rw c.one_more-more.ensures at c.in_err-two.ensures.same in
    let f = node_fails (sum_of nodes nodes) (larger_of depth depth) (λ (xy : Expr × Expr). two (twos.Binary Unequal) c.args.place xy.0 xy.1) c.in_err-two.field-0.0 o inside.depth_left inside.nodes_left (two_larger (twos.Binary Unequal) c.args.place) h in
    rw (r.1, r.2) (rw (e.depth_left, e.nodes_left, e.primes, e.scope, e.bound) at f)

pub unchanged::expand_changed-returns-clause-same : goal.unchanged::expand_changed-returns-clause-same
unchanged::expand_changed-returns-clause-same t c =
    let inside = c.in_ok-inside.inside in
    let e = c.in_ok-inside.ensures in
    let σ = scope_at (listed c.args.entries.now) inside.scope in
    let o = both (part_in (one_more c.args.at.primes) σ inside.bound c.args.tree.now) (part_in inside.primes σ inside.bound c.args.tree.now) in
    let h = rw c.one_more-more.ensures at c.in_ok-two.ensures.same in
    let g = node_gives (sum_of nodes nodes) (larger_of depth depth) (λ (xy : Expr × Expr). two (twos.Binary Unequal) c.args.place xy.0 xy.1) o (parts_of c.in_ok-two.two) (expr_of c.in_ok-core.core) inside.depth_left inside.nodes_left c.in_ok-two.two.nodes_left
    (two_larger (twos.Binary Unequal) c.args.place) h c.in_ok-core.ensures.ok in
    rw (e.depth_left, e.nodes_left, e.primes, e.scope, e.bound) at g

pub node_of-returns-in-Fields-clause-same : goal.node_of-returns-in-Fields-clause-same
node_of-returns-in-Fields-clause-same t c =
    let m = c.in-Fields in
    rw (fields_form c.args.form (scope_at (listed c.args.entries.now) c.args.at.scope) c.args.at.bound c.args.at.primes m.place m.node m.fields m.is) (rw c.as_slice-in-Fields.ensures.value at c.fields_node.ensures.same)

pub node_of-returns-in-Except-clause-same : goal.node_of-returns-in-Except-clause-same
node_of-returns-in-Except-clause-same t c =
    let m = c.in-Except in
    rw (except_form c.args.form (scope_at (listed c.args.entries.now) c.args.at.scope) c.args.at.bound c.args.at.primes m.place m.function m.updates m.is) (rw (c.deref-in-Except.ensures, c.as_slice-in-Except.ensures.value) at c.except_node.ensures.same)

pub updates::step_of-returns-in-Index-clause-same : goal.updates::step_of-returns-in-Index-clause-same
updates::step_of-returns-in-Index-clause-same t c =
    let m = c.in-Index in
    let same : key_view c.args.step.now ≡ tree.AtIndex (tree.trees (map view c.as_slice.result.now)) = rw (m.is, c.as_slice.ensures.value) (ap (λ x. tree.AtIndex x) (views_items m.items)) in
    subst (λ x. Gives c.args.at.depth_left c.args.at.nodes_left c.expand_argument.result (with_primes c.args.at.primes (expand_step x (scope_at (listed c.args.entries.now) c.args.at.scope) c.args.at.bound))) (sym same) c.expand_argument.ensures.same

pub binding::gather_node-returns-in_err-sets-clause-same : goal.binding::gather_node-returns-in_err-sets-clause-same
binding::gather_node-returns-in_err-sets-clause-same t c =
    let r = err_from_is_err_and c.from_residual-in_err-sets.result c.from_residual-in_err-sets.ensures.1 in
    let σ = scope_at (listed c.args.entries.now) c.args.at.scope in
    let d = c.args.at.bound in
    let binds = c.as_slice-binds.result.now in
    let bs = binds_of (binders (map group_view c.args.groups.now)) σ in
    let is : binds_in binds σ ≡ bs = rw c.as_slice-binds.ensures.value (c.in_ok-binds.ensures.ok σ) in
    rw (r.1, r.2) (sets_fail c.args.node c.args.place bs binds (expand (view c.args.body.now)) σ (with_items bs (d + length binds) (with_elements bs d σ)) d c.args.at.primes is refl
    c.in_err-sets.field-0.0 c.args.at.depth_left c.args.at.nodes_left c.in_err-sets.ensures.same)

pub binding::gather_node-returns-in_err-body-clause-same : goal.binding::gather_node-returns-in_err-body-clause-same
binding::gather_node-returns-in_err-body-clause-same t c =
    let r = err_from_is_err_and c.from_residual-in_err-body.result c.from_residual-in_err-body.ensures.1 in
    let σ = scope_at (listed c.args.entries.now) c.args.at.scope in
    let d = c.args.at.bound in
    let binds = c.as_slice-binds.result.now in
    let bs = binds_of (binders (map group_view c.args.groups.now)) σ in
    let is : binds_in binds σ ≡ bs = rw c.as_slice-binds.ensures.value (c.in_ok-binds.ensures.ok σ) in
    let os = openings bs d in
    let body = expand (view c.args.body.now) in
    let opened : c.in_ok-openings.openings.items ≡ os = rw (← is) (c.in_ok-openings.ensures.ok σ) in
    let τ = scope_at (listed c.name_all.new.entries) c.in_ok-named.named.scope in
    let named : with_items bs (d + length binds) (with_elements bs d σ) ≡ τ = rw (← is) (rw c.in_ok-sets.ensures.kept at (c.in_ok-named.ensures.same σ)) in
    let count : c.in_ok-named.named.bound ≡ d + length binds + items_in os = rw (← is) (c.in_ok-named.ensures.bound σ d) in
    let o = body τ (d + length binds + items_in os) in
    let f = rw count at c.in_err-body.ensures.same in
    let inner : Fails c.args.at.depth_left c.in_ok-sets.sets.nodes_left c.in_err-body.field-0.0 (with_primes c.args.at.primes (under_openings c.args.place os o)) = rw (openings_primed c.args.at.primes c.args.place os o) (opened_fails c.args.place os c.in_err-body.field-0.0 (with_primes c.args.at.primes o) c.args.at.depth_left c.in_ok-sets.sets.nodes_left f) in
    rw (r.1, r.2) (body_fails c.args.node c.args.place bs binds body σ τ d c.args.at.primes is named
    c.in_err-body.field-0.0 c.args.at.depth_left c.args.at.nodes_left c.in_ok-sets.sets.nodes_left (map expr_of c.in_ok-sets.sets.parts.items) c.in_ok-sets.ensures.same inner)

pub binding::gather_node-returns-clause-same : goal.binding::gather_node-returns-clause-same
binding::gather_node-returns-clause-same t c =
    let σ = scope_at (listed c.args.entries.now) c.args.at.scope in
    let d = c.args.at.bound in
    let binds = c.as_slice-binds.result.now in
    let bs = binds_of (binders (map group_view c.args.groups.now)) σ in
    let is : binds_in binds σ ≡ bs = rw c.as_slice-binds.ensures.value (c.in_ok-binds.ensures.ok σ) in
    let os = openings bs d in
    let body = expand (view c.args.body.now) in
    let opened : c.in_ok-openings.openings.items ≡ os = rw (← is) (c.in_ok-openings.ensures.ok σ) in
    let τ = scope_at (listed c.name_all.new.entries) c.in_ok-named.named.scope in
    let named : with_items bs (d + length binds) (with_elements bs d σ) ≡ τ = rw (← is) (rw c.in_ok-sets.ensures.kept at (c.in_ok-named.ensures.same σ)) in
    let count : c.in_ok-named.named.bound ≡ d + length binds + items_in os = rw (← is) (c.in_ok-named.ensures.bound σ d) in
    let o = body τ (d + length binds + items_in os) in
    let g = rw count at c.in_ok-body.ensures.same in
    let y = expr_of c.in_ok-inner.inner in
    let made = rw opened at (sym c.in_ok-inner.ensures.ok) in
    let inner : Given (with_primes c.args.at.primes (under_openings c.args.place os o)) y c.in_ok-body.body.nodes_left c.in_ok-sets.sets.nodes_left c.args.at.depth_left = rw (openings_primed c.args.at.primes c.args.place os o) (opened_gives c.args.place os (with_primes c.args.at.primes o) (expr_of c.in_ok-body.body.core) y c.args.at.depth_left c.in_ok-sets.sets.nodes_left c.in_ok-body.body.nodes_left g made) in
    gather_gives c.args.node c.args.place bs binds body σ τ d c.args.at.primes is named
    c.args.at.depth_left c.args.at.nodes_left c.in_ok-sets.sets.nodes_left c.in_ok-body.body.nodes_left (map expr_of c.in_ok-sets.sets.parts.items) y (expr_of c.in_ok-core.core)
    c.in_ok-sets.ensures.same inner c.in_ok-core.ensures.ok

pub unchanged::angle_node-returns-in_err-changed-clause-same : goal.unchanged::angle_node-returns-in_err-changed-clause-same
unchanged::angle_node-returns-in_err-changed-clause-same t c =
    let r = err_from_is_err_and c.from_residual-in_err-changed.result c.from_residual-in_err-changed.ensures.1 in
    let a = part_in c.args.at.primes (scope_at (listed c.args.entries.now) c.args.at.scope) c.args.at.bound c.args.action.now in
    let b = changed_in c.args.at.primes c.args.place_v (scope_at (listed c.args.entries.now) c.args.at.scope) c.args.at.bound c.args.v.now in
    let g = c.in_ok-action.ensures.same in
    let f = rw (c.in_ok-action.ensures.kept) at c.in_err-changed.ensures.same in
    rw (r.1, r.2) (node_fails (sum_of nodes nodes) (larger_of depth depth) (λ (xy : Expr × Expr). two twos.And c.args.place xy.0 xy.1) c.in_err-changed.field-0.0 (both a b) c.args.at.depth_left c.args.at.nodes_left (two_larger twos.And c.args.place)
    (second_fails nodes depth nodes depth c.in_err-changed.field-0.0 a b (expr_of c.in_ok-action.action.core) c.args.at.depth_left c.args.at.nodes_left c.in_ok-action.action.nodes_left g.0 g.1 f))

pub unchanged::square_node-returns-in_err-kept-clause-same : goal.unchanged::square_node-returns-in_err-kept-clause-same
unchanged::square_node-returns-in_err-kept-clause-same t c =
    let r = err_from_is_err_and c.from_residual-in_err-kept.result c.from_residual-in_err-kept.ensures.1 in
    let a = part_in c.args.at.primes (scope_at (listed c.args.entries.now) c.args.at.scope) c.args.at.bound c.args.action.now in
    let b = kept_part (settled_primes c.args.at.primes) c.args.place_v (scope_at (listed c.args.entries.now) c.args.at.scope) c.args.at.bound c.args.v.now in
    let g = c.in_ok-action.ensures.same in
    let f = rw c.in_ok-action.ensures.kept at c.in_err-kept.ensures.same in
    rw (r.1, r.2) (node_fails (sum_of nodes nodes) (larger_of depth depth) (λ (xy : Expr × Expr). two twos.Or c.args.place xy.0 xy.1) c.in_err-kept.field-0.0 (both a b) c.args.at.depth_left c.args.at.nodes_left (two_larger twos.Or c.args.place)
    (second_fails nodes depth nodes depth c.in_err-kept.field-0.0 a b (expr_of c.in_ok-action.action.core) c.args.at.depth_left c.args.at.nodes_left c.in_ok-action.action.nodes_left g.0 g.1 f))

pub lists::expand_argument-returns-in-len1-clause-same : goal.lists::expand_argument-returns-in-len1-clause-same
lists::expand_argument-returns-in-len1-clause-same t c =
    rw (one_key c.args.at.primes (scope_at (listed c.args.entries.now) c.args.at.scope) c.args.at.bound c.args.items.now c.item-item.result (omega arith) c.item-item.is) c.expand.ensures.same

pub lists::expand_argument-returns-in-len1-up-clause-same : goal.lists::expand_argument-returns-in-len1-up-clause-same
lists::expand_argument-returns-in-len1-up-clause-same t c =
    rw (several_keys c.args.at.primes (scope_at (listed c.args.entries.now) c.args.at.scope) c.args.at.bound c.args.items.now c.first-item.result c.place_of-place.result (omega arith) c.first-item.is (c.place_of-place.ensures ∙ ap place_of c.place.ensures)) c.tuple_of.ensures.same

pub node_of-returns-in-Index-clause-same : goal.node_of-returns-in-Index-clause-same
node_of-returns-in-Index-clause-same t c =
    let m = c.in-Headed in
    rw (index_form c.args.form (scope_at (listed c.args.entries.now) c.args.at.scope) c.args.at.bound c.args.at.primes m.place m.first m.others (rw c.in-Index.is at m.is)) (rw (c.deref-in-Index.ensures, c.as_slice-in-Index.ensures.value) at c.index_node.ensures.same)

pub node_of-returns-in-Product-clause-same : goal.node_of-returns-in-Product-clause-same
node_of-returns-in-Product-clause-same t c =
    let m = c.in-Headed in
    rw (product_form c.args.form (scope_at (listed c.args.entries.now) c.args.at.scope) c.args.at.bound c.args.at.primes m.place m.first m.others (rw c.in-Product.is at m.is)) (rw (c.deref-in-Product.ensures, c.as_slice-in-Product.ensures.value) at c.product_node.ensures.same)

pub node_of-returns-in-None-clause-same : goal.node_of-returns-in-None-clause-same
node_of-returns-in-None-clause-same t c =
    let m = c.in-Cases in
    rw (cases_form c.args.form (scope_at (listed c.args.entries.now) c.args.at.scope) c.args.at.bound c.args.at.primes m.place m.arms (rw c.in-None.is at m.is)) (rw c.as_slice-in-None.ensures.value at c.cases_node.ensures.same)

pub node_of-returns-in-Some-clause-same : goal.node_of-returns-in-Some-clause-same
node_of-returns-in-Some-clause-same t c =
    let m = c.in-Cases in
    rw (cases_or_form c.args.form (scope_at (listed c.args.entries.now) c.args.at.scope) c.args.at.bound c.args.at.primes m.place m.arms c.in-Some.last (rw c.in-Some.is at m.is)) (rw (c.as_slice-in-Some.ensures.value, c.deref-in-Some.ensures) at c.cases_or_node.ensures.same)

pub node_of-returns-in-Box-clause-same : goal.node_of-returns-in-Box-clause-same
node_of-returns-in-Box-clause-same t c =
    let m = c.in-Action in
    rw (square_form c.args.form (scope_at (listed c.args.entries.now) c.args.at.scope) c.args.at.bound c.args.at.primes m.place m.place_v m.action m.v (rw c.in-Box.is at m.is)) (rw (c.deref-in-Box.ensures, c.deref-in-Box-2.ensures) at c.square_node.ensures.same)

pub node_of-returns-in-Angle-clause-same : goal.node_of-returns-in-Angle-clause-same
node_of-returns-in-Angle-clause-same t c =
    let m = c.in-Action in
    rw (angle_form c.args.form (scope_at (listed c.args.entries.now) c.args.at.scope) c.args.at.bound c.args.at.primes m.place m.place_v m.action m.v (rw c.in-Angle.is at m.is)) (rw (c.deref-in-Angle.ensures, c.deref-in-Angle-2.ensures) at c.angle_node.ensures.same)

pub binding::gather_node-openings_of-requires : goal.binding::gather_node-openings_of-requires
binding::gather_node-openings_of-requires t c =
    let s = c.in_ok-sets.ensures.same in
    let n = names_small (set_in c.args.place c.args.at.primes (scope_at (listed c.args.entries.now) c.args.at.scope) c.args.at.bound) c.as_slice-binds.result.now (map expr_of c.in_ok-sets.sets.parts.items) c.in_ok-sets.sets.nodes_left c.args.at.nodes_left s.0 s.1 in
    omega (arith, n, c.requires.small, c.len-mark.ensures.same, c.len-mark.ensures.few, ap length c.in_ok-sets.ensures.kept)

-- each set took a node
pub binding::gather_node-name_all-requires-clause-small : goal.binding::gather_node-name_all-requires-clause-small
binding::gather_node-name_all-requires-clause-small t c =
    let s = c.in_ok-sets.ensures.same in
    let n = names_small (set_in c.args.place c.args.at.primes (scope_at (listed c.args.entries.now) c.args.at.scope) c.args.at.bound) c.as_slice-binds.result.now (map expr_of c.in_ok-sets.sets.parts.items) c.in_ok-sets.sets.nodes_left c.args.at.nodes_left s.0 s.1 in
    omega (arith, n, c.requires.small, ap length c.in_ok-sets.ensures.kept)

pub binding::gather_node-expand-requires : goal.binding::gather_node-expand-requires
binding::gather_node-expand-requires t c =
    let s = c.in_ok-sets.ensures.same in
    let n = names_small (set_in c.args.place c.args.at.primes (scope_at (listed c.args.entries.now) c.args.at.scope) c.args.at.bound) c.as_slice-binds.result.now (map expr_of c.in_ok-sets.sets.parts.items) c.in_ok-sets.sets.nodes_left c.args.at.nodes_left s.0 s.1 in
    (omega arith, (c.in_ok-named.ensures.linked, (c.in_ok-named.ensures.within, omega (arith, n, c.requires.small, c.in_ok-named.ensures.grown, ap length c.in_ok-sets.ensures.kept))))
