use Rattle.std.proofs.Common.{◌≡◌, ◌≤◌, ◌*◌, ◌/◌, rules, arith, Vec, Global, map, zip, drop, length, option_map, Option, Bor, List, ◌++◌, ◌∷◌, [], Bool, Some, None, Result, Ok, Err, ap, sym, ◌∙◌, refl, subst}
use Rattle.std.specs.Prelude.{slice_get}
use Rattle.std.proofs.lemmas.List.{map-append, length-map}
use Rattle.tla_value.specs.Tree.{Tree, truth}
use Rattle.tla_value.specs.TreeOf.{tree_of}
use Rattle.tla_value.specs.Choices.{choices}
use Rattle.tla_value.specs.declared.value.Value.{Value}
use Rattle.tla_core.specs.declared.fault.Place.{Place}
use Rattle.tla_core.specs.Fault.{Outcome, ◌>>=◌}
use Rattle.tla_core.specs.Expr.{Expr, cases, except}
use Rattle.tla_core.specs.Kinds.{as_set, as_truth, items, make_fun}
use Rattle.tla_core.specs.Lists.{each}
use Rattle.tla_core.specs.Meaning.{Meaning, Bound, Present, Next, asks, as_tree, elements}
use Rattle.tla_core.specs.Value.{val, mem, means, mean_all, mean_fields}
use Rattle.tla_code.specs.CodeExpr.{expr_in}
use Rattle.tla_code.specs.Forms.{two_expr, list_expr, field_expr, map_expr, arms_in}
use Rattle.tla_code.specs.Private.Listed.{exprs_of_codes, fields_of_codes, updates_of_codes}
use Rattle.tla_code.specs.declared.code.Code.{Code}
use Rattle.tla_code.specs.declared.code.ListForm.{ListForm}
use Rattle.tla_code.specs.declared.code.FieldForm.{FieldForm}
use Rattle.tla_code.specs.declared.code.TwoForm.{TwoForm}
use Rattle.tla_code.proofs.Listed.{list_in, fields_of_in, map_in, except_of_in}
use Rattle.tla_operators.specs.Evaluated.{tree_of_evaluated}
use Rattle.tla_sets.specs.Elements.{elements_of}
use Rattle.tla_sets.proofs.Chosen.{trees_in}
use Rattle.tla_eval.specs.Private.Chosen.{value_at}
use Rattle.tla_eval.specs.Private.Parts.{tested}
use Rattle.tla_eval.proofs.Tested.{all_more, all_stop, all_end, some_more, some_stop, some_end, least_more, least_stop, kept_more, kept_end}
use Rattle.tla_eval.proofs.Collected.{record_is}
use Rattle.tla_eval.proofs.Choices.{one_choice, value_here, value_more, value_end, for_choices, function_of_values}
use Rattle.tla_quick.specs.declared.environment.Environment.{Environment}
use Rattle.tla_quick.specs.declared.stop.Stop.{Stop}
use Rattle.tla_quick.specs.Private.Answers.{Answers}
use Rattle.tla_quick.specs.Private.Environment.{bound_in, present_in, next_in, scope_in, code_in, value_in, has_in}
use Rattle.tla_eval.proofs.Asked.{function_into}
use Rattle.tla_eval.proofs.RecordSets.{tuple_long, tuple_other}
use Rattle.tla_quick.proofs.Forms.{same_answer, parts_more, parts_stop, parts_end, some_parts_more, some_parts_stop, some_parts_end, arm_passed, arm_taken, arm_other, same_number, number_same}
use Rattle.tla_quick.proofs.evaluation.+evaluate.Goals as goal

-- ---- forms with lists
pub value_of_form-returns-in-List : goal.value_of_form-returns-in-List
value_of_form-returns-in-List t c =
    let n = c.in-List in
    let scope = scope_in c.args.env.now in
    let e = ap (expr_in scope) n.is ∙ list_in scope n.place n.form n.parts ∙ ap (λ us. list_expr n.form n.place (exprs_of_codes scope us)) (sym c.deref-in-List.ensures.value) in
    same_answer tree_of_evaluated c.value_of_list.result _ _ (ap (value_in c.args.env.now) e) c.value_of_list.ensures

pub value_of_other-returns-in-Fields : goal.value_of_other-returns-in-Fields
value_of_other-returns-in-Fields t c =
    let n = c.in-Fields in
    let scope = scope_in c.args.env.now in
    let e = ap (expr_in scope) n.is ∙ fields_of_in scope n.place n.form n.fields ∙ ap (λ us. field_expr n.form n.place (fields_of_codes scope us)) (sym c.deref-in-Fields.ensures.value) in
    same_answer tree_of_evaluated c.value_of_fields.result _ _ (ap (value_in c.args.env.now) e) c.value_of_fields.ensures

pub value_of_other-returns-in_ok-value_of_map-in-Map : goal.value_of_other-returns-in_ok-value_of_map-in-Map
value_of_other-returns-in_ok-value_of_map-in-Map t c =
    let n = c.in-Map in
    let scope = scope_in c.args.env.now in
    let e = ap (expr_in scope) n.is ∙ map_in scope n.place n.form n.sets n.body
    ∙ ap (λ us. map_expr n.form n.place (exprs_of_codes scope us) (expr_in scope n.body.value)) (sym c.deref-in-Map.ensures.value)
    ∙ ap (λ (k : Code). map_expr n.form n.place (exprs_of_codes scope c.deref-in-Map.result.now) (expr_in scope k)) (sym c.deref-in-Map-2.ensures) in
    ap (value_in c.args.env.now) e ∙ c.in_ok-value_of_map-in-Map.ensures

pub value_of_other-returns-in-Except : goal.value_of_other-returns-in-Except
value_of_other-returns-in-Except t c =
    let n = c.in-Except in
    let scope = scope_in c.args.env.now in
    let e = ap (expr_in scope) n.is ∙ except_of_in scope n.place n.base n.updates
    ∙ ap (λ us. except n.place (expr_in scope n.base.value) (updates_of_codes scope us)) (sym c.deref-in-Except.ensures.value)
    ∙ ap (λ (k : Code). except n.place (expr_in scope k) (updates_of_codes scope c.deref-in-Except.result.now)) (sym c.deref-in-Except-2.ensures) in
    same_answer tree_of_evaluated c.value_of_except.result _ _ (ap (value_in c.args.env.now) e) c.value_of_except.ensures

pub truth-returns-in-List : goal.truth-returns-in-List
truth-returns-in-List t c =
    let n = c.in-List in
    let scope = scope_in c.args.env.now in
    let e = ap (expr_in scope) n.is ∙ list_in scope n.field-0 n.form n.parts ∙ ap (λ us. list_expr n.form n.field-0 (exprs_of_codes scope us)) (sym c.deref-in-List.ensures.value) in
    same_answer truth c.truth_of_list.result _ _ (ap (value_in c.args.env.now) e) (c.truth_of_list.ensures n.field-0)

pub has-returns-in-List : goal.has-returns-in-List
has-returns-in-List t c =
    let n = c.in-List in
    let scope = scope_in c.args.env.now in
    let e = ap (expr_in scope) n.is ∙ list_in scope n.place n.form n.parts ∙ ap (λ us. list_expr n.form n.place (exprs_of_codes scope us)) (sym c.deref-in-List.ensures.value) in
    same_answer (λ (b : Bool). b) c.has_in_list.result _ _ (ap (has_in c.args.env.now (tree_of c.args.member.now)) e) c.has_in_list.ensures

pub has-returns-in-Fields : goal.has-returns-in-Fields
has-returns-in-Fields t c =
    let n = c.in-Fields in
    let scope = scope_in c.args.env.now in
    let e = ap (expr_in scope) n.is ∙ fields_of_in scope n.field-0 n.form n.fields ∙ ap (λ us. field_expr n.form n.field-0 (fields_of_codes scope us)) (sym c.deref-in-Fields.ensures.value) in
    same_answer (λ (b : Bool). b) c.has_in_fields.result _ _ (ap (has_in c.args.env.now (tree_of c.args.member.now)) e) (c.has_in_fields.ensures n.field-0)

pub fields::value_of_fields-returns-in_ok-made_record-in-Record : goal.fields::value_of_fields-returns-in_ok-made_record-in-Record
fields::value_of_fields-returns-in_ok-made_record-in-Record t c =
    let env = c.args.env.now in
    let p = c.args.place.now in
    ap (λ (f : FieldForm). value_in env (field_expr f p (fields_of_codes (scope_in env) c.args.fields.now))) c.in-Record.is
    ∙ record_is p (mean_fields (fields_of_codes (scope_in env) c.args.fields.now)) (bound_in env) (present_in env) (next_in env)
    ∙ ap (λ (o : Outcome (List (Tree × Tree))). o >>= make_fun p) c.in_ok-pairs-in-Record.ensures ∙ c.in_ok-made_record-in-Record.ensures

-- ---- one name
-- whether a body is TRUE for an element
abbrev body_of : Place → Code → Environment → Tree → Outcome Bool
body_of p body env v = asks p (means (code_in env body)) (bound_in env ++ v ∷ []) (present_in env) (next_in env)

-- the result for an element that exists
told : (p : Place) (e : Expr) (b : Bound) (s : Present) (t : Next) (o : Option Tree) (v : Tree) (r : Result Bool Stop) → o ≡ Some v → Answers truth r (val e (b ++ v ∷ []) s t)
    → Answers (λ (x : Bool). Some x) r (tested (λ u. asks p (means e) (b ++ u ∷ []) s t) o)
told p e b s t o v (Ok x) h k =
    ap (tested (λ u. asks p (means e) (b ++ u ∷ []) s t)) h
    ∙ ap (λ (q : Outcome Tree). (q >>= as_truth p) >>= λ y. Ok (Some y)) k
told p e b s t o v (Err f) h k = tt

pub binding::holds_at-returns : goal.binding::holds_at-returns
binding::holds_at-returns t c =
    told c.args.place.now (code_in c.args.env.now c.args.body.now) (bound_in c.args.env.now) (present_in c.args.env.now) (next_in c.args.env.now) (slice_get (elements_of c.args.elements.now) c.args.number) (tree_of c.value.result.now) c.truth_with.result
    (sym c.element_at-element.ensures ∙ ap (λ v. Some v) (sym c.value.ensures)) c.truth_with.ensures

pub binding::each_holds-loop-number-preserved : goal.binding::each_holds-loop-number-preserved
binding::each_holds-loop-number-preserved t c = c.loop-number.invariant ∙ all_more (body_of c.args.place.now c.args.body.now c.args.env.now) (elements_of c.args.elements.now) c.loop-number.number c.in_ok-holds.holds c.in_ok-holds.ensures c.if-not-holds.false

pub binding::each_holds-returns-then-not-holds : goal.binding::each_holds-returns-then-not-holds
binding::each_holds-returns-then-not-holds t c =
    c.loop-number.invariant ∙ all_stop (body_of c.args.place.now c.args.body.now c.args.env.now) (elements_of c.args.elements.now) c.loop-number.number c.in_ok-holds.holds c.in_ok-holds.ensures c.if-not-holds.true

pub binding::each_holds-returns : goal.binding::each_holds-returns
binding::each_holds-returns t c = c.loop-number.invariant ∙ all_end (body_of c.args.place.now c.args.body.now c.args.env.now) (elements_of c.args.elements.now) c.loop-number.number (subst (λ n. n ≤ c.loop-number.number) c.count_of-number-end.ensures c.loop-number-test.false)

pub binding::some_holds-loop-number-preserved : goal.binding::some_holds-loop-number-preserved
binding::some_holds-loop-number-preserved t c = c.loop-number.invariant ∙ some_more (body_of c.args.place.now c.args.body.now c.args.env.now) (elements_of c.args.elements.now) c.loop-number.number c.in_ok-holds.holds c.in_ok-holds.ensures c.if-holds.false

pub binding::some_holds-returns-then-holds : goal.binding::some_holds-returns-then-holds
binding::some_holds-returns-then-holds t c =
    c.loop-number.invariant ∙ some_stop (body_of c.args.place.now c.args.body.now c.args.env.now) (elements_of c.args.elements.now) c.loop-number.number c.in_ok-holds.holds c.in_ok-holds.ensures c.if-holds.true

pub binding::some_holds-returns : goal.binding::some_holds-returns
binding::some_holds-returns t c = c.loop-number.invariant ∙ some_end (body_of c.args.place.now c.args.body.now c.args.env.now) (elements_of c.args.elements.now) c.loop-number.number (subst (λ n. n ≤ c.loop-number.number) c.count_of-number-end.ensures c.loop-number-test.false)

pub binding::first_passing-loop-number-preserved : goal.binding::first_passing-loop-number-preserved
binding::first_passing-loop-number-preserved t c = c.loop-number.invariant ∙ least_more (body_of c.args.place.now c.args.body.now c.args.env.now) (elements_of c.args.elements.now) c.loop-number.number c.args.place.now c.in_ok-holds.holds c.in_ok-holds.ensures c.if-holds.false

pub binding::first_passing-returns-then-holds : goal.binding::first_passing-returns-then-holds
binding::first_passing-returns-then-holds t c =
    let e = c.loop-number.invariant ∙ least_stop (body_of c.args.place.now c.args.body.now c.args.env.now) (elements_of c.args.elements.now) c.loop-number.number c.args.place.now c.in_ok-holds.holds c.in_ok-holds.ensures c.if-holds.true in
    same_answer tree_of c.chosen.result _ _ e (c.chosen.ensures c.args.place.now)

pub binding::passing-loop-number-preserved : goal.binding::passing-loop-number-preserved
binding::passing-loop-number-preserved t c =
    c.loop-number.invariant
    ∙ kept_more (body_of c.args.place.now c.args.body.now c.args.env.now) (elements_of c.args.elements.now) c.loop-number.number (map tree_of c.loop-number.kept.items) (map tree_of c.keep.new.kept.items) c.in_ok-holds.holds c.in_ok-holds.ensures c.in_ok-keep.ensures

pub binding::passing-returns : goal.binding::passing-returns
binding::passing-returns t c = c.loop-number.invariant ∙ kept_end (body_of c.args.place.now c.args.body.now c.args.env.now) (elements_of c.args.elements.now) c.loop-number.number (map tree_of c.loop-number.kept.items) (subst (λ n. n ≤ c.loop-number.number) c.count_of-number-end.ensures c.loop-number-test.false)

-- ---- choices
pub choices::function_for-made_function_with-requires : goal.choices::function_for-made_function_with-requires
choices::function_for-made_function_with-requires t c =
    let env = c.args.env.now in
    let p = c.args.place.now in
    let m = means (code_in env c.args.body.now) in
    let vs = map tree_of_evaluated c.args.sets.now in
    let lists = trees_in c.as_slice.result.now in
    let are : each (as_set p) vs ≡ Ok lists = c.in_ok-lists.ensures ∙ ap (λ (us : List (Bor (List Value))). Ok (trees_in us)) (sym c.as_slice.ensures.value) in
    let ys = map tree_of c.in_ok-values.values.items in
    (c.in_ok-domain.ensures ys (for_choices p m (bound_in env) (present_in env) (next_in env) vs lists are ys c.in_ok-values.ensures)).0 ∙ length-map c.in_ok-values.values.items tree_of

pub choices::function_for-returns : goal.choices::function_for-returns
choices::function_for-returns t c =
    let env = c.args.env.now in
    let p = c.args.place.now in
    let m = means (code_in env c.args.body.now) in
    let vs = map tree_of_evaluated c.args.sets.now in
    let lists = trees_in c.as_slice.result.now in
    let are : each (as_set p) vs ≡ Ok lists = c.in_ok-lists.ensures ∙ ap (λ (us : List (Bor (List Value))). Ok (trees_in us)) (sym c.as_slice.ensures.value) in
    let ys = map tree_of c.in_ok-values.values.items in
    let e = function_of_values p m (bound_in env) (present_in env) (next_in env) vs lists are ys c.in_ok-values.ensures
    ∙ (c.in_ok-domain.ensures ys (for_choices p m (bound_in env) (present_in env) (next_in env) vs lists are ys c.in_ok-values.ensures)).1 in
    same_answer tree_of c.made_function_with.result _ _ e c.made_function_with.ensures

pub choices::chosen-loop-number-preserved : goal.choices::chosen-loop-number-preserved
choices::chosen-loop-number-preserved t c =
    let env = c.args.env.now in
    let m = means (code_in env c.args.body.now) in
    let v = c.in-Some.value in
    c.loop-number.invariant
    ∙ value_more m (bound_in env) (present_in env) (next_in env) (choices (trees_in c.args.lists.now)) c.loop-number.number (map tree_of c.loop-number.values.items) (tree_of v) (map tree_of c.push.new.self.items)
    (c.in_ok-value.ensures ∙ ap (λ (o : Option Value). Ok (option_map tree_of o)) c.in-Some.is) (ap (map tree_of) c.in_ok-push-in-Some.ensures.items ∙ map-append tree_of c.loop-number.values.items (v ∷ []))

pub choices::chosen-returns-in-None : goal.choices::chosen-returns-in-None
choices::chosen-returns-in-None t c =
    let env = c.args.env.now in
    let m = means (code_in env c.args.body.now) in
    c.loop-number.invariant
    ∙ value_end m (bound_in env) (present_in env) (next_in env) (choices (trees_in c.args.lists.now)) c.loop-number.number (map tree_of c.loop-number.values.items)
    (c.in_ok-value.ensures ∙ ap (λ (o : Option Value). Ok (option_map tree_of o)) c.in-None.is)

pub choices::chosen_once-loop-number-preserved : goal.choices::chosen_once-loop-number-preserved
choices::chosen_once-loop-number-preserved t c =
    let env = c.args.env.now in
    let m = means (code_in env c.args.body.now) in
    let v = tree_of c.in-Some.value in
    let kept = c.loop-number.invariant.0 in (
      kept ++ v ∷ [],
      c.in_ok-gather-in-Some.ensures kept c.loop-number.invariant.1,
      c.loop-number.invariant.2
          ∙ value_more m (bound_in env) (present_in env) (next_in env) (choices (trees_in c.args.lists.now)) c.loop-number.number kept v (kept ++ v ∷ [])
          (c.in_ok-value.ensures ∙ ap (λ (o : Option Value). Ok (option_map tree_of o)) c.in-Some.is) refl,
    )

pub choices::chosen_once-returns-in-None : goal.choices::chosen_once-returns-in-None
choices::chosen_once-returns-in-None t c =
    let env = c.args.env.now in
    let m = means (code_in env c.args.body.now) in
    let kept = c.loop-number.invariant.0 in (
      kept,
      c.loop-number.invariant.2
          ∙ value_end m (bound_in env) (present_in env) (next_in env) (choices (trees_in c.args.lists.now)) c.loop-number.number kept
          (c.in_ok-value.ensures ∙ ap (λ (o : Option Value). Ok (option_map tree_of o)) c.in-None.is),
      c.loop-number.invariant.1,
    )

pub choices::value_for_member-returns-in_ok-value_with-in-Some : goal.choices::value_for_member-returns-in_ok-value_with-in-Some
choices::value_for_member-returns-in_ok-value_with-in-Some t c =
    let env = c.args.env.now in
    let m = means (code_in env c.args.body.now) in
    let at = one_choice (map tree_of c.args.list.now) c.args.number ∙ ap (option_map (λ (x : Tree). x ∷ [])) (sym c.member_of.ensures ∙ ap (option_map (λ (v : Bor Value). tree_of v.now)) c.in-Some.is) in
    value_here m (bound_in env) (present_in env) (next_in env) _ (tree_of c.in-Some.value.now ∷ []) (tree_of c.in_ok-value_with-in-Some.field-0) at c.in_ok-value_with-in-Some.ensures

pub choices::value_for_member-returns-in-None : goal.choices::value_for_member-returns-in-None
choices::value_for_member-returns-in-None t c =
    let env = c.args.env.now in
    let m = means (code_in env c.args.body.now) in
    let at = one_choice (map tree_of c.args.list.now) c.args.number ∙ ap (option_map (λ (x : Tree). x ∷ [])) (sym c.member_of.ensures ∙ ap (option_map (λ (v : Bor Value). tree_of v.now)) c.in-None.is) in
    ap (λ (o : Option (List Tree)). value_at m (bound_in env) (present_in env) (next_in env) o) at

-- ---- logic
pub logic::all_are_true-loop-part-preserved : goal.logic::all_are_true-loop-part-preserved
logic::all_are_true-loop-part-preserved t c p =
    let env = c.args.env.now in
    c.loop-part.invariant p
    ∙ parts_more (scope_in env) (bound_in env) (present_in env) (next_in env) p c.args.parts.now c.loop-part.part-index c.part-item.result c.part-item.is c.loop-part-test.true c.in_ok-truth.field-0 c.in_ok-truth.ensures c.if-not-branch.false

pub logic::all_are_true-returns-then-not-branch : goal.logic::all_are_true-returns-then-not-branch
logic::all_are_true-returns-then-not-branch t c p =
    let env = c.args.env.now in
    ap as_tree (c.loop-part.invariant p
    ∙ parts_stop (scope_in env) (bound_in env) (present_in env) (next_in env) p c.args.parts.now c.loop-part.part-index c.part-item.result c.part-item.is c.loop-part-test.true c.in_ok-truth.field-0 c.in_ok-truth.ensures c.if-not-branch.true)

pub logic::all_are_true-returns : goal.logic::all_are_true-returns
logic::all_are_true-returns t c p =
    let env = c.args.env.now in
    ap as_tree (c.loop-part.invariant p ∙ parts_end (scope_in env) (bound_in env) (present_in env) (next_in env) p c.args.parts.now c.loop-part.part-index c.loop-part-test.false)

pub logic::some_is_true-loop-part-preserved : goal.logic::some_is_true-loop-part-preserved
logic::some_is_true-loop-part-preserved t c p =
    let env = c.args.env.now in
    c.loop-part.invariant p
    ∙ some_parts_more (scope_in env) (bound_in env) (present_in env) (next_in env) p c.args.parts.now c.loop-part.part-index c.part-item.result c.part-item.is c.loop-part-test.true c.in_ok-truth.field-0 c.in_ok-truth.ensures c.if-branch.false

pub logic::some_is_true-returns-then-branch : goal.logic::some_is_true-returns-then-branch
logic::some_is_true-returns-then-branch t c p =
    let env = c.args.env.now in
    ap as_tree (c.loop-part.invariant p
    ∙ some_parts_stop (scope_in env) (bound_in env) (present_in env) (next_in env) p c.args.parts.now c.loop-part.part-index c.part-item.result c.part-item.is c.loop-part-test.true c.in_ok-truth.field-0 c.in_ok-truth.ensures c.if-branch.true)

pub logic::some_is_true-returns : goal.logic::some_is_true-returns
logic::some_is_true-returns t c p =
    let env = c.args.env.now in
    ap as_tree (c.loop-part.invariant p ∙ some_parts_end (scope_in env) (bound_in env) (present_in env) (next_in env) p c.args.parts.now c.loop-part.part-index c.loop-part-test.false)

pub logic::truth_of_list-returns-in-Conjunction : goal.logic::truth_of_list-returns-in-Conjunction
logic::truth_of_list-returns-in-Conjunction t c p =
    let env = c.args.env.now in
    same_answer truth c.all_are_true.result _ _ (ap (λ (f : ListForm). value_in env (list_expr f p (exprs_of_codes (scope_in env) c.args.parts.now))) c.in-Conjunction.is) (c.all_are_true.ensures p)

pub logic::truth_of_list-returns-in-Disjunction : goal.logic::truth_of_list-returns-in-Disjunction
logic::truth_of_list-returns-in-Disjunction t c p =
    let env = c.args.env.now in
    same_answer truth c.some_is_true.result _ _ (ap (λ (f : ListForm). value_in env (list_expr f p (exprs_of_codes (scope_in env) c.args.parts.now))) c.in-Disjunction.is) (c.some_is_true.ensures p)

-- ---- the part that a CASE takes
pub lists::taken_part-loop-arm-preserved : goal.lists::taken_part-loop-arm-preserved
lists::taken_part-loop-arm-preserved t c p =
    let env = c.args.env.now in
    let b = bound_in env in let s = present_in env in let q = next_in env in (
      (c.loop-arm.invariant p).0
          ∙ arm_passed (scope_in env) b s q p (λ (m : Meaning). m.value b s q) c.args.parts.now c.loop-arm.arm c.index-parts-arm.result c.index-parts-arm.is (omega (arith, c.loop-arm-test.true)) c.in_ok-truth.field-0 c.in_ok-truth.ensures c.if-branch.false,
      λ v. (c.loop-arm.invariant p).1 v
          ∙ arm_passed (scope_in env) b s q p (λ (m : Meaning). m.has v b s q) c.args.parts.now c.loop-arm.arm c.index-parts-arm.result c.index-parts-arm.is (omega (arith, c.loop-arm-test.true)) c.in_ok-truth.field-0 c.in_ok-truth.ensures c.if-branch.false,
    )

pub lists::taken_part-returns-then-branch-clause-value : goal.lists::taken_part-returns-then-branch-clause-value
lists::taken_part-returns-then-branch-clause-value t c p d =
    let env = c.args.env.now in
    let b = bound_in env in let s = present_in env in let q = next_in env in
    (c.loop-arm.invariant p).0
    ∙ arm_taken (scope_in env) b s q p (λ (m : Meaning). m.value b s q) c.args.parts.now c.loop-arm.arm c.index-parts-arm.result c.index-parts-arm.is (omega (arith, c.loop-arm-test.true)) c.in_ok-truth.field-0 c.in_ok-truth.ensures d c.if-branch.true

pub lists::taken_part-returns-then-branch-clause-members : goal.lists::taken_part-returns-then-branch-clause-members
lists::taken_part-returns-then-branch-clause-members t c p d v =
    let env = c.args.env.now in
    let b = bound_in env in let s = present_in env in let q = next_in env in
    (c.loop-arm.invariant p).1 v
    ∙ arm_taken (scope_in env) b s q p (λ (m : Meaning). m.has v b s q) c.args.parts.now c.loop-arm.arm c.index-parts-arm.result c.index-parts-arm.is (omega (arith, c.loop-arm-test.true)) c.in_ok-truth.field-0 c.in_ok-truth.ensures d c.if-branch.true

pub lists::taken_part-returns-then-arms-parts-clause-value : goal.lists::taken_part-returns-then-arms-parts-clause-value
lists::taken_part-returns-then-arms-parts-clause-value t c p d =
    let env = c.args.env.now in
    let b = bound_in env in let s = present_in env in let q = next_in env in
    let codes = c.args.parts.now in
    let n : 2 * c.loop-arm.arm ≡ 2 * (length codes / 2) = omega (arith, c.loop-arm-test.false, c.loop-arm.auto.arm-end) in
    (c.loop-arm.invariant p).0
    ∙ ap (λ k. val (cases p (arms_in (exprs_of_codes (scope_in env) (drop k codes)))) b s q) n
    ∙ arm_other (scope_in env) b s q p (λ (m : Meaning). m.value b s q) codes (2 * (length codes / 2)) d (omega (arith, c.if-arms-parts.true))

pub lists::taken_part-returns-then-arms-parts-clause-members : goal.lists::taken_part-returns-then-arms-parts-clause-members
lists::taken_part-returns-then-arms-parts-clause-members t c p d v =
    let env = c.args.env.now in
    let b = bound_in env in let s = present_in env in let q = next_in env in
    let codes = c.args.parts.now in
    let n : 2 * c.loop-arm.arm ≡ 2 * (length codes / 2) = omega (arith, c.loop-arm-test.false, c.loop-arm.auto.arm-end) in
    (c.loop-arm.invariant p).1 v
    ∙ ap (λ k. mem v (cases p (arms_in (exprs_of_codes (scope_in env) (drop k codes)))) b s q) n
    ∙ arm_other (scope_in env) b s q p (λ (m : Meaning). m.has v b s q) codes (2 * (length codes / 2)) d (omega (arith, c.if-arms-parts.true))

pub lists::value_of_list-returns-in_ok-index-in-Cases : goal.lists::value_of_list-returns-in_ok-index-in-Cases
lists::value_of_list-returns-in_ok-index-in-Cases t c =
    let env = c.args.env.now in
    let p = c.args.place.now in
    let e = ap (λ (f : ListForm). value_in env (list_expr f p (exprs_of_codes (scope_in env) c.args.parts.now))) c.in-Cases.is
    ∙ c.in_ok-index-in-Cases.ensures.value p c.index-parts-index.result
    ∙ ap (λ (k : Code). value_in env (code_in env k)) (sym c.index-parts-index.is) in
    same_answer tree_of_evaluated c.value.result _ _ e c.value.ensures

pub logic::truth_of_list-returns-in_ok-index-in-Cases : goal.logic::truth_of_list-returns-in_ok-index-in-Cases
logic::truth_of_list-returns-in_ok-index-in-Cases t c p =
    let env = c.args.env.now in
    let e = ap (λ (f : ListForm). value_in env (list_expr f p (exprs_of_codes (scope_in env) c.args.parts.now))) c.in-Cases.is
    ∙ c.in_ok-index-in-Cases.ensures.value p c.index-parts-index.result
    ∙ ap (λ (k : Code). value_in env (code_in env k)) (sym c.index-parts-index.is) in
    same_answer truth c.truth.result _ _ e c.truth.ensures

pub asked::has_in_list-returns-in_ok-index-in-Cases : goal.asked::has_in_list-returns-in_ok-index-in-Cases
asked::has_in_list-returns-in_ok-index-in-Cases t c =
    let env = c.args.env.now in
    let p = c.args.place.now in
    let v = tree_of c.args.member.now in
    let e = ap (λ (f : ListForm). has_in env v (list_expr f p (exprs_of_codes (scope_in env) c.args.parts.now))) c.in-Cases.is
    ∙ c.in_ok-index-in-Cases.ensures.members p c.index-parts-index.result v
    ∙ ap (λ (k : Code). has_in env v (code_in env k)) (sym c.index-parts-index.is) in
    same_answer (λ (x : Bool). x) c.has.result _ _ e c.has.ensures

-- ---- sets that are tested or iterated over
pub asked::has_in_list-returns-in-Product : goal.asked::has_in_list-returns-in-Product
asked::has_in_list-returns-in-Product t c =
    let env = c.args.env.now in
    same_answer (λ (x : Bool). x) c.is_tuple_of.result _ _ (ap (λ (f : ListForm). has_in env (tree_of c.args.member.now) (list_expr f c.args.place.now (exprs_of_codes (scope_in env) c.args.parts.now))) c.in-Product.is) (c.is_tuple_of.ensures c.args.place.now)

pub fields::has_in_fields-returns-in-Records : goal.fields::has_in_fields-returns-in-Records
fields::has_in_fields-returns-in-Records t c p =
    let env = c.args.env.now in
    same_answer (λ (x : Bool). x) c.is_record_of.result _ _ (ap (λ (f : FieldForm). has_in env (tree_of c.args.member.now) (field_expr f p (fields_of_codes (scope_in env) c.args.fields.now))) c.in-Records.is) (c.is_record_of.ensures p)

pub asked::is_function_into-returns-then-has_domain : goal.asked::is_function_into-returns-then-has_domain
asked::is_function_into-returns-then-has_domain t c p =
    let env = c.args.env.now in
    let e = function_into p (means (code_in env c.args.domain.now)) (means (code_in env c.args.range.now)) (bound_in env) (present_in env) (next_in env) (tree_of c.args.member.now)
    c.in-Some.function.now (map tree_of c.values.result.now) (tree_of_evaluated c.in_ok-set-in-Some.set) (tree_of c.value-in-Some.result.now) (map tree_of c.in_ok-arguments-in-Some.arguments.now) c.has_domain.result
    (sym (ap (option_map (λ (f : Bor (List (Tree × Tree))). f.now)) c.in-Some.is) ∙ c.if_function.ensures)
    c.in_ok-set-in-Some.ensures c.value-in-Some.ensures (c.in_ok-arguments-in-Some.ensures p) c.has_domain.ensures c.if-has_domain.true c.values.ensures.values in
    same_answer (λ (x : Bool). x) c.has_all.result _ _ e c.has_all.ensures

pub asked::is_tuple_of-returns-then-items-parts : goal.asked::is_tuple_of-returns-then-items-parts
asked::is_tuple_of-returns-then-items-parts t c p =
    let env = c.args.env.now in
    let vs = map tree_of c.in-Some.items.now in
    let ms = mean_all (exprs_of_codes (scope_in env) c.args.parts.now) in
    let e = tuple_long ms vs (items (tree_of c.args.member.now)) (sym c.sequence_items.ensures ∙ ap (option_map (λ (us : Bor (List Value)). map tree_of us.now)) c.in-Some.is) (bound_in env) (present_in env) (next_in env) (same_number c.in-Some.items.now (scope_in env) c.args.parts.now (omega (arith, c.if-items-parts.true))) in
    same_answer (λ (x : Bool). x) c.parts_have.result _ _ e c.parts_have.ensures

pub asked::is_tuple_of-returns-else-items-parts : goal.asked::is_tuple_of-returns-else-items-parts
asked::is_tuple_of-returns-else-items-parts t c p =
    let env = c.args.env.now in
    let vs = map tree_of c.in-Some.items.now in
    let ms = mean_all (exprs_of_codes (scope_in env) c.args.parts.now) in
    tuple_other ms vs (items (tree_of c.args.member.now)) (sym c.sequence_items.ensures ∙ ap (option_map (λ (us : Bor (List Value)). map tree_of us.now)) c.in-Some.is) (bound_in env) (present_in env) (next_in env)
    (λ e. let h = number_same c.in-Some.items.now (scope_in env) c.args.parts.now e in omega (arith, c.if-items-parts.false))

pub elements_of_two-returns-in_ok-right-in-Operator : goal.elements_of_two-returns-in_ok-right-in-Operator
elements_of_two-returns-in_ok-right-in-Operator t c =
    let env = c.args.env.now in
    same_answer elements_of c.operator_elements.result _ _ (ap (λ (f : TwoForm). elements c.args.place.now (means (two_expr f c.args.at.now (code_in env c.args.left.now) (code_in env c.args.right.now))) (bound_in env) (present_in env) (next_in env)) c.in-Operator.is)
    (c.operator_elements.ensures (code_in env c.args.left.now) (code_in env c.args.right.now) (bound_in env) (present_in env) (next_in env) (search rules) (search rules))
