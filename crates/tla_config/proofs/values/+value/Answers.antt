use Rattle.std.proofs.Common.{◌≡◌, ◌+◌, ◌++◌, ◌∷◌, [], map, sym, ap, subst, ◌∙◌, slice_get, refl, arith}
use Rattle.std.proofs.lemmas.List.{map-append}
use Rattle.std.proofs.lemmas.Result.{err_from_is_err_and}
use Rattle.tla_lex.specs.declared.token.Kind.TheVariants as k
use Rattle.tla_value.specs.IsValue.{IsValue}
use Rattle.tla_value.specs.Sets.{set_of}
use Rattle.tla_value.specs.Tree.{set, trees}
use Rattle.tla_value.specs.TreeOf.{tree_of}
use Rattle.tla_config.specs.Private.Beyond.{IsBeyond, nested}
use Rattle.tla_config.specs.Private.GivesValues.{IsValueAt, NoValue}
use Rattle.tla_config.proofs.Arms.{fails_map}
use Rattle.tla_config.proofs.Atoms.{NoAtom, atom_is, no_atom, atom_because, token_unwritten}
use Rattle.tla_config.proofs.Beyond.{value_within}
use Rattle.tla_config.proofs.Fronts.{kind_found, kind_none, kind_is}
use Rattle.tla_config.proofs.Members.{so_far_none, so_far_more, so_far_last, so_far_refused, so_far_fails, so_far_open, empty_set, empty_refused, empty_beyond, set_beyond, set_because, members_before, member_because, onward_more, so_far_unwritten, so_far_within, empty_within}
use Rattle.tla_config.proofs.values.+value.Goals as goal

pub members-loop-values-init : goal.members-loop-values-init
members-loop-values-init t c =
    let text = c.args.text.now in
    let ts = c.args.tokens.now in
    record {
      so_far = rw c.new-values.ensures.items (so_far_none text ts c.args.from (kind_found k.LeftBrace (slice_get ts c.args.from) c.requires)
          (λ x. let e = kind_is text ts k.RightBrace (c.args.from + 1) refl x in let f = c.is_kind.ensures.value in (let z : ⊥ = cc in z)));
      before = ([], refl);
      onward = λ r. r;
      order = omega arith;
    }

pub members-returns-in_err-found-clause-gives : goal.members-returns-in_err-found-clause-gives
members-returns-in_err-found-clause-gives t c =
    let text = c.args.text.now in
    let ts = c.args.tokens.now in
    let e = err_from_is_err_and c.from_residual-in_err-found.result c.from_residual-in_err-found.ensures.1 in
    rw (e.1, e.2) (fails_map text ts c.in_err-found.field-0.0 (NoValue text ts c.args.room c.loop-values.at) (NoValue text ts (c.args.room + 1) c.args.from)
    (so_far_fails text ts (map tree_of c.loop-values.values.items) c.args.room c.args.from c.loop-values.at (kind_found k.LeftBrace (slice_get ts c.args.from) c.requires) c.loop-values.invariant.so_far) c.in_err-found.ensures.gives)

pub members-returns-in_err-value-clause-gives : goal.members-returns-in_err-value-clause-gives
members-returns-in_err-value-clause-gives t c =
    let text = c.args.text.now in
    let ts = c.args.tokens.now in
    let e = err_from_is_err_and c.from_residual.result c.from_residual.ensures.1 in
    rw (e.1, e.2) (fails_map text ts c.in_err-value.field-0.0 (IsValue (set (trees (set_of (map tree_of c.new-values.result.items)))) → ⊥) (NoValue text ts (c.args.room + 1) c.args.from)
    (λ f. empty_refused text ts (c.args.room + 1) c.args.from (kind_found k.LeftBrace (slice_get ts c.args.from) c.requires)
    (kind_found k.RightBrace (slice_get ts (c.args.from + 1)) (sym c.is_kind.ensures.value ∙ c.if-is_kind.true))
    (λ x. f (subst (λ vs. IsValue (set (trees (set_of (map tree_of vs))))) (sym c.new-values.ensures.items) x))) (c.in_err-value.ensures.gives text ts))

pub members-returns-then-is_kind-clause-gives : goal.members-returns-then-is_kind-clause-gives
members-returns-then-is_kind-clause-gives t c =
    let text = c.args.text.now in
    let ts = c.args.tokens.now in
    let g = c.in_ok-value.ensures.gives text ts in
    let two : c.args.from + 2 ≡ c.args.from + 1 + 1 = omega arith in
    let s : tree_of c.in_ok-value.value ≡ set (trees (set_of [])) = g.0 ∙ ap (λ vs. set (trees (set_of (map tree_of vs)))) c.new-values.ensures.items in
    subst (λ n. IsValueAt text ts (tree_of c.in_ok-value.value) c.args.from n) two
    (empty_set text ts c.args.from (tree_of c.in_ok-value.value) (kind_found k.LeftBrace (slice_get ts c.args.from) c.requires)
    (kind_found k.RightBrace (slice_get ts (c.args.from + 1)) (sym c.is_kind.ensures.value ∙ c.if-is_kind.true)) s g.1)

pub members-returns-in_err-value-2-clause-gives : goal.members-returns-in_err-value-2-clause-gives
members-returns-in_err-value-2-clause-gives t c =
    let text = c.args.text.now in
    let ts = c.args.tokens.now in
    let front = map tree_of c.loop-values.values.items in
    let v = tree_of c.in_ok-found.found.value in
    let e = err_from_is_err_and c.from_residual-in_err-value-2.result c.from_residual-in_err-value-2.ensures.1 in
    let more : map tree_of c.push.new.items.items ≡ front ++ v ∷ [] =
    ap (λ x. map tree_of x) c.in_ok-push.ensures.ok ∙ map-append tree_of c.loop-values.values.items (c.in_ok-found.found.value ∷ []) in
    rw (e.1, e.2) (fails_map text ts c.in_err-value-2.field-0.0 (IsValue (set (trees (set_of (map tree_of c.push.new.items.items)))) → ⊥) (NoValue text ts (c.args.room + 1) c.args.from)
    (λ f. so_far_refused text ts front (c.args.room + 1) c.args.from c.loop-values.at c.in_ok-found.found.end v (kind_found k.LeftBrace (slice_get ts c.args.from) c.requires)
    c.loop-values.invariant.so_far c.in_ok-found.ensures.gives (kind_found k.RightBrace (slice_get ts c.in_ok-found.found.end) (sym c.is_kind-in-loop-values.ensures.value ∙ c.if-is_kind-2.true))
    (λ x. f (subst (λ vs. IsValue (set (trees (set_of vs)))) (sym more) x))) (c.in_err-value-2.ensures.gives text ts))

pub members-returns-then-is_kind-2-clause-gives : goal.members-returns-then-is_kind-2-clause-gives
members-returns-then-is_kind-2-clause-gives t c =
    let text = c.args.text.now in
    let ts = c.args.tokens.now in
    let front = map tree_of c.loop-values.values.items in
    let v = tree_of c.in_ok-found.found.value in
    let g = c.in_ok-value-2.ensures.gives text ts in
    let more : map tree_of c.push.new.items.items ≡ front ++ v ∷ [] =
    ap (λ x. map tree_of x) c.in_ok-push.ensures.ok ∙ map-append tree_of c.loop-values.values.items (c.in_ok-found.found.value ∷ []) in
    so_far_last text ts front c.args.from c.loop-values.at c.in_ok-found.found.end v (tree_of c.in_ok-value-2.value) c.loop-values.invariant.so_far c.in_ok-found.ensures.gives
    (kind_found k.RightBrace (slice_get ts c.in_ok-found.found.end) (sym c.is_kind-in-loop-values.ensures.value ∙ c.if-is_kind-2.true))
    (g.0 ∙ ap (λ vs. set (trees (set_of vs))) more) g.1

pub members-returns-then-not-is_kind-clause-gives : goal.members-returns-then-not-is_kind-clause-gives
members-returns-then-not-is_kind-clause-gives t c =
    let text = c.args.text.now in
    let ts = c.args.tokens.now in
    so_far_open text ts (map tree_of c.loop-values.values.items) (c.args.room + 1) c.args.from c.loop-values.at c.in_ok-found.found.end (tree_of c.in_ok-found.found.value)
    (kind_found k.LeftBrace (slice_get ts c.args.from) c.requires) c.loop-values.invariant.so_far c.in_ok-found.ensures.gives
    (λ x. let e = kind_is text ts k.Comma c.in_ok-found.found.end refl x in let f = c.is_kind-in-loop-values-2.ensures.value in (let z : ⊥ = cc in z))
    (λ x. let e = kind_is text ts k.RightBrace c.in_ok-found.found.end refl x in let f = c.is_kind-in-loop-values.ensures.value in (let z : ⊥ = cc in z))

pub members-loop-values-preserved : goal.members-loop-values-preserved
members-loop-values-preserved t c =
    let text = c.args.text.now in
    let ts = c.args.tokens.now in
    let front = map tree_of c.loop-values.values.items in
    let v = tree_of c.in_ok-found.found.value in
    let more : map tree_of c.push.new.items.items ≡ front ++ v ∷ [] =
    ap (λ x. map tree_of x) c.in_ok-push.ensures.ok ∙ map-append tree_of c.loop-values.values.items (c.in_ok-found.found.value ∷ []) in
    record {
      so_far = rw more (so_far_more text ts front c.args.from c.loop-values.at c.in_ok-found.found.end v c.loop-values.invariant.so_far c.in_ok-found.ensures.gives
          (kind_found k.Comma (slice_get ts c.in_ok-found.found.end) (let f = c.is_kind-in-loop-values-2.ensures.value in cc)));
      before = members_before text ts c.args.from c.loop-values.at c.in_ok-found.found.end v c.loop-values.invariant.before c.in_ok-found.ensures.gives
          (kind_found k.Comma (slice_get ts c.in_ok-found.found.end) (let f = c.is_kind-in-loop-values-2.ensures.value in cc));
      onward = onward_more text ts c.args.room c.args.from c.loop-values.at c.in_ok-found.found.end v c.loop-values.invariant.onward c.in_ok-found.ensures.gives c.in_ok-found.ensures.limits;
      order = let a = c.in_ok-found.ensures.within in let b = c.loop-values.invariant.order in omega arith;
    }

pub value-returns-then-is_kind-2-clause-gives : goal.value-returns-then-is_kind-2-clause-gives
value-returns-then-is_kind-2-clause-gives t c = c.negated.ensures.gives c.args.room

pub value-returns-clause-gives : goal.value-returns-clause-gives
value-returns-clause-gives t c =
    atom_is c.args.text.now c.args.tokens.now c.args.at c.in-Some.t (tree_of c.in_ok-value.value) (sym c.token_at.ensures.value ∙ c.in-Some.is) c.in_ok-value.ensures.gives.0 c.in_ok-value.ensures.gives.1

pub value-returns-in_err-value-clause-gives : goal.value-returns-in_err-value-clause-gives
value-returns-in_err-value-clause-gives t c =
    let text = c.args.text.now in
    let ts = c.args.tokens.now in
    let e = err_from_is_err_and c.from_residual.result c.from_residual.ensures.1 in
    rw (e.1, e.2) (fails_map text ts c.in_err-value.field-0.0 (NoAtom text ts c.in-Some.t) (NoValue text ts c.args.room c.args.at)
    (no_atom text ts c.args.room c.args.at c.in-Some.t (sym c.token_at.ensures.value ∙ c.in-Some.is)
    (sym c.is_kind.ensures.value ∙ c.if-is_kind.false) (sym c.is_kind-2.ensures.value ∙ c.if-is_kind-2.false)) c.in_err-value.ensures.gives)

pub value-returns-in_err-value-clause-because : goal.value-returns-in_err-value-clause-because
value-returns-in_err-value-clause-because t c =
    let e = err_from_is_err_and c.from_residual.result c.from_residual.ensures.1 in
    rw (e.1, e.2) (atom_because c.args.text.now c.args.tokens.now c.in_err-value.field-0.0 c.args.item c.args.room c.args.at c.in-Some.t (sym c.token_at.ensures.value ∙ c.in-Some.is)
    (sym c.is_kind.ensures.value ∙ c.if-is_kind.false) (sym c.is_kind-2.ensures.value ∙ c.if-is_kind-2.false) c.in_err-value.ensures.because)

pub members-returns-in_err-found-clause-because : goal.members-returns-in_err-found-clause-because
members-returns-in_err-found-clause-because t c =
    let text = c.args.text.now in
    let ts = c.args.tokens.now in
    let e = err_from_is_err_and c.from_residual-in_err-found.result c.from_residual-in_err-found.ensures.1 in
    rw (e.1, e.2) (member_because text ts c.in_err-found.field-0.0 (map tree_of c.loop-values.values.items) c.args.item c.args.room c.args.from c.loop-values.at
    (kind_found k.LeftBrace (slice_get ts c.args.from) c.requires) c.loop-values.invariant.so_far c.loop-values.invariant.before c.loop-values.invariant.onward c.in_err-found.ensures.because)

pub members-returns-in_err-value-clause-because : goal.members-returns-in_err-value-clause-because
members-returns-in_err-value-clause-because t c =
    let text = c.args.text.now in
    let ts = c.args.tokens.now in
    let e = err_from_is_err_and c.from_residual.result c.from_residual.ensures.1 in
    rw (e.1, e.2) (set_because text ts c.in_err-value.field-0.0 (map tree_of c.new-values.result.items) c.args.item (c.args.room + 1) c.args.from
    (λ f. empty_beyond text ts (c.args.room + 1) c.args.from (kind_found k.LeftBrace (slice_get ts c.args.from) c.requires)
    (kind_found k.RightBrace (slice_get ts (c.args.from + 1)) (sym c.is_kind.ensures.value ∙ c.if-is_kind.true))
    (λ x. f (subst (λ vs. IsValue (set (trees (set_of (map tree_of vs))))) (sym c.new-values.ensures.items) x))) (c.in_err-value.ensures.gives text ts) c.in_err-value.ensures.because)

pub members-returns-in_err-value-2-clause-because : goal.members-returns-in_err-value-2-clause-because
members-returns-in_err-value-2-clause-because t c =
    let text = c.args.text.now in
    let ts = c.args.tokens.now in
    let front = map tree_of c.loop-values.values.items in
    let v = tree_of c.in_ok-found.found.value in
    let e = err_from_is_err_and c.from_residual-in_err-value-2.result c.from_residual-in_err-value-2.ensures.1 in
    let more : map tree_of c.push.new.items.items ≡ front ++ v ∷ [] =
    ap (λ x. map tree_of x) c.in_ok-push.ensures.ok ∙ map-append tree_of c.loop-values.values.items (c.in_ok-found.found.value ∷ []) in
    rw (e.1, e.2) (set_because text ts c.in_err-value-2.field-0.0 (map tree_of c.push.new.items.items) c.args.item (c.args.room + 1) c.args.from
    (λ f. set_beyond text ts front (c.args.room + 1) c.args.from c.loop-values.at c.in_ok-found.found.end v c.loop-values.invariant.so_far c.in_ok-found.ensures.gives
    (kind_found k.RightBrace (slice_get ts c.in_ok-found.found.end) (sym c.is_kind-in-loop-values.ensures.value ∙ c.if-is_kind-2.true))
    (λ x. f (subst (λ vs. IsValue (set (trees (set_of vs)))) (sym more) x))) (c.in_err-value-2.ensures.gives text ts) c.in_err-value-2.ensures.because)

pub value-returns-then-is_kind-2-clause-because : goal.value-returns-then-is_kind-2-clause-because
value-returns-then-is_kind-2-clause-because t c = c.negated.ensures.because c.args.room

pub value-returns-then-room-eq0-clause-because : goal.value-returns-then-room-eq0-clause-because
value-returns-then-room-eq0-clause-because t c =
    let text = c.args.text.now in
    let ts = c.args.tokens.now in
    (refl, subst (λ n. IsBeyond text ts n c.args.at) (sym c.if-room-eq0.true) (nested c.args.at (kind_found k.LeftBrace (slice_get ts c.args.at) (sym c.is_kind.ensures.value ∙ c.if-is_kind.true))))

pub members-returns-then-not-is_kind-clause-because : goal.members-returns-then-not-is_kind-clause-because
members-returns-then-not-is_kind-clause-because t c =
    let text = c.args.text.now in
    let ts = c.args.tokens.now in
    so_far_unwritten text ts (map tree_of c.loop-values.values.items) c.args.room c.args.from c.loop-values.at c.in_ok-found.found.end (tree_of c.in_ok-found.found.value)
    (kind_found k.LeftBrace (slice_get ts c.args.from) c.requires) c.loop-values.invariant.so_far c.loop-values.invariant.onward c.in_ok-found.ensures.gives c.in_ok-found.ensures.limits
    (kind_none text ts k.Comma c.in_ok-found.found.end refl (sym c.is_kind-in-loop-values-2.ensures.value ∙ c.if-not-is_kind.true))
    (kind_none text ts k.RightBrace c.in_ok-found.found.end refl (sym c.is_kind-in-loop-values.ensures.value ∙ c.if-is_kind-2.false))

pub members-returns-then-is_kind-clause-limits : goal.members-returns-then-is_kind-clause-limits
members-returns-then-is_kind-clause-limits t c =
    let text = c.args.text.now in
    let ts = c.args.tokens.now in
    empty_within text ts c.args.room c.args.from (c.args.from + 1 + 1) (tree_of c.in_ok-value.value)
    (kind_found k.RightBrace (slice_get ts (c.args.from + 1)) (sym c.is_kind.ensures.value ∙ c.if-is_kind.true)) (members-returns-then-is_kind-clause-gives t c)

pub members-returns-then-is_kind-2-clause-limits : goal.members-returns-then-is_kind-2-clause-limits
members-returns-then-is_kind-2-clause-limits t c =
    let text = c.args.text.now in
    let ts = c.args.tokens.now in
    so_far_within text ts c.args.room c.args.from c.loop-values.at c.in_ok-found.found.end (tree_of c.in_ok-found.found.value) (tree_of c.in_ok-value-2.value)
    c.loop-values.invariant.onward c.in_ok-found.ensures.gives c.in_ok-found.ensures.limits
    (kind_found k.RightBrace (slice_get ts c.in_ok-found.found.end) (sym c.is_kind-in-loop-values.ensures.value ∙ c.if-is_kind-2.true)) (members-returns-then-is_kind-2-clause-gives t c)

pub value-returns-then-is_kind-2-clause-limits : goal.value-returns-then-is_kind-2-clause-limits
value-returns-then-is_kind-2-clause-limits t c = c.negated.ensures.limits c.args.room

pub value-returns-clause-limits : goal.value-returns-clause-limits
value-returns-clause-limits t c =
    value_within c.args.text.now c.args.tokens.now c.args.room c.args.at (c.args.at + 1) (tree_of c.in_ok-value.value)
    (kind_none c.args.text.now c.args.tokens.now k.LeftBrace c.args.at refl (sym c.is_kind.ensures.value ∙ c.if-is_kind.false)) (value-returns-clause-gives t c)

pub value-returns-in_default-clause-because : goal.value-returns-in_default-clause-because
value-returns-in_default-clause-because t c = token_unwritten c.args.text.now c.args.tokens.now c.args.room c.args.at (sym c.token_at.ensures.value ∙ c.in_default.is)
