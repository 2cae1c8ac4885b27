use Rattle.std.proofs.Common.{◌≡◌, rules, sym, ◌∙◌}
use Rattle.std.proofs.lemmas.Bool.{false≢true}
use Rattle.tla_sharing.specs.Private.Copies.{IsCopy, AreCopies}
use Rattle.tla_sharing.proofs.Copied.{list_copied, fields_copied, map_copied, except_copied, use_copied}
use Rattle.tla_sharing.proofs.copies.+copies.Goals as goal
use Rattle.tla_sharing.proofs.copies.+copies.Goals.{has_listed_copies-then-eq-6, has_listed_copies-else-eq-6, has_listed_copies-then-eq-7, has_listed_copies-else-eq-7}

pub has_listed_copies-returns-then-eq-2 : goal.has_listed_copies-returns-then-eq-2
has_listed_copies-returns-then-eq-2 t c = λ h.
    let m = c.in-List-List in
    list_copied c.args.shift (search rules) (search rules) m.xs m.ys m.is-0 m.is-1 (rw (c.deref.ensures.value, c.deref-then-eq-2.ensures.value) at (c.are_copies.ensures h))

pub has_listed_copies-returns-then-eq-4 : goal.has_listed_copies-returns-then-eq-4
has_listed_copies-returns-then-eq-4 t c = λ h.
    let m = c.in-Fields-Fields in
    fields_copied c.args.shift (search rules) (search rules) m.xs m.ys m.is-0 m.is-1 (rw (c.deref-then-eq-4.ensures.value, c.deref-then-eq-4-2.ensures.value) at (c.are_fields.ensures h))

pub has_listed_copies-returns-then-are_copies : goal.has_listed_copies-returns-then-are_copies
has_listed_copies-returns-then-are_copies t c = λ h.
    let m = c.in-Map-Map in
    let known : ((m.p ≡ m.q) × (m.f ≡ m.g)) × AreCopies c.args.shift m.xs.items m.ys.items = elim c.if-eq-6.branch [
      | has_listed_copies-then-eq-6 w ↦ ((search rules, search rules), rw (w.deref-then-eq-6.ensures.value, w.deref-then-eq-6-2.ensures.value) at (w.are_copies-then-eq-6.ensures (sym w.value-is ∙ c.if-are_copies.true)))
      | has_listed_copies-else-eq-6 w ↦ absurd (false≢true (sym w.if-eq-6.false ∙ sym w.value-is ∙ c.if-are_copies.true))
    ] in
    map_copied c.args.shift known.0.0 known.0.1 m.xs m.ys m.a m.b m.is-0 m.is-1 known.1 (rw (c.deref-then-are_copies.ensures, c.deref-then-are_copies-2.ensures) at (c.is_copy.ensures h))

pub has_listed_copies-returns-then-is_copy : goal.has_listed_copies-returns-then-is_copy
has_listed_copies-returns-then-is_copy t c = λ h.
    let m = c.in-Except-Except in
    let known : (m.p ≡ m.q) × IsCopy c.args.shift m.a.value m.b.value = elim c.if-eq-7.branch [
      | has_listed_copies-then-eq-7 w ↦ (search rules, rw (w.deref-then-eq-7.ensures, w.deref-then-eq-7-2.ensures) at (w.is_copy-then-eq-7.ensures (sym w.value-is ∙ c.if-is_copy.true)))
      | has_listed_copies-else-eq-7 w ↦ absurd (false≢true (sym w.if-eq-7.false ∙ sym w.value-is ∙ c.if-is_copy.true))
    ] in
    except_copied c.args.shift known.0 m.a m.b m.xs m.ys m.is-0 m.is-1 known.1 (rw (c.deref-then-is_copy.ensures.value, c.deref-then-is_copy-2.ensures.value) at (c.are_updates.ensures h))

pub is_copy-returns-then-k-l : goal.is_copy-returns-then-k-l
is_copy-returns-then-k-l t c = λ h.
    let m = c.in-Use-Use in
    use_copied c.args.shift (search rules) m.k m.l m.b m.c m.is-0 m.is-1 (search rules) (c.is_copied_use.ensures h)
