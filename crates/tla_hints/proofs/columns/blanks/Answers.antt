use Rattle.std.proofs.Common.{rules, ◌||◌, ◌==◌}
use Rattle.std.specs.Prelude.{IsTrue}
use Rattle.std.proofs.lemmas.List.Elements.{All-push}
use Rattle.tla_hints.proofs.Behind.{behind_tab, behind_character, behind_inner, inner_low, inner_high, inner_between, whole_line}
use Rattle.tla_hints.proofs.columns.blanks.Goals as goal
use Rattle.tla_hints.proofs.columns.blanks.Goals.{then-byte-eq9+in_ok-push, else-byte-eq9+then-byte-lt128+in_ok-push-2, then-byte-lt128-via-then-byte-lt128, then-byte-lt128-via-else-byte-lt128+then-byte-ge192, else-byte-eq9+else-byte-lt128+else-byte-ge192}

pub loop-byte-preserved : goal.loop-byte-preserved
loop-byte-preserved c =
    let here = c.loop-byte.invariant.behind in
    let blank = c.loop-byte.invariant.blank in
    let test = c.loop-byte-test.true in
    elim c.if-byte-eq9.branch [
      | then-byte-eq9+in_ok-push w ↦
          record {
            behind = rw (w.blanks-is, w.in_ok-push.ensures.items) (behind_tab c.loop-byte.blanks.items _ _ test here w.if-byte-eq9.true);
            blank = rw (w.blanks-is, w.in_ok-push.ensures.items) (All-push (λ b. IsTrue (b == 32 || b == 9)) _ 9 blank (search rules));
          }
      | else-byte-eq9+then-byte-lt128+in_ok-push-2 w ↦
          elim w.then-byte-lt128.branch [
            | then-byte-lt128-via-then-byte-lt128 w' ↦
                record {
                  behind = rw (w.blanks-is, w.in_ok-push-2.ensures.items) (behind_character c.loop-byte.blanks.items _ _ test here w.if-byte-eq9.false (inner_low _ w'.if-byte-lt128.true));
                  blank = rw (w.blanks-is, w.in_ok-push-2.ensures.items) (All-push (λ b. IsTrue (b == 32 || b == 9)) _ 32 blank (search rules));
                }
            | then-byte-lt128-via-else-byte-lt128+then-byte-ge192 w' ↦
                record {
                  behind = rw (w.blanks-is, w.in_ok-push-2.ensures.items) (behind_character c.loop-byte.blanks.items _ _ test here w.if-byte-eq9.false (inner_high _ w'.if-byte-ge192.true));
                  blank = rw (w.blanks-is, w.in_ok-push-2.ensures.items) (All-push (λ b. IsTrue (b == 32 || b == 9)) _ 32 blank (search rules));
                }
          ]
      | else-byte-eq9+else-byte-lt128+else-byte-ge192 w ↦
          record {
            behind = rw w.blanks-is (behind_inner c.loop-byte.blanks.items _ _ test here w.if-byte-eq9.false (inner_between _ w.if-byte-lt128.false w.if-byte-ge192.false));
            blank = rw w.blanks-is blank;
          }
    ]

pub returns-clause-column_behind : goal.returns-clause-column_behind
returns-clause-column_behind c = whole_line _ _ _ c.loop-byte-test.false c.loop-byte.invariant.behind
