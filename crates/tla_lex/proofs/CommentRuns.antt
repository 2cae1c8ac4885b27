-- Where the bytes of a comment lead.
use Rattle.std.proofs.Common.{◌≡◌, ◌+◌, ℕ, suc, Bool, true, false, if◌then◌else◌, Some, [], ◌∷◌, ◌++◌, length, length-append, append_assoc, refl, sym, ap, ◌∙◌, subst, arith}
use Rattle.std.specs.Prelude.{IsTrue}
use Rattle.std.specs.List.{list_all}
use Rattle.tla_lex.specs.Bytes.{Bytes, first, is_line_feed}
use Rattle.tla_lex.specs.Comments.{opens, closes, EndsComment, closed, nested, other, is_inline, IsLineEnd, IsComment, line, block}
use Rattle.tla_lex.specs.Gap.{turn, is_outside}
use Rattle.tla_lex.specs.declared.gap.Mode.{Mode}
use Rattle.tla_lex.specs.declared.gap.Mode.TheVariants.{Line, Depth, Second}
use Rattle.tla_lex.proofs.Runs.{clash, both}
use Rattle.tla_lex.proofs.Shapes.{negates}

-- what ends a comment has a first byte
pub first_kept : (w rest : Bytes) → EndsComment w → first (w ++ rest) ≡ first w
first_kept w rest closed = refl
first_kept w rest (nested u v hu hv) = refl
first_kept w rest (other b v o c h) = refl

pub turn_other : (k b next : ℕ) → opens b next ≡ false → closes b next ≡ false → turn (Depth (suc k)) b next ≡ Some (Depth (suc k))
turn_other k b next o c = by (opens b next) (closes b next) o c
  where
    by : (x y : Bool) → x ≡ false → y ≡ false → (if x then Some (Second (k + 2)) else if y then Some (Second k) else Some (Depth (k + 1))) ≡ Some (Depth (suc k))
    by true y e f = clash refl e
    by false true e f = clash refl f
    by false false e f = let one : k + 1 ≡ suc k = omega arith in ap (λ n. Some (Depth n)) one

-- A reading of bytes under a mode, from a byte on; `opening` is where the outermost comment opened.
module _ {X : Type 0} (read : ℕ → Mode → ℕ → Bytes → X)
    (step : (opening : ℕ) (mode to : Mode) (at b : ℕ) (rest : Bytes) → is_outside mode ≡ false → turn mode b (first rest) ≡ Some to → read opening mode at (b ∷ rest) ≡ read opening to (at + 1) rest) where
  -- what ends a comment leads one depth up
  pub ends_run : (w : Bytes) → EndsComment w → (opening k at : ℕ) (rest : Bytes) → read opening (Depth (suc k)) at (w ++ rest) ≡ read opening (Depth k) (at + length w) rest
  ends_run w closed opening k at rest =
      let two : at + 1 + 1 ≡ at + 2 = omega arith in
      step opening (Depth (suc k)) (Second k) at 42 (41 ∷ rest) refl refl ∙ step opening (Second k) (Depth k) (at + 1) 41 rest refl refl ∙ ap (λ n. read opening (Depth k) n rest) two
  ends_run w (nested u v hu hv) opening k at rest =
      let deeper : k + 2 ≡ suc (suc k) = omega arith in
      let sizes : length (u ++ v) ≡ length u + length v = length-append u v in
      let all : at + 1 + 1 + length u + length v ≡ at + suc (suc (length (u ++ v))) = omega (arith, sizes) in
      step opening (Depth (suc k)) (Second (k + 2)) at 40 (42 ∷ (u ++ v ++ rest)) refl refl
      ∙ step opening (Second (k + 2)) (Depth (k + 2)) (at + 1) 42 (u ++ v ++ rest) refl refl
      ∙ ap (λ n. read opening (Depth n) (at + 1 + 1) (u ++ v ++ rest)) deeper
      ∙ ap (λ t. read opening (Depth (suc (suc k))) (at + 1 + 1) t) (append_assoc u v rest)
      ∙ ends_run u hu opening (suc k) (at + 1 + 1) (v ++ rest)
      ∙ ends_run v hv opening k (at + 1 + 1 + length u) rest
      ∙ ap (λ n. read opening (Depth k) n rest) all
  ends_run w (other b v o c h) opening k at rest =
      let next : first (v ++ rest) ≡ first v = first_kept v rest h in
      let all : at + 1 + length v ≡ at + suc (length v) = omega arith in
      step opening (Depth (suc k)) (Depth (suc k)) at b (v ++ rest) refl (turn_other k b (first (v ++ rest)) (ap (opens b) next ∙ o) (ap (closes b) next ∙ c))
      ∙ ends_run v h opening k (at + 1) rest
      ∙ ap (λ n. read opening (Depth k) n rest) all

  -- the rest of a line
  pub line_run : (w : Bytes) → IsTrue (list_all is_inline w) → (opening at : ℕ) (rest : Bytes) → read opening Line at (w ++ rest) ≡ read opening Line (at + length w) rest
  line_run [] all opening at rest = let none : at ≡ at + 0 = omega arith in ap (λ n. read opening Line n rest) none
  line_run (b ∷ w) all opening at rest =
      let s = both (is_inline b) (list_all is_inline w) all in
      let stay : turn Line b (first (w ++ rest)) ≡ Some Line = subst (λ x. (if x then Some (Depth 0) else Some Line) ≡ Some Line) (sym (negates (is_line_feed b) s.0)) refl in
      let more : at + 1 + length w ≡ at + suc (length w) = omega arith in
      step opening Line Line at b (w ++ rest) refl stay ∙ line_run w s.1 opening (at + 1) rest ∙ ap (λ n. read opening Line n rest) more

  -- Outside comments: `begin` at either mark, and `end` after a comment.
  module _ (outside : ℕ → Bytes → X)
      (begin_line : (at : ℕ) (rest : Bytes) → outside at (92 ∷ 42 ∷ rest) ≡ read at Line (at + 1) (42 ∷ rest))
      (begin_block : (at : ℕ) (rest : Bytes) → outside at (40 ∷ 42 ∷ rest) ≡ read at (Second 1) (at + 1) (42 ∷ rest))
      (end_line : (opening at : ℕ) (rest : Bytes) → IsLineEnd rest → read opening Line at rest ≡ outside at rest)
      (end_block : (opening at : ℕ) (rest : Bytes) → read opening (Depth 0) at rest ≡ outside at rest) where
    pub comment_run : (c rest : Bytes) → IsComment c rest → (at : ℕ) → outside at (c ++ rest) ≡ outside (at + length c) rest
    comment_run c rest (line w r all end) at =
        let size : at + 1 + 1 + length w ≡ at + suc (suc (length w)) = omega arith in
        begin_line at (w ++ rest)
        ∙ step at Line Line (at + 1) 42 (w ++ rest) refl refl
        ∙ line_run w all at (at + 1 + 1) rest
        ∙ end_line at (at + 1 + 1 + length w) rest end
        ∙ ap (λ n. outside n rest) size
    comment_run c rest (block w r h) at =
        let size : at + 1 + 1 + length w ≡ at + suc (suc (length w)) = omega arith in
        begin_block at (w ++ rest)
        ∙ step at (Second 1) (Depth 1) (at + 1) 42 (w ++ rest) refl refl
        ∙ ends_run w h at 0 (at + 1 + 1) rest
        ∙ end_block at (at + 1 + 1 + length w) rest
        ∙ ap (λ n. outside n rest) size
