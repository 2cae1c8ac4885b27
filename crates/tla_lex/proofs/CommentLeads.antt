-- What is passed over from within a comment on.
use Rattle.std.proofs.Common.{◌≡◌, ◌+◌, ◌⊎◌, inl, inr, ℕ, zero, suc, Bool, true, false, not, if◌then◌else◌, ◌&&◌, Some, None, [], ◌∷◌, ◌++◌, append_assoc, refl, sym, ap, ◌∙◌, subst, arith}
use Rattle.std.specs.Prelude.{IsTrue, ◌==◌}
use Rattle.std.specs.List.{list_all}
use Rattle.std.proofs.lemmas.Bool.Decides.{Decides-eqb}
use Rattle.tla_lex.specs.Bytes.{Bytes, first, is_blank, is_line_feed}
use Rattle.tla_lex.specs.Comments.{opens_line, opens, closes, EndsComment, closed, nested, other, is_inline, IsLineEnd, IsComment, line, block}
use Rattle.tla_lex.specs.Gap.{turn}
use Rattle.tla_lex.specs.declared.gap.Mode.{Mode}
use Rattle.tla_lex.specs.declared.gap.Mode.TheVariants.{Line, Depth, Second}
use Rattle.tla_lex.proofs.CommentRuns.{first_kept}
use Rattle.tla_lex.proofs.Runs.{clash, both}

-- two bytes at the front, told by a test of a byte and the next
pub two_bytes : (x y b : ℕ) (w : Bytes) → (0 == y) ≡ false → IsTrue (b == x && first w == y) → (r : Bytes) × (b ≡ x) × (w ≡ y ∷ r)
two_bytes x y b w some h = by w (both (b == x) (first w == y) h)
  where
    by : (v : Bytes) → IsTrue (b == x) × IsTrue (first v == y) → (r : Bytes) × (b ≡ x) × (v ≡ y ∷ r)
    by [] s = clash s.1 some
    by (c ∷ r) s = (r, (Decides-eqb b x).0 s.0, ap (λ z. z ∷ r) ((Decides-eqb c y).0 s.1))

line_feed_is_blank : (b : ℕ) → IsTrue (is_line_feed b) → IsTrue (is_blank b)
line_feed_is_blank b h = subst (λ x. IsTrue (is_blank x)) (sym ((Decides-eqb b 10).0 h)) refl

nothing_in_front : (x w v : Bytes) (y : ℕ) (r : Bytes) → w ++ v ≡ [] → w ++ v ≡ y ∷ r → ⊥
nothing_in_front x w v y r e f = let z : [] ≡ y ∷ r = sym e ∙ f in cc

-- `outside w rest` says that w is passed over outside comments, where blanks and whole comments are.
module _ (outside : Bytes → Bytes → Type 0)
    (blank : (b : ℕ) (w rest : Bytes) → IsTrue (is_blank b) → outside w rest → outside (b ∷ w) rest)
    (comment : (c w rest : Bytes) → IsComment c (w ++ rest) → outside w rest → outside (c ++ w) rest) where
  -- so many comments end first
  abbrev pub Deep : ℕ → Bytes → Bytes → Type 0
  Deep zero w rest = outside w rest
  Deep (suc n) w rest = (u v : Bytes) × (w ≡ u ++ v) × EndsComment u × Deep n v rest

  abbrev pub Leads : Mode → Bytes → Bytes → Type 0
  Leads (Depth n) w rest = Deep n w rest
  Leads Line w rest = (u v : Bytes) × (w ≡ u ++ v) × IsTrue (list_all is_inline u) × IsLineEnd (v ++ rest) × outside v rest
  Leads (Second n) w rest = (w ++ rest ≡ []) ⊎ ((b : ℕ) × (v : Bytes) × (w ≡ b ∷ v) × Deep n v rest)

  -- the second byte of a mark, and what it leads to
  second : (n y : ℕ) (w rest r : Bytes) → w ++ rest ≡ y ∷ r → Leads (Second n) w rest → (v : Bytes) × (w ≡ y ∷ v) × Deep n v rest
  second n y w rest r e (inl none) = absurd (nothing_in_front [] w rest y r none e)
  second n y w rest r e (inr (b, v, f, d)) =
      let same : b ∷ (v ++ rest) ≡ y ∷ r = sym (ap (λ x. x ++ rest) f) ∙ e in
      let byte : b ≡ y = cc in
      (v, f ∙ ap (λ x. x ∷ v) byte, d)

  line_step : (b : ℕ) (to : Mode) (w rest : Bytes) → turn Line b (first (w ++ rest)) ≡ Some to → Leads to w rest → Leads Line (b ∷ w) rest
  line_step b to w rest h leads = by (is_line_feed b) refl h
    where
      by : (c : Bool) → is_line_feed b ≡ c → (if c then Some (Depth 0) else Some Line) ≡ Some to → Leads Line (b ∷ w) rest
      by true e g =
          let same : to ≡ Depth 0 = cc in
          ([], b ∷ w, refl, refl, e, blank b w rest (line_feed_is_blank b e) (subst (λ m. Leads m w rest) same leads))
      by false e g =
          let same : to ≡ Line = cc in
          let l : Leads Line w rest = subst (λ m. Leads m w rest) same leads in
          (b ∷ l.0, l.1, ap (λ x. b ∷ x) l.2, subst (λ c. IsTrue (not c && list_all is_inline l.0)) (sym e) l.3, l.4, l.5)

  deep_step : (n b : ℕ) (to : Mode) (w rest : Bytes) → turn (Depth (suc n)) b (first (w ++ rest)) ≡ Some to → Leads to w rest → Leads (Depth (suc n)) (b ∷ w) rest
  deep_step n b to w rest h leads = by (opens b (first (w ++ rest))) (closes b (first (w ++ rest))) refl refl h
    where
      by : (c d : Bool) → opens b (first (w ++ rest)) ≡ c → closes b (first (w ++ rest)) ≡ d → (if c then Some (Second (n + 2)) else if d then Some (Second n) else Some (Depth (n + 1))) ≡ Some to → Leads (Depth (suc n)) (b ∷ w) rest
      by true d e f g =
          let deeper : n + 2 ≡ suc (suc n) = omega arith in
          let same : to ≡ Second (n + 2) = cc in
          let l : Leads (Second (suc (suc n))) w rest = subst (λ k. Leads (Second k) w rest) deeper (subst (λ m. Leads m w rest) same leads) in
          let two = two_bytes 40 42 b (w ++ rest) refl e in
          let s = second (suc (suc n)) 42 w rest two.0 two.2 l in
          let u = s.2.0 in
          let v = s.2.1 in
          let inner = s.2.4 in
          let bytes : b ∷ w ≡ 40 ∷ 42 ∷ (u ++ inner.0 ++ inner.1) = ap (λ x. x ∷ w) two.1 ∙ ap (λ x. 40 ∷ x) s.1 ∙ ap (λ x. 40 ∷ 42 ∷ x) (s.2.2 ∙ ap (λ x. u ++ x) inner.2 ∙ sym (append_assoc u inner.0 inner.1)) in
          (40 ∷ 42 ∷ (u ++ inner.0), inner.1, bytes, nested u inner.0 s.2.3 inner.3, inner.4)
      by false true e f g =
          let same : to ≡ Second n = cc in
          let two = two_bytes 42 41 b (w ++ rest) refl f in
          let s = second n 41 w rest two.0 two.2 (subst (λ m. Leads m w rest) same leads) in
          (42 ∷ 41 ∷ [], s.0, ap (λ x. x ∷ w) two.1 ∙ ap (λ x. 42 ∷ x) s.1, closed, s.2)
      by false false e f g =
          let one : n + 1 ≡ suc n = omega arith in
          let same : to ≡ Depth (n + 1) = cc in
          let l : Deep (suc n) w rest = subst (λ k. Deep k w rest) one (subst (λ m. Leads m w rest) same leads) in
          let next : first (w ++ rest) ≡ first l.0 = ap (λ x. first (x ++ rest)) l.2 ∙ ap first (append_assoc l.0 l.1 rest) ∙ first_kept l.0 (l.1 ++ rest) l.3 in
          (b ∷ l.0, l.1, ap (λ x. b ∷ x) l.2, other b l.0 (ap (opens b) (sym next) ∙ e) (ap (closes b) (sym next) ∙ f) l.3, l.4)

  outside_step : (b : ℕ) (to : Mode) (w rest : Bytes) → turn (Depth 0) b (first (w ++ rest)) ≡ Some to → Leads to w rest → outside (b ∷ w) rest
  outside_step b to w rest h leads = by (is_blank b) (opens_line b (first (w ++ rest))) (opens b (first (w ++ rest))) refl refl refl h
    where
      no_line_end : (u v : Bytes) (r : Bytes) → w ≡ u ++ v → w ++ rest ≡ 42 ∷ r → IsTrue (list_all is_inline u) → IsLineEnd (v ++ rest) → outside v rest → (x : Bytes) × (w ≡ 42 ∷ (x ++ v)) × IsTrue (list_all is_inline x)
      no_line_end [] v r e f all end o = clash (subst IsLineEnd (ap (λ x. x ++ rest) (sym e) ∙ f) end) refl
      no_line_end (c ∷ u) v r e f all end o =
          let same : c ∷ (u ++ v ++ rest) ≡ 42 ∷ r = ap (λ x. x ++ rest) (sym e) ∙ f in
          let byte : c ≡ 42 = cc in
          (u, e ∙ ap (λ x. x ∷ (u ++ v)) byte, (both (is_inline c) (list_all is_inline u) all).1)

      by : (c d o : Bool) → is_blank b ≡ c → opens_line b (first (w ++ rest)) ≡ d → opens b (first (w ++ rest)) ≡ o
          → (if c then Some (Depth 0) else if d then Some Line else if o then Some (Second 1) else None) ≡ Some to → outside (b ∷ w) rest
      by true d o e f k g = let same : to ≡ Depth 0 = cc in blank b w rest e (subst (λ m. Leads m w rest) same leads)
      by false true o e f k g =
          let same : to ≡ Line = cc in
          let l : Leads Line w rest = subst (λ m. Leads m w rest) same leads in
          let two = two_bytes 92 42 b (w ++ rest) refl f in
          let x = no_line_end l.0 l.1 two.0 l.2 two.2 l.3 l.4 l.5 in
          let bytes : 92 ∷ 42 ∷ (x.0 ++ l.1) ≡ b ∷ w = sym (ap (λ z. z ∷ w) two.1 ∙ ap (λ z. 92 ∷ z) x.1) in
          subst (λ z. outside z rest) bytes (comment (92 ∷ 42 ∷ x.0) l.1 rest (line x.0 (l.1 ++ rest) x.2 l.4) l.5)
      by false false true e f k g =
          let same : to ≡ Second 1 = cc in
          let two = two_bytes 40 42 b (w ++ rest) refl k in
          let s = second 1 42 w rest two.0 two.2 (subst (λ m. Leads m w rest) same leads) in
          let u = s.2.0 in
          let v = s.2.1 in
          let bytes : 40 ∷ 42 ∷ (u ++ v) ≡ b ∷ w = sym (ap (λ z. z ∷ w) two.1 ∙ ap (λ z. 40 ∷ z) (s.1 ∙ ap (λ z. 42 ∷ z) s.2.2)) in
          subst (λ z. outside z rest) bytes (comment (40 ∷ 42 ∷ u) v rest (block u (v ++ rest) s.2.3) s.2.4)
      by false false false e f k g = absurd (let z : ⊥ = cc in z)

  -- one byte more
  pub leads_step : (mode to : Mode) (b : ℕ) (w rest : Bytes) → turn mode b (first (w ++ rest)) ≡ Some to → Leads to w rest → Leads mode (b ∷ w) rest
  leads_step Line to b w rest h leads = line_step b to w rest h leads
  leads_step (Depth zero) to b w rest h leads = outside_step b to w rest h leads
  leads_step (Depth (suc n)) to b w rest h leads = deep_step n b to w rest h leads
  leads_step (Second n) to b w rest h leads = let same : to ≡ Depth n = cc in inr (b, w, refl, subst (λ m. Leads m w rest) same leads)
