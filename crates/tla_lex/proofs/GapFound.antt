-- The loop over blanks and comments finds them.
use Rattle.std.proofs.Common.{◌≡◌, ◌≤◌, ◌+◌, ◌⊎◌, inl, inr, ℕ, zero, suc, Bool, true, false, ◌||◌, if◌then◌else◌, Option, Some, None, [], ◌∷◌, ◌++◌, take, drop, length, length-append, length-take, take-append-drop, append_assoc, refl, sym, ap, ◌∙◌, subst, arith}
use Rattle.std.specs.Prelude.{IsTrue}
use Rattle.std.proofs.lemmas.Bool.Decides.{Decides-eqb, nat_tests}
use Rattle.std.proofs.lemmas.List.{take_at, drop_at}
use Rattle.tla_lex.specs.Bytes.{Bytes, first, is_blank, is_line_feed}
use Rattle.tla_lex.specs.Comments.{opens_line, opens, EndsComment, IsLineEnd, IsComment, line, block, IsGap, nothing, blank, comment, begins_gap, IsLeadingGap, IsOpenComment}
use Rattle.tla_lex.specs.Gap.{turn, skip, gap, is_open, is_outside, on_turn}
use Rattle.tla_lex.specs.ScannerLaws.{GapIsFound}
use Rattle.tla_lex.specs.declared.gap.Gap.{Gap}
use Rattle.tla_lex.specs.declared.gap.Gap.TheVariants.{End, Open}
use Rattle.tla_lex.specs.declared.gap.Mode.{Mode}
use Rattle.tla_lex.specs.declared.gap.Mode.TheVariants.{Line, Depth, Second}
use Rattle.tla_lex.proofs.CommentLeads as leads
use Rattle.tla_lex.proofs.CommentRuns as runs
use Rattle.tla_lex.proofs.GapInCode.{outside}
use Rattle.tla_lex.proofs.Runs.{clash}

abbrev Leads : Mode → Bytes → Bytes → Type 0
Leads mode w rest = leads.Leads IsGap blank comment mode w rest

-- what a run from a mode on has passed over
abbrev Went : Mode → ℕ → ℕ → Bytes → Gap → Type 0
Went mode opening at text (End e) = (w rest : Bytes) × (text ≡ w ++ rest) × (at + length w ≡ e) × Leads mode w rest × (begins_gap rest ≡ false)
Went mode opening at text (Open e) =
    ((e ≡ opening) × IsTrue (is_open mode)) ⊎ ((w rest behind : Bytes) × (text ≡ w ++ rest) × (at + length w ≡ e) × Leads mode w rest × (rest ≡ 40 ∷ 42 ∷ behind))

some_deep : (n : ℕ) → IsTrue (is_open (Depth (suc n)))
some_deep n = grind (arith, nat_tests)

nothing_leads : (mode : Mode) → is_open mode ≡ false → Leads mode [] []
nothing_leads Line h = ([], [], refl, refl, tt, nothing [])
nothing_leads (Depth zero) h = nothing []
nothing_leads (Depth (suc n)) h = clash (some_deep n) h
nothing_leads (Second n) h = inl refl

-- where no gap goes on, none begins
no_gap : (b next : ℕ) (rest : Bytes) → turn (Depth 0) b (first rest) ≡ None → begins_gap (b ∷ rest) ≡ false
no_gap b next rest h = by (is_blank b) (opens_line b (first rest)) (opens b (first rest)) h
  where
    by : (c d o : Bool) → (if c then Some (Depth 0) else if d then Some Line else if o then Some (Second 1) else None) ≡ None → (c || d || o) ≡ false
    by true d o g = absurd (let z : ⊥ = cc in z)
    by false true o g = absurd (let z : ⊥ = cc in z)
    by false false true g = absurd (let z : ⊥ = cc in z)
    by false false false g = refl

module _ (opening at b e : ℕ) (to : Mode) (rest : Bytes) where
  -- a comment that stays open from here on
  opened : (mode : Mode) → turn mode b (first rest) ≡ Some to → e ≡ (if is_outside mode then at else opening) → IsTrue (is_open to) → Went mode opening at (b ∷ rest) (Open e)
  opened Line h same stays = by (is_line_feed b) h
    where
      by : (c : Bool) → (if c then Some (Depth 0) else Some Line) ≡ Some to → Went Line opening at (b ∷ rest) (Open e)
      by true g = let m : to ≡ Depth 0 = cc in clash (subst (λ x. IsTrue (is_open x)) m stays) refl
      by false g = let m : to ≡ Line = cc in clash (subst (λ x. IsTrue (is_open x)) m stays) refl
  opened (Second n) h same stays = let m : to ≡ Depth n = cc in inl (same, subst (λ x. IsTrue (is_open x)) m stays)
  opened (Depth (suc n)) h same stays = inl (same, some_deep n)
  opened (Depth zero) h same stays = by (is_blank b) (opens_line b (first rest)) (opens b (first rest)) refl h
    where
      by : (c d o : Bool) → opens b (first rest) ≡ o → (if c then Some (Depth 0) else if d then Some Line else if o then Some (Second 1) else None) ≡ Some to → Went (Depth 0) opening at (b ∷ rest) (Open e)
      by true d o f g = let m : to ≡ Depth 0 = cc in clash (subst (λ x. IsTrue (is_open x)) m stays) refl
      by false true o f g = let m : to ≡ Line = cc in clash (subst (λ x. IsTrue (is_open x)) m stays) refl
      by false false false f g = absurd (let z : ⊥ = cc in z)
      by false false true f g =
          let two = leads.two_bytes 40 42 b rest refl f in
          inr ([], b ∷ rest, two.0, refl, omega (arith, same), nothing (b ∷ rest), ap (λ x. x ∷ rest) two.1 ∙ ap (λ x. 40 ∷ x) two.2)

went_step : (mode to : Mode) (opening at b : ℕ) (rest : Bytes) (g : Gap) → turn mode b (first rest) ≡ Some to → Went to (if is_outside mode then at else opening) (at + 1) rest g → Went mode opening at (b ∷ rest) g
went_step mode to opening at b rest (End e) h (w, v, whole, size, l, stop) =
    let t : turn mode b (first (w ++ v)) ≡ Some to = subst (λ x. turn mode b (first x) ≡ Some to) whole h in
    (b ∷ w, v, ap (λ x. b ∷ x) whole, omega (arith, size), leads.leads_step IsGap blank comment mode to b w v t l, stop)
went_step mode to opening at b rest (Open e) h (inl (same, stays)) = opened opening at b e to rest mode h same stays
went_step mode to opening at b rest (Open e) h (inr (w, v, y, whole, size, l, stop)) =
    let t : turn mode b (first (w ++ v)) ≡ Some to = subst (λ x. turn mode b (first x) ≡ Some to) whole h in
    inr (b ∷ w, v, y, ap (λ x. b ∷ x) whole, omega (arith, size), leads.leads_step IsGap blank comment mode to b w v t l, stop)

went : (mode : Mode) (opening at : ℕ) (text : Bytes) → Went mode opening at text (skip mode opening at text)
unfolding skip
went mode opening at [] = by (is_open mode) refl
  where
    by : (c : Bool) → is_open mode ≡ c → Went mode opening at [] (if c then Open opening else End at)
    by true e = inl (refl, e)
    by false e = ([], [], refl, omega arith, nothing_leads mode e, refl)
went mode opening at (b ∷ rest) = by (λ to. went to (if is_outside mode then at else opening) (at + 1) rest) (turn mode b (first rest)) refl
  where
    by : ((to : Mode) → Went to (if is_outside mode then at else opening) (at + 1) rest (skip to (if is_outside mode then at else opening) (at + 1) rest))
        → (o : Option Mode) → turn mode b (first rest) ≡ o → Went mode opening at (b ∷ rest) (on_turn o (End at) (λ to. skip to (if is_outside mode then at else opening) (at + 1) rest))
    by later None f =
        let none : mode ≡ Depth 0 = outside mode b (first rest) f in
        ([], b ∷ rest, refl, omega arith, subst (λ m. Leads m [] (b ∷ rest)) (sym none) (nothing (b ∷ rest)), no_gap b (first rest) rest (subst (λ m. turn m b (first rest) ≡ None) none f))
    by later (Some to) f = went_step mode to opening at b rest (skip to (if is_outside mode then at else opening) (at + 1) rest) f (later to)

-- ---- where the loop ends up after a gap
skip_step : (opening : ℕ) (mode to : Mode) (at b : ℕ) (rest : Bytes) → is_outside mode ≡ false → turn mode b (first rest) ≡ Some to → skip mode opening at (b ∷ rest) ≡ skip to opening (at + 1) rest
unfolding skip
skip_step opening mode to at b rest inside h =
    ap (λ o. on_turn o (End at) (λ next. skip next (if is_outside mode then at else opening) (at + 1) rest)) h ∙ ap (λ c. skip to (if c then at else opening) (at + 1) rest) inside

begin_line : (at : ℕ) (rest : Bytes) → skip (Depth 0) 0 at (92 ∷ 42 ∷ rest) ≡ skip Line at (at + 1) (42 ∷ rest)
unfolding skip
begin_line at rest = refl

begin_block : (at : ℕ) (rest : Bytes) → skip (Depth 0) 0 at (40 ∷ 42 ∷ rest) ≡ skip (Second 1) at (at + 1) (42 ∷ rest)
unfolding skip
begin_block at rest = refl

-- outside comments it doesn't matter where the last one opened
end_block : (opening at : ℕ) (rest : Bytes) → skip (Depth 0) opening at rest ≡ skip (Depth 0) 0 at rest
unfolding skip
end_block opening at [] = refl
end_block opening at (b ∷ rest) = refl

blank_step : (at b : ℕ) (rest : Bytes) → IsTrue (is_blank b) → skip (Depth 0) 0 at (b ∷ rest) ≡ skip (Depth 0) 0 (at + 1) rest
unfolding skip
blank_step at b rest h =
    ap (λ c. on_turn (if c then Some (Depth 0) else if opens_line b (first rest) then Some Line else if opens b (first rest) then Some (Second 1) else None) (End at) (λ next. skip next at (at + 1) rest)) h ∙ end_block at (at + 1) rest

line_feed_step : (opening at : ℕ) (rest : Bytes) → skip Line opening at (10 ∷ rest) ≡ skip (Depth 0) 0 (at + 1) rest
unfolding skip
line_feed_step opening at rest = end_block opening (at + 1) rest

line_stops : (opening at : ℕ) → skip Line opening at [] ≡ skip (Depth 0) 0 at []
unfolding skip
line_stops opening at = refl

end_line : (opening at : ℕ) (rest : Bytes) → IsLineEnd rest → skip Line opening at rest ≡ skip (Depth 0) 0 at rest
end_line opening at [] h = line_stops opening at
end_line opening at (b ∷ rest) h =
    let feed : b ≡ 10 = (Decides-eqb b 10).0 h in
    ap (λ x. skip Line opening at (x ∷ rest)) feed ∙ line_feed_step opening at rest ∙ sym (blank_step at 10 rest refl) ∙ ap (λ x. skip (Depth 0) 0 at (x ∷ rest)) (sym feed)

comment_run : (c rest : Bytes) → IsComment c rest → (at : ℕ) → skip (Depth 0) 0 at (c ++ rest) ≡ skip (Depth 0) 0 (at + length c) rest
comment_run c rest h at = runs.comment_run (λ opening mode here bs. skip mode opening here bs) skip_step (λ here bs. skip (Depth 0) 0 here bs) begin_line begin_block end_line end_block c rest h at

gap_runs : (w rest : Bytes) → IsGap w rest → (at : ℕ) → skip (Depth 0) 0 at (w ++ rest) ≡ skip (Depth 0) 0 (at + length w) rest
gap_runs w rest (nothing r) at = let same : at ≡ at + 0 = omega arith in ap (λ n. skip (Depth 0) 0 n rest) same
gap_runs w rest (blank b v r h g) at =
    let size : at + 1 + length v ≡ at + suc (length v) = omega arith in
    blank_step at b (v ++ rest) h ∙ gap_runs v rest g (at + 1) ∙ ap (λ n. skip (Depth 0) 0 n rest) size
gap_runs w rest (comment c v r h g) at =
    let sizes : length (c ++ v) ≡ length c + length v = length-append c v in
    let size : at + length c + length v ≡ at + length (c ++ v) = omega (arith, sizes) in
    ap (λ x. skip (Depth 0) 0 at x) (append_assoc c v rest) ∙ comment_run c (v ++ rest) h at ∙ gap_runs v rest g (at + length c) ∙ ap (λ n. skip (Depth 0) 0 n rest) size

-- a gap that ends
stops : (at : ℕ) (text : Bytes) → begins_gap text ≡ false → skip (Depth 0) 0 at text ≡ End at
unfolding skip
stops at [] h = refl
stops at (b ∷ rest) h = by (is_blank b) (opens_line b (first rest)) (opens b (first rest)) h
  where
    by : (c d o : Bool) → (c || d || o) ≡ false → on_turn (if c then Some (Depth 0) else if d then Some Line else if o then Some (Second 1) else None) (End at) (λ to. skip to at (at + 1) rest) ≡ End at
    by true d o g = clash refl g
    by false true o g = clash refl g
    by false false true g = clash refl g
    by false false false g = refl

-- a comment that stays open stands no earlier
open_after : (at e : ℕ) (text : Bytes) → skip (Depth 0) 0 at text ≡ Open e → at ≤ e
open_after at e text h = by (subst (λ g. Went (Depth 0) 0 at text g) h (went (Depth 0) 0 at text))
  where
    by : Went (Depth 0) 0 at text (Open e) → at ≤ e
    by (inl (same, stays)) = clash stays refl
    by (inr (w, rest, behind, whole, size, l, mark)) = omega (arith, size)

-- where `(*` stands, no gap goes on but a comment that ends
comment_at_mark : (c rest behind : Bytes) → IsComment c rest → c ++ rest ≡ 40 ∷ 42 ∷ behind → (w : Bytes) × (behind ≡ w ++ rest) × EndsComment w
comment_at_mark c rest behind (line w r all end) e = let byte = ap first e in absurd (omega (arith, byte))
comment_at_mark c rest behind (block w r h) e = (w, cc, h)

gap_at_mark : (w rest behind : Bytes) → IsGap w rest → w ++ rest ≡ 40 ∷ 42 ∷ behind → (w ≡ []) ⊎ ((u r : Bytes) × (behind ≡ u ++ r) × EndsComment u)
gap_at_mark w rest behind (nothing r) e = inl refl
gap_at_mark w rest behind (blank b v r h g) e = let byte : b ≡ 40 = cc in clash (subst (λ x. IsTrue (is_blank x)) byte h) refl
gap_at_mark w rest behind (comment c v r h g) e = let u = comment_at_mark c (v ++ rest) behind h (sym (append_assoc c v rest) ∙ e) in inr (u.0, v ++ rest, u.1, u.2)

module _ (text : Bytes) (n : ℕ) where
  cut : (w rest : Bytes) → text ≡ w ++ rest → 0 + length w ≡ n → (n ≤ length text) × (take n text ≡ w) × (drop n text ≡ rest)
  cut w rest whole size =
      let len : length w ≡ n = omega (arith, size) in
      let all : length text ≡ length w + length rest = ap length whole ∙ length-append w rest in
      (omega (arith, all, len), ap (λ x. take n x) whole ∙ take_at w rest n len, ap (λ x. drop n x) whole ∙ drop_at w rest n len)

  behind_gap : n ≤ length text → IsGap (take n text) (drop n text) → gap text ≡ skip (Depth 0) 0 n (drop n text)
  behind_gap within g =
      let size : 0 + length (take n text) ≡ n = let l = length-take n text in omega (arith, l, within) in
      ap (λ x. skip (Depth 0) 0 0 x) (sym (take-append-drop n text)) ∙ gap_runs (take n text) (drop n text) g 0 ∙ ap (λ m. skip (Depth 0) 0 m (drop n text)) size

  cut_gap : (w rest : Bytes) → text ≡ w ++ rest → 0 + length w ≡ n → IsGap w rest → IsGap (take n text) (drop n text)
  cut_gap w rest whole size g =
      let c = cut w rest whole size in
      subst (λ x. IsGap x (drop n text)) (sym c.1) (subst (λ x. IsGap w x) (sym c.2) g)

  ends : gap text ≡ End n → IsLeadingGap text n
  ends h = by (subst (λ g. Went (Depth 0) 0 0 text g) h (went (Depth 0) 0 0 text))
    where
      by : Went (Depth 0) 0 0 text (End n) → IsLeadingGap text n
      by (w, rest, whole, size, g, stop) =
          let c = cut w rest whole size in
          record { within = c.0; gap = cut_gap w rest whole size g; longest = ap begins_gap c.2 ∙ stop }

  stays_open : gap text ≡ Open n → IsOpenComment text n
  stays_open h = by (subst (λ g. Went (Depth 0) 0 0 text g) h (went (Depth 0) 0 0 text))
    where
      by : Went (Depth 0) 0 0 text (Open n) → IsOpenComment text n
      by (inl (same, stays)) = clash stays refl
      by (inr (w, rest, behind, whole, size, g, mark)) =
          let c = cut w rest whole size in
          record { within = c.0; gap = cut_gap w rest whole size g; stays_open = (behind, c.2 ∙ mark, none) }
        where
          none : (u r : Bytes) → behind ≡ u ++ r → EndsComment u → ⊥
          none u r e k =
              let front : drop n text ≡ (40 ∷ 42 ∷ u) ++ r = (cut w rest whole size).2 ∙ mark ∙ ap (λ x. 40 ∷ 42 ∷ x) e in
              let on : gap text ≡ skip (Depth 0) 0 (n + suc (suc (length u))) r =
              behind_gap (cut w rest whole size).0 (cut_gap w rest whole size g) ∙ ap (λ x. skip (Depth 0) 0 n x) front ∙ comment_run (40 ∷ 42 ∷ u) r (block u r k) n in
              let late : n + suc (suc (length u)) ≤ n = open_after (n + suc (suc (length u))) n r (sym on ∙ h) in
              omega (arith, late)

  opens_here : IsOpenComment text n → gap text ≡ Open n
  opens_here h = behind_gap h.within h.gap ∙ by (skip (Depth 0) 0 n (drop n text)) (went (Depth 0) 0 n (drop n text))
    where
      inside : (w rest : Bytes) → drop n text ≡ w ++ rest → IsGap w rest → w ≡ []
      inside w rest whole g = elim (gap_at_mark w rest h.stays_open.0 g (sym whole ∙ h.stays_open.1)) [
        | inl none ↦ none
        | inr (u, r, e, k) ↦ absurd (h.stays_open.2 u r e k)
      ]

      by : (g : Gap) → Went (Depth 0) 0 n (drop n text) g → g ≡ Open n
      by (End e) (w, rest, whole, size, g, stop) =
          let none : w ≡ [] = inside w rest whole g in
          let front : rest ≡ 40 ∷ 42 ∷ h.stays_open.0 = ap (λ x. x ++ rest) (sym none) ∙ sym whole ∙ h.stays_open.1 in
          clash (subst (λ x. IsTrue (begins_gap x)) (sym front) refl) stop
      by (Open e) (inl (same, stays)) = clash stays refl
      by (Open e) (inr (w, rest, behind, whole, size, g, mark)) =
          let none : length w ≡ 0 = ap length (inside w rest whole g) in
          let here : e ≡ n = omega (arith, size, none) in
          ap Open here

pub gap_is_found : GapIsFound
gap_is_found text n = (
  (λ h. ends text n h, λ h. behind_gap text n h.within h.gap ∙ stops n (drop n text) h.longest),
  (λ h. stays_open text n h, λ h. opens_here text n h),
)
