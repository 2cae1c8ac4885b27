-- The formula that SPECIFICATION names, as the code finds it.
use Rattle.std.proofs.Common.{◌≡◌, ◌≤◌, ◌<◌, ℕ, refl, ap, sym, ◌∙◌, subst, length, get_or, arith, inl, inr, Bool, true, false, ◌||◌, Option, List, [], ◌∷◌, Some, None}
use Rattle.std.specs.Borrow.{Bor}
use Rattle.tla_tree.specs.declared.tree.Expr as s
use Rattle.tla_tree.specs.declared.word.Written.{Written}
use Rattle.tla_tree.specs.declared.tree.Bullet.TheVariants as bullet
use Rattle.tla_tree.specs.Places.{place}
use Rattle.tla_tree.specs.Tree.{Tree, Junction, trees}
use Rattle.tla_tree.specs.Units.{UnitTree}
use Rattle.tla_config.specs.Names.{Name}
use Rattle.tla_config.specs.Statements.{Item}
use Rattle.tla_scopes.specs.Meanings.{Scope}
use Rattle.tla_defs.specs.Private.Seen.{tree_at, seen}
use Rattle.tla_defs.specs.Bodies.{Bodies, body_of}
use Rattle.tla_defs.specs.Subscripts.{IsCover}
use Rattle.tla_defs.specs.Specification.{Step, IsSpecification, is_conjunction, replaced, replaced_by, conjuncts, conjunction_of, initials_of, steps_of}
use Rattle.tla_lex.specs.declared.token.Place.{Place}
use Rattle.tla_config.specs.declared.error.DefsCode.{DefsCode}
use Rattle.tla_config.specs.declared.error.DefsCode.TheVariants as c
use Rattle.tla_config.specs.declared.error.DefsError.{DefsError}
use Rattle.tla_config.specs.declared.error.Source.TheVariants as source
use Rattle.tla_names.specs.Refusal.{refusal_at}
use Rattle.tla_defs.specs.Refused.{NoForm, HasTooMany}
use Rattle.tla_defs.specs.Private.Specified.{LacksState, MayBeLast}
use Rattle.tla_defs.specs.Private.Conjuncts.{AreMadeOfFairness, initials_by}
use Rattle.tla_defs.specs.Fairness.{fair_in, fair_of}
use Rattle.tla_defs.specs.Temporal.{temporal_of}
use Rattle.tla_defs.specs.Private.Parts.{IsOfMany}
use Rattle.tla_defs.proofs.Fairs.{made_of_fairness}
use Rattle.tla_defs.proofs.States.{lacks_state}
use Rattle.tla_defs.proofs.Unique.{same_some}

pub one_item : {A : Type 0} (xs : List A) (x : A) → length xs ≡ 1 → x ≡ get_or xs 0 x → xs ≡ x ∷ []
one_item [] x n e = absurd (omega (arith, n))
one_item (y ∷ []) x n e = ap (λ z. z ∷ []) (sym e)
one_item (y ∷ z ∷ xs) x n e = absurd (omega (arith, n))

pub none_seen : (ts : List (Bor s.Expr)) → length ts ≡ 0 → seen ts ≡ []
none_seen [] n = refl
none_seen (t ∷ ts) n = absurd (omega (arith, n))

pub some_seen : (ts : List (Bor s.Expr)) → (length ts ≡ 0 → ⊥) → (i : Tree) × (conjunction_of (seen ts) ≡ Some i)
some_seen [] n = absurd (n refl)
some_seen (t ∷ []) n = (tree_at t, refl)
some_seen (t ∷ u ∷ ts) n = (_, refl)

pub has_items : (ts : List (Bor s.Expr)) (i : Tree) → conjunction_of (seen ts) ≡ Some i → 0 < length ts
has_items [] i p = let z : ⊥ = cc in absurd z
has_items (t ∷ ts) i p = omega arith

-- the conjunction of the one conjunct, and of several
pub of_one_item : (ts : List (Bor s.Expr)) (t : Bor s.Expr) (i : Tree) → length ts ≡ 1 → t ≡ get_or ts 0 t → conjunction_of (seen ts) ≡ Some i → tree_at t ≡ i
of_one_item ts t i n e p = same_some (conjunction_of (seen ts)) (tree_at t) i (ap (λ us. conjunction_of (seen us)) (one_item ts t n e)) p

pub of_items : (ts : List (Bor s.Expr)) (t : Bor s.Expr) (i : Tree) → (length ts ≡ 1 → ⊥) → t ≡ get_or ts 0 t → conjunction_of (seen ts) ≡ Some i → Junction (place (tree_at t)) bullet.And (trees (seen ts)) ≡ i
of_items [] t i m e p = let z : ⊥ = cc in absurd z
of_items (u ∷ []) t i m e p = absurd (m refl)
of_items (u ∷ v ∷ ts) t i m e p = same_some (conjunction_of (seen (u ∷ v ∷ ts))) _ i (ap (λ (x : Bor s.Expr). Some (Junction (place (tree_at x)) bullet.And (trees (seen (u ∷ v ∷ ts))))) (sym e)) p

body_replaced : (τ : Name → Bool) (b : Bodies) (x : Name) (e : Tree) → replaced_by τ b x ≡ Some e → b x ≡ Some e
body_replaced τ b x e h = at (b x) refl
  where
    at : (o : Option Tree) → b x ≡ o → b x ≡ Some e
    at None q = let none : replaced_by τ b x ≡ None = rw q refl in let z : Some e ≡ None = sym h ∙ none in let y : ⊥ = cc in absurd y
    at (Some d) q = kept (is_conjunction d || τ x) refl
      where
        kept : (k : Bool) → (is_conjunction d || τ x) ≡ k → b x ≡ Some e
        kept true m = let it : replaced_by τ b x ≡ Some d = rw (q, m) refl in q ∙ sym it ∙ h
        kept false m = let none : replaced_by τ b x ≡ None = rw (q, m) refl in let z : Some e ≡ None = sym h ∙ none in let y : ⊥ = cc in absurd y

-- what is known of fairness, where all that is fairness is known
module _ (φ : Name → Bool) (c : Bodies) (k : ℕ) (fair : φ ≡ fair_of k c) where
  pub made_known : (τ : Name → Bool) (b : Bodies) → b ≡ c → AreMadeOfFairness φ (replaced_by τ b)
  made_known τ b known x e h q =
      subst (λ (ψ : Name → Bool). fair_in ψ [] e ≡ true) (sym fair)
      (made_of_fairness c k x e (subst (λ (ψ : Name → Bool). ψ x ≡ true) fair h) (ap (λ (d : Bodies). d x) (sym known) ∙ body_replaced τ b x e q))

  pub initials_known : (n : ℕ) → k ≡ n → (es : List Tree) → initials_by φ es ≡ initials_of n c es
  initials_known n counted es = ap (λ (ψ : Name → Bool). initials_by ψ es) fair ∙ ap (λ m. initials_of m c es) counted

-- the bodies that names are replaced by
pub replaced_known : (us : List UnitTree) (is : List Item) (τ : Name → Bool) (b : Bodies) (k : ℕ) → b ≡ body_of us is → τ ≡ temporal_of k (body_of us is) → k ≡ length us → replaced_by τ b ≡ replaced us is
replaced_known us is τ b k bodies temporal counted =
    ap (λ (d : Bodies). replaced_by τ d) bodies ∙ ap (λ (ψ : Name → Bool). replaced_by ψ (body_of us is)) (temporal ∙ ap (λ m. temporal_of m (body_of us is)) counted)

pub is_told : {k : DefsCode} → k ≡ c.SpecificationForm → k ≡ c.Memory → ⊥
is_told p q = cc

module _ (us : List UnitTree) (is : List Item) (σ : Scope) (n : ℕ) (w : Written) where
  pub no_body : body_of us is w.word ≡ None → NoForm us is σ n w
  no_body p i a h = let q = h.is_body in let z : ⊥ = cc in absurd z

  module _ (t : Tree) (r : Bodies) (k : ℕ) (known : r ≡ replaced us is) (counted : k ≡ length us) (body : body_of us is w.word ≡ Some t) (steps : List Step) (initial : List Tree)
      (steps_are : steps ≡ steps_of (conjuncts k r t)) (initial_are : initial ≡ initials_of (length us) (body_of us is) (conjuncts k r t)) where
    found_conjuncts : conjuncts k r t ≡ conjuncts (length us) (replaced us is) t
    found_conjuncts = ap (λ (c : Bodies). conjuncts k c t) known ∙ ap (λ m. conjuncts m (replaced us is) t) counted

    are_steps : steps ≡ steps_of (conjuncts (length us) (replaced us is) t)
    are_steps = steps_are ∙ ap (λ es. steps_of es) found_conjuncts

    are_initial : initial ≡ initials_of (length us) (body_of us is) (conjuncts (length us) (replaced us is) t)
    are_initial = initial_are ∙ ap (λ es. initials_of (length us) (body_of us is) es) found_conjuncts

    same_body : (i a : Tree) (h : IsSpecification us is σ n w i a) → h.body ≡ t
    same_body i a h = same_some (body_of us is w.word) h.body t h.is_body body

    its_steps : (i a : Tree) (h : IsSpecification us is σ n w i a) → steps ≡ (a, h.subscript) ∷ []
    its_steps i a h = are_steps ∙ ap (λ e. steps_of (conjuncts (length us) (replaced us is) e)) (sym (same_body i a h)) ∙ h.one_step

    its_initial : (i a : Tree) (h : IsSpecification us is σ n w i a) → conjunction_of initial ≡ Some i
    its_initial i a h = ap (λ es. conjunction_of es) (are_initial ∙ ap (λ e. initials_of (length us) (body_of us is) (conjuncts (length us) (replaced us is) e)) (sym (same_body i a h))) ∙ h.is_initial

    pub not_one : (length steps ≡ 1 → ⊥) → NoForm us is σ n w
    not_one p i a h = absurd (p (ap (λ es. length es) (its_steps i a h)))

    pub no_conjunct : initial ≡ [] → NoForm us is σ n w
    no_conjunct p i a h =
        let q = its_initial i a h in
        let r = ap (λ es. conjunction_of es) p in
        let z : ⊥ = cc in
        absurd z

    pub not_covered : (s : Step) → steps ≡ s ∷ [] → (IsCover σ n s.1 → ⊥) → NoForm us is σ n w
    not_covered s p none i a h =
        let q = its_steps i a h in
        let same : s ≡ (a, h.subscript) = cc in
        absurd (none (subst (λ (v : Tree). IsCover σ n v) (sym (ap (λ (u : Step). u.1) same)) h.covered))

    two_steps : 2 ≤ length steps → NoForm us is σ n w
    two_steps m i a h = let one = ap (λ es. length es) (its_steps i a h) in absurd (omega (arith, m, one))

    too_many : 200001 ≤ length initial → HasTooMany us is w
    too_many m = record {
      body = t;
      is_body = body;
      many = subst (λ es. 200001 ≤ length es) are_initial m;
    }

    pub no_form : (p : Place) (e : DefsError) → IsOfMany p steps initial e → e.code ≡ c.SpecificationForm → NoForm us is σ n w
    no_form p e (inl (q, m)) h = two_steps m
    no_form p e (inr (l, m)) h = let large = l.code in let z : ⊥ = cc in absurd z

    pub of_many : (p : Place) (e : DefsError) → IsOfMany p steps initial e → MayBeLast (Some (refusal_at c.SpecificationForm source.Configuration p)) (HasTooMany us is w) e
    of_many p e (inl (q, m)) = inl (ap (λ x. Some x) q)
    of_many p e (inr (l, m)) = inr (l, too_many m)

    pub lacking : LacksState σ initial → NoForm us is σ n w
    lacking l i a h = lacks_state σ initial i (its_initial i a h) l

    pub found : (s : Step) (i : Tree) → steps ≡ s ∷ [] → IsCover σ n s.1 → conjunction_of initial ≡ Some i → IsSpecification us is σ n w i s.0
    found s i p cover q = record {
      body = t;
      is_body = body;
      subscript = s.1;
      one_step = sym are_steps ∙ p;
      covered = cover;
      is_initial = ap (λ es. conjunction_of es) (sym are_initial) ∙ q;
    }
