-- Values that are evaluated in turn and collected: one more iteration of a loop, and its end.
use Rattle.std.proofs.Common.{◌≡◌, ℕ, Bool, true, false, cond, zip, List, [], ◌∷◌, ◌++◌, Ok, Err, ap, sym, refl, ◌∙◌, append_assoc}
use Rattle.tla_value.specs.Tree.{Tree, text}
use Rattle.tla_value.specs.Choices.{keys_of, parts_of}
use Rattle.tla_core.specs.Kinds.{make_fun}
use Rattle.tla_core.specs.Meaning.{Meaning, Bound, Present, Next, means-record_of}
use Rattle.tla_eval.specs.Private.Parts.{named_value, record_rule}
use Rattle.tla_core.specs.declared.fault.Place.{Place}
use Rattle.tla_core.specs.declared.fault.Fault.{Fault}
use Rattle.tla_core.specs.Fault.{Outcome, ◌>>=◌}
use Rattle.tla_core.specs.Lists.{each, passing}

module _ {A B : Type 0} (f : A → Outcome B) (kept : List B) (x : A) (xs : List A) where
  pub each_more : (y : B) → f x ≡ Ok y → (each f (x ∷ xs) >>= λ ys. Ok (kept ++ ys)) ≡ (each f xs >>= λ ys. Ok ((kept ++ y ∷ []) ++ ys))
  each_more y h = ap (λ (o : Outcome B). (o >>= λ z. each f xs >>= λ zs. Ok (z ∷ zs)) >>= λ ys. Ok (kept ++ ys)) h ∙ more (each f xs)
    where
      more : (o : Outcome (List B)) → ((o >>= λ zs. Ok (y ∷ zs)) >>= λ ys. Ok (kept ++ ys)) ≡ (o >>= λ ys. Ok ((kept ++ y ∷ []) ++ ys))
      more (Ok zs) = simp append_assoc
      more (Err e) = refl

  pub each_stop : (e : Fault) → f x ≡ Err e → (each f (x ∷ xs) >>= λ ys. Ok (kept ++ ys)) ≡ Err e
  each_stop e h = ap (λ (o : Outcome B). (o >>= λ z. each f xs >>= λ zs. Ok (z ∷ zs)) >>= λ ys. Ok (kept ++ ys)) h

module _ (test : Tree → Outcome Bool) (kept : List Tree) (x : Tree) (xs : List Tree) where
  pub passing_more : (b : Bool) → test x ≡ Ok b → (passing test (x ∷ xs) >>= λ ys. Ok (kept ++ ys)) ≡ (passing test xs >>= λ ys. Ok (cond b (kept ++ x ∷ []) kept ++ ys))
  passing_more b h = ap (λ (o : Outcome Bool). (o >>= λ holds. passing test xs >>= λ ys. Ok (cond holds (x ∷ ys) ys)) >>= λ ys. Ok (kept ++ ys)) h ∙ more b (passing test xs)
    where
      more : (c : Bool) (o : Outcome (List Tree)) → ((o >>= λ ys. Ok (cond c (x ∷ ys) ys)) >>= λ ys. Ok (kept ++ ys)) ≡ (o >>= λ ys. Ok (cond c (kept ++ x ∷ []) kept ++ ys))
      more true (Ok zs) = simp append_assoc
      more false (Ok zs) = refl
      more c (Err e) = refl

-- ---- fields
named_step : (o : Outcome Tree) (r : Outcome (List Tree)) (k : Tree) (ks : List Tree) → ((o >>= λ v. Ok (k, v)) >>= λ y. (r >>= λ vs. Ok (zip ks vs)) >>= λ ys. Ok (y ∷ ys)) ≡ ((o >>= λ v. r >>= λ vs. Ok (v ∷ vs)) >>= λ ws. Ok (zip (k ∷ ks) ws))
named_step (Ok v) (Ok vs) k ks = refl
named_step (Ok v) (Err e) k ks = refl
named_step (Err e) r k ks = refl

each_named : (fs : List (List ℕ × Meaning)) (b : Bound) (s : Present) (t : Next) → each (λ (f : List ℕ × Meaning). named_value f b s t) fs ≡ (each (λ (m : Meaning). m.value b s t) (parts_of fs) >>= λ vs. Ok (zip (keys_of fs) vs))
each_named [] b s t = refl
each_named (f ∷ fs) b s t =
    ap (λ (r : Outcome (List (Tree × Tree))). (f.1.value b s t >>= λ v. Ok (text f.0, v)) >>= λ y. r >>= λ ys. Ok (y ∷ ys)) (each_named fs b s t)
    ∙ named_step (f.1.value b s t) (each (λ (m : Meaning). m.value b s t) (parts_of fs)) (text f.0) (keys_of fs)

then_zip : (r : Outcome (List Tree)) (ks : List Tree) (k : List (Tree × Tree) → Outcome Tree) → (r >>= λ vs. k (zip ks vs)) ≡ ((r >>= λ vs. Ok (zip ks vs)) >>= k)
then_zip (Ok vs) ks k = refl
then_zip (Err e) ks k = refl

pub record_is : (p : Place) (fs : List (List ℕ × Meaning)) (b : Bound) (s : Present) (t : Next) → (means-record_of p fs).value b s t ≡ record_rule p fs b s t
record_is p fs b s t = then_zip (each (λ (m : Meaning). m.value b s t) (parts_of fs)) (keys_of fs) (make_fun p) ∙ ap (λ (o : Outcome (List (Tree × Tree))). o >>= make_fun p) (sym (each_named fs b s t))
