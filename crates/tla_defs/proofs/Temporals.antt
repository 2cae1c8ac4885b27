-- Temporal formulas, where more names are known to stand for them.
use Rattle.std.proofs.Common.{◌≡◌, refl, sym, Bool, true, false, true≢false, ◌||◌, [], ◌++◌}
use Rattle.std.proofs.lemmas.Bool.{and_parts, and_from}
use Rattle.tla_tree.specs.Tree.{Tree, Trees, none, more}
use Rattle.tla_tree.specs.Tree as t
use Rattle.tla_config.specs.Names.{Name}
use Rattle.tla_names.specs.Scope.{Scope, plain, bound_names}
use Rattle.tla_defs.specs.declared.table.Class.{Class}
use Rattle.tla_defs.specs.declared.table.Class.TheVariants as class
use Rattle.tla_defs.specs.Private.Table.{property}
use Rattle.tla_defs.specs.Temporal.{temporal, temporal_in, some_temporal, is_temporal, leads_to}
use Rattle.tla_defs.proofs.Fairs.{fairness_grows}
use Rattle.tla_defs.proofs.Properties.{Grows}

-- either of two, where each may only become true
either : (a b c d : Bool) → (a ≡ true → c ≡ true) → (b ≡ true → d ≡ true) → (a || b) ≡ true → (c || d) ≡ true
either true b true d f g h = refl
either true b false d f g h = absurd (true≢false (sym (f refl)))
either false b true d f g h = refl
either false b false d f g h = g h

module _ (φ ψ : Name → Bool) (grows : (x : Name) → φ x ≡ true → ψ x ≡ true) where
  mutual
    pub more_temporal : (σ : Scope) (e : Tree) → temporal_in φ σ e ≡ true → temporal_in ψ σ e ≡ true
    more_temporal σ (t.Fair p f v a) h = refl
    more_temporal σ (t.Name w) h = let hs = and_parts _ _ h in and_from _ _ hs.0 (grows w.word hs.1)
    more_temporal σ (t.Paren p e) h = more_temporal σ e h
    more_temporal σ (t.Unary p o e) h = either (is_temporal o) (temporal_in φ σ e) (is_temporal o) (temporal_in ψ σ e) (λ g. g) (λ g. more_temporal σ e g) h
    more_temporal σ (t.Binary p o w a c) h =
        either (leads_to o) (temporal_in φ σ a || temporal_in φ σ c) (leads_to o) (temporal_in ψ σ a || temporal_in ψ σ c) (λ g. g)
        (λ g. either (temporal_in φ σ a) (temporal_in φ σ c) (temporal_in ψ σ a) (temporal_in ψ σ c) (λ k. more_temporal σ a k) (λ k. more_temporal σ c k) g) h
    more_temporal σ (t.Junction p b es) h = more_some_temporal σ es h
    more_temporal σ (t.Quantified p q bs e) h = more_temporal (σ ++ plain (bound_names bs)) e h
    more_temporal σ (t.Number p n) h = absurd (true≢false (sym h))
    more_temporal σ (t.Text p n) h = absurd (true≢false (sym h))
    more_temporal σ (t.Word p c) h = absurd (true≢false (sym h))
    more_temporal σ (t.At p) h = absurd (true≢false (sym h))
    more_temporal σ (t.Listing p b es) h = absurd (true≢false (sym h))
    more_temporal σ (t.Call w es) h = absurd (true≢false (sym h))
    more_temporal σ (t.Prime p e) h = absurd (true≢false (sym h))
    more_temporal σ (t.Index p e es) h = absurd (true≢false (sym h))
    more_temporal σ (t.Field p e w) h = absurd (true≢false (sym h))
    more_temporal σ (t.Choose p w s e) h = absurd (true≢false (sym h))
    more_temporal σ (t.If p a b c) h = absurd (true≢false (sym h))
    more_temporal σ (t.Case p cs o) h = absurd (true≢false (sym h))
    more_temporal σ (t.Let p ds e) h = absurd (true≢false (sym h))
    more_temporal σ (t.Filter p w s e) h = absurd (true≢false (sym h))
    more_temporal σ (t.Image p e bs) h = absurd (true≢false (sym h))
    more_temporal σ (t.Function p bs e) h = absurd (true≢false (sym h))
    more_temporal σ (t.FunctionSet p s e) h = absurd (true≢false (sym h))
    more_temporal σ (t.Record p fs) h = absurd (true≢false (sym h))
    more_temporal σ (t.RecordSet p fs) h = absurd (true≢false (sym h))
    more_temporal σ (t.Except p e us) h = absurd (true≢false (sym h))
    more_temporal σ (t.Action p s a v) h = absurd (true≢false (sym h))
    more_temporal σ (t.Product p e es) h = absurd (true≢false (sym h))

    more_some_temporal : (σ : Scope) (es : Trees) → some_temporal φ σ es ≡ true → some_temporal ψ σ es ≡ true
    more_some_temporal σ none h = absurd (true≢false (sym h))
    more_some_temporal σ (more e es) h =
        either (temporal_in φ σ e) (some_temporal φ σ es) (temporal_in ψ σ e) (some_temporal ψ σ es) (λ g. more_temporal σ e g) (λ g. more_some_temporal σ es g) h

pub temporal_grows : Grows temporal
temporal_grows φ ψ g e h = more_temporal φ ψ g [] e h

pub property_grows : (c : Class) → Grows (property c)
property_grows class.Fairness = fairness_grows
property_grows class.Temporal = temporal_grows
