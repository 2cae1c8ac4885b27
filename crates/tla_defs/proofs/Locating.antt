-- Each refusal has its place, and its name where it prints one.
use Rattle.std.proofs.Common.{◌≡◌, refl, sym, ap, inl, inr, List, [], ◌∷◌, Option, Some, None, true, Result, Ok, Err}
use Rattle.std.specs.Prelude.{is_some}
use Rattle.tla_core.specs.Expr.{Expr}
use Rattle.tla_lex.specs.declared.token.Place.{Place}
use Rattle.tla_tree.specs.declared.word.Written.{Written}
use Rattle.tla_tree.specs.Tree.{Tree}
use Rattle.tla_tree.specs.Units.{UnitTree}
use Rattle.tla_config.specs.declared.error.DefsCode.{DefsCode}
use Rattle.tla_config.specs.declared.error.DefsCode.TheVariants as c
use Rattle.tla_config.specs.declared.error.DefsError.{DefsError}
use Rattle.tla_config.specs.declared.error.Source.{Source}
use Rattle.tla_config.specs.declared.error.Source.TheVariants as source
use Rattle.tla_config.specs.Names.{Name}
use Rattle.tla_config.specs.Refusals.{IsLocated}
use Rattle.tla_config.specs.Statements.{Statement, Item, items_of}
use Rattle.tla_config.specs.View.{ConfigTree}
use Rattle.tla_names.specs.Maybe.{or_else}
use Rattle.tla_names.specs.Known.{Misuse, Twice, Unknown, Arguments}
use Rattle.tla_names.specs.Constants.{unvalued}
use Rattle.tla_items.specs.Items.{definitions_of, replaceable_of, nameable_of, replaced_names, items_misused}
use Rattle.tla_names.specs.Named.{names_misused}
use Rattle.tla_names.specs.Misuses.{misuse}
use Rattle.tla_scopes.specs.declared.primes.Primes.{Primes}
use Rattle.tla_scopes.specs.declared.primes.Primes.TheVariants as read
use Rattle.tla_scopes.specs.Expand.{expand}
use Rattle.tla_scopes.specs.Meanings.{Scope}
use Rattle.tla_formulas.specs.Formulas.{meaning_in}
use Rattle.tla_defs.specs.Model.{assumptions_of, invariants_named, constraints_named}
use Rattle.tla_formulas.specs.Refused.{IsCause, IsOfFormula}
use Rattle.tla_defs.specs.Refused.{Behaviour, Named, Specified, behaviour, behaviour_refused, refused, IsLast, IsRefusal, refusal_is, IsOfAssumption, IsOfPredicate, IsOfSome, of_assumption, of_initial, of_action, of_invariant, of_constraint}
use Rattle.tla_names.specs.Refusal.{constant_refused, refusal_for}
use Rattle.tla_items.specs.Refusal.{items_refused}

-- the refusal, if there is one
abbrev Located : Option DefsError → Type 0
Located o = (e : DefsError) → o ≡ Some e → IsLocated e.code e.place e.name

none : Located None
none e p = let z : ⊥ = cc in absurd z

one : (r : DefsError) → IsLocated r.code r.place r.name → Located (Some r)
one r h e p = let same : r ≡ e = cc in rw (sym same) h

either : (a b : Option DefsError) → Located a → Located b → Located (or_else a b)
either None b h i = i
either (Some r) b h i = h

of_misuse : (s : Source) (o : Option Misuse) → Located (refusal_for s o)
of_misuse s None = none
of_misuse s (Some (Twice w)) = one _ refl
of_misuse s (Some (Unknown w)) = one _ refl
of_misuse s (Some (Arguments w)) = one _ refl

of_constant : (o : Option Written) → Located (constant_refused o)
of_constant None = none
of_constant (Some w) = one _ refl

of_behaviour : (us : List UnitTree) (cs : List Statement) (r : Result Behaviour Place) → Located (behaviour_refused us cs r)
of_behaviour us cs (Err p) = one _ refl
of_behaviour us cs (Ok b) = of_misuse source.Configuration (names_misused (definitions_of us) cs)

of_items : (us : List UnitTree) (is : List Item) → Located (items_refused us is)
of_items us is =
    let given = items_misused (replaceable_of us) (nameable_of us) [] is in
    let valued = unvalued (replaced_names is) us in
    either (refusal_for source.Configuration given) (constant_refused valued) (of_misuse source.Configuration given) (of_constant valued)

of_step : (us : List UnitTree) (config : ConfigTree) → Located (refused us config)
of_step us config =
    let is = items_of config.statements in
    let named = behaviour config.statements config.end None None in
    let behaves = behaviour_refused us config.statements named in
    let rest = or_else (items_refused us is) behaves in
    either (refusal_for source.Module (misuse us)) rest (of_misuse source.Module (misuse us))
    (either (items_refused us is) behaves (of_items us is) (of_behaviour us config.statements named))

-- a place, and no name
placed : (k : DefsCode) (p : Option Place) (x : Option Name) (o : Option Expr) (m : Primes) → IsCause k o m → is_some p ≡ true → x ≡ None → IsLocated k p x
placed k None x o m a b d = let z : ⊥ = cc in absurd z
placed c.Level (Some p) x o m a b d = rw d refl
placed c.ExpansionTooLarge (Some p) x o m a b d = rw d refl
placed c.ConfigurationText (Some p) x o m a b d = absurd a
placed c.UnknownName (Some p) x o m a b d = absurd a
placed c.DefinedTwice (Some p) x o m a b d = absurd a
placed c.ArgumentCount (Some p) x o m a b d = absurd a
placed c.ConstantWithoutValue (Some p) x o m a b d = absurd a
placed c.CircularReplacement (Some p) x o m a b d = absurd a
placed c.SpecificationForm (Some p) x o m a b d = absurd a
placed c.BehaviourCount (Some p) x o m a b d = absurd a
placed c.StatementLeftOut (Some p) x o m a b d = absurd a
placed c.Memory (Some p) x o m a b d = absurd a

too_large : (k : DefsCode) (p : Option Place) (x : Option Name) → k ≡ c.ExpansionTooLarge → is_some p ≡ true → x ≡ None → IsLocated k p x
too_large k None x a b d = let z : ⊥ = cc in absurd z
too_large k (Some p) x a b d = rw (a, d) refl

of_formula : (o : Option Expr) (k : Primes) (e : DefsError) → IsOfFormula o k e → IsLocated e.code e.place e.name
of_formula o k e r = placed e.code e.place e.name o k r.cause r.place r.name

of_assumptions : (σ : Scope) (ts : List Tree) (e : DefsError) → IsOfAssumption σ ts e → IsLocated e.code e.place e.name
of_assumptions σ [] e r = absurd r
of_assumptions σ (t ∷ ts) e (inl r) = of_formula (expand t σ 0) read.Twice e r
of_assumptions σ (t ∷ ts) e (inr r) = of_assumptions σ ts e r

of_predicates : (σ : Scope) (ws : List Written) (e : DefsError) → IsOfPredicate σ ws e → IsLocated e.code e.place e.name
of_predicates σ [] e r = absurd r
of_predicates σ (w ∷ ws) e (inl r) = of_formula (meaning_in σ w) read.Once e r
of_predicates σ (w ∷ ws) e (inr r) = of_predicates σ ws e r

of_some : (us : List UnitTree) (cs : List Statement) (σ : Scope) (e : DefsError) → IsOfSome us cs σ e → IsLocated e.code e.place e.name
of_some us cs σ e (of_assumption r) = of_assumptions σ (assumptions_of us) e r
of_some us cs σ e (of_initial i a b r) = of_formula (expand i σ 0) read.Once e r
of_some us cs σ e (of_action i a b r) = of_formula (expand a σ 0) read.Never e r
of_some us cs σ e (of_invariant r) = of_predicates σ (invariants_named cs) e r
of_some us cs σ e (of_constraint r) = of_predicates σ (constraints_named cs) e r

of_last : (us : List UnitTree) (cs : List Statement) (b : Result Behaviour Place) (e : DefsError) → IsLast us cs b e → IsLocated e.code e.place e.name
of_last us cs b e (σ, at, inr r) = of_some us cs σ e r
of_last us cs (Ok (Specified p w)) e (σ, at, inl (inl (r, none))) = rw (sym r) refl
of_last us cs (Ok (Specified p w)) e (σ, at, inl (inr (r, many))) = too_large e.code e.place e.name r.code r.place r.name
of_last us cs (Ok (Named i n)) e (σ, at, inl r) = absurd r
of_last us cs (Err p) e (σ, at, inl r) = absurd r

of_refusal : (us : List UnitTree) (cs : List Statement) (o : Option DefsError) (b : Result Behaviour Place) → Located o → (e : DefsError) → refusal_is us cs o b e → IsLocated e.code e.place e.name
of_refusal us cs (Some d) b h e r = h e (ap (λ x. Some x) r)
of_refusal us cs None b h e (inl r) = rw (sym r.refused) refl
of_refusal us cs None b h e (inr r) = of_last us cs b e r.1

pub refused_located : (us : List UnitTree) (config : ConfigTree) (e : DefsError) → IsRefusal us config e → IsLocated e.code e.place e.name
refused_located us config e r =
    let named = behaviour config.statements config.end None None in
    of_refusal us config.statements (refused us config) named (of_step us config) e r
