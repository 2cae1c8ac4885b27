-- What is known of the names around a part of a body. Private contracts alone cite this.
use Rattle.std.specs.Prelude.{◌≡◌, ◌<◌, ◌+◌, ℕ, eqb, List, [], map, length, Option, Some, None, if◌then◌else◌}
use Rattle.tla_tree.specs.declared.tree.Definition as defining
use Rattle.tla_tree.specs.declared.tree.Expr as syntax
use Rattle.tla_tree.specs.declared.word.Written.{Written}
use Rattle.tla_tree.specs.Tree as t
use Rattle.tla_tree.specs.Tree.{DefinesOperator, DefinesFunction}
use Rattle.tla_tree.specs.View.{view, definition_view}
use Rattle.tla_scopes.specs.declared.projections.LocalScope.{LocalScope, Outside, Parameters', Named'}
use Rattle.tla_scopes.specs.declared.projections.Summary.{Summary}
use Rattle.tla_scopes.specs.declared.projections.Summary.TheVariants.{Gives, Reaches, Other}
use Rattle.tla_scopes.specs.declared.projections.BodyPart.{BodyPart}
use Rattle.tla_scopes.specs.declared.projections.Reached.{Reached}
use Rattle.tla_scopes.specs.declared.projections.BodyReduction.{BodyReduction}
use Rattle.tla_scopes.specs.declared.projections.BodyReduction.TheVariants as body_reduction
use Rattle.tla_scopes.specs.Places.{Name, place_of}
use Rattle.tla_scopes.specs.Primes.{with_primes}
use Rattle.tla_scopes.specs.Meanings.{Scope, Argument, Meaning, with_name, with_parameters, operator}
use Rattle.tla_scopes.specs.Expand.{expand, definition_in, definitions_in}
use Rattle.tla_scopes.specs.Arguments.{given, has_count, argument_of}
use Rattle.tla_scopes.specs.Scopes.{arguments_in}

-- how many names and layers of parameters these are
abbrev pub depth : LocalScope → ℕ
depth Outside = 0
depth (Parameters' ws _ rest) = depth rest + 1
depth (Named' x w _ rest) = depth rest + 1

-- what the parameters of each layer mean, by how many names and layers are around it
abbrev pub Layers : Type 0
Layers = ℕ → List Argument

abbrev pub with_layer : ℕ → List Argument → Layers → Layers
with_layer k args f i = if eqb i k then args else f i

abbrev pub reached_in : Reached → Layers → Argument
reached_in r f = argument_of r.given (f r.layer)

-- an operator of n parameters
abbrev pub with_count : ℕ → (List Argument → Argument) → Meaning
with_count n a p args d = if has_count n args then a args d else None

-- what is known of a name
abbrev pub Means : Layers → Summary → Meaning → Type 0
Means f (Gives n g) m = m ≡ given n g
Means f (Reaches n r) m = m ≡ with_count n (λ args. reached_in r f)
Means f Other m = Unit {0}

-- it speaks of layers that are around a name alone
abbrev pub IsRound : ℕ → Summary → Type 0
IsRound k (Reaches n r) = r.layer < k
IsRound k _ = Unit {0}

-- a scope in which these names are known, after ρ, where the parameters mean these arguments
abbrev pub Holds : Scope → LocalScope → Layers → Scope → Type 0
Holds ρ Outside f τ = τ ≡ ρ
Holds ρ (Parameters' ws _ rest) f τ = (σ : Scope) × Holds ρ rest f σ × (with_parameters ws.now (f (depth rest)) σ ≡ Some τ)
Holds ρ (Named' x w _ rest) f τ = (σ : Scope) × (m : Meaning) × Holds ρ rest f σ × Means f w m × IsRound (depth rest) w × (τ ≡ with_name x.now m σ)

-- a name among these, or one from outside
abbrev pub IsFound : Name → LocalScope → Option Summary → Type 0
IsFound x known (Some w) = (ρ : Scope) (f : Layers) (τ : Scope) → Holds ρ known f τ → Means f w (τ x)
IsFound x known None = (ρ : Scope) (f : Layers) (τ : Scope) → Holds ρ known f τ → τ x ≡ ρ x

-- a name, wherever these names are known
abbrev pub IsGiven : Scope → LocalScope → Name → Summary → Type 0
IsGiven ρ known x w = (f : Layers) (τ : Scope) → Holds ρ known f τ → Means f w (τ x)

-- the use of a name
abbrev pub IsUse : t.Tree → Written → List syntax.Expr → Type 0
IsUse tree w es = (τ : Scope) (d : ℕ) → expand tree τ d ≡ τ w.word (place_of w.place) (arguments_in es τ) d

-- a part of a body is reduced to another one
abbrev pub ComesTo : Scope → BodyPart → BodyPart → Type 0
ComesTo ρ a b = (f : Layers) (τ : Scope) → Holds ρ a.known.now f τ → Holds ρ b.known.now f τ × ((d : ℕ) → with_primes a.primes (expand (view a.tree.now) τ d) ≡ with_primes b.primes (expand (view b.tree.now) τ d))

-- a part of a body, inside a LET of these definitions, is reduced to an argument
abbrev pub GivesBack : Scope → BodyPart → List defining.Definition → Reached → Type 0
GivesBack ρ a defs r = (f : Layers) (τ : Scope) → Holds ρ a.known.now f τ → (d : ℕ) → with_primes a.primes (expand (view a.tree.now) (definitions_in (t.definitions (map definition_view defs)) τ) d) ≡ reached_in r f d

abbrev pub IsReduction : Scope → BodyPart → BodyReduction → Type 0
IsReduction ρ a (body_reduction.Continue b) = ComesTo ρ a b
IsReduction ρ a (body_reduction.Argument r) = GivesBack ρ a [] r
IsReduction ρ a body_reduction.Stuck = Unit {0}

-- the name that is defined
abbrev pub defined_name : t.Definition → Name
defined_name (DefinesOperator w ws a) = w.word
defined_name (DefinesFunction w bs a) = w.word

-- what is known of a definition
abbrev pub IsSummary : Scope → LocalScope → t.Definition → Summary → Type 0
IsSummary ρ known def w = IsRound (depth known) w × ((f : Layers) (τ : Scope) → Holds ρ known f τ → (m : Meaning) × Means f w m × (definition_in def τ ≡ with_name (defined_name def) m τ))

-- what an operator is reduced to, wherever these names are known: its own parameters are the next layer
abbrev pub IsOperator : Scope → LocalScope → List Written → t.Tree → Reached → Type 0
IsOperator ρ known ws body r = (f : Layers) (τ : Scope) → Holds ρ known f τ → operator ws (expand body) τ ≡ with_count (length ws) (λ args. reached_in r (with_layer (depth known) args f))
