-- The formula that SPECIFICATION names: Init /\ [][Next]_v, and fairness (book, chapters 8 and 14; what a name in it
-- is replaced by: this project's own choice).
use Rattle.std.specs.Prelude.{◌≡◌, ℕ, zero, suc, Bool, true, false, not, ◌&&◌, ◌||◌, if◌then◌else◌, List, [], ◌∷◌, ◌++◌, Option, Some, None, is_some, unwrap_or, filter, length}
use Rattle.std.specs.List.{filter_map}
use Rattle.tla_tree.specs.declared.word.Written.{Written}
use Rattle.tla_tree.specs.declared.tree.Bullet.TheVariants as bullet
use Rattle.tla_tree.specs.declared.tree.Infix.TheVariants as op
use Rattle.tla_tree.specs.declared.tree.Prefix.TheVariants as prefix
use Rattle.tla_tree.specs.declared.tree.Step.TheVariants as step
use Rattle.tla_tree.specs.Places.{place}
use Rattle.tla_tree.specs.Tree.{Tree, Trees, none, more, trees}
use Rattle.tla_tree.specs.Tree as t
use Rattle.tla_tree.specs.Units.{UnitTree}
use Rattle.tla_config.specs.Names.{Name}
use Rattle.tla_config.specs.Statements.{Item}
use Rattle.tla_scopes.specs.Meanings.{Scope}
use Rattle.tla_scopes.specs.Maybe.{◌>>=◌}
use Rattle.tla_defs.specs.Bodies.{Bodies, body_of}
use Rattle.tla_defs.specs.Fairness.{fair}
use Rattle.tla_defs.specs.Subscripts.{IsCover}
use Rattle.tla_defs.specs.Temporal.{temporal_of}

-- The conjuncts of a formula: those of the parts of a conjunction, and of what a name is replaced by. Any other
-- formula is one itself.
abbrev mutual
  pub conjuncts_in : (Name → Option (List Tree)) → Tree → List Tree
  conjuncts_in ρ (t.Name w) = unwrap_or (ρ w.word) (t.Name w ∷ [])
  conjuncts_in ρ (t.Paren p e) = conjuncts_in ρ e
  conjuncts_in ρ (t.Binary p op.And w a c) = conjuncts_in ρ a ++ conjuncts_in ρ c
  conjuncts_in ρ (t.Junction p bullet.And es) = conjuncts_each ρ es
  conjuncts_in ρ e = e ∷ []

  pub conjuncts_each : (Name → Option (List Tree)) → Trees → List Tree
  conjuncts_each ρ none = []
  conjuncts_each ρ (more e es) = conjuncts_in ρ e ++ conjuncts_each ρ es

-- the conjuncts of names, found by looking n definitions deep
abbrev pub conjuncts_of : ℕ → Bodies → Name → Option (List Tree)
conjuncts_of zero b x = None
conjuncts_of (suc n) b x = b x >>= λ e. Some (conjuncts_in (conjuncts_of n b) e)

abbrev pub conjuncts : ℕ → Bodies → Tree → List Tree
conjuncts n b e = conjuncts_in (conjuncts_of n b) e

abbrev pub is_conjunction : Tree → Bool
is_conjunction (t.Paren p e) = is_conjunction e
is_conjunction (t.Binary p op.And w a c) = true
is_conjunction (t.Junction p bullet.And es) = true
is_conjunction e = false

-- a name is replaced by its body where that is a conjunction, or temporal
abbrev pub replaced_by : (Name → Bool) → Bodies → Bodies
replaced_by τ b x = b x >>= λ e. if is_conjunction e || τ x then Some e else None

abbrev pub replaced : List UnitTree → List Item → Bodies
replaced us is = replaced_by (temporal_of (length us) (body_of us is)) (body_of us is)

-- an action and its subscript
abbrev pub Step : Type 0
Step = Tree × Tree

-- [A]_v
abbrev pub boxed : Tree → Option Step
boxed (t.Paren p e) = boxed e
boxed (t.Action p step.Box a v) = Some (a, v)
boxed e = None

-- [][A]_v
abbrev pub always : Tree → Option Step
always (t.Unary p prefix.Always e) = boxed e
always e = None

abbrev pub steps_of : List Tree → List Step
steps_of es = filter_map always es

-- neither [][A]_v nor fairness
abbrev pub is_initial : ℕ → Bodies → Tree → Bool
is_initial n b e = not (is_some (always e)) && not (fair n b e)

abbrev pub initials_of : ℕ → Bodies → List Tree → List Tree
initials_of n b es = filter (is_initial n b) es

-- one formula, or the conjunction of several
abbrev pub conjunction_of : List Tree → Option Tree
conjunction_of [] = None
conjunction_of (e ∷ []) = Some e
conjunction_of (e ∷ d ∷ es) = Some (t.Junction (place e) bullet.And (trees (e ∷ d ∷ es)))

-- The formula of a name has one conjunct [][A]_v, where v covers the variables. Its other conjuncts are fairness, or
-- make up the initial predicate, which has at least one. No definition leads deeper than there are units.
pub record IsSpecification (us : List UnitTree) (is : List Item) (σ : Scope) (variables : ℕ) (w : Written) (initial action : Tree) : Type 0 where
  pub body : Tree
  pub is_body : body_of us is w.word ≡ Some body
  pub subscript : Tree
  pub one_step : steps_of (conjuncts (length us) (replaced us is) body) ≡ (action, subscript) ∷ []
  pub covered : IsCover σ variables subscript
  pub is_initial : conjunction_of (initials_of (length us) (body_of us is) (conjuncts (length us) (replaced us is) body)) ≡ Some initial
