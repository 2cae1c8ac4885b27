-- Expansion (book, chapters 15 to 17): what an expression says of the variables, now and next, with each name replaced
-- by its meaning.
use Rattle.std.specs.Prelude.{ℕ, ◌+◌, List, [], ◌∷◌, Option, Some, None}
use Rattle.tla_value.specs.Tree as value
use Rattle.tla_core.specs.declared.fault.Place.{Place}
use Rattle.tla_core.specs.Expr as e
use Rattle.tla_core.specs.Expr.{Expr, Exprs, constant, unary, binary, enumerated, tuple, conjunction, disjunction, conditional, cases, functions, record_of, records, product, except, no_exprs, more_exprs}
use Rattle.tla_tree.specs.declared.tree.Prefix.{Prefix}
use Rattle.tla_tree.specs.declared.tree.Prefix.TheVariants as prefix
use Rattle.tla_tree.specs.declared.tree.Bullet.TheVariants as bullet
use Rattle.tla_tree.specs.declared.tree.Brackets.TheVariants as brackets
use Rattle.tla_tree.specs.declared.tree.Step.TheVariants as steps
use Rattle.tla_tree.specs.declared.tree.Quantifier.{Quantifier}
use Rattle.tla_tree.specs.declared.tree.Quantifier.TheVariants as quantifier
use Rattle.tla_tree.specs.Places.{place}
use Rattle.tla_tree.specs.Tree.{Tree, Trees, Binders, Arms, Other, Fields, Key, Keys, Updates, Definition, Definitions, none, more, unbound, no_arms, arm, no_other, other, undefined, defined, DefinesOperator, DefinesFunction, Name, Number, Text, Word, At, Paren, Listing, Call, Prime, Index, Field, Unary, Binary, Quantified, Choose, If, Case, Let, Junction, Filter, Image, Function, FunctionSet, Record, RecordSet, Product, Except, Action, Fair, no_fields, field, AtIndex, AtField, no_keys, key, no_updates, update}
use Rattle.tla_tree.specs.Tree as t
use Rattle.tla_scopes.specs.declared.nodes.UnaryNode.{UnaryNode}
use Rattle.tla_scopes.specs.declared.nodes.BinaryNode.TheVariants as twos
use Rattle.tla_scopes.specs.declared.nodes.Gather.TheVariants as gathers
use Rattle.tla_scopes.specs.declared.nodes.Binding.{Binding}
use Rattle.tla_scopes.specs.declared.nodes.Binding.TheVariants as binds
use Rattle.tla_scopes.specs.declared.primes.Primes.TheVariants.{Once}
use Rattle.tla_scopes.specs.Maybe.{◌>>=◌}
use Rattle.tla_scopes.specs.Places.{place_of, at_name}
use Rattle.tla_scopes.specs.Primes.{primes}
use Rattle.tla_scopes.specs.Unchanged.{unchanged, changed}
use Rattle.tla_scopes.specs.Nodes.{constant_of, number_of, one, two}
use Rattle.tla_scopes.specs.Operators.{prefix_for, infix_for}
use Rattle.tla_scopes.specs.Meanings.{Argument, Scope, with_name, bound_name, parameter, operator}
use Rattle.tla_scopes.specs.Bound.{Bind, bind_entry, nested, gathered}

abbrev pub of_quantifier : Quantifier → Binding
of_quantifier quantifier.ForAll = binds.ForAll
of_quantifier quantifier.Exists = binds.ForSome

-- what a prefix operator makes of its operand
abbrev pub applied : Option UnaryNode → Place → Expr → Option Expr
applied None p x = None
applied (Some f) p x = Some (one f p x)

abbrev pub prefixed : Prefix → Place → Expr → Option Expr
prefixed prefix.Unchanged p x = unchanged p x
prefixed op p x = applied (prefix_for op) p x

-- Each node has the place of the first token of its text, and (e) is e. None for what has no expansion.
-- An argument that isn't used isn't expanded: K(x'') has an expansion where K doesn't use its parameter.
abbrev mutual
  pub expand : Tree → Scope → Argument
  expand (Name w) σ d = σ w.word (place_of w.place) [] d
  expand (Call w es) σ d = σ w.word (place_of w.place) (arguments es σ) d
  expand (Number p n) σ d = number_of (place_of p) n
  expand (Text p cs) σ d = Some (constant (place_of p) (value.text cs))
  expand (Word p c) σ d = Some (constant_of (place_of p) c)
  -- outside EXCEPT @ means nothing
  expand (At p) σ d = σ at_name (place_of p) [] d
  expand (Paren p a) σ d = expand a σ d
  expand (Prime p a) σ d = expand a σ d >>= primes Once
  expand (Listing p brackets.Set es) σ d = expand_each es σ d >>= λ xs. Some (enumerated (place_of p) xs)
  expand (Listing p brackets.Tuple es) σ d = expand_each es σ d >>= λ xs. Some (tuple (place_of p) xs)
  expand (Index p f es) σ d = expand f σ d >>= λ x. expand_key es σ d >>= λ y. Some (binary (place_of p) e.Apply x y)
  expand (Field p a w) σ d = expand a σ d >>= λ x. Some (unary (place_of p) (e.Field w.word) x)
  expand (Unary p op a) σ d = expand a σ d >>= prefixed op (place_of p)
  expand (Binary p op w a b) σ d = infix_for op >>= λ f. expand a σ d >>= λ x. expand b σ d >>= λ y. Some (two f (place_of p) x y)
  expand (Quantified p q bs a) σ d = nested (of_quantifier q) (place_of p) (binds_of bs σ) (expand a) σ d
  expand (Choose p w s a) σ d = nested binds.Choose (place_of p) (bind_entry w (expand s σ) []) (expand a) σ d
  expand (Filter p w s a) σ d = nested binds.Filter (place_of p) (bind_entry w (expand s σ) []) (expand a) σ d
  expand (Image p a bs) σ d = gathered gathers.Image (place_of p) (binds_of bs σ) (expand a) σ d
  expand (Function p bs a) σ d = gathered gathers.Function (place_of p) (binds_of bs σ) (expand a) σ d
  expand (FunctionSet p s a) σ d = expand s σ d >>= λ x. expand a σ d >>= λ y. Some (functions (place_of p) x y)
  expand (Record p fs) σ d = expand_fields fs σ d >>= λ xs. Some (record_of (place_of p) xs)
  expand (RecordSet p fs) σ d = expand_fields fs σ d >>= λ xs. Some (records (place_of p) xs)
  expand (Product p a es) σ d = expand a σ d >>= λ x. expand_each es σ d >>= λ xs. Some (product (place_of p) (more_exprs x xs))
  expand (Except p f us) σ d = expand f σ d >>= λ x. expand_updates us σ d >>= λ ys. Some (except (place_of p) x ys)
  expand (Action p steps.Box a v) σ d = expand a σ d >>= λ x. (expand v σ d >>= unchanged (place_of (place v))) >>= λ y. Some (two twos.Or (place_of p) x y)
  expand (Action p steps.Angle a v) σ d = expand a σ d >>= λ x. (expand v σ d >>= changed (place_of (place v))) >>= λ y. Some (two twos.And (place_of p) x y)
  -- fairness is of time
  expand (Fair p f v a) σ d = None
  expand (If p a b c) σ d = expand a σ d >>= λ x. expand b σ d >>= λ y. expand c σ d >>= λ z. Some (conditional (place_of p) x y z)
  expand (Case p as' o) σ d = expand_arms as' (expand_other o σ d) σ d >>= λ xs. Some (cases (place_of p) xs)
  expand (Let p ds a) σ d = expand a (definitions_in ds σ) d
  expand (Junction p bullet.And es) σ d = expand_each es σ d >>= λ xs. Some (conjunction (place_of p) xs)
  expand (Junction p bullet.Or es) σ d = expand_each es σ d >>= λ xs. Some (disjunction (place_of p) xs)

  pub expand_each : Trees → Scope → ℕ → Option Exprs
  expand_each none σ d = Some no_exprs
  expand_each (more a es) σ d = expand a σ d >>= λ x. expand_each es σ d >>= λ xs. Some (more_exprs x xs)

  -- f[a, b] is f[<<a, b>>]: one argument, or the tuple of several at the place of the first
  pub expand_key : Trees → Scope → Argument
  expand_key none σ d = None
  expand_key (more a none) σ d = expand a σ d
  expand_key (more a (more b es)) σ d = expand a σ d >>= λ x. expand b σ d >>= λ y. expand_each es σ d >>= λ xs. Some (tuple (place_of (place a)) (more_exprs x (more_exprs y xs)))

  -- arms, and then the last ones
  pub expand_arms : Arms → Option e.Arms → Scope → ℕ → Option e.Arms
  expand_arms no_arms last σ d = last
  expand_arms (arm g a as') last σ d = expand g σ d >>= λ x. expand a σ d >>= λ y. expand_arms as' last σ d >>= λ xs. Some (e.more_arms x y xs)

  pub expand_other : Other → Scope → ℕ → Option e.Arms
  expand_other no_other σ d = Some e.no_arms
  expand_other (other a) σ d = expand a σ d >>= λ x. Some (e.other x)

  pub expand_fields : Fields → Scope → ℕ → Option e.Fields
  expand_fields no_fields σ d = Some e.no_fields
  expand_fields (field w a fs) σ d = expand a σ d >>= λ x. expand_fields fs σ d >>= λ xs. Some (e.more_fields w.word x xs)

  -- the key .a is the text a
  pub expand_step : Key → Scope → Argument
  expand_step (AtIndex es) σ d = expand_key es σ d
  expand_step (AtField w) σ d = Some (constant (place_of w.place) (value.text w.word))

  pub expand_path : Keys → Scope → ℕ → Option Exprs
  expand_path no_keys σ d = Some no_exprs
  expand_path (key k ks) σ d = expand_step k σ d >>= λ x. expand_path ks σ d >>= λ xs. Some (more_exprs x xs)

  -- in a new value, @ is the name of the old one
  pub expand_updates : Updates → Scope → ℕ → Option e.Updates
  expand_updates no_updates σ d = Some e.no_updates
  expand_updates (update ks a us) σ d = expand_path ks σ d >>= λ xs. expand a (with_name at_name (bound_name d) σ) (d + 1) >>= λ y. expand_updates us σ d >>= λ ys. Some (e.more_updates xs y ys)

  pub arguments : Trees → Scope → List Argument
  arguments none σ = []
  arguments (more a es) σ = expand a σ ∷ arguments es σ

  -- the elements of a binder list in order, each with its set
  pub binds_of : Binders → Scope → List Bind
  binds_of unbound σ = []
  binds_of (t.bound w s bs) σ = bind_entry w (expand s σ) (binds_of bs σ)

  -- each definition is known to those after it
  pub definitions_in : Definitions → Scope → Scope
  definitions_in undefined σ = σ
  definitions_in (defined def ds) σ = definitions_in ds (definition_in def σ)

  -- the function of f[x \in S] == e has the place of f, and its name isn't known in it
  pub definition_in : Definition → Scope → Scope
  definition_in (DefinesOperator w ws a) σ = with_name w.word (operator ws (expand a) σ) σ
  definition_in (DefinesFunction w bs a) σ = with_name w.word (parameter (gathered gathers.Function (place_of w.place) (binds_of bs σ) (expand a) σ)) σ
