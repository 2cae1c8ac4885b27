-- The one list of units that tokens can spell, found from the left. Private contracts alone cite this.
use Rattle.std.specs.Prelude.{ℕ, zero, suc, ◌+◌, Bool, true, not, ◌&&◌, ◌||◌, nat_eq, if◌then◌else◌, List, [], ◌∷◌, ◌++◌, length, Option, Some, None, Ok, Err}
use Rattle.tla_lex.specs.declared.token.Token.{Token}
use Rattle.tla_lex.specs.declared.token.Kind.{Kind}
use Rattle.tla_lex.specs.declared.token.Kind.TheVariants as k
use Rattle.tla_tree.specs.declared.word.Written.{Written}
use Rattle.tla_grammar.specs.Modules.{is_module}
use Rattle.tla_tree.specs.Words.{word_of, written}
use Rattle.tla_grammar.specs.Tokens.{seen}
use Rattle.tla_grammar.specs.Kinds.{kind_at}
use Rattle.tla_tree.specs.Units.{UnitTree, Separator, Extends, Variables, Operator, Defines, Local, Constants, Assume, Theorem, Declared}
use Rattle.tla_parse.specs.Units.{is_separator, outermost}
use Rattle.tla_grammar.specs.declared.tokens.Between.TheVariants as between
use Rattle.tla_tree.specs.Tree.{Tree, Definition, DefinesOperator}
use Rattle.tla_grammar.specs.Outcome.{Outcome, Refused, ◌>>=◌, need, at_op, sequence}
use Rattle.tla_grammar.specs.Marks.{name_at, following}
use Rattle.tla_expressions.specs.ReadingLists.{names}
use Rattle.tla_expressions.specs.Reading.{definition, expr}

-- the name and the expression of an assumption or a theorem
abbrev pub Claim : Type 0
Claim = Option Written × Tree

-- the name before `==`
abbrev pub claim_name : List Token → ℕ → Option Token
claim_name ts at = if kind_at k.Define (seen ts 0 (at + 1)) then name_at (seen ts 0 at) else None

-- how many underscores there are after those read so far, each with a comma before it, and the token after them
unfoldable pub blanks : List Token → ℕ → ℕ → ℕ → ℕ × ℕ
blanks ts zero count at = (count, at)
blanks ts (suc n) count at = if kind_at k.Comma (seen ts 0 at) && kind_at k.Underscore (seen ts 0 (at + 1)) then blanks ts n (count + 1) (at + 2) else (count, at)

abbrev pub unit_of : Definition → UnitTree
unit_of (DefinesOperator w [] e) = Operator w e
unit_of d = Defines d

module _ (text : List ℕ) (ts : List Token) where
  -- names of known modules with commas between them
  unfoldable pub modules : ℕ → List Written → ℕ → Outcome (List Written)
  modules zero front at = Err Refused
  modules (suc n) front at = at_op (name_at (seen ts 0 at)) (Err Refused) (λ t. need (is_module (word_of text t))
      (if kind_at k.Comma (seen ts 0 (at + 1)) then modules n (front ++ written text t ∷ []) (at + 2) else Ok (front ++ written text t ∷ [], at + 1)))

  unfoldable pub declared : ℕ → Outcome Declared
  declared at = at_op (name_at (seen ts 0 at)) (Err Refused) (λ t. if kind_at k.LeftParen (seen ts 0 (at + 1))
      then need (kind_at k.Underscore (seen ts 0 (at + 2))) (need (kind_at k.RightParen (seen ts 0 (blanks ts (length ts) 1 (at + 3)).1)) (Ok ((written text t, (blanks ts (length ts) 1 (at + 3)).0), (blanks ts (length ts) 1 (at + 3)).1 + 1)))
      else Ok ((written text t, 0), at + 1))

  abbrev pub constants : ℕ → List Declared → ℕ → Outcome (List Declared)
  constants n front at = sequence declared (following ts 0 between.Comma) n front at

  unfoldable pub claim : ℕ → ℕ → Outcome Claim
  claim n at = at_op (claim_name ts at) (expr text ts n outermost 0 at >>= λ e end. Ok ((None, e), end)) (λ t. expr text ts n outermost 0 (at + 2) >>= λ e end. Ok ((Some (written text t), e), end))

  abbrev pub unit_by : ℕ → Token → ℕ → Kind → Outcome UnitTree
  unit_by n t at k.Separator = Ok (Separator t.place, at + 1)
  unit_by n t at k.Extends = modules (length ts) [] (at + 1) >>= λ ws end. Ok (Extends t.place ws, end)
  unit_by n t at k.Variable = names text ts (length ts) [] 0 (at + 1) >>= λ ws end. Ok (Variables t.place ws, end)
  unit_by n t at k.Name = definition text ts (expr text ts n) outermost at >>= λ d end. Ok (unit_of d, end)
  unit_by n t at k.Local = definition text ts (expr text ts n) outermost (at + 1) >>= λ d end. Ok (Local t.place d, end)
  unit_by n t at k.Constant = constants (length ts) [] (at + 1) >>= λ ds end. Ok (Constants t.place ds, end)
  unit_by n t at k.Assume = claim n (at + 1) >>= λ c end. Ok (Assume t.place c.0 c.1, end)
  unit_by n t at k.Theorem = claim n (at + 1) >>= λ c end. Ok (Theorem t.place c.0 c.1, end)
  unit_by n t at _ = Err Refused

  unfoldable pub unit : ℕ → ℕ → Outcome UnitTree
  unit n at = at_op (seen ts 0 at) (Err Refused) (λ t. unit_by n t at t.kind)

  -- the units up to the closing line; EXTENDS is among them if it may still come
  unfoldable pub units : ℕ → ℕ → List UnitTree → Bool → ℕ → Outcome (List UnitTree)
  units n zero front first at = Err Refused
  units n (suc m) front first at = if kind_at k.Closing (seen ts 0 at) then Ok (front, at)
      else need (first || not (kind_at k.Extends (seen ts 0 at))) (unit n at >>= λ u end. units n m (front ++ u ∷ []) (first && is_separator u) end)

  -- a module whose expressions have at most this many levels
  unfoldable pub whole : ℕ → Outcome (List UnitTree)
  whole n = need (kind_at k.Name (seen ts 0 0)) (need (kind_at k.Separator (seen ts 0 1))
      (units n (length ts) [] true 2 >>= λ us end. need (nat_eq (length ts) (end + 1)) (Ok (us, end))))
