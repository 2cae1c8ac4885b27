-- Which trees may be beside which operators, and how deep a tree is.
use Rattle.std.specs.Prelude.{ℕ, ◌+◌, max, Bool, true, false, ◌&&◌, ◌||◌, nat_lt, nat_eq}
use Rattle.tla_tree.specs.declared.tree.Infix.{Infix}
use Rattle.tla_tree.specs.declared.tree.Infix.TheVariants as i
use Rattle.tla_grammar.specs.Operators.{low, high, prefix_low, left_group}
use Rattle.tla_tree.specs.Tree.{Tree, Trees, Binders, Arms, Other, Definition, Definitions, none, more, unbound, bound, no_arms, arm, no_other, other, DefinesOperator, DefinesFunction, undefined, defined, Case, Let, Name, Number, Text, Word, At, Paren, Listing, Call, Prime, Index, Field, Unary, Binary, Quantified, Choose, If, Junction, Filter, Image, Function, FunctionSet, Record, RecordSet, Except, Action, Fair, Product, Fields, no_fields, field, Key, AtIndex, AtField, Keys, no_keys, key, Updates, no_updates, update}

-- the first operator is above the second, or is the second and groups to the left
abbrev pub yields : Infix → Infix → Bool
yields first second = nat_lt (high second) (low first) || (nat_lt 0 (left_group first) && nat_eq (left_group first) (left_group second))

-- the tree may be the left operand: every operator on its right edge is above this one or is this one and groups to
-- the left, and no open form is on it
abbrev mutual
  pub edge_allows : Tree → Infix → Bool
  edge_allows (Binary _ first _ _ r) op = yields first op && edge_allows r op
  edge_allows (Product _ _ es) op = yields i.Product op && last_allows es op
  edge_allows (Unary _ first r) op = nat_lt (high op) (prefix_low first) && edge_allows r op
  edge_allows (Quantified _ _ _ _) op = false
  edge_allows (Choose _ _ _ _) op = false
  edge_allows (If _ _ _ _) op = false
  edge_allows (Case _ _ _) op = false
  edge_allows (Let _ _ _) op = false
  edge_allows _ op = true

  -- the last of a product's operands
  pub last_allows : Trees → Infix → Bool
  last_allows none op = true
  last_allows (more e none) op = edge_allows e op
  last_allows (more e (more f fs)) op = last_allows (more f fs) op

-- the tree may be the right operand: its top, where it is an infix operator, is above one whose range ends here
abbrev pub top_above : ℕ → Tree → Bool
top_above floor (Binary _ op _ _ _) = nat_lt floor (low op)
top_above floor (Product _ _ _) = nat_lt floor (low i.Product)
top_above floor _ = true

-- what a postfix form may follow
abbrev pub is_closed : Tree → Bool
is_closed (Binary _ _ _ _ _) = false
is_closed (Unary _ _ _) = false
is_closed (Quantified _ _ _ _) = false
is_closed (Choose _ _ _ _) = false
is_closed (If _ _ _ _) = false
is_closed (Case _ _ _) = false
is_closed (Let _ _ _) = false
is_closed (Product _ _ _) = false
is_closed _ = true

-- brackets and junction lists: their tokens say where they end
abbrev pub is_delimited : Tree → Bool
is_delimited (Paren _ _) = true
is_delimited (Listing _ _ _) = true
is_delimited (Call _ _) = true
is_delimited (Junction _ _ _) = true
is_delimited (Filter _ _ _ _) = true
is_delimited (Image _ _ _) = true
is_delimited (Function _ _ _) = true
is_delimited (FunctionSet _ _ _) = true
is_delimited (Record _ _) = true
is_delimited (RecordSet _ _) = true
is_delimited (Except _ _ _) = true
is_delimited (Action _ _ _ _) = true
is_delimited (Fair _ _ _ _) = true
is_delimited _ = false

-- the greatest number of nested forms
abbrev mutual
  pub depth : Tree → ℕ
  depth (Name _) = 1
  depth (Number _ _) = 1
  depth (Text _ _) = 1
  depth (Word _ _) = 1
  depth (At _) = 1
  depth (Paren _ e) = depth e + 1
  depth (Listing _ _ es) = depths es + 1
  depth (Call _ es) = depths es + 1
  depth (Prime _ e) = depth e + 1
  depth (Index _ e es) = max (depth e) (depths es) + 1
  depth (Field _ e _) = depth e + 1
  depth (Unary _ _ e) = depth e + 1
  depth (Binary _ _ _ l r) = max (depth l) (depth r) + 1
  depth (Quantified _ _ bs e) = max (bound_depth bs) (depth e) + 1
  depth (Choose _ _ s e) = max (depth s) (depth e) + 1
  depth (If _ a b e) = max (depth a) (max (depth b) (depth e)) + 1
  depth (Case _ cs o) = max (arms_depth cs) (other_depth o) + 1
  depth (Let _ ds e) = max (definitions_depth ds) (depth e) + 1
  depth (Junction _ _ es) = depths es + 1
  depth (Filter _ _ s e) = max (depth s) (depth e) + 1
  depth (Image _ e bs) = max (depth e) (bound_depth bs) + 1
  depth (Function _ bs e) = max (bound_depth bs) (depth e) + 1
  depth (FunctionSet _ s e) = max (depth s) (depth e) + 1
  depth (Record _ fs) = fields_depth fs + 1
  depth (RecordSet _ fs) = fields_depth fs + 1
  depth (Except _ e us) = max (depth e) (updates_depth us) + 1
  depth (Action _ _ a v) = max (depth a) (depth v) + 1
  depth (Fair _ _ v a) = max (depth v) (depth a) + 1
  depth (Product _ e es) = max (depth e) (depths es) + 1

  pub depths : Trees → ℕ
  depths none = 0
  depths (more e es) = max (depth e) (depths es)

  pub bound_depth : Binders → ℕ
  bound_depth unbound = 0
  bound_depth (bound w s bs) = max (depth s) (bound_depth bs)

  pub arms_depth : Arms → ℕ
  arms_depth no_arms = 0
  arms_depth (arm g e cs) = max (max (depth g) (depth e)) (arms_depth cs)

  pub other_depth : Other → ℕ
  other_depth no_other = 0
  other_depth (other e) = depth e

  pub definition_depth : Definition → ℕ
  definition_depth (DefinesOperator w ws e) = depth e
  definition_depth (DefinesFunction w bs e) = max (bound_depth bs) (depth e)

  pub definitions_depth : Definitions → ℕ
  definitions_depth undefined = 0
  definitions_depth (defined d ds) = max (definition_depth d) (definitions_depth ds)

  pub fields_depth : Fields → ℕ
  fields_depth no_fields = 0
  fields_depth (field w e fs) = max (depth e) (fields_depth fs)

  pub key_depth : Key → ℕ
  key_depth (AtIndex es) = depths es
  key_depth (AtField w) = 0

  pub keys_depth : Keys → ℕ
  keys_depth no_keys = 0
  keys_depth (key k ks) = max (key_depth k) (keys_depth ks)

  pub updates_depth : Updates → ℕ
  updates_depth no_updates = 0
  updates_depth (update ks e us) = max (max (keys_depth ks) (depth e)) (updates_depth us)
