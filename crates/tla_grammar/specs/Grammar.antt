-- Which tokens a tree spells (book, chapter 15; precedence and columns: this project's own choice).
use Rattle.std.specs.Prelude.{◌≡◌, ℕ, ◌+◌, Bool, true, false, not, ◌&&◌, ◌||◌, IsTrue, List, [], ◌∷◌, Some, slice_get}
use Rattle.tla_lex.specs.declared.token.Token.{Token}
use Rattle.tla_lex.specs.declared.token.Kind.{Kind}
use Rattle.tla_lex.specs.declared.token.Kind.TheVariants as k
use Rattle.tla_lex.specs.Strings.{IsTextOf}
use Rattle.tla_grammar.specs.declared.context.Context.{Context}
use Rattle.tla_tree.specs.declared.tree.Bullet.{Bullet}
use Rattle.tla_tree.specs.declared.tree.Infix.TheVariants as i
use Rattle.tla_grammar.specs.Operators.{high, prefix_high, is_product, infix_of, prefix_of, bullet_of, quantifier_of, constant_of}
use Rattle.tla_tree.specs.Places.{place}
use Rattle.tla_grammar.specs.Edges.{edge_allows, top_above, is_closed}
use Rattle.tla_grammar.specs.Kinds.{kind_at, opening, closing, step_opening, step_closing, fairness_word}
use Rattle.tla_tree.specs.declared.tree.Brackets.TheVariants as b
use Rattle.tla_tree.specs.Words.{word_of}
use Rattle.tla_grammar.specs.Tokens.{Has, Is, Writes, Names, seen, is_bullet_at, may_follow}
use Rattle.tla_grammar.specs.Entries.{Entry, BeginsEntry, is_single}
use Rattle.tla_tree.specs.Tree.{Filter, Image, Function, FunctionSet, Record, RecordSet, Except, Action, Fair, Product, Fields, Key, Keys, Updates, no_fields, field, AtIndex, AtField, no_keys, key, no_updates, update, Tree, Trees, Binders, Arms, Other, Definition, Definitions, none, more, unbound, bound, no_arms, arm, no_other, other, DefinesOperator, DefinesFunction, undefined, defined, Case, Let, Name, Number, Text, Word, At, Paren, Listing, Call, Prime, Index, Field, Unary, Binary, Quantified, Choose, If, Junction}

-- the context of an item: every token is right of the list's column
abbrev pub within : Context → ℕ → Context
within s column = record s { column = column }

-- the context of the expression of an update, where `@` has a meaning
abbrev pub updating : Context → Context
updating s = record s { updating = true }

-- what the subscript of an action or of fairness may be: a name, a tuple or (e)
abbrev pub is_subscript : Tree → Bool
is_subscript (Name _) = true
is_subscript (Paren _ _) = true
is_subscript (Listing _ b.Tuple _) = true
is_subscript _ = false

abbrev pub is_path : Keys → Bool
is_path no_keys = false
is_path _ = true

abbrev pub is_some : Trees → Bool
is_some none = false
is_some (more e es) = true

abbrev pub is_defined : Definitions → Bool
is_defined undefined = false
is_defined (defined d ds) = true

module _ (text : List ℕ) (ts : List Token) where
  -- The tree spells the tokens from the first number up to the second, all of them right of the context's column.
  abbrev mutual
    pub Spells : Context → Tree → ℕ → ℕ → Type 0
    Spells s (Name w) from to = Writes ts text s.column k.Name w from × (to ≡ from + 1)
    Spells s (Number p n) from to = Is ts s.column (k.Number n) p from × (to ≡ from + 1)
    Spells s (Text p x) from to = (t : Token) × (seen ts s.column from ≡ Some t) × (t.kind ≡ k.Text) × (t.place ≡ p) × IsTextOf (word_of text t) x × (to ≡ from + 1)
    Spells s (Word p c) from to = (kind : Kind) × Is ts s.column kind p from × (constant_of kind ≡ Some c) × (to ≡ from + 1)
    Spells s (At p) from to = Is ts s.column k.At p from × IsTrue s.updating × (to ≡ from + 1)
    Spells s (Paren p e) from to = (mid : ℕ) × Is ts s.column k.LeftParen p from × Spells s e (from + 1) mid × Has ts s.column k.RightParen mid × (to ≡ mid + 1)
    Spells s (Listing p b es) from to = Is ts s.column (opening b) p from × Listed s (closing b) es (from + 1) to
    Spells s (Filter p w b e) from to = (m n : ℕ) × Is ts s.column k.LeftBrace p from × IsTrue (is_single w) × Entry text ts s.column w (Spells s b) (from + 1) m
        × Has ts s.column k.Colon m × Spells s e (m + 1) n × Has ts s.column k.RightBrace n × (to ≡ n + 1)
    Spells s (Image p e bs) from to = (m n : ℕ) × Is ts s.column k.LeftBrace p from × (BeginsEntry text ts s.column (from + 1) → ⊥) × Spells s e (from + 1) m × Has ts s.column k.Colon m
        × Bound s bs (m + 1) n × Has ts s.column k.RightBrace n × (to ≡ n + 1)
    Spells s (Function p bs e) from to = (m n : ℕ) × Is ts s.column k.LeftBracket p from × Bound s bs (from + 1) m × Has ts s.column k.MapsTo m × Spells s e (m + 1) n × Has ts s.column k.RightBracket n × (to ≡ n + 1)
    Spells s (FunctionSet p a b) from to = (m n : ℕ) × Is ts s.column k.LeftBracket p from × Spells s a (from + 1) m × Has ts s.column k.Arrow m × Spells s b (m + 1) n × Has ts s.column k.RightBracket n × (to ≡ n + 1)
    Spells s (Record p fs) from to = (m : ℕ) × Is ts s.column k.LeftBracket p from × Fielded s k.MapsTo fs (from + 1) m × Has ts s.column k.RightBracket m × (to ≡ m + 1)
    Spells s (RecordSet p fs) from to = (m : ℕ) × Is ts s.column k.LeftBracket p from × Fielded s k.Colon fs (from + 1) m × Has ts s.column k.RightBracket m × (to ≡ m + 1)
    Spells s (Except p f us) from to = (m n : ℕ) × Is ts s.column k.LeftBracket p from × Spells s f (from + 1) m × Has ts s.column k.Except m × Updated s us (m + 1) n × Has ts s.column k.RightBracket n × (to ≡ n + 1)
    Spells s (Action p g a v) from to = (m : ℕ) × Is ts s.column (step_opening g) p from × Spells s a (from + 1) m × Has ts s.column (step_closing g) m × Spells s v (m + 1) to × IsTrue (is_subscript v)
    Spells s (Fair p f v a) from to = (m n : ℕ) × Is ts s.column (fairness_word f) p from × Spells s v (from + 1) m × IsTrue (is_subscript v)
        × Has ts s.column k.LeftParen m × Spells s a (m + 1) n × Has ts s.column k.RightParen n × (to ≡ n + 1)
    Spells s (Call w es) from to = Writes ts text s.column k.Name w from × Has ts s.column k.LeftParen (from + 1) × Listed s k.RightParen es (from + 2) to × IsTrue (is_some es)
    Spells s (Prime p e) from to = (mid : ℕ) × Spells s e from mid × Has ts s.column k.Prime mid × IsTrue (is_closed e) × (p ≡ place e) × (to ≡ mid + 1)
    Spells s (Index p e es) from to = (mid : ℕ) × Spells s e from mid × Has ts s.column k.LeftBracket mid × Listed s k.RightBracket es (mid + 1) to × IsTrue (is_some es) × IsTrue (is_closed e) × (p ≡ place e)
    Spells s (Field p e w) from to = (mid : ℕ) × Spells s e from mid × Has ts s.column k.Dot mid × Writes ts text s.column k.Name w (mid + 1) × IsTrue (is_closed e) × (p ≡ place e) × (to ≡ mid + 2)
    Spells s (Unary p op e) from to = (kind : Kind) × Is ts s.column kind p from × (prefix_of kind ≡ Some op) × Spells s e (from + 1) to × IsTrue (top_above (prefix_high op) e)
    Spells s (Binary p op w l r) from to = (mid : ℕ) × (kind : Kind) × Spells s l from mid × Writes ts text s.column kind w mid × (infix_of kind ≡ Some op) × Spells s r (mid + 1) to
        × IsTrue (edge_allows l op) × IsTrue (top_above (high op) r) × (p ≡ place l) × IsTrue (not (is_product op))
    Spells s (Quantified p q bs e) from to = (mid : ℕ) × (kind : Kind) × Is ts s.column kind p from × (quantifier_of kind ≡ Some q)
        × Bound s bs (from + 1) mid × Has ts s.column k.Colon mid × Spells s e (mid + 1) to
    Spells s (Choose p w b e) from to = (mid : ℕ) × Is ts s.column k.Choose p from × IsTrue (is_single w) × Entry text ts s.column w (Spells s b) (from + 1) mid
        × Has ts s.column k.Colon mid × Spells s e (mid + 1) to
    Spells s (If p a b e) from to = (m n : ℕ) × Is ts s.column k.If p from × Spells s a (from + 1) m × Has ts s.column k.Then m × Spells s b (m + 1) n × Has ts s.column k.Else n × Spells s e (n + 1) to
    Spells s (Case p cs o) from to = (mid : ℕ) × Is ts s.column k.Case p from × Chosen s cs (from + 1) mid × Otherwise s o mid to
    Spells s (Let p ds e) from to = (mid : ℕ) × Is ts s.column k.Let p from × Defined s ds (from + 1) mid × Has ts s.column k.In mid × Spells s e (mid + 1) to × IsTrue (is_defined ds)
    Spells s (Junction p b es) from to = (kind : Kind) × Is ts s.column kind p from × (bullet_of kind ≡ Some b) × Items (within s p.column) b es from to
        × IsTrue (not (is_bullet_at p.column b (slice_get ts to)) && may_follow p.column (slice_get ts to))
    Spells s (Product p e es) from to = (mid : ℕ) × Spells s e from mid × Factors s es mid to × IsTrue (edge_allows e i.Product) × IsTrue (is_some es) × (p ≡ place e)

    -- Each item of a list has the bullet before it, in the list's column, and is right of that column.
    pub Items : Context → Bullet → Trees → ℕ → ℕ → Type 0
    Items s b none from to = to ≡ from
    Items s b (more e es) from to = (mid : ℕ) × IsTrue (is_bullet_at s.column b (slice_get ts from)) × Spells s e (from + 1) mid × Items s b es mid to

    -- The operands of a product after the first: each may be right of `\X`, and each but the last left of it. (What may
    -- be left may be right.)
    pub Factors : Context → Trees → ℕ → ℕ → Type 0
    Factors s none from to = to ≡ from
    Factors s (more e es) from to = (mid : ℕ) × Has ts s.column k.Product from × Spells s e (from + 1) mid × IsTrue (top_above (high i.Product) e) × IsTrue (not (is_some es) || edge_allows e i.Product) × Factors s es mid to

    -- expressions with commas between them, and the closing bracket
    pub Listed : Context → Kind → Trees → ℕ → ℕ → Type 0
    Listed s close none from to = Has ts s.column close from × (to ≡ from + 1)
    Listed s close (more e es) from to = (mid : ℕ) × Spells s e from mid × Others s close es mid to

    -- those after the first, each with a comma before it
    pub Others : Context → Kind → Trees → ℕ → ℕ → Type 0
    Others s close none from to = Has ts s.column close from × (to ≡ from + 1)
    Others s close (more e es) from to = (mid : ℕ) × Has ts s.column k.Comma from × Spells s e (from + 1) mid × Others s close es mid to

    -- x, y \in S, <<z, w>> \in T
    pub Bound : Context → Binders → ℕ → ℕ → Type 0
    Bound s unbound from to = ⊥
    Bound s (bound w e bs) from to = (n : ℕ) × Entry text ts s.column w (Spells s e) from n × MoreBound s bs n to

    pub MoreBound : Context → Binders → ℕ → ℕ → Type 0
    MoreBound s unbound from to = to ≡ from
    MoreBound s (bound w e bs) from to = (n : ℕ) × Has ts s.column k.Comma from × Entry text ts s.column w (Spells s e) (from + 1) n × MoreBound s bs n to

    -- a |-> e, b |-> e, or with colons
    pub Fielded : Context → Kind → Fields → ℕ → ℕ → Type 0
    Fielded s mark no_fields from to = ⊥
    Fielded s mark (field w e fs) from to = (m : ℕ) × Writes ts text s.column k.Name w from × Has ts s.column mark (from + 1) × Spells s e (from + 2) m × MoreFields s mark fs m to

    pub MoreFields : Context → Kind → Fields → ℕ → ℕ → Type 0
    MoreFields s mark no_fields from to = to ≡ from
    MoreFields s mark (field w e fs) from to = (m : ℕ) × Has ts s.column k.Comma from × Writes ts text s.column k.Name w (from + 1) × Has ts s.column mark (from + 2) × Spells s e (from + 3) m × MoreFields s mark fs m to

    -- the path of an update
    pub Leads : Context → Keys → ℕ → ℕ → Type 0
    Leads s no_keys from to = to ≡ from
    Leads s (key x ks) from to = (m : ℕ) × Selects s x from m × Leads s ks m to

    -- [e, ..] or .a
    pub Selects : Context → Key → ℕ → ℕ → Type 0
    Selects s (AtIndex es) from to = Has ts s.column k.LeftBracket from × Listed s k.RightBracket es (from + 1) to × IsTrue (is_some es)
    Selects s (AtField w) from to = Has ts s.column k.Dot from × Writes ts text s.column k.Name w (from + 1) × (to ≡ from + 2)

    -- !p = e, !p = e
    pub Updated : Context → Updates → ℕ → ℕ → Type 0
    Updated s no_updates from to = ⊥
    Updated s (update ks e us) from to = (m n : ℕ) × Has ts s.column k.Bang from × Leads s ks (from + 1) m × IsTrue (is_path ks) × Has ts s.column k.Equal m × Spells (updating s) e (m + 1) n × MoreUpdates s us n to

    pub MoreUpdates : Context → Updates → ℕ → ℕ → Type 0
    MoreUpdates s no_updates from to = to ≡ from
    MoreUpdates s (update ks e us) from to = (m n : ℕ) × Has ts s.column k.Comma from × Has ts s.column k.Bang (from + 1) × Leads s ks (from + 2) m × IsTrue (is_path ks) × Has ts s.column k.Equal m
        × Spells (updating s) e (m + 1) n × MoreUpdates s us n to

    -- p -> e, with `[]` between
    pub Chosen : Context → Arms → ℕ → ℕ → Type 0
    Chosen s no_arms from to = ⊥
    Chosen s (arm g e cs) from to = (m n : ℕ) × Spells s g from m × Has ts s.column k.Arrow m × Spells s e (m + 1) n × MoreChosen s cs n to

    pub MoreChosen : Context → Arms → ℕ → ℕ → Type 0
    MoreChosen s no_arms from to = to ≡ from
    MoreChosen s (arm g e cs) from to = (m n : ℕ) × Has ts s.column k.Box from × Spells s g (from + 1) m × Has ts s.column k.Arrow m × Spells s e (m + 1) n × MoreChosen s cs n to

    -- A CASE takes every `[]` that follows an arm.
    pub Otherwise : Context → Other → ℕ → ℕ → Type 0
    Otherwise s no_other from to = IsTrue (not (kind_at k.Box (seen ts s.column to))) × (to ≡ from)
    Otherwise s (other e) from to = Has ts s.column k.Box from × Has ts s.column k.Other (from + 1) × Has ts s.column k.Arrow (from + 2) × Spells s e (from + 3) to

    pub Defines : Context → Definition → ℕ → ℕ → Type 0
    Defines s (DefinesOperator w [] e) from to = Writes ts text s.column k.Name w from × Has ts s.column k.Define (from + 1) × Spells s e (from + 2) to
    Defines s (DefinesOperator w (v ∷ vs) e) from to = (m : ℕ) × Writes ts text s.column k.Name w from × Has ts s.column k.LeftParen (from + 1) × Names ts text s.column (v ∷ vs) (from + 2) m
        × Has ts s.column k.RightParen m × Has ts s.column k.Define (m + 1) × Spells s e (m + 2) to
    Defines s (DefinesFunction w bs e) from to = (m : ℕ) × Writes ts text s.column k.Name w from × Has ts s.column k.LeftBracket (from + 1) × Bound s bs (from + 2) m
        × Has ts s.column k.RightBracket m × Has ts s.column k.Define (m + 1) × Spells s e (m + 2) to

    pub Defined : Context → Definitions → ℕ → ℕ → Type 0
    Defined s undefined from to = to ≡ from
    Defined s (defined d ds) from to = (mid : ℕ) × Defines s d from mid × Defined s ds mid to
