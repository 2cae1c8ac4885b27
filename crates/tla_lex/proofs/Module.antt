-- A module has one list of tokens, and none where it has a fault.
use Rattle.std.proofs.Common.{◌≡◌, ◌≤◌, ◌<◌, ℕ, ◌+◌, List, [], ◌∷◌, ◌++◌, Bool, true, false, if◌then◌else◌, ◌==◌, Option, Some, None, IsSome, length, take, drop, refl, ap, sym, subst, ◌∙◌, arith, length-take}
use Rattle.std.proofs.lemmas.List.{take_all}
use Rattle.std.specs.Str.{IsUtf8}
use Rattle.tla_lex.specs.Bytes.{Bytes}
use Rattle.tla_lex.specs.Closing.{IsClosingLine, NoClosingLine}
use Rattle.tla_lex.specs.Header.{IsHeader}
use Rattle.tla_lex.specs.Module.{header_end, closing, body, end_or}
use Rattle.tla_lex.specs.Private.FrontSize.{IsEndPlace}
use Rattle.tla_lex.specs.Gap.{gap}
use Rattle.tla_lex.specs.Lexeme.{lexeme}
use Rattle.tla_lex.specs.Places.{place_at, advance_all, first_place}
use Rattle.tla_lex.specs.Reads.{Reads, InOrder, front, behind, begun, begun_at, fault_at}
use Rattle.tla_lex.specs.Tokens.{AreTokens, NoTokens, IsFirstFault, not_utf8, no_header, before_closing_line, in_open_module, no_closing_line, closing_line}
use Rattle.tla_lex.specs.declared.error.LexError.{LexError}
use Rattle.tla_lex.specs.declared.error.LexCode.{LexCode}
use Rattle.tla_lex.specs.declared.error.LexCode.TheVariants.{OpenComment, NoHeader}
use Rattle.tla_lex.specs.declared.error.LexCode.TheVariants as code
use Rattle.tla_lex.specs.declared.gap.Gap.{Gap}
use Rattle.tla_lex.specs.declared.gap.Gap.TheVariants as gaps
use Rattle.tla_lex.specs.declared.lexeme.Lexeme.{Lexeme}
use Rattle.tla_lex.specs.declared.lexeme.Lexeme.TheVariants as lexemes
use Rattle.tla_lex.specs.declared.scan.Front.TheVariants.{Stops}
use Rattle.tla_lex.specs.declared.lexeme.Source.{Source}
use Rattle.tla_lex.specs.declared.lexeme.Source.TheVariants.{Module}
use Rattle.tla_lex.specs.declared.scan.Stop.{Stop}
use Rattle.tla_lex.specs.declared.scan.Stop.TheVariants.{End, Fault}
use Rattle.tla_lex.specs.declared.token.Place.{Place}
use Rattle.tla_lex.specs.declared.token.Token.{Token}
use Rattle.tla_lex.proofs.ClosingFound.{closing_is_found}
use Rattle.tla_lex.proofs.HeaderFound.{header_is_found}
use Rattle.tla_lex.proofs.SoFar.{reads_once}
use Rattle.tla_lex.proofs.Spans.{in_order_more}

same_some : (o : Option ℕ) (m n : ℕ) → o ≡ Some m → o ≡ Some n → m ≡ n
same_some o m n a b = cc

-- the body before a closing line
pub body_some : (text : Bytes) (from to : ℕ) → closing text from ≡ Some to → body text from ≡ take to text
body_some text from to h = ap (λ o. take (end_or o (length text)) text) h

-- what the loops find in a module
header_of : (text : Bytes) (ts : List Token) (a : AreTokens text ts) → header_end text ≡ Some a.from
header_of text ts a = ((header_is_found text).0 a.from).1 a.header

line_of : (text : Bytes) (ts : List Token) (a : AreTokens text ts) → closing text a.from ≡ Some a.to
line_of text ts a = ((closing_is_found text a.from).0 a.to).1 a.line

reads_of : (text : Bytes) (ts : List Token) (a : AreTokens text ts) → Reads Module (body text a.from) a.from a.inner (End a.end)
reads_of text ts a = subst (λ b. Reads Module b a.from a.inner (End a.end)) (sym (body_some text a.from a.to (line_of text ts a))) a.reads

-- there is one header, and one closing line after it
pub one_header : (text : Bytes) (m n : ℕ) → IsHeader text m → IsHeader text n → m ≡ n
one_header text m n h k = same_some (header_end text) m n (((header_is_found text).0 m).1 h) (((header_is_found text).0 n).1 k)

pub one_closing_line : (text : Bytes) (from m n : ℕ) → IsClosingLine text from m → IsClosingLine text from n → m ≡ n
one_closing_line text from m n h k = same_some (closing text from) m n (((closing_is_found text from).0 m).1 h) (((closing_is_found text from).0 n).1 k)

module _ (text : Bytes) (ts us : List Token) (a : AreTokens text ts) (b : AreTokens text us) where
  same_from : a.from ≡ b.from
  same_from = same_some (header_end text) a.from b.from (header_of text ts a) (header_of text us b)

  same_to : a.to ≡ b.to
  same_to = same_some (closing text b.from) a.to b.to (ap (λ n. closing text n) (sym same_from) ∙ line_of text ts a) (line_of text us b)

  same_inner : a.inner ≡ b.inner
  same_inner =
      let r : Reads Module (body text b.from) b.from a.inner (End a.end) = rw (← same_from) (reads_of text ts a) in
      (reads_once Module (body text b.from) b.from a.inner b.inner (End a.end) (End b.end) r (reads_of text us b)).0

  pub tokens_once : ts ≡ us
  tokens_once = a.all ∙ ap (λ xs. xs ++ closing_line text a.to ∷ []) same_inner ∙ ap (λ n. b.inner ++ closing_line text n ∷ []) same_to ∙ sym b.all

-- a text that ends at a closing line has no fault before it, and the other way round
no_stop : (text : Bytes) (from to : ℕ) (ts : List Token) (e : LexError) (us : List Token) (a : AreTokens text us)
    → IsHeader text from → IsClosingLine text from to → Reads Module (take to text) from ts (Fault e) → ⊥
no_stop text from to ts e us a h l r =
    let s : from ≡ a.from = one_header text from a.from h a.header in
    let k : IsClosingLine text a.from to = subst (λ n. IsClosingLine text n to) s l in
    let t : to ≡ a.to = one_closing_line text a.from to a.to k a.line in
    let q : Reads Module (take a.to text) a.from ts (Fault e) = subst (λ n. Reads Module (take a.to text) n ts (Fault e)) s (subst (λ n. Reads Module (take n text) from ts (Fault e)) t r) in
    let w = (reads_once Module (take a.to text) a.from ts a.inner (Fault e) (End a.end) q a.reads).1 in
    (let z : ⊥ = cc in z)

no_line : (text : Bytes) (from : ℕ) (us : List Token) (a : AreTokens text us) → IsHeader text from → NoClosingLine text from → ⊥
no_line text from us a h n =
    let s : from ≡ a.from = one_header text from a.from h a.header in
    let k : NoClosingLine text a.from = subst (λ m. NoClosingLine text m) s n in
    k a.to a.line.closes

pub fault_means_none : (text : Bytes) (e : LexError) → IsFirstFault text e → NoTokens text
fault_means_none text e (not_utf8 n) us a = n.0 a.utf8
fault_means_none text e (no_header u h p) us a = h a.from a.header.ends
fault_means_none text e (before_closing_line from to ts u h l r) us a = no_stop text from to ts e us a h l r
fault_means_none text e (in_open_module from ts u h l r) us a = no_line text from us a h l
fault_means_none text e (no_closing_line from ts end u h l r p) us a = no_line text from us a h l

placed_begun : (text : Bytes) (at : ℕ) (x : Lexeme) (e : LexError) → begun text at x ≡ Stops (Fault e) → IsSome e.place
placed_begun text at (lexemes.Found k n) e h = (let z : ⊥ = cc in absurd z)
placed_begun text at (lexemes.Fault c n) e h = let p : e ≡ fault_at text c (at + n) = cc in rw p refl

placed_end : (source : Source) (text : Bytes) (at : ℕ) (b : Bool) (e : LexError)
    → (if b then Stops (End (place_at text at)) else begun_at source text at) ≡ Stops (Fault e) → IsSome e.place
placed_end source text at true e h = (let z : ⊥ = cc in absurd z)
placed_end source text at false e h = placed_begun text at (lexeme source (drop at text)) e h

placed_gap : (source : Source) (text : Bytes) (at : ℕ) (g : Gap) (e : LexError) → behind source text at g ≡ Stops (Fault e) → IsSome e.place
placed_gap source text at (gaps.Open n) e h = let p : e ≡ fault_at text OpenComment (at + n) = cc in rw p refl
placed_gap source text at (gaps.End n) e h = placed_end source text (at + n) (at + n == length text) e h

stop_placed : (source : Source) (text : Bytes) (at : ℕ) (e : LexError) → front source text at ≡ Stops (Fault e) → IsSome e.place
unfolding front
stop_placed source text at e h = placed_gap source text at (gap (drop at text)) e h

-- a fault has a place
pub fault_placed : (source : Source) (text : Bytes) (at : ℕ) (ts : List Token) (e : LexError) → Reads source text at ts (Fault e) → IsSome e.place
fault_placed source text at [] e r = stop_placed source text at e r
fault_placed source text at (t ∷ ts) e r = fault_placed source text t.end ts e r.1

-- the body where there is no closing line
pub body_none : (text : Bytes) (from : ℕ) → closing text from ≡ None → body text from ≡ text
body_none text from h = ap (λ o. take (end_or o (length text)) text) h ∙ take_all (length text) text (omega arith)

-- what the loops find is the first fault
pub fault_of_no_header : (text : Bytes) (e : LexError) → IsUtf8 text → header_end text ≡ None → e ≡ fault_at text NoHeader 0 → IsFirstFault text e
fault_of_no_header text e u h p = no_header u ((header_is_found text).1.0 h) p

pub fault_of_body : (text : Bytes) (from : ℕ) (ts : List Token) (e : LexError) → IsUtf8 text → header_end text ≡ Some from → Reads Module (body text from) from ts (Fault e) → IsFirstFault text e
fault_of_body text from ts e u h r = by (closing text from) refl
  where
    header : IsHeader text from
    header = ((header_is_found text).0 from).0 h

    by : (o : Option ℕ) → closing text from ≡ o → IsFirstFault text e
    by None n = in_open_module from ts u header ((closing_is_found text from).1.0 n) (subst (λ b. Reads Module b from ts (Fault e)) (body_none text from n) r)
    by (Some to) l = before_closing_line from to ts u header (((closing_is_found text from).0 to).0 l) (subst (λ b. Reads Module b from ts (Fault e)) (body_some text from to l) r)

pub fault_of_no_line : (text : Bytes) (from : ℕ) (ts : List Token) (end : Place) (e : LexError) → IsUtf8 text → header_end text ≡ Some from → closing text from ≡ None
    → Reads Module (body text from) from ts (End end) → e ≡ record { code = code.NoClosingLine; place = Some end } → IsFirstFault text e
fault_of_no_line text from ts end e u h n r p =
    no_closing_line from ts end u (((header_is_found text).0 from).0 h) ((closing_is_found text from).1.0 n) (subst (λ b. Reads Module b from ts (End end)) (body_none text from n) r) p

pub body_len : (text : Bytes) (to : ℕ) → to ≤ length text → length (take to text) ≡ to
body_len text to h = let l = length-take to text in omega (arith, l)

-- the place after the body
pub place_behind : (text : Bytes) (to : ℕ) → to ≤ length text → place_at (take to text) (length (take to text)) ≡ place_at text to
unfolding place_at
place_behind text to h = ap (λ xs. advance_all first_place xs) (take_all (length (take to text)) (take to text) (omega arith))

-- what was read of a text that is the body
pub reads_of_body : (text b : Bytes) (from : ℕ) (line : Option ℕ) (ts : List Token) (s stop : Stop) → line ≡ closing text from
    → b ≡ take (end_or line (length text)) text → s ≡ stop → Reads Module b from ts s → Reads Module (body text from) from ts stop
reads_of_body text b from line ts s stop l h e r =
    let p : b ≡ body text from = h ∙ ap (λ o. take (end_or o (length text)) text) l in
    subst (λ x. Reads Module (body text from) from ts x) e (subst (λ x. Reads Module x from ts s) p r)

pub found_tokens : (text : Bytes) (from to : ℕ) (inner : List Token) (end : Place) → IsUtf8 text → header_end text ≡ Some from → closing text from ≡ Some to
    → to ≤ length text → to < (closing_line text to).end → (closing_line text to).end ≤ length text
    → Reads Module (body text from) from inner (End end) → InOrder from (length (body text from)) inner → AreTokens text (inner ++ closing_line text to ∷ [])
found_tokens text from to inner end u h l w a b r o =
    let n : length (body text from) ≡ to = ap (λ xs. length xs) (body_some text from to l) ∙ body_len text to w in
    record {
      utf8 = u;
      from = from;
      to = to;
      inner = inner;
      end = end;
      header = ((header_is_found text).0 from).0 h;
      line = ((closing_is_found text from).0 to).0 l;
      reads = subst (λ b. Reads Module b from inner (End end)) (body_some text from to l) r;
      all = refl;
      in_order = in_order_more from (length (body text from)) (length text) inner (closing_line text to) o (omega (arith, n)) a b;
    }

pub same_body : (text b : Bytes) (from : ℕ) (line : Option ℕ) → line ≡ closing text from → b ≡ take (end_or line (length text)) text → b ≡ body text from
same_body text b from line l h = h ∙ ap (λ o. take (end_or o (length text)) text) l

-- the place at which the body ends
pub place_of_end : (text b : Bytes) (from to : ℕ) (place : Place) (stop : Stop) → b ≡ body text from → closing text from ≡ Some to → to ≤ length text
    → stop ≡ End place → IsEndPlace b stop → place ≡ place_at text to
place_of_end text b from to place stop h l w e p =
    let q : place ≡ place_at b (length b) = subst (λ s. IsEndPlace b s) e p in
    q ∙ ap (λ xs. place_at xs (length xs)) (h ∙ body_some text from to l) ∙ place_behind text to w

-- the fault at the first byte
pub first_fault : (text : Bytes) (code : LexCode) → record { code = code; place = Some first_place } ≡ fault_at text code 0
unfolding place_at
first_fault text code = refl
