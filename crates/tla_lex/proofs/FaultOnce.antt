-- The first fault of a text is the only one.
use Rattle.std.proofs.Common.{◌≡◌, ℕ, List, take, sym, subst, ◌∙◌}
use Rattle.tla_lex.specs.Bytes.{Bytes}
use Rattle.tla_lex.specs.Closing.{ClosesAt, IsClosingLine, NoClosingLine}
use Rattle.tla_lex.specs.Header.{IsHeader}
use Rattle.tla_lex.specs.Reads.{Reads}
use Rattle.tla_lex.specs.Tokens.{IsFirstFault, not_utf8, no_header, before_closing_line, in_open_module, no_closing_line}
use Rattle.tla_lex.specs.declared.error.LexError.{LexError}
use Rattle.tla_lex.specs.declared.lexeme.Source.TheVariants.{Module}
use Rattle.tla_lex.specs.declared.scan.Stop.{Stop}
use Rattle.tla_lex.specs.declared.scan.Stop.TheVariants.{End, Fault}
use Rattle.tla_lex.specs.declared.token.Place.{Place}
use Rattle.tla_lex.specs.declared.token.Token.{Token}
use Rattle.tla_lex.proofs.Module.{one_header, one_closing_line}
use Rattle.tla_lex.proofs.SoFar.{reads_once}

same_fault : (e f : LexError) → (let s : Stop = Fault e in s ≡ Fault f) → e ≡ f
same_fault e f h = cc

same_end : (p q : Place) → (let s : Stop = End p in s ≡ End q) → p ≡ q
same_end p q h = cc

fault_end : (e : LexError) (p : Place) → Fault e ≡ End p → ⊥
fault_end e p h = cc

module _ (text : Bytes) where
  -- what is read from the one header
  fault_of : (body : Bytes) (from to : ℕ) (ts us : List Token) (e f : LexError) → IsHeader text from → IsHeader text to
      → Reads Module body from ts (Fault e) → Reads Module body to us (Fault f) → e ≡ f
  fault_of body from to ts us e f h k r q =
      let same : to ≡ from = one_header text to from k h in
      same_fault e f (reads_once Module body from ts us (Fault e) (Fault f) r (subst (λ n. Reads Module body n us (Fault f)) same q)).1

  fault_or_end : (from to : ℕ) (ts us : List Token) (e : LexError) (end : Place) → IsHeader text from → IsHeader text to
      → Reads Module text from ts (Fault e) → Reads Module text to us (End end) → ⊥
  fault_or_end from to ts us e end h k r q =
      let same : to ≡ from = one_header text to from k h in
      fault_end e end (reads_once Module text from ts us (Fault e) (End end) r (subst (λ n. Reads Module text n us (End end)) same q)).1

  end_once : (from to : ℕ) (ts us : List Token) (p q : Place) → IsHeader text from → IsHeader text to
      → Reads Module text from ts (End p) → Reads Module text to us (End q) → p ≡ q
  end_once from to ts us p q h k r w =
      let same : to ≡ from = one_header text to from k h in
      same_end p q (reads_once Module text from ts us (End p) (End q) r (subst (λ n. Reads Module text n us (End q)) same w)).1

  -- a module has a closing line or none
  line_or_none : (from to line : ℕ) → IsHeader text from → IsHeader text to → IsClosingLine text from line → NoClosingLine text to → ⊥
  line_or_none from to line h k l none = none line (subst (λ n. ClosesAt text n line) (one_header text from to h k) l.closes)

  before_line : (from to line end : ℕ) (ts us : List Token) (e f : LexError) → IsHeader text from → IsHeader text to → IsClosingLine text from line → IsClosingLine text to end
      → Reads Module (take line text) from ts (Fault e) → Reads Module (take end text) to us (Fault f) → e ≡ f
  before_line from to line end ts us e f h k l m r q =
      let same : end ≡ line = one_closing_line text to end line m (subst (λ n. IsClosingLine text n line) (one_header text from to h k) l) in
      fault_of (take line text) from to ts us e f h k r (subst (λ n. Reads Module (take n text) to us (Fault f)) same q)

  pub fault_once : (e f : LexError) → IsFirstFault text e → IsFirstFault text f → e ≡ f
  fault_once e f (not_utf8 h) (not_utf8 k) = h.1 ∙ sym k.1
  fault_once e f (not_utf8 h) (no_header u n w) = absurd (h.0 u)
  fault_once e f (not_utf8 h) (before_closing_line from to ts u n l r) = absurd (h.0 u)
  fault_once e f (not_utf8 h) (in_open_module from ts u n l r) = absurd (h.0 u)
  fault_once e f (not_utf8 h) (no_closing_line from ts end u n l r w) = absurd (h.0 u)
  fault_once e f (no_header u n w) (not_utf8 h) = absurd (h.0 u)
  fault_once e f (no_header u n w) (no_header v o x) = w ∙ sym x
  fault_once e f (no_header u n w) (before_closing_line from to ts v o l r) = absurd (n from o.ends)
  fault_once e f (no_header u n w) (in_open_module from ts v o l r) = absurd (n from o.ends)
  fault_once e f (no_header u n w) (no_closing_line from ts end v o l r x) = absurd (n from o.ends)
  fault_once e f (before_closing_line from line ts u n l r) (not_utf8 h) = absurd (h.0 u)
  fault_once e f (before_closing_line from line ts u n l r) (no_header v o w) = absurd (o from n.ends)
  fault_once e f (before_closing_line from line ts u n l r) (before_closing_line to end us v o m q) = before_line from to line end ts us e f n o l m r q
  fault_once e f (before_closing_line from line ts u n l r) (in_open_module to us v o m q) = absurd (line_or_none from to line n o l m)
  fault_once e f (before_closing_line from line ts u n l r) (no_closing_line to us end v o m q w) = absurd (line_or_none from to line n o l m)
  fault_once e f (in_open_module from ts u n l r) (not_utf8 h) = absurd (h.0 u)
  fault_once e f (in_open_module from ts u n l r) (no_header v o w) = absurd (o from n.ends)
  fault_once e f (in_open_module from ts u n l r) (before_closing_line to line us v o m q) = absurd (line_or_none to from line o n m l)
  fault_once e f (in_open_module from ts u n l r) (in_open_module to us v o m q) = fault_of text from to ts us e f n o r q
  fault_once e f (in_open_module from ts u n l r) (no_closing_line to us end v o m q w) = absurd (fault_or_end from to ts us e end n o r q)
  fault_once e f (no_closing_line from ts end u n l r w) (not_utf8 h) = absurd (h.0 u)
  fault_once e f (no_closing_line from ts end u n l r w) (no_header v o x) = absurd (o from n.ends)
  fault_once e f (no_closing_line from ts end u n l r w) (before_closing_line to line us v o m q) = absurd (line_or_none to from line o n m l)
  fault_once e f (no_closing_line from ts end u n l r w) (in_open_module to us v o m q) = absurd (fault_or_end to from us ts f end o n q r)
  fault_once e f (no_closing_line from ts end u n l r w) (no_closing_line to us last v o m q x) =
      let same : end ≡ last = end_once from to ts us end last n o r q in cc
