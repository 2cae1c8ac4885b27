-- The loop over a string reads exactly its text.
use Rattle.std.proofs.Common.{◌≡◌, ◌<◌, Bool, true, false, if◌then◌else◌, [], ◌∷◌, ◌++◌, length, drop, append-nil, refl, sym, ap, ◌∙◌, subst, arith}
use Rattle.std.proofs.lemmas.Bool.Decides.{Decides-eqb}
use Rattle.tla_lex.specs.Bytes.{Bytes, is_quote, is_backslash}
use Rattle.tla_lex.specs.ScannerLaws.{TextIsRead}
use Rattle.tla_lex.specs.StringLoops.{unescaped, string_text}
use Rattle.tla_lex.specs.Strings.{Means, closing_quote, itself, escape_of, no_quote, lone_backslash, escaped_byte, IsTextOf}

read_text : (rest text : Bytes) → Means rest text → unescaped false rest ≡ text
unfolding unescaped
read_text rest text (closing_quote r) = refl
read_text rest text (itself b r t q s m) =
    ap (λ c. if c then [] else if is_backslash b then unescaped true r else b ∷ unescaped false r) q
    ∙ ap (λ c. if c then unescaped true r else b ∷ unescaped false r) s
    ∙ ap (λ x. b ∷ x) (read_text r t m)
read_text rest text (escape_of b r t m) = ap (λ x. escaped_byte b ∷ x) (read_text r t m)
read_text rest text no_quote = refl
read_text rest text lone_backslash = refl

-- after a backslash or not
abbrev MeansAt : Bool → Bytes → Bytes → Type 0
MeansAt false bs text = Means bs text
MeansAt true bs text = Means (92 ∷ bs) text

means : (escaped : Bool) (bs : Bytes) → MeansAt escaped bs (unescaped escaped bs)
unfolding unescaped
means false [] = no_quote
means true [] = lone_backslash
means true (b ∷ rest) = escape_of b rest (unescaped false rest) (means false rest)
means false (b ∷ rest) = by (means false rest) (means true rest) (is_quote b) (is_backslash b) refl refl
  where
    by : Means rest (unescaped false rest) → Means (92 ∷ rest) (unescaped true rest) → (c d : Bool) → is_quote b ≡ c → is_backslash b ≡ d
        → Means (b ∷ rest) (if c then [] else if d then unescaped true rest else b ∷ unescaped false rest)
    by m e true d q s = subst (λ x. Means (x ∷ rest) []) (sym ((Decides-eqb b 34).0 q)) (closing_quote rest)
    by m e false true q s = subst (λ x. Means (x ∷ rest) (unescaped true rest)) (sym ((Decides-eqb b 92).0 s)) e
    by m e false false q s = itself b rest (unescaped false rest) q s m

-- the text that is read
pub is_text : (literal : Bytes) → IsTextOf literal (string_text literal)
is_text literal = means false (drop 1 literal)

pub text_is_read : TextIsRead
text_is_read literal text = (λ h. subst (λ x. IsTextOf literal x) h (is_text literal), λ m. read_text (drop 1 literal) text m)

-- and the loop reads no other
pub reads_text : (literal text : Bytes) → IsTextOf literal text → text ≡ string_text literal
reads_text literal text m = sym ((text_is_read literal text).1 m)

-- at the end of the bytes
pub read_to_end : (before left text : Bytes) (escaped : Bool) → before ++ unescaped escaped left ≡ text → length left < 1 → before ≡ text
unfolding unescaped
read_to_end before [] text true h n = sym (append-nil before) ∙ h
read_to_end before [] text false h n = sym (append-nil before) ∙ h
read_to_end before (b ∷ left) text escaped h n = absurd (omega (arith, n))
