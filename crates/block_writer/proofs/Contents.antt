-- The contents of the inner writer of a `Blocks`.
use Rattle.std.proofs.Common.{◌≡◌, ℕ, ◌+◌, ◌-◌, ◌^◌, ◌<◌, ◌≤◌, min, false, List, [], ◌∷◌, ◌++◌, length, take, drop, None, Some, IfSome, Result, Ok, Err, MatchResult, IfErr, sym, ap, subst, ◌∙◌, arith, append-nil, length-append}
use Rattle.std.specs.Prelude.{Option, OnOk}
use Rattle.std.specs.Result.{is_err, IsErrAnd}
use Rattle.std.specs.Io.KnownBytes.{Appends}
use Rattle.std.proofs.Math.Seq.{take-append-add, drop-append-add, take-append_seam, drop-append_seam}
use Rattle.std.proofs.lemmas.List.{take-take, take_all, take-append-drop, length-take-le, length-drop}
use Rattle.counted_writer.specs.declared.ShortWrite.{ShortWrite}
use Rattle.counted_writer.specs.Puts.{Puts, AddsFirst, count_of}
use Rattle.counted_writer.specs.PutsLaws.{appends_then}
use Rattle.block_writer.specs.Blocks.{named_contents}
use Rattle.block_writer.specs.Sends.{Sends}

-- a list that is split in two ways
splits_same : (ys waits xs zs : List ℕ) (sent : ℕ) → ys ++ waits ≡ xs ++ zs → length ys ≡ length xs + sent
    → (ys ≡ xs ++ take sent zs) × (waits ≡ drop sent zs)
splits_same ys waits xs zs sent same long = (
  sym (take-append_seam ys waits) ∙ ap (take (length ys)) same ∙ ap (λ k. take k (xs ++ zs)) long ∙ take-append-add xs zs sent,
  sym (drop-append_seam ys waits) ∙ ap (drop (length ys)) same ∙ ap (λ k. drop k (xs ++ zs)) long ∙ drop-append-add xs zs sent,
)

-- the count is not above the number of bytes, and below it after a failure
count_ends : {a b : Option (List ℕ)} {bytes : List ℕ} (r : Result ℕ ShortWrite) → Puts a b 0 bytes r
    → MatchResult r (λ count. count ≤ length bytes) (λ short. short.written < length bytes)
count_ends (Ok count) p = let ends = p.ends in let counted = p.counted in omega arith
count_ends (Err short) p = let ends = p.ends in let counted = p.counted in omega arith

taken_within : {a b : Option (List ℕ)} {bytes : List ℕ} (r : Result ℕ ShortWrite) (p : Puts a b 0 bytes r) → p.taken ≤ length bytes
taken_within (Ok count) p = let ends = p.ends in omega arith
taken_within (Err short) p = let ends = p.ends in omega arith

-- at `Ok`, the sum of the bytes sent and those that wait
whole_of : {a b : Option (List ℕ)} {bytes : List ℕ} (r : Result ℕ ShortWrite) (p : Puts a b 0 bytes r) (xs waits : List ℕ) (sent : ℕ)
    → waits ≡ drop sent (take p.taken bytes) → OnOk r (IfSome (Some xs) (λ _. bytes ≡ take sent bytes ++ waits))
whole_of {bytes = bytes} (Ok count) p xs waits sent is =
    let all = take_all p.taken bytes (omega (arith, p.ends)) in
    sym (take-append-drop sent bytes) ∙ ap (λ l. take sent bytes ++ l) (sym (is ∙ ap (drop sent) all))
whole_of (Err short) p xs waits sent is = tt

sends : (name name' : ℕ) (a b new : Option (List ℕ)) (waits kept bytes : List ℕ) (given : ℕ) (r : Result ℕ ShortWrite)
    → length waits ≤ given → given < 2 ^ 64
    → Puts (named_contents name a [] 0) (named_contents name' b waits given) 0 bytes r
    → (name' ≡ name → new ≡ b) → kept ≡ drop (length waits - min (length waits) (count_of r)) waits → Sends a new bytes kept r
sends name name' None b new waits kept bytes given (Ok count) within fits p lent is = record {
  sent = count - length kept;
  counted = omega (arith, ap length is, length-drop (length waits - min (length waits) count) waits);
  ends = count_ends (Ok count) p;
  added = tt;
  whole = tt;
}
sends name name' None b new waits kept bytes given (Err short) within fits p lent is = record {
  sent = short.written - length kept;
  counted = omega (arith, ap length is, length-drop (length waits - min (length waits) short.written) waits);
  ends = count_ends (Err short) p;
  added = tt;
  whole = tt;
}
sends name name' (Some xs) None new waits kept bytes given r within fits p lent is = absurd p.added
sends name name' (Some xs) (Some ys) new waits kept bytes given r within fits p lent is =
    let added : name' ∷ (length (ys ++ waits) + (2 ^ 64 - 1 - given)) ∷ (ys ++ waits)
    ≡ name ∷ (length (xs ++ []) + (2 ^ 64 - 1 - 0)) ∷ ((xs ++ []) ++ take p.taken bytes) = p.added in
    let named : name' ≡ name = cc in
    let numbers : length (ys ++ waits) + (2 ^ 64 - 1 - given) ≡ length (xs ++ []) + (2 ^ 64 - 1 - 0) = cc in
    let tails : ys ++ waits ≡ (xs ++ []) ++ take p.taken bytes = cc in
    let joined = tails ∙ ap (λ l. l ++ take p.taken bytes) (append-nil xs) in
    let first = take p.taken bytes in
    let taken : length first ≡ p.taken = length-take-le p.taken bytes (taken_within r p) in
    let lengths = ap length joined in
    let both = length-append ys waits in
    let front = length-append xs first in
    let none = ap length (append-nil xs) in
    let all : p.taken ≡ given = omega arith in
    let count : count_of r ≡ given = omega (arith, p.counted) in
    let zero : length waits - min (length waits) (count_of r) ≡ 0 = omega arith in
    let kept_all : kept ≡ waits = is ∙ ap (λ k. drop k waits) zero in
    let sent = given - length waits in
    let long : length ys ≡ length xs + sent = omega arith in
    let split = splits_same ys waits xs first sent joined long in
    let shorter : sent ≤ p.taken = omega arith in
    record {
      sent = sent;
      counted = omega (arith, ap length kept_all);
      ends = count_ends r p;
      added = subst (λ (b : Option (List ℕ)). Appends (Some xs) b (take sent bytes)) (sym (lent named)) (split.0 ∙ ap (λ l. xs ++ l) (take-take sent p.taken bytes shorter));
      whole = whole_of r p xs kept sent (kept_all ∙ split.1);
    }

-- what writing a document through an empty block did to the inner writer
pub sends_from : {name name' : ℕ} {a first b new : Option (List ℕ)} {none kept bytes : List ℕ} {start given : ℕ} {r : Result ℕ ShortWrite} (waits : List ℕ)
    → first ≡ a → none ≡ [] → start ≡ 0 → length waits ≤ given → given < 2 ^ 64
    → Puts (named_contents name first none start) (named_contents name' b waits given) 0 bytes r
    → (name' ≡ name → new ≡ b) → kept ≡ drop (length waits - min (length waits) (count_of r)) waits → Sends a new bytes kept r
sends_from {name} {name'} {a} {first} {b} {new} {none} {kept} {bytes} {start} {given} {r} waits same empty zero within fits p lent is =
    let from_first = subst (λ (f : Option (List ℕ)). Puts (named_contents name f none start) (named_contents name' b waits given) 0 bytes r) same p in
    let from_none = subst (λ (n : List ℕ). Puts (named_contents name a n start) (named_contents name' b waits given) 0 bytes r) empty from_first in
    let from_zero = subst (λ (s : ℕ). Puts (named_contents name a [] s) (named_contents name' b waits given) 0 bytes r) zero from_none in
    sends name name' a b new waits kept bytes given r within fits from_zero lent is

added_last : (a b c : Option (List ℕ)) (bytes waits : List ℕ) (sent more : ℕ) → sent ≤ length bytes → Appends a b (take sent bytes)
    → IfSome a (λ _. bytes ≡ take sent bytes ++ waits) → Appends b c (take more waits) → Appends a c (take (sent + more) bytes)
added_last None b c bytes waits sent more within p whole q = tt
added_last (Some xs) b c bytes waits sent more within p whole q =
    let front = take sent bytes in
    let long : length front ≡ sent = length-take-le sent bytes within in
    let joined : take (sent + more) bytes ≡ front ++ take more waits =
    ap (take (sent + more)) whole ∙ ap (λ n. take (n + more) (front ++ waits)) (sym long) ∙ take-append-add front waits more in
    subst (Appends (Some xs) c) (sym joined) (appends_then (Some xs) b c front (take more waits) p q)

-- only a part of the last block was written
pub fault_last : {a b c : Option (List ℕ)} {bytes waits rest : List ℕ} {count : ℕ} (given : Result ℕ ShortWrite) (fault : ShortWrite)
    → Sends a b bytes waits given → is_err given ≡ false → rest ≡ waits → count ≡ count_of given
    → Puts b c (count - length rest) rest (Err fault) → AddsFirst a c bytes fault.written
fault_last {a} {b} {c} {bytes} {waits} {rest} {count} (Ok all) fault s ok same is p =
    let long = ap length same in
    let counted = s.counted in
    let within = s.ends in
    let short = p.ends in
    let after = p.counted in
    record {
      taken = s.sent + p.taken;
      short = omega arith;
      added = added_last a b c bytes waits s.sent p.taken (omega arith) s.added s.whole (subst (λ (l : List ℕ). Appends b c (take p.taken l)) same p.added);
      counted = omega arith;
    }
fault_last (Err short) fault s ok same is p = absurd (cc)

-- the early return of a `?`
pub fault_exit : {T : Type 0} {a c : Option (List ℕ)} {bytes : List ℕ} (r : Result T ShortWrite) (fault : ShortWrite)
    → IsErrAnd r (λ e. e ≡ fault) → AddsFirst a c bytes fault.written → IfErr r (λ e. AddsFirst a c bytes e.written)
fault_exit (Ok x) fault is p = absurd is
fault_exit {a = a} {c = c} {bytes = bytes} (Err e) fault is p = subst (λ (f : ShortWrite). AddsFirst a c bytes f.written) (sym is) p
