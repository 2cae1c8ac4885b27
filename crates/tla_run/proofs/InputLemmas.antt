-- The bytes of a reader in several reads.
use Rattle.std.proofs.Common.{◌≡◌, ◌∙◌, ◌+◌, ◌*◌, ◌<◌, ◌≤◌, ◌++◌, ap, sym, arith, refl, ℕ, List, [], length, take, Option, Some, None, IfSome}
use Rattle.std.proofs.lemmas.List.{append_assoc, append-nil, length-append}
use Rattle.std.specs.Io.KnownBytes.{Consumes, IsAtEnd}

-- after some reads: the reader had the known bytes `before` and has `after`, and returned `bytes`, one to
-- `most` of them in each read
pub record HasRead (most : ℕ) (before after : Option (List ℕ)) (bytes : List ℕ) (reads : ℕ) : Type 0 where
  pub consumed : Consumes before after bytes
  pub least : reads ≤ length bytes
  pub size : length bytes ≤ reads * most

consumes_more : (a b c : Option (List ℕ)) (xs ys : List ℕ) → Consumes a b xs → Consumes b c ys → Consumes a c (xs ++ ys)
consumes_more None b c xs ys h k = tt
consumes_more (Some a) None c xs ys h k = absurd h
consumes_more (Some a) (Some b) None xs ys h k = absurd k
consumes_more (Some a) (Some b) (Some c) xs ys h k = h ∙ ap (λ t. xs ++ t) k ∙ sym (append_assoc xs ys c)

pub no_reads : (most : ℕ) (known : Option (List ℕ)) → HasRead most known known [] 0
no_reads most None = record { consumed = tt; least = omega arith; size = omega arith }
no_reads most (Some xs) = record { consumed = refl; least = omega arith; size = omega arith }

-- one more read, which gave the first n bytes of the buffer
pub one_more : (most : ℕ) (a b c : Option (List ℕ)) (bytes buffer : List ℕ) (reads n : ℕ) → HasRead most a b bytes reads
    → Consumes b c (take n buffer) → n ≡ length (take n buffer) → 0 < n → n ≤ most → HasRead most a c (bytes ++ take n buffer) (reads + 1)
one_more most a b c bytes buffer reads n h read count some fits =
    let len = length-append bytes (take n buffer) in
    record {
      consumed = consumes_more a b c bytes (take n buffer) h.consumed read;
      least = let l = h.least in omega (arith, len, count, l);
      size = let s = h.size in let e : (reads + 1) * most ≡ reads * most + most = omega arith in omega (arith, len, count, s, e);
    }

-- at the end, the bytes are all that the reader had
pub all_given : (most : ℕ) (a b c : Option (List ℕ)) (bytes : List ℕ) (reads : ℕ) → HasRead most a b bytes reads
    → Consumes b c [] → IsAtEnd c → IfSome a (λ all. bytes ≡ all)
all_given most None b c bytes reads h read end = tt
all_given most (Some all) None c bytes reads h read end = absurd h.consumed
all_given most (Some all) (Some b) None bytes reads h read end = absurd read
all_given most (Some all) (Some b) (Some c) bytes reads h read end =
    sym (h.consumed ∙ ap (λ t. bytes ++ t) (read ∙ end) ∙ append-nil bytes)

-- the reader had at least one byte for each read
pub had_as_many : (most : ℕ) (a b : Option (List ℕ)) (bytes : List ℕ) (reads n : ℕ) → HasRead most a b bytes reads → n ≤ reads
    → IfSome a (λ all. n ≤ length all)
had_as_many most None b bytes reads n h below = tt
had_as_many most (Some all) None bytes reads n h below = absurd h.consumed
had_as_many most (Some all) (Some b) bytes reads n h below =
    let len = ap length h.consumed ∙ length-append bytes b in
    let l = h.least in
    omega (arith, len, l, below)
