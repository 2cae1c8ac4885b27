-- Counted writes one after another are one counted write of their bytes together.
use Rattle.std.specs.Prelude.{◌≡◌, ℕ, ◌+◌, ◌^◌, ◌<◌, List, [], ◌++◌, length, take, Option, Some, None, Result, Ok, Err, refl}
use Rattle.std.specs.Result.{IsErrAnd}
use Rattle.std.proofs.Common.{append_assoc, append-nil, length-append, sym, ◌∙◌, arith}
use Rattle.std.specs.Io.KnownBytes.{Appends}
use Rattle.std.proofs.Math.Seq.{take-append-add, take-length}
use Rattle.std.proofs.lemmas.List.{take-append-le}
use Rattle.counted_writer.specs.declared.ShortWrite.{ShortWrite}
use Rattle.counted_writer.specs.Puts.{Puts, AddsFirst}

-- bytes added in two steps are added together
pub appends_then : (a b c : Option (List ℕ)) (xs ys : List ℕ) → Appends a b xs → Appends b c ys → Appends a c (xs ++ ys)
appends_then None b c xs ys p q = tt
appends_then (Some a) None c xs ys p q = absurd p
appends_then (Some a) (Some b) None xs ys p q = absurd q
appends_then (Some a) (Some b) (Some c) xs ys p q = q ∙ rw p (append_assoc a xs ys)

-- a writer that didn't change had [] added
pub appends_nothing : (a : Option (List ℕ)) → Appends a a []
appends_nothing None = tt
appends_nothing (Some a) = sym (append-nil a)

-- at `Ok` all the bytes were added
pub puts_all : {a b : Option (List ℕ)} {before after : ℕ} {xs : List ℕ} → Puts a b before xs (Ok after) → Appends a b xs
puts_all {a} {b} {before} {after} {xs} p = rw (p.ends, take-length xs) at p.added

-- writing no byte
pub puts_nothing : {a : Option (List ℕ)} {before : ℕ} → before < 2 ^ 64 → Puts a a before [] (Ok before)
puts_nothing {a} {before} fits = record { taken = 0; ends = refl; added = appends_nothing a; counted = omega arith }

-- a second write after a first that succeeded
pub puts_then : {a b c : Option (List ℕ)} {before middle : ℕ} {xs ys : List ℕ} {r : Result ℕ ShortWrite}
    → Puts a b before xs (Ok middle) → Puts b c middle ys r → Puts a c before (xs ++ ys) r
puts_then {a} {b} {c} {before} {middle} {xs} {ys} {r = Ok after} p q = record {
  taken = length xs + q.taken;
  ends = omega (arith, length-append xs ys);
  added = rw (take-append-add xs ys q.taken) (appends_then a b c xs (take q.taken ys) (puts_all p) q.added);
  counted = omega arith;
}
puts_then {a} {b} {c} {before} {middle} {xs} {ys} {r = Err fault} p q = record {
  taken = length xs + q.taken;
  ends = omega (arith, length-append xs ys);
  added = rw (take-append-add xs ys q.taken) (appends_then a b c xs (take q.taken ys) (puts_all p) q.added);
  counted = omega arith;
}

-- no second write after a first that failed
pub puts_short : {a b : Option (List ℕ)} {before : ℕ} {xs : List ℕ} {fault : ShortWrite} (ys : List ℕ)
    → Puts a b before xs (Err fault) → Puts a b before (xs ++ ys) (Err fault)
puts_short {a} {b} {before} {xs} {fault} ys p = record {
  taken = p.taken;
  ends = omega (arith, length-append xs ys);
  added = rw (take-append-le p.taken xs ys (omega arith)) p.added;
  counted = p.counted;
}

-- the early return of a `?`
pub puts_exit : {a b : Option (List ℕ)} {before : ℕ} {xs : List ℕ} (r : Result ℕ ShortWrite) (fault : ShortWrite)
    → IsErrAnd r (λ e. e ≡ fault) → Puts a b before xs (Err fault) → Puts a b before xs r
puts_exit (Ok after) fault is p = absurd is
puts_exit {a} {b} {before} {xs} (Err e) fault is p = rw is p

-- a count that began at 0
pub adds_first : {a b : Option (List ℕ)} {xs : List ℕ} {fault : ShortWrite} → Puts a b 0 xs (Err fault) → AddsFirst a b xs fault.written
adds_first p = record { taken = p.taken; short = p.ends; added = p.added; counted = omega arith }
