-- Slices of a text.
use Rattle.std.proofs.Common.{◌≡◌, ◌<◌, ℕ, ◌+◌, ◌-◌, true, nat_eq, codes, List, ◌∷◌, take, drop, length, arith, length-drop, sym, ap, ◌∙◌}
use Rattle.std.specs.List.{prefix_len, starts_with}
use Rattle.std.proofs.lemmas.List.{take_all, drop-drop}
use Rattle.std.proofs.lemmas.Grind.{common_steps}
use Rattle.tla_lex.specs.Bytes.{is_equal_sign}

pub rest_slice : (text : List ℕ) (here : ℕ) → take (length text - here) (drop here text) ≡ drop here text
rest_slice text here = let l = length-drop here text in take_all (length text - here) (drop here text) (omega (arith, l))

pub drop_step : (text : List ℕ) (at b : ℕ) (rest : List ℕ) → b ∷ rest ≡ drop at text → drop (at + 1) text ≡ rest
drop_step text at b rest h = sym (drop-drop 1 at text) ∙ sym (ap (λ xs. drop 1 xs) h)

pub equal_signs : (b : ℕ) (rest : List ℕ) → starts_with nat_eq (b ∷ rest) (codes "====") ≡ true → 0 < prefix_len is_equal_sign (b ∷ rest)
equal_signs b rest h = grind (arith, common_steps)
