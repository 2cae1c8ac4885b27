-- An index of entries by their names. Private contracts alone cite this.
use Rattle.std.specs.Prelude.{◌≡◌, ℕ, zero, suc, ◌+◌, ◌*◌, ◌/◌, ◌%◌, ◌<◌, List, [], ◌∷◌, ◌++◌, length, get_or, cond, eqb}
use Rattle.std.specs.Str.{bytes_eq}
use Rattle.tla_scopes.specs.declared.arena.Entry.{Entry}
use Rattle.tla_scopes.specs.declared.entries.Node.{Node}
use Rattle.tla_scopes.specs.Places.{Name}

-- a hash of a name, with one byte more
abbrev pub mixed : ℕ → ℕ → ℕ
mixed h b = (h * 31 + b) % 65521

abbrev pub hash_from : ℕ → Name → ℕ
hash_from h [] = h
hash_from h (b ∷ bs) = hash_from (mixed h b) bs

unfoldable pub hash_of : Name → ℕ
hash_of x = hash_from 0 x

-- the first of n bits in which two numbers differ, or n
unfoldable pub apart : ℕ → ℕ → ℕ → ℕ
apart zero g h = 0
apart (suc n) g h = cond (eqb (g % 2) (h % 2)) (apart n (g / 2) (h / 2) + 1) 0

unfoldable pub slot_of : ℕ → ℕ → ℕ
slot_of g h = apart 16 g h

-- where a scope has a name: the scope of the nearest entry of it, or 0
abbrev pub Found : Type 0
Found = Name → ℕ

abbrev pub nowhere : Found
nowhere x = 0

abbrev pub found_of : List Found → ℕ → Found
found_of ρs s = get_or ρs s nowhere

abbrev pub entry_found : List Found → Entry → Found
entry_found ρs e x = cond (bytes_eq e.name.now x) (length ρs) (found_of ρs e.rest x)

abbrev pub found_behind : List Found → List Entry → List Found
found_behind ρs [] = ρs
found_behind ρs (e ∷ es) = found_behind (ρs ++ entry_found ρs e ∷ []) es

unfoldable pub found_at : List Entry → ℕ → Found
found_at es s = found_of (found_behind (nowhere ∷ []) es) s

-- the scope in which a name is looked up after a node with another name
abbrev pub jump_for : Node → Name → ℕ
jump_for n x = get_or n.jumps (slot_of n.hash (hash_of x)) 0

-- A node whose scope has this number. A name that isn't the node's own is found from where it jumps.
pub record IsNode (at : ℕ → Found) (scope : ℕ) (n : Node) : Type 0 where
  pub rest : n.entry.rest < scope
  pub hash : n.hash ≡ hash_of n.entry.name.now
  pub below : (b : ℕ) → get_or n.jumps b 0 < scope
  pub same : (x : Name) → at n.entry.rest x ≡ at (jump_for n x) x

abbrev pub AreNodes : List Found → List Node → Type 0
AreNodes ρs [] = Unit {0}
AreNodes ρs (n ∷ ns) = IsNode (found_of ρs) (length ρs) n × AreNodes (ρs ++ entry_found ρs n.entry ∷ []) ns

pub record AreIndexed (ns : List Node) : Type 0 where
  pub indexed : AreNodes (nowhere ∷ []) ns
