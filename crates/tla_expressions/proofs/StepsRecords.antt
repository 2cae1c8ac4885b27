-- The depth of one field, step or update more.
use Rattle.std.proofs.Common.{◌≡◌, max, List, [], ◌∷◌, ◌++◌, arith}
use Rattle.tla_tree.specs.Tree.{Entry, Key, Change, fields, keys, updates}
use Rattle.tla_grammar.specs.Edges.{depth, fields_depth, key_depth, keys_depth, updates_depth}

pub fields_depth_snoc : (front : List Entry) (e : Entry) → fields_depth (fields (front ++ e ∷ [])) ≡ max (fields_depth (fields front)) (depth e.1)
fields_depth_snoc [] e = grind arith
fields_depth_snoc (f ∷ front) e = let h = fields_depth_snoc front e in grind (arith, h)

pub keys_depth_snoc : (front : List Key) (k : Key) → keys_depth (keys (front ++ k ∷ [])) ≡ max (keys_depth (keys front)) (key_depth k)
keys_depth_snoc [] k = grind arith
keys_depth_snoc (f ∷ front) k = let h = keys_depth_snoc front k in grind (arith, h)

pub updates_depth_snoc : (front : List Change) (c : Change) → updates_depth (updates (front ++ c ∷ [])) ≡ max (updates_depth (updates front)) (max (keys_depth c.0) (depth c.1))
updates_depth_snoc [] c = grind arith
updates_depth_snoc (f ∷ front) c = let h = updates_depth_snoc front c in grind (arith, h)
