-- Lines whose texts are written in several calls.
use Rattle.std.proofs.Common.{◌≡◌, ℕ, List, [], ◌++◌, append_assoc, append-nil}

pub refusal_joins : (source refused code place end feed : List ℕ)
    → (source ++ (refused ++ (code ++ (place ++ (end ++ []))))) ++ feed ≡ ((source ++ (refused ++ (code ++ []))) ++ place) ++ (end ++ feed)
refusal_joins source refused code place end feed = simp (append_assoc, append-nil)

pub fault_joins : (fault code site end : List ℕ)
    → (fault ++ (code ++ (site ++ []))) ++ end ≡ ((fault ++ (code ++ [])) ++ site) ++ end
fault_joins fault code site end = simp (append_assoc, append-nil)
