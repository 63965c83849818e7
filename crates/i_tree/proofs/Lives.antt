-- Lifetimes that end within those of the parts end within those that calls ask of entries, insertions and layouts.
use Rattle.std.proofs.Common.{ℕ, List, [], ◌++◌}
use contract.BorrowLft.{◌⊑◌, ⊑_meet, ⊑_static}

abbrev pub entry_lives : List ℕ → List ℕ → List ℕ
entry_lives k v = (k ++ (v ++ [])) ++ (k ++ (v ++ []))

pub within_entry : (κ k v : List ℕ) → κ ⊑ k → κ ⊑ v → κ ⊑ entry_lives k v
within_entry κ k v hk hv =
    let one : κ ⊑ (k ++ (v ++ [])) = ⊑_meet κ k (v ++ []) hk (⊑_meet κ v [] hv (⊑_static κ)) in
    ⊑_meet κ (k ++ (v ++ [])) (k ++ (v ++ [])) one one

abbrev pub unplaced_lives : List ℕ → List ℕ → List ℕ
unplaced_lives k v = (entry_lives k v ++ []) ++ (entry_lives k v ++ [])

pub within_unplaced : (κ k v : List ℕ) → κ ⊑ k → κ ⊑ v → κ ⊑ unplaced_lives k v
within_unplaced κ k v hk hv =
    let one : κ ⊑ (entry_lives k v ++ []) = ⊑_meet κ (entry_lives k v) [] (within_entry κ k v hk hv) (⊑_static κ) in
    ⊑_meet κ (entry_lives k v ++ []) (entry_lives k v ++ []) one one

abbrev pub entity_lives : List ℕ → List ℕ
entity_lives v = (v ++ []) ++ (v ++ [])

pub within_entity : (κ v : List ℕ) → κ ⊑ v → κ ⊑ entity_lives v
within_entity κ v h =
    let one : κ ⊑ (v ++ []) = ⊑_meet κ v [] h (⊑_static κ) in
    ⊑_meet κ (v ++ []) (v ++ []) one one

abbrev pub layout_lives : List ℕ → List ℕ → List ℕ
layout_lives r u = (r ++ (u ++ [])) ++ (r ++ (r ++ []))

pub within_layout : (κ r u : List ℕ) → κ ⊑ r → κ ⊑ u → κ ⊑ layout_lives r u
within_layout κ r u hr hu =
    ⊑_meet κ (r ++ (u ++ [])) (r ++ (r ++ [])) (⊑_meet κ r (u ++ []) hr (⊑_meet κ u [] hu (⊑_static κ))) (⊑_meet κ r (r ++ []) hr (⊑_meet κ r [] hr (⊑_static κ)))
